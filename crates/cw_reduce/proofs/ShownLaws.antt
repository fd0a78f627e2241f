-- What the trees of translations show, each token once and in order, and how they are read: from text they end in text,
-- and so does each inner text in them. The texts that end began with fine scraps.
use Rattle.cw_rules.specs.declared.tokens.Directive.{Directive}
use Rattle.cw_reduce.proofs.Terms.{Bool, false, not, is_some, list_all, both, Cat, SectionScrap, MathMode, Code, NameId}
use Rattle.cw_reduce.proofs.Terms.{continues_name, struck, productions-sound, code_form, word_form, list_if, InnersRead}
use Rattle.cw_reduce.proofs.Terms.{zero, get_or_past, All-map, cases_lt, Dead, ReadsInText, Row}
use Rattle.cw_rules.specs.declared.tokens.TokKind.TheVariants as kind
use Rattle.cw_table.specs.Normal.{normal, Place, Nowhere, At, next_place, steps, weight}
use Rattle.cw_table.specs.Productions.{productions}
use Rattle.cw_table.specs.SourceNumbers.{numbers_of}
use Rattle.cw_table.proofs.NumberLaws.{numbers-append, normal-numbers}
use Rattle.cw_trees.specs.Tree.{Sub, Search, search_leaf, first_ident, reserve_first, Leaf as TreeLeaf}
use Rattle.cw_table.specs.declared.types.Piece.{Piece as RowPiece}
use Rattle.cw_table.specs.declared.types.Piece.TheVariants as piece
use Rattle.cw_table.proofs.Normals.{steps-none, steps-turn}
use Rattle.cw_scraps.proofs.Keeping.{keeps-all, keeps-modes}
use Rattle.cw_translator.proofs.CommentLaws.{comment-agrees}
use Rattle.cw_table.specs.Rewriting.{rewrite, math_piece, joined_of, rewrite_from}
use Rattle.cw_translator.specs.Translating.{Made, beside, end_of, form_made, token_made, group_made, made, plain_text}
use Rattle.cw_translator.specs.Translating.{texts_made, texts_named, no_name, leaf_of_name}
use Rattle.cw_translator.proofs.Terms.{◌≡◌, ℕ, true, Option, Some, None, List, [], ◌∷◌, ◌++◌, refl, ◌∙◌, ap, append-nil}
use Rattle.cw_translator.proofs.Terms.{Flags, Maybe, Answer, Seen, TokKind, Entry, Tree, Scrap, whole, is_fine, tree_in}
use Rattle.cw_translator.proofs.Terms.{LeafForm, token_form, Then, Sign, Empty, leaf_scrap, CommentItem, Piece}
use Rattle.cw_translator.proofs.Terms.{InnerText, comment_rest, comment_tree, Known, state_in, end_from, append_assoc}
use Rattle.cw_translator.proofs.Terms.{suc, get_or, map, take, drop, All, All-head, All-tail, inl, inr, length, Text}
use Rattle.cw_translator.proofs.Terms.{Inner, scrap_agrees, State, arith, All-append, reads, names_with, comment_scrap}
use Rattle.cw_translator.proofs.Terms.{with_names}
use Rattle.cw_trees.specs.Joining.{dollar_before, scrap_in_text, blank_and_whole, no_scrap, JoinPiece, Whole, Mark}
use Rattle.cw_trees.specs.Joining.{needs, after, toggled, joined_tree, Agrees}
use Rattle.cw_table.proofs.ScrapFacts.{all-append}
use Rattle.cw_reduce.specs.Visible.{is_shown, is_shown_code, is_comment, shown_token, shown_in}
use Rattle.cw_lex.specs.Nest.{Nest, End, Leaf, Group, is_text_kind, IsGroupOf, IsWell, nest}

-- what no production joins
struck-dollar : (mode : MathMode) (tree : Tree) → struck (dollar_before mode tree) ≡ struck tree
struck-dollar mode tree = grind arith

struck-in-text : (scrap : Scrap) (rest : Tree) → struck (scrap_in_text scrap rest) ≡ struck scrap.tree ++ struck rest
struck-in-text scrap rest = grind (arith, struck-dollar, struck)

struck-blank : (scraps : List Scrap) → struck (blank_and_whole scraps) ≡ numbers_of scraps
struck-blank [] = refl
struck-blank (scrap ∷ scraps) = grind (arith, struck-blank scraps, struck-in-text, struck)

struck-whole : (scraps : List Scrap) → struck (whole scraps) ≡ numbers_of scraps
struck-whole scraps = grind (arith, struck-blank)

pub struck-end : (flags : Flags) (scraps : List Scrap) (known : Known) → list_all is_fine scraps ≡ true
    → struck (end_from flags (state_in scraps known) known).tree ≡ numbers_of scraps
struck-end flags scraps known fine = grind (arith, struck-whole, state_in, normal-numbers, productions-sound)

-- the scrap of a token
abbrev pub form_numbers : Option LeafForm → List ℕ
form_numbers None = []
form_numbers (Some form) = struck (tree_in [] form.tokens)

abbrev pub fine_form : Option LeafForm → Bool
fine_form None = true
fine_form (Some form) = is_fine (leaf_scrap form)

abbrev pub FormReads : Option LeafForm → Type 0
FormReads None = Unit {0}
FormReads (Some form) = InnersRead (tree_in [] form.tokens)

pub record IsShownForm (is_shown_here : Bool) (n : ℕ) (o : Option LeafForm) : Type 0 where
  pub numbers : form_numbers o ≡ list_if is_shown_here (n ∷ [])
  pub fine : fine_form o ≡ true
  pub inners : FormReads o

word-shown : (c : Cat) (name : NameId) (n : ℕ) → IsShownForm true n (Some (word_form c name n))
word-shown c name n = grind arith

code-shown : (c : Code) (n : ℕ) → IsShownForm (is_shown_code c) n (code_form c n)
code-shown c n = grind arith

pub token-shown : (k : TokKind) (text : List ℕ) (hash_line : Bool) (d : Directive) (n : ℕ) (names : List Entry)
    → is_text_kind k ≡ false → IsShownForm (is_shown k) n (token_form k text hash_line d n names)
token-shown k text hash_line d n names h = grind (arith, word-shown, code-shown)

abbrev pub item_numbers : List CommentItem → List ℕ
item_numbers [] = []
item_numbers (Piece n ∷ items) = n ∷ item_numbers items
item_numbers (InnerText tree ∷ items) = struck tree ++ item_numbers items

continues-comment : (items : List CommentItem) → continues_name (comment_rest items) ≡ false
continues-comment (Piece n ∷ items) = refl
continues-comment _ = refl

struck-rest : (items : List CommentItem) → struck (comment_rest items) ≡ item_numbers items
struck-rest [] = refl
struck-rest (Piece n ∷ items) = ap (λ ns. n ∷ ns) (struck-rest items)
struck-rest (InnerText tree ∷ items) = grind (arith, struck-rest items, struck, comment_rest, continues-comment)

items-append : (items more : List CommentItem) → item_numbers (items ++ more) ≡ item_numbers items ++ item_numbers more
items-append [] more = refl
items-append (Piece n ∷ items) more = ap (λ ns. n ∷ ns) (items-append items more)
items-append (InnerText tree ∷ items) more = grind (arith, items-append items more, append_assoc, struck)

abbrev pub inners_of : Scrap → Type 0
inners_of scrap = InnersRead scrap.tree

then-inners : (s : Search) (leaf : TreeLeaf) (rest : Tree) → search_leaf leaf ≡ s → InnersRead rest
    → InnersRead (reserve_first rest) → InnersRead (reserve_first (Then leaf rest))
then-inners s leaf rest e h r = grind arith

sub-inners : (s : Search) (tree rest : Tree) → first_ident tree ≡ s → InnersRead (Sub tree rest)
    → InnersRead (reserve_first tree) → InnersRead (reserve_first rest) → InnersRead (reserve_first (Sub tree rest))
sub-inners s tree rest e h t r = grind arith

reserve-inners : (t : Tree) → InnersRead t → InnersRead (reserve_first t)
reserve-inners Empty h = h
reserve-inners (Then leaf rest) h = then-inners (search_leaf leaf) leaf rest refl h (reserve-inners rest h)
reserve-inners (Sub tree rest) h = grind (arith, reserve-inners tree h.0, reserve-inners rest h.1, sub-inners)
reserve-inners (Inner tree rest) h = (h.0, h.1, reserve-inners rest h.2)

toggled-inners : (m l : MathMode) (tree : Tree) → InnersRead tree → InnersRead (toggled m l tree)
toggled-inners m l tree h = grind arith

abbrev piece_inners : JoinPiece → Type 0
piece_inners (Whole tree left right) = InnersRead tree
piece_inners (Mark control) = Unit {0}

joined-inners : (m : MathMode) (js : List JoinPiece) → All piece_inners js → InnersRead (joined_tree m js)
joined-inners m [] all = tt
joined-inners m (Whole tree l r ∷ js) all = toggled-inners m l (Sub tree (joined_tree (after m l r) js)) (
  All-head piece_inners (Whole tree l r) js all,
  joined-inners (after m l r) js (All-tail piece_inners (Whole tree l r) js all),
)
joined-inners m (Mark c ∷ js) all = toggled-inners m (needs c) (Then (Sign c) (joined_tree (after m (needs c) (needs c))
    js)) (joined-inners (after m (needs c) (needs c)) js (All-tail piece_inners (Mark c) js all))

math-inners : (tree : Tree) (l r : MathMode) → InnersRead tree → piece_inners (math_piece tree l r)
math-inners tree Maybe Maybe h = h
math-inners tree _ _ h = h

at-inners : (scraps : List Scrap) (k : ℕ) → All inners_of scraps → inners_of (get_or scraps k no_scrap)
at-inners scraps k all = elim (cases_lt k (length scraps)) [
  | inl h ↦ all k no_scrap h
  | inr h ↦ rw (get_or_past scraps k no_scrap h) tt
]

inners-piece : (scraps : List Scrap) (p : RowPiece) → All inners_of scraps → piece_inners (joined_of scraps p)
inners-piece scraps (piece.Scrap k) all = at-inners scraps k all
inners-piece scraps (piece.MathScrap k) all = math-inners (get_or scraps k no_scrap).tree
    (get_or scraps k no_scrap).left (get_or scraps k no_scrap).right (at-inners scraps k all)
inners-piece scraps _ all = tt

keeps-inners : (flags : Flags) (row : Row) (place : ℕ) (scraps : List Scrap) → All inners_of scraps
    → All inners_of (take place scraps ++ rewrite_from flags row (drop place scraps))
keeps-inners flags row place scraps all = keeps-all inners_of tt (λ s h. reserve-inners s.tree h) (λ cat s h. h)
    (λ cat ss pieces h. joined-inners Maybe (map (joined_of ss) pieces) (All-map piece_inners (joined_of ss) pieces
    (λ k d lt. inners-piece ss (get_or pieces k d) h))) flags row place scraps all

pub record AreRead (scraps : List Scrap) : Type 0 where
  pub modes : All scrap_agrees scraps
  pub inners : All inners_of scraps

steps-read : (rows : List Row) (flags : Flags) (n : ℕ) (st : State) → AreRead st.scraps
    → AreRead (steps rows flags n st).scraps
steps-read rows flags zero st are = are
steps-read rows flags (suc n) st are = go (next_place rows st) refl (λ s. steps-read rows flags n s)
  where
    go : (p : Place) → next_place rows st ≡ p → ((s : State) → AreRead s.scraps → AreRead (steps rows flags n s).scraps)
        → AreRead (steps rows flags (suc n) st).scraps
    go Nowhere e rec = rw (steps-none rows flags (suc n) st e) are
    go (At i r) e rec = rw (steps-turn rows flags n i r st e) (rec (rewrite flags r i st) (record {
      modes = keeps-modes flags r i st.scraps are.modes;
      inners = keeps-inners flags r i st.scraps are.inners;
    }))

pub normal-read : (rows : List Row) (flags : Flags) (st : State) → AreRead st.scraps
    → AreRead (normal rows flags st).scraps
unfolding normal
normal-read rows flags st are = steps-read rows flags (weight st.scraps) st are

-- what no production joins
toggles : (tree rest : Tree) (left right : MathMode) → Agrees tree left right
    → reads (dollar_before left (Sub tree (dollar_before right rest))) Text ≡ reads rest Text
toggles tree rest left right h = grind (arith, reads)

blank-reads : (scraps : List Scrap) → All scrap_agrees scraps → reads (blank_and_whole scraps) Text ≡ Some Text
blank-reads [] all = refl
blank-reads (s ∷ scraps) all = toggles s.tree (blank_and_whole scraps) s.left s.right
    (All-head scrap_agrees s scraps all) ∙ blank-reads scraps (All-tail scrap_agrees s scraps all)

whole-reads : (scraps : List Scrap) → All scrap_agrees scraps → reads (whole scraps) Text ≡ Some Text
whole-reads [] all = refl
whole-reads (s ∷ scraps) all = blank-reads (s ∷ scraps) all

dollar-inners : (mode : MathMode) (tree : Tree) → InnersRead tree → InnersRead (dollar_before mode tree)
dollar-inners mode tree h = grind arith

blank-inners : (scraps : List Scrap) → All inners_of scraps → InnersRead (blank_and_whole scraps)
blank-inners [] all = tt
blank-inners (s ∷ scraps) all = dollar-inners s.left (Sub s.tree (dollar_before s.right (blank_and_whole scraps))) (
  All-head inners_of s scraps all,
  dollar-inners s.right (blank_and_whole scraps) (blank-inners scraps (All-tail inners_of s scraps all)),
)

whole-inners : (scraps : List Scrap) → All inners_of scraps → InnersRead (whole scraps)
whole-inners [] all = tt
whole-inners (s ∷ scraps) all = blank-inners (s ∷ scraps) all

-- what is made
abbrev pub ItemReads : CommentItem → Type 0
ItemReads (Piece number) = Unit {0}
ItemReads (InnerText tree) = ReadsInText tree

abbrev pub fine_state : State → Bool
fine_state state = list_all is_fine state.scraps

-- the texts that have ended began with fine scraps
abbrev pub IsFineKnown : Known → Type 0
IsFineKnown known = list_all fine_state known.ended ≡ true

pub record IsSoundMade (m : Made) : Type 0 where
  pub scraps : AreRead m.scraps
  pub items : All ItemReads m.items
  pub fine : list_all is_fine m.scraps ≡ true
  pub known : IsFineKnown m.known

none-all : {A : Type 0} (P : A → Type 0) → All P []
none-all P = λ i d h. absurd (omega arith)

pub none-read : AreRead []
none-read = record { modes = none-all scrap_agrees; inners = none-all inners_of }

pub reads-nothing : (known : Known) → IsFineKnown known
    → IsSoundMade (record { scraps = []; items = []; known = known })
reads-nothing known f = record { scraps = none-read; items = none-all ItemReads; fine = refl; known = f }

pub reads-scrap : (s : Scrap) (known : Known) → scrap_agrees s → InnersRead s.tree → is_fine s ≡ true
    → IsFineKnown known → IsSoundMade (record { scraps = s ∷ []; items = []; known = known })
reads-scrap s known a i fine f = grind (arith, scrap_agrees, none-all, both, is_fine)

pub reads-beside : (a b : Made) → IsSoundMade a → IsSoundMade b → IsSoundMade (beside a b)
reads-beside a b f g = record {
  scraps = record {
    modes = All-append scrap_agrees a.scraps b.scraps f.scraps.modes g.scraps.modes;
    inners = All-append inners_of a.scraps b.scraps f.scraps.inners g.scraps.inners;
  };
  items = All-append ItemReads a.items b.items f.items g.items;
  fine = all-append is_fine a.scraps b.scraps f.fine g.fine;
  known = g.known;
}

pub reads-end : (flags : Flags) (m : Made) → IsSoundMade m → ReadsInText (end_of flags m).tree
reads-end flags m f =
    let done = normal-read productions flags (state_in m.scraps m.known) f.scraps in
    record {
      whole = whole-reads (normal productions flags (state_in m.scraps m.known)).scraps done.modes;
      inner = whole-inners (normal productions flags (state_in m.scraps m.known)).scraps done.inners;
    }

pub fine-end : (flags : Flags) (m : Made) → IsSoundMade m → IsFineKnown (end_of flags m).known
fine-end flags m f = grind (arith, all-append, state_in, both)

abbrev NamesRead : (ℕ → Known → Made) → Type 0
NamesRead name = (number : ℕ) (known : Known) → IsFineKnown known → IsSoundMade (name number known)

reads-token : (name : ℕ → Known → Made) → NamesRead name → (k : TokKind) (token : Seen) (known : Known)
    → IsFineKnown known → IsSoundMade (token_made name k token known)
reads-token name names k token known f = grind arith

-- a comment and an inner text
rest-inners : (items : List CommentItem) → All ItemReads items → InnersRead (comment_rest items)
rest-inners [] all = tt
rest-inners (Piece number ∷ items) all = rest-inners items (All-tail ItemReads (Piece number) items all)
rest-inners (InnerText tree ∷ items) all =
    let f : ReadsInText tree = All-head ItemReads (InnerText tree) items all in
    (f.whole, f.inner, rest-inners items (All-tail ItemReads (InnerText tree) items all))

reads-group : (flags : Flags) (k : TokKind) (token : Seen) (m : Made) → IsSoundMade m
    → IsSoundMade (group_made flags k token m)
reads-group flags kind.InnerText token m f = grind (arith, reads-end flags m f, none-all ItemReads, fine-end flags m f)
reads-group flags k token m f = reads-scrap (comment_scrap token.span.start m.items) m.known
    (comment-agrees token.span.start m.items) (rest-inners m.items f.items) refl f.known

pub reads-made : (flags : Flags) (name : ℕ → Known → Made) → NamesRead name → (n : Nest) (known : Known)
    → IsFineKnown known → IsSoundMade (made flags name n known)
reads-made flags name names End known f = reads-nothing known f
reads-made flags name names (Leaf token rest) known f =
    let first = token_made name token.kind token known in
    let g = reads-token name names token.kind token known f in
    reads-beside first (made flags name rest first.known) g (reads-made flags name names rest first.known g.known)
reads-made flags name names (Group token inner rest) known f =
    let first = group_made flags token.kind token (made flags name inner known) in
    let g = reads-group flags token.kind token (made flags name inner known)
    (reads-made flags name names inner known f) in
    reads-beside first (made flags name rest first.known) g (reads-made flags name names rest first.known g.known)

-- section names
texts-read : (flags : Flags) (texts : List (List Answer)) (behind : Tree) (known : Known) (mode : MathMode)
    → reads (texts_made flags texts behind known).tree mode ≡ reads behind mode
texts-read flags [] behind known mode = refl
texts-read flags (text ∷ texts) behind known mode = texts-read flags texts behind (plain_text flags text known).known
    mode

texts-sound : (flags : Flags) (texts : List (List Answer)) (behind : Tree) (known : Known) → InnersRead behind
    → IsFineKnown known → InnersRead (texts_made flags texts behind known).tree
    × IsFineKnown (texts_made flags texts behind known).known
texts-sound flags [] behind known h f = (h, f)
texts-sound flags (text ∷ texts) behind known h f =
    let m = reads-made flags no_name (λ number k g. reads-nothing k g) (nest text) known f in
    let t = reads-end flags (made flags no_name (nest text) known) m in
    let more = texts-sound flags texts behind (plain_text flags text known).known h
    (fine-end flags (made flags no_name (nest text) known) m) in
    ((t.whole, t.inner, more.0), more.1)

-- the name of a C part, with what stands behind it
pub reads-headed-name : (flags : Flags) (o : Option (List (List Answer))) (behind : Tree) (number : ℕ) (known : Known)
    → reads behind Text ≡ Some Text → InnersRead behind → IsFineKnown known
    → IsSoundMade (texts_named flags o Dead Text behind number known)
reads-headed-name flags o behind number known r i f =
    grind (arith, reads-nothing, whole, texts-sound, reads-scrap, texts-read)

reads-name : (flags : Flags) (o : Option (List (List Answer))) (number : ℕ) (known : Known) → IsFineKnown known
    → IsSoundMade (texts_named flags o SectionScrap Maybe Empty number known)
reads-name flags o number known f = grind (arith, reads-nothing, texts-sound, reads-scrap, texts-read)

pub reads-leaf : (flags : Flags) (named : ℕ → Option (List (List Answer))) → NamesRead (leaf_of_name flags named)
reads-leaf flags named number known f = reads-name flags (named number) number known f

-- ## What is shown

-- What is made shows these numbers, where the text is that of a comment or C text.
abbrev pub Shows : Bool → Made → List ℕ → Type 0
Shows true m numbers = item_numbers m.items ≡ numbers
Shows false m numbers = numbers_of m.scraps ≡ numbers

abbrev pub ShowsNames : (ℕ → Bool) → (ℕ → Known → Made) → Type 0
ShowsNames is_named name = (number : ℕ) (known : Known)
    → Shows false (name number known) (list_if (is_named number) (number ∷ []))

pub shows-beside : (comment : Bool) (a b : Made) (ns ms : List ℕ) → Shows comment a ns → Shows comment b ms
    → Shows comment (beside a b) (ns ++ ms)
shows-beside comment a b ns ms s t = grind (arith, items-append, numbers-append)

shows-form : (o : Option LeafForm) (known : Known) → Shows false (form_made o known) (form_numbers o)
shows-form o known = grind (arith, append-nil, struck, tree_in)

shows-token : (is_named : ℕ → Bool) (name : ℕ → Known → Made) (comment : Bool) (k : TokKind) (token : Seen)
    (known : Known) → ShowsNames is_named name → is_text_kind k ≡ comment
    → Shows comment (token_made name k token known) (shown_token is_named k token.span.start)
shows-token is_named name comment k token known s e =
    grind (arith, shows-form, token_form, with_names, names_with, token-shown)

shows-comment : (flags : Flags) (token : Seen) (m : Made) (ns : List ℕ) → Shows true m ns
    → Shows false (group_made flags kind.LongComment token m) (token.span.start ∷ ns)
shows-comment flags token m ns s = grind (arith, append-nil, struck, comment_tree, struck-rest)

shows-group : (flags : Flags) (comment : Bool) (k : TokKind) (token : Seen) (m : Made) (ns : List ℕ)
    → IsGroupOf comment k → list_all is_fine m.scraps ≡ true → Shows (not comment) m ns
    → Shows comment (group_made flags k token m) (list_if (is_comment k) (token.span.start ∷ []) ++ ns)
shows-group flags true kind.InnerText token m ns w fine s = grind (arith, append-nil, struck, struck-end)
shows-group flags false kind.LongComment token m ns w fine s = shows-comment flags token m ns s
shows-group flags false kind.ShortComment token m ns w fine s = shows-comment flags token m ns s
shows-group flags comment k token m ns w fine s = absurd w

pub shows-made : (flags : Flags) (is_named : ℕ → Bool) (name : ℕ → Known → Made) → ShowsNames is_named name
    → NamesRead name → (nest : Nest) (comment : Bool) (known : Known) → IsWell comment nest → IsFineKnown known
    → Shows comment (made flags name nest known) (shown_in is_named nest)
shows-made flags is_named name names reads End true known w f = refl
shows-made flags is_named name names reads End false known w f = refl
shows-made flags is_named name names reads (Leaf token rest) comment known w f =
    let first = token_made name token.kind token known in
    shows-beside comment first (made flags name rest first.known) (shown_token is_named token.kind token.span.start)
    (shown_in is_named rest) (shows-token is_named name comment token.kind token known names w.0) (shows-made flags
    is_named name names reads rest comment first.known w.1 (reads-token name reads token.kind token known f).known)
shows-made flags is_named name names reads (Group token inner rest) comment known w f =
    let within = made flags name inner known in
    let sound = reads-made flags name reads inner known f in
    let first = group_made flags token.kind token within in
    shows-beside comment first (made flags name rest first.known)
    (list_if (is_comment token.kind) (token.span.start ∷ []) ++ shown_in is_named inner) (shown_in is_named rest)
    (shows-group flags comment token.kind token within (shown_in is_named inner) w.0 sound.fine
    (shows-made flags is_named name names reads inner (not comment) known w.1 f)) (shows-made flags is_named name names
    reads rest comment first.known w.2 (reads-group flags token.kind token within sound).known)

-- Section names.
pub struck-parts : (flags : Flags) (parts : List (List Answer)) (rest : Tree) (known : Known)
    → struck (texts_made flags parts rest known).tree ≡ struck rest
struck-parts flags [] rest known = refl
struck-parts flags (part ∷ parts) rest known = struck-parts flags parts rest (plain_text flags part known).known

pub shows-name : (flags : Flags) (o : Option (List (List Answer))) (number : ℕ) (known : Known)
    → Shows false (texts_named flags o SectionScrap Maybe Empty number known) (list_if (is_some o) (number ∷ []))
shows-name flags o number known = grind (arith, struck-parts)
