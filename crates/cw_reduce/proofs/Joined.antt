-- A translation on its way comes to the translation that is defined over the nest, also with section names.
use Rattle.std.proofs.lemmas.Bool.Decides.{nat_tests}
use Rattle.std.proofs.lemmas.Grind.{common_steps}
use Rattle.std.specs.Prelude.{option_map}
use Rattle.std.specs.Option.{option_and_then}
use Rattle.cw_reduce.proofs.Terms.{◌≡◌, ℕ, Option, Some, None, List, [], ◌∷◌, refl, sym, ◌∙◌, ap, append-nil, Flags}
use Rattle.cw_reduce.proofs.Terms.{Answer, Token, Begin, Finish, Note, Seen, TokKind, Nest, End, leaf, group, nests}
use Rattle.cw_reduce.proofs.Terms.{Level, InCode, after_token as level_token, after_begin as level_begin}
use Rattle.cw_reduce.proofs.Terms.{after_finish as level_finish, levels_after, all_levels_after, Scrap, LeafForm}
use Rattle.cw_reduce.proofs.Terms.{token_form, names_with, Frame, CText, Comment, with_scrap, with_item, with_form}
use Rattle.cw_reduce.proofs.Terms.{Progress, after_answers, CommentItem, Piece, InnerText, comment_scrap, leaf_scrap}
use Rattle.cw_reduce.proofs.Terms.{Known, with_names, get_or, All-map, append_assoc, ◌++◌, map, arith, All, slice_get}
use Rattle.cw_reduce.proofs.Terms.{IfSome, All-head, All-tail, SectionScrap, Maybe, Span, tokens_of, inner_mode, nest}
use Rattle.cw_reduce.proofs.Terms.{IsNested, until_section, inner_parts, NameUse, name_at, SecKind, Tree, Empty, Then}
use Rattle.cw_reduce.proofs.Terms.{Sign, Holder, name_texts, parts_by_kind, held_answers, name_answers, text_answers}
use Rattle.cw_reduce.proofs.Terms.{text_token, texts_answers, token_answers, with_texts, all_ended, after-append}
use Rattle.cw_lex.proofs.Nests.{SameSize, some-levels, first-levels, nests-size, nests-nested}
use Rattle.cw_rules.specs.declared.codes.Code.TheVariants as code
use Rattle.cw_rules.specs.declared.tokens.TokKind.TheVariants as kind
use Rattle.cw_translator.specs.declared.holders.Holder.TheVariants as holder
use Rattle.cw_translator.specs.Reading.{ended_in, with_held, after_token, after_begin, after_finish}
use Rattle.cw_translator.specs.model.Reading.{extended, with_made}
use Rattle.cw_trees.specs.declared.Control.TheVariants as control
use Rattle.cw_translator.specs.Holders.{held_cat, held_mode, held_tree, name_rest, name_tree}
use Rattle.cw_secnames.specs.Kept.{SecName}
use Rattle.cw_translator.specs.Translating.{Made, nothing, one_item, beside, made_before, end_of, form_made, token_made}
use Rattle.cw_translator.specs.Translating.{group_made, made, no_name, plain_text, NameTexts, texts_made, texts_named}
use Rattle.cw_translator.specs.Translating.{leaf_of_name}
use Rattle.cw_lex.proofs.Nesting.{parts-nested as c-parts-nested}

abbrev pub level : Flags → (ℕ → Known → Made) → Nest → Progress → Progress
level flags name n a = with_made a.frames (made flags name n a.known)

abbrev pub closed : Flags → Progress → Progress
closed flags a = after_finish flags a.frames a.known

abbrev pub outer : Flags → (ℕ → Known → Made) → List Nest → Progress → Progress
outer flags name [] a = a
outer flags name (n ∷ ns) a = outer flags name ns (level flags name n (closed flags a))

abbrev pub run : Flags → (ℕ → Known → Made) → List Nest → Progress → Progress
run flags name [] a = a
run flags name (n ∷ ns) a = outer flags name ns (level flags name n a)

pub extended-nothing : (frames : List Frame) (known : Known) → extended (nothing known) frames ≡ frames
extended-nothing frames known = grind (arith, append-nil)

extended-beside : (a b : Made) (frames : List Frame) → extended (beside a b) frames ≡ extended b (extended a frames)
extended-beside a b frames = grind (arith, append_assoc)

extended-item : (item : CommentItem) (known : Known) (frames : List Frame) → with_item item frames
    ≡ extended (one_item item known) frames
extended-item item known frames = grind (arith, append-nil)

pub extended-scrap : (scrap : Scrap) (known : Known) (frames : List Frame) → with_scrap scrap frames
    ≡ extended (record { scraps = scrap ∷ []; items = []; known = known }) frames
extended-scrap scrap known frames = grind (arith, append-nil)

extended-form : (form : Option LeafForm) (known : Known) (frames : List Frame) → with_form form frames
    ≡ extended (form_made form known) frames
extended-form form known frames = grind (arith, extended-nothing, extended-scrap, leaf_scrap)

form-known : (form : Option LeafForm) (known : Known) → (form_made form known).known ≡ known
form-known form known = grind arith

pub level-before : (flags : Flags) (name : ℕ → Known → Made) (m : Made) (n : Nest) (frames : List Frame)
    → with_made frames (made_before m (made flags name n)) ≡ level flags name n (with_made frames m)
level-before flags name m n frames = rw (extended-beside m (made flags name n m.known) frames)

at-form : (form : Option LeafForm) (known : Known) (frames : List Frame)
    → record { frames = with_form form frames; known = known } ≡ with_made frames (form_made form known)
at-form form known frames = rw (extended-form form known frames, form-known form known)

pub step-token : (k : TokKind) (token : Seen) (a : Progress) → after_token k token a
    ≡ with_made a.frames (token_made no_name k token a.known)
step-token kind.Text token a = rw (extended-item (Piece token.span.start) a.known a.frames)
step-token (kind.Code code.SectionName) token a = rw (extended-nothing a.frames a.known)
step-token (kind.Code code.FileName) token a = rw (extended-nothing a.frames a.known)
step-token k token a = at-form (token_form k token.text token.hash_line token.directive token.span.start a.known.names)
    (with_names (names_with k token.text a.known.names) a.known) a.frames

-- A comment and an inner text.
level-comment : (flags : Flags) (name : ℕ → Known → Made) (token : Seen) (inner rest : Nest) (a : Progress)
    → level flags name rest (closed flags (level flags name inner (record
    { frames = Comment (holder.Comment token.span.start) [] ∷ a.frames; known = a.known }))) ≡ with_made a.frames
    (made_before (group_made flags kind.LongComment token (made flags name inner a.known)) (made flags name rest))
level-comment flags name token inner rest a =
    grind (arith, nat_tests, common_steps, extended-scrap, comment_scrap, level-before)

abbrev pub pushed : TokKind → ℕ → List Frame → List Frame
pushed kind.InnerText number frames = CText [] ∷ frames
pushed k number frames = Comment (holder.Comment number) [] ∷ frames

pub step-begin : (k : TokKind) (number : ℕ) (levels next : List Level) (a : Progress) → level_begin k levels ≡ Some next
    → after_begin k number a ≡ record { frames = pushed k number a.frames; known = a.known }
step-begin k number levels next a h = grind arith

level-begin : (flags : Flags) (name : ℕ → Known → Made) (k : TokKind) (token : Seen) (inner rest : Nest)
    (levels next : List Level) (a : Progress) → level_begin k levels ≡ Some next → level flags name rest
    (closed flags (level flags name inner (record { frames = pushed k token.span.start a.frames; known = a.known })))
    ≡ with_made a.frames (made_before (group_made flags k token (made flags name inner a.known)) (made flags name rest))
level-begin flags name k token inner rest levels next a h = grind (arith, extended-item, level-before, level-comment)

-- All answers.
abbrev pub IsTwo : List Level → Type 0
IsTwo (l ∷ m ∷ ls) = Unit {0}
IsTwo ls = ⊥

token-some : (k : TokKind) (levels : List Level) → level_token k levels ≡ Some [] → ⊥
token-some k levels h = grind arith

pub begin-two : (k : TokKind) (levels next : List Level) → level_begin k levels ≡ Some next → IsTwo next
begin-two k levels next h = grind (arith, some-levels)

finish-some : (levels : List Level) → level_finish levels ≡ Some [] → ⊥
finish-some levels h = grind arith

-- what an answer steps to
abbrev stepped : Flags → (ℕ → Known → Made) → Answer → Progress → Progress
stepped flags name (Token token) a = with_made a.frames (token_made name token.kind token a.known)
stepped flags name (Begin token) a = after_begin token.kind token.span.start a
stepped flags name (Finish token) a = closed flags a
stepped flags name (Note note place) a = a

module _ (flags : Flags) (name : ℕ → Known → Made) where
  run-leaf : (token : Seen) (ns : List Nest) (levels next : List Level) (a : Progress)
      → level_token token.kind levels ≡ Some next → SameSize ns next
      → run flags name ns (stepped flags name (Token token) a) ≡ run flags name (leaf token ns) a
  run-leaf token ns levels next a h s = grind (arith, token-some, level-before)

  run-end : (ns : List Nest) (levels next : List Level) (a : Progress) → level_finish levels ≡ Some next
      → SameSize ns next → run flags name ns (closed flags a) ≡ run flags name (End ∷ ns) a
  run-end ns levels next a h s = grind (arith, finish-some, extended-nothing)

  run-group : (token : Seen) (ns : List Nest) (levels next : List Level) (a : Progress)
      → level_begin token.kind levels ≡ Some next → IsTwo next → SameSize ns next → run flags name ns (record
      { frames = pushed token.kind token.span.start a.frames; known = a.known }) ≡ run flags name (group token ns) a
  run-group token ns levels next a h two s = grind (arith, level-begin)

  run-one : (answer : Answer) (answers : List Answer) (levels next : List Level) (a : Progress)
      → levels_after answer levels ≡ Some next → SameSize (nests answers) next
      → run flags name (nests answers) (stepped flags name answer a) ≡ run flags name (nests (answer ∷ answers)) a
  run-one answer answers levels next a h s =
      grind (arith, nat_tests, common_steps, run-leaf, nests, step-begin, run-group, begin-two, run-end)

  -- answers of which each steps so, with texts or without
  module _ (texts : List Answer → List Answer) (none : texts [] ≡ []) (one : (answer : Answer) (answers : List Answer)
      (a : Progress) → after_answers flags (texts (answer ∷ answers)) a
      ≡ after_answers flags (texts answers) (stepped flags name answer a)) where
    run-all : (answers : List Answer) (levels : List Level) (a : Progress) → all_levels_after answers levels
        ≡ Some (InCode ∷ []) → after_answers flags (texts answers) a ≡ run flags name (nests answers) a
    run-all [] levels a h = rw (none, extended-nothing a.frames a.known)
    run-all (answer ∷ answers) levels a h =
        let f = first-levels answer answers levels (levels_after answer levels) refl h in
        one answer answers a ∙ (run-all answers f.0 (stepped flags name answer a) f.1.1
        ∙ run-one answer answers levels f.0 a f.1.0 (nests-size answers f.0 f.1.1))

    run-nested : (answers : List Answer) (a : Progress) → IsNested answers
        → after_answers flags (texts answers) a ≡ level flags name (nest answers) a
    run-nested answers a h = grind (arith, run-all, nests-nested)

-- An inner text of a name.
plain-one : (flags : Flags) (answer : Answer) (answers : List Answer) (a : Progress)
    → after_answers flags (answer ∷ answers) a ≡ after_answers flags answers (stepped flags no_name answer a)
plain-one flags answer answers a = grind (arith, after_answers, step-token)

text-law : (flags : Flags) (text : List Answer) (p : Progress) → IsNested text
    → after_answers flags (text_answers text) p ≡ ended_in p.frames (plain_text flags text p.known)
text-law flags text p nested =
    let opened : Progress = record { frames = CText [] ∷ p.frames; known = p.known } in
    after-append flags text (Finish text_token ∷ []) opened
    ∙ ap (closed flags) (run-nested flags no_name (λ xs. xs) refl (plain-one flags) text opened nested)

-- The inner texts of a name, and the name that holds them.
abbrev pub text_items : Flags → List (List Answer) → Known → List CommentItem
text_items flags [] known = []
text_items flags (text ∷ texts) known = InnerText (plain_text flags text known).tree
    ∷ text_items flags texts (plain_text flags text known).known

items-tree : (flags : Flags) (texts : List (List Answer)) (behind : Tree) (known : Known) → name_rest (text_items flags
    texts known) behind ≡ (texts_made flags texts (Then (Sign control.NameEnd) behind) known).tree
items-tree flags [] behind known = refl
items-tree flags (text ∷ texts) behind known = rw (items-tree flags texts behind (plain_text flags text known).known)

texts-law : (flags : Flags) (texts : List (List Answer)) (held_by : Holder) (items : List CommentItem)
    (frames : List Frame) (behind : Tree) (known : Known) → All IsNested texts
    → after_answers flags (texts_answers texts) (record { frames = Comment held_by items ∷ frames; known = known })
    ≡ record {
      frames = Comment held_by (items ++ text_items flags texts known) ∷ frames;
      known = (texts_made flags texts behind known).known;
    }
texts-law flags [] held_by items frames behind known nested = grind (arith, append-nil)
texts-law flags (text ∷ texts) held_by items frames behind known nested =
    let p : Progress = record { frames = Comment held_by items ∷ frames; known = known } in
    let t = plain_text flags text known in
    rw (
      after-append flags (text_answers text) (texts_answers texts) p,
      text-law flags text p (All-head IsNested text texts nested),
      texts-law flags texts held_by (items ++ InnerText t.tree ∷ []) frames behind t.known
          (All-tail IsNested text texts nested),
      append_assoc items (InnerText t.tree ∷ []) (text_items flags texts t.known),
    )

pub name-law : (flags : Flags) (texts : List (List Answer)) (held_by : Holder) (number : ℕ) (behind : Tree)
    (p : Progress) → ((items : List CommentItem) → held_tree held_by items ≡ name_tree number behind items)
    → All IsNested texts → after_answers flags (held_answers texts) (with_held held_by p)
    ≡ with_made p.frames (texts_named flags (Some texts) (held_cat held_by) (held_mode held_by) behind number p.known)
name-law flags texts held_by number behind p is nested =
    grind (arith, after-append, texts_answers, text_token, texts-law, items-tree, extended-scrap)

-- A token.
abbrev pub AllNested : NameTexts → Type 0
AllNested named = (number : ℕ) → IfSome (named number) (All IsNested)

module _ (flags : Flags) (named : NameTexts) (nested : AllNested named) where
  abbrev name : ℕ → Known → Made
  name = leaf_of_name flags named

  -- as the step of a section name
  abbrev IsPassed : TokKind → Seen → Progress → Type 0
  IsPassed k token a = after_token k token a ≡ with_made a.frames (nothing a.known)

  abbrev IsHeld : TokKind → Seen → Progress → Type 0
  IsHeld k token a = after_begin k token.span.start a ≡ with_held (holder.Name token.span.start) a

  step-name : (o : Option (List (List Answer))) (token : Seen) (a : Progress) → IsPassed token.kind token a
      → IsHeld token.kind token a → IfSome o (All IsNested) → after_answers flags (name_answers o token) a
      ≡ with_made a.frames (texts_named flags o SectionScrap Maybe Empty token.span.start a.known)
  step-name None token a passed held n = passed
  step-name (Some texts) token a passed held n = ap (after_answers flags (held_answers texts)) held
      ∙ name-law flags texts (holder.Name token.span.start) token.span.start Empty a (λ items. refl) n

  pub step-named : (k : TokKind) (token : Seen) (a : Progress) → token.kind ≡ k
      → after_answers flags (token_answers named k token) a ≡ with_made a.frames (token_made name k token a.known)
  step-named k token a e = grind (arith, step-name, step-token)

  named-one : (answer : Answer) (answers : List Answer) (a : Progress) → after_answers flags (with_texts named
      (answer ∷ answers)) a ≡ after_answers flags (with_texts named answers) (stepped flags name answer a)
  named-one answer answers a = grind (arith, after-append, token_answers, with_texts, after_answers, step-named)

  -- what is made of a head, and then the answers behind it
  pub named-translation : (head : Made) (answers : List Answer) → IsNested answers
      → all_ended flags (after_answers flags (with_texts named answers) (with_made (CText [] ∷ []) head))
      ≡ end_of flags (made_before head (made flags name (nest answers)))
  named-translation head answers h =
      let a : Progress = with_made (CText [] ∷ []) head in
      ap (all_ended flags) (run-nested flags name (with_texts named) refl named-one answers a h
      ∙ sym (level-before flags name head (nest answers) (CText [] ∷ [])))

-- The inner texts of names are nested.
parts-nested : (text : List ℕ) (spans : List Span)
    → All IsNested (map (λ span. until_section (tokens_of text span.start span.end inner_mode)) spans)
parts-nested text spans = All-map IsNested (λ s. until_section (tokens_of text s.start s.end inner_mode)) spans
    (λ k d h. c-parts-nested text (get_or spans k d).start (get_or spans k d).end inner_mode refl)

kind-nested : (k : SecKind) (text : List ℕ) → All IsNested (parts_by_kind k text)
kind-nested k text = grind (arith, parts-nested, inner_parts)

name-nested : (o : Option SecName) → IfSome (option_map (λ name. parts_by_kind name.kind name.text) o) (All IsNested)
name-nested o = grind (arith, kind-nested)

kept-nested : (kept : List SecName) (o : Option ℕ)
    → IfSome (option_and_then (λ k. option_map (λ name. parts_by_kind name.kind name.text) (slice_get kept k)) o)
    (All IsNested)
kept-nested kept o = grind (arith, name-nested, slice_get)

pub texts-nested : (kept : List SecName) (uses : List NameUse) → AllNested (name_texts kept uses)
texts-nested kept uses = λ number. kept-nested kept (name_at number uses)
