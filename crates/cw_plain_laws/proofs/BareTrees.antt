-- Trees without comments and inner texts: what stands in them, and the translation of simple tokens as one.
use Rattle.cw_plain_laws.proofs.Terms.{◌≡◌, ℕ, Bool, true, ◌&&◌, List, [], ◌∷◌, ◌++◌, refl, sym, if◌then◌else◌, ap}
use Rattle.cw_plain_laws.proofs.Terms.{subst, ◌∙◌, arith, All, All-append, All-cons, All-nil, Cat, Flags, headed}
use Rattle.cw_plain_laws.proofs.Terms.{headed_by, headless, Nest, End, Leaf, Group, first_nest, leaf, nest, nests}
use Rattle.cw_plain_laws.proofs.Terms.{Entry, NameId, Piece, PlainSource, Stand, control_placed, item_placed}
use Rattle.cw_plain_laws.proofs.Terms.{pieces_from, pieces_in, AreSimpleTokens, BeginsBefore, is_program, is_simple}
use Rattle.cw_plain_laws.proofs.Terms.{Answer, Token, Seen, TokKind, LeafForm, word_form, tree_in, Item, SignItem, Open}
use Rattle.cw_plain_laws.proofs.Terms.{Close, begins_after, flat, is_break, leaf_item, trim_back, trim_front}
use Rattle.cw_plain_laws.proofs.Terms.{trimmed_items, without_inserted, Sign, Tree, Empty, Then, Sub, Inner, Search}
use Rattle.cw_plain_laws.proofs.Terms.{Stopped, first_ident, reserve_first, reserved_leaf, search_leaf, Control}
use Rattle.cw_plain_laws.proofs.{KeptTrees.OfScrap, KeptTrees.end-kept, OwnInks.IsUnbarred, OwnInks.number-unbarred}
use Rattle.cw_plain_laws.proofs.{Walks.IsFree}
use Rattle.cw_reduce.specs.Visible.{shown, shown_in, shown_token}
use Rattle.cw_translator.specs.Translating.{Known, Made, NameTexts, begin, end_of, headed_made, leaf_of_name}
use Rattle.cw_translator.specs.Translating.{leaf_scrap, made, state_in, token_made, translated}
use Rattle.cw_trees.specs.Tree.{Leaf as TreeLeaf, Found, Nothing as no_ident}

-- ## Trees

abbrev BareLeaf : TreeLeaf → Type 0
BareLeaf (Sign c) = IsFree c
BareLeaf leaf = Unit {0}

abbrev pub IsBare : Tree → Type 0
IsBare Empty = Unit {0}
IsBare (Then leaf rest) = BareLeaf leaf × IsBare rest
IsBare (Sub tree rest) = IsBare tree × IsBare rest
IsBare (Inner tree rest) = ⊥

reserved-bare : (leaf : TreeLeaf) → BareLeaf leaf → BareLeaf (reserved_leaf leaf)
reserved-bare leaf h = grind arith

then-bare : (s : Search) (leaf : TreeLeaf) (rest : Tree) → search_leaf leaf ≡ s → IsBare (Then leaf rest)
    → IsBare (reserve_first rest) → IsBare (reserve_first (Then leaf rest))
then-bare (Found name) leaf rest e h r = rw (e, reserve_first) (reserved-bare leaf h.0, h.1)
then-bare Stopped leaf rest e h r = rw (e, reserve_first) h
then-bare no_ident leaf rest e h r = rw (e, reserve_first) (h.0, r)

sub-bare : (s : Search) (tree rest : Tree) → first_ident tree ≡ s → IsBare (Sub tree rest)
    → IsBare (reserve_first tree) → IsBare (reserve_first rest) → IsBare (reserve_first (Sub tree rest))
sub-bare (Found name) tree rest e h t r = rw (e, reserve_first) (t, h.1)
sub-bare Stopped tree rest e h t r = rw (e, reserve_first) h
sub-bare no_ident tree rest e h t r = rw (e, reserve_first) (h.0, r)

reserve-bare : (t : Tree) → IsBare t → IsBare (reserve_first t)
reserve-bare Empty h = h
reserve-bare (Then leaf rest) h = then-bare (search_leaf leaf) leaf rest refl h (reserve-bare rest h.1)
reserve-bare (Sub tree rest) h = grind (arith, reserve-bare tree h.0, reserve-bare rest h.1, sub-bare)
reserve-bare (Inner tree rest) h = absurd h

-- ## Their pieces

abbrev BareItem : Item → Type 0
BareItem Open = ⊥
BareItem Close = ⊥
BareItem (SignItem c) = IsFree c
BareItem item = Unit {0}

abbrev BareItems : List Item → Type 0
BareItems [] = Unit {0}
BareItems (item ∷ items) = BareItem item × BareItems items

items-append : (xs ys : List Item) → BareItems xs → BareItems ys → BareItems (xs ++ ys)
items-append [] ys a b = b
items-append (x ∷ xs) ys a b = (a.0, items-append xs ys a.1 b)

leaf-bare : (leaf : TreeLeaf) → BareLeaf leaf → BareItem (leaf_item leaf)
leaf-bare leaf h = grind arith

flat-bare : (t : Tree) → IsBare t → BareItems (flat t)
flat-bare Empty h = tt
flat-bare (Then leaf rest) h = (leaf-bare leaf h.0, flat-bare rest h.1)
flat-bare (Sub tree rest) h = items-append (flat tree) (flat rest) (flat-bare tree h.0) (flat-bare rest h.1)
flat-bare (Inner tree rest) h = absurd h

either-bare : (taken : Bool) (item : Item) (gone kept : List Item) → BareItem item → BareItems gone → BareItems kept
    → BareItems (if taken then gone else item ∷ kept)
either-bare taken item gone kept is a b = grind arith

without-bare : (items : List Item) → BareItems items → BareItems (without_inserted items)
without-bare [] bare = tt
without-bare (item ∷ items) bare = grind (arith, without-bare items bare.1, either-bare)

front-bare : (begins : Bool) (items : List Item) → BareItems items → BareItems (trim_front begins items)
front-bare begins [] bare = tt
front-bare begins (item ∷ items) bare =
    either-bare (begins && is_break item) item (trim_front begins items) (trim_front (begins_after begins item) items)
    bare.0 (front-bare begins items bare.1) (front-bare (begins_after begins item) items bare.1)

back-bare : (items : List Item) → BareItems items → BareItems (trim_back items)
back-bare [] bare = tt
back-bare (item ∷ items) bare = grind (arith, back-bare items bare.1, either-bare)

trimmed-bare : (items : List Item) → BareItems items → BareItems (trimmed_items items)
trimmed-bare items bare = grind (arith, back-bare, front-bare, without-bare)

abbrev pub AreUnbarred : List Piece → Type 0
AreUnbarred [] = Unit {0}
AreUnbarred (p ∷ ps) = IsUnbarred p × AreUnbarred ps

control-unbarred : (c : Control) (stand : Stand) → IsFree c → IsUnbarred (control_placed c stand).piece
control-unbarred c stand free = grind arith

item-unbarred : (s : PlainSource) (item : Item) (stand : Stand) → BareItem item → IsUnbarred
    (item_placed s item stand).piece
item-unbarred s item stand bare = grind (arith, number-unbarred, control-unbarred)

next-unbarred : (s : PlainSource) (depth : ℕ) (item : Item) (stand : Stand) (rest : Stand → List Piece) → BareItem item
    → ((st : Stand) → AreUnbarred (rest st)) → AreUnbarred (pieces_in s depth item stand rest)
next-unbarred s depth item stand rest bare more = grind (arith, item-unbarred)

pieces-unbarred : (s : PlainSource) (items : List Item) (stand : Stand) → BareItems items
    → AreUnbarred (pieces_from s items stand)
pieces-unbarred s [] stand bare = tt
pieces-unbarred s (item ∷ items) stand bare =
    next-unbarred s stand.name item stand (pieces_from s items) bare.0 (λ st. pieces-unbarred s items st bare.1)

pub bare-pieces : (s : PlainSource) (t : Tree) (stand : Stand) → IsBare t
    → AreUnbarred (pieces_from s (trimmed_items (flat t)) stand)
bare-pieces s t stand bare = pieces-unbarred s (trimmed_items (flat t)) stand (trimmed-bare (flat t) (flat-bare t bare))

-- ## The translation of simple tokens

abbrev IsSimpleNest : Nest → Type 0
IsSimpleNest End = Unit {0}
IsSimpleNest (Leaf t rest) = (is_simple t.kind ≡ true) × IsSimpleNest rest
IsSimpleNest (Group t inner rest) = ⊥

abbrev AreSimpleNests : List Nest → Type 0
AreSimpleNests [] = ⊥
AreSimpleNests (n ∷ ns) = IsSimpleNest n

leaf-simple : (t : Seen) (ns : List Nest) → is_simple t.kind ≡ true → AreSimpleNests ns → AreSimpleNests (leaf t ns)
leaf-simple t ns is all = grind arith

nests-simple : (answers : List Answer) → AreSimpleTokens answers → AreSimpleNests (nests answers)
nests-simple [] are = tt
nests-simple (Token t ∷ answers) are = leaf-simple t (nests answers) are.0 (nests-simple answers are.1)
nests-simple _ are = absurd are

first-simple : (ns : List Nest) → AreSimpleNests ns → IsSimpleNest (first_nest ns)
first-simple ns all = grind arith

word-bare : (c : Cat) (name : NameId) (n : ℕ) → IsBare (tree_in [] (word_form c name n).tokens)
word-bare c name n = grind arith

one-bare : (form : LeafForm) → IsBare (leaf_scrap form).tree → All (OfScrap IsBare) (leaf_scrap form ∷ [])
one-bare form bare = All-cons (OfScrap IsBare) (leaf_scrap form) [] bare (All-nil (OfScrap IsBare))

token-bare : (name : ℕ → Known → Made) (k : TokKind) (t : Seen) (known : Known) → is_simple k ≡ true
    → All (OfScrap IsBare) (token_made name k t known).scraps
token-bare name k t known is = grind (arith, one-bare, word-bare)

made-bare : (flags : Flags) (name : ℕ → Known → Made) (n : Nest) (known : Known) → IsSimpleNest n
    → All (OfScrap IsBare) (made flags name n known).scraps
made-bare flags name End known simple = All-nil (OfScrap IsBare)
made-bare flags name (Leaf t rest) known simple =
    let first = token_made name t.kind t known in
    All-append (OfScrap IsBare) first.scraps (made flags name rest first.known).scraps
    (token-bare name t.kind t known simple.0) (made-bare flags name rest first.known simple.1)
made-bare flags name (Group t inner rest) known simple = absurd simple

-- the code with which a part begins makes nothing
program-bare : (name : ℕ → Known → Made) (k : TokKind) (t : Seen) (known : Known) → is_program k ≡ true
    → All (OfScrap IsBare) (token_made name k t known).scraps
program-bare name k t known is = grind arith

program-headless : (k : TokKind) (t : Seen) (rest : Nest) → is_program k ≡ true
    → headed_by k t rest ≡ headless (Leaf t rest)
program-headless k t rest is = grind arith

-- the nest of a part
abbrev PartNest : List Answer → List Answer → Type 0
PartNest answers rest = (t : Seen) × ((is_program t.kind ≡ true) × (nest answers ≡ Leaf t (nest rest)))

leaf-first : (t : Seen) (ns : List Nest) → AreSimpleNests ns → first_nest (leaf t ns) ≡ Leaf t (first_nest ns)
leaf-first t ns all = grind arith

part-nest : (answers rest : List Answer) → BeginsBefore rest answers → AreSimpleTokens rest → PartNest answers rest
part-nest answers rest begun are = grind (arith, leaf-first, nests-simple)

part-headed : (answers rest : List Answer) (p : PartNest answers rest)
    → headed (nest answers) ≡ headless (Leaf p.0 (nest rest))
part-headed answers rest p = ap headed p.1.1 ∙ program-headless p.0.kind p.0 (nest rest) p.1.0

pub part-bare : (flags : Flags) (named : NameTexts) (answers : List Answer) (names : List Entry) (marks : List ℕ)
    (rest : List Answer) → BeginsBefore rest answers → AreSimpleTokens rest
    → IsBare (translated flags named answers names marks).tree
unfolding translated
part-bare flags named answers names marks rest begun are =
    let p = part-nest answers rest begun are in
    let known = begin names marks in
    let name = leaf_of_name flags named in
    let first = token_made name p.0.kind p.0 known in
    let all = All-append (OfScrap IsBare) first.scraps (made flags name (nest rest) first.known).scraps
    (program-bare name p.0.kind p.0 known p.1.0)
    (made-bare flags name (nest rest) first.known (first-simple (nests rest) (nests-simple rest are))) in
    subst (λ h. IsBare (end_of flags (headed_made flags named h known)).tree) (sym (part-headed answers rest p))
    (end-kept IsBare tt (λ a b x y. (x, y)) (λ c t free x. (free, x)) reserve-bare flags
    (state_in (headed_made flags named (headless (Leaf p.0 (nest rest))) known).scraps
    (headed_made flags named (headless (Leaf p.0 (nest rest))) known).known) all)

-- ## What of it is shown

abbrev pub starts_of : List Answer → List ℕ
starts_of [] = []
starts_of (Token t ∷ answers) = t.span.start ∷ starts_of answers
starts_of (answer ∷ answers) = starts_of answers

simple-shown : (is_named : ℕ → Bool) (k : TokKind) (number : ℕ) → is_simple k ≡ true
    → shown_token is_named k number ≡ number ∷ []
simple-shown is_named k number is = grind arith

program-shown : (is_named : ℕ → Bool) (k : TokKind) (number : ℕ) → is_program k ≡ true
    → shown_token is_named k number ≡ []
program-shown is_named k number is = grind arith

nest-shown : (is_named : ℕ → Bool) (answers : List Answer) → AreSimpleTokens answers
    → shown_in is_named (nest answers) ≡ starts_of answers
nest-shown is_named [] are = refl
nest-shown is_named (Token t ∷ answers) are = ap (shown_in is_named)
    (leaf-first t (nests answers) (nests-simple answers are.1)) ∙ ap (λ l. l ++ shown_in is_named (nest answers))
    (simple-shown is_named t.kind t.span.start are.0) ∙ ap (λ l. t.span.start ∷ l) (nest-shown is_named answers are.1)
nest-shown _ _ are = absurd are

pub part-shown : (is_named : ℕ → Bool) (answers rest : List Answer) → BeginsBefore rest answers → AreSimpleTokens rest
    → shown is_named answers ≡ starts_of rest
part-shown is_named answers rest begun are = grind (arith, part-nest, part-headed, program-shown, nest-shown)
