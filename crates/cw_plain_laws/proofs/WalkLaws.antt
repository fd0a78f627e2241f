-- Trees that are made of trees which have the bytes of their tokens have those of their own.
use Rattle.cw_plain_laws.proofs.Terms.{arith, ◌≡◌, ℕ, zero, suc, Bool, List, [], ◌∷◌, ◌++◌, refl, sym, ap, ◌∙◌}
use Rattle.cw_plain_laws.proofs.Terms.{append_assoc, Control, Sign, Tree, Empty, Then, Sub, Inner, Search, Stopped}
use Rattle.cw_plain_laws.proofs.Terms.{first_ident, reserve_first, reserved_leaf, search_leaf, Item, IdentItem}
use Rattle.cw_plain_laws.proofs.Terms.{ReservedItem, Open, Close, flat, leaf_item, Piece, PlainSource, Stand}
use Rattle.cw_plain_laws.proofs.Terms.{item_placed, name_behind, passed, pieces_from, pieces_in}
use Rattle.cw_trees.specs.Tree.{Leaf, Found, Nothing as no_ident}
use Rattle.cw_table.proofs.NumberLaws.{struck-reserved}
use Rattle.cw_plain_laws.proofs.Walks.{IsFree, Walks, among, owners}

-- ## The walk over what follows

next-same : (s : PlainSource) (depth : ℕ) (item : Item) (stand : Stand) (f g : Stand → List Piece)
    → ((st : Stand) → f st ≡ g st) → pieces_in s depth item stand f ≡ pieces_in s depth item stand g
next-same s zero item stand f g same = ap (λ ps. (item_placed s item stand).piece ∷ ps)
    (same (item_placed s item stand).stand)
next-same s (suc depth) item stand f g same = same (passed item stand)

prefix-same : (s : PlainSource) (xs ys zs : List Item) → ((st : Stand) → pieces_from s ys st ≡ pieces_from s zs st)
    → (st : Stand) → pieces_from s (xs ++ ys) st ≡ pieces_from s (xs ++ zs) st
prefix-same s [] ys zs same st = same st
prefix-same s (x ∷ xs) ys zs same st = next-same s st.name x st (pieces_from s (xs ++ ys)) (pieces_from s (xs ++ zs))
    (prefix-same s xs ys zs same)

-- an identifier and a reserved word make the same piece
passed-same : (name number : ℕ) (stand : Stand) → passed (ReservedItem name number) stand
    ≡ passed (IdentItem name number) stand
passed-same name number stand = grind arith

word-same : (s : PlainSource) (depth name number : ℕ) (stand : Stand) (rest : Stand → List Piece)
    → pieces_in s depth (ReservedItem name number) stand rest ≡ pieces_in s depth (IdentItem name number) stand rest
word-same s depth name number stand rest = grind (arith, passed-same)

-- ## Reserving

abbrev IsSame : PlainSource → Tree → Tree → Type 0
IsSame s a b = (rest : List Item) (st : Stand) → pieces_from s (flat a ++ rest) st ≡ pieces_from s (flat b ++ rest) st

reserved-same : (s : PlainSource) (depth : ℕ) (leaf : Leaf) (stand : Stand) (rest : Stand → List Piece)
    → pieces_in s depth (leaf_item (reserved_leaf leaf)) stand rest ≡ pieces_in s depth (leaf_item leaf) stand rest
reserved-same s depth leaf stand rest = grind (arith, word-same)

reserve-then : (s : PlainSource) (found : Search) (leaf : Leaf) (rest : Tree) → search_leaf leaf ≡ found
    → IsSame s (reserve_first rest) rest → IsSame s (reserve_first (Then leaf rest)) (Then leaf rest)
reserve-then s (Found n) leaf rest e same more st = grind (arith, reserved-same)
reserve-then s Stopped leaf rest e same more st = rw (e, reserve_first) refl
reserve-then s no_ident leaf rest e same more st = grind (arith, next-same)

two : (s : PlainSource) (a b c d : Tree) → IsSame s a b → IsSame s c d → IsSame s (Sub a c) (Sub b d)
two s a b c d first second more st = grind (arith, append_assoc, prefix-same)

is-same : (s : PlainSource) (t : Tree) → IsSame s t t
is-same s t more st = refl

reserve-sub : (s : PlainSource) (found : Search) (tree rest : Tree) → first_ident tree ≡ found → IsSame s (reserve_first
    tree) tree → IsSame s (reserve_first rest) rest → IsSame s (reserve_first (Sub tree rest)) (Sub tree rest)
reserve-sub s (Found n) tree rest e first second more st = grind (arith, two, is-same)
reserve-sub s Stopped tree rest e first second more st = rw (e, reserve_first) refl
reserve-sub s no_ident tree rest e first second more st = grind (arith, two, is-same)

inner-items : (tree rest : Tree) (more : List Item)
    → flat (Inner tree rest) ++ more ≡ (Open ∷ (flat tree ++ Close ∷ [])) ++ (flat rest ++ more)
inner-items tree rest more = grind (arith, append_assoc)

-- an identifier that is reserved has the same pieces, whatever tree it stands in
pub reserve-same : (s : PlainSource) (t : Tree) → IsSame s (reserve_first t) t
reserve-same s Empty more st = refl
reserve-same s (Then leaf rest) more st = reserve-then s (search_leaf leaf) leaf rest refl (reserve-same s rest) more st
reserve-same s (Sub tree rest) more st = reserve-sub s (first_ident tree) tree rest refl (reserve-same s tree)
    (reserve-same s rest) more st
reserve-same s (Inner tree rest) more st = ap (λ l. pieces_from s l st) (inner-items tree (reserve_first rest) more)
    ∙ prefix-same s (Open ∷ (flat tree ++ Close ∷ [])) (flat (reserve_first rest) ++ more) (flat rest ++ more)
    (reserve-same s rest more) st ∙ ap (λ l. pieces_from s l st) (sym (inner-items tree rest more))

-- ## Inner texts of section names

abbrev deep : ℕ → List Bool → Stand
deep depth comments = record { name = suc (suc depth); comments = comments }

leaf-deep : (leaf : Leaf) (depth : ℕ) → name_behind (suc (suc depth)) (leaf_item leaf) ≡ suc (suc depth)
leaf-deep leaf depth = grind arith

-- an inner text in a section name is passed, whatever stands in it
pub inner-passed : (s : PlainSource) (t : Tree) (depth : ℕ) (comments : List Bool) (rest : List Item)
    → pieces_from s (flat t ++ rest) (deep depth comments) ≡ pieces_from s rest (deep depth comments)
inner-passed s Empty depth comments rest = refl
inner-passed s (Then leaf more) depth comments rest = ap (λ n. pieces_from s (flat more ++ rest)
    (record { name = n; comments = comments })) (leaf-deep leaf depth) ∙ inner-passed s more depth comments rest
inner-passed s (Sub tree more) depth comments rest =
    ap (λ l. pieces_from s l (deep depth comments)) (append_assoc (flat tree) (flat more) rest)
    ∙ inner-passed s tree depth comments (flat more ++ rest) ∙ inner-passed s more depth comments rest
inner-passed s (Inner tree more) depth comments rest = ap (λ l. pieces_from s l (deep (suc depth) comments))
    (append_assoc (flat tree) (Close ∷ flat more) rest)
    ∙ inner-passed s tree (suc depth) comments (Close ∷ (flat more ++ rest)) ∙ inner-passed s more depth comments rest

-- ## Joining

pub sub-walks : (s : PlainSource) (a b : Tree) → Walks s a → Walks s b → Walks s (Sub a b)
sub-walks s a b first second comments rest = grind (arith, owners, among, append_assoc)

pub sign-walks : (s : PlainSource) (c : Control) (t : Tree) → IsFree c → Walks s t → Walks s (Then (Sign c) t)
sign-walks s c t free walks comments rest = grind arith

pub empty-walks : (s : PlainSource) → Walks s Empty
empty-walks s comments rest = refl

pub reserve-walks : (s : PlainSource) (t : Tree) → Walks s t → Walks s (reserve_first t)
reserve-walks s t walks comments rest = grind (arith, owners, reserve-same, among, struck-reserved)
