-- What one production keeps of every scrap.
use Rattle.cw_scraps.proofs.Terms.{◌≡◌, ℕ, ◌+◌, ◌<◌, Bool, true, false, ◌&&◌, List, [], ◌∷◌, ◌++◌, map, take, drop}
use Rattle.cw_scraps.proofs.Terms.{get_or, Option, Some, None, ◌⊎◌, inl, inr, refl, sym, ap, subst, arith, All}
use Rattle.cw_scraps.proofs.Terms.{get_or_past, All-append, All-take, All-drop, All-set, All-map, All-cons, All-head}
use Rattle.cw_scraps.proofs.Terms.{All-tail, cases_lt, Cat, RawInt, Flags, MathMode, Text, Math, Maybe, Leaf, Tree}
use Rattle.cw_scraps.proofs.Terms.{Empty, Then, Sub, Inner, bare_name, Search, Found, Nothing, or_else, search_leaf}
use Rattle.cw_scraps.proofs.Terms.{first_ident, reserve_first, Scrap, no_scrap, scrap_agrees, JoinPiece, Whole, Mark}
use Rattle.cw_scraps.proofs.Terms.{needs, after, toggled, joined_tree, join, Agrees, Action, Piece, Row, result_at}
use Rattle.cw_scraps.proofs.Terms.{is_exp, cats_of, row_pieces, math_piece, joined_of, alone, with_cat, new_from}
use Rattle.cw_scraps.proofs.Terms.{new_scrap, search_in, reserved_in, reserved_at, bolded, bolded_at, worded_at}
use Rattle.cw_scraps.proofs.Terms.{named_scrap, named_right, rewrite_from, leaf_named_below, IsNamedBelow, piece_agrees}
use Rattle.cw_scraps.proofs.ModeLaw.{join-agrees, agrees-same, reserve-reads}
use Rattle.cw_table.specs.declared.types.Piece.TheVariants as piece
use Rattle.std.specs.Prelude.{nat_eq}
use Rattle.std.specs.Option.{option_map_or}

module _ (P : Scrap → Type 0) (none : P no_scrap) (reserves : (s : Scrap) → P s → P (reserved_in s))
    (recats : (cat : Cat) (s : Scrap) → P s → P (with_cat cat s))
    (joins : (cat : Cat) (scraps : List Scrap) (pieces : List Piece) → All P scraps
    → P (join cat (map (joined_of scraps) pieces))) where
  at : (scraps : List Scrap) (k : ℕ) → All P scraps → P (get_or scraps k no_scrap)
  at scraps k all = grind (arith, cases_lt, get_or_past)

  in_named : (named : Option ℕ) (scraps : List Scrap) → All P scraps → All P (reserved_at named scraps)
  in_named None scraps all = all
  in_named (Some k) scraps all = All-set P scraps k (reserved_in (get_or scraps k no_scrap))
      (reserves (get_or scraps k no_scrap) (at scraps k all)) all

  in_bold : (b : Option ℕ) (s : Scrap) → bare_name s.tree ≡ b → P s → P (bolded s)
  in_bold (Some name) s e h = rw (e, bolded) (reserves s h)
  in_bold None s e h = rw (e, bolded) h

  in_worded : (action : Action) (scraps : List Scrap) → All P scraps → All P (worded_at action scraps)
  in_worded action scraps all = go action.bold (reserved_at action.reserve scraps)
      (in_named action.reserve scraps all)
    where
      go : (named : Option ℕ) (ss : List Scrap) → All P ss → All P (bolded_at named ss)
      go None ss held = held
      go (Some k) ss held = All-set P ss k (bolded (get_or ss k no_scrap))
          (in_bold (bare_name (get_or ss k no_scrap).tree) (get_or ss k no_scrap) refl (at ss k held)) held

  in_new : (o : Option ℕ) (cat : Cat) (n : ℕ) (pieces : List Piece) (scraps : List Scrap) → alone n pieces ≡ o
      → All P scraps → P (new_from cat n pieces scraps)
  in_new (Some k) cat n pieces scraps e all = grind (arith, at)
  in_new None cat n pieces scraps e all = subst P (sym (ap (λ (q : Option ℕ). elim q [
    | Some m ↦ with_cat cat (get_or scraps m no_scrap)
    | None ↦ join cat (map (joined_of scraps) pieces)
  ]) e)) (joins cat scraps pieces all)

  in_scrap : (b : Bool) (name : ℕ) (s : Scrap)
      → (is_exp s.cat && option_map_or (λ bare. nat_eq bare name) (bare_name s.tree) false) ≡ b → P s
      → P (named_scrap name s)
  in_scrap true name s e h = rw (e, named_scrap) (recats RawInt (reserved_in s) (reserves s h))
  in_scrap false name s e h = rw (e, named_scrap) h

  in_right : (found : Search) (scraps : List Scrap) → All P scraps → All P (named_right found scraps)
  in_right (Found name) scraps all = All-map P (named_scrap name) scraps (λ k d h. in_scrap (is_exp (get_or scraps k
      d).cat && option_map_or (λ bare. nat_eq bare name) (bare_name (get_or scraps k d).tree) false) name
      (get_or scraps k d) refl (all k d h))
  in_right _ _ all = all

  pub keeps-all : (flags : Flags) (row : Row) (place : ℕ) (scraps : List Scrap) → All P scraps
      → All P (take place scraps ++ rewrite_from flags row (drop place scraps))
  keeps-all flags row place scraps all =
      let named : All P (worded_at row.action (drop place scraps)) = in_worded row.action
      (drop place scraps) (All-drop P place scraps all) in
      All-append P (take place scraps) (rewrite_from flags row (drop place scraps)) (All-take P place scraps all)
      (All-append P (take row.offset (worded_at row.action (drop place scraps))) (new_scrap flags row
      (worded_at row.action (drop place scraps)) ∷ named_right (search_in row.action.reserve
      (drop place scraps)) (drop (row.offset + row.replaced) (worded_at row.action (drop place scraps))))
      (All-take P row.offset (worded_at row.action (drop place scraps)) named) (All-cons P (new_scrap flags
      row (worded_at row.action (drop place scraps))) (named_right (search_in row.action.reserve
      (drop place scraps)) (drop (row.offset + row.replaced) (worded_at row.action (drop place scraps))))
      (in_new (alone row.replaced (row_pieces flags row (cats_of (worded_at row.action (drop place scraps)))))
      (result_at row.result (cats_of (worded_at row.action (drop place scraps)))) row.replaced
      (row_pieces flags row (cats_of (worded_at row.action (drop place scraps))))
      (worded_at row.action (drop place scraps)) refl named) (in_right (search_in row.action.reserve
      (drop place scraps)) (drop (row.offset + row.replaced) (worded_at row.action (drop place scraps)))
      (All-drop P (row.offset + row.replaced) (worded_at row.action (drop place scraps)) named))))

-- modes
all-at : (P : Scrap → Type 0) → P no_scrap → (scraps : List Scrap) (k : ℕ) → All P scraps → P (get_or scraps k no_scrap)
all-at P none scraps k all = grind (arith, cases_lt, get_or_past)

math-agrees : (tree : Tree) (l r : MathMode) → Agrees tree l r → piece_agrees (math_piece tree l r)
math-agrees tree Maybe Maybe h = h Math
math-agrees tree Maybe Text h = h
math-agrees tree Maybe Math h = h
math-agrees tree Text r h = h
math-agrees tree Math r h = h

agrees-piece : (scraps : List Scrap) (p : Piece) → All scrap_agrees scraps → piece_agrees (joined_of scraps p)
agrees-piece scraps (piece.Scrap k) all = all-at scrap_agrees (λ m. refl) scraps k all
agrees-piece scraps (piece.MathScrap k) all = math-agrees (get_or scraps k no_scrap).tree
    (get_or scraps k no_scrap).left (get_or scraps k no_scrap).right (all-at scrap_agrees (λ m. refl) scraps k all)
agrees-piece scraps _ all = λ m. refl

agrees-pieces : (scraps : List Scrap) (pieces : List Piece) → All scrap_agrees scraps
    → All piece_agrees (map (joined_of scraps) pieces)
agrees-pieces scraps pieces all = All-map piece_agrees (joined_of scraps) pieces
    (λ k d h. agrees-piece scraps (get_or pieces k d) all)

pub keeps-modes : (flags : Flags) (row : Row) (place : ℕ) (scraps : List Scrap) → All scrap_agrees scraps
    → All scrap_agrees (take place scraps ++ rewrite_from flags row (drop place scraps))
keeps-modes flags row place scraps all = keeps-all scrap_agrees (λ m. refl)
    (λ s h. agrees-same (reserve_first s.tree) s.tree s.left s.right (reserve-reads s.tree) h) (λ cat s h. h)
    (λ cat ss pieces h. join-agrees (map (joined_of ss) pieces) (agrees-pieces ss pieces h)) flags row place scraps all

then-named : (s : Search) (n : ℕ) (leaf : Leaf) (rest : Tree) → search_leaf leaf ≡ s → IsNamedBelow n (Then leaf rest)
    → IsNamedBelow n (reserve_first rest) → IsNamedBelow n (reserve_first (Then leaf rest))
then-named s n leaf rest e h r = grind arith

sub-named : (s : Search) (n : ℕ) (tree rest : Tree) → first_ident tree ≡ s → IsNamedBelow n (Sub tree rest)
    → IsNamedBelow n (reserve_first tree) → IsNamedBelow n (reserve_first rest)
    → IsNamedBelow n (reserve_first (Sub tree rest))
sub-named s n tree rest e h t r = grind arith

reserve-named : (n : ℕ) (t : Tree) → IsNamedBelow n t → IsNamedBelow n (reserve_first t)
reserve-named n Empty h = h
reserve-named n (Then leaf rest) h = then-named (search_leaf leaf) n leaf rest refl h (reserve-named n rest h.1)
reserve-named n (Sub tree rest) h = grind (arith, reserve-named n tree h.0, reserve-named n rest h.1, sub-named)
reserve-named n (Inner tree rest) h = (h.0, reserve-named n rest h.1)

toggled-named : (n : ℕ) (m l : MathMode) (tree : Tree) → IsNamedBelow n tree → IsNamedBelow n (toggled m l tree)
toggled-named n m l tree h = grind arith

abbrev piece_named : ℕ → JoinPiece → Type 0
piece_named n (Whole tree left right) = IsNamedBelow n tree
piece_named n (Mark control) = Unit {0}

joined-named : (n : ℕ) (m : MathMode) (js : List JoinPiece) → All (piece_named n) js → IsNamedBelow n (joined_tree m js)
joined-named n m [] all = tt
joined-named n m (Whole tree l r ∷ js) all = toggled-named n m l (Sub tree (joined_tree (after m l r) js)) (
  All-head (piece_named n) (Whole tree l r) js all,
  joined-named n (after m l r) js (All-tail (piece_named n) (Whole tree l r) js all),
)
joined-named n m (Mark c ∷ js) all =
    grind (arith, joined-named n (after m (needs c) (needs c)) js (All-tail (piece_named n) (Mark c) js all))

math-named : (n : ℕ) (tree : Tree) (l r : MathMode) → IsNamedBelow n tree → piece_named n (math_piece tree l r)
math-named n tree Maybe Maybe h = h
math-named n tree Maybe Text h = h
math-named n tree Maybe Math h = h
math-named n tree Text r h = h
math-named n tree Math r h = h

named-piece : (n : ℕ) (scraps : List Scrap) (p : Piece) → All (λ s. IsNamedBelow n s.tree) scraps
    → piece_named n (joined_of scraps p)
named-piece n scraps (piece.Scrap k) all = all-at (λ s. IsNamedBelow n s.tree) tt scraps k all
named-piece n scraps (piece.MathScrap k) all = math-named n (get_or scraps k no_scrap).tree (get_or scraps k
    no_scrap).left (get_or scraps k no_scrap).right (all-at (λ s. IsNamedBelow n s.tree) tt scraps k all)
named-piece n scraps _ all = tt

pub keeps-named : (n : ℕ) (flags : Flags) (row : Row) (place : ℕ) (scraps : List Scrap) → All (λ s. IsNamedBelow n
    s.tree) scraps → All (λ s. IsNamedBelow n s.tree) (take place scraps ++ rewrite_from flags row (drop place scraps))
keeps-named n flags row place scraps all = keeps-all (λ s. IsNamedBelow n s.tree) tt (λ s h. reserve-named n s.tree h)
    (λ cat s h. h) (λ cat ss pieces h. joined-named n Maybe (map (joined_of ss) pieces) (All-map (piece_named n)
    (joined_of ss) pieces (λ k d lt. named-piece n ss (get_or pieces k d) h))) flags row place scraps all

-- the first identifier of a tree is one of its names
leaf-found : (n : ℕ) (leaf : Leaf) (name : ℕ) → leaf_named_below n leaf → search_leaf leaf ≡ Found name → name < n
leaf-found n leaf name h e = grind arith

or-found : (s t : Search) (name : ℕ) → or_else s t ≡ Found name → (s ≡ Found name) ⊎ (t ≡ Found name)
or-found s t name e = grind arith

pub found-named : (n : ℕ) (t : Tree) (name : ℕ) → IsNamedBelow n t → first_ident t ≡ Found name → name < n
found-named n Empty name h e = absurd (let k : Nothing ≡ Found name = e in cc)
found-named n (Then leaf rest) name h e = elim (or-found (search_leaf leaf) (first_ident rest) name e) [
  | inl k ↦
      leaf-found n leaf name h.0 k
  | inr k ↦ found-named n rest name h.1 k
]
found-named n (Sub tree rest) name h e = elim (or-found (first_ident tree) (first_ident rest) name e) [
  | inl k ↦
      found-named n tree name h.0 k
  | inr k ↦ found-named n rest name h.1 k
]
found-named n (Inner tree rest) name h e = found-named n rest name h.1 e

pub search-named : (n : ℕ) (named : Option ℕ) (scraps : List Scrap) (name : ℕ) → All (λ s. IsNamedBelow n s.tree) scraps
    → search_in named scraps ≡ Found name → name < n
search-named n None scraps name all e = absurd (let k : Nothing ≡ Found name = e in cc)
search-named n (Some k) scraps name all e = found-named n (get_or scraps k no_scrap).tree name
    (all-at (λ s. IsNamedBelow n s.tree) tt scraps k all) e
