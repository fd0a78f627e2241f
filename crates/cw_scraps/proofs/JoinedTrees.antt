-- The tokens of a new list have the joined tree.
use Rattle.cw_scraps.proofs.Terms.{◌≡◌, ℕ, suc, ◌+◌, ◌≤◌, List, [], ◌∷◌, ◌++◌, length, map, refl, sym, ◌∙◌, arith}
use Rattle.cw_scraps.proofs.Terms.{MathMode, Math, Sign, Tree, Then, Sub, JoinPiece, Whole, Mark, needs, after}
use Rattle.cw_scraps.proofs.Terms.{first_mode, toggled, joined_tree, joined_left, joined_right, Piece, scraps_in}
use Rattle.cw_scraps.proofs.Terms.{numbers_from, math_piece, joined_of, Token, shape, item_of, tree_in, trees_from}
use Rattle.cw_scraps.proofs.Terms.{LineEntry, Insert, scraps_of, insert_in, inserting, IsPieceWithin, toggle, tokens_of}
use Rattle.cw_scraps.proofs.Terms.{left_of, right_after}
use Rattle.cw_scraps.proofs.Buildings.{Kind, scrap, sign, kind, Goes, goes}
use Rattle.cw_scraps.proofs.Reservings.{seen-get}

-- the item, and the modes, of a piece that is joined
abbrev pub joined_item : JoinPiece → Tree → Tree
joined_item (Whole tree left right) rest = Sub tree rest
joined_item (Mark control) rest = Then (Sign control) rest

abbrev pub left_mode : JoinPiece → MathMode
left_mode (Whole tree left right) = left
left_mode (Mark control) = needs control

abbrev pub right_mode : JoinPiece → MathMode
right_mode (Whole tree left right) = right
right_mode (Mark control) = needs control

pub record Matches (trees : List Tree) (i : Insert) (j : JoinPiece) : Type 0 where
  pub item : (rest : Tree) → item_of trees (shape i.token) rest ≡ joined_item j rest
  pub left : i.left ≡ left_mode j
  pub right : i.right ≡ right_mode j

toggle-tree : (trees : List Tree) (mode left : MathMode) (ts : List Token) → tree_in trees (toggle mode left ++ ts)
    ≡ toggled mode left (tree_in trees ts)
toggle-tree trees mode left ts = grind arith

-- one piece more in front
cons-tree : (mode : MathMode) (j : JoinPiece) (js : List JoinPiece) → toggled mode (left_mode j)
    (joined_item j (joined_tree (after mode (left_mode j) (right_mode j)) js)) ≡ joined_tree mode (j ∷ js)
cons-tree mode j js = grind arith

cons-left : (j : JoinPiece) (js : List JoinPiece) → first_mode (left_mode j) (joined_left js) ≡ joined_left (j ∷ js)
cons-left j js = grind arith

cons-right : (mode : MathMode) (j : JoinPiece) (js : List JoinPiece)
    → joined_right (after mode (left_mode j) (right_mode j)) js ≡ joined_right mode (j ∷ js)
cons-right mode j js = grind arith

math-matches : (trees : List Tree) (token : Token) (tree : Tree) (l r : MathMode) → ((rest : Tree) → item_of trees
    (shape token) rest ≡ Sub tree rest) → Matches trees (insert_in Math token l r) (math_piece tree l r)
math-matches trees token tree l r h = grind arith

module _ (lists : List (List Token)) (entries : List LineEntry) where
  abbrev trees : List Tree
  trees = trees_from [] lists

  matches : (p : Piece) → IsPieceWithin 0 (length entries) p
      → Matches trees (inserting entries p) (joined_of (scraps_of lists entries) p)
  matches p h = grind (arith, seen-get, math-matches)

  -- the pieces of a run are all of the line
  pub record Joint (mode : MathMode) (pieces : List Piece) : Type 0 where
    pub tree : tree_in trees (tokens_of mode (map (inserting entries) pieces))
        ≡ joined_tree mode (map (joined_of (scraps_of lists entries)) pieces)
    pub left : left_of (map (inserting entries) pieces) ≡ joined_left (map (joined_of (scraps_of lists entries)) pieces)
    pub right : right_after mode (map (inserting entries) pieces)
        ≡ joined_right mode (map (joined_of (scraps_of lists entries)) pieces)

  joint-cons : (mode : MathMode) (p : Piece) (pieces : List Piece) → Matches trees (inserting entries p)
      (joined_of (scraps_of lists entries) p) → Joint (after mode (left_mode (joined_of (scraps_of lists entries) p))
      (right_mode (joined_of (scraps_of lists entries) p))) pieces → Joint mode (p ∷ pieces)
  joint-cons mode p pieces m rest = grind (arith, toggle-tree, cons-tree, cons-left, cons-right)

  pub joint : (mode : MathMode) (pieces : List Piece) (first more : ℕ) → scraps_in pieces ≡ numbers_from first more
      → first + more ≤ length entries → Joint mode pieces
  joint mode [] first more run h = record { tree = refl; left = refl; right = refl }
  joint mode (p ∷ pieces) first more run h = go (kind entries p) (λ n f m r w. joint n pieces f m r w)
    where
      go : Kind entries p → ((n : MathMode) (f m : ℕ) → scraps_in pieces ≡ numbers_from f m → f + m ≤ length entries
          → Joint n pieces) → Joint mode (p ∷ pieces)
      go (sign skip ref within) rec = joint-cons mode p pieces (matches p (within 0 (length entries)))
          (rec _ first more (sym (skip pieces) ∙ run) h)
      go (scrap k skip ref within) rec =
          let g : Goes k first more (scraps_in pieces) = goes k first more (scraps_in pieces) (sym (skip pieces)
          ∙ run) in
          let at : k ≡ first = g.first_is in
          let size : more ≡ suc g.fewer = g.more_is in
          joint-cons mode p pieces (matches p (within 0 (length entries) (omega arith)))
          (rec _ (suc first) g.fewer g.run (omega arith))
