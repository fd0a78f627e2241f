-- The pieces of a row lead from a depth back to it, where they can stand there and those between braces anywhere.
use Rattle.cw_brace_laws.proofs.Terms.{◌≡◌, ℕ, zero, suc, ◌+◌, true, Some, List, [], ◌∷◌, map, subst, arith, All}
use Rattle.cw_brace_laws.proofs.Terms.{eqb-true, All-head, All-tail, MathMode, braces_pair, between, joined_of}
use Rattle.cw_brace_laws.proofs.Terms.{math_piece, alone, Piece, OpenBrace, CloseBrace, OpenRelation, Scrap, Tree}
use Rattle.cw_brace_laws.proofs.Terms.{StandsAt, nat_tests}
use Rattle.cw_table.specs.declared.types.Piece.TheVariants.{Scrap as ScrapOf}
use Rattle.cw_brace_laws.proofs.{Depths.ends-math, Joins.JoinedStands, Joins.Lead, Joins.lead-on}

-- a piece that is no brace can stand at a depth
abbrev pub Stands : List Scrap → ℕ → Piece → Type 0
Stands scraps depth OpenBrace = Unit {0}
Stands scraps depth CloseBrace = Unit {0}
Stands scraps depth OpenRelation = Unit {0}
Stands scraps depth piece = JoinedStands depth (joined_of scraps piece)

pub math-stands : (m : ℕ) (tree : Tree) (l r : MathMode) → StandsAt m tree l r → JoinedStands m (math_piece tree l r)
math-stands m tree l r h = grind (arith, nat_tests, ends-math)

pub pieces-lead : (scraps : List Scrap) (n d e : ℕ) (ps : List Piece) → e ≡ d + n → braces_pair d ps ≡ true → All (λ p.
    (m : ℕ) → Stands scraps m p) (between d ps) → All (Stands scraps n) ps → Lead n e (map (joined_of scraps) ps)
pieces-lead scraps n d e [] is pair held out = let none : d ≡ 0 = eqb-true d 0 pair in omega (arith, is, none)
pieces-lead scraps n d e (OpenBrace ∷ ps) is pair held out =
    pieces-lead scraps n (suc d) (suc e) ps (omega (arith, is)) pair held (All-tail (Stands scraps n) OpenBrace ps out)
pieces-lead scraps n d e (OpenRelation ∷ ps) is pair held out = pieces-lead scraps n (suc d) (suc e) ps
    (omega (arith, is)) pair held (All-tail (Stands scraps n) OpenRelation ps out)
pieces-lead scraps n zero e (CloseBrace ∷ ps) is pair held out = absurd cc
pieces-lead scraps n (suc d) zero (CloseBrace ∷ ps) is pair held out = absurd (omega (arith, is))
pieces-lead scraps n (suc d) (suc e) (CloseBrace ∷ ps) is pair held out =
    pieces-lead scraps n d e ps (omega (arith, is)) pair held (All-tail (Stands scraps n) CloseBrace ps out)
pieces-lead scraps n zero e (p ∷ ps) is pair held out =
    let here : n ≡ e = omega (arith, is) in
    lead-on n e (joined_of scraps p) (map (joined_of scraps) ps)
    (subst (λ m. JoinedStands m (joined_of scraps p)) here (All-head (Stands scraps n) p ps out))
    (pieces-lead scraps n zero e ps is pair held (All-tail (Stands scraps n) p ps out))
pieces-lead scraps n (suc d) e (p ∷ ps) is pair held out = lead-on n e (joined_of scraps p) (map (joined_of scraps) ps)
    (All-head (λ q. (m : ℕ) → Stands scraps m q) p (between (suc d) ps) held e)
    (pieces-lead scraps n (suc d) e ps is pair (All-tail (λ q. (m : ℕ) → Stands scraps m q) p (between (suc d) ps) held)
    (All-tail (Stands scraps n) p ps out))

-- a row that leaves a scrap as it is has this piece alone
pub alone-pieces : (n : ℕ) (ps : List Piece) (k : ℕ) → alone n ps ≡ Some k → ps ≡ ScrapOf k ∷ []
alone-pieces n ps k e = grind (arith, nat_tests)
