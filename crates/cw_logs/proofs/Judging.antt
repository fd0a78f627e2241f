-- Reading a file line by line.
use Rattle.cw_logs.proofs.Terms.{◌≡◌, ℕ, zero, suc, ◌+◌, ◌<◌, ◌≤◌, List, [], ◌∷◌, length, take, drop, get_or, refl}
use Rattle.cw_logs.proofs.Terms.{◌∙◌, arith, common_steps, pieces_of, Spot, Outside, Inside, IsFirstLine, IsLog}
use Rattle.cw_logs.proofs.Terms.{IsFaultAt, Reads, none, more, Step, Stuck}
use Rattle.cw_logs.proofs.StepLaws.{joined-reads, read-is-log, stuck-is-fault, inside-is-fault}

-- The lines before this one are read, and those from it on are the rest.
pub record ReadSoFar (file rest : List ℕ) (spot : Spot) (line : ℕ) : Type 0 where
  pub good : ℕ
  pub next : line ≡ good + 1
  pub within : good ≤ length (pieces_of file)
  pub read : Reads Outside (take good (pieces_of file)) spot
  pub left : drop good (pieces_of file) ≡ pieces_of rest

pub nothing-read : (file : List ℕ) → ReadSoFar file file Outside 1
nothing-read file = record { good = 0; next = refl; within = omega arith; read = none Outside; left = refl }

-- the first of those that are left
pub record AtHand (lines : List (List ℕ)) (good : ℕ) (line : List ℕ) (others : List (List ℕ)) : Type 0 where
  pub within : good < length lines
  pub is : get_or lines good [] ≡ line
  pub later : drop (suc good) lines ≡ others

pub at-hand : (lines : List (List ℕ)) (good : ℕ) (line : List ℕ) (later : List (List ℕ))
    → drop good lines ≡ line ∷ later → AtHand lines good line later
at-hand [] zero line later e = absurd cc
at-hand [] (suc n) line later e = absurd cc
at-hand (l ∷ ls) zero line later e = record { within = omega arith; is = cc; later = cc }
at-hand (l ∷ ls) (suc n) line later e = grind (arith, at-hand ls n line later e)

pub one-more : (file rest line tail : List ℕ) (spot next : Spot) (count : ℕ) → ReadSoFar file rest spot count
    → IsFirstLine rest line tail → Step spot line next → ReadSoFar file tail next (count + 1)
one-more file rest line tail spot next count r cut step = grind (
  arith,
  common_steps,
  at-hand (pieces_of file) r.good line (pieces_of tail) (r.left ∙ cut.cut),
  joined-reads Outside
      spot next (take r.good (pieces_of file)) (line ∷ []) r.read (more spot next next line [] step (none next)),
)

pub stuck-here : (file rest line tail : List ℕ) (spot : Spot) (count : ℕ) → ReadSoFar file rest spot count
    → IsFirstLine rest line tail → Stuck spot line → IsFaultAt (pieces_of file) count
stuck-here file rest line tail spot count r cut stuck = grind (arith, at-hand, stuck-is-fault)

pub all-taken : (lines : List (List ℕ)) (n : ℕ) → n ≤ length lines → drop n lines ≡ []
    → (take n lines ≡ lines) × (n ≡ length lines)
all-taken [] zero within e = (refl, refl)
all-taken [] (suc n) within e = absurd (omega (arith, within))
all-taken (l ∷ ls) zero within e = absurd cc
all-taken (l ∷ ls) (suc n) within e = grind (arith, all-taken ls n (omega (arith, within)) e)

pub whole-read : (file : List ℕ) (count : ℕ) → ReadSoFar file [] Outside count → IsLog (pieces_of file)
whole-read file count r = grind (arith, all-taken, read-is-log)

pub cut-inside : (file : List ℕ) (to_come count : ℕ) → ReadSoFar file [] (Inside to_come) count
    → IsFaultAt (pieces_of file) count
cut-inside file to_come count r = grind (arith, all-taken, inside-is-fault)
