-- What a desk of real files has answered so far, the newest first, and which files would have given these answers.
use Rattle.std.specs.Prelude.{◌≡◌, ◌⊎◌, ℕ, ◌+◌, ◌==◌, List, [], ◌∷◌, ◌++◌, Some, None, Option, if◌then◌else◌}
use Rattle.std.specs.Prelude.{drop, length, refl}
use Rattle.std.proofs.Common.{inl, inr}
use Rattle.std.specs.Coded.{Coded, code_by, coded_ℕ, coded_list, coded×, coded⊎}
use Rattle.std.specs.FinMap.{get}
use Rattle.cw_desk.specs.Meaning.{Files}

pub data Answer : Type 0 where
  Opened : ℕ → List ℕ → Answer  -- the file of this name was opened, under this number
  Missing : List ℕ → Answer  -- no file had this name
  Read : ℕ → List ℕ → Answer  -- these bytes came from the file of this number
  End : ℕ → Answer  -- nothing more came from the file of this number

-- the bytes of a file, none where it is missing
abbrev pub text_of : Option (List ℕ) → List ℕ
text_of None = []
text_of (Some bytes) = bytes

-- what is unread of each opened file, if the files are these
abbrev pub rest_of : List Answer → Files → ℕ → List ℕ
rest_of [] files i = []
rest_of (Opened j name ∷ older) files i = if i == j then text_of (get files name) else rest_of older files i
rest_of (Missing name ∷ older) files i = rest_of older files i
rest_of (Read j bytes ∷ older) files i =
    if i == j then drop (length bytes) (rest_of older files i) else rest_of older files i
rest_of (End j ∷ older) files i = rest_of older files i

-- how many bytes came in all
abbrev pub came_in : List Answer → ℕ
came_in [] = 0
came_in (Opened j name ∷ older) = came_in older
came_in (Missing name ∷ older) = came_in older
came_in (Read j bytes ∷ older) = came_in older + length bytes
came_in (End j ∷ older) = came_in older

-- These files would have given all the answers.
abbrev pub Agree : List Answer → Files → Type 0
Agree [] files = Unit {0}
Agree (Opened j name ∷ older) files = Agree older files × (get files name ≡ Some (text_of (get files name)))
Agree (Missing name ∷ older) files = Agree older files × (get files name ≡ None)
Agree (Read j bytes ∷ older) files =
    Agree older files × (rest_of older files j ≡ bytes ++ drop (length bytes) (rest_of older files j))
Agree (End j ∷ older) files = Agree older files × (rest_of older files j ≡ [])

-- No files would have given these answers.
abbrev pub NoneAgree : List Answer → Type 0
NoneAgree answers = (files : Files) → Agree answers files → ⊥

-- ## A code, so that a ghost field can hold a list of answers

abbrev pub Cases : Type 0
Cases = ((ℕ × List ℕ) ⊎ List ℕ) ⊎ ((ℕ × List ℕ) ⊎ ℕ)

abbrev pub cases : Answer → Cases
cases (Opened j name) = inl (inl (j, name))
cases (Missing name) = inl (inr name)
cases (Read j bytes) = inr (inl (j, bytes))
cases (End j) = inr (inr j)

abbrev pub from_cases : Cases → Answer
from_cases (inl (inl p)) = Opened p.0 p.1
from_cases (inl (inr name)) = Missing name
from_cases (inr (inl p)) = Read p.0 p.1
from_cases (inr (inr j)) = End j

pub from-cases : (a : Answer) → from_cases (cases a) ≡ a
from-cases (Opened j name) = refl
from-cases (Missing name) = refl
from-cases (Read j bytes) = refl
from-cases (End j) = refl

abbrev pub coded_answer : Coded Answer
coded_answer = code_by Cases
    (coded⊎ (coded⊎ (coded× coded_ℕ (coded_list coded_ℕ)) (coded_list coded_ℕ))
    (coded⊎ (coded× coded_ℕ (coded_list coded_ℕ)) coded_ℕ))
    cases from_cases from-cases
