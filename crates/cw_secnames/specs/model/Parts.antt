-- The models beside `specs/Parts`.
use Rattle.std.specs.Prelude.{◌≡◌, ℕ, ◌+◌, ◌<◌, ◌≤◌, false, List, ◌∷◌, Option}
use Rattle.std.specs.Prelude.{drop, length, option_map}
use Rattle.cw_base.specs.declared.span.Span.{Span}
use Rattle.cw_secnames.specs.Parts.{parts_from, size_to_bar}

-- ## One part after another

-- the place of the bar that ends a part which begins here
abbrev pub end_of_part : List ℕ → ℕ → Option ℕ
end_of_part text place = option_map (λ size. place + size) (size_to_bar false (drop place text))

abbrev pub parts_at : List ℕ → ℕ → List Span
parts_at text place = parts_from (drop place text) place 0

-- The parts from a place on: this one and those behind its bar.
pub record IsNextPart (text : List ℕ) (place : ℕ) (span : Span) : Type 0 where
  pub parts : parts_at text place ≡ span ∷ parts_at text (span.«end» + 1)
  pub begins : place < span.start
  pub order : span.start ≤ span.«end»
  pub within : span.«end» < length text
