-- Tokens that are cut, where they stand in a text.
use Rattle.std.specs.Prelude.{ℕ, ◌+◌, ◌<◌, ◌≤◌, List, ◌∷◌, length, drop, slice_index}
use Rattle.cw_rules.specs.declared.cuttings.Cutting.{Cutting}
use Rattle.cw_rules.specs.declared.tokens.Directive.TheVariants.{No}
use Rattle.cw_rules.specs.Answers.{Cut}
use Rattle.cw_rules.specs.Pending.{pending_notes, IsInside}

-- the bytes of a text from a place on, by the first of them
abbrev pub bytes_at : List ℕ → ℕ → List ℕ
bytes_at text place = slice_index text place ∷ drop (place + 1) text

-- what a token that is cut is to the rules
abbrev pub cut_of : List ℕ → Cutting → Cut
cut_of text cut =
    record { kind = cut.kind; directive = No; size = cut.size; notes = pending_notes text cut.pending }

-- a token that is cut at a place lies in the text
pub record IsCut (text : List ℕ) (place : ℕ) (cut : Cutting) : Type 0 where
  pub some : 0 < cut.size
  pub within : place + cut.size ≤ length text
  pub inside : IsInside (length text) cut.pending.body
