-- The rules of tokens over what a spot is made of, each by itself, as laws take them that change a single one.
use Rattle.std.specs.Prelude.{ℕ, Bool, false, List, ◌∷◌}
use Rattle.cw_rules.specs.declared.parts.Part.{Part}
use Rattle.cw_rules.specs.declared.parts.Opened.{Opened}
use Rattle.cw_rules.specs.Answers.{Where, Spot, ScanStep}
use Rattle.cw_rules.specs.Tokens.{behind_head, code_text, comment_text, found, in_text, part_text}

abbrev pub spot : Where → Bool → ℕ → ℕ → Spot
spot w fresh last place = record { stands = w; fresh = fresh; last = last; place = place }

abbrev pub found_apart : Where → Bool → ℕ → ℕ → ℕ → List ℕ → ScanStep
found_apart w fresh last place byte bytes = found (spot w fresh last place) byte bytes

abbrev pub in_text_apart : Part → List Opened → Bool → ℕ → ℕ → ℕ → List ℕ → ScanStep
in_text_apart part comments fresh last place byte bytes =
    in_text comments (spot (record { part = part; comments = comments }) fresh last place) byte bytes

abbrev pub part_text_apart : Part → Where → Bool → ℕ → ℕ → ℕ → List ℕ → ScanStep
part_text_apart part w fresh last place byte bytes = part_text part (spot w fresh last place) byte bytes

abbrev pub code_text_apart : Where → Bool → ℕ → ℕ → ℕ → List ℕ → ScanStep
code_text_apart w fresh last place byte bytes = code_text (spot w fresh last place) byte bytes

abbrev pub behind_head_apart : Bool → Where → Bool → ℕ → ℕ → ℕ → List ℕ → ScanStep
behind_head_apart limbo w fresh last place byte bytes = behind_head limbo (spot w fresh last place) byte bytes

abbrev pub comment_text_apart : Part → Opened → List Opened → ℕ → ℕ → ℕ → List ℕ → ScanStep
comment_text_apart part c comments last place byte bytes =
    comment_text c comments (spot (record { part = part; comments = c ∷ comments }) false last place) byte bytes
