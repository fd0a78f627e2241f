-- What is asked of the names near a text.
use Rattle.std.specs.Prelude.{ℕ, Bool, true, false, ◌&&◌, nat_lt, nat_le, List, [], ◌∷◌, length, Option, Some, None}
use Rattle.std.specs.Prelude.{if◌then◌else◌}
use Rattle.std.specs.Prelude.{slice_index_or}
use Rattle.cw_secnames.specs.declared.kinds.SecKind.{SecKind}
use Rattle.cw_secnames.specs.declared.kinds.SecKind.TheVariants.{Named}
use Rattle.cw_secnames.specs.declared.sec_names.Asked.{Asked}
use Rattle.cw_secnames.specs.declared.sec_names.Asked.TheVariants.{Whole, Growing, Conflicting, Candidate}
use Rattle.cw_secnames.specs.Kept.{SecName, unreferred, has_text, grows_to, conflicts_with, is_candidate}

abbrev pub kind_asked : Asked → SecKind
kind_asked (Whole kind) = kind
kind_asked (Growing kind) = kind
kind_asked (Conflicting kind) = kind
kind_asked Candidate = Named

abbrev pub passes : Asked → List ℕ → SecName → Bool
passes (Whole kind) text n = has_text kind text n
passes (Growing kind) text n = grows_to kind text n
passes (Conflicting kind) text n = conflicts_with kind text n
passes Candidate text n = is_candidate text n

-- whether there is a name at a position, and it passes a test
abbrev pub passes_at : (SecName → Bool) → List SecName → ℕ → Bool
passes_at test names k = nat_lt k (length names) && test (slice_index_or names k (unreferred Named [] false))

abbrev pub is_below : ℕ → Option ℕ → Bool
is_below k None = true
is_below k (Some least) = nat_lt k least

abbrev pub chosen : Bool → ℕ → Option ℕ → Option ℕ
chosen lesser k least = if lesser then Some k else least

-- Whether a position is less than the least so far, and its name passes a test; it isn't before another position.
abbrev pub is_lesser : (SecName → Bool) → List SecName → ℕ → Option ℕ → ℕ → Bool
is_lesser test names from least k = nat_le from k && (is_below k least && passes_at test names k)

-- the least of some positions whose names pass, behind the least so far
abbrev pub least_of : (SecName → Bool) → List SecName → ℕ → Option ℕ → List ℕ → Option ℕ
least_of test names from least [] = least
least_of test names from least (k ∷ positions) =
    least_of test names from (chosen (is_lesser test names from least k) k least) positions
