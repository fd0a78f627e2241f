-- Which sections define, use and cite each section name.
use Rattle.std.specs.Prelude.{ℕ, zero, suc, ◌+◌, max, ◌≤◌, Bool, true, false, ◌&&◌, ◌==◌, List, [], ◌∷◌, ◌++◌, fold}
use Rattle.std.specs.Prelude.{map}
use Rattle.std.specs.List.{filter, range_with_len}
use Rattle.cw_secnames.specs.declared.kinds.RefKind.{RefKind}
use Rattle.cw_secnames.specs.declared.kinds.RefKind.TheVariants.{Defined, Used, Cited}
use Rattle.cw_secnames.specs.Kept.{SecName}
use Rattle.cw_secnames.specs.Marks.{is_one_of}

-- A section refers to a name.
pub record Reference : Type 0 where
  pub name : ℕ
  pub how : RefKind
  pub section : ℕ

abbrev pub same_way : RefKind → RefKind → Bool
same_way Defined Defined = true
same_way Used Used = true
same_way Cited Cited = true
same_way _ _ = false

-- The least number that is above all of these.
abbrev pub above_numbers : List ℕ → ℕ
above_numbers numbers = fold (λ most n. max most (n + 1)) 0 numbers

-- These numbers in ascending order, each once.
abbrev pub once : List ℕ → List ℕ
once numbers = filter (λ n. is_one_of n numbers) (range_with_len 0 (above_numbers numbers))

-- Numbers ascend, each once, from one on.
abbrev pub AscendFrom : ℕ → List ℕ → Type 0
AscendFrom least [] = Unit {0}
AscendFrom least (n ∷ numbers) = (least ≤ n) × AscendFrom (n + 1) numbers

abbrev pub Ascend : List ℕ → Type 0
Ascend numbers = AscendFrom 0 numbers

-- the sections that refer to a name in one way
abbrev pub is_of : ℕ → RefKind → Reference → Bool
is_of name how r = r.name == name && same_way r.how how

abbrev pub referring_sections : ℕ → RefKind → List Reference → List ℕ
referring_sections name how references = once (map (λ r. r.section) (filter (is_of name how) references))

-- The names from a position on, with their references.
abbrev pub referred : List Reference → ℕ → List SecName → List SecName
referred references k [] = []
referred references k (n ∷ names) =
    record n {
      defined = referring_sections k Defined references;
      used = referring_sections k Used references;
      cited = referring_sections k Cited references;
    } ∷ referred references (k + 1) names

-- ## One reference more

-- Numbers with one more: ascending, each once.
unfoldable pub with_number : ℕ → List ℕ → List ℕ
with_number n numbers = once (numbers ++ n ∷ [])

abbrev pub with_section : RefKind → ℕ → SecName → SecName
with_section Defined section n = record n { defined = with_number section n.defined }
with_section Used section n = record n { used = with_number section n.used }
with_section Cited section n = record n { cited = with_number section n.cited }

abbrev pub with_reference : ℕ → RefKind → ℕ → List SecName → List SecName
with_reference name how section [] = []
with_reference zero how section (n ∷ names) = with_section how section n ∷ names
with_reference (suc name) how section (n ∷ names) = n ∷ with_reference name how section names

-- ## Names whose references ascend

-- In each of the three ways.
abbrev pub RefersAscending : SecName → Type 0
RefersAscending n = Ascend n.defined × Ascend n.used × Ascend n.cited

abbrev pub ReferAscending : List SecName → Type 0
ReferAscending [] = Unit {0}
ReferAscending (n ∷ names) = RefersAscending n × ReferAscending names
