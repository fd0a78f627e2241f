-- All names are marked while the marks are there. Where they were given back, each position is near.
use Rattle.std.proofs.Common.{◌≡◌, ℕ, ◌+◌, ◌<◌, true, List, [], ◌∷◌, ◌++◌, length, map, slice_set, arith}
use Rattle.cw_secnames.specs.declared.{kinds.RefKind.RefKind, kinds.SecKind.SecKind, sec_names.KeptName.KeptName}
use Rattle.cw_secnames.specs.{declared.name_marks.NameMarks.NameMarks, model.Inside.name_of, Kept.SecName}
use Rattle.cw_secnames.specs.{model.NameMarks.AreMarkedNames, model.NameMarks.KeepsNames, References.with_reference}
use Rattle.cw_secnames.specs.Marks.{is_one_of}
use Rattle.cw_secnames.specs.model.Marks.{HoldNear, IsMarked}
use Rattle.cw_secnames.proofs.Nearest.{marked-behind, marked-more, marked-set, marked-with_reference}

pub named-more : (m more : NameMarks) (k : ℕ) (names : List SecName) → KeepsNames m more → AreMarkedNames m k names
    → AreMarkedNames more k names
named-more m more k names keeps h = λ live. marked-more m.marks more.marks k names (keeps live).1 (h (keeps live).0)

pub named-behind : (m : NameMarks) (k : ℕ) (xs : List KeptName) (x : KeptName) → AreMarkedNames m k (map name_of xs)
    → (m.live
    ≡ true → IsMarked m.marks x.kind x.text.items (k + length xs)) → AreMarkedNames m k (map name_of (xs ++ x ∷ []))
named-behind m k xs x h here = λ live. marked-behind m.marks k xs x (h live) (here live)

pub named-set : (m : NameMarks) (k : ℕ) (xs : List KeptName) (i : ℕ) (new : KeptName) → AreMarkedNames m k
    (map name_of xs)
    → (m.live ≡ true → IsMarked m.marks new.kind new.text.items (k + i))
    → AreMarkedNames m k (map name_of (slice_set xs i new))
named-set m k xs i new h here = λ live. marked-set m.marks k xs i new (h live) (here live)

pub named-with_reference : (m : NameMarks) (k i : ℕ) (how : RefKind) (section : ℕ) (names : List SecName)
    → AreMarkedNames m k names → AreMarkedNames m k (with_reference i how section names)
named-with_reference m k i how section names h = λ live. marked-with_reference m.marks k i how section names (h live)

-- positions that hold all of so many are near every text
pub all-near : (positions : List ℕ) (kind : SecKind) (text : List ℕ) (k : ℕ) (names : List SecName)
    → ((j : ℕ) → j < k + length names → is_one_of j positions ≡ true) → HoldNear positions kind text k names
all-near positions kind text k [] all = tt
all-near positions kind text k (n ∷ names) all = (
  λ _. all k (omega arith),
  all-near positions kind text (k + 1) names (λ j low. all j (omega arith)),
)
