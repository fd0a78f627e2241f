-- References that are added one by one, and the notes on names one by one.
use Rattle.cw_phase1.proofs.Terms.{◌≡◌, ℕ, zero, suc, ◌+◌, ◌<◌, Bool, List, [], ◌∷◌, ◌++◌, All, map, drop, length}
use Rattle.cw_phase1.proofs.Terms.{get_or, refl, ap, sym, ◌∙◌, append_assoc, zero-add, arith, slice_get, append-nil}
use Rattle.cw_phase1.proofs.Terms.{Answer, Token, Begin, Finish, Note, SecKind, SecName, unreferred, with_text, grown}
use Rattle.cw_phase1.proofs.Terms.{Reference, referred, referring_of, Naming, naming, entering, kept_by, kept_behind}
use Rattle.cw_phase1.proofs.Terms.{kept_after, name_notes_from, notes_at_by, with_references}
use Rattle.cw_secnames.specs.laws.ReferenceLaws.{referred-more}
use Rattle.cw_phase1.specs.declared.name_lists.Referring.{Referring}

-- ## Names without references

abbrev IsBare : SecName → Type 0
IsBare n = (n.defined ≡ []) × (n.used ≡ []) × (n.cited ≡ [])

abbrev AreBare : List SecName → Type 0
AreBare [] = Unit {0}
AreBare (n ∷ names) = IsBare n × AreBare names

bare-referred : (k : ℕ) (names : List SecName) → AreBare names → referred [] k names ≡ names
bare-referred k [] h = refl
bare-referred k (n ∷ names) h = (λ i. record n { defined = sym (h.0.0) i; used = sym (h.0.1) i; cited = sym (h.0.2) i }
    ∷ bare-referred (k + 1) names h.1 i)

bare-last : (names : List SecName) (kind : SecKind) (text : List ℕ) (complete : Bool) → AreBare names
    → AreBare (names ++ unreferred kind text complete ∷ [])
bare-last [] kind text complete h = ((refl, refl, refl), tt)
bare-last (n ∷ names) kind text complete h = (h.0, bare-last names kind text complete h.1)

bare-text : (i : ℕ) (text : List ℕ) (complete : Bool) (names : List SecName) → AreBare names
    → AreBare (with_text i text complete names)
bare-text i text complete [] h = h
bare-text zero text complete (n ∷ names) h = h
bare-text (suc i) text complete (n ∷ names) h = (h.0, bare-text i text complete names h.1)

bare-grown : (prefix : List ℕ) (i : ℕ) (names : List SecName) → AreBare names → AreBare (grown prefix i names)
bare-grown prefix i [] h = h
bare-grown prefix zero (n ∷ names) h = grind arith
bare-grown prefix (suc i) (n ∷ names) h = (h.0, bare-grown prefix i names h.1)

bare-entering : (n : Naming) (names : List SecName) → AreBare names → AreBare (kept_by (entering n names) names)
bare-entering n names h = grind (arith, bare-text, bare-last, bare-last, bare-grown)

bare-kept : (names : List SecName) (answers : List Answer) → AreBare names → AreBare (kept_after names answers)
bare-kept names [] h = h
bare-kept names (Token t ∷ answers) h = bare-kept (kept_behind t names) answers
    (bare-entering (naming t.kind t.text) names h)
bare-kept names (Begin t ∷ answers) h = bare-kept names answers h
bare-kept names (Finish t ∷ answers) h = bare-kept names answers h
bare-kept names (Note kind place ∷ answers) h = bare-kept names answers h

-- ## References

add-all : (before references : List Reference) (names : List SecName)
    → with_references references (referred before 0 names) ≡ referred (before ++ references) 0 names
add-all before [] names = ap (λ rs. referred rs 0 names) (sym (append-nil before))
add-all before (r ∷ references) names =
    let one = ap (λ n. before ++ record { name = n; how = r.how; section = r.section } ∷ []) (zero-add r.name) in
    grind (arith, add-all (before ++ r ∷ []) references names, referred-more, append_assoc)

-- The kept names with all references.
pub all-referred : (references : List Reference) (answers : List Answer)
    → with_references references (kept_after [] answers) ≡ referred references 0 (kept_after [] answers)
all-referred references answers = ap (with_references references) (sym
    (bare-referred 0 (kept_after [] answers) (bare-kept [] answers tt))) ∙ add-all [] references (kept_after [] answers)

pub of-kept : (items : List Referring) (n k : ℕ) (d : Referring)
    → All (λ (r : Reference). r.name < n) (map referring_of items) → k < length items → (get_or items k d).name < n
of-kept [] n k d a h = absurd (omega arith)
of-kept (r ∷ items) n zero d a h = a zero (referring_of d) (omega arith)
of-kept (r ∷ items) n (suc k) d a h = of-kept items n k d (λ j e l. a (suc j) e (omega arith)) (omega arith)

-- ## Notes

pub names-step : (names : List SecName) (j k : ℕ) → k < length names → name_notes_from j (drop k names)
    ≡ notes_at_by (slice_get names k) j ++ name_notes_from (j + 1) (drop (k + 1) names)
names-step [] j k h = absurd (omega arith)
names-step (n ∷ names) j zero h = refl
names-step (n ∷ names) j (suc k) h = grind (arith, names-step names j k (omega arith))
