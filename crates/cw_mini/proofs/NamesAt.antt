-- The names of a section, where they lie.
use Rattle.cw_mini.proofs.Terms.{◌≡◌, ℕ, zero, suc, ◌<◌, ◌≤◌, ◌≢◌, List, [], ◌∷◌, ◌++◌, length, get_or, set, Vec}
use Rattle.cw_mini.proofs.Terms.{Global, ap, arith, refl, NameId, names_at, positions}

pub at-pushed : (lists : List (Vec NameId Global)) (list : Vec NameId Global) (name : ℕ) → list.items ≡ []
    → names_at name (lists ++ list ∷ []) ≡ names_at name lists
at-pushed [] list zero empty = ap positions empty
at-pushed (x ∷ lists) list (suc name) empty = at-pushed lists list name empty
at-pushed _ _ _ _ = refl

pub at-set : (lists : List (Vec NameId Global)) (list : Vec NameId Global) (name : ℕ) → name < length lists
    → names_at name (set lists name list) ≡ positions list.items
at-set [] list name low = absurd (omega arith)
at-set (x ∷ lists) list zero low = refl
at-set (x ∷ lists) list (suc name) low = at-set lists list name (omega arith)

pub at-other : (lists : List (Vec NameId Global)) (list : Vec NameId Global) (name other : ℕ) → other ≢ name
    → names_at other (set lists name list) ≡ names_at other lists
at-other (x ∷ lists) list zero zero differ = absurd (differ refl)
at-other (x ∷ lists) list (suc name) (suc other) differ = at-other lists list name other (λ same. differ (ap suc same))
at-other _ _ _ _ _ = refl

pub at-read : (lists : List (Vec NameId Global)) (d : Vec NameId Global) (name : ℕ) → name < length lists
    → names_at name lists ≡ positions (get_or lists name d).items
at-read [] d name low = absurd (omega arith)
at-read (x ∷ lists) d zero low = refl
at-read (x ∷ lists) d (suc name) low = at-read lists d name (omega arith)

pub at-end : (lists : List (Vec NameId Global)) (name : ℕ) → length lists ≤ name → names_at name lists ≡ []
at-end [] name past = refl
at-end (x ∷ lists) zero past = absurd (omega arith)
at-end (x ∷ lists) (suc name) past = at-end lists name (omega arith)
