-- The letters of a name that is a macro of TeX.
use Rattle.cw_join.proofs.Terms.{◌≡◌, ℕ, ◌+◌, ◌<◌, List, [], ◌∷◌, ◌++◌, length, map, get_or, drop, ap, ◌∙◌, sym}
use Rattle.cw_join.proofs.Terms.{add-one, drop-cons, append_assoc, Ok, ⊤, DeskState, Prints, Sheet, macro_letter}

-- what the walk over a name holds: what is put already, with the letters of the rest
pub record LettersPut {D : Type 0} (told : D → DeskState) (name rest : List ℕ) (old new : Sheet D) : Type 0 where
  pub done : List ℕ
  pub put : Prints {T = ⊤} told done old new (Ok (tt {0}))
  pub is : done ++ map macro_letter rest ≡ map macro_letter name

next-letter : (name : List ℕ) (i : ℕ) → i < length name → drop i name ≡ get_or name i 0 ∷ drop (i + 1) name
next-letter name i within = rw (add-one, drop-cons name i 0)

-- one letter more
pub letters-more : (name done : List ℕ) (i letter : ℕ) → i < length name → letter ≡ macro_letter (get_or name i 0)
    → done ++ map macro_letter (drop i name) ≡ map macro_letter name
    → (done ++ letter ∷ []) ++ map macro_letter (drop (i + 1) name) ≡ map macro_letter name
letters-more name done i letter within is put = append_assoc done (letter ∷ []) (map macro_letter (drop (i + 1) name))
    ∙ ap (λ (l : List ℕ). done ++ l) (ap (λ (x : ℕ). x ∷ map macro_letter (drop (i + 1) name)) is
    ∙ sym (ap (λ (l : List ℕ). map macro_letter l) (next-letter name i within))) ∙ put
