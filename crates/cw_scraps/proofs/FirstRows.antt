-- The first row that fits at a place of a line, by the four categories that are read there.
use Rattle.cw_scraps.proofs.Terms.{◌≡◌, ℕ, ◌+◌, true, Option, Some, None, List, [], ◌∷◌, drop, get_or, unwrap_or}
use Rattle.cw_scraps.proofs.Terms.{IfSome, refl, sym, ◌∙◌, ap, arith, option_map, get_or-drop, Cat, End, Row, row_fits}
use Rattle.cw_scraps.proofs.Terms.{first_of, window_of, productions, row_numbered, first-window, LineEntry, entry_cats}
use Rattle.cw_scraps.proofs.Terms.{no_entry}
use Rattle.std.proofs.Math.ListN.{get_or-map}
use Rattle.cw_table.specs.declared.types.RowNo.{RowNo}
use Rattle.cw_table.proofs.{Examples.productions-sound, Examples.productions-numbered, Numbers.first-numbered}
use Rattle.cw_table.proofs.{SafeLaws.first-fits}
use Rattle.cw_scraps.specs.Applying.{row_of, no_row}

window-four : (cats : List Cat) → window_of cats ≡ get_or cats 0 End ∷ get_or cats 1 End ∷ get_or cats 2 End
    ∷ get_or cats 3 End ∷ []
window-four cats = grind arith

cat-line : (line : List LineEntry) (place i : ℕ) → (get_or line (place + i) no_entry).cat
    ≡ get_or (drop place (entry_cats line)) i End
cat-line line place i = sym (get_or-drop place (entry_cats line) i End
    ∙ get_or-map (λ entry. entry.cat) line (place + i) no_entry)

-- the four categories at a place
pub window-line : (line : List LineEntry) (place : ℕ)
    → (get_or line place no_entry).cat ∷ (get_or line (place + 1) no_entry).cat ∷ (get_or line (place + 2) no_entry).cat
    ∷ (get_or line (place + 3) no_entry).cat ∷ [] ≡ window_of (drop place (entry_cats line))
window-line line place = ap (λ i. (get_or line i no_entry).cat ∷ (get_or line (place + 1) no_entry).cat ∷ (get_or line
    (place + 2) no_entry).cat ∷ (get_or line (place + 3) no_entry).cat ∷ []) (let e : place ≡ place + 0 = omega arith in
    e) ∙ (rw (cat-line line place 0, cat-line line place 1, cat-line line place 2, cat-line line place 3)
    (sym (window-four (drop place (entry_cats line)))))

abbrev number_of : Option Row → Option RowNo
number_of o = option_map (λ row. row.number) o

abbrev pub fits_at : List Cat → Option RowNo → Type 0
fits_at cats o = IfSome o (λ row. row_fits (row_of productions row.number) cats ≡ true)

first-is : (cats : List Cat) (o : Option RowNo) (first : Option Row) → first_of productions cats ≡ first
    → o ≡ number_of first → fits_at cats o
first-is cats None first found is = tt
first-is cats (Some n) None found is = absurd cc
first-is cats (Some n) (Some row) found is =
    let same : n ≡ row.number = cc in
    let numbered : row_numbered productions n.number ≡ Some row = ap (λ (m : RowNo). row_numbered productions m.number)
    same ∙ (first-numbered productions 1 cats row productions-numbered found).1 in
    let row_is : row_of productions n.number ≡ row = ap (λ (x : Option Row). unwrap_or x no_row) numbered in
    rw row_is (first-fits productions cats row found productions-sound).0

-- the row whose number the window gives fits
pub first-line : (line : List LineEntry) (place : ℕ) (window : List Cat) (o : Option RowNo)
    → window ≡ window_of (drop place (entry_cats line))
    → o ≡ option_map (λ row. row.number) (first_of productions window) → fits_at (drop place (entry_cats line)) o
first-line line place window o w is = first-is (drop place (entry_cats line)) o
    (first_of productions (drop place (entry_cats line))) refl (is ∙ ap number_of (ap (first_of productions) w
    ∙ first-window productions (drop place (entry_cats line)) productions-sound))
