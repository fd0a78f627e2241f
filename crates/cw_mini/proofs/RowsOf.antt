-- Each row of a small index is that of a row of the index.
use Rattle.cw_mini.proofs.Terms.{◌||◌, ◌≡◌, ℕ, Bool, true, false, ◌&&◌, not, ◌==◌, List, [], ◌∷◌, refl, ◌∙◌, inl, inr}
use Rattle.cw_mini.proofs.Terms.{filter, map, cond, arith, ◌≢◌, nat_tests, Occurrence, SectionRef, mentions, IndexRow}
use Rattle.cw_mini.proofs.Terms.{has_sections, index_rows, defining, is_listed_in, is_own_name, is_used_in, mini_row}
use Rattle.cw_mini.proofs.Terms.{numbers, stands_in}
use Rattle.cw_mini.specs.MiniLaws.{AreDefining, AreOf, IsIn, IsOf, NamesOtherSections, underlined}

and-second : (a b : Bool) → (a && b) ≡ true → b ≡ true
and-second a b e = grind arith

or-false : (a b : Bool) → not (a || b) ≡ true → (a ≡ false) × (not b ≡ true)
or-false a b e = grind arith

other : (a b : ℕ) → (a == b) ≡ false → a ≢ b
other a b e = grind (arith, nat_tests)

-- the underlined sections of a row
defined : (own : ℕ) (row : IndexRow) (ms : List SectionRef)
    → ((m : SectionRef) → m.underlined ≡ true → IsIn m ms → IsIn (underlined m.section) row.sections)
    → not (stands_in own (defining ms)) ≡ true → AreDefining own row (numbers (defining ms))
defined own row [] there apart = tt
defined own row (m ∷ ms) there apart = by m.underlined refl apart (defined own row ms (λ n u is. there n u (inr is)))
  where
    by : (t : Bool) → m.underlined ≡ t → not (stands_in own (cond t (m ∷ defining ms) (defining ms))) ≡ true → (not
        (stands_in own (defining ms)) ≡ true → AreDefining own row (numbers (defining ms))) → AreDefining own row
        (numbers (cond t (m ∷ defining ms) (defining ms)))
    by true e apart rest =
        let both = or-false (m.section == own) (stands_in own (defining ms)) apart in
        (other m.section own both.0, there m e (inl refl), rest both.1)
    by false e apart rest = rest apart

of-row : (own : ℕ) (occurrences : List Occurrence) (rows : List IndexRow) (row : IndexRow) → IsIn row rows
    → is_listed_in own occurrences row ≡ true → IsOf own rows (mini_row row)
of-row own occurrences rows row is listed = record {
  row = row;
  stands = is;
  name = refl;
  sections = defined own row row.sections (λ m u there. at m row.sections u there)
      (and-second (stands_in own (mentions row.name occurrences)) (not (stands_in own (defining row.sections)))
      (and-second (is_own_name row.name row.entry && has_sections (defining row.sections))
      (is_used_in own (mentions row.name occurrences) (defining row.sections)) listed));
}
  where
    same : (m : SectionRef) → m.underlined ≡ true → m ≡ underlined m.section
    same m u = λ i. record { section = m.section; underlined = u i }

    at : (m : SectionRef) (ms : List SectionRef) → m.underlined ≡ true → IsIn m ms → IsIn (underlined m.section) ms
    at m [] u there = there
    at m (n ∷ ms) u (inl e) = inl (e ∙ same m u)
    at m (n ∷ ms) u (inr later) = inr (at m ms u later)

of-rows : (own : ℕ) (occurrences : List Occurrence) (rows some : List IndexRow) → ((row : IndexRow) → IsIn row some
    → IsIn row
    rows) → AreOf own rows (map mini_row (filter (is_listed_in own occurrences) some))
of-rows own occurrences rows [] embed = tt
of-rows own occurrences rows (row ∷ some) embed = by (is_listed_in own occurrences row) refl
    (of-rows own occurrences rows some (λ other is. embed other (inr is)))
  where
    rest : List IndexRow
    rest = filter (is_listed_in own occurrences) some

    by : (t : Bool) → is_listed_in own occurrences row ≡ t → AreOf own rows (map mini_row rest)
        → AreOf own rows (map mini_row (cond t (row ∷ rest) rest))
    by true e are = (of-row own occurrences rows row (embed row (inl refl)) e, are)
    by false e are = are

pub names-other-sections : NamesOtherSections
names-other-sections own names occurrences =
    of-rows own occurrences (index_rows names occurrences) (index_rows names occurrences) (λ row is. is)
