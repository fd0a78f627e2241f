-- Names, and the rows that they stand for.
use Rattle.cw_mini.proofs.Terms.{◌≡◌, ℕ, zero, suc, ◌+◌, ◌<◌, ◌&&◌, Bool, true, false, List, [], ◌∷◌, ◌++◌, All, refl}
use Rattle.cw_mini.proofs.Terms.{sym, ap, ◌∙◌, append_assoc, arith, cond, drop, filter, get_or, length, map, append-nil}
use Rattle.cw_mini.proofs.Terms.{All-head, All-tail, list_if, Entry, NameId, Occurrence, SectionRef, mentions, IndexRow}
use Rattle.cw_mini.proofs.Terms.{has_sections, needs_underline, row, MiniRow, defining, is_listed_in, is_own_name}
use Rattle.cw_mini.proofs.Terms.{is_used_in, mini_row, numbers, positions, row_names}
use Rattle.cw_mini.proofs.{ListingLaws.defining-listed, NamedRows.IsRowOf}

-- The row at a place among rows is that of the name there, and they are so.
pub record IsHere (P : IndexRow → Type 0) (ids : List NameId) (rows : List IndexRow) (i : ℕ) (d : NameId) : Type 0 where
  pub row : IndexRow
  pub next : drop i rows ≡ row ∷ drop (i + 1) rows
  pub name : row.name ≡ (get_or ids i d).index
  pub is : P row

more : (i : ℕ) → suc i ≡ i + 1
more i = grind arith

first-same : (a b : ℕ) (rest others : List ℕ) → a ∷ rest ≡ b ∷ others → a ≡ b
first-same a b rest others e = cc

rest-same : (a b : ℕ) (rest others : List ℕ) → a ∷ rest ≡ b ∷ others → rest ≡ others
rest-same a b rest others e = cc

none-same : (a : ℕ) (rest : List ℕ) → a ∷ rest ≡ [] → ⊥
none-same a rest e = cc

pub row-here : (P : IndexRow → Type 0) (ids : List NameId) (rows : List IndexRow) (i : ℕ) (d : NameId)
    → positions ids ≡ row_names rows → All P rows → i < length ids → IsHere P ids rows i d
row-here P [] rows i d same all low = absurd (omega arith)
row-here P (id ∷ ids) [] i d same all low = absurd (none-same id.index (positions ids) same)
row-here P (id ∷ ids) (r ∷ rows) zero d same all low = record {
  row = r;
  next = refl;
  name = sym (first-same id.index r.name (positions ids) (row_names rows) same);
  is = All-head P r rows all;
}
row-here P (id ∷ ids) (r ∷ rows) (suc i) d same all low =
    let here : IsHere P ids rows i d = row-here P ids rows i d
    (rest-same id.index r.name (positions ids) (row_names rows) same) (All-tail P r rows all) (omega arith) in
    record {
      row = here.row;
      next = here.next ∙ ap (λ (n : ℕ). here.row ∷ drop n rows) (sym (more i))
          ∙ ap (λ (n : ℕ). here.row ∷ drop n (r ∷ rows)) (more (suc i));
      name = here.name;
      is = here.is;
    }

-- ## Rows that a section lists

-- whether a section lists a name, by the places of the name
abbrev pub listed_by : List Occurrence → ℕ → NameId → Entry → Bool
listed_by occurrences section id entry =
    let ms : List SectionRef = mentions id.index occurrences in
    (is_own_name id.index entry && has_sections (defining ms)) && is_used_in section ms (defining ms)

pub row-listed : (occurrences : List Occurrence) (section : ℕ) (id : NameId) (r : IndexRow) → r.name ≡ id.index
    → r ≡ row r.name r.entry occurrences → is_listed_in section occurrences r ≡ listed_by occurrences section id r.entry
row-listed occurrences section id r name is = ap (is_listed_in section occurrences) is
    ∙ ap (λ (ds : List SectionRef). (is_own_name r.name r.entry && has_sections ds) && is_used_in section
    (mentions r.name occurrences) ds) (defining-listed (needs_underline r.name r.entry) (mentions r.name occurrences))
    ∙ ap (λ (n : ℕ). (is_own_name n r.entry && has_sections (defining (mentions n occurrences))) && is_used_in section
    (mentions n occurrences) (defining (mentions n occurrences))) name

-- what a section has of names, with the rows of those that are still to come
abbrev pub with_rows : ℕ → List Occurrence → List ℕ → List IndexRow → List ℕ
with_rows section occurrences names later = names ++ row_names (filter (is_listed_in section occurrences) later)

pub row-next : (b : Bool) (names : List ℕ) (r : IndexRow) (rest : List IndexRow)
    → (names ++ list_if b (r.name ∷ [])) ++ row_names rest ≡ names ++ row_names (cond b (r ∷ rest) rest)
row-next b names r rest = grind (arith, append_assoc, append-nil)

pub with-next : (occurrences : List Occurrence) (section : ℕ) (names new : List ℕ) (ids : List NameId)
    (rows : List IndexRow)
    (i : ℕ) (d : NameId) (all : List Entry) → (here : IsHere (IsRowOf all occurrences) ids rows i d) → new ≡ names
    ++ list_if (listed_by occurrences section (get_or ids i d) here.row.entry) ((get_or ids i d).index ∷ [])
    → with_rows section occurrences new (drop (i + 1) rows) ≡ with_rows section occurrences names (drop i rows)
with-next occurrences section names new ids rows i d all here is =
    let rest : List IndexRow = filter (is_listed_in section occurrences) (drop (i + 1) rows) in
    let id : NameId = get_or ids i d in
    ap (λ (l : List ℕ). l ++ row_names rest) is ∙ ap (λ (b : Bool). (names ++ list_if b (id.index ∷ [])) ++ row_names
    rest) (sym (row-listed occurrences section id here.row here.name here.is.is)) ∙ ap (λ (n : ℕ). (names ++ list_if
    (is_listed_in section occurrences here.row) (n ∷ [])) ++ row_names rest) (sym here.name) ∙ row-next (is_listed_in
    section occurrences here.row) names here.row rest ∙ ap (with_rows section occurrences names) (sym here.next)

-- ## Rows of one section

-- its rows, with those of the rows that are still to come
abbrev pub rows_with : ℕ → List Occurrence → List MiniRow → List IndexRow → List MiniRow
rows_with section occurrences rows later = rows ++ map mini_row (filter (is_listed_in section occurrences) later)

mini-row-is : (occurrences : List Occurrence) (id : NameId) (r : IndexRow) → r.name ≡ id.index → r ≡ row r.name r.entry
    occurrences → mini_row r ≡ record { name = id.index; sections = numbers (defining (mentions id.index occurrences)) }
mini-row-is occurrences id r name is = ap mini_row is
    ∙ ap (λ (ds : List SectionRef). let m : MiniRow = record { name = r.name; sections = numbers ds } in m)
    (defining-listed (needs_underline r.name r.entry) (mentions r.name occurrences)) ∙ ap
    (λ (n : ℕ). let m : MiniRow = record { name = n; sections = numbers (defining (mentions n occurrences)) } in m) name

kept : (t : Bool) (rows : List MiniRow) (r : IndexRow) (rest : List IndexRow) → t ≡ true
    → (rows ++ mini_row r ∷ []) ++ map mini_row rest ≡ rows ++ map mini_row (cond t (r ∷ rest) rest)
kept true rows r rest e = append_assoc rows (mini_row r ∷ []) (map mini_row rest)
kept false rows r rest e = absurd cc

left : (t : Bool) (rows : List MiniRow) (r : IndexRow) (rest : List IndexRow) → t ≡ false
    → rows ++ map mini_row rest ≡ rows ++ map mini_row (cond t (r ∷ rest) rest)
left true rows r rest e = absurd cc
left false rows r rest e = refl

module _ (occurrences : List Occurrence) (section : ℕ) (ids : List NameId) (rows : List IndexRow) (i : ℕ) (d : NameId)
    (all : List Entry) (here : IsHere (IsRowOf all occurrences) ids rows i d) where
  abbrev rest : List IndexRow
  rest = filter (is_listed_in section occurrences) (drop (i + 1) rows)

  pub row-kept : (old new : List MiniRow) (sections : List ℕ) → listed_by occurrences section (get_or ids i d)
      here.row.entry ≡ true → sections ≡ numbers (defining (mentions (get_or ids i d).index occurrences))
      → new ≡ old ++ record { name = (get_or ids i d).index; sections = sections } ∷ []
      → rows_with section occurrences new (drop (i + 1) rows) ≡ rows_with section occurrences old (drop i rows)
  row-kept old new sections is given e = ap (λ (l : List MiniRow). l ++ map mini_row rest) (e
      ∙ ap (λ (ds : List ℕ). old ++ record { name = (get_or ids i d).index; sections = ds } ∷ []) given ∙ ap
      (λ (m : MiniRow). old ++ m ∷ []) (sym (mini-row-is occurrences (get_or ids i d) here.row here.name here.is.is)))
      ∙ kept (is_listed_in section occurrences here.row) old here.row rest (row-listed occurrences section
      (get_or ids i d) here.row here.name here.is.is ∙ is) ∙ ap (rows_with section occurrences old) (sym here.next)

  pub row-left : (old : List MiniRow) → listed_by occurrences section (get_or ids i d) here.row.entry ≡ false
      → rows_with section occurrences old (drop (i + 1) rows) ≡ rows_with section occurrences old (drop i rows)
  row-left old is = left (is_listed_in section occurrences here.row) old here.row rest (row-listed occurrences section
      (get_or ids i d) here.row here.name here.is.is ∙ is) ∙ ap (rows_with section occurrences old) (sym here.next)
