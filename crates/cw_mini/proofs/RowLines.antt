-- The lines of rows, one behind the other.
use Rattle.cw_mini.proofs.Terms.{◌≡◌, ℕ, ◌+◌, ◌&&◌, Bool, true, false, List, [], ◌∷◌, ◌++◌, All, codes, refl, sym, ap}
use Rattle.cw_mini.proofs.Terms.{◌∙◌, append_assoc, cond, drop, filter, flat_map, flat_map-cons, All-cons, All-head}
use Rattle.cw_mini.proofs.Terms.{All-nil, All-tail, Cat, mentions, Entry, EntryKind, Occurrence, SectionRef, IndexRow}
use Rattle.cw_mini.proofs.Terms.{index_rows, is_ident, needs_underline, row, defining, is_listed_in, section_rows}
use Rattle.cw_mini.proofs.Terms.{defining_bytes, row_line, arith}
use Rattle.cw_phase1.specs.declared.sections.Section.{Section}
use Rattle.cw_index.specs.Index.{kind_bytes, word_bytes}
use Rattle.cw_mini.proofs.{ListingLaws.defining-listed, NamedRows.IsRowOf, NamedRows.index-named}

-- ## The line of an identifier

ident-bytes : (kind : EntryKind) (category : Cat) (text : List ℕ) → is_ident kind ≡ true
    → kind_bytes kind category text ≡ word_bytes category text
ident-bytes kind category text is = grind arith

-- It is its word, the sections that define it, and the end.
pub ident-line : (sections : List Section) (name : ℕ) (entry : Entry) (occurrences : List Occurrence) (before : List ℕ)
    → is_ident entry.kind ≡ true
    → ((before ++ word_bytes entry.category entry.text) ++ flat_map (defining_bytes sections)
    (defining (mentions name occurrences))) ++ codes ".\n" ≡ before ++ row_line sections (row name entry occurrences)
ident-line sections name entry occurrences before is =
    let word : List ℕ = word_bytes entry.category entry.text in
    let given : List SectionRef → List ℕ = λ ms. flat_map (defining_bytes sections) (defining ms) in
    let ms : List SectionRef = mentions name occurrences in
    append_assoc (before ++ word) (given ms) (codes ".\n") ∙ append_assoc before word (given ms ++ codes ".\n") ∙ ap
    (λ (bytes : List ℕ). before ++ (bytes ++ (given ms ++ codes ".\n"))) (sym (ident-bytes entry.kind entry.category
    entry.text is)) ∙ ap (λ (ds : List SectionRef). before ++ (kind_bytes entry.kind entry.category entry.text
    ++ (flat_map (defining_bytes sections) ds ++ codes ".\n"))) (sym (defining-listed (needs_underline name entry) ms))

-- ## The rows of a section

pub record IsIdentRow (names : List Entry) (occurrences : List Occurrence) (r : IndexRow) : Type 0 where
  pub of_name : IsRowOf names occurrences r
  pub ident : is_ident r.entry.kind ≡ true

and-first : (a b : Bool) → (a && b) ≡ true → a ≡ true
and-first a b e = grind arith

listed-idents : (section : ℕ) (names : List Entry) (occurrences : List Occurrence) (rows : List IndexRow) → All (IsRowOf
    names occurrences) rows → All (IsIdentRow names occurrences) (filter (is_listed_in section occurrences) rows)
listed-idents section names occurrences [] all = All-nil (IsIdentRow names occurrences)
listed-idents section names occurrences (r ∷ rows) all = by (is_listed_in section occurrences r) refl
    (listed-idents section names occurrences rows (All-tail (IsRowOf names occurrences) r rows all))
  where
    rest : List IndexRow
    rest = filter (is_listed_in section occurrences) rows

    by : (t : Bool) → is_listed_in section occurrences r ≡ t → All (IsIdentRow names occurrences) rest
        → All (IsIdentRow names occurrences) (cond t (r ∷ rest) rest)
    by true e are = All-cons (IsIdentRow names occurrences) r rest (record {
      of_name = All-head (IsRowOf names occurrences) r rows all;
      ident = and-first _ _ (and-first _ _ (and-first _ _ e));
    }) are
    by false e are = are

pub section-idents : (section : ℕ) (names : List Entry) (occurrences : List Occurrence)
    → All (IsIdentRow names occurrences) (section_rows section names occurrences)
section-idents section names occurrences =
    listed-idents section names occurrences (index_rows names occurrences) (index-named names occurrences)

-- ## One row more

pub lines-next : (f : IndexRow → List ℕ) (lines new all : List ℕ) (r : IndexRow) (rows : List IndexRow) (i : ℕ)
    → drop i rows ≡ r ∷ drop (i + 1) rows → new ≡ lines ++ f r → lines ++ flat_map f (drop i rows) ≡ all
    → new ++ flat_map f (drop (i + 1) rows) ≡ all
lines-next f lines new all r rows i next is so =
    let rest : List IndexRow = drop (i + 1) rows in
    ap (λ (l : List ℕ). l ++ flat_map f rest) is ∙ append_assoc lines (f r) (flat_map f rest)
    ∙ ap (λ (l : List ℕ). lines ++ l) (sym (flat_map-cons f r rest) ∙ ap (flat_map f) (sym next)) ∙ so
