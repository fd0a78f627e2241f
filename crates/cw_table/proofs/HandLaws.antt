-- What the program's data has of a production is what its row has.
use Rattle.cw_table.proofs.Terms.{Option, Some, None, Bool, true, false, eqb, refl, arith, eqb-true, map, option_map}
use Rattle.cw_table.proofs.Terms.{◌≡◌, ◌<◌, ◌≤◌, ◌+◌, ◌-◌, ◌∙◌, sym, ap, ℕ, List, [], length, get_or, take, unwrap_or}
use Rattle.cw_table.proofs.Terms.{slice_get, get_or-map, get_or-take, length-take, length-take-le, slice_get-get_or}
use Rattle.cw_table.proofs.Terms.{nat_tests, RawInt, each-of, Head, TESTS, USUAL, OTHER, HEADS, ROW_COUNT}
use Rattle.cw_table.proofs.Terms.{USUAL_INSERTIONS, OTHER_INSERTIONS, Piece, Row, Is, joined, productions, no_row}
use Rattle.cw_table.proofs.Terms.{pieces_for, row_numbered, row_of, IsSound, row_is_sound}
use Rattle.cw_table.specs.{declared.types.Choice.TheVariants.Always, declared.types.Insertion.Insertion}
use Rattle.cw_table.specs.{declared.types.Piece.TheVariants.Scrap, Insertions.insertion_of}
use Rattle.cw_table.proofs.{Examples.productions-numbered, Soundness.sound-row}
use Rattle.cw_table.proofs.Joining.{productions-length, zipped-get, zipped-is}
use Rattle.cw_table.proofs.Numbers.{numbered-at, numbered-row, numbered-sound}

-- what is read past the data
abbrev pub no_head : Head
no_head = record {
  number = 0;
  test_count = 0;
  offset = 0;
  replaced = 0;
  result = Is RawInt;
  choice = Always;
  usual_count = 0;
  other_count = 0;
  underline = None;
  reserve = None;
  bold = None;
}

-- the data at a place, as a row
abbrev pub row_at : ℕ → Row
row_at i = joined (get_or TESTS i []) (get_or USUAL i []) (get_or OTHER i []) (get_or HEADS i no_head)

-- it is the row of the number after the place
pub row-at : (i : ℕ) → i < ROW_COUNT → row_at i ≡ row_of productions (i + 1)
row-at i lt =
    let at : slice_get productions i ≡ Some (row_at i) = ap (λ rows. slice_get rows i) (sym zipped-is)
    ∙ zipped-get TESTS USUAL OTHER HEADS i [] [] [] no_head (omega arith) (omega arith) (omega arith) (omega arith) in
    let numbered : row_numbered productions (i + 1) ≡ Some (row_at i) =
    numbered-at productions 1 i (i + 1) (row_at i) (omega arith) productions-numbered at in
    sym (ap (λ (o : Option Row). unwrap_or o no_row) numbered)

-- the row of a number is sound
pub row-sound : (n : ℕ) → 1 ≤ n → n ≤ ROW_COUNT → row_is_sound (row_of productions n) ≡ true
row-sound n from to =
    let found : row_numbered productions n ≡ Some (get_or productions (n - 1) no_row) =
    numbered-row productions productions n no_row refl refl from (omega (arith, productions-length)) in
    ap row_is_sound (ap (λ (o : Option Row). unwrap_or o no_row) found)
    ∙ numbered-sound productions (n - 1) no_row refl (omega (arith, productions-length))

-- each translation has twelve places
usual-places : (i : ℕ) → i < ROW_COUNT → length (get_or USUAL i []) ≡ 12
usual-places i lt = eqb-true _ _
    (each-of (λ ps. eqb (length ps) 12) USUAL i (get_or USUAL i []) refl (slice_get-get_or USUAL i [] (omega arith)))

other-places : (i : ℕ) → i < ROW_COUNT → length (get_or OTHER i []) ≡ 12
other-places i lt = eqb-true _ _
    (each-of (λ ps. eqb (length ps) 12) OTHER i (get_or OTHER i []) refl (slice_get-get_or OTHER i [] (omega arith)))

-- a counted piece is one of the places
taken : (ps : List Piece) (count i : ℕ) (d : Piece) → i < length (take count ps) → slice_get (take count ps) i
    ≡ Some (get_or ps i d)
taken ps count i d inside = grind (arith, nat_tests, length-take, slice_get-get_or, get_or-take)

-- the pieces of a row, by the data at its place
pub record HasPieces (other : Bool) (ps : List Piece) (count : ℕ) (row : Row) : Type 0 where
  pub count_is : count ≡ length (pieces_for other row)
  pub twelve : count ≤ 12
  pub piece : (i : ℕ) → i < length (pieces_for other row) → slice_get (pieces_for other row) i
      ≡ Some (get_or ps i (Scrap 0))
  pub below : (i : ℕ) → i < length (pieces_for other row) → i < 12

has : (other : Bool) (ps : List Piece) (count : ℕ) (row : Row) → pieces_for other row ≡ take count ps → count ≤ 12
    → length ps ≡ 12 → HasPieces other ps count row
has other ps count row is few twelve = grind (arith, nat_tests, length-take-le, taken)

pub usual-pieces : (i : ℕ) (other : Bool) (row : Row) → i < ROW_COUNT → other ≡ false → row_of productions (i + 1) ≡ row
    → HasPieces other (get_or USUAL i []) (get_or HEADS i no_head).usual_count row
usual-pieces i other row lt off is =
    let s : IsSound (row_at i) = sound-row (row_at i) (ap row_is_sound (row-at i lt)
    ∙ row-sound (i + 1) (omega arith) (omega arith)) in
    has other (get_or USUAL i []) (get_or HEADS i no_head).usual_count row (ap (λ b. pieces_for b row) off
    ∙ ap (pieces_for false) (sym (row-at i lt ∙ is))) s.usual_short (usual-places i lt)

pub other-pieces : (i : ℕ) (other : Bool) (row : Row) → i < ROW_COUNT → other ≡ true → row_of productions (i + 1) ≡ row
    → HasPieces other (get_or OTHER i []) (get_or HEADS i no_head).other_count row
other-pieces i other row lt on is =
    let s : IsSound (row_at i) = sound-row (row_at i) (ap row_is_sound (row-at i lt)
    ∙ row-sound (i + 1) (omega arith) (omega arith)) in
    has other (get_or OTHER i []) (get_or HEADS i no_head).other_count row (ap (λ b. pieces_for b row) on
    ∙ ap (pieces_for true) (sym (row-at i lt ∙ is))) s.other_short (other-places i lt)

-- what the data inserts is what its pieces insert
abbrev inserted : List Piece → List Insertion
inserted ps = map insertion_of ps

usual-inserted : USUAL_INSERTIONS ≡ map inserted USUAL
usual-inserted = refl

other-inserted : OTHER_INSERTIONS ≡ map inserted OTHER
other-inserted = refl

inserted-at : (rows : List (List Piece)) (i j : ℕ) (d : List Insertion) (e : Insertion) → i < length rows
    → j < length (get_or rows i []) → get_or (get_or (map inserted rows) i d) j e
    ≡ insertion_of (get_or (get_or rows i []) j (Scrap 0))
inserted-at rows i j d e row place = grind (arith, nat_tests, get_or-map)

pub usual-insertion : (i j : ℕ) (d : List Insertion) (e : Insertion) (other : Bool) (row : Row) → i < ROW_COUNT
    → other ≡ false → row_of productions (i + 1) ≡ row → j < length (pieces_for other row)
    → option_map insertion_of (slice_get (pieces_for other row) j) ≡ Some (get_or (get_or USUAL_INSERTIONS i d) j e)
usual-insertion i j d e other row lt off is inside =
    let has : HasPieces other (get_or USUAL i []) (get_or HEADS i no_head).usual_count row =
    usual-pieces i other row lt off is in
    ap (option_map insertion_of) (has.piece j inside) ∙ ap Some (sym (ap (λ rows. get_or (get_or rows i d) j e)
    usual-inserted ∙ inserted-at USUAL i j d e (omega arith) (omega (arith, usual-places i lt, has.below j inside))))

pub other-insertion : (i j : ℕ) (d : List Insertion) (e : Insertion) (other : Bool) (row : Row) → i < ROW_COUNT
    → other ≡ true → row_of productions (i + 1) ≡ row → j < length (pieces_for other row)
    → option_map insertion_of (slice_get (pieces_for other row) j) ≡ Some (get_or (get_or OTHER_INSERTIONS i d) j e)
other-insertion i j d e other row lt on is inside =
    let has : HasPieces other (get_or OTHER i []) (get_or HEADS i no_head).other_count row =
    other-pieces i other row lt on is in
    ap (option_map insertion_of) (has.piece j inside) ∙ ap Some (sym (ap (λ rows. get_or (get_or rows i d) j e)
    other-inserted ∙ inserted-at OTHER i j d e (omega arith) (omega (arith, other-places i lt, has.below j inside))))
