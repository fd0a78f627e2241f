-- The bytes of a string that print themselves.
use Rattle.cw_print.proofs.Terms.{◌≡◌, ℕ, ◌-◌, ◌||◌, ◌&&◌, ◌==◌, nat_lt, Bool, true, false, not, List, [], ◌∷◌, ◌++◌}
use Rattle.cw_print.proofs.Terms.{ap, sym, ◌∙◌, arith, nat_tests, append_assoc, Portion, has_room, rest_bytes}
use Rattle.cw_print.proofs.Terms.{string_bytes}
use Rattle.std.proofs.lemmas.Bool.{eqb-true}
use Rattle.cw_print.specs.model.Dividing.{is_special_in_string}

-- a portion with so much room, in which no backslash takes the next byte along
abbrev pub with_room : ℕ → Portion
with_room room = record { room = room; takes_next = false }

or-left : (a b : Bool) → (a || b) ≡ false → a ≡ false
or-left a b is = grind arith

other-than : (byte n : ℕ) → is_special_in_string n ≡ true → is_special_in_string byte ≡ false → (byte == n) ≡ false
other-than byte n special plain = grind (arith, eqb-true)

-- it is what a string says, whatever stands beside it
one-said : (byte : ℕ) (bytes : List ℕ) → is_special_in_string byte ≡ false
    → string_bytes (byte ∷ bytes) ≡ byte ∷ string_bytes bytes
one-said byte bytes plain = grind (arith, other-than)

-- and it prints itself where there is room for it
one-printed : (room byte : ℕ) (bytes : List ℕ) → (room == 0) ≡ false → is_special_in_string byte ≡ false
    → rest_bytes (with_room room) (byte ∷ bytes) ≡ byte ∷ rest_bytes (with_room (room - 1)) bytes
one-printed room byte bytes full plain = grind (arith, or-left, other-than)

none-there : (room : ℕ) (taken : Bool) → (not taken && nat_lt 0 room) ≡ true → taken ≡ false
none-there room taken some = grind arith

some-room : (room : ℕ) (taken : Bool) → (not taken && nat_lt 0 room) ≡ true → (room == 0) ≡ false
some-room room taken some = grind (arith, nat_tests)

-- A byte prints itself where there is room for it.
pub plain-printed : (begun out bytes : List ℕ) (byte : ℕ) (portion : Portion) → has_room portion ≡ true
    → is_special_in_string byte ≡ false → out ≡ begun ++ byte ∷ []
    → out ++ rest_bytes (record { room = portion.room - 1; takes_next = portion.takes_next }) (string_bytes bytes)
    ≡ begun ++ rest_bytes portion (string_bytes (byte ∷ bytes))
plain-printed begun out bytes byte portion some plain appended =
    let none : portion.takes_next ≡ false = none-there portion.room portion.takes_next some in
    let later : List ℕ = rest_bytes (with_room (portion.room - 1)) (string_bytes bytes) in
    (λ i. appended i ++ rest_bytes (record { room = portion.room - 1; takes_next = none i }) (string_bytes bytes))
    ∙ append_assoc begun (byte ∷ []) later ∙ ap (λ (l : List ℕ). begun ++ l) (sym
    (ap (λ (b : Bool). rest_bytes (record { room = portion.room; takes_next = b }) (string_bytes (byte ∷ bytes))) none
    ∙ ap (λ (l : List ℕ). rest_bytes (with_room portion.room) l) (one-said byte bytes plain)
    ∙ one-printed portion.room byte (string_bytes bytes) (some-room portion.room portion.takes_next some) plain))
