use Rattle.cw_plain.proofs.Terms.{◌≡◌, ℕ, ◌-◌, ◌≤◌, List, [], ◌∷◌, length, get_or, Option, Some, refl, sym, ap, ◌∙◌}
use Rattle.cw_plain.proofs.Terms.{arith, last_behind}
use Rattle.cw_plain.proofs.blanks.last_behind.Goals as goal

last-at : (last : Option ℕ) (byte : ℕ) (bytes : List ℕ)
    → last_behind last (byte ∷ bytes) ≡ Some (get_or (byte ∷ bytes) (length bytes) 0)
last-at last byte [] = refl
last-at last byte (next ∷ bytes) = last-at (Some byte) next bytes

last-is : (last : Option ℕ) (bytes : List ℕ) → 1 ≤ length bytes
    → Some (get_or bytes (length bytes - 1) 0) ≡ last_behind last bytes
last-is last [] some = absurd (omega arith)
last-is last (byte ∷ bytes) some =
    let place : length (byte ∷ bytes) - 1 ≡ length bytes = omega arith in
    ap (λ n. Some (get_or (byte ∷ bytes) n 0)) place ∙ sym (last-at last byte bytes)

pub returns-in-len1-up : goal.returns-in-len1-up
returns-in-len1-up c = last-is c.args.last c.args.bytes.now c.in-len1-up.len_at_least
