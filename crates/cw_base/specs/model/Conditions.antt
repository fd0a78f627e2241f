-- The models beside `specs/Conditions`.
use Rattle.std.specs.Prelude.{ℕ, Bool, true, false}

-- 1 where the condition holds, else 0
abbrev pub one_if : Bool → ℕ
one_if true = 1
one_if false = 0
