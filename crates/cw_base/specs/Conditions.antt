-- What a condition gives where one value, or none, is all that it decides.
use Rattle.std.specs.Prelude.{Bool, true, false, List, []}

-- this list where the condition holds, else nothing
abbrev pub list_if : {A : Type 0} → Bool → List A → List A
list_if true list = list
list_if false list = []
