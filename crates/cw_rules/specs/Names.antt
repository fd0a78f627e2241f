-- The names of sections, as they stand between `@<` or `@(` and `@>`.
use Rattle.std.specs.Prelude.{ℕ, zero, suc, Bool, ◌&&◌, ◌||◌, ◌==◌, List, [], ◌∷◌, codes, length, drop, if◌then◌else◌}
use Rattle.cw_rules.specs.declared.classes.Class.TheVariants.{White}
use Rattle.cw_rules.specs.Bytes.{at_sign, run, begins_with}

-- The name without its codes: `@@` is one `@`, and every other code is dropped.
abbrev pub uncoded : List ℕ → List ℕ
uncoded [] = []
uncoded (byte ∷ []) = if byte == at_sign then [] else byte ∷ []
uncoded (byte ∷ next ∷ bytes) =
    if byte == at_sign
    then (if next == at_sign then at_sign ∷ uncoded bytes else uncoded bytes)
    else byte ∷ uncoded (next ∷ bytes)

abbrev pub is_white : List ℕ → Bool
is_white bytes = run White bytes == length bytes

-- nothing but white space, or nothing but `...` with white space around it
abbrev pub is_void_from : List ℕ → Bool
is_void_from bytes = length bytes == 0 || (begins_with (codes "...") bytes && is_white (drop 3 bytes))

abbrev pub is_void_text : List ℕ → Bool
is_void_text text = is_void_from (drop (run White text) text)

-- An empty name, and one that is only `...`, is ignored.
abbrev pub is_void : List ℕ → Bool
is_void name = is_void_text (uncoded name)

-- what is said of the rest of a name behind so many dots
abbrev pub void_behind : ℕ → List ℕ → Bool
void_behind zero bytes = is_void_text bytes
void_behind (suc zero) bytes = begins_with (codes "..") bytes && is_white (drop 2 bytes)
void_behind (suc (suc zero)) bytes = begins_with (codes ".") bytes && is_white (drop 1 bytes)
void_behind (suc (suc (suc n))) bytes = is_white bytes
