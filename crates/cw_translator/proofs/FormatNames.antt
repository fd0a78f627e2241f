-- The names of a format definition, by whether a macro of TeX is among them.
use Rattle.std.proofs.Common.{arith}
use Rattle.cw_translator.proofs.Terms.{◌≡◌, refl, List, [], ◌∷◌, ◌++◌, append_assoc, Token, name_in_text, names_in_text}

pub names-append : (xs ys : List Token) → names_in_text (xs ++ ys) ≡ names_in_text xs ++ names_in_text ys
names-append [] ys = refl
names-append (x ∷ xs) ys = grind (arith, names-append xs ys, name_in_text, append_assoc, names_in_text)
