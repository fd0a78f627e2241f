-- Code stands beside the number of a section only where its TeX part has no prose, and so no C text.
use Rattle.std.proofs.Common.{◌≡◌, ℕ, Bool, false, not, ◌&&◌, refl, List, [], ◌∷◌, arith}
use Rattle.std.specs.Prelude.{if◌then◌else◌}
use Rattle.std.specs.List.{list_any}
use Rattle.std.proofs.lemmas.Bool.Decides.{nat_tests}
use Rattle.cw_secnames.specs.Uses.{NameUse}
use Rattle.cw_phase1.proofs.MissingLaws.{right-false}
use Rattle.cw_press.specs.Beside.{is_nothing, is_prose}
use Rattle.cw_press.specs.declared.beside.Beside.{Beside}
use Rattle.cw_press.specs.declared.beside.Beside.TheVariants as besides
use Rattle.cw_texts.specs.TexPieces.{TexPiece, Copied, InnerText, Cited}
use Rattle.cw_texts.specs.Texts.{tex_refs}

-- a TeX part without prose has no C text
pub no-refs : (text : List ℕ) (uses : List NameUse) (n : ℕ) (ps : List TexPiece) → list_any (is_prose text) ps ≡ false
    → tex_refs uses n ps ≡ []
no-refs text uses n [] e = refl
no-refs text uses n (Copied token ∷ ps) e =
    no-refs text uses n ps (right-false (is_prose text (Copied token)) (list_any (is_prose text) ps) e)
no-refs text uses n (InnerText part ∷ ps) e = grind (arith, nat_tests)
no-refs text uses n (Cited part ∷ ps) e = grind (arith, nat_tests)

-- code stands beside a number only where there is no prose
pub no-prose : (ranged prose : Bool) (code : Beside)
    → is_nothing (if ranged && not prose then code else besides.Nothing) ≡ false → prose ≡ false
no-prose ranged prose code e = grind (arith, nat_tests)
