-- The sample of two sections.
use Rattle.std.proofs.Common.{◌≡◌, refl, [], ◌∷◌, ◌++◌, codes}
use Rattle.std.specs.Fmt.{digits}
use Rattle.cw_base.specs.Web.{text_of}
use Rattle.cw_weave.specs.SampleWeb.{sample_lines}

two_sections : text_of (sample_lines 2) ≡
    codes "@ Section 1 adds." ++ 10 ∷ codes "@<Step 1.@>=" ++ 10
    ∷ codes "if (a>1) { b+=1; c(1,a); } else while (b) b--;" ++ 10 ∷
    codes "@ Section 2 adds." ++ 10 ∷ codes "@<Step 2.@>=" ++ 10
    ∷ codes "if (a>2) { b+=2; c(2,a); } else while (b) b--;" ++ 10 ∷ []
unfolding digits
two_sections = refl
