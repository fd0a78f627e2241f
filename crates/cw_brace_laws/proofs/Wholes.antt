-- The tree of the scraps that no production joins is braced.
use Rattle.cw_brace_laws.proofs.Terms.{◌≡◌, true, List, [], ◌∷◌, refl, arith, All, list_all, All-head, All-tail, Flags}
use Rattle.cw_brace_laws.proofs.Terms.{row_is_braced, normal, productions, State, row_is_sound, Scrap, blank_and_whole}
use Rattle.cw_brace_laws.proofs.Terms.{scrap_in_text, whole, Tree, IsBraced, IsBracedScrap, HasCleanOperators}
use Rattle.cw_brace_laws.proofs.Terms.{nat_tests}
use Rattle.cw_brace_laws.proofs.Productions.{normal-keeps}

in_text-braced : (s : Scrap) (rest : Tree) → IsBraced s.tree → IsBraced rest → IsBraced (scrap_in_text s rest)
in_text-braced s rest here later = grind (arith, nat_tests)

blank-braced : (scraps : List Scrap) → All IsBracedScrap scraps → IsBraced (blank_and_whole scraps)
blank-braced [] all = refl
blank-braced (s ∷ scraps) all = in_text-braced s (blank_and_whole scraps) (All-head IsBracedScrap s scraps all).braced
    (blank-braced scraps (All-tail IsBracedScrap s scraps all))

whole-braced : (scraps : List Scrap) → All IsBracedScrap scraps → IsBraced (whole scraps)
whole-braced [] all = refl
whole-braced (s ∷ scraps) all = in_text-braced s (blank_and_whole scraps) (All-head IsBracedScrap s scraps all).braced
    (blank-braced scraps (All-tail IsBracedScrap s scraps all))

pub reduction-braced : list_all row_is_sound productions ≡ true → list_all row_is_braced productions ≡ true
    → (flags : Flags) (state : State) → HasCleanOperators flags state → All IsBracedScrap state.scraps
    → IsBraced (whole (normal productions flags state).scraps)
reduction-braced sound braced flags state clean all = grind (arith, nat_tests, whole-braced, normal-keeps)
