-- Scraps that hold no text where they may become part of an operator.
use Rattle.cw_brace_laws.proofs.Terms.{◌≡◌, Bool, true, arith, Cat, Binop, Colon, is_binop, is_calm, Scrap, HoldsNoText}
use Rattle.cw_brace_laws.proofs.Terms.{IsBraced, IsBracedScrap, nat_tests}

-- the calm categories, operators and the colon, with which some operators begin
abbrev pub is_clean : Cat → Bool
is_clean Binop = true
is_clean Colon = true
is_clean cat = is_calm cat

pub calm-clean : (c : Cat) → is_calm c ≡ true → is_clean c ≡ true
calm-clean c h = grind (arith, nat_tests)

pub binop-clean : (c : Cat) → is_binop c ≡ true → is_clean c ≡ true
binop-clean c h = grind (arith, nat_tests)

-- a leaf: of each of these categories it holds no text
pub record IsLeafScrap (scrap : Scrap) : Type 0 where
  pub braced : IsBraced scrap.tree
  pub clean : is_clean scrap.cat ≡ true → HoldsNoText scrap

pub leaf-is-braced : (s : Scrap) → IsLeafScrap s → IsBracedScrap s
leaf-is-braced s h = record { braced = h.braced; calm = λ c. h.clean (calm-clean s.cat c) }
