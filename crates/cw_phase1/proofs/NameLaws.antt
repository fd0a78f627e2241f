-- A name keeps its place.
use Rattle.cw_phase1.proofs.Terms.{◌≡◌, ℕ, zero, suc, Bool, false, List, [], ◌∷◌, ◌++◌, length, refl, ap, arith, Cat}
use Rattle.cw_phase1.proofs.Terms.{Ident, Placement, NameId, with_format, name_id, word_told, word_occurrence}
use Rattle.cw_phase1.specs.declared.words.Words.{Words}
use Rattle.cw_names.specs.Names as names
use Rattle.cw_phase1.specs.declared.roles.Role.TheVariants as roles

pub category-length : (place : ℕ) (category : Cat) (entries : List names.Entry)
    → length (names.with_category place category entries) ≡ length entries
category-length place category [] = refl
category-length zero category (e ∷ es) = refl
category-length (suc place) category (e ∷ es) = ap suc (category-length place category es)

-- The second name of a format definition: it is a word, and then the definition is done.
pub second-told : (silent : Bool) (p : Placement) (old w : Words) (second : NameId) → p.role ≡ roles.SecondName silent
    → second ≡ name_id Ident p.token.text old.names → w.first ≡ old.first → w.names ≡ names.with_entry Ident
    p.token.text old.names → w.waits ≡ false → w.xrefs ≡ old.xrefs ++ word_occurrence silent old.waits p old.names
    → record w { names = with_format w.first second w.names } ≡ word_told p old
second-told silent p old w second role s f n t x = grind arith
