-- Worked rows: footnotes.
use Rattle.cw_press.proofs.Terms.{◌≡◌, true, [], ◌∷◌, codes, refl, footnote, name_footnotes, SecName}
use Rattle.std.specs.Fmt.{digits}
use Rattle.cw_secnames.specs.declared.kinds.SecKind.TheVariants.{Named}

footnote_rows : (footnote [] (codes "\\U") (1 ∷ []) ≡ codes "\\U1.\n")
    × (footnote [] (codes "\\A") (1 ∷ 2 ∷ []) ≡ codes "\\As1\\ET2.\n")
    × (footnote [] (codes "\\Q") (1 ∷ 2 ∷ 3 ∷ []) ≡ codes "\\Qs1, 2\\ETs3.\n")
    × (footnote [] (codes "\\U") (1 ∷ 2 ∷ 3 ∷ 14 ∷ []) ≡ codes "\\Us1, 2, 3\\ETs14.\n")
unfolding digits
footnote_rows = (refl, refl, refl, refl)

abbrev name : SecName
name = record {
  kind = Named;
  text = codes "A";
  complete = true;
  defined = 1 ∷ 4 ∷ 5 ∷ [];
  used = 3 ∷ 6 ∷ 7 ∷ [];
  cited = 2 ∷ [];
}

name_row : name_footnotes [] name ≡ codes "\\As4\\ET5.\n\\Q2.\n\\Us3, 6\\ETs7.\n"
unfolding digits
name_row = refl
