-- What plain text adds to its tokens is white space, bars and ends of comments.
use Rattle.cw_plain_laws.proofs.Terms.{◌≡◌, ℕ, Bool, true, false, List, [], ◌∷◌, Option, Some, codes, cond, inl, inr}
use Rattle.cw_plain_laws.proofs.Terms.{refl, arith, All-cons, All-nil, All, list_all, both, Own, Added, Layout, Other}
use Rattle.cw_plain_laws.proofs.Terms.{Run, Stretch, behind_piece, behind_run, blank_before, clash, laid_from, Word}
use Rattle.cw_plain_laws.proofs.Terms.{Part, Ending, Opening, Closing, Move, Nothing, PlainSource, AddsLittle}
use Rattle.cw_plain_laws.proofs.Terms.{MayBeAdded, PlainAddsLittle, is_in}
use Rattle.cw_plain_laws.proofs.{Again.AreWhite, SpacedLaws.white-run}
use Rattle.cw_plain_laws.proofs.OwnInks.{StretchesOwn, pieces-own, stretched-own}
use Rattle.cw_rules.specs.declared.classes.Class.TheVariants.{White}

white-all : (bytes : List ℕ) → AreWhite bytes → list_all (λ byte. is_in White byte) bytes ≡ true
white-all [] white = refl
white-all (b ∷ bytes) white = grind (arith, white-all bytes white.1, both)

white-added : (bytes : List ℕ) → AreWhite bytes → MayBeAdded bytes
white-added bytes white = inl (white-all bytes white)

white-blank : (last : Option ℕ) (bytes : List ℕ) → AreWhite (blank_before last bytes)
white-blank (Some byte) (next ∷ bytes) = by (clash byte next)
  where
    by : (c : Bool) → AreWhite (cond c (codes " ") [])
    by true = (refl, tt)
    by false = tt
white-blank _ _ = tt

laid-adds : (s : PlainSource) (l : Layout) (ss : List Stretch) → StretchesOwn s ss → All AddsLittle (laid_from l ss)
laid-adds s l [] own = All-nil AddsLittle
laid-adds s l (Run run ∷ ss) own = grind (arith, laid-adds s (behind_run l run) ss own, white-added, white-run)
laid-adds s l (Other (Word number bytes) ∷ ss) own =
    let next : Layout = behind_piece l (Word number bytes) in
    All-cons AddsLittle (Added (blank_before l.last bytes)) (Own number bytes ∷ laid_from next ss)
    (white-added (blank_before l.last bytes) (white-blank l.last bytes))
    (All-cons AddsLittle (Own number bytes) (laid_from next ss) tt (laid-adds s next ss own.1))
laid-adds s l (Other (Part number bytes) ∷ ss) own =
    let next : Layout = behind_piece l (Part number bytes) in
    All-cons AddsLittle (Own number bytes) (laid_from next ss) tt (laid-adds s next ss own.1)
laid-adds s l (Other (Ending bytes) ∷ ss) own =
    let next : Layout = behind_piece l (Ending bytes) in
    All-cons AddsLittle (Added bytes) (laid_from next ss) own.0 (laid-adds s next ss own.1)
laid-adds s l (Other Opening ∷ ss) own =
    let next : Layout = behind_piece l Opening in
    All-cons AddsLittle (Added (codes "|")) (laid_from next ss) (inr (inl refl)) (laid-adds s next ss own.1)
laid-adds s l (Other Closing ∷ ss) own =
    let next : Layout = behind_piece l Closing in
    All-cons AddsLittle (Added (codes "|")) (laid_from next ss) (inr (inl refl)) (laid-adds s next ss own.1)
laid-adds s l (Other (Move control) ∷ ss) own = laid-adds s (behind_piece l (Move control)) ss own.1
laid-adds s l (Other Nothing ∷ ss) own = laid-adds s (behind_piece l Nothing) ss own.1

pub plain-adds-little : PlainAddsLittle
plain-adds-little s items = grind (arith, laid-adds, stretched-own, pieces-own)
