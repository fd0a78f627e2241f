-- What the row reads of the line is there, and the new scrap is the one that stays alone or is joined of the pieces.
use Rattle.cw_scraps.proofs.Terms.{◌<◌, length, drop, refl, sym, ap, ◌∙◌, arith, alone, kept}
use Rattle.cw_scraps.proofs.Fits.{fits-at, run-at, behind, kept-there, place-inside, kept-is}
use Rattle.cw_scraps.proofs.making.make.Goals as goal

pub result_cat-cat-requires : goal.result_cat-cat-requires
result_cat-cat-requires c =
    let f = fits-at c.args.flags.now c.args.row.now (drop c.args.place c.args.line.now) c.requires.sound
    c.requires.fits in
    λ k e. behind _ _ k (f.result_there k (sym c.outcome.ensures ∙ e))

pub takes_others-other-requires : goal.takes_others-other-requires
takes_others-other-requires c =
    let f = fits-at c.args.flags.now c.args.row.now (drop c.args.place c.args.line.now) c.requires.sound
    c.requires.fits in
    place-inside _ _ _ _ f

pub join-part-requires-clause-place : goal.join-part-requires-clause-place
join-part-requires-clause-place c =
    let f = fits-at c.args.flags.now c.args.row.now (drop c.args.place c.args.line.now) c.requires.sound
    c.requires.fits in
    let inside : c.args.place < length c.args.line.now = place-inside _ _ _ _ f in
    omega arith

pub join-part-requires-clause-run : goal.join-part-requires-clause-run
join-part-requires-clause-run c =
    let f = fits-at c.args.flags.now c.args.row.now (drop c.args.place c.args.line.now) c.requires.sound
    c.requires.fits in
    rw c.takes_others-other.ensures (run-at _ _ _ f)

pub returns-in-Some : goal.returns-in-Some
returns-in-Some c = kept c.in-Some.k (ap (alone c.args.row.now.replaced) (sym c.takes_others-other.ensures)
    ∙ sym c.in-Some.ensures) refl (kept-is c.args.line.now c.args.place c.in-Some.k _ _ _
    (rw c.outcome.ensures at c.result_cat-cat.ensures) c.behind-entry.ensures)

pub behind-entry-requires : goal.behind-entry-requires
behind-entry-requires c =
    let f = fits-at c.args.flags.now c.args.row.now (drop c.args.place c.args.line.now) c.requires.sound
    c.requires.fits in
    behind _ _ c.in-Some.k (kept-there _ _ _ c.in-Some.k f
    (ap (alone c.args.row.now.replaced) (sym c.takes_others-other.ensures) ∙ sym c.in-Some.ensures))
