-- The scraps that a row replaces lie in the line, and the one that it makes takes their place.
use Rattle.cw_scraps.proofs.Terms.{drop, arith, length-drop}
use Rattle.cw_scraps.proofs.{Changings.tied-idle, Fits.fits-at, Productions.drop-there, Productions.replaces}
use Rattle.cw_scraps.proofs.producing.produce.Goals as goal

pub make-entry-requires-clause-roots : goal.make-entry-requires-clause-roots
make-entry-requires-clause-roots c = drop-there _ _ _ c.requires.roots

pub overflow_add-place : goal.overflow_add-place
overflow_add-place c =
    let f = fits-at c.args.flags.now c.args.row.now
    (drop c.args.place c.args.line.now) c.requires.sound c.requires.fits in
    omega (arith, c.len-length.ensures, c.len-length.type_inv, length-drop c.args.place c.args.line.now)

pub replace-requires-clause-some : goal.replace-requires-clause-some
replace-requires-clause-some c =
    let f = fits-at c.args.flags.now c.args.row.now (drop c.args.place c.args.line.now) c.requires.sound
    c.requires.fits in
    rw c.replaced.ensures f.some

pub replace-requires-clause-within : goal.replace-requires-clause-within
replace-requires-clause-within c =
    let f = fits-at c.args.flags.now c.args.row.now
    (drop c.args.place c.args.line.now) c.requires.sound c.requires.fits in
    omega (arith, length-drop c.args.place c.args.line.now)

pub returns-clause-replaced : goal.returns-clause-replaced
returns-clause-replaced c =
    let f = fits-at c.args.flags.now c.args.row.now (drop c.args.place c.args.line.now) c.requires.sound
    c.requires.fits in
    rw (c.replace.ensures, c.offset.ensures, c.replaced.ensures) (replaces _ _ _ _ _ _ _ f c.make-entry.ensures
    (tied-idle c.args.store.now c.requires.idle c.tied_law.ensures) c.requires.roots)
