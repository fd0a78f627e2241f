-- Where the last section is below, so are all; where it is the section, all before it are below.
use Rattle.cw_names.proofs.Terms.{◌≡◌, ◌<◌, ◌-◌, length, get_or, false, arith}
use Rattle.cw_names.proofs.Mentions.{all-before, any-default}
use Rattle.cw_names.proofs.xrefs.place_of_section.Goals as goal

pub returns-then-last-section-clause-before : goal.returns-then-last-section-clause-before
returns-then-last-section-clause-before c = all-before c.args.list.now c.args.section
    (length c.args.list.now) c.requires (omega arith) (λ d h. rw (any-default c.args.list.now
    (length c.args.list.now - 1) d (record { section = 0; underlined = false }) (omega arith)) c.if-last-section.true)

pub returns-then-last-section-2-clause-before : goal.returns-then-last-section-2-clause-before
returns-then-last-section-2-clause-before c = λ k d low.
    let ms = c.args.list.now in
    let within : (length ms - 1) < length ms = let some = c.if-count-eq0.false in omega (arith, some) in
    let less : (get_or ms k d).section < (get_or ms (length ms - 1) d).section =
    c.requires k (length ms - 1) d low within in
    let last : (get_or ms (length ms - 1) d).section ≡ c.args.section = rw
    (any-default ms (length ms - 1) d (record { section = 0; underlined = false }) within) c.if-last-section-2.true in
    omega arith
