-- The six steps of a production, one after another, are one production with its marks and its reserving.
use Rattle.cw_scraps.proofs.Terms.{◌≡◌, ◌+◌, ◌<◌, ◌≤◌, length, drop, sym, ap, ◌∙◌, arith, search_in, scraps_of, retyped}
use Rattle.cw_scraps.proofs.Terms.{retyped_by}
use Rattle.cw_scraps.proofs.Fits.{fits-at, behind, place-inside}
use Rattle.cw_scraps.proofs.Applied.{marked-named, fits-line, right-inside, reserved-there, applies, retyped-is}
use Rattle.cw_scraps.proofs.Applied.{state-is, sound-after, ticked-is}
use Rattle.cw_scraps.proofs.line.ScrapLine.apply_naming.Goals as goal

pub named_ident-marked-requires-clause-named : goal.named_ident-marked-requires-clause-named
named_ident-marked-requires-clause-named g c =
    let f = fits-at c.args.production.now.flags.now c.args.production.now.row.now
    (drop c.args.production.now.place c.args.self.now) c.requires.row (fits-line c.args.production.now.row.now
    c.args.store.now.lists c.args.self.now c.args.production.now.place c.requires.fits) in
    λ k e. behind c.args.self.now c.args.production.now.place k (f.underline_there k (sym c.requires.underline ∙ e))

pub reserve_words-reserved-requires-clause-reserve : goal.reserve_words-reserved-requires-clause-reserve
reserve_words-reserved-requires-clause-reserve g c =
    let f = fits-at c.args.production.now.flags.now c.args.production.now.row.now
    (drop c.args.production.now.place c.args.self.now) c.requires.row (fits-line c.args.production.now.row.now
    c.args.store.now.lists c.args.self.now c.args.production.now.place c.requires.fits) in
    λ k e. behind c.args.self.now c.args.production.now.place k (f.reserve_there k (sym c.requires.reserve ∙ e))

pub reserve_words-reserved-requires-clause-bold : goal.reserve_words-reserved-requires-clause-bold
reserve_words-reserved-requires-clause-bold g c =
    let f = fits-at c.args.production.now.flags.now c.args.production.now.row.now
    (drop c.args.production.now.place c.args.self.now) c.requires.row (fits-line c.args.production.now.row.now
    c.args.store.now.lists c.args.self.now c.args.production.now.place c.requires.fits) in
    λ k e. behind c.args.self.now c.args.production.now.place k (f.bold_there k (sym c.requires.bold ∙ e))

pub reserve_words-reserved-requires-clause-place : goal.reserve_words-reserved-requires-clause-place
reserve_words-reserved-requires-clause-place g c =
    let f = fits-at c.args.production.now.flags.now c.args.production.now.row.now
    (drop c.args.production.now.place c.args.self.now) c.requires.row (fits-line c.args.production.now.row.now
    c.args.store.now.lists c.args.self.now c.args.production.now.place c.requires.fits) in
    let inside : c.args.production.now.place < length c.args.self.now = place-inside _ _ _ _ f in omega arith

pub produce-requires-clause-fits : goal.produce-requires-clause-fits
produce-requires-clause-fits g c = fits-line c.args.production.now.row.now c.args.store.now.lists c.args.self.now
    c.args.production.now.place c.requires.fits

pub overflow_add-right : goal.overflow_add-right
overflow_add-right g c =
    let f = fits-at c.args.production.now.flags.now c.args.production.now.row.now
    (drop c.args.production.now.place c.args.self.now) c.requires.row (fits-line c.args.production.now.row.now
    c.args.store.now.lists c.args.self.now c.args.production.now.place c.requires.fits) in
    let h : c.args.production.now.place + c.args.production.now.row.now.offset + 1 ≤ length c.produce.new.line =
    right-inside c.args.production.now.flags.now c.args.production.now.row.now c.args.production.now.place
    c.reserve_words-reserved.new.store.lists c.args.self.now c.produce.new.store.lists c.produce.new.line f
    c.produce.ensures.replaced in
    omega (arith, c.len-length.ensures, c.len-length.type_inv)

pub overflow_add-right-2 : goal.overflow_add-right-2
overflow_add-right-2 g c =
    let f = fits-at c.args.production.now.flags.now c.args.production.now.row.now
    (drop c.args.production.now.place c.args.self.now) c.requires.row (fits-line c.args.production.now.row.now
    c.args.store.now.lists c.args.self.now c.args.production.now.place c.requires.fits) in
    let h : c.args.production.now.place + c.args.production.now.row.now.offset + 1 ≤ length c.produce.new.line =
    right-inside c.args.production.now.flags.now c.args.production.now.row.now c.args.production.now.place
    c.reserve_words-reserved.new.store.lists c.args.self.now c.produce.new.store.lists c.produce.new.line f
    c.produce.ensures.replaced in
    omega (arith, c.len-length.ensures, c.len-length.type_inv)

pub turn_right-requires-clause-start : goal.turn_right-requires-clause-start
turn_right-requires-clause-start g c =
    let f = fits-at c.args.production.now.flags.now c.args.production.now.row.now
    (drop c.args.production.now.place c.args.self.now) c.requires.row (fits-line c.args.production.now.row.now
    c.args.store.now.lists c.args.self.now c.args.production.now.place c.requires.fits) in
    rw c.offset.ensures (right-inside c.args.production.now.flags.now c.args.production.now.row.now
    c.args.production.now.place c.reserve_words-reserved.new.store.lists c.args.self.now c.produce.new.store.lists
    c.produce.new.line f c.produce.ensures.replaced)

pub mark-requires : goal.mark-requires
mark-requires g c = λ id e. marked-named c.args.production.now.underline _ c.named_ident-marked.result id _
    c.requires.free c.named_ident-marked.ensures e

pub retype-requires : goal.retype-requires
retype-requires g c = λ id e. reserved-there c.args.names.now c.args.production.now.row.now.action.reserve
    c.args.production.now.place (scraps_of c.args.store.now.lists c.args.self.now) c.reserve_words-reserved.result id
    c.requires.sound.named (rw c.requires.reserve at c.reserve_words-reserved.ensures.name) e

pub returns : goal.returns
returns g c =
    let f = fits-at c.args.production.now.flags.now c.args.production.now.row.now
    (drop c.args.production.now.place c.args.self.now) c.requires.row (fits-line c.args.production.now.row.now
    c.args.store.now.lists c.args.self.now c.args.production.now.place c.requires.fits) in
    let a = applies c.args.production.now.flags.now c.args.production.now.row.now c.args.production.now.place
    c.args.store.now.lists c.reserve_words-reserved.new.store.lists c.produce.new.store.lists
    c.turn_right.new.store.lists c.args.self.now c.produce.new.line c.turn_right.new.line
    c.reserve_words-reserved.result f c.reserve_words-reserved.ensures.tied c.produce.ensures.tied
    (rw (c.requires.reserve, c.requires.bold) at c.reserve_words-reserved.ensures.scraps)
    c.reserve_words-reserved.ensures.lists c.produce.ensures.replaced
    (rw c.offset.ensures at c.turn_right.ensures.scraps) c.turn_right.ensures.same_roots c.turn_right.ensures.lists
    (rw c.requires.reserve at c.reserve_words-reserved.ensures.name) in
    let named : c.retype.new.names ≡ retyped (search_in c.args.production.now.row.now.action.reserve (drop
    c.args.production.now.place (scraps_of c.args.store.now.lists c.args.self.now))) c.args.names.now = c.retype.ensures
    ∙ (ap (λ n. retyped_by n c.args.names.now) (rw c.requires.reserve at c.reserve_words-reserved.ensures.name)
    ∙ retyped-is (search_in c.args.production.now.row.now.action.reserve
    (drop c.args.production.now.place (scraps_of c.args.store.now.lists c.args.self.now))) c.args.names.now) in
    record {
      state = state-is c.args.production.now.flags.now c.args.production.now.row.now c.args.production.now.place
          c.args.store.now.lists c.args.self.now c.args.marks.now c.args.names.now c.turn_right.new.store.lists
          c.turn_right.new.line c.mark.new.marks c.retype.new.names c.named_ident-marked.result a c.mark.ensures.names
          (rw c.requires.underline at c.named_ident-marked.ensures) named;
      retypes = named;
      sound = sound-after c.args.production.now.flags.now c.args.production.now.row.now c.args.production.now.place
          c.args.store.now c.turn_right.new.store c.args.self.now c.turn_right.new.line c.args.names.now
          c.retype.new.names f c.requires.fits c.requires.sound a c.turn_right.ensures.idle named;
      others = a.keeps;
      few = a.few;
      spare = omega (
        arith,
        c.reserve_words-reserved.ensures.spare,
        c.produce.ensures.spare,
        c.turn_right.ensures.spare,
      );
      free = c.mark.ensures.spare;
      ticked = ticked-is c.args.production.now.reserve c.args.production.now.row.now.action.reserve c.produce.new.line
          c.turn_right.new.line _ _ c.args.steps.now c.turn_right.new.steps c.requires.reserve
          (ap (λ n. c.args.production.now.place + n + 1) c.offset.ensures) c.turn_right.ensures.same_roots
          c.turn_right.ensures.steps;
    }
