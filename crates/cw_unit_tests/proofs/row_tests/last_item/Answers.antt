-- The list of a scrap of a sound line lies in the store, so that its items can be read.
use Rattle.std.proofs.Common.{arith}
use Rattle.cw_scraps.proofs.Reservings.{entry-there}
use Rattle.cw_unit_tests.proofs.row_tests.last_item.Goals as goal

pub flat-requires : goal.flat-requires
flat-requires c = rw c.part_at.ensures (record {
  list = entry-there c.args.store.now.lists c.args.line.now c.args.i
      c.requires.sound.roots (omega (arith, c.len.ensures.length));
})
