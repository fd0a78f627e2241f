-- Each line is short and has no byte 10.
use Rattle.std.proofs.Common.{◌+◌, length, sym, ap, subst, arith}
use Rattle.std.specs.Prelude.{All}
use Rattle.std.proofs.lemmas.Result.{on_ok_weaker}
use Rattle.cw_weave.proofs.SampleWebLaws.{NotTen, first-short, first-whole, head-short, head-whole, section-added}
use Rattle.cw_weave.proofs.SampleWebLaws.{statement-short, statement-whole, web-longer, web-short}
use Rattle.cw_weave.proofs.sample_sections.add_lines.Goals as goal

pub add_line-requires-clause-whole : goal.add_line-requires-clause-whole
add_line-requires-clause-whole c =
    subst (All NotTen) (sym c.requires.first) (first-whole (c.args.before + 1) (omega arith)
    (omega (arith, c.requires.few)))

pub add_line-requires-2-clause-whole : goal.add_line-requires-2-clause-whole
add_line-requires-2-clause-whole c =
    subst (All NotTen) (sym c.requires.head)
    (head-whole (c.args.before + 1) (omega arith) (omega (arith, c.requires.few)))

pub add_line-requires-3-clause-whole : goal.add_line-requires-3-clause-whole
add_line-requires-3-clause-whole c =
    subst (All NotTen) (sym c.requires.statement)
    (statement-whole (c.args.before + 1) (omega arith) (omega (arith, c.requires.few)))

pub add_line-requires-clause-room : goal.add_line-requires-clause-room
add_line-requires-clause-room c =
    omega (
      arith,
      web-short c.args.before c.requires.few c.requires.begun,
      ap length c.requires.first,
      first-short (c.args.before + 1) (omega arith) (omega (arith, c.requires.few)),
    )

pub add_line-requires-2-clause-room : goal.add_line-requires-2-clause-room
add_line-requires-2-clause-room c =
    omega (
      arith,
      web-short c.args.before c.requires.few c.requires.begun,
      web-longer _ _ c.in_ok-add_line.ensures.ok,
      ap length c.requires.first,
      first-short (c.args.before + 1) (omega arith) (omega (arith, c.requires.few)),
      ap length c.requires.head,
      head-short (c.args.before + 1) (omega arith) (omega (arith, c.requires.few)),
    )

pub add_line-requires-3-clause-room : goal.add_line-requires-3-clause-room
add_line-requires-3-clause-room c =
    omega (
      arith,
      web-short c.args.before c.requires.few c.requires.begun,
      web-longer _ _ c.in_ok-add_line.ensures.ok,
      web-longer _ _ c.in_ok-add_line-2.ensures.ok,
      ap length c.requires.first,
      first-short (c.args.before + 1) (omega arith) (omega (arith, c.requires.few)),
      ap length c.requires.head,
      head-short (c.args.before + 1) (omega arith) (omega (arith, c.requires.few)),
      ap length c.requires.statement,
      statement-short (c.args.before + 1) (omega arith) (omega (arith, c.requires.few)),
    )

pub returns : goal.returns
returns c =
    on_ok_weaker c.add_line-3.result
    (λ added. section-added c.args.before c.requires.begun c.in_ok-add_line.ensures.ok c.in_ok-add_line-2.ensures.ok
    added
    c.requires.first c.requires.head c.requires.statement
    c.place.ensures c.place-2.ensures c.place-3.ensures) c.add_line-3.ensures.ok
