-- The entry of the table is the line's place in the text.
use Rattle.cw_base.proofs.Terms.{◌<◌, length, get_or, sym, ap, ◌∙◌, arith, get_or_read, LineInfo, WebState}
use Rattle.cw_base.proofs.WebLayoutLaws.{length-read_lines, infos_of-read_lines}
use Rattle.cw_base.proofs.web.Web.line.Goals as goal

pub index-requires : goal.index-requires
index-requires c = omega (
  arith,
  ap (λ (w : WebState). length w.lines) c.self.view_is,
  length-read_lines c.self.inside.text.items c.self.inside.lines.items,
  c.self.inside.lines.ok.0,
)

pub returns-clause-info : goal.returns-clause-info
returns-clause-info c = λ other.
    let within : c.args.i < length c.self.inside.lines.items = omega (
      arith,
      ap (λ (w : WebState). length w.lines) c.self.view_is,
      length-read_lines c.self.inside.text.items c.self.inside.lines.items,
    ) in
    rw (← c.self.view_is) (get_or_read c.self.inside.lines.items c.args.i c.index.result.now within c.index.ensures
    other ∙ sym (ap (λ infos. get_or infos c.args.i other)
    (infos_of-read_lines c.self.inside.text.items 0 c.self.inside.lines.items c.self.invariant.covers)))

pub returns-clause-place : goal.returns-clause-place
returns-clause-place c =
    let within : c.args.i < length c.self.inside.lines.items = omega (
      arith,
      ap (λ (w : WebState). length w.lines) c.self.view_is,
      length-read_lines c.self.inside.text.items c.self.inside.lines.items,
    ) in
    rw (← c.self.view_is) (omega (
      arith,
      ap (λ (info : LineInfo). info.place.file) c.index.ensures,
      c.self.invariant.line_places c.args.i c.index.result.now within,
    ))
