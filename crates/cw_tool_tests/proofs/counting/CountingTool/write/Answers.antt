-- The line of the number stands behind the web's lines.
use Rattle.std.proofs.Common.{◌≡◌, ◌++◌, ◌∷◌, [], ℕ, length, ap, ◌∙◌}
use Rattle.std.specs.Prelude.{decimal}
use Rattle.cw_base.specs.Web.{text_of}
use Rattle.cw_base.specs.declared.event.Out.TheVariants.{Tex}
use Rattle.cw_desk.specs.Journal.{byte_events}
use Rattle.cw_lines.specs.laws.WritesLaws.{adds-events}
use Rattle.cw_phase1.specs.declared.book.Book.{Book}
use Rattle.cw_run.specs.laws.PieceLaws.{piece-then, piece-wanting}
use Rattle.cw_tool_tests.specs.model.Counting.{number_of}
use Rattle.cw_tool_tests.proofs.counting.CountingTool.write.Goals as goal

pub returns-in_err-line : goal.returns-in_err-line
returns-in_err-line g c = piece-then Tex (text_of c.args.web.now.lines) (number_of c.args.web.now)
    (adds-events (ap (byte_events Tex) c.text.ensures.lines) c.in_ok-write_all.ensures)
    (piece-wanting Tex (number_of c.args.web.now) c.from_residual-in_err-line.ensures.1)

pub returns : goal.returns
returns g c =
    let line : c.as_slice.result.now ≡ number_of c.args.web.now =
    c.as_slice.ensures ∙ c.in_ok-line.ensures ∙ ap (λ (n : ℕ). decimal n ++ 10 ∷ [])
    (c.from.ensures ∙ c.section_count.ensures ∙ ap (λ (b : Book). length b.outline.sections) c.requires.given.same) in
    piece-then Tex (text_of c.args.web.now.lines) (number_of c.args.web.now)
    (adds-events (ap (byte_events Tex) c.text.ensures.lines) c.in_ok-write_all.ensures)
    (adds-events (ap (byte_events Tex) line) c.write_all-2.ensures)
