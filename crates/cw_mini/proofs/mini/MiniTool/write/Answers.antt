-- The texts of the web are translated, and the lines of what they leave are written.
use Rattle.cw_mini.proofs.Terms.{ap, Tex, byte_events, adds-events, Book, piece-wanting, book_lines}
use Rattle.cw_mini.specs.MiniText.{mini_file}
use Rattle.cw_mini.proofs.mini.MiniTool.write.Goals as goal

pub returns-in_err-leave_texts : goal.returns-in_err-leave_texts
returns-in_err-leave_texts g c = piece-wanting Tex (mini_file c.args.web.now) c.from_residual.ensures.1

pub returns : goal.returns
returns g c =
    adds-events (ap (λ (b : Book). byte_events Tex (book_lines b)) c.in_ok-leave_texts.ensures) c.write_sections.ensures
