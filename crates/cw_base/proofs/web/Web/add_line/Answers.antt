-- The new line lies behind all others.
use Rattle.cw_base.proofs.Terms.{◌≡◌, ◌+◌, ◌<◌, ◌∷◌, [], ◌++◌, length, ap, ◌∙◌, arith, length-append, LineInfo}
use Rattle.cw_base.proofs.Terms.{WebState, text_of}
use Rattle.std.proofs.lemmas.List.Elements.{All-push}
use Rattle.cw_base.proofs.WebLayoutLaws.{Covers-more, read_lines-push, text_of-read_lines}
use Rattle.cw_base.proofs.web.Web.add_line.Goals as goal

pub invariant_of-self-in-Ok : goal.invariant_of-self-in-Ok
invariant_of-self-in-Ok c =
    let i = c.self.inside in
    let info : LineInfo = record {
      start = c.len-start.result;
      «end» = c.len-start.result + length c.args.line.now;
      place = c.args.place;
      changed = c.args.changed;
    } in
    let size : c.len-start.result ≡ length i.text.items = c.len-start.ensures ∙ i.text.ok.0 in
    let text = text_of-read_lines i.text.items 0 i.lines.items c.self.invariant.covers in
    let files = ap (λ (w : WebState). length w.files) c.self.view_is in
    rw (c.in-Ok.ensures.ok, c.in_ok-push.ensures.items) (record {
      covers = Covers-more i.text.items c.args.line.now 0 i.lines.items info size
          (ap (λ n. n + length c.args.line.now) size) c.self.invariant.covers;
      limit = omega (
        arith,
        ap length text,
        ap (λ (w : WebState). length (text_of w.lines)) c.self.view_is,
        c.requires.room,
        length-append (i.text.items ++ c.args.line.now) (10 ∷ []),
        length-append i.text.items c.args.line.now,
      );
      line_places = All-push (λ (info : LineInfo). info.place.file < length i.files.items) i.lines.items info
          c.self.invariant.line_places (omega (arith, files, c.requires.place));
      note_places = c.self.invariant.note_places;
    })

pub returns-in-Ok-clause-ok : goal.returns-in-Ok-clause-ok
returns-in-Ok-clause-ok c =
    let i = c.self.inside in
    let info : LineInfo = record {
      start = c.len-start.result;
      «end» = c.len-start.result + length c.args.line.now;
      place = c.args.place;
      changed = c.args.changed;
    } in
    let size : c.len-start.result ≡ length i.text.items = c.len-start.ensures ∙ i.text.ok.0 in
    rw (← c.self.view_is, c.in-Ok.ensures.ok, c.in_ok-push.ensures.items)
    (ap (λ lines. record { lines = lines; files = i.files.items; notes = i.notes.items }) (read_lines-push i.text.items
    c.args.line.now i.lines.items info size (ap (λ n. n + length c.args.line.now) size) c.self.invariant.covers))
