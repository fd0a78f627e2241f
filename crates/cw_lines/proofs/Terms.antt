-- The words in which these proofs speak, from where they are defined.
pub use Rattle.std.proofs.{Math.Seq.take-append_seam, Math.Seq.take-length, lemmas.Bool.eqb-true}
pub use Rattle.std.proofs.{lemmas.Grind.common_steps, lemmas.List.Folds.list_any_at}
pub use Rattle.std.proofs.Common.{◌≡◌, ◌≢◌, ℕ, true, false, ◌+◌, ◌<◌, ◌≤◌, ◌==◌, List, [], ◌∷◌, ◌++◌, length, take}
pub use Rattle.std.proofs.Common.{Option, refl, sym, ap, ◌∙◌, arith, zero, suc, ◌-◌, ◌^◌, length-append, Some, None}
pub use Rattle.std.proofs.Common.{Bool, not, ◌&&◌, if◌then◌else◌, Ok, Err, drop, subst, append_assoc, rules}
pub use Rattle.std.proofs.Common.{length-drop, take-add}
pub use Rattle.std.proofs.lemmas.List.{get_or-take, length-take, take_more, length-take-le, append-nil}
pub use Rattle.std.proofs.lemmas.List.{take-append-drop, drop-append-le, drop_more, take-take, take-append-le}
pub use Rattle.std.proofs.lemmas.List.{drop-drop, drop-take, nil_from_length, take_rest, take_all}
pub use Rattle.std.proofs.lemmas.List.Elements.{All-from_get_or, All-take, All-drop}
pub use Rattle.std.specs.List.{list_any}
pub use Rattle.std.specs.Prelude.{slice_index, min, codes, is_some, ⊤, Result, IsErrAnd, get_or, replicate, nat_lt}
pub use Rattle.std.specs.Prelude.{nat_eq}
pub use Rattle.cw_base.specs.declared.event.Out.{Out}
pub use Rattle.cw_desk.specs.{Journal.byte_events, Journal.grown, Journal.GrownByPart, State.DeskState}
pub use Rattle.cw_desk.specs.{State.OnlyPuts}
pub use Rattle.cw_desk.specs.laws.JournalLaws.{byte_events-append, grown-none, grown-after, part-first, part-all}
pub use Rattle.cw_lines.specs.{laws.CutLaws.divide-short, model.Whole.WholeLines, model.Whole.behind_lines}
pub use Rattle.cw_lines.specs.{model.Whole.counted, Writes.HasPut, Writes.HasWritten, Writes.Puts, Writes.Writes}
pub use Rattle.cw_lines.specs.Compared.{OldFile, id_of, behind_beginning, Compares, left_by}
pub use Rattle.cw_lines.specs.laws.ComparedLaws.{compares-as, compares-none, compares-bytes, compares-then, ahead-none}
pub use Rattle.cw_lines.specs.laws.ComparedLaws.{left-ended, ahead-some, left-lost, left-more, left-read, compares-more}
pub use Rattle.cw_lines.specs.laws.ComparedLaws.{left-checked}
pub use Rattle.cw_lines.specs.Cut.{follows_backslash, has_comment, breaks_at, is_percent, last_below, broken_numbers}
pub use Rattle.cw_lines.specs.Cut.{cut, unbroken_line, comment_mark, divide_at, divide_by, is_command, last_of}
pub use Rattle.cw_lines.specs.laws.FillLaws.{fill-text, fill-append, fill-line, fill-none, fill-full, fill-room}
pub use Rattle.cw_lines.specs.laws.FillLaws.{fill-end}
pub use Rattle.cw_lines.specs.Line.{Line, LineState, Filled, fill, filled_on}
pub use Rattle.cw_lines.specs.model.Line.{HasNoLineEnd, IsEndedLine, with_text}
pub use Rattle.cw_lines.specs.Line.{next_number, divided, new_line, fill_by, with_byte, ended}
pub use Rattle.cw_lines.specs.laws.WritesLaws.{puts-known, writes-none, puts-refused, puts-stop, writes-events}
pub use Rattle.cw_lines.specs.laws.WritesLaws.{writes-file, writes-stop, writes-then, adds-writes, writes-fail}
pub use Rattle.cw_lines.specs.laws.WritesLaws.{puts-then, puts-bytes, puts-failing, puts-none, puts-within, can-after}
pub use Rattle.memchr.specs.Find.{Nowhere, NoneBefore, Passes, is_byte, NoneAfter}
