-- The words in which these proofs speak, from where they are defined.
pub use Rattle.std.proofs.Common.{◌≡◌, ◌≢◌, ◌∙◌, Bool, true, false, Result, Ok, Err, IfOk, sym, refl, [], ◌∷◌, codes, ℕ}
pub use Rattle.std.proofs.Common.{◌+◌, ◌-◌, ◌≤◌, List, ◌++◌, ap, subst, arith, ◌<◌, All, length, drop, get_or, suc}
pub use Rattle.std.proofs.Common.{◌==◌, append_assoc, if◌then◌else◌, ◌||◌, None, cond, bytes_eq, rules, IsTrue, not}
pub use Rattle.std.proofs.Common.{map, Option}
pub use Rattle.std.proofs.lemmas.List.{drop_more, append-nil, map-append, drop_all}
pub use Rattle.std.proofs.lemmas.List.Elements.{All-cons, All-head, All-tail, All-weaker}
pub use Rattle.std.specs.{FinMap.get, Prelude.Some, Prelude.slice_get, Prelude.IsErrAnd}
pub use Rattle.cw_base.specs.{Flags.start_flags, Web.WebState, Web.text_of, declared.event.Event.Event}
pub use Rattle.cw_base.specs.{declared.exit.Exit.Exit, declared.flags.Flags.Flags, declared.notes.Note.Note}
pub use Rattle.cw_base.specs.declared.event.Event.TheVariants.{Made, Drafted, Kept, Replaced}
pub use Rattle.cw_base.specs.declared.event.Out.TheVariants.{Tex, Idx, Scn}
pub use Rattle.cw_base.specs.declared.exit.Exit.TheVariants.{Fault, Clean, Errors}
pub use Rattle.cw_desk.specs.{Journal.byte_events, Meaning.NamedFiles, Meaning.has_draft, State.DeskState}
pub use Rattle.cw_desk.specs.{declared.outputs.Outputs.Outputs}
pub use Rattle.cw_lines.specs.{Line.Line, Line.LineState, Line.as_count, Line.new_line, Writes.Puts}
pub use Rattle.cw_lines.specs.laws.WritesLaws.{puts-new_line, is_err, puts-bytes, puts-none, puts-stop, puts-then}
pub use Rattle.cw_lines.specs.laws.WritesLaws.{puts-nothing, can-after, adds-then, adds-events}
pub use Rattle.cw_names.specs.declared.xrefs.Occurrence.{Occurrence}
pub use Rattle.cw_phase1.specs.{Book.book, declared.book.Book.Book, declared.sections.Section.Section}
pub use Rattle.cw_run.specs.{Emits.Run, Emits.Runs, Stops.stopped, declared.statistics.Totals.Totals}
pub use Rattle.cw_run.specs.Closing.{closing_run, has_error, has_note}
pub use Rattle.cw_run.specs.laws.EmitsLaws.{adds-emits, emits-by, emits_by-fail, emits_by-file, emits_by-stop}
pub use Rattle.cw_run.specs.laws.EmitsLaws.{emits_by-then, emits_by-value, file-not_begun, file-refused, runs-known}
pub use Rattle.cw_run.specs.laws.EmitsLaws.{runs-stop, runs-then, emits_by-events, runs_by-exit, runs_by-nothing}
pub use Rattle.cw_run.specs.laws.EmitsLaws.{emits-faults, faults-then, runs-after, runs_by-over, runs-by, runs_by-stop}
pub use Rattle.cw_run.specs.laws.EmitsLaws.{runs_by-then}
pub use Rattle.cw_run.specs.Files.{OutFile, broken_lines, Broken, broken_notes, broken_in}
pub use Rattle.cw_run.specs.laws.NotesLaws.{error-broken, note-append, none-broken, some-broken, first-broken}
pub use Rattle.cw_run.specs.Terminal.{no_change_text, no_web_text, unknown_text}
pub use Rattle.cw_press.specs.Done.{Done, joined_done, as_it_is, done_then}
pub use Rattle.cw_press.specs.{Texts.lasting, Texts.Lasting, Texts.Setting, declared.counts.Counts.Counts}
pub use Rattle.cw_press.specs.Weaving.{Press, Weaves, marked, underlined, press}
pub use Rattle.cw_translator.specs.Counting.{limit_in, ticks_in}
pub use Rattle.cw_weave.specs.Looks.{book_looks, list_looks, sample_looks}
pub use Rattle.cw_weave.specs.model.Pressing.{Presses, flags_in, left_in, marks_in, tex_in, IsWholeSection, WholeNames}
pub use Rattle.cw_weave.specs.model.Pressing.{text_in, setting_in, IsPrintable}
pub use Rattle.cw_weave.specs.Sample.{sample_book, sample_tex, sample_totals}
pub use Rattle.cw_weave.specs.TexFile.{left_by, tex_file, marks_of, all_sections}
pub use Rattle.cw_weave.specs.Woven.{weave_book, woven, end_of_run, ending_run, list_out, name_list, index_of}
pub use Rattle.cw_weave.specs.Woven.{index_out, index_events, index_files, weave_command_of, book_of}
pub use Rattle.cw_weave.specs.model.Written.{IsTexFile, tex_of, index_in}
