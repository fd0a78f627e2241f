-- The words in which these proofs speak, from where they are defined.
pub use Rattle.std.proofs.Common.{◌≡◌, ℕ, subst, List, suc, ◌+◌, ◌-◌, ◌<◌, ◌≤◌, ◌≢◌, ◌==◌, Bool, true, false, not, refl}
pub use Rattle.std.proofs.Common.{sym, ap, ◌∙◌, [], ◌∷◌, ◌++◌, append_assoc, length, take, drop, get_or, arith, ne_eqb}
pub use Rattle.std.proofs.Common.{None, inl, inr, map, codes, rules}
pub use Rattle.std.proofs.lemmas.Grind.{common_steps}
pub use Rattle.std.proofs.lemmas.List.{append-nil, map-append, take_all, take_more, length-map}
pub use Rattle.std.specs.List.{take-map, list_any}
pub use Rattle.std.specs.Prelude.{Option, Some, Result, Ok, Err, IsErrAnd, is_some, slice_get, IfOk, decimal, ⊤}
pub use Rattle.cw_base.specs.{Conditions.list_if, declared.flags.Flags.Flags, declared.span.Span.Span}
pub use Rattle.cw_desk.specs.State.{DeskState}
pub use Rattle.cw_lex.specs.Lexing.{tokens_of}
pub use Rattle.cw_lines.specs.{Line.LineState, Sheets.Prints, Writes.Puts, declared.put_error.PutError.PutError}
pub use Rattle.cw_lines.specs.{declared.put_error.PutError.TheVariants.Memory}
pub use Rattle.cw_lines.specs.laws.SheetLaws.{prints-bytes, prints-none, prints-stop, prints-then, prints-longer}
pub use Rattle.cw_lines.specs.laws.WritesLaws.{puts-bytes, puts-none, puts-stop, puts-then, puts-failing, puts-nothing}
pub use Rattle.cw_lines.specs.laws.WritesLaws.{is_err}
pub use Rattle.cw_names.specs.{Names.Entry, declared.entry.NameId.NameId, declared.xrefs.Occurrence.Occurrence}
pub use Rattle.cw_phase1.specs.{declared.book.Book.Book, declared.sections.Section.Section}
pub use Rattle.cw_press.specs.{Beside.code_beside, Beside.has_prose, Beside.is_prose, Texts.setting, Texts.Setting}
pub use Rattle.cw_press.specs.{Texts.lasting, declared.counts.Counts.Counts}
pub use Rattle.cw_press.specs.Done.{Done, done_behind, joined_done, as_it_is, done_then}
pub use Rattle.cw_press.specs.Footnotes.{footnote, footnote_numbers, later_numbers, name_footnotes, number_in, of_name}
pub use Rattle.cw_press.specs.Footnotes.{separator, use_footnotes}
pub use Rattle.cw_press.specs.Inks.{Print, bytes_of, copied, prints, token_inks_by}
pub use Rattle.cw_press.specs.Weaving.{Press, Weaves, NotesFirst, mark, marked, underlined}
pub use Rattle.cw_print.specs.Walk.{changed_mark, tree_bytes}
pub use Rattle.cw_rules.specs.Answers.{Answer, seen}
pub use Rattle.cw_secnames.specs.Kept.{SecName}
pub use Rattle.cw_translator.proofs.Routes.{on-err}
pub use Rattle.cw_translator.specs.{Counting.limit_in, NameParts.name_texts, Translating.translated}
