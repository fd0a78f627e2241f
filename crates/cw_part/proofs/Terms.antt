-- The words in which these proofs speak, from where they are defined.
pub use Rattle.std.proofs.Common.{◌≡◌, ℕ, ◌+◌, ◌≤◌, refl, sym, ap, ◌∙◌, List, [], ◌++◌, arith, subst, Bool, false, ◌∷◌}
pub use Rattle.std.proofs.Common.{All, length, take, ◌||◌, true, codes, not, ◌==◌, ◌&&◌, drop}
pub use Rattle.std.proofs.lemmas.Grind.{common_steps}
pub use Rattle.std.proofs.lemmas.List.{append-nil, length-take, drop_all}
pub use Rattle.std.proofs.lemmas.List.Elements.{All-cons, All-filter, All-head, All-tail, All-rest, All-same}
pub use Rattle.std.specs.Prelude.{Result, Ok, Err, IsErrAnd, nat_lt, is_some}
pub use Rattle.cw_base.specs.{declared.flags.Flags.Flags, declared.span.Span.Span}
pub use Rattle.cw_desk.specs.State.{DeskState}
pub use Rattle.cw_lex.specs.Lexing.{tokens_of}
pub use Rattle.cw_lines.specs.{Line.LineState, Sheets.IsSameSheet, Writes.Puts, declared.put_error.PutError.PutError}
pub use Rattle.cw_lines.specs.{declared.put_error.PutError.TheVariants.Memory}
pub use Rattle.cw_lines.specs.laws.SheetLaws.{prints-stop, prints-then, same-sheet, same-then}
pub use Rattle.cw_lines.specs.laws.WritesLaws.{puts-bytes, puts-none, puts-stop, puts-then, puts-nothing, can-after}
pub use Rattle.cw_lines.specs.laws.WritesLaws.{puts-longer}
pub use Rattle.cw_names.specs.Names.{Entry}
pub use Rattle.cw_part.specs.Parts.{paragraph_if, has_no_part, part_by, part_opening, definitions_done, first_opening}
pub use Rattle.cw_part.specs.Sections.{rest_done, rest_by, ending}
pub use Rattle.cw_phase1.specs.{declared.book.Book.Book, declared.sections.Section.Section}
pub use Rattle.cw_press.proofs.WeavingLaws.{underlined-none, weaves-as, weaves-refused, nothing-woven}
pub use Rattle.cw_press.specs.Done.{Done, as_it_is, done_then, reprinted}
pub use Rattle.cw_press.specs.Texts.{Setting, Lasting, setting, ended_done, text_done, lasting}
pub use Rattle.cw_press.specs.{Weaving.Press, Weaving.Weaves, Weaving.press, declared.beside.Beside.Beside}
pub use Rattle.cw_press.specs.{declared.counts.Counts.Counts, model.PartForms.part_setting}
pub use Rattle.cw_rules.specs.declared.tokens.Mode.TheVariants.{CPart}
pub use Rattle.cw_texts.specs.{Definitions.definitions_in, Definitions.not_silent, Definitions.printed_definitions}
pub use Rattle.cw_texts.specs.{WholeTexts.IsWholeRest, WholeTexts.IsWholeDefinition}
pub use Rattle.cw_texts.specs.{declared.definitions.Definition.Definition}
pub use Rattle.cw_translator.specs.{Counting.scraps_in, NameParts.AreNamesOf}
