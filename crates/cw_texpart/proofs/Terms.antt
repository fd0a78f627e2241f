-- The words in which these proofs speak, from where they are defined.
pub use Rattle.std.proofs.Common.{◌≡◌, ℕ, subst, All, List, suc, ◌+◌, ◌-◌, ◌<◌, ◌≤◌, ◌≢◌, ◌==◌, ◌||◌, Bool, true, false}
pub use Rattle.std.proofs.Common.{not, refl, sym, ap, ◌∙◌, [], ◌∷◌, ◌++◌, append_assoc, length, take, drop, get_or}
pub use Rattle.std.proofs.Common.{arith, ne_eqb, length-drop, set, add-one, None, map, codes, rules}
pub use Rattle.std.proofs.lemmas.Grind.{common_steps}
pub use Rattle.std.proofs.lemmas.List.{take-take, append-nil, drop-drop, drop-take, drop_more, length-take}
pub use Rattle.std.proofs.lemmas.List.{take-append-drop, get_or-take, set_split}
pub use Rattle.std.proofs.lemmas.List.Elements.{All-head, All-tail, All-nil, All-cons, All-rest}
pub use Rattle.std.specs.Prelude.{Option, Some, Result, Ok, Err, IsErrAnd, min, nat_lt, slice_range, IfOk}
pub use Rattle.cw_base.specs.{declared.flags.Flags.Flags, declared.span.Span.Span}
pub use Rattle.cw_desk.specs.State.{DeskState}
pub use Rattle.cw_lex.specs.Nest.{is_text_kind}
pub use Rattle.cw_lines.specs.Line.{Line, LineState, fill_by, fill_byte}
pub use Rattle.cw_lines.specs.{Sheets.IsSameSheet, Writes.HasPut, Writes.Puts, declared.put_error.PutError.PutError}
pub use Rattle.cw_lines.specs.{declared.put_error.PutError.TheVariants.Memory, model.Line.HasNoLineEnd}
pub use Rattle.cw_lines.specs.laws.SheetLaws.{prints-bytes, same-sheet, same-then, prints-failing, prints-none}
pub use Rattle.cw_lines.specs.laws.SheetLaws.{prints-stop, prints-then, prints-longer}
pub use Rattle.cw_lines.specs.laws.WritesLaws.{puts-bytes, puts-none, puts-stop, puts-then, puts-failing, puts-nothing}
pub use Rattle.cw_lines.specs.laws.WritesLaws.{can-after}
pub use Rattle.cw_names.specs.{Names.Entry, declared.xrefs.Occurrence.Occurrence}
pub use Rattle.cw_phase1.specs.{declared.book.Book.Book, declared.sections.Section.Section}
pub use Rattle.cw_press.specs.{Beside.is_nothing, declared.counts.Counts.Counts}
pub use Rattle.cw_press.specs.Done.{Done, joined_done, as_it_is, reprinted}
pub use Rattle.cw_press.specs.Inks.{Ink, Print, LineEnd, bytes_of, copied, end_if, ink_by, kind_inks, laid, prints}
pub use Rattle.cw_press.specs.Inks.{token_inks, token_inks_by, inks, answer_inks}
pub use Rattle.cw_press.specs.Texts.{setting, Setting, lasting, text_done, Lasting}
pub use Rattle.cw_press.specs.Weaving.{Press, Weaves, underlined, press}
pub use Rattle.cw_print.specs.Walk.{section_number}
pub use Rattle.cw_rules.specs.{Answers.Seen, Answers.Token, Answers.seen, declared.tokens.Mode.TheVariants.Inner}
pub use Rattle.cw_rules.specs.{declared.tokens.TokKind.TokKind}
pub use Rattle.cw_texpart.specs.Heads.{Added, add_behind, carry_to, one_if_carried, successor, with_one, head, head_by}
pub use Rattle.cw_texpart.specs.Heads.{printed_depth, drop_zeros}
pub use Rattle.cw_texpart.specs.{Limbo.limbo_bytes, Limbo.printed_limbo, model.PartForms.tex_setting}
pub use Rattle.cw_texpart.specs.{model.PartForms.TexSetting}
pub use Rattle.cw_texpart.specs.TexParts.{tex_done, piece_done, pieces_done, head_and_tex}
pub use Rattle.cw_texpart.specs.model.Laying.{held, held_behind, holds_bytes, inked}
pub use Rattle.cw_texts.proofs.PieceLaws.{ended, gave}
pub use Rattle.cw_texts.specs.{PieceForms.piece_is, Scans.scanned, TexPieces.tex_pieces_of, TexPieces.TexPiece}
pub use Rattle.cw_texts.specs.{WholeTexts.IsWholePiece}
pub use Rattle.cw_translator.specs.NameParts.{AreNamesOf}
