-- The words in which these proofs speak, from where they are defined.
pub use Rattle.std.proofs.Common.{◌≡◌, ℕ, ◌≤◌, Bool, false, List, [], ◌∷◌, refl, length, arith, zero, suc, ◌&&◌, true}
pub use Rattle.std.proofs.Common.{nat_eq, drop, ne_eqb, if◌then◌else◌, not, ◌++◌, Some, All, take, sym, ap, subst, ◌∙◌}
pub use Rattle.std.proofs.Common.{append_assoc, ◌⊎◌, inl, inr, ◌+◌, ◌<◌, map, get_or, zero-add, ◌||◌, nat_lt}
pub use Rattle.std.proofs.Common.{length-append, None, set, Option, IfSome, ◌-◌, ◌^◌, cond, eqb, add-zero, ◌==◌, filter}
pub use Rattle.std.proofs.Common.{true≢false, length-drop, codes, reverse, vec_len, slice_index_or}
pub use Rattle.std.proofs.lemmas.Bool.{eq-eqb, eqb-true, lt-ltb, le-ltb, and_right, and_left, ltb-false, ltb-true}
pub use Rattle.std.proofs.lemmas.Grind.{common_steps}
pub use Rattle.std.proofs.lemmas.List.{take_all, drop_all, length-take, append-nil, drop_more, take_more, at_drop_more}
pub use Rattle.std.proofs.lemmas.List.{get_or-map, length-map, map-append}
pub use Rattle.std.proofs.lemmas.List.Elements.{All-nil, All-append, All-cons}
pub use Rattle.std.proofs.lemmas.Option.{get_or_from_slice_get, slice_get_within}
pub use Rattle.std.specs.{Cmp.Lexicographic.pointwise, Cmp.Lexicographic.bytes_decides, List.list_any}
pub use Rattle.std.specs.{Option.option_map}
pub use Rattle.std.specs.Prelude.{slice_get, slice_range, is_some, unwrap_or}
pub use Rattle.cw_base.proofs.TestLaws.{not-both, one-right, or-false, one-left, one-failed-left, one-failed-right}
pub use Rattle.cw_base.specs.{Web.MergedLine, Web.text_of, Web.info_from, Web.infos_of, declared.category.Cat.Cat}
pub use Rattle.cw_base.specs.{declared.notes.NoteKind.NoteKind, declared.span.Span.Span, declared.web.LineInfo.LineInfo}
pub use Rattle.cw_base.specs.declared.category.Cat.TheVariants.{Exp, RawInt}
pub use Rattle.cw_lex.specs.{Heads.head_behind, Lexing.answers_at, Lexing.beginning, Lexing.tokens_of}
pub use Rattle.cw_lex.specs.{model.Limbo.HasNoNames, Limbo.is_name_kind, declared.heads.Expectation.Expectation}
pub use Rattle.cw_lex.specs.Nested.{is_section_kind, is_section_answer, begins_section_in}
pub use Rattle.cw_names.specs.{Words.built_in_words, declared.entry.EntryKind.EntryKind, declared.entry.NameId.NameId}
pub use Rattle.cw_names.specs.declared.entry.EntryKind.TheVariants.{Ident, Roman}
pub use Rattle.cw_phase1.specs.{Book.answers_of, Book.book, model.LinePlaces.offset, Places.place_from}
pub use Rattle.cw_phase1.specs.{Places.holds_changed, Places.nowhere, model.Referring.referring_of, Sound.LiesIn}
pub use Rattle.cw_phase1.specs.{Sound.IsNamedBy, Sound.Ascend, Sound.RefersUpTo, declared.roles.Part.Part}
pub use Rattle.cw_phase1.specs.{declared.roles.Role.Role, declared.roles.Standing.Standing, declared.sections.Open.Open}
pub use Rattle.cw_phase1.specs.{declared.sections.Section.Section, declared.sections.Sections.Sections}
pub use Rattle.cw_phase1.specs.{declared.token_lists.TokenLists.TokenLists}
pub use Rattle.cw_phase1.specs.Changed.{has_changed, with_last_changed, with_last_marked}
pub use Rattle.cw_phase1.specs.model.Ending.{notes_at_by, with_references, IsScanned, open_count, section_total}
pub use Rattle.cw_phase1.specs.Entering.{kept_behind, entering, kept_by, kept_after, entered_name, enters, is_unended}
pub use Rattle.cw_phase1.specs.Entering.{note_behind_end, noted_from, answer_of, kept_id, note_on_name}
pub use Rattle.cw_phase1.specs.model.Holding.{HeldState, held_of, is_silent, plain_held, remark_of, waiting_of, Waiting}
pub use Rattle.cw_phase1.specs.model.Holding.{settled_placed, settled_standing, settled, remark_put, token_held_by}
pub use Rattle.cw_phase1.specs.model.Holding.{ended_held, held_step}
pub use Rattle.cw_phase1.specs.Missing.{has_no_definition, is_undefined_name, lacks_equals, missing_equals, missing_in}
pub use Rattle.cw_phase1.specs.Missing.{begins_blank, missing_among, missing_of, name_before, outer_names}
pub use Rattle.cw_phase1.specs.Notes.{name_notes_from, scanned_note, name_notes}
pub use Rattle.cw_phase1.specs.model.Outlining.{closing_by, open_with, closing, or_here, name_here, opened, with_token}
pub use Rattle.cw_phase1.specs.model.Outlining.{closed_at}
pub use Rattle.cw_phase1.specs.model.Ready.{IsToken, AreBefore, WaitsBehind, CanSettle, WaitingIsKept, held_start}
pub use Rattle.cw_phase1.specs.Roles.{Placement, word_role, head_role, token_step, behind_begin, placed_from, at_limbo}
pub use Rattle.cw_phase1.specs.Roles.{placed, free_step, placed_by, stay, Step, name_step, token_step_by, code_step}
pub use Rattle.cw_phase1.specs.Roles.{section_step, defining}
pub use Rattle.cw_phase1.specs.Sections.{is_section_code, sections_of, span, is_tex, is_program, ends_section}
pub use Rattle.cw_phase1.specs.Sections.{ends_definitions, ends_tex, first_start, section_at, c_part_name}
pub use Rattle.cw_phase1.specs.model.Telling.{told_step, word_told, word_occurrence, IsKnown, told_all, known_of}
pub use Rattle.cw_phase1.specs.model.Telling.{told_start}
pub use Rattle.cw_phase1.specs.Texts.{blank_before, name_text, naming, naming_by, reduced, single_blanks}
pub use Rattle.cw_phase1.specs.Texts.{without_first_blank, Naming, Void, Full, Prefix}
pub use Rattle.cw_phase1.specs.model.Texts.{is_reduced_void, rest_of, is_begun}
pub use Rattle.cw_phase1.specs.Uses.{references_of, use_by, reference_by, uses_of, use_of, section_names}
pub use Rattle.cw_phase1.specs.Words.{with_format, name_id, KnownNames, known_behind, Mention, word, known_after}
pub use Rattle.cw_phase1.specs.Words.{mention_by, mentions_from, occurrence, occurrences}
pub use Rattle.cw_rules.specs.{ControlTexts.text_behind_code, ControlTexts.text_to_end, Order.Covers, Order.AreWithin}
pub use Rattle.cw_rules.specs.{Order.LiesWithin, declared.codes.Code.Code, declared.tokens.Mode.Mode}
pub use Rattle.cw_rules.specs.{declared.tokens.TokKind.TokKind}
pub use Rattle.cw_rules.specs.Answers.{Answer, Token, Begin, Finish, Note, Seen, has_sign, is_head_sign, seen}
pub use Rattle.cw_rules.specs.Names.{is_void_text, is_white, is_void, uncoded}
pub use Rattle.cw_secnames.specs.{Uses.NameUse, Uses.name_at, declared.kinds.SecId.SecId}
pub use Rattle.cw_secnames.specs.{declared.kinds.SecKind.SecKind}
pub use Rattle.cw_secnames.specs.Kept.{SecName, unreferred, with_text, grown, id, Entering}
pub use Rattle.cw_secnames.specs.References.{Reference, referred, AscendFrom, once, is_of}
