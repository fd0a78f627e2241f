-- The words in which these proofs speak, from where they are defined.
pub use Rattle.std.proofs.{lemmas.Bool.Decides.nat_tests, lemmas.Grind.flat_map-append, lemmas.Grind.common_steps}
pub use Rattle.std.proofs.{lemmas.Map.Views.All-insert_key}
pub use Rattle.std.proofs.Common.{◌≡◌, ℕ, zero, suc, ◌+◌, ◌-◌, Bool, true, false, ◌&&◌, ◌==◌, List, [], ◌∷◌, ◌++◌}
pub use Rattle.std.proofs.Common.{length, drop, refl, sym, ap, subst, ◌∙◌, arith, append_assoc, ◌≤◌, Some, codes, map}
pub use Rattle.std.proofs.Common.{◌<◌, All, fold, Option, None, ◌≢◌, ◌||◌, nat_eq, filter, eq-eqb, ne_eqb, true≢false}
pub use Rattle.std.proofs.Common.{IsTrue, get_or, take, ◌⊎◌, inl, inr}
pub use Rattle.std.proofs.lemmas.Cmp.{on_total, tied_itself, alike_right}
pub use Rattle.std.proofs.lemmas.List.{append-nil, take_all, drop_all, drop_more, length-drop, map-append, length-take}
pub use Rattle.std.proofs.lemmas.List.Elements.{filter-append, All-append, All-head, All-map, All-nil, All-tail}
pub use Rattle.std.proofs.lemmas.List.Elements.{All-cons, All-filter, All-get_or, All-more, All-push}
pub use Rattle.std.proofs.lemmas.Option.{get_or_from_slice_get, slice_get_within}
pub use Rattle.std.specs.{BTreeSet.insert_key, Cmp.nat_cmp_is, Cmp.unsigned_ties, Cmp.IsTotalOrder}
pub use Rattle.std.specs.{declared.cmp.Ordering.Ordering}
pub use Rattle.std.specs.List.{flat_map, list_any, AllByRecursion, range_with_len}
pub use Rattle.std.specs.Ordering.{on, nat_cmp, is_ne, ordering_then, match_ordering, is_eq, ordering_reverse}
pub use Rattle.std.specs.Prelude.{if◌then◌else◌, slice_get, Result, Ok, Err, IsErrAnd, slice_index, slice_index_or}
pub use Rattle.std.specs.declared.cmp.Ordering.TheVariants.{Less, Greater, Equal}
pub use Rattle.cw_base.proofs.TestLaws.{not-both, or-false}
pub use Rattle.cw_base.specs.declared.category.Cat.TheVariants.{Exp, RawInt}
pub use Rattle.cw_desk.specs.State.{DeskState}
pub use Rattle.cw_index.specs.{laws.CollationLaws.entry_cmp-total, model.ListForms.list_setting, Sorted.sorted_on}
pub use Rattle.cw_index.specs.{Sorted.sorted, declared.heading.Heading.Heading, declared.standing.Listed.Listed}
pub use Rattle.cw_index.specs.{declared.standing.Standing.Standing}
pub use Rattle.cw_index.specs.Closing.{change, changed_from, changes_line, printed_changes, closing_lines, last_lines}
pub use Rattle.cw_index.specs.Collation.{entry_cmp, text_cmp, class_cmp, class_of, classes_cmp, entry_kind_place}
pub use Rattle.cw_index.specs.model.Headings.{IsNamed, entered, entered_by, entry_of, row_of}
pub use Rattle.cw_index.specs.Index.{entry_bytes, index_bytes, section_bytes, row_bytes, number_bytes}
pub use Rattle.cw_index.specs.Mentions.{is_listed, listed, IndexRow, has_sections, row, row_cmp, rows_from, with_row}
pub use Rattle.cw_index.specs.Mentions.{needs_underline, index_rows}
pub use Rattle.cw_index.specs.NameList.{IsWholeName, name_span, all_listed, listed_done, use_notes}
pub use Rattle.cw_index.specs.Standing.{StandingName, named_stands, stand_at, stand_cmp, kept_stand, has_reference}
pub use Rattle.cw_index.specs.Standing.{listed_names}
pub use Rattle.cw_index.specs.model.StandingForms.{stand_of, stands_of, Holds, HoldsName, IsSorting}
pub use Rattle.cw_join.specs.Tokens.{word_at}
pub use Rattle.cw_lex.proofs.Covering.{drop-on, drop-part}
pub use Rattle.cw_lex.proofs.TexTexts.{name-plain, all-taken, or-notes, name-kind}
pub use Rattle.cw_lex.specs.Lexing.{still_fresh, answers, tokens_of, joined, fresh_at, last_at}
pub use Rattle.cw_lex.specs.Limbo.{is_name_kind}
pub use Rattle.cw_lines.specs.{Sheets.Prints, Sheets.IsSameSheet, declared.put_error.PutError.PutError}
pub use Rattle.cw_lines.specs.laws.SheetLaws.{prints-bytes, prints-none, prints-stop, prints-then, same-sheet}
pub use Rattle.cw_lines.specs.laws.SheetLaws.{same-then, prints-failing, prints-longer, prints-nothing}
pub use Rattle.cw_lines.specs.laws.WritesLaws.{puts-stop, can-after, puts-bytes, puts-longer, puts-then}
pub use Rattle.cw_names.specs.{laws.MentionLaws.sections-at, laws.MentionLaws.sections-ascending}
pub use Rattle.cw_names.specs.{declared.entry.EntryKind.EntryKind, declared.entry.NameId.NameId}
pub use Rattle.cw_names.specs.{declared.xrefs.Occurrence.Occurrence, declared.xrefs.SectionRef.SectionRef}
pub use Rattle.cw_names.specs.Mentions.{any_in, mentions, AreAscending, above_all}
pub use Rattle.cw_names.specs.Names.{Entry, AreDistinct, is_entry, same_kind}
pub use Rattle.cw_names.specs.declared.entry.EntryKind.TheVariants.{Ident, Roman, Typewriter, User}
pub use Rattle.cw_press.proofs.PrintLaws.{Printing, printing-as, printing-begun}
pub use Rattle.cw_press.proofs.WovenLaws.{AreSums, Weaving, bytes-refused, no_counts, nothing-more, weaves-bytes}
pub use Rattle.cw_press.proofs.WovenLaws.{weaves-stopped, weaving-begun, weaving-last, weaving-last-stopped}
pub use Rattle.cw_press.proofs.WovenLaws.{weaving-next, weaving-ended, weaving-stopped, weaving-wanting}
pub use Rattle.cw_phase1.specs.declared.sections.Section.{Section}
pub use Rattle.cw_print.specs.Walk.{section_number}
pub use Rattle.cw_rules.specs.{model.Apart.found_apart, model.Apart.in_text_apart, declared.codes.Code.Code}
pub use Rattle.cw_rules.specs.{declared.tokens.TokKind.TokKind}
pub use Rattle.cw_rules.specs.Answers.{Answer, Token, Begin, Finish, Note, Where, ScanStep, Seen, has_sign}
pub use Rattle.cw_rules.specs.Answers.{note_answers}
pub use Rattle.cw_rules.specs.Codes.{code_of, code_at, is_section, begins_section}
pub use Rattle.cw_rules.specs.Tokens.{all_cut, is_name, section, section_code, one, effect_in, section_name, code_by}
pub use Rattle.cw_secnames.specs.{Kept.SecName, Kept.id, Uses.NameUse}
pub use Rattle.cw_press.proofs.WeavingLaws.{weaves-behind, weaves-refused, weaves-as}
pub use Rattle.cw_press.specs.Done.{Done, done_behind, as_it_is, done_then}
pub use Rattle.cw_texts.specs.WholeTexts.{IsWhole}
pub use Rattle.cw_press.specs.Texts.{Setting, Lasting, lasting, text_done}
pub use Rattle.cw_press.specs.{Weaving.Press, Weaving.Weaves, Weaving.press, declared.counts.Counts.Counts}
pub use Rattle.cw_trees.specs.Printing.{reserved_bytes}
