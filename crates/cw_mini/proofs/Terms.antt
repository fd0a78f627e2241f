-- The words in which these proofs speak, from where they are defined.
pub use Rattle.std.proofs.{lemmas.Bool.Decides.nat_tests, lemmas.List.Concat.flat_map-cons, lemmas.Result.on_ok_weaker}
pub use Rattle.std.proofs.Common.{◌≡◌, ℕ, Bool, true, false, ◌&&◌, not, ◌==◌, ◌||◌, List, [], ◌∷◌, refl, ◌∙◌, inl, inr}
pub use Rattle.std.proofs.Common.{filter, map, cond, arith, ◌+◌, ◌≤◌, ◌^◌, ◌++◌, All, Some, ap, drop, length, subst}
pub use Rattle.std.proofs.Common.{sym, suc, ◌-◌, ◌<◌, append_assoc, zero, get_or, codes, set, Vec, Global, fold, rules}
pub use Rattle.std.proofs.lemmas.List.{drop_more, append-nil, drop_all, map-append}
pub use Rattle.std.proofs.lemmas.List.Elements.{All-weaker, All-head, All-tail, All-cons, All-nil, All-filter}
pub use Rattle.std.proofs.lemmas.Option.{get_or_from_slice_get, slice_get_within}
pub use Rattle.std.specs.List.{flat_map, range_with_len, list_any}
pub use Rattle.std.specs.Prelude.{◌≢◌, slice_get, Result, Ok, Err, IsErrAnd, IsTrue, ⊤, option_map, OnOk}
pub use Rattle.cw_base.specs.{Conditions.list_if, declared.category.Cat.Cat, declared.event.Out.TheVariants.Tex}
pub use Rattle.cw_desk.specs.Journal.{byte_events}
pub use Rattle.cw_index.specs.Mentions.{IndexRow, has_sections, index_rows, needs_underline, row, is_ident, listed}
pub use Rattle.cw_index.specs.Mentions.{row_cmp, rows_from, with_row}
pub use Rattle.cw_join.specs.Early.{added, depth_behind, late}
pub use Rattle.cw_join.specs.Tokens.{CanCome, alone, item_bytes, is_tex_like}
pub use Rattle.cw_lines.specs.laws.WritesLaws.{adds-events, adds-none}
pub use Rattle.cw_mini.specs.Left.{is_inner, left_book, left_by_text, left_by_texts, left_with, ref_done}
pub use Rattle.cw_mini.specs.Marks.{occurrence_of, with_marks}
pub use Rattle.cw_mini.specs.Mini.{defining, is_listed_in, is_own_name, is_used_in, mini_row, numbers, stands_in}
pub use Rattle.cw_mini.specs.Mini.{MiniRow, section_rows, mini_rows}
pub use Rattle.cw_mini.specs.MiniFile.{defining_bytes, row_line, book_lines, section_lines}
pub use Rattle.cw_mini.specs.model.RowForms.{positions, row_names, IsWordOf, names_at, may_be_listed, places_of}
pub use Rattle.cw_names.specs.{Mentions.mentions, Mentions.AreAscending, Names.Entry}
pub use Rattle.cw_names.specs.{declared.entry.EntryKind.EntryKind, declared.entry.NameId.NameId}
pub use Rattle.cw_names.specs.{declared.xrefs.Occurrence.Occurrence, declared.xrefs.SectionRef.SectionRef}
pub use Rattle.cw_names.specs.declared.entry.EntryKind.TheVariants.{Ident, Roman}
pub use Rattle.cw_phase1.specs.declared.book.Book.{Book}
pub use Rattle.cw_press.specs.Texts.{lasting, setting, text_done, Lasting}
pub use Rattle.cw_press.specs.{Done.Done, Weaving.underlined}
pub use Rattle.cw_run.specs.laws.PieceLaws.{open-after, piece-stop, piece-then, piece-wanting}
pub use Rattle.cw_translator.specs.NameParts.{AreNamesOf}
