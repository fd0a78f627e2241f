-- The words in which these proofs speak, from where they are defined.
pub use Rattle.std.proofs.Common.{◌≡◌, ◌≢◌, ℕ, ◌≤◌, Bool, true, false, Option, Some, None, List, [], ◌∷◌, length, map}
pub use Rattle.std.proofs.Common.{slice_get, refl, sym, ap, subst, arith, eq-eqb, ◌^◌, ◌∙◌, suc, zero, ◌+◌, ◌<◌}
pub use Rattle.std.proofs.Common.{if◌then◌else◌, not, ◌&&◌, set, nat_le, drop, ◌-◌, ◌++◌, append_assoc, append-nil}
pub use Rattle.std.proofs.Common.{length-drop, ◌||◌, nat_lt, slice_index, take, length-append, unwrap_or, cond}
pub use Rattle.std.proofs.lemmas.Bool.{lt-ltb, le-leb, leb-true, ltb-false}
pub use Rattle.std.proofs.lemmas.List.{length-map, take-append-drop, length-take}
pub use Rattle.std.proofs.lemmas.List.Concat.{flat_map-cons}
pub use Rattle.std.proofs.lemmas.List.Elements.{All-append, All-head, All-map, All-nil, All-tail, All-weaker}
pub use Rattle.std.proofs.lemmas.List.Elements.{All-from_recursion, recursion_from_All, All-cons, All-filter, All-push}
pub use Rattle.std.specs.{Cmp.Lexicographic.pointwise, List.All, List.list_all, List.AllByRecursion, Prelude.◌==◌}
pub use Rattle.std.specs.{Prelude.nat_eq}
pub use Rattle.cw_base.proofs.TestLaws.{both, both-left, both-right, not-true}
pub use Rattle.cw_base.specs.{Category.may_be_bare, Category.is_end, Flags.start_flags, Text.bar, Text.pieces_of}
pub use Rattle.cw_base.specs.{Web.MergedLine, Web.text_of, declared.category.Cat.Cat}
pub use Rattle.cw_base.specs.{declared.category.Cat.TheVariants.End, declared.flags.Flags.Flags}
pub use Rattle.cw_base.specs.{declared.span.Span.Span}
pub use Rattle.cw_each.specs.EachText.{EndedText, each_text, text_ended}
pub use Rattle.cw_lex.proofs.Covering.{tokens-cover}
pub use Rattle.cw_lex.specs.Lexing.{tokens_of, still_fresh, answers}
pub use Rattle.cw_lex.specs.Nest.{Nest, Leaf, Group, group, leaf, nests, first_nest, nest}
pub use Rattle.cw_lex.specs.Nested.{until_section, is_section_answer}
pub use Rattle.cw_log.specs.Check.{check_file, judged, run_of, too_long_text}
pub use Rattle.cw_log_laws.specs.LoggedTexts.{IsKept, IsLater, IsRightBlock, AreNames, HasShortNames, IsInside}
pub use Rattle.cw_log_laws.specs.LoggedTexts.{TextsAreLogged, TextsKeepNames}
pub use Rattle.cw_logs.specs.{Appending.block_of, Judgement.Judgement, Judgement.no_log}
pub use Rattle.cw_logs.specs.LogText.{Block, IsFineLine, fits_kind, greatest, is_identifier, IsFineBlock, log_lines}
pub use Rattle.cw_logs.specs.LogText.{log_text, IsFineItem}
pub use Rattle.cw_names.specs.{declared.entry.EntryKind.EntryKind, declared.entry.EntryKind.TheVariants.Ident}
pub use Rattle.cw_names.specs.{declared.entry.NameId.NameId}
pub use Rattle.cw_names.specs.Names.{Entry, AreDistinct, is_entry, with_category, with_entry, place_of, same_kind}
pub use Rattle.cw_names.specs.Words.{built_in_words, category_among, directive_words, words_with}
pub use Rattle.cw_phase1.specs.{Book.book, Book.answers_of, Roles.Placement, Roles.placed, Roles.at_limbo}
pub use Rattle.cw_rules.proofs.Taking.{AreBare, AreNotes, TakesAll, Takes, bare-all-cut, found-takes}
pub use Rattle.cw_rules.specs.{declared.codes.Code.Code, declared.tokens.Mode.Mode, declared.tokens.TokKind.TokKind}
pub use Rattle.cw_rules.specs.Answers.{Answer, Token, Begin, Finish, Note, Seen, Where, ScanStep, Cut, note_answers}
pub use Rattle.cw_rules.specs.model.Apart.{found_apart, code_text_apart, comment_text_apart, behind_head_apart}
pub use Rattle.cw_rules.specs.model.Apart.{part_text_apart, in_text_apart}
pub use Rattle.cw_scraps.specs.Leaves.{LeafForm, names_with, token_form, code_form, form_of, own_cat, sign_cat}
pub use Rattle.cw_scraps.specs.Leaves.{cat_in_line, word_cat, word_form}
pub use Rattle.cw_secnames.specs.{Kept.SecName, Uses.NameUse, Uses.name_at}
pub use Rattle.cw_table.proofs.Normals.{steps-none, steps-turn, log-none-of, log-turn-of, takes}
pub use Rattle.cw_table.specs.{Productions.productions, declared.types.Row.Row}
pub use Rattle.cw_table.specs.Normal.{Production, is_fine, fine_with, log, Place, Nowhere, At, next_place, steps}
pub use Rattle.cw_table.specs.Normal.{weight, log_of, normal}
pub use Rattle.cw_table.specs.Rewriting.{State, rewrite, with_type, cats_of}
pub use Rattle.cw_texts.specs.Texts.{texts_of, definition_ref, definition_refs, part_refs, piece_refs, refs_from}
pub use Rattle.cw_texts.specs.Texts.{section_refs, tex_refs, text_ref}
pub use Rattle.cw_texts.specs.declared.text_list.TextRef.{TextRef}
pub use Rattle.cw_tokens.specs.Shapes.{tree_in}
pub use Rattle.cw_translator.specs.Recording.{logged}
pub use Rattle.cw_trees.specs.Joining.{Scrap}
pub use Rattle.cw_trees.specs.Tree.{Source, Reserved, Sign, Tree, Empty, Then, Sub, Inner, bare_name, search_word}
pub use Rattle.cw_trees.specs.Tree.{Search}
