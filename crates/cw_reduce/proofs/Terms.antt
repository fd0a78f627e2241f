-- The words in which these proofs speak, from where they are defined.
pub use Rattle.cw_translator.proofs.Terms.{Flags, Text, Maybe, Entry, Answer, Begin, Finish, Note, Seen, TokKind}
pub use Rattle.cw_translator.proofs.Terms.{tied-idle, LeafForm, token_form, names_with, marked_names, State, tree_in}
pub use Rattle.cw_translator.proofs.Terms.{Token as StoredToken, limit_in, productions_in, scraps_in, ticks_in}
pub use Rattle.cw_translator.proofs.Terms.{answers_in, Progress, all_ended, after_answers, CText, Frame, Comment}
pub use Rattle.cw_translator.proofs.Terms.{with_scrap, with_item, with_form, here, Known, with_names, names_in_text}
pub use Rattle.cw_translator.proofs.Terms.{leaf_scrap, sign_behind, name_in_text, CommentItem, Piece, InnerText}
pub use Rattle.cw_translator.proofs.Terms.{comment_scrap, Ended, progress_over, Scrap, scrap_agrees, reads, Tree, Sign}
pub use Rattle.cw_translator.proofs.Terms.{Empty, Then, Source, ◌≡◌, ℕ, true, ◌+◌, ◌*◌, ◌≤◌, None, List, [], ◌∷◌, refl}
pub use Rattle.cw_translator.proofs.Terms.{sym, ap, ◌∙◌, length, Option, arith, ◌++◌, subst, ◌<◌, Some, option_map}
pub use Rattle.cw_translator.proofs.Terms.{get_or, inl, inr, IfSome, map, take, append_assoc, common_steps, append-nil}
pub use Rattle.cw_translator.proofs.Terms.{All-head, All-tail, on_ok_weaker, All, slice_get}
pub use Rattle.cw_answers.proofs.Staying.{read-up-behind, stays-trans}
pub use Rattle.cw_answers.specs.Reading.{Stays}
pub use Rattle.cw_base.proofs.TestLaws.{both, both-left, both-right}
pub use Rattle.cw_base.specs.Conditions.{list_if}
pub use Rattle.cw_base.specs.declared.category.Cat.{Cat}
pub use Rattle.cw_base.specs.declared.category.Cat.TheVariants.{Exp, TexLike, Dead, SectionScrap}
pub use Rattle.cw_base.specs.declared.mode.MathMode.{MathMode}
pub use Rattle.cw_base.specs.declared.mode.MathMode.TheVariants.{Math}
pub use Rattle.cw_base.specs.declared.notes.NoteKind.{NoteKind}
pub use Rattle.cw_base.specs.declared.span.Span.{Span}
pub use Rattle.cw_lex.proofs.HeadNests.{nested-behind, nest-token, words-leave}
pub use Rattle.cw_lex.proofs.Nests.{nest-well}
pub use Rattle.cw_lex.proofs.TokensWithin.{tokens-within}
pub use Rattle.cw_lex.specs.Heads.{headed, head_behind, head_words, Head, Headless, Named, Headed, headed_by, headless}
pub use Rattle.cw_lex.specs.Heads.{named_headed, wanted_by, Macro, Format, Silent}
pub use Rattle.cw_lex.specs.Lexing.{tokens_of}
pub use Rattle.cw_lex.specs.Limbo.{is_name_kind}
pub use Rattle.cw_lex.specs.Nest.{nest, Nest, End, Leaf, Group, group, nests, first_nest, IsWell, leaf}
pub use Rattle.cw_lex.specs.Nested.{IsNested, Level, InCode, InComment, after_token, after_begin, after_finish}
pub use Rattle.cw_lex.specs.Nested.{levels_after, all_levels_after, until_section, begins_section_in}
pub use Rattle.cw_lex.specs.declared.heads.Expectation.{Expectation}
pub use Rattle.cw_names.specs.Names.{is_entry, with_entry}
pub use Rattle.cw_names.specs.Words.{built_in_words}
pub use Rattle.cw_names.specs.declared.NameId.{NameId}
pub use Rattle.cw_names.specs.declared.entry.EntryKind.TheVariants.{Ident}
pub use Rattle.cw_reduce.specs.HeadReading.{NamesWithin, read_made, head_line}
pub use Rattle.cw_reduce.specs.model.HeadReading.{answers_ahead, is_definition, name_ahead, without_notes, answer_words}
pub use Rattle.cw_reduce.specs.Naming.{with_texts, held_answers, is_name_answer, name_answers, text_answers, text_token}
pub use Rattle.cw_reduce.specs.Naming.{texts_answers, token_answers, ends_text}
pub use Rattle.cw_reduce.specs.TranslationLaws.{InnersRead, ReadsInText}
pub use Rattle.cw_reduce.specs.Visible.{starts, shown_in, shown_head, shown}
pub use Rattle.cw_reduce.specs.declared.heads.Beginning.{Beginning}
pub use Rattle.cw_reduce.specs.declared.heads.HeadRead.{HeadRead}
pub use Rattle.cw_rules.specs.Answers.{Token, Gives, seen, is_head_sign}
pub use Rattle.cw_rules.specs.declared.codes.Code.{Code}
pub use Rattle.cw_rules.specs.declared.tokens.Lexed.{Lexed}
pub use Rattle.cw_rules.specs.declared.tokens.Mode.TheVariants.{Inner as inner_mode, CPart, Definition}
pub use Rattle.cw_rules.specs.declared.tokens.Tok.{Tok}
pub use Rattle.cw_scraps.specs.Leaves.{sign_mode, word_form, code_form}
pub use Rattle.cw_scraps.specs.model.Words.{is_word}
pub use Rattle.cw_scraps.specs.declared.line.LineEntry.{LineEntry}
pub use Rattle.cw_secnames.specs.Parts.{inner_parts}
pub use Rattle.cw_secnames.specs.model.Parts.{parts_at, IsNextPart}
pub use Rattle.cw_secnames.specs.Uses.{NameUse, name_at}
pub use Rattle.cw_secnames.specs.declared.kinds.SecKind.{SecKind}
pub use Rattle.cw_table.proofs.CountLaws.{ticks-most}
pub use Rattle.cw_table.proofs.Examples.{productions-sound}
pub use Rattle.cw_table.specs.Fitting.{first_of}
pub use Rattle.cw_table.specs.declared.types.Row.{Row}
pub use Rattle.cw_tokens.specs.declared.token.ListId.{ListId}
pub use Rattle.cw_translator.proofs.AnswerRoutes.{begin-advances, unchanged, token-advances}
pub use Rattle.cw_translator.proofs.FinishSteps.{same-names, gathers-root}
pub use Rattle.cw_translator.proofs.FormatNames.{names-append}
pub use Rattle.cw_translator.proofs.LeafSteps.{empty-line, keeps-itself, names-grow, leaf-step}
pub use Rattle.cw_translator.proofs.Recorded.{grown-none, recorded-one, recorded-none, recorded-refused}
pub use Rattle.cw_translator.proofs.Routes.{ends-as, err-if, err-ok, on-err, Advancing, advances-done, advances-none}
pub use Rattle.cw_translator.proofs.Routes.{advancing-begun, advancing-next, advances-as, after-append, ends-refused}
pub use Rattle.cw_translator.proofs.Routes.{ends-then, ends-answers, ends-answers-stopped, answers-as, advancing-last}
pub use Rattle.cw_translator.proofs.Routes.{advancing-stopped, advances-stopped, advances-then, ends-stopped, way-end}
pub use Rattle.cw_translator.proofs.Routes.{ends-behind, advances-unread, advancing-ended}
pub use Rattle.cw_translator.proofs.Sums.{limit-one, limits-more, productions-one, scraps-one, ticks-more, ticks-one}
pub use Rattle.cw_translator.specs.Counting.{logs_in}
pub use Rattle.cw_translator.specs.NameParts.{name_texts, parts_by_kind, parts_of_name}
pub use Rattle.cw_translator.specs.Opening.{HasEnded, StartsBelow, of_nothing}
pub use Rattle.cw_translator.specs.model.Opening.{of_leaf}
pub use Rattle.cw_translator.specs.Translating.{begin, first_word, later_words, spelled, word_tokens}
pub use Rattle.cw_translator.specs.Working.{texts_in}
pub use Rattle.cw_translator.specs.declared.holders.Holder.{Holder}
pub use Rattle.cw_translator.specs.declared.translator.Translated.{Translated}
pub use Rattle.cw_translator.specs.declared.translator.Translator.{Translator}
pub use Rattle.cw_translator.specs.declared.work.Work.{Work}
pub use Rattle.cw_trees.specs.Flat.{struck, Item, SourceItem, IdentItem, ReservedItem, SignItem, flat, trimmed_items}
pub use Rattle.cw_trees.specs.Flat.{continues_name, Open, Close}
pub use Rattle.std.proofs.Common.{Bool, false, not, Result, ◌^◌, Ok, zero, is_some, codes, nat_eq, eqb, rules}
pub use Rattle.std.proofs.lemmas.Bool.{ltb-true, cases_lt}
pub use Rattle.std.proofs.lemmas.List.{get_or_past, take_more, nil_from_length}
pub use Rattle.std.proofs.lemmas.List.Elements.{All-map}
pub use Rattle.std.specs.List.{list_all}
pub use Rattle.std.specs.Prelude.{if◌then◌else◌, ◌-◌}
