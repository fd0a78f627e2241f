-- The words in which these proofs speak, from where they are defined.
pub use Rattle.cw_base.specs.declared.flags.Flags.{Flags}
pub use Rattle.cw_base.specs.declared.memory.Memory.{Memory}
pub use Rattle.cw_base.specs.declared.mode.MathMode.TheVariants.{Text, Maybe}
pub use Rattle.cw_names.specs.Names.{Entry, place_of}
pub use Rattle.cw_names.specs.Words.{words_of}
pub use Rattle.cw_rewrite.proofs.GatherLaws.{gathers-roots, gathers-keeps, whole-named}
pub use Rattle.cw_rewrite.proofs.GatherSteps.{Builds, builds-pushed, builds-may, builds-lists, builds-gathers}
pub use Rattle.cw_rewrite.proofs.GatherSteps.{builds-more, builds-start}
pub use Rattle.cw_rewrite.specs.Gathering.{refs_in, Gathers}
pub use Rattle.cw_rewrite.specs.Telling.{WatchState, grown_by}
pub use Rattle.cw_rules.specs.Answers.{Begin, Finish, Note, Seen, Answer}
pub use Rattle.cw_rules.specs.declared.tokens.TokKind.{TokKind}
pub use Rattle.cw_scraps.proofs.Applied.{keeps-trans}
pub use Rattle.cw_scraps.proofs.Changings.{tied-idle}
pub use Rattle.cw_scraps.proofs.LeafForms.{IsGood, token-good, token-some, length-entry, more-named}
pub use Rattle.cw_scraps.specs.Applying.{state_of, categories}
pub use Rattle.cw_scraps.specs.Changing.{Keeps}
pub use Rattle.cw_scraps.specs.Leaves.{names_with, entry_of, LeafForm, HasForm, MakesLeaf, token_form}
pub use Rattle.cw_scraps.specs.Lines.{AreRoots, IsOutside, IsNamedBelow, seen, scraps_of, roots_of, IsSoundLine}
pub use Rattle.cw_scraps.specs.Marking.{MarkList, marked_names}
pub use Rattle.cw_scraps.specs.declared.leaves.Leaf.{Leaf}
pub use Rattle.cw_scraps.specs.declared.line.LineEntry.{LineEntry}
pub use Rattle.cw_table.specs.Normal.{count, normal, is_fine, Production, log}
pub use Rattle.cw_table.specs.Productions.{productions}
pub use Rattle.cw_table.specs.Rewriting.{State}
pub use Rattle.cw_table.specs.WalkCounts.{reservings, ticks}
pub use Rattle.cw_tokens.proofs.Unfolding.{unfolded-new, tree_in-same, unfolded-old}
pub use Rattle.cw_tokens.specs.References.{token_ref, refers, IsUnreferred, IsTied, Reach, next}
pub use Rattle.cw_tokens.specs.Shapes.{unfolded, tree_in, trees_from, shape, ref_of}
pub use Rattle.cw_tokens.specs.Stored.{StoredLists, MayBePushed}
pub use Rattle.cw_tokens.specs.declared.token.Token.{Token}
pub use Rattle.cw_tokens.specs.declared.token.Token.TheVariants.{Source as source, Control}
pub use Rattle.cw_translator.specs.Commenting.{part_seen, inner_lists, token_of}
pub use Rattle.cw_translator.specs.Counting.{limit_in, scraps_in, productions_in, ticks_in, text_limit}
pub use Rattle.cw_translator.specs.Holders.{held_scrap, held_tree, name_rest}
pub use Rattle.cw_translator.specs.model.Holders.{held_leaf, behind_name, name_part}
pub use Rattle.cw_translator.specs.Holders.{name_tree}
pub use Rattle.cw_translator.specs.model.Holders.{sign_tokens}
pub use Rattle.cw_translator.specs.model.LinesDone.{LineDone}
pub use Rattle.cw_translator.specs.Opening.{HasCome, IsSoundFrame, IsTranslating, all_roots, answers_in}
pub use Rattle.cw_translator.specs.model.Opening.{begun_by}
pub use Rattle.cw_translator.specs.Opening.{frames_of, progress_of, IsNamedItem}
pub use Rattle.cw_translator.specs.model.Opening.{last_line, with_entry, with_part}
pub use Rattle.cw_translator.specs.Opening.{frame_of, open_roots, AreSoundScraps}
pub use Rattle.cw_translator.specs.Reading.{Progress, after_answers, after_finish, after_token, frames_begun, CText}
pub use Rattle.cw_translator.specs.Reading.{Comment, last_scraps, Frame, with_scrap, with_item, with_form}
pub use Rattle.cw_translator.specs.model.Reading.{all_ended}
pub use Rattle.cw_translator.specs.Reading.{after_answer}
pub use Rattle.cw_translator.specs.Recording.{HasRecorded, texts_told, begun_over, ended_now, logged, longer_by}
pub use Rattle.cw_translator.specs.Retyping.{NamesAmong, Retypes, later, NamesOnTheWay, here, at_end, at_finish}
pub use Rattle.cw_translator.specs.Retyping.{RetypesIn}
pub use Rattle.cw_translator.specs.Translating.{CommentItem, Piece, InnerText, comment_rest, comment_tree}
pub use Rattle.cw_translator.specs.Translating.{comment_scrap, state_in, with_categories, Known, name_in_text}
pub use Rattle.cw_translator.specs.Translating.{names_in_text, sign_behind, leaf_scrap, with_names, Ended, end_from}
pub use Rattle.cw_translator.specs.Working.{IsSameWork, Advances, over, progress_over, EndsIn, to_end, Route, Target}
pub use Rattle.cw_translator.specs.Working.{HasComeOver, HasEndedOver, prolonged}
pub use Rattle.cw_translator.specs.declared.comments.CommentPart.{CommentPart}
pub use Rattle.cw_translator.specs.declared.holders.Holder.{Holder}
pub use Rattle.cw_translator.specs.declared.nesting.Open.{Open}
pub use Rattle.cw_translator.specs.declared.translator.Translated.{Translated}
pub use Rattle.cw_translator.specs.declared.translator.Translator.{Translator}
pub use Rattle.cw_translator.specs.declared.work.Work.{Work}
pub use Rattle.cw_trees.specs.Joining.{scrap_agrees, reads, whole, Scrap}
pub use Rattle.cw_trees.specs.Tree.{Then, Inner, Source, Sign, Tree, Empty}
pub use Rattle.std.proofs.Common.{◌≡◌, ℕ, ◌+◌, ◌*◌, ◌≤◌, List, [], ◌∷◌, length, None, ◌⊎◌, inl, inr, refl, sym, ap, ◌∙◌}
pub use Rattle.std.proofs.Common.{subst, Option, add-zero, arith, ◌-◌, ◌<◌, ◌++◌, get_or, Some, map, drop, option_map}
pub use Rattle.std.proofs.Common.{true, append_assoc, IsSome, IfSome, suc, take, zero-add, rules}
pub use Rattle.std.proofs.lemmas.Grind.{get_or_default_zero, common_steps}
pub use Rattle.std.proofs.lemmas.List.{append-nil, get_or_append_left, get_or-append-add, get_or-append_right}
pub use Rattle.std.proofs.lemmas.List.{length-append, drop_more, drop_all, length-map, map-append, take_all}
pub use Rattle.std.proofs.lemmas.List.{take-append-le}
pub use Rattle.std.proofs.lemmas.List.Elements.{All-cons, All-head, All-tail, All-append}
pub use Rattle.std.proofs.lemmas.Result.{on_ok_weaker, IfOk-weaker, on_err_weaker}
pub use Rattle.std.specs.List.{All, slice_get}
pub use Rattle.std.specs.Option.{option_to_list}
pub use Rattle.std.specs.Prelude.{Result, Ok, IsErrAnd, OnOk, Err, IfOk}
