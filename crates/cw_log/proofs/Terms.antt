-- The words in which these proofs speak, from where they are defined.
pub use Rattle.std.proofs.Common.{◌≡◌, ℕ, zero, suc, ◌+◌, ◌*◌, ◌<◌, ◌≤◌, Bool, true, false, Option, Some, None, List}
pub use Rattle.std.proofs.Common.{[], ◌∷◌, ◌++◌, length, map, drop, get_or, slice_get, refl, sym, ◌∙◌, ap, subst, arith}
pub use Rattle.std.proofs.Common.{drop-cons, append_assoc, All, ◌-◌, ◌&&◌, inl, inr, sum_by, eqb, cond, Result, Ok, Err}
pub use Rattle.std.proofs.Common.{IsErrAnd, take, ◌≢◌, nat_le, rules, slice_index_or}
pub use Rattle.std.proofs.lemmas.Bool.Decides.{eqb_tells, nat_tests}
pub use Rattle.std.proofs.lemmas.Grind.{flat_map-append, common_steps}
pub use Rattle.std.proofs.lemmas.List.{map-append, length-map, append-nil, length-append, take_all, take_more}
pub use Rattle.std.specs.{FinMap.get, List.flat_map, Result.IfOk}
pub use Rattle.cw_base.proofs.TestLaws.{both-left, both-right}
pub use Rattle.cw_base.specs.{Text.pieces_of, Text.pieces_by, declared.category.Cat.Cat, declared.flags.Flags.Flags}
pub use Rattle.cw_logs.specs.Judging.{Judges, same_item}
pub use Rattle.cw_each.specs.EachText.{EndedText, TextSource, text_ended}
pub use Rattle.cw_leaves.specs.{Sights.Utterance, Sights.followed, Sights.silence, Sights.told_by}
pub use Rattle.cw_leaves.specs.{declared.kinds.LeafKind.LeafKind, declared.lines.LeafLine.LeafLine}
pub use Rattle.cw_leaves.specs.{declared.lines.LogItem.LogItem, declared.lines.TextLog.TextLog}
pub use Rattle.cw_leaves.specs.LeafLines.{said, text_at, HasNoMark, IsIdentEntry, IsTold, leaf_line, log_of_lines}
pub use Rattle.cw_leaves.specs.LeafLines.{kind_by}
pub use Rattle.cw_leaves.specs.Spelling.{id_of, line_by, line_of, spelled, production_of, item_of}
pub use Rattle.cw_lines.specs.declared.put_error.PutError.{PutError}
pub use Rattle.cw_log.specs.{Logged.HasLogged, Logged.LoggedTexts, declared.file.TheConstants.LOG_LIMIT}
pub use Rattle.cw_log.specs.Check.{check_bytes, judged, no_log_text, run_of, too_long_text, check_file}
pub use Rattle.cw_log.specs.Checking.{checked, checked_by, from_wrong, is_right, told, IsCheckedAs}
pub use Rattle.cw_log.specs.LogOfWeb.{blocks_from, state_block, text_blocks}
pub use Rattle.cw_log.specs.Making.{ident_token, last_tokens, made_form, made_tokens}
pub use Rattle.cw_log.specs.model.Telling.{token_said, IsSaid, ItemsSayProductions, LinesSayScraps}
pub use Rattle.cw_log.specs.model.Writing.{block_bytes, ended_by, recorded_of, source_of}
pub use Rattle.cw_log.specs.declared.checking.Checked.TheVariants.{Accepted, Rejected}
pub use Rattle.cw_logs.proofs.{Cutting.all-append, Cutting.all-cons, Deciding.judgement}
pub use Rattle.cw_logs.specs.{Appending.block_of, Blocks.AreIdents, Blocks.HasBlock, LogReading.IsLog}
pub use Rattle.cw_logs.specs.{LogReading.IsFaultAt}
pub use Rattle.cw_logs.specs.LogText.{IsFineLine, fits_kind, Block, block_lines, end_text, item_text, line_text}
pub use Rattle.cw_logs.specs.LogText.{log_lines, IsFineBlock, ended, log_text}
pub use Rattle.cw_names.specs.{Names.Entry, Names.AreDistinct, declared.entry.NameId.NameId}
pub use Rattle.cw_rewrite.specs.Telling.{WatchState}
pub use Rattle.cw_run.specs.laws.EmitsLaws.{runs-known, runs-after}
pub use Rattle.cw_scraps.proofs.LeafForms.{leaf-sound, IsGood}
pub use Rattle.cw_scraps.specs.Lines.{seen, scraps_of, IsSoundLine, IsNamedBelow, AreRoots, roots_of}
pub use Rattle.cw_scraps.specs.declared.line.LineEntry.{LineEntry}
pub use Rattle.cw_table.specs.{Normal.Production, Normal.log, Normal.fine_with, Productions.productions}
pub use Rattle.cw_table.specs.{Rewriting.State}
pub use Rattle.cw_texts.specs.declared.text_list.TextRef.{TextRef}
pub use Rattle.cw_tokens.proofs.Unfolding.{unfold-is, unfolded-old, unfolded-new}
pub use Rattle.cw_tokens.specs.{References.refers, References.token_ref, References.IsTied, Stored.with_built}
pub use Rattle.cw_tokens.specs.{Stored.StoredLists, declared.token.Token.Token}
pub use Rattle.cw_tokens.specs.Shapes.{Shape, Plain, Below, InnerBelow, shape, ref_of, tree_in, trees_from, unfolded}
pub use Rattle.cw_run.proofs.RefusalLaws.{line-refused}
pub use Rattle.cw_translator.specs.Recording.{HasRecorded, logged, ended_now}
pub use Rattle.cw_trees.specs.{Joining.Scrap, Joining.reads, Tree.Tree, Tree.search_word, Tree.bare_name}
