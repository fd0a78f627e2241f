-- The words in which these proofs speak, from where they are defined.
pub use Rattle.std.proofs.{lemmas.Bool.cases_lt, lemmas.Bool.cases_eq, lemmas.Bool.Decides.nat_tests}
pub use Rattle.std.proofs.{lemmas.Grind.common_steps}
pub use Rattle.std.proofs.Common.{◌≡◌, ℕ, suc, ◌+◌, ◌-◌, ◌*◌, ◌<◌, ◌≤◌, List, [], ◌∷◌, ◌++◌, length, map, drop, get_or}
pub use Rattle.std.proofs.Common.{Option, Some, None, refl, sym, ap, ◌∙◌, subst, option_map, arith, Bool, true, false}
pub use Rattle.std.proofs.Common.{inl, inr, zero, take, set, ◌⊎◌, ◌&&◌, IfSome, IsSome, is_some, unwrap_or, not}
pub use Rattle.std.proofs.lemmas.List.{append_assoc, append-nil, length-append, length_push, get_or_past, length-drop}
pub use Rattle.std.proofs.lemmas.List.{length-take, get_or-drop, get_or-set_same, get_or-set_other, get_or-take}
pub use Rattle.std.proofs.lemmas.List.{get_or-map, get_or_append_left, get_or-append_right, length-set, length-map}
pub use Rattle.std.proofs.lemmas.List.{length-take-le, ext_get_or, map-append, take-map, drop-map, drop_more}
pub use Rattle.std.proofs.lemmas.List.{take-append-drop, drop-drop, take_all, drop_all, take-set-le, drop-set}
pub use Rattle.std.proofs.lemmas.List.{drop-set-lt, set-append_left, set-append_right, drop-set-add, take-take}
pub use Rattle.std.proofs.lemmas.List.{take-append-le, take_at, drop_at, with_items_is}
pub use Rattle.std.proofs.lemmas.List.Elements.{All-append, All-take, All-drop, All-set, All-map, All-cons, All-head}
pub use Rattle.std.proofs.lemmas.List.Elements.{All-tail}
pub use Rattle.std.specs.{List.slice_get, List.All, List.list_all, Option.option_to_list}
pub use Rattle.cw_base.specs.{declared.category.Cat.Cat, declared.flags.Flags.Flags, declared.mode.MathMode.MathMode}
pub use Rattle.cw_base.specs.declared.category.Cat.TheVariants.{End, RawInt}
pub use Rattle.cw_base.specs.declared.mode.MathMode.TheVariants.{Math, Maybe, Text}
pub use Rattle.cw_names.specs.{declared.NameId.NameId, declared.entry.EntryKind.TheVariants.Ident}
pub use Rattle.cw_names.specs.Names.{Entry, place_of, with_entry, with_category}
pub use Rattle.cw_scraps.specs.{model.Building.Joins, model.Changing.Changes, Changing.Keeps, model.Gap.around}
pub use Rattle.cw_scraps.specs.{model.Gap.IsGap, model.Making.pieces_at, model.Making.IsMade, model.Making.kept}
pub use Rattle.cw_scraps.specs.{model.Making.joined, model.Modes.piece_agrees, model.Modes.IsSteady}
pub use Rattle.cw_scraps.specs.{model.Modes.JoinsAgree, model.Replacing.replaced_from, model.Replacing.Replaces}
pub use Rattle.cw_scraps.specs.{model.Turning.named_by, model.Turning.Turns, declared.line.LineEntry.LineEntry}
pub use Rattle.cw_scraps.specs.{declared.pieces.Insert.Insert}
pub use Rattle.cw_scraps.specs.Applying.{categories, looked_at, state_of, retyped, retyped_by}
pub use Rattle.cw_scraps.specs.model.Inserting.{insert_in, inserting, IsPieceWithin, toggle, tokens_of, left_of}
pub use Rattle.cw_scraps.specs.model.Inserting.{right_after, IsRun, entry_cats, inserted_by, IsInsertionWithin}
pub use Rattle.cw_scraps.specs.Leaves.{LeafForm, source, code_form, form_of, word_form, word_cat, own_cat, token_form}
pub use Rattle.cw_scraps.specs.Leaves.{MakesLeaf, HasForm, entry_of}
pub use Rattle.cw_scraps.specs.Lines.{no_entry, roots_of, AreRoots, seen, scraps_of, IsOutside, leaf_named_below}
pub use Rattle.cw_scraps.specs.Lines.{IsNamedBelow, IsSoundLine}
pub use Rattle.cw_table.proofs.Falling.{hold-at, room, alone-at, pieces-whole, falls, Falls}
pub use Rattle.cw_table.proofs.FirstLaws.{length-tests_of, first-window}
pub use Rattle.cw_table.specs.{Fitting.row_fits, Fitting.first_of, Fitting.window_of, Normal.fine_with, Normal.is_fine}
pub use Rattle.cw_table.specs.{Productions.productions, declared.types.Piece.Piece, declared.types.Row.Row}
pub use Rattle.cw_table.specs.{declared.types.RowResult.TheVariants.SameAs}
pub use Rattle.cw_table.specs.declared.types.Action.{Action}
pub use Rattle.cw_table.specs.Rewriting.{alone, takes_other, reserved_in, reserved_at, cats_of, row_pieces, math_piece}
pub use Rattle.cw_table.specs.Rewriting.{bolded, bolded_at, worded_at, joined_of, with_cat, new_from, new_scrap}
pub use Rattle.cw_table.specs.Rewriting.{search_in, named_scrap, named_right, rewrite_from, found_names, with_type}
pub use Rattle.cw_table.specs.Rewriting.{rewrite, is_stmt}
pub use Rattle.cw_table.specs.Rows.{pieces_for, test, tests_of, result_at, no_row, row_numbered, row_of}
pub use Rattle.cw_table.specs.Sound.{scraps_in, numbers_from, IsSound, row_is_sound, is_exp}
pub use Rattle.cw_tokens.proofs.Linking.{refers-more, pushed-ref, refers-within, refers-old}
pub use Rattle.cw_tokens.proofs.Unfolding.{reach-le, unfolded-old, unfolded-new, unfolded-same, reach-trans}
pub use Rattle.cw_tokens.specs.{Counting.token_count, Reserving.Reserves, declared.token.Token.Token}
pub use Rattle.cw_tokens.specs.References.{IsUnreferred, IsTied, token_ref, refers, Reach, here, next}
pub use Rattle.cw_tokens.specs.Shapes.{shape, ref_of, unfolded, tree_in, item_of, trees_from}
pub use Rattle.cw_tokens.specs.Stored.{StoredLists, MayBePushed, all_lists, with_built}
pub use Rattle.cw_trees.specs.Joining.{after, first_mode, Scrap, no_scrap, scrap_agrees, JoinPiece, Whole, Mark, needs}
pub use Rattle.cw_trees.specs.Joining.{toggled, joined_tree, join, Agrees, stays, reads_sign, joined_left, joined_right}
pub use Rattle.cw_trees.specs.Joining.{reads_leaf, leads_on, reads}
pub use Rattle.cw_trees.specs.Tree.{Leaf, Tree, Empty, Then, Sub, Inner, bare_name, Search, Found, Nothing, or_else}
pub use Rattle.cw_trees.specs.Tree.{search_leaf, first_ident, reserve_first, Sign, reserved_leaf}
pub use Rattle.cw_trees.specs.declared.Control.{Control}
