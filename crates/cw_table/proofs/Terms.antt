-- The words in which these proofs speak, from where they are defined.
pub use Rattle.std.proofs.{lemmas.Grind.common_steps, lemmas.List.Sums.AllPass-from_list_all}
pub use Rattle.std.proofs.Common.{◌≡◌, ◌≤◌, ◌∙◌, sym, ℕ, zero, suc, Bool, true, false, List, [], ◌∷◌, length, Some}
pub use Rattle.std.proofs.Common.{refl, arith, length-take-le, map, get_or, replicate, ◌<◌, ◌+◌, ap, inl, inr, leb}
pub use Rattle.std.proofs.Common.{ltb-true, ◌-◌, ◌⊎◌, Option, None, take, drop, true≢false, leb-false, length-append}
pub use Rattle.std.proofs.Common.{length-drop, drop-drop, ◌&&◌, not, ◌++◌, ◌||◌, eqb, ltb, take-append-drop, add-zero}
pub use Rattle.std.proofs.Common.{option_map, unwrap_or, ◌*◌, if◌then◌else◌, eq-eqb, codes, ltb-false, set, add_assoc}
pub use Rattle.std.proofs.Common.{zero-add, take_all, subst, cond, length-set}
pub use Rattle.std.proofs.lemmas.Bool.{leb-true, eqb-true, lt-ltb, ne_eqb, eqb-false}
pub use Rattle.std.proofs.lemmas.Bool.Decides.{nat_tests, eqb_tells, leb_tells}
pub use Rattle.std.proofs.lemmas.List.{get_or_past, drop-append-le, get_or-append-add, get_or-append_right, get_or-drop}
pub use Rattle.std.proofs.lemmas.List.{get_or-take, get_or_append_left, get_or-map, length-take, append_assoc}
pub use Rattle.std.proofs.lemmas.List.{drop_more, take_more, take_more_set}
pub use Rattle.std.proofs.lemmas.List.Folds.{list_all-append, list_all_at, list_all_more, list_any_at, list_any_more}
pub use Rattle.std.proofs.lemmas.Option.{slice_get-get_or, get_or_from_slice_get, slice_get_within}
pub use Rattle.std.specs.List.{list_all, All, flat_map, list_any, prefix_len}
pub use Rattle.std.specs.Prelude.{slice_get, filter, is_some, IfSome, bit_and}
pub use Rattle.cw_base.proofs.CategoryLaws.{each-of, every-cat, place-of}
pub use Rattle.cw_base.proofs.SetLaws.{any-at, meet-by, any-same}
pub use Rattle.cw_base.proofs.TestLaws.{both-left, both-right, not-true, other-one, unless, both, both-failed}
pub use Rattle.cw_base.proofs.TestLaws.{not-false, one-failed-left, one-failed-right, one-left, one-right}
pub use Rattle.cw_base.specs.{Flags.start_flags, declared.category.Cat.Cat, declared.category.CatSet.CatSet}
pub use Rattle.cw_base.specs.{declared.flags.Flags.Flags, declared.mode.MathMode.MathMode}
pub use Rattle.cw_base.specs.Category.{in_set, rank, may_be_bare, all_cats, meet, number_of}
pub use Rattle.cw_base.specs.declared.category.Cat.TheVariants.{Exp, End, FnDecl, Stmt, RawInt, ElseLike, Semi, RawUbin}
pub use Rattle.cw_base.specs.declared.category.Cat.TheVariants.{Binop, Ubinop, Question, Lpar, Rpar, Lbrace, Rbrace}
pub use Rattle.cw_base.specs.declared.category.Cat.TheVariants.{Comma, Colon, StructLike, CaseLike, IfLike, SizeofLike}
pub use Rattle.cw_base.specs.declared.category.Cat.TheVariants.{TypedefLike, Decl, Dot, ConstLike, ForLike, Dots}
pub use Rattle.cw_base.specs.declared.category.Cat.TheVariants.{TypeofLike, Colcol, AttrHead}
pub use Rattle.cw_base.specs.declared.mode.MathMode.TheVariants.{Maybe, Math}
pub use Rattle.cw_table.specs.{model.Joined.joined, model.Joined.zipped, NormalLaws.NoneFitsBelow}
pub use Rattle.cw_table.specs.{NormalLaws.SafeReachesFar, Productions.productions, declared.masks.RowSet.RowSet}
pub use Rattle.cw_table.specs.{declared.productions.Head.Head, declared.types.Piece.Piece}
pub use Rattle.cw_table.specs.{declared.types.Piece.TheVariants.Blank, declared.types.Row.Row}
pub use Rattle.cw_table.specs.{declared.types.RowResult.RowResult}
pub use Rattle.cw_table.specs.Fitting.{all_hold, first_of, row_fits, seen, window_of}
pub use Rattle.cw_table.specs.Normal.{Production, rank_with, weight_of, weight, fine_with, is_fine, Place, Nowhere, At}
pub use Rattle.cw_table.specs.Normal.{least_place, next_place, steps, log_of, normal, log, count}
pub use Rattle.cw_table.specs.NormalWalk.{walk_left, Position, positions_of, turns, walk_of, walked_of}
pub use Rattle.cw_table.specs.Rewriting.{State, cats_of, row_pieces, joined_of, alone, with_cat, new_scrap, worded_at}
pub use Rattle.cw_table.specs.Rewriting.{rewrite_from, rewrite, math_piece, new_from, search_in, reserved_in, bolded}
pub use Rattle.cw_table.specs.Rewriting.{named_scrap, named_right}
pub use Rattle.cw_table.specs.Rows.{tests_of, empty, test, result_at, no_row, pieces_for, row_numbered, row_of, joins}
pub use Rattle.cw_table.specs.Rows.{replaces_all, only}
pub use Rattle.cw_table.specs.Safe.{Pair, SafeIsSound, brings, is_hazard, least, members, pairs_by, pairs_of, reserves}
pub use Rattle.cw_table.specs.Safe.{safe, sees_moved, suits_after, suits_before, rewritten, suits_at}
pub use Rattle.cw_table.specs.Sound.{IsSound, row_is_sound, IsLowering, is_blank, is_exp, is_used, lowers}
pub use Rattle.cw_table.specs.Sound.{names_replaced, result_is_good, same_numbers, sound_parts, underline_is_good}
pub use Rattle.cw_table.specs.Sound.{without_end, scraps_in, numbers_from, result_from, are_numbered, counts_parts}
pub use Rattle.cw_table.specs.Sound.{marks_parts, pieces_parts, result_parts, scrap_in, tests_parts}
pub use Rattle.cw_table.specs.declared.productions.TheConstants.{TESTS, USUAL, OTHER, HEADS, ROW_COUNT}
pub use Rattle.cw_table.specs.declared.productions.TheConstants.{USUAL_INSERTIONS, OTHER_INSERTIONS}
pub use Rattle.cw_table.specs.declared.types.Action.{Action}
pub use Rattle.cw_table.specs.declared.types.RowResult.TheVariants.{Is, SameAs}
pub use Rattle.cw_trees.specs.Joining.{Scrap, whole, no_scrap, join, JoinPiece, Whole, Mark, needs, after, toggled}
pub use Rattle.cw_trees.specs.Joining.{joined_tree}
pub use Rattle.cw_trees.specs.Tree.{Source, Ident, Reserved, Empty, Then, bare_name, Leaf, Tree, Sub, Inner, Search}
pub use Rattle.cw_trees.specs.Tree.{reserved_leaf, reserve_first, Sign}
