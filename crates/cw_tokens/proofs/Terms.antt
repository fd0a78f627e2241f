-- The words in which these proofs speak, from where they are defined.
pub use Rattle.std.proofs.{lemmas.Grind.common_steps, lemmas.Option.slice_get_within, lemmas.Option.slice_get-get_or}
pub use Rattle.std.proofs.Common.{◌≡◌, ℕ, zero, suc, ◌+◌, ◌<◌, ◌≤◌, List, [], ◌∷◌, ◌++◌, length, Some, inl, inr, get_or}
pub use Rattle.std.proofs.Common.{refl, sym, ap, ◌∙◌, arith, None, take, drop, subst, ◌-◌, set, Bool, true, false, ◌&&◌}
pub use Rattle.std.proofs.Common.{◌||◌, eqb, if◌then◌else◌, ◌⊎◌, Option, option_map, reverse, IsSome, slice_index_or}
pub use Rattle.std.proofs.Common.{Result, OnOk}
pub use Rattle.std.proofs.lemmas.Bool.{cases_lt, eq-eqb, eqb-true, cases_eq}
pub use Rattle.std.proofs.lemmas.List.{get_or_append_left, get_or_at, get_or_past, length_push, take_all, take-take}
pub use Rattle.std.proofs.lemmas.List.{take-append-le, drop-append-le, drop-drop, drop-set-lt, drop-set-add}
pub use Rattle.std.proofs.lemmas.List.{take-set-le, length-take, length-drop, append_assoc, append-nil, map-append}
pub use Rattle.std.proofs.lemmas.List.{map_push, take-append-drop, drop_all, length-append, get_or-set_same}
pub use Rattle.std.proofs.lemmas.List.{get_or-set_other, length-set, drop_more, reverse-append, reverse-reverse}
pub use Rattle.std.proofs.lemmas.List.{take_more, take_more_set}
pub use Rattle.std.specs.List.{slice_get}
pub use Rattle.cw_base.specs.declared.category.Cat.TheVariants.{RawInt}
pub use Rattle.cw_tokens.specs.{Reserving.Reserves, Reserving.ReservesToken, declared.flat.FlatItem.FlatItem}
pub use Rattle.cw_tokens.specs.{declared.flat.FlatItem.TheVariants.Source, declared.store.Link.Link}
pub use Rattle.cw_tokens.specs.{declared.token.Token.Token, declared.walk.FlatPart.TheVariants.Leaf}
pub use Rattle.cw_tokens.specs.{declared.walk.Spot.Spot}
pub use Rattle.cw_tokens.specs.model.Ahead.{GoesAbove, IsLoneWord, MayStandFor, ReferWithin, RefersWithin, closing_of}
pub use Rattle.cw_tokens.specs.model.Ahead.{flat_above, size_of, Lays, TrimsAhead}
pub use Rattle.cw_tokens.specs.FlatItems.{item_is, items_are}
pub use Rattle.cw_tokens.specs.model.FlatItems.{IsPart, closing, closing_at, flat_from, to_come, Flattens}
pub use Rattle.cw_tokens.specs.References.{token_ref, refers, IsTied, Reach, here, next, IsUnreferred}
pub use Rattle.cw_tokens.specs.Shapes.{Shape, shape, ref_of, item_of, tree_in, trees_from, unfolded, Plain, Below}
pub use Rattle.cw_tokens.specs.Shapes.{InnerBelow}
pub use Rattle.cw_tokens.specs.Stored.{with_built}
pub use Rattle.cw_tokens.specs.model.Stored.{no_link, IsLinked, cut, last_end, start_of, IsAscending, linked}
pub use Rattle.cw_tokens.specs.Stored.{StoredLists, MayBePushed, all_lists}
pub use Rattle.cw_tokens.specs.model.Stored.{built, IsStored}
pub use Rattle.cw_tokens.specs.Trimming.{AllGaps, Trims, StandsFor}
pub use Rattle.cw_tokens.specs.model.Trimming.{unbroken, gap_before, parted, ends_before}
pub use Rattle.cw_tokens.specs.Walking.{found_name}
pub use Rattle.cw_tokens.specs.model.Walking.{top, down, IsPassed, stops_at, before, Path, Walks, Finds, only_name_of}
pub use Rattle.cw_tokens.specs.model.Walking.{size, size_from, size_above}
pub use Rattle.cw_tokens.specs.declared.token.Token.TheVariants.{Ident, Reserved}
pub use Rattle.cw_trees.specs.Flat.{Item, SignItem, is_break, is_break_sign, is_run_sign, is_wall_sign, is_gap}
pub use Rattle.cw_trees.specs.Flat.{is_inserted, begins_after, ends_text, trim_back, trim_front, trimmed_items}
pub use Rattle.cw_trees.specs.Flat.{without_inserted, Open, Close, flat}
pub use Rattle.cw_trees.specs.Tree.{Tree, Empty, Search, Found, Stopped, Nothing, or_else, first_ident, Then, Sub}
pub use Rattle.cw_trees.specs.Tree.{Inner, search_leaf, reserve_first, bare_name}
