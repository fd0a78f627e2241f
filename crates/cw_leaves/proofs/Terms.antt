-- The words in which these proofs speak, from where they are defined.
pub use Rattle.std.proofs.{Math.ListN.get_or-map, lemmas.List.map-append, lemmas.List.map-set}
pub use Rattle.std.proofs.Common.{◌≡◌, ℕ, zero, suc, ◌+◌, Bool, Option, List, [], ◌∷◌, ◌++◌, refl, sym, ◌∙◌, ap, map}
pub use Rattle.std.proofs.Common.{take, drop, get_or, if◌then◌else◌, arith, true, false, nat_eq, eqb, slice_get, All}
pub use Rattle.std.proofs.Common.{Some, None, codes, set}
pub use Rattle.std.specs.List.{take-map, drop-map, AllByRecursion}
pub use Rattle.cw_base.specs.{declared.flags.Flags.Flags, declared.mode.MathMode.MathMode}
pub use Rattle.cw_leaves.specs.LeafLines.{Entered, called_by, called, same_called, said, text_by, text_at, leaf_line}
pub use Rattle.cw_leaves.specs.LeafLines.{line_sight, HasNoMark, IsIdentEntry, IsTold, log_of_lines, Line}
pub use Rattle.cw_names.specs.Names.{Entry, is_entry, AreDistinct}
pub use Rattle.cw_names.specs.declared.entry.EntryKind.TheVariants.{Ident}
pub use Rattle.cw_table.specs.{declared.types.Action.Action, declared.types.Piece.Piece, declared.types.Row.Row}
pub use Rattle.cw_table.specs.Normal.{Place, Nowhere, At, least_place, Production, weight, log_of}
pub use Rattle.cw_trees.specs.Joining.{toggled, Scrap, no_scrap, JoinPiece, Whole, Mark, joined_tree, needs, after}
pub use Rattle.cw_trees.specs.Tree.{Leaf, Tree, Empty, Then, Sub, Inner, Search, Found, Stopped, Nothing, search_leaf}
pub use Rattle.cw_trees.specs.Tree.{first_ident, reserve_first, Source, Reserved, Sign, search_sign, bare_name}
