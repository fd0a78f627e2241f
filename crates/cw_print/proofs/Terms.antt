-- The words in which these proofs speak, from where they are defined.
pub use Rattle.std.proofs.{lemmas.Bool.Decides.nat_tests, lemmas.Grind.common_steps, lemmas.Result.on_ok_weaker}
pub use Rattle.std.proofs.Common.{◌≡◌, ℕ, ◌-◌, ◌||◌, ◌&&◌, ◌==◌, nat_lt, Bool, true, false, not, List, [], ◌∷◌, ◌++◌}
pub use Rattle.std.proofs.Common.{ap, sym, ◌∙◌, arith, ◌<◌, Some, length, slice_get, suc, ◌≤◌, refl, subst}
pub use Rattle.std.proofs.Common.{if◌then◌else◌, ◌≢◌, ◌+◌, ◌^◌, Option, drop, take, Err, Ok, get_or, codes, nat_le}
pub use Rattle.std.proofs.Common.{None, cond, map}
pub use Rattle.std.proofs.lemmas.List.{append_assoc, append-nil, take_all, drop_all, drop_more, get_or-drop}
pub use Rattle.std.proofs.lemmas.List.{get_or-take, length-map, take-append-drop, take_more}
pub use Rattle.std.specs.List.{position_or_len, flat_map}
pub use Rattle.cw_join.specs.{Early.added, Early.depth_behind, Early.early, Early.late, Standing.Stands}
pub use Rattle.cw_join.specs.Tokens.{word_at, CanCome, alone, control_bytes, item_bytes}
pub use Rattle.cw_lex.specs.Nested.{until_section}
pub use Rattle.cw_lines.specs.laws.SheetLaws.{prints-bytes, prints-none, prints-nothing, prints-stop, prints-then}
pub use Rattle.cw_lines.specs.laws.SheetLaws.{prints-failing, prints-longer, can-print-after}
pub use Rattle.cw_print.specs.{model.Coming.AllMay, model.Coming.MayCome, model.Coming.MayStand, Escaping.escaped_byte}
pub use Rattle.cw_print.specs.{Escaping.escaped, model.Scanning.IsSeeking, Sources.titles, Sources.numbered_in}
pub use Rattle.cw_print.specs.{model.Walked.behind, model.Walked.Walked, declared.dividing.Portion.Portion}
pub use Rattle.cw_print.specs.Comments.{comment_piece, piece_of, closing_braces, CommentPiece, Prints, byte_piece}
pub use Rattle.cw_print.specs.Comments.{is_special, joined_pieces}
pub use Rattle.cw_print.specs.Constants.{hex_digits, mantissa_bytes, suffix, exponent_bytes}
pub use Rattle.cw_print.specs.model.Dividing.{has_room, rest_bytes, portion_behind, with_byte}
pub use Rattle.cw_print.specs.model.Printing.{IsOnlyName, shown, IsBehind, IsMidway, Midway, PrintsOn, shown_next}
pub use Rattle.cw_print.specs.model.Printing.{source_of}
pub use Rattle.cw_print.specs.Texts.{string_bytes, divided, divided_units, division, units, include_bytes}
pub use Rattle.cw_print.specs.Walk.{PrintSource, Title, items_shown, outside, own_bytes, placed_shown, stand_after}
pub use Rattle.cw_print.specs.Walk.{title_in, Fixed, Stand, control_shown, item_shown, own_sign, later_number}
pub use Rattle.cw_print.specs.Walk.{PrintsSign, ItemPrint, wrapped}
pub use Rattle.cw_rules.specs.ControlTexts.{text_to_end}
pub use Rattle.cw_tokens.specs.{FlatItems.items_are, FlatItems.item_is, declared.flat.FlatItem.FlatItem}
pub use Rattle.cw_trees.specs.Flat.{IdentItem, Item, Close, leaf_item, flat, begins_after, ends_text, is_break}
pub use Rattle.cw_trees.specs.Flat.{is_inserted, sign_is, trim_back, trim_front, trimmed_items, without_inserted}
pub use Rattle.cw_trees.specs.Flat.{is_run_sign}
pub use Rattle.cw_trees.specs.Printing.{ident_bytes, printed, opened, Printable, run_sign}
pub use Rattle.cw_trees.specs.declared.Control.{Control}
