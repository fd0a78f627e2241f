-- The words in which these proofs speak, from where they are defined.
pub use Rattle.std.proofs.{lemmas.Bool.eqb-true, lemmas.Grind.common_steps, lemmas.List.append-nil}
pub use Rattle.std.proofs.{lemmas.List.append_assoc, lemmas.Result.on_ok_weaker}
pub use Rattle.std.proofs.Common.{◌≡◌, ℕ, Bool, true, false, ◌||◌, max, codes, refl, ap, sym, ◌∙◌, List, [], ◌∷◌, ◌++◌}
pub use Rattle.std.proofs.Common.{Option, Some, None, arith, if◌then◌else◌, ◌≢◌, suc, ◌+◌, ◌<◌, eqb, not, cond, length}
pub use Rattle.std.proofs.Common.{take, drop, subst, fold, map, get_or, add-one, drop-cons, ◌*◌, ◌≤◌}
pub use Rattle.std.specs.{List.list_any, List.position_or_len, Prelude.Ok, Prelude.⊤}
pub use Rattle.arrayvec.specs.ArrayVec.{array_vec_len}
pub use Rattle.cw_desk.specs.State.{DeskState}
pub use Rattle.cw_join.specs.{Appending.StaysBefore, Standing.JoinerState, Standing.Stands}
pub use Rattle.cw_join.specs.Early.{added, run_back, run_front, run_with, depth_behind, last_run, early_bytes, early}
pub use Rattle.cw_join.specs.Early.{late}
pub use Rattle.cw_join.specs.Runs.{RunState, run_state}
pub use Rattle.cw_join.specs.model.Runs.{run_more, state_back, step_bytes, backs, state_of}
pub use Rattle.cw_join.specs.Stretches.{is_inner, Stretch, Other, with_control, stretches, stretch_bytes, printed_list}
pub use Rattle.cw_join.specs.Stretches.{Run}
pub use Rattle.cw_join.specs.Tokens.{macro_letter, word_at, item_bytes, printable}
pub use Rattle.cw_join.specs.model.Tokens.{BeginsMarked, font_bytes, is_marked}
pub use Rattle.cw_join.specs.Tokens.{alone}
pub use Rattle.cw_lines.specs.{Sheets.Prints, declared.sheet.Sheet.Sheet}
pub use Rattle.cw_lines.specs.laws.SheetLaws.{prints-none, prints-bytes, prints-failing, prints-longer, prints-then}
pub use Rattle.cw_trees.specs.Flat.{Item, IdentItem, SignItem, Open, Close}
pub use Rattle.cw_trees.specs.Printing.{Printable, is_backup, is_cancel, opened, run_sign, strength, strongest}
pub use Rattle.cw_trees.specs.Printing.{ident_bytes, is_lower, long_ident_bytes, name_bytes, run_bytes, printed}
pub use Rattle.cw_trees.specs.Printing.{printed_from, indents, sign_bytes, reserved_bytes}
pub use Rattle.cw_trees.specs.declared.Control.{Control}
