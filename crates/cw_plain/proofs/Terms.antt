-- The words in which these proofs speak, from where they are defined.
pub use Rattle.std.proofs.{lemmas.List.append-nil, lemmas.List.append_assoc, lemmas.List.Concat.flat_map-cons}
pub use Rattle.std.proofs.Common.{◌≡◌, ℕ, zero, suc, Bool, true, false, List, [], ◌∷◌, ◌++◌, Option, None, refl, sym}
pub use Rattle.std.proofs.Common.{ap, ◌∙◌, arith, if◌then◌else◌, Result, Ok, Err, OnOk, subst, Some, codes, length}
pub use Rattle.std.proofs.Common.{cond, ◌==◌, ◌-◌, ◌≤◌, get_or, option_copied, drop, option_map}
pub use Rattle.std.specs.Prelude.{nat_lt, All, IsErrAnd}
pub use Rattle.cw_each.specs.EachForms.{Each, HasTranslated, IsWholeRef, GivesText}
pub use Rattle.cw_each.specs.declared.each.NextText.{NextText}
pub use Rattle.cw_plain.specs.{Plain.plain, Plain.plain_tree, Titles.source_by, Titles.titles}
pub use Rattle.cw_plain.specs.model.Laying.{Laying, begun, ended, ended_text, no_run, piece_text, pieces_text}
pub use Rattle.cw_plain.specs.model.Laying.{with_control, with_piece, Lays}
pub use Rattle.cw_plain.specs.Lines.{Added, Layout, Other, Run, Stretch, at_start, backed, behind_piece, behind_run}
pub use Rattle.cw_plain.specs.Lines.{break_text, cut_off, ink_bytes, ink_text, laid, laid_from, level_behind, level_in}
pub use Rattle.cw_plain.specs.Lines.{moved, piece_inks, run_text, stretches, with_move, last_behind, indent}
pub use Rattle.cw_plain.specs.Pieces.{Closing, Ending, Move, Nothing, Opening, Part, Piece, Word, PlacedPiece, Stand}
pub use Rattle.cw_plain.specs.Pieces.{placed, token_placed, PlainSource, item_placed, passed, pieces, pieces_from}
pub use Rattle.cw_plain.specs.Pieces.{pieces_in, in_name, name_placed, found_placed, number_placed, in_comment}
pub use Rattle.cw_plain.specs.model.Walking.{MakesPlaced, Walked, Walk, behind_at, items_text, text_at, walk_begun}
pub use Rattle.cw_plain.specs.model.Walking.{with_placed, source_of}
pub use Rattle.cw_rules.specs.{Answers.Answer, Answers.seen, declared.codes.Code.Code, declared.tokens.TokKind.TokKind}
pub use Rattle.cw_tokens.specs.{FlatItems.items_are, Shapes.unfolded}
pub use Rattle.cw_trees.specs.Flat.{Item, trimmed_items, SourceItem, IdentItem, ReservedItem, SignItem, Open, Close}
pub use Rattle.cw_trees.specs.Flat.{flat}
