-- The words in which these proofs speak, from where they are defined.
pub use Rattle.std.proofs.{Math.Seq.drop-append_seam, Math.Seq.take-append_seam, lemmas.Bool.Decides.nat_tests}
pub use Rattle.std.proofs.{lemmas.Bool.Decides.eqb_tells, lemmas.Grind.common_steps, lemmas.Grind.flat_map-append}
pub use Rattle.std.proofs.Common.{◌≡◌, ◌≢◌, ℕ, suc, ◌+◌, ◌≤◌, true, List, [], ◌∷◌, ◌++◌, length, refl, sym, ◌∙◌, ap}
pub use Rattle.std.proofs.Common.{arith, append_assoc, length-append, zero, ◌<◌, take, drop, get_or, map, All, subst}
pub use Rattle.std.proofs.Common.{not, eqb, if◌then◌else◌, nat_eq, Bool, false, ◌↔◌, IsTrue, Result, IsErr, slice_get}
pub use Rattle.std.proofs.Common.{drop-cons, length-drop, ◌-◌, ◌*◌, ◌^◌, ◌&&◌, ◌==◌, nat_lt, inl, inr, ◌||◌, ◌⊎◌}
pub use Rattle.std.proofs.Common.{slice_index_or, Option, Some, None, codes, rules, MatchOption, ◌%◌}
pub use Rattle.std.proofs.lemmas.Fmt.{decimal_injective, decimal_digit, decimal_nonempty, decimal-digits_value}
pub use Rattle.std.proofs.lemmas.Fmt.{digits_decimal, digits_value-decimal, first_decimal, decimal_is_IsNumeral}
pub use Rattle.std.proofs.lemmas.Fmt.{decimal_step}
pub use Rattle.std.proofs.lemmas.List.{length-map, map-append, take-append-drop, drop_all, take_rest, get_or_default}
pub use Rattle.std.specs.{Cmp.Lexicographic.pointwise, Cmp.Lexicographic.bytes_decides, Fmt.decimal, List.flat_map}
pub use Rattle.std.specs.{List.list_all}
pub use Rattle.cw_base.proofs.TestLaws.{both-left, both-right, both}
pub use Rattle.cw_base.specs.{Category.all_cats, Category.number_of, Text.pieces_of, declared.category.Cat.Cat}
pub use Rattle.cw_base.specs.declared.category.Cat.TheVariants.{End, Exp}
pub use Rattle.cw_leaves.specs.{Spelling.spelled, Spelling.IsKnown, Spelling.production_of}
pub use Rattle.cw_leaves.specs.{declared.kinds.LeafKind.LeafKind, declared.lines.LeafLine.LeafLine}
pub use Rattle.cw_leaves.specs.LeafLines.{Line, IsIdentEntry, text_at, text_by}
pub use Rattle.cw_logs.specs.{Appending.Appends, Appending.HasGrown, Appending.block_of, declared.reading.Spot.Spot}
pub use Rattle.cw_logs.specs.Blocks.{with_idents, names_in, AreIdents, HasBlock}
pub use Rattle.cw_logs.specs.model.Blocks.{HasItems, HasLeafLine, HasLeaves}
pub use Rattle.cw_logs.specs.Blocks.{IsExtended}
pub use Rattle.cw_logs.specs.model.Blocks.{IsLeafLine, HasNames}
pub use Rattle.cw_logs.specs.model.LinePieces.{HasName, NoName, AreNames, AreIdentifiers, IsFirstLine, lacks, IsBlanked}
pub use Rattle.cw_logs.specs.model.LinePieces.{nothing, something, IsCut}
pub use Rattle.cw_logs.specs.model.Lines.{NoItem, HasHead, HasItem, HasLeaf, with_names, NoLeaf, NoHead}
pub use Rattle.cw_logs.specs.LogLaws.{TextIsLog, TextTellsBlocks, TextHasLines, BlocksAreTold, ReadIsLog, LogIsRead}
pub use Rattle.cw_logs.specs.LogLaws.{StuckIsFault, InsideIsFault}
pub use Rattle.cw_logs.specs.LogReading.{IsLog, IsFaultAt, Reads, none, more, Step, Stuck, opens, leaf, item, closes}
pub use Rattle.cw_logs.specs.LogReading.{Begins, wrong, cut_off, IsFault}
pub use Rattle.cw_logs.specs.LogText.{blank_and, is_identifier, end_text, greatest, head_text, item_text, line_text}
pub use Rattle.cw_logs.specs.LogText.{IsFineItem, IsFineLine, Block, block_lines, log_lines, ended, IsFineBlock}
pub use Rattle.cw_logs.specs.LogText.{letter, cat_text, fits_kind, log_text}
pub use Rattle.cw_logs.specs.declared.reading.Spot.TheVariants.{Outside, Inside}
pub use Rattle.cw_names.specs.{Names.Entry, Names.place_of, Names.with_entry, Names.is_entry}
pub use Rattle.cw_names.specs.{declared.entry.EntryKind.TheVariants.Ident, declared.entry.NameId.NameId}
pub use Rattle.cw_rules.specs.Bytes.{is_in, is_letter, run, is_digit}
pub use Rattle.cw_table.specs.Normal.{Production}
