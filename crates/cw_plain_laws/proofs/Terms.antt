-- The words in which these proofs speak, from where they are defined.
pub use Rattle.std.proofs.{lemmas.Bool.eqb-true, lemmas.Bool.cases_lt, lemmas.Bool.Decides.nat_tests}
pub use Rattle.std.proofs.{lemmas.Grind.flat_map-append, lemmas.Grind.common_steps}
pub use Rattle.std.proofs.Common.{◌≡◌, ◌⊎◌, ℕ, Bool, true, false, ◌==◌, ◌||◌, ap, arith, if◌then◌else◌, suc, ◌+◌, ◌-◌}
pub use Rattle.std.proofs.Common.{◌&&◌, not, List, [], ◌∷◌, ◌++◌, length, drop, sym, ◌∙◌, subst, codes, zero, Option}
pub use Rattle.std.proofs.Common.{Some, None, refl, cond, inl, inr, nat_lt, is_some, map, ◌<◌, ◌≤◌, length-drop, take}
pub use Rattle.std.proofs.Common.{slice_index, get_or}
pub use Rattle.std.proofs.lemmas.List.{append-nil, append_assoc, take_all, take_at, drop-drop, length-take}
pub use Rattle.std.proofs.lemmas.List.{take-append-drop, get_or_past}
pub use Rattle.std.proofs.lemmas.List.Elements.{All-cons, All-nil, All-append, All-head, All-map, All-tail}
pub use Rattle.std.specs.List.{list_any, All, list_all}
pub use Rattle.cw_base.proofs.TestLaws.{both, both-left, both-right}
pub use Rattle.cw_base.specs.{Bytes.backslash, Bytes.newline, declared.category.Cat.Cat}
pub use Rattle.cw_base.specs.{declared.category.Cat.TheVariants.Exp, declared.flags.Flags.Flags}
pub use Rattle.cw_base.specs.{declared.mode.MathMode.MathMode}
pub use Rattle.cw_base.specs.declared.mode.MathMode.TheVariants.{Text, Maybe}
pub use Rattle.cw_lex.proofs.Nesting.{c-texts-nested}
pub use Rattle.cw_lex.specs.Heads.{Head, Headless, Macro, Format, Silent, Named, Headed, Words, headed, headed_by}
pub use Rattle.cw_lex.specs.Heads.{headless, head_behind, head_words, named_headed, no_word, word_before, without_head}
pub use Rattle.cw_lex.specs.Lexing.{answers_at, fresh_at, last_at, tokens_of, answers, joined, still_fresh, beginning}
pub use Rattle.cw_lex.specs.Nest.{Nest, End, Leaf, Group, IsGroupOf, IsWell, first_nest, leaf, nest, nests, group}
pub use Rattle.cw_lex.specs.Nested.{begins_section_in, is_section_kind, IsNested, is_c_mode}
pub use Rattle.cw_names.specs.{Names.Entry, declared.NameId.NameId}
pub use Rattle.cw_plain.specs.Lines.{clash, is_wordy, Stretch, Run, Other, Ink, Own, Added, Layout, behind_run}
pub use Rattle.cw_plain.specs.Lines.{blank_before, break_text, indent, ink_bytes, ink_text, is_bracket, is_joining}
pub use Rattle.cw_plain.specs.Lines.{laid, laid_from, last_behind, signs_touch, words_touch, piece_inks, run_text}
pub use Rattle.cw_plain.specs.Lines.{stretches, level_behind, backed, cut_off, with_move, behind_piece}
pub use Rattle.cw_plain.specs.Pieces.{Piece, Word, Part, Ending, Opening, Closing, Move, Nothing, PlainSource}
pub use Rattle.cw_plain.specs.Pieces.{found_placed, number_placed, outside, pieces, token_placed, Stand, pieces_from}
pub use Rattle.cw_plain.specs.Pieces.{pieces_in, control_placed, item_placed, PlacedPiece, comment_end, name_behind}
pub use Rattle.cw_plain.specs.Pieces.{passed, before, in_name, placed}
pub use Rattle.cw_plain.specs.Plain.{plain_inks}
pub use Rattle.cw_plain_laws.specs.OwnLaws.{text_source, text_tree, AddsLittle, MayBeAdded, PlainAddsLittle, own_ink}
pub use Rattle.cw_plain_laws.specs.OwnLaws.{own_inks, token_bytes, PlainHasEachToken}
pub use Rattle.cw_plain_laws.specs.PlainLaws.{is_hash, all_unplaced, part_tokens, AreSimpleTokens, BeginsBefore}
pub use Rattle.cw_plain_laws.specs.PlainLaws.{PlainScansAgain, is_program, is_simple}
pub use Rattle.cw_reduce.proofs.HeadsShown.{translated-shown}
pub use Rattle.cw_rules.proofs.Ahead.{drop-same}
pub use Rattle.cw_rules.proofs.Choices.{and-none, at-byte, or-false, or-first, or-second, if-both, if-same}
pub use Rattle.cw_rules.proofs.Sizes.{digits-le, mantissa-le, number-le, constant-le, run-le}
pub use Rattle.cw_rules.proofs.Taking.{AreNotes, AreBare, TakesAll, bare-all-cut, found-takes}
pub use Rattle.cw_rules.specs.{model.Apart.found_apart, model.Apart.code_text_apart, Prefixes.is_prefix_letter}
pub use Rattle.cw_rules.specs.{Prefixes.prefix_size, Signs.spelling, Signs.all_signs, Signs.longest, Signs.longer}
pub use Rattle.cw_rules.specs.{declared.bodies.Inside.Inside, declared.bodies.NoteAt.NoteAt}
pub use Rattle.cw_rules.specs.{declared.classes.Class.Class, declared.codes.Code.Code, declared.tokens.Mode.Mode}
pub use Rattle.cw_rules.specs.{declared.tokens.Mode.TheVariants.CPart, declared.tokens.TokKind.TokKind}
pub use Rattle.cw_rules.specs.Answers.{plain, Answer, Token, Where, Begin, Finish, Note, Seen, Cut, ScanStep, token_of}
pub use Rattle.cw_rules.specs.Answers.{is_head_sign, note_answers}
pub use Rattle.cw_rules.specs.Bodies.{at_start, ended, goes_on, note_here, noted, stepped, takes_next, with_note}
pub use Rattle.cw_rules.specs.Bodies.{is_single, stops, extent, all_notes, and_last, note_unless}
pub use Rattle.cw_rules.specs.Bytes.{apostrophe, at_sign, begins_with, is_in, is_letter, is_mark, run, hash, begins_by}
pub use Rattle.cw_rules.specs.Bytes.{begins, digit_0, dot, is_letter_of, less, slash, star}
pub use Rattle.cw_rules.specs.Constants.{constant, binary, decimal, digits, exponent, exponent_sign, fraction}
pub use Rattle.cw_rules.specs.Constants.{digits_go_on, hexadecimal, is_prefixed, mantissa, more_digits, number, scaled}
pub use Rattle.cw_scraps.specs.Leaves.{LeafForm, names_with, token_form, word_form, code_form, sign_mode}
pub use Rattle.cw_tokens.specs.Shapes.{tree_in}
pub use Rattle.cw_translator.specs.NameParts.{name_texts}
pub use Rattle.cw_trees.specs.Flat.{flat, trimmed_items, Item, SignItem, begins_after, is_break, is_inserted, trim_back}
pub use Rattle.cw_trees.specs.Flat.{trim_front, without_inserted, Open, Close, leaf_item, struck, IdentItem}
pub use Rattle.cw_trees.specs.Flat.{ReservedItem, continues_name, SourceItem}
pub use Rattle.cw_trees.specs.Joining.{Scrap, no_scrap, JoinPiece, Whole, Mark, after, blank_and_whole, dollar_before}
pub use Rattle.cw_trees.specs.Joining.{scrap_in_text, joined_tree, needs, toggled, whole}
pub use Rattle.cw_trees.specs.Tree.{Tree, Empty, Then, Sign, Sub, Inner, Search, Stopped, first_ident, reserve_first}
pub use Rattle.cw_trees.specs.Tree.{reserved_leaf, search_leaf, Ident, Reserved}
pub use Rattle.cw_trees.specs.declared.Control.{Control}
pub use Rattle.cw_trees.specs.declared.Control.TheVariants.{CommentEnd, Break, Cancel, NameEnd, NameText}
