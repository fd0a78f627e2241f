-- The words in which these proofs speak, from where they are defined.
pub use Rattle.std.proofs.{lemmas.Bool.Decides.nat_tests, lemmas.List.Sums.AllPass-from_list_all}
pub use Rattle.std.proofs.Common.{◌≡◌, ℕ, Option, Some, refl, ap, arith, true, List, [], ◌∷◌, zero, suc, ◌+◌, ◌<◌, Bool}
pub use Rattle.std.proofs.Common.{false, None, ◌++◌, get_or, take, drop, set, sym, ◌∙◌, subst, if◌then◌else◌, ◌||◌, ltb}
pub use Rattle.std.proofs.Common.{map, IfSome, not, ◌&&◌, zero-add, eqb, append_assoc, codes, replicate}
pub use Rattle.std.proofs.lemmas.Bool.{cases_lt, eqb-true, ltb-true}
pub use Rattle.std.proofs.lemmas.List.Elements.{All-head, All-tail, All-append, All-take, All-drop, All-set, All-map}
pub use Rattle.std.proofs.lemmas.List.Elements.{All-cons, All-nil}
pub use Rattle.std.specs.List.{All, list_all}
pub use Rattle.cw_base.proofs.TestLaws.{both-left, both-right, not-both, not-true, other-one, unless, both}
pub use Rattle.cw_base.specs.{Category.in_set, declared.category.Cat.Cat, declared.flags.Flags.Flags}
pub use Rattle.cw_base.specs.{declared.mode.MathMode.MathMode}
pub use Rattle.cw_base.specs.declared.category.Cat.TheVariants.{RawInt, Binop, Colon, ConstLike, Exp, RawUbin, Semi}
pub use Rattle.cw_base.specs.declared.category.Cat.TheVariants.{Ubinop}
pub use Rattle.cw_base.specs.declared.mode.MathMode.TheVariants.{Math, Maybe, Text}
pub use Rattle.cw_brace_laws.specs.Bracing.{leads_on, outside, depth_of, EndsAt, IsBraced, IsBracedScrap, HoldsNoText}
pub use Rattle.cw_brace_laws.specs.Bracing.{sign_depth, StandsAt, leaf_depth}
pub use Rattle.cw_brace_laws.specs.Operators.{HasCleanOperators, IsCleanOperator, PutsCleanOperator, PutsCleanOperators}
pub use Rattle.cw_brace_laws.specs.PlainTexts.{IsPlainText, is_plain}
pub use Rattle.cw_brace_laws.specs.Printed.{PrintsBraced, byte_depth, bytes_depth, items_depth, own_sign, sign_alone}
pub use Rattle.cw_brace_laws.specs.Printed.{AreBraced, item_depth, signs_printed}
pub use Rattle.cw_names.specs.Names.{Entry}
pub use Rattle.cw_rules.specs.declared.tokens.TokKind.{TokKind}
pub use Rattle.cw_scraps.specs.Leaves.{LeafForm, token_form, names_with}
pub use Rattle.cw_table.proofs.{BraceRows.rows-braced, Examples.productions-sound, ScrapFacts.at-cats}
pub use Rattle.cw_table.proofs.{ScrapFacts.cats-drop, ScrapFacts.cats-get, Soundness.sound-row}
pub use Rattle.cw_table.specs.{Fitting.first_of, Fitting.row_fits, Insertions.insertion_of, Productions.productions}
pub use Rattle.cw_table.specs.{Rows.test, Rows.tests_of, Rows.pieces_for, Rows.result_at, Sound.row_is_sound}
pub use Rattle.cw_table.specs.{Sound.IsSound, declared.types.Piece.Piece, declared.types.Row.Row}
pub use Rattle.cw_table.specs.{declared.types.RowResult.RowResult}
pub use Rattle.cw_table.specs.Braces.{row_is_braced, between, is_text, admits_only, are_quiet, braces_pair, is_calm}
pub use Rattle.cw_table.specs.Braces.{is_quiet, makes_calm, may_be_calm, may_stand, pieces_are_braced, is_binop}
pub use Rattle.cw_table.specs.Normal.{normal, Place, Nowhere, At, next_place, steps, weight}
pub use Rattle.cw_table.specs.Rewriting.{State, cats_of, named_right, named_scrap, new_scrap, reserved_at, reserved_in}
pub use Rattle.cw_table.specs.Rewriting.{rewrite, rewrite_from, row_pieces, search_in, with_cat, joined_of, alone}
pub use Rattle.cw_table.specs.Rewriting.{takes_other, math_piece, bolded, bolded_at, worded_at}
pub use Rattle.cw_table.specs.declared.types.Action.{Action}
pub use Rattle.cw_table.specs.declared.types.Piece.TheVariants.{MathScrap, OpenBrace, CloseBrace, OpenRelation}
pub use Rattle.cw_table.specs.declared.types.RowResult.TheVariants.{Is, SameAs}
pub use Rattle.cw_tokens.specs.declared.token.Token.{Token}
pub use Rattle.cw_translator.specs.Translating.{leaf_scrap, CommentItem, Ended, InnerText, Known, Made, NameTexts}
pub use Rattle.cw_translator.specs.Translating.{begin, beside, comment_rest, comment_scrap, dead, dollared, end_of}
pub use Rattle.cw_translator.specs.Translating.{first_word, form_made, group_made, head_made, headed_made, later_words}
pub use Rattle.cw_translator.specs.Translating.{leaf_of_name, made, name_in_text, names_in_text, no_name, nothing}
pub use Rattle.cw_translator.specs.Translating.{one_scrap, plain_text, sign_behind, spelled, state_in, texts_made}
pub use Rattle.cw_translator.specs.Translating.{texts_named, token_made, with_names, word_tokens, translated}
pub use Rattle.cw_trees.specs.Flat.{Item, SourceItem, IdentItem, ReservedItem, SignItem, Open, Close, flat, is_run_sign}
pub use Rattle.cw_trees.specs.Flat.{trimmed_items, begins_after, ends_text, is_break, is_inserted, leaf_item, trim_back}
pub use Rattle.cw_trees.specs.Flat.{trim_front, without_inserted}
pub use Rattle.cw_trees.specs.Joining.{first_mode, after, Scrap, blank_and_whole, scrap_in_text, whole, no_scrap, join}
pub use Rattle.cw_trees.specs.Joining.{JoinPiece, Whole, Mark, needs, joined_tree, joined_left, joined_right}
pub use Rattle.cw_trees.specs.Tree.{Leaf, Tree, Empty, Then, Sub, Inner, Search, search_leaf, first_ident}
pub use Rattle.cw_trees.specs.Tree.{reserve_first, Found, Sign, Source, Ident, Reserved, bare_name}
pub use Rattle.cw_trees.specs.declared.Control.{Control}
