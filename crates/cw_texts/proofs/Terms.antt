-- The words in which these proofs speak, from where they are defined.
pub use Rattle.std.proofs.Common.{◌≡◌, ℕ, ◌+◌, ◌-◌, ◌<◌, ◌≤◌, List, [], ◌∷◌, ◌++◌, length, drop, sym, ap, subst, ◌∙◌}
pub use Rattle.std.proofs.Common.{arith, suc, Bool, append_assoc, true, false, ◌↔◌, IsTrue, Option, None, refl, All}
pub use Rattle.std.proofs.Common.{take, zero, ◌⊎◌, inl, inr}
pub use Rattle.std.proofs.lemmas.Grind.{common_steps}
pub use Rattle.std.proofs.lemmas.List.{drop_all, drop_more, append-nil, take-take, length-take, take_all}
pub use Rattle.std.proofs.lemmas.List.Elements.{All-nil, All-cons, All-weaker}
pub use Rattle.std.proofs.lemmas.Option.{get_or_from_slice_get, slice_get_within}
pub use Rattle.std.specs.Prelude.{Some, slice_get, is_some, option_map}
pub use Rattle.cw_base.specs.declared.span.Span.{Span}
pub use Rattle.cw_lex.specs.Lexing.{answers, answers_at, beginning, fresh_at, last_at, tokens_of}
pub use Rattle.cw_phase1.specs.declared.sections.Section.{Section}
pub use Rattle.cw_rules.specs.Answers.{Seen, Answer, Token, Begin, Finish, Note, has_sign}
pub use Rattle.cw_rules.specs.declared.tokens.TokKind.{TokKind}
pub use Rattle.cw_secnames.specs.Uses.{NameUse, name_at}
pub use Rattle.cw_texts.specs.Definitions.{printed_definitions, not_silent, definitions_behind, begun_by, next_begin}
pub use Rattle.cw_texts.specs.Definitions.{ended_at, with_begun, definitions_of}
pub use Rattle.cw_texts.specs.{PieceForms.GivesPiece, PieceForms.piece_is, Printed.is_printed, Printed.has_scrap}
pub use Rattle.cw_texts.specs.{WholeTexts.IsWholePiece, WholeTexts.IsWhole, WholeTexts.IsWholeDefinition}
pub use Rattle.cw_texts.specs.{declared.definitions.Definition.Definition, declared.text_list.TextRef.TextRef}
pub use Rattle.cw_texts.specs.{model.Coming.refs_left, model.Coming.left_in, model.WholeDefinitions.DefinitionsAreWhole}
pub use Rattle.cw_texts.specs.{model.WholeDefinitions.RestsAreWhole}
pub use Rattle.cw_texts.specs.TexPieces.{TexPiece, tex_pieces_of, tex_pieces, Copied, InnerText, Cited, token_piece}
pub use Rattle.cw_texts.specs.Texts.{refs_from, section_refs, part_refs, tex_refs, piece_refs, definition_refs}
pub use Rattle.cw_texts.specs.Texts.{texts_of, definition_ref}
