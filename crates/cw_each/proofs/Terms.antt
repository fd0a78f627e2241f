-- The words in which these proofs speak, from where they are defined.
pub use Rattle.std.proofs.Common.{ℕ, ◌≤◌, sym, List, [], ◌++◌, arith, subst, Bool, ◌∷◌, All, length, suc, not}
pub use Rattle.std.proofs.lemmas.List.Elements.{All-nil, All-cons, All-weaker, All-append, All-filter, All-head}
pub use Rattle.std.proofs.lemmas.List.Elements.{All-map, All-tail}
pub use Rattle.std.specs.Prelude.{◌^◌}
pub use Rattle.cw_base.specs.{Conditions.list_if, declared.span.Span.Span}
pub use Rattle.cw_phase1.specs.declared.sections.Section.{Section}
pub use Rattle.cw_rules.specs.declared.tokens.Mode.TheVariants.{CPart, Inner}
pub use Rattle.cw_texts.specs.{Definitions.definitions_in, Definitions.not_silent, Definitions.printed_definitions}
pub use Rattle.cw_texts.specs.{WholeTexts.IsWholeRest, WholeTexts.IsWholeDefinition, WholeTexts.IsWholeIn}
pub use Rattle.cw_texts.specs.{declared.definitions.Definition.Definition, model.WholeDefinitions.RestsAreWhole}
