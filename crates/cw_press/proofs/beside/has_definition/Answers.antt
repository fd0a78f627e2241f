-- A definition is given exactly where one that is printed is left.
use Rattle.cw_press.proofs.Terms.{◌≡◌, ◌==◌, ℕ, suc, not, sym, ap, ◌∙◌, List, length, arith, ne_eqb, Option, Some, None}
use Rattle.cw_press.proofs.Terms.{is_some, Span}
use Rattle.cw_texts.specs.{declared.definitions.Definition.Definition, model.DefinitionForms.GivesPrinted}
use Rattle.cw_texts.specs.{Definitions.not_silent}
use Rattle.cw_press.proofs.beside.has_definition.Goals as goal

given : (old new : List Definition) (next : Option Span) → GivesPrinted old next new
    → is_some next ≡ not (length (not_silent old) == 0)
given old new None gives = ap (λ (ds : List Definition). not (length ds == 0)) (sym gives)
given old new (Some span) gives =
    let n : ℕ = length (not_silent new) in
    sym (ap not (ne_eqb (suc n) 0 (omega arith))) ∙ ap (λ (ds : List Definition). not (length ds == 0)) (sym gives)

pub returns : goal.returns
returns c = c.is_some.ensures ∙ given c.over.result _ c.next_printed.result c.next_printed.ensures
    ∙ ap (λ (ds : List Definition). not (length (not_silent ds) == 0)) c.over.ensures
