-- The definitions of a section, and where each of them ends.
use Rattle.std.specs.Prelude.{ℕ, true, false, not, List, [], ◌∷◌, Option, Some, None}
use Rattle.std.specs.List.{filter}
use Rattle.cw_base.specs.declared.span.Span.{Span}
use Rattle.cw_rules.specs.Answers.{Answer, Token, Begin, Finish, Note}
use Rattle.cw_rules.specs.declared.codes.Code.TheVariants as at
use Rattle.cw_rules.specs.declared.tokens.Mode.TheVariants as modes
use Rattle.cw_rules.specs.declared.tokens.TokKind.{TokKind}
use Rattle.cw_rules.specs.declared.tokens.TokKind.TheVariants as kinds
use Rattle.cw_texts.specs.declared.definitions.OpenDefinition.{OpenDefinition}
use Rattle.cw_texts.specs.declared.definitions.Definition.{Definition}
use Rattle.cw_texts.specs.Scans.{scanned}

-- A definition begins at `@d` or `@f`, or at `@s`, which prints nothing.
abbrev pub begun_by : TokKind → ℕ → Option OpenDefinition
begun_by (kinds.Code at.Define) start = Some (record { start = start; silent = false })
begun_by (kinds.Code at.Format) start = Some (record { start = start; silent = false })
begun_by (kinds.Code at.SilentFormat) start = Some (record { start = start; silent = true })
begun_by kind start = None

-- It goes up to the next one, or to the end of the part.
abbrev pub next_begin : ℕ → List Definition → ℕ
next_begin end [] = end
next_begin end (d ∷ ds) = d.span.start

abbrev pub ended_at : ℕ → OpenDefinition → Definition
ended_at end b = record { span = record { start = b.start; «end» = end }; silent = b.silent }

abbrev pub with_begun : Option OpenDefinition → ℕ → List Definition → List Definition
with_begun None end ds = ds
with_begun (Some b) end ds = ended_at (next_begin end ds) b ∷ ds

-- the definitions among the answers of the scanner for a part that ends at this place
abbrev pub definitions_of : ℕ → List Answer → List Definition
definitions_of end [] = []
definitions_of end (Token token ∷ answers) =
    with_begun (begun_by token.kind token.span.start) end (definitions_of end answers)
definitions_of end (Begin token ∷ answers) = definitions_of end answers
definitions_of end (Finish token ∷ answers) = definitions_of end answers
definitions_of end (Note note place ∷ answers) = definitions_of end answers

-- the same behind one that may have begun before them
abbrev pub definitions_behind : Option OpenDefinition → ℕ → List Answer → List Definition
definitions_behind begun end answers = with_begun begun end (definitions_of end answers)

abbrev pub definitions_in : List ℕ → Span → List Definition
definitions_in text part = definitions_of part.«end» (scanned modes.Definition text part)

-- those that are printed: all but the silent ones
abbrev pub not_silent : List Definition → List Definition
not_silent ds = filter (λ d. not d.silent) ds

abbrev pub printed_definitions : List ℕ → Span → List Definition
printed_definitions text part = not_silent (definitions_in text part)
