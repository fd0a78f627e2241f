-- The sections of a web: their heads, and the spans of their parts.
use Rattle.std.specs.Prelude.{ℕ, ◌+◌, ◌==◌, ◌||◌, Bool, true, false, not, List, [], ◌∷◌, Option, None, length, drop}
use Rattle.std.specs.Prelude.{if◌then◌else◌, take_while}
use Rattle.cw_base.specs.Web.{MergedLine}
use Rattle.cw_base.specs.declared.span.Span.{Span}
use Rattle.cw_rules.specs.declared.codes.Code.TheVariants as at
use Rattle.cw_rules.specs.declared.tokens.TokKind.{TokKind}
use Rattle.cw_rules.specs.declared.tokens.TokKind.TheVariants as kinds
use Rattle.cw_rules.specs.Bytes.{star, begins, is_digit}
use Rattle.cw_rules.specs.Answers.{Seen}
use Rattle.cw_secnames.specs.declared.kinds.SecId.{SecId}
use Rattle.cw_phase1.specs.declared.roles.Role.{Role}
use Rattle.cw_phase1.specs.declared.roles.Role.TheVariants as roles
use Rattle.cw_phase1.specs.declared.roles.Part.{Part}
use Rattle.cw_phase1.specs.declared.roles.Part.TheVariants as parts
use Rattle.cw_phase1.specs.declared.sections.Depth.{Depth}
use Rattle.cw_phase1.specs.declared.sections.Depth.TheVariants.{Minus, Zero, Digits}
use Rattle.cw_phase1.specs.declared.sections.Section.{Section}
use Rattle.cw_phase1.specs.Roles.{Placement}
use Rattle.cw_phase1.specs.Places.{holds_changed}

abbrev pub span : ℕ → ℕ → Span
span start end = record { start = start; «end» = end }

-- ## Heads

abbrev pub is_starred : TokKind → Bool
is_starred (kinds.Code at.StarredSection) = true
is_starred kind = false

-- The depth stands directly behind `@*`.
abbrev pub depth_by_digits : ℕ → ℕ → Depth
depth_by_digits place count = if count == 0 then Zero else Digits (span place (place + count))

abbrev pub depth_at : ℕ → List ℕ → Depth
depth_at place bytes =
    if begins star bytes then Minus else depth_by_digits place (length (take_while is_digit bytes))

abbrev pub depth_of : Seen → Depth
depth_of token = depth_at (token.span.start + 2) (drop 2 token.text)

-- ## Parts

-- where the first token stands that passes a test, or the end of the text
abbrev pub first_start : (Placement → Bool) → ℕ → List Placement → ℕ
first_start test size [] = size
first_start test size (p ∷ ps) = if test p then p.token.span.start else first_start test size ps

abbrev pub is_section_code : Role → Bool
is_section_code roles.SectionCode = true
is_section_code role = false

abbrev pub is_tex : Part → Bool
is_tex parts.Tex = true
is_tex part = false

abbrev pub is_program : Part → Bool
is_program parts.Program = true
is_program part = false

-- A section ends at the next section code. Its C part begins at its first token that belongs to one, and its
-- definitions at the first that belongs to them or to the C part.
abbrev pub ends_section : Placement → Bool
ends_section p = is_section_code p.role

abbrev pub ends_definitions : Placement → Bool
ends_definitions p = is_section_code p.role || is_program p.part

abbrev pub ends_tex : Placement → Bool
ends_tex p = is_section_code p.role || not (is_tex p.part)

-- the name that is kept for the token with which the C part of a section begins
abbrev pub c_part_name : List Placement → Option SecId
c_part_name [] = None
c_part_name (p ∷ ps) =
    if is_section_code p.role then None
    else if is_program p.part then p.name
    else c_part_name ps

abbrev pub section_by : List MergedLine → Seen → ℕ → ℕ → ℕ → Option SecId → Section
section_by lines head tex_end definitions_end end name = record {
  starred = is_starred head.kind;
  depth = depth_of head;
  tex = span head.span.«end» tex_end;
  definitions = span tex_end definitions_end;
  c_part = span definitions_end end;
  name = name;
  changed = holds_changed lines 0 head.span.start end;
}

-- the section of a section code, with the tokens behind it, in a text of this size
abbrev pub section_at : List MergedLine → ℕ → Seen → List Placement → Section
section_at lines size head ps =
    section_by lines head (first_start ends_tex size ps) (first_start ends_definitions size ps)
    (first_start ends_section size ps) (c_part_name ps)

abbrev pub sections_of : List MergedLine → ℕ → List Placement → List Section
sections_of lines size [] = []
sections_of lines size (p ∷ ps) =
    if is_section_code p.role then section_at lines size p.token ps ∷ sections_of lines size ps
    else sections_of lines size ps
