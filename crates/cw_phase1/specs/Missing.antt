-- Section names behind which a `=` seems to be missing: what should begin a C part is TeX text then.
use Rattle.std.specs.Prelude.{ℕ, ◌+◌, ◌-◌, ◌==◌, ◌&&◌, ◌||◌, Bool, true, false, List, [], ◌∷◌, Option, Some, None, map}
use Rattle.std.specs.Prelude.{◌++◌, filter, length, reverse, slice_get, slice_range, if◌then◌else◌}
use Rattle.std.specs.List.{flat_map}
use Rattle.std.specs.Option.{option_map_or}
use Rattle.cw_base.specs.Conditions.{list_if}
use Rattle.cw_base.specs.Bytes.{newline}
use Rattle.cw_base.specs.Text.{is_blank}
use Rattle.cw_base.specs.Web.{MergedLine, text_of}
use Rattle.cw_base.specs.declared.notes.Note.{Note}
use Rattle.cw_base.specs.declared.notes.NoteKind.TheVariants.{EqualsMissing}
use Rattle.cw_base.specs.declared.span.Span.{Span}
use Rattle.cw_lex.specs.Lexing.{tokens_of}
use Rattle.cw_lex.specs.Limbo.{is_name_kind}
use Rattle.cw_rules.specs.Answers.{Seen, Answer, Token, Begin, Finish, Note as NoteAnswer}
use Rattle.cw_rules.specs.declared.tokens.Mode.TheVariants.{TexText}
use Rattle.cw_secnames.specs.Kept.{SecName}
use Rattle.cw_secnames.specs.Uses.{NameUse, name_at}
use Rattle.cw_phase1.specs.Entering.{is_unended}
use Rattle.cw_phase1.specs.Places.{place_in}
use Rattle.cw_phase1.specs.declared.sections.Section.{Section}

-- ## A name that stands alone on its line

-- Nothing but blanks stands up to the end of the line, or of these bytes.
abbrev pub begins_blank : List ℕ → Bool
begins_blank [] = true
begins_blank (byte ∷ bytes) = byte == newline || (is_blank byte && begins_blank bytes)

-- Within a TeX part, nothing but blanks stands on its line before a name and behind it.
abbrev pub stands_alone : List ℕ → Span → Span → Bool
stands_alone text tex name =
    begins_blank (reverse (slice_range text tex.start name.start))
    && begins_blank (slice_range text name.«end» tex.«end»)

-- ## A name that no section defines

abbrev pub has_no_definition : SecName → Bool
has_no_definition n = length n.defined == 0

abbrev pub is_undefined_name : List SecName → Option ℕ → Bool
is_undefined_name names None = false
is_undefined_name names (Some k) = option_map_or has_no_definition (slice_get names k) false

-- ## The notes

-- the section name that a token is, where it stands in no inner text
abbrev pub name_in : ℕ → Seen → Option Span
name_in depth token = if depth == 0 && is_name_kind token.kind then Some token.span else None

-- Of a name that didn't end the next answer tells that.
abbrev pub tells_unended : List Answer → Bool
tells_unended [] = false
tells_unended (Token token ∷ answers) = false
tells_unended (Begin token ∷ answers) = false
tells_unended (Finish token ∷ answers) = false
tells_unended (NoteAnswer kind place ∷ answers) = is_unended kind

-- the name before these answers, if there is one that ended
abbrev pub name_before : Option Span → List Answer → List Span
name_before None answers = []
name_before (Some name) answers = if tells_unended answers then [] else name ∷ []

-- the section names among the answers that ended and stand in no inner text, where so many are open
abbrev pub outer_names : ℕ → List Answer → List Span
outer_names depth [] = []
outer_names depth (Begin token ∷ answers) = outer_names (depth + 1) answers
outer_names depth (Finish token ∷ answers) = outer_names (depth - 1) answers
outer_names depth (NoteAnswer kind place ∷ answers) = outer_names depth answers
outer_names depth (Token token ∷ answers) = name_before (name_in depth token) answers ++ outer_names depth answers

abbrev pub lacks_equals : List ℕ → List NameUse → List SecName → Span → Span → Bool
lacks_equals text uses names tex name =
    is_undefined_name names (name_at name.start uses) && stands_alone text tex name

-- the notes on those of these names of a TeX part that lack a `=`
abbrev pub missing_of : List MergedLine → List NameUse → List SecName → Span → List Span → List Note
missing_of lines uses names tex spans =
    map (λ name. record { kind = EqualsMissing; value = 0; place = place_in lines name.start })
    (filter (lacks_equals (text_of lines) uses names tex) spans)

-- the notes on such names among the answers of a TeX part
abbrev pub missing_among : List MergedLine → List NameUse → List SecName → Span → ℕ → List Answer → List Note
missing_among lines uses names tex depth answers = missing_of lines uses names tex (outer_names depth answers)

-- A section that has a C part lacks no `=`.
abbrev pub missing_in : List MergedLine → List NameUse → List SecName → Section → List Note
missing_in lines uses names s =
    list_if (s.c_part.start == s.c_part.«end»)
    (missing_among lines uses names s.tex 0 (tokens_of (text_of lines) s.tex.start s.tex.«end» TexText))

abbrev pub missing_equals : List MergedLine → List NameUse → List SecName → List Section → List Note
missing_equals lines uses names sections = flat_map (missing_in lines uses names) sections
