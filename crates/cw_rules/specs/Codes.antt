-- The control codes, and what each does where it stands.
use Rattle.std.specs.Prelude.{ℕ, Bool, true, false, ◌||◌, ◌==◌, List, [], ◌∷◌, if◌then◌else◌}
use Rattle.cw_base.specs.Text.{is_blank}
use Rattle.cw_base.specs.declared.notes.NoteKind.TheVariants.{CodeInLimbo, CodeInTexText, CodeInCText, UnknownCode}
use Rattle.cw_rules.specs.declared.codes.Code.{Code}
use Rattle.cw_rules.specs.declared.codes.Code.TheVariants.{At, Section, StarredSection, Define, Format, SilentFormat}
use Rattle.cw_rules.specs.declared.codes.Code.TheVariants.{Program, SectionName, FileName, Roman, Typewriter, UserEntry}
use Rattle.cw_rules.specs.declared.codes.Code.TheVariants.{Underline, Ignored, TexBox, Verbatim, ThinSpace, LineBreak}
use Rattle.cw_rules.specs.declared.codes.Code.TheVariants.{OptionalBreak, BigBreak, NoBreak, InvisibleSemicolon}
use Rattle.cw_rules.specs.declared.codes.Code.TheVariants.{BeginArgument, EndArgument, HeaderFile, Join, Quote, Trace}
use Rattle.cw_rules.specs.declared.codes.Code.TheVariants.{Letters, Unknown}
use Rattle.cw_rules.specs.declared.codes.Effect.{Effect}
use Rattle.cw_rules.specs.declared.codes.Effect.TheVariants.{Stands, Drops, Defines, Formats, BeginsC}
use Rattle.cw_base.specs.Bytes.{newline, byte_of}
use Rattle.cw_rules.specs.Bytes.{is_between, is_letter_of}

-- the code of the byte behind an `@`
abbrev pub code_of : ℕ → Code
code_of byte =
    if byte == byte_of "@" then At
    else if byte == newline || is_blank byte then Section
    else if byte == byte_of "*" then StarredSection
    else if is_letter_of (byte_of "d") byte then Define
    else if is_letter_of (byte_of "f") byte then Format
    else if is_letter_of (byte_of "s") byte then SilentFormat
    else if is_letter_of (byte_of "c") byte || is_letter_of (byte_of "p") byte then Program
    else if byte == byte_of "<" then SectionName
    else if byte == byte_of "(" then FileName
    else if byte == byte_of "^" then Roman
    else if byte == byte_of "." then Typewriter
    else if byte == byte_of ":" then UserEntry
    else if byte == byte_of "!" then Underline
    else if is_letter_of (byte_of "q") byte then Ignored
    else if is_letter_of (byte_of "t") byte then TexBox
    else if byte == byte_of "=" then Verbatim
    else if byte == byte_of "," then ThinSpace
    else if byte == byte_of "/" then LineBreak
    else if byte == byte_of "|" then OptionalBreak
    else if byte == byte_of "#" then BigBreak
    else if byte == byte_of "+" then NoBreak
    else if byte == byte_of ";" then InvisibleSemicolon
    else if byte == byte_of "[" then BeginArgument
    else if byte == byte_of "]" then EndArgument
    else if is_letter_of (byte_of "h") byte then HeaderFile
    else if byte == byte_of "&" then Join
    else if byte == byte_of "'" then Quote
    else if is_between (byte_of "0") (byte_of "2") byte then Trace
    else if is_letter_of (byte_of "l") byte then Letters
    else Unknown

-- the code of the bytes behind an `@`
abbrev pub code_at : List ℕ → Code
code_at [] = Unknown
code_at (byte ∷ bytes) = code_of byte

-- A section begins with `@` before a blank or a line's end, or with `@*`.
abbrev pub is_section : Code → Bool
is_section Section = true
is_section StarredSection = true
is_section _ = false

abbrev pub begins_section : List ℕ → Bool
begins_section bytes = is_section (code_at bytes)

-- The codes with a control text, which goes up to `@>` on the line.
abbrev pub has_control_text : Code → Bool
has_control_text Roman = true
has_control_text Typewriter = true
has_control_text UserEntry = true
has_control_text Ignored = true
has_control_text TexBox = true
has_control_text Verbatim = true
has_control_text _ = false

abbrev pub effect_in_limbo : Code → Effect
effect_in_limbo At = Stands
effect_in_limbo Letters = Stands
effect_in_limbo Ignored = Stands
effect_in_limbo SilentFormat = Formats
effect_in_limbo _ = Drops CodeInLimbo

abbrev pub effect_in_tex : Code → Effect
effect_in_tex At = Stands
effect_in_tex Roman = Stands
effect_in_tex Typewriter = Stands
effect_in_tex UserEntry = Stands
effect_in_tex Underline = Stands
effect_in_tex Ignored = Stands
effect_in_tex SectionName = Stands
effect_in_tex FileName = Stands
effect_in_tex Trace = Stands
effect_in_tex Define = Defines
effect_in_tex Format = Formats
effect_in_tex SilentFormat = Formats
effect_in_tex Program = BeginsC
effect_in_tex Letters = Drops UnknownCode
effect_in_tex Unknown = Drops UnknownCode
effect_in_tex _ = Drops CodeInTexText

-- in a C part, in inner C text and in comments of definitions
abbrev pub effect_in_c : Code → Effect
effect_in_c Define = Drops CodeInCText
effect_in_c Format = Drops CodeInCText
effect_in_c SilentFormat = Drops CodeInCText
effect_in_c Program = Drops CodeInCText
effect_in_c At = Drops UnknownCode
effect_in_c Letters = Drops UnknownCode
effect_in_c Unknown = Drops UnknownCode
effect_in_c _ = Stands

-- in a definition, outside its comments
abbrev pub effect_in_definition : Code → Effect
effect_in_definition Define = Defines
effect_in_definition Format = Formats
effect_in_definition SilentFormat = Formats
effect_in_definition Program = BeginsC
effect_in_definition code = effect_in_c code

-- as the first byte of a C part
abbrev pub effect_at_begin : Code → Effect
effect_at_begin Program = BeginsC
effect_at_begin code = effect_in_c code
