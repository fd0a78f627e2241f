-- What stands beside the number of a section, on its line. With flag r a section without prose has its code there.
use Rattle.std.specs.Prelude.{ℕ, ◌==◌, ◌&&◌, Bool, true, false, not, List, length, if◌then◌else◌}
use Rattle.std.specs.List.{list_any}
use Rattle.cw_base.specs.declared.flags.Flags.{Flags}
use Rattle.cw_base.specs.declared.span.Span.{Span}
use Rattle.cw_phase1.specs.declared.sections.Section.{Section}
use Rattle.cw_secnames.specs.Uses.{NameUse}
use Rattle.cw_texts.specs.Definitions.{printed_definitions}
use Rattle.cw_texts.specs.Printed.{is_printed}
use Rattle.cw_texts.specs.TexPieces.{TexPiece, Copied, InnerText, Cited, tex_pieces_of}
use Rattle.cw_press.specs.Inks.{token_inks}
use Rattle.cw_press.specs.Texts.{Setting}
use Rattle.cw_press.specs.declared.beside.Beside.{Beside}
use Rattle.cw_press.specs.declared.beside.Beside.TheVariants as besides

-- Of a TeX part all is prose but codes that print nothing.
abbrev pub is_prose : List ℕ → TexPiece → Bool
is_prose text (Copied token) = not (length (token_inks text token.kind token) == 0)
is_prose text (InnerText part) = true
is_prose text (Cited part) = true

abbrev pub has_prose : List ℕ → Span → Bool
has_prose text tex = list_any (is_prose text) (tex_pieces_of text tex)

abbrev pub has_definition : List ℕ → Span → Bool
has_definition text part = not (length (printed_definitions text part) == 0)

-- the first code that a section prints
abbrev pub first_code : Bool → Bool → Beside
first_code defines prints =
    if defines then besides.Definition else if prints then besides.CPart else besides.Nothing

-- with flag r, where it has no prose
abbrev pub ranged_code : List ℕ → List NameUse → Section → Beside
ranged_code text uses section =
    if not (has_prose text section.tex)
    then first_code (has_definition text section.definitions) (is_printed text uses section)
    else besides.Nothing

abbrev pub code_beside : List ℕ → Flags → List NameUse → Section → Beside
code_beside text flags uses section =
    if flags.ranged && not (has_prose text section.tex)
    then first_code (has_definition text section.definitions) (is_printed text uses section)
    else besides.Nothing

abbrev pub is_nothing : Beside → Bool
is_nothing besides.Nothing = true
is_nothing other = false

-- the code beside the number of a section in its setting
abbrev pub beside_in : Setting → Section → Beside
beside_in s section = code_beside s.text s.flags s.book.name_uses section
