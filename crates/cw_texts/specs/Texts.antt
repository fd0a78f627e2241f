-- The C texts of a book's sections, in the order in which they are woven.
use Rattle.std.specs.Prelude.{ℕ, suc, Bool, List, [], ◌∷◌, ◌++◌, map}
use Rattle.std.specs.List.{flat_map}
use Rattle.cw_base.specs.Conditions.{list_if}
use Rattle.cw_base.specs.declared.span.Span.{Span}
use Rattle.cw_phase1.specs.declared.sections.Section.{Section}
use Rattle.cw_rules.specs.declared.tokens.Mode.{Mode}
use Rattle.cw_rules.specs.declared.tokens.Mode.TheVariants as modes
use Rattle.cw_secnames.specs.Uses.{NameUse}
use Rattle.cw_texts.specs.declared.definitions.Definition.{Definition}
use Rattle.cw_texts.specs.declared.text_list.TextRef.{TextRef}
use Rattle.cw_texts.specs.Definitions.{printed_definitions}
use Rattle.cw_texts.specs.Printed.{is_kept, is_printed}
use Rattle.cw_texts.specs.TexPieces.{TexPiece, Copied, InnerText, Cited, tex_pieces_of}

abbrev pub text_ref : ℕ → Mode → Span → TextRef
text_ref number mode part = record { section = number; span = part; mode = mode }

-- ## The texts of a section

-- In a TeX part stand inner texts and citations of section names. A name that is ignored is no text.
abbrev pub piece_refs : List NameUse → ℕ → TexPiece → List TextRef
piece_refs uses number (Copied token) = []
piece_refs uses number (InnerText part) = text_ref number modes.Inner part ∷ []
piece_refs uses number (Cited part) = list_if (is_kept uses part.start) (text_ref number modes.Inner part ∷ [])

abbrev pub tex_refs : List NameUse → ℕ → List TexPiece → List TextRef
tex_refs uses number pieces = flat_map (piece_refs uses number) pieces

-- Each definition is a text, but for those of `@s`.
abbrev pub definition_ref : ℕ → Definition → TextRef
definition_ref number d = text_ref number modes.Definition d.span

abbrev pub definition_refs : ℕ → List Definition → List TextRef
definition_refs number ds = map (definition_ref number) ds

-- a C part that is a text or not
abbrev pub part_refs : Bool → ℕ → Span → List TextRef
part_refs printed number part = list_if printed (text_ref number modes.CPart part ∷ [])

-- the texts of the section of this number, with its C part or without
abbrev pub section_refs : Bool → List ℕ → List NameUse → ℕ → Section → List TextRef
section_refs printed text uses number section =
    tex_refs uses number (tex_pieces_of text section.tex)
    ++ (definition_refs number (printed_definitions text section.definitions)
    ++ part_refs printed number section.c_part)

-- ## The texts of all sections

-- Sections one after another, the first of which has this number; with the C parts of those that pass the test.
abbrev pub refs_from : (Section → Bool) → List ℕ → List NameUse → ℕ → List Section → List TextRef
refs_from test text uses number [] = []
refs_from test text uses number (section ∷ sections) =
    section_refs (test section) text uses number section ++ refs_from test text uses (suc number) sections

-- A C part is a text of the book where it is printed.
abbrev pub texts_of : List ℕ → List NameUse → List Section → List TextRef
texts_of text uses sections = refs_from (is_printed text uses) text uses 1 sections
