-- The C texts of whole sections are whole.
use Rattle.cw_each.proofs.Terms.{ℕ, suc, Bool, not, List, [], ◌∷◌, ◌++◌, All, sym, subst, length, arith, ◌^◌, ◌≤◌}
use Rattle.cw_each.proofs.Terms.{All-append, All-cons, All-filter, All-head, All-map, All-nil, All-tail, All-weaker}
use Rattle.cw_each.proofs.Terms.{list_if, Span, Section, CPart, Inner, definitions_in, not_silent, printed_definitions}
use Rattle.cw_each.proofs.Terms.{Definition, RestsAreWhole, IsWholeDefinition, IsWholeIn, IsWholeRest}
use Rattle.std.proofs.lemmas.List.Concat.{flat_map-cons}
use Rattle.cw_phase1.specs.Whole.{IsWholeSection, SectionsAreWhole}
use Rattle.cw_secnames.specs.Uses.{NameUse}
use Rattle.cw_texts.specs.WholeTexts.{IsWhole, IsWholePiece}
use Rattle.cw_texts.specs.model.WholePieces.{TexPartsAreWhole}
use Rattle.cw_texts.specs.{TexPieces.TexPiece, TexPieces.tex_pieces_of, declared.text_list.TextRef.TextRef}
use Rattle.cw_texts.specs.Texts.{definition_ref, definition_refs, part_refs, piece_refs, refs_from, section_refs}
use Rattle.cw_texts.specs.Texts.{tex_refs, text_ref}
use Rattle.cw_each.specs.WholeRefs.{TextsAreWhole}
use Rattle.cw_reduce.specs.WholeTexts.{IsCText}

abbrev IsWholeRef : List ℕ → TextRef → Type 0
IsWholeRef text ref = IsCText text ref.span ref.mode

module _ (text : List ℕ) (short : length text ≤ 2 ^ 24) where
  abbrev AreWhole : List TextRef → Type 0
  AreWhole refs = All (IsWholeRef text) refs

  none : AreWhole []
  none = All-nil (IsWholeRef text)

  one : (ref : TextRef) → IsWholeRef text ref → AreWhole (ref ∷ [])
  one ref is = All-cons (IsWholeRef text) ref [] is none

  one-if : (b : Bool) (ref : TextRef) → IsWholeRef text ref → AreWhole (list_if b (ref ∷ []))
  one-if b ref is = grind (arith, one, none)

  inner-whole : (number : ℕ) (part : Span) → IsWhole text part → IsWholeRef text (text_ref number Inner part)
  inner-whole number part is = grind arith

  definition-whole : (number : ℕ) (d : Definition) → IsWholeDefinition text d
      → IsWholeRef text (definition_ref number d)
  definition-whole number d is = grind arith

  c_part-whole : (number : ℕ) (part : Span) → IsWholeIn CPart text part → IsWholeRef text (text_ref number CPart part)
  c_part-whole number part is = grind arith

  piece-whole : (uses : List NameUse) (number : ℕ) (piece : TexPiece) → IsWholePiece text piece
      → AreWhole (piece_refs uses number piece)
  piece-whole uses number piece is = grind (arith, none, one, inner-whole, one-if)

  tex-whole : (uses : List NameUse) (number : ℕ) (pieces : List TexPiece) → All (IsWholePiece text) pieces
      → AreWhole (tex_refs uses number pieces)
  tex-whole uses number [] are = none
  tex-whole uses number (piece ∷ pieces) are = subst AreWhole (sym (flat_map-cons
      (piece_refs uses number) piece pieces)) (All-append (IsWholeRef text) (piece_refs uses number piece)
      (tex_refs uses number pieces) (piece-whole uses number piece (All-head (IsWholePiece text) piece pieces are))
      (tex-whole uses number pieces (All-tail (IsWholePiece text) piece pieces are)))

  definitions-whole : (number : ℕ) (ds : List Definition) → All (IsWholeDefinition text) ds
      → AreWhole (definition_refs number (not_silent ds))
  definitions-whole number ds are = All-map (IsWholeRef text) (definition_ref number) (not_silent ds)
      (All-filter (λ d. not d.silent) (λ d. IsWholeRef text (definition_ref number d)) ds (All-weaker
      (IsWholeDefinition text) (λ d. IsWholeRef text (definition_ref number d)) (definition-whole number) ds are))

  section-whole : (printed : Bool) (uses : List NameUse) (number : ℕ) (section : Section)
      → All (IsWholePiece text) (tex_pieces_of text section.tex) → IsWholeRest text section
      → AreWhole (section_refs printed text uses number section)
  section-whole printed uses number section tex rest =
      let ds : List TextRef = definition_refs number (printed_definitions text section.definitions) in
      All-append (IsWholeRef text) (tex_refs uses number (tex_pieces_of text section.tex))
      (ds ++ part_refs printed number section.c_part) (tex-whole uses number (tex_pieces_of text section.tex) tex)
      (All-append (IsWholeRef text) ds (part_refs printed number section.c_part)
      (definitions-whole number (definitions_in text section.definitions) rest.each)
      (one-if printed (text_ref number CPart section.c_part) (c_part-whole number section.c_part rest.c_part)))

  sections-whole : TexPartsAreWhole → RestsAreWhole → (test : Section → Bool) (uses : List NameUse) (number : ℕ)
      (sections : List Section) → All (IsWholeSection text) sections
      → AreWhole (refs_from test text uses number sections)
  sections-whole tex rest test uses number [] are = none
  sections-whole tex rest test uses number (section ∷ sections) are =
      let is : IsWholeSection text section = All-head (IsWholeSection text) section sections are in
      All-append (IsWholeRef text) (section_refs (test section) text uses number section) (refs_from test text uses (suc
      number) sections) (section-whole (test section) uses number section (tex text section is) (rest text section is))
      (sections-whole tex rest test uses (suc number) sections (All-tail (IsWholeSection text) section sections are))

-- Those of a book, by the laws of its parts.
pub texts-whole : SectionsAreWhole → TexPartsAreWhole → RestsAreWhole → TextsAreWhole
texts-whole sections tex rest lines short = grind (arith, sections-whole)
