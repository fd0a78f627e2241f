-- The C texts of a book lie in its text, behind the code of a section.
use Rattle.cw_log_laws.proofs.Terms.{ℕ, zero, suc, ◌<◌, ◌≤◌, ◌^◌, Bool, not, List, [], ◌∷◌, ◌++◌, Option, Some, None}
use Rattle.cw_log_laws.proofs.Terms.{length, All, arith, if◌then◌else◌, flat_map-cons, All-append, All-filter, All-head}
use Rattle.cw_log_laws.proofs.Terms.{All-map, All-nil, All-tail, All-weaker, MergedLine, text_of, Span, Code, TokKind}
use Rattle.cw_log_laws.proofs.Terms.{Answer, Seen, Token, Begin, Finish, Note, tokens-cover, answers_of, book}
use Rattle.cw_log_laws.proofs.Terms.{Placement, at_limbo, placed, NameUse, definition_ref, definition_refs, part_refs}
use Rattle.cw_log_laws.proofs.Terms.{piece_refs, refs_from, section_refs, tex_refs, text_ref, texts_of, TextRef}
use Rattle.cw_log_laws.proofs.Terms.{IsInside}
use Rattle.cw_base.specs.Conditions.{list_if}
use Rattle.cw_rules.specs.Order.{AreWithin}
use Rattle.cw_lex.proofs.TokensWithin.{tokens-within}
use Rattle.cw_phase1.specs.{Sections.sections_of, Sound.LiesIn, declared.sections.Section.Section}
use Rattle.cw_phase1.proofs.SpanLaws.{Follow, all-lie, follows}
use Rattle.cw_texts.specs.{Printed.is_printed, Scans.scanned, declared.definitions.OpenDefinition.OpenDefinition}
use Rattle.cw_texts.specs.{declared.definitions.Definition.Definition}
use Rattle.cw_texts.specs.Definitions.{begun_by, next_begin, definitions_in, definitions_of, not_silent}
use Rattle.cw_texts.specs.Definitions.{printed_definitions, with_begun}
use Rattle.cw_texts.specs.TexPieces.{Cited, Copied, InnerText, TexPiece, tex_pieces_of, tex_pieces, token_piece}
use Rattle.cw_rules.specs.declared.tokens.Mode.TheVariants as modes
use Rattle.cw_rules.specs.declared.tokens.TokKind.TheVariants as kinds

-- ## The pieces of TeX parts, and definitions

record IsIn (low high : ℕ) (span : Span) : Type 0 where
  begins : low ≤ span.start
  ends : span.«end» ≤ high

abbrev IsPieceIn : ℕ → ℕ → TexPiece → Type 0
IsPieceIn low high (Copied token) = Unit {0}
IsPieceIn low high (InnerText span) = IsIn low high span
IsPieceIn low high (Cited span) = IsIn low high span

abbrev ArePiecesIn : ℕ → ℕ → List TexPiece → Type 0
ArePiecesIn low high [] = Unit {0}
ArePiecesIn low high (piece ∷ pieces) = IsPieceIn low high piece × ArePiecesIn low high pieces

module _ (low high : ℕ) where
  code-piece : (c : Code) (t : Seen) → IsIn low high t.span → IsPieceIn low high (token_piece (kinds.Code c) t)
  code-piece c t h = grind arith

  token-piece : (k : TokKind) (t : Seen) → IsIn low high t.span → IsPieceIn low high (token_piece k t)
  token-piece k t h = grind (arith, code-piece)

  abbrev IsOpen : ℕ → ℕ → Type 0
  IsOpen zero start = Unit {0}
  IsOpen (suc depth) start = low ≤ start

  pieces-in : (depth start : ℕ) (answers : List Answer) → AreWithin low high answers → IsOpen depth start
      → ArePiecesIn low high (tex_pieces depth start answers)
  pieces-in depth start [] h o = tt
  pieces-in depth start (Note note place ∷ answers) h o = pieces-in depth start answers h o
  pieces-in zero start (Begin t ∷ answers) h o =
      pieces-in (suc zero) t.span.«end» answers h.1 (omega (arith, h.0.0, h.0.1))
  pieces-in (suc depth) start (Begin t ∷ answers) h o = pieces-in (suc (suc depth)) start answers h.1 o
  pieces-in zero start (Token t ∷ answers) h o = grind (arith, pieces-in zero start answers h.1 o, token-piece)
  pieces-in (suc depth) start (Token t ∷ answers) h o = pieces-in (suc depth) start answers h.1 o
  pieces-in zero start (Finish t ∷ answers) h o = pieces-in zero start answers h.1 o
  pieces-in (suc zero) start (Finish t ∷ answers) h o = grind (arith, pieces-in zero start answers h.1 tt)
  pieces-in (suc (suc depth)) start (Finish t ∷ answers) h o = pieces-in (suc depth) start answers h.1 o

  -- a definition begins in the part too
  record IsDefined (d : Definition) : Type 0 where
    begins : low ≤ d.span.start
    starts : d.span.start ≤ high
    ends : d.span.«end» ≤ high

  abbrev MayBegin : Option OpenDefinition → Type 0
  MayBegin None = Unit {0}
  MayBegin (Some b) = (low ≤ b.start) × (b.start ≤ high)

  code-begins : (c : Code) (start : ℕ) → low ≤ start → start ≤ high → MayBegin (begun_by (kinds.Code c) start)
  code-begins c start h g = grind arith

  kind-begins : (k : TokKind) (start : ℕ) → low ≤ start → start ≤ high → MayBegin (begun_by k start)
  kind-begins k start h g = grind (arith, code-begins)

  module _ (end : ℕ) (within : end ≤ high) where
    beginning-in : (ds : List Definition) → All IsDefined ds → next_begin end ds ≤ high
    beginning-in [] all = within
    beginning-in (d ∷ ds) all = (All-head IsDefined d ds all).starts

    begun-in : (o : Option OpenDefinition) (ds : List Definition) → MayBegin o → All IsDefined ds
        → All IsDefined (with_begun o end ds)
    begun-in o ds h all = grind (arith, beginning-in)

    definitions-in : (answers : List Answer) → AreWithin low high answers → All IsDefined (definitions_of end answers)
    definitions-in [] h = All-nil IsDefined
    definitions-in (Token t ∷ answers) h = grind (arith, definitions-in answers h.1, begun-in, kind-begins)
    definitions-in (Begin t ∷ answers) h = definitions-in answers h.1
    definitions-in (Finish t ∷ answers) h = definitions-in answers h.1
    definitions-in (Note note place ∷ answers) h = definitions-in answers h

-- ## The texts of a section

abbrev IsInsideRef : TextRef → Type 0
IsInsideRef ref = IsInside ref.span

one-if : (b : Bool) (ref : TextRef) → IsInsideRef ref → All IsInsideRef (list_if b (ref ∷ []))
one-if b ref is = grind arith

module _ (low high : ℕ) (some : 0 < low) (short : high ≤ 2 ^ 24) where
  inside : (span : Span) → low ≤ span.start → span.«end» ≤ high → IsInside span
  inside span h g = record { behind = omega (arith, h, some); within = omega (arith, g, short) }

  piece-inside : (uses : List NameUse) (number : ℕ) (piece : TexPiece) → IsPieceIn low high piece
      → All IsInsideRef (piece_refs uses number piece)
  piece-inside uses number piece h = grind (arith, one-if, inside)

  tex-inside : (uses : List NameUse) (number : ℕ) (pieces : List TexPiece) → ArePiecesIn low high pieces
      → All IsInsideRef (tex_refs uses number pieces)
  tex-inside uses number [] h = All-nil IsInsideRef
  tex-inside uses number (piece ∷ pieces) h =
      grind (arith, tex-inside uses number pieces h.1, flat_map-cons, piece-inside)

  definitions-inside : (number : ℕ) (ds : List Definition) → All (IsDefined low high) ds
      → All IsInsideRef (definition_refs number (not_silent ds))
  definitions-inside number ds h = All-map IsInsideRef (definition_ref number) (not_silent ds)
      (All-filter (λ d. not d.silent) (λ d. IsInsideRef (definition_ref number d)) ds (All-weaker (IsDefined low high)
      (λ d. IsInsideRef (definition_ref number d)) (λ d g. inside d.span g.begins g.ends) ds h))

section-inside : (printed : Bool) (text : List ℕ) (uses : List NameUse) (number : ℕ) (s : Section) → length text ≤ 2 ^
    24 → LiesIn (length text) s → 0 < s.tex.start → All IsInsideRef (section_refs printed text uses number s)
section-inside printed text uses number s short l some =
    let ds = definition_refs number (printed_definitions text s.definitions) in
    let tex = tokens-within text s.tex.start s.tex.«end» modes.TexText l.tex
    (omega (arith, l.tex_ends, l.definitions, l.definitions_end, l.c_part, l.within)) in
    let defs = tokens-within text s.definitions.start s.definitions.«end» modes.Definition l.definitions
    (omega (arith, l.definitions_end, l.c_part, l.within)) in
    All-append IsInsideRef (tex_refs uses number (tex_pieces_of text s.tex)) (ds ++ part_refs printed number s.c_part)
    (tex-inside s.tex.start s.tex.«end» some (omega (
      arith,
      l.tex_ends,
      l.definitions,
      l.definitions_end,
      l.c_part,
      l.within,
      short,
    )) uses number (tex_pieces_of text s.tex) (pieces-in s.tex.start s.tex.«end» 0 0
    (scanned modes.TexText text s.tex) tex tt)) (All-append IsInsideRef ds (part_refs printed number s.c_part)
    (definitions-inside s.definitions.start s.definitions.«end» (omega (arith, some, l.tex, l.tex_ends))
    (omega (arith, l.definitions_end, l.c_part, l.within, short)) number (definitions_in text s.definitions)
    (definitions-in s.definitions.start s.definitions.«end» s.definitions.«end» (omega arith) (scanned modes.Definition
    text s.definitions) defs)) (one-if printed (text_ref number modes.CPart s.c_part) (record {
      behind = omega (arith, some, l.tex, l.tex_ends, l.definitions, l.definitions_end);
      within = omega (arith, l.within, short);
    })))

-- ## All sections

abbrev AreBehind : List Section → Type 0
AreBehind [] = Unit {0}
AreBehind (s ∷ sections) = (0 < s.tex.start) × AreBehind sections

behind-by : (b : Bool) (s : Section) (rest : List Section) → 0 < s.tex.start → AreBehind rest
    → AreBehind (if b then s ∷ rest else rest)
behind-by b s rest h all = grind arith

behind : (lines : List MergedLine) (from size : ℕ) (ps : List Placement) → Follow from size ps
    → AreBehind (sections_of lines size ps)
behind lines from size [] f = tt
behind lines from size (p ∷ ps) f = grind (arith, behind lines p.token.span.«end» size ps f.2, behind-by)

sections-inside : (test : Section → Bool) (text : List ℕ) (uses : List NameUse) (number : ℕ) (sections : List Section)
    → length text ≤ 2 ^ 24 → All (LiesIn (length text)) sections → AreBehind sections
    → All IsInsideRef (refs_from test text uses number sections)
sections-inside test text uses number [] short lie all = All-nil IsInsideRef
sections-inside test text uses number (s ∷ sections) short lie all =
    All-append IsInsideRef (section_refs (test s) text uses number s) (refs_from test text uses (suc number) sections)
    (section-inside (test s) text uses number s short (All-head (LiesIn (length text)) s sections lie) all.0)
    (sections-inside test text uses (suc number) sections short (All-tail (LiesIn (length text)) s sections lie) all.1)

-- the texts of a book
pub book-inside : (lines : List MergedLine) → length (text_of lines) ≤ 2 ^ 24 → All (λ (ref : TextRef). IsInside
    ref.span) (texts_of (text_of lines) (book lines).name_uses (book lines).outline.sections)
book-inside lines short =
    let text = text_of lines in
    let size = length text in
    let answers = answers_of lines in
    let f = follows text 0 size at_limbo [] answers
    (tokens-cover text 0 size modes.Limbo (omega arith) (omega arith)) in
    sections-inside (is_printed text (book lines).name_uses) text (book lines).name_uses 1 (book lines).outline.sections
    short (all-lie lines 0 size (placed answers) f) (behind lines 0 size (placed answers) f)
