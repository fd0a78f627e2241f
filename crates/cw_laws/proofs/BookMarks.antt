-- The marks of a book's sections are those of its texts, each in the section of its text.
use Rattle.std.proofs.Common.{◌≡◌, ℕ, suc, ◌==◌, Bool, true, false, List, [], ◌∷◌, ◌++◌, All, refl, sym, ap, subst, ◌∙◌}
use Rattle.std.proofs.Common.{append_assoc, if◌then◌else◌}
use Rattle.std.proofs.lemmas.List.{map-append}
use Rattle.std.proofs.lemmas.List.Elements.{All-head, All-tail, filter-append}
use Rattle.cw_base.specs.Conditions.{list_if}
use Rattle.cw_base.specs.Web.{text_of}
use Rattle.cw_base.specs.declared.flags.Flags.{Flags}
use Rattle.cw_lex.specs.NestLaws.{NestsAreWell}
use Rattle.cw_lex.specs.Nested.{CTextsAreNested}
use Rattle.cw_names.specs.Names.{Entry}
use Rattle.cw_names.specs.declared.xrefs.Occurrence.{Occurrence}
use Rattle.cw_weave.specs.Sections.{at_section, section_done}
use Rattle.cw_phase1.specs.Book.{book}
use Rattle.cw_phase1.specs.Changed.{has_changed, marked_book, with_last_changed, with_last_marked}
use Rattle.cw_phase1.specs.Whole.{IsWholeSection, SectionsAreWhole}
use Rattle.cw_phase1.specs.declared.book.Book.{Book}
use Rattle.cw_phase1.specs.declared.sections.Section.{Section}
use Rattle.cw_rules.specs.declared.tokens.Mode.TheVariants as modes
use Rattle.cw_secnames.specs.Uses.{NameUse}
use Rattle.cw_table.specs.Rewriting.{State}
use Rattle.cw_press.specs.Done.{Done}
use Rattle.cw_press.specs.Texts.{Setting, setting}
use Rattle.cw_press.specs.Weaving.{marked, underlined, mark}
use Rattle.cw_texts.specs.declared.definitions.Definition.{Definition}
use Rattle.cw_texts.specs.declared.text_list.TextRef.{TextRef}
use Rattle.cw_texts.specs.Definitions.{printed_definitions}
use Rattle.cw_texts.specs.Printed.{is_kept, is_printed}
use Rattle.cw_texts.specs.TexPieces.{TexPiece, Copied, InnerText, Cited, tex_pieces_of}
use Rattle.cw_texts.specs.Texts.{definition_refs, part_refs, piece_refs, refs_from, section_refs, tex_refs, text_ref}
use Rattle.cw_texts.specs.Texts.{texts_of}
use Rattle.cw_weave.proofs.MarkLaws.{all-marked}
use Rattle.cw_weave.specs.TexFile.{marks_of}
use Rattle.cw_laws.specs.BookTexts.{LeaveTheSame, MarkTheSame, OccurrencesAreWoven, is_any, ref_done, refs_done}
use Rattle.cw_laws.specs.BookTexts.{refs_marks, with_scraps}
use Rattle.cw_laws.proofs.BookTexts.{section-left, sections-left, unprinted}

-- ## The texts of a section stand in it

-- These texts stand in the section of this number.
abbrev AreIn : ℕ → List TextRef → Type 0
AreIn n [] = Unit {0}
AreIn n (ref ∷ refs) = (ref.section ≡ n) × AreIn n refs

both-in : (n : ℕ) (refs others : List TextRef) → AreIn n refs → AreIn n others → AreIn n (refs ++ others)
both-in n [] others in-one in-other = in-other
both-in n (ref ∷ refs) others in-one in-other = (in-one.0, both-in n refs others in-one.1 in-other)

if-in : (n : ℕ) (b : Bool) (refs : List TextRef) → AreIn n refs → AreIn n (list_if b refs)
if-in n true refs in-one = in-one
if-in n false refs in-one = tt

piece-in : (uses : List NameUse) (n : ℕ) (piece : TexPiece) → AreIn n (piece_refs uses n piece)
piece-in uses n (Copied token) = tt
piece-in uses n (InnerText part) = (refl, tt)
piece-in uses n (Cited part) = if-in n (is_kept uses part.start) (text_ref n modes.Inner part ∷ []) (refl, tt)

pieces-in : (uses : List NameUse) (n : ℕ) (pieces : List TexPiece) → AreIn n (tex_refs uses n pieces)
pieces-in uses n [] = tt
pieces-in uses n (piece ∷ pieces) = both-in n (piece_refs uses n piece) (tex_refs uses n pieces) (piece-in uses n piece)
    (pieces-in uses n pieces)

definitions-in : (n : ℕ) (ds : List Definition) → AreIn n (definition_refs n ds)
definitions-in n [] = tt
definitions-in n (d ∷ ds) = (refl, definitions-in n ds)

section-in : (b : Bool) (text : List ℕ) (uses : List NameUse) (n : ℕ) (section : Section)
    → AreIn n (section_refs b text uses n section)
section-in b text uses n section =
    let ps : List TextRef = tex_refs uses n (tex_pieces_of text section.tex) in
    let ds : List TextRef = definition_refs n (printed_definitions text section.definitions) in
    let part : List TextRef = part_refs b n section.c_part in
    both-in n ps (ds ++ part) (pieces-in uses n (tex_pieces_of text section.tex)) (both-in n ds part (definitions-in n
    (printed_definitions text section.definitions)) (if-in n b (text_ref n modes.CPart section.c_part ∷ []) (refl, tt)))

-- ## Marks in one section

none-by : (none : Bool) (n : ℕ) → (if none then [] else marked n []) ≡ []
none-by true n = refl
none-by false n = refl

apart-by : (none : Bool) (n : ℕ) (xs ys : List ℕ) → (if none then [] else marked n (xs ++ ys))
    ≡ (if none then [] else marked n xs) ++ (if none then [] else marked n ys)
apart-by true n xs ys = refl
apart-by false n xs ys = map-append (λ name. mark n (record { index = name })) xs ys

refs-in-one : (s : Setting) (n : ℕ) (refs : List TextRef) (names : List Entry) → AreIn n refs
    → refs_marks s refs names ≡ underlined n (refs_done s refs names).marks
refs-in-one s n [] names in-one = sym (none-by (n == 0) n)
refs-in-one s n (ref ∷ refs) names in-one =
    let d : Done ℕ = ref_done s ref names in
    ap (λ (k : ℕ). underlined k d.marks ++ refs_marks s refs d.names) in-one.0
    ∙ ap (λ (later : List Occurrence). underlined n d.marks ++ later) (refs-in-one s n refs d.names in-one.1)
    ∙ sym (apart-by (n == 0) n d.marks (refs_done s refs d.names).marks)

refs-behind : (s : Setting) (refs others : List TextRef) (names : List Entry) → refs_marks s (refs ++ others) names
    ≡ refs_marks s refs names ++ refs_marks s others (refs_done s refs names).names
refs-behind s [] others names = refl
refs-behind s (ref ∷ refs) others names =
    let d : Done ℕ = ref_done s ref names in
    let ms : List Occurrence = underlined ref.section d.marks in
    ap (λ (later : List Occurrence). ms ++ later) (refs-behind s refs others d.names)
    ∙ sym (append_assoc ms (refs_marks s refs d.names) (refs_marks s others (refs_done s refs d.names).names))

-- ## Sections

apart : (xs ys : List State) → with_scraps (xs ++ ys) ≡ with_scraps xs ++ with_scraps ys
apart xs ys = filter-append (λ (state : State). is_any state.scraps) xs ys

module _ (well : NestsAreWell) (nested : CTextsAreNested) where
  sections-marks : (s : Setting) (n : ℕ) (sections : List Section) → All (IsWholeSection s.text) sections
      → (names : List Entry) → marks_of s n sections names
      ≡ refs_marks s (refs_from (is_printed s.text s.book.name_uses) s.text s.book.name_uses n sections) names
  sections-marks s n [] whole names = refl
  sections-marks s n (section ∷ sections) whole names =
      let printed : Bool = is_printed s.text s.book.name_uses section in
      let first : List TextRef = section_refs printed s.text s.book.name_uses n section in
      let rest : List TextRef = refs_from (is_printed s.text s.book.name_uses) s.text s.book.name_uses (suc n) sections
      in
      let left : Done ℕ = refs_done s first names in
      let same : LeaveTheSame with_scraps (section_done (at_section s n) section names) left = section-left with_scraps
      apart s n section printed names (λ ns is. unprinted well nested s n section
      (All-head (IsWholeSection s.text) section sections whole) is ns) in
      (λ i. underlined n (same.marks i) ++ marks_of s (suc n) sections (same.names i))
      ∙ ap (λ (ms : List Occurrence). ms ++ marks_of s (suc n) sections left.names)
      (sym (refs-in-one s n first names (section-in printed s.text s.book.name_uses n section)))
      ∙ ap (λ (ms : List Occurrence). refs_marks s first names ++ ms)
      (sections-marks s (suc n) sections (All-tail (IsWholeSection s.text) section sections whole) left.names)
      ∙ sym (refs-behind s first rest names)

  book-marks : (text : List ℕ) (flags : Flags) (b : Book) → All (IsWholeSection text) b.outline.sections
      → MarkTheSame text flags b (texts_of text b.name_uses b.outline.sections)
  book-marks text flags b whole =
      let s : Setting = setting text flags 0 b in
      let same = sections-left with_scraps apart s (is_printed text b.name_uses) (IsWholeSection text)
      (λ n section sound is ns. unprinted well nested s n section sound is ns) 1 b.outline.sections whole b.names in
      record {
        names = same.names;
        occurrences = sections-marks s 1 b.outline.sections whole b.names;
      }

-- ## Whether or not the last section is marked as changed

last-refs : (text : List ℕ) (uses : List NameUse) (n : ℕ) (sections : List Section)
    → refs_from (is_printed text uses) text uses n (with_last_changed sections)
    ≡ refs_from (is_printed text uses) text uses n sections
last-refs text uses n [] = refl
last-refs text uses n (s ∷ []) = refl
last-refs text uses n (s ∷ next ∷ sections) =
    ap (λ (later : List TextRef). section_refs (is_printed text uses s) text uses n s ++ later)
    (last-refs text uses (suc n) (next ∷ sections))

marked-refs : (any : Bool) (text : List ℕ) (uses : List NameUse) (sections : List Section)
    → texts_of text uses (if any then with_last_changed sections else sections) ≡ texts_of text uses sections
marked-refs true text uses sections = last-refs text uses 1 sections
marked-refs false text uses sections = refl

-- The mark changes no span, so whole sections stay whole.
marked-whole : (text : List ℕ) (sections : List Section) → All (IsWholeSection text) sections
    → All (IsWholeSection text) (with_last_marked sections)
marked-whole text sections whole = all-marked (IsWholeSection text) (λ s is. record {
  lies = record {
    tex = is.lies.tex;
    definitions = is.lies.definitions;
    c_part = is.lies.c_part;
    tex_ends = is.lies.tex_ends;
    definitions_end = is.lies.definitions_end;
    within = is.lies.within;
  };
  tex = is.tex;
  tex_alone = is.tex_alone;
  definitions = is.definitions;
  c_part = is.c_part;
}) sections whole

pub occurrences-are-woven : NestsAreWell → CTextsAreNested → SectionsAreWhole → OccurrencesAreWoven
occurrences-are-woven well nested whole lines flags false = book-marks well nested (text_of lines) flags (book lines)
    (whole lines)
occurrences-are-woven well nested whole lines flags true =
    let b : Book = book lines in
    let text : List ℕ = text_of lines in
    subst (MarkTheSame text flags (marked_book b))
    (marked-refs (has_changed b.outline.sections) text b.name_uses b.outline.sections)
    (book-marks well nested text flags (marked_book b) (marked-whole text b.outline.sections (whole lines)))
