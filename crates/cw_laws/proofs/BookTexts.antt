-- Sections leave what their texts leave, one after another.
use Rattle.std.proofs.Common.{◌≡◌, ℕ, suc, Bool, true, false, ◌||◌, List, [], ◌∷◌, ◌++◌, Option, Some, None, All, refl}
use Rattle.std.proofs.Common.{sym, ap, ◌∙◌, append_assoc, arith}
use Rattle.std.specs.Prelude.{is_some, codes}
use Rattle.std.proofs.lemmas.List.{append-nil}
use Rattle.std.proofs.lemmas.List.Elements.{All-head, All-tail, filter-append}
use Rattle.std.proofs.lemmas.Bool.Decides.{nat_tests}
use Rattle.std.specs.Option.{option_map_or}
use Rattle.cw_base.specs.Conditions.{list_if}
use Rattle.cw_base.specs.Web.{text_of}
use Rattle.cw_base.specs.declared.span.Span.{Span}
use Rattle.cw_lex.specs.NestLaws.{NestsAreWell}
use Rattle.cw_lex.specs.Nested.{CTextsAreNested}
use Rattle.cw_names.specs.Names.{Entry}
use Rattle.cw_part.specs.Parts.{definitions_done, first_opening, paragraph_if, part_done, paragraph}
use Rattle.cw_weave.specs.Sections.{at_section, section_done, sections_done}
use Rattle.cw_part.specs.Sections.{ending, rest_done}
use Rattle.cw_phase1.specs.declared.sections.Section.{Section}
use Rattle.cw_phase1.specs.Book.{book}
use Rattle.cw_phase1.specs.Whole.{IsWholeSection, SectionsAreWhole}
use Rattle.cw_rules.specs.declared.tokens.Mode.TheVariants as modes
use Rattle.cw_secnames.specs.Uses.{name_at}
use Rattle.cw_table.specs.Rewriting.{State}
use Rattle.cw_press.specs.Beside.{first_code, has_definition, has_prose, is_nothing, beside_in}
use Rattle.cw_press.specs.Done.{Done, as_it_is, reprinted, done_then}
use Rattle.cw_texpart.specs.Heads.{head}
use Rattle.cw_press.specs.Inks.{prints}
use Rattle.cw_texpart.specs.TexParts.{piece_done, pieces_done, head_and_tex, tex_done}
use Rattle.cw_press.specs.Texts.{Setting, setting, text_done}
use Rattle.cw_texts.specs.declared.definitions.Definition.{Definition}
use Rattle.cw_texts.specs.declared.text_list.TextRef.{TextRef}
use Rattle.cw_texts.specs.Definitions.{printed_definitions}
use Rattle.cw_texts.specs.Printed.{has_scrap, is_printed}
use Rattle.cw_texts.specs.Scans.{scanned}
use Rattle.cw_texts.specs.TexPieces.{TexPiece, Copied, InnerText, Cited, tex_pieces_of}
use Rattle.cw_texts.specs.Texts.{definition_refs, part_refs, piece_refs, refs_from, section_refs, tex_refs, text_ref}
use Rattle.cw_laws.specs.BookTexts.{EveryTextIsWoven, LeaveTheSame, TextsAreWoven, is_any, ref_done, refs_done}
use Rattle.cw_laws.specs.BookTexts.{with_scraps}
use Rattle.cw_laws.proofs.ProseLaws.{no-prose, no-refs}
use Rattle.cw_laws.proofs.QuietParts.{quiet-text}
use Rattle.cw_rules.specs.declared.tokens.Mode.TheVariants.{Inner}

-- a piece that leaves nothing that is looked at
pub record LeavesNothing (looked_at : List State → List State) (before : List Entry) (d : Done ℕ) : Type 0 where
  pub names : d.names ≡ before
  pub marks : d.marks ≡ []
  pub ended : looked_at d.ended ≡ looked_at []

module _ (looked_at : List State → List State)
    (apart : (xs ys : List State) → looked_at (xs ++ ys) ≡ looked_at xs ++ looked_at ys) where
  -- ## Pieces that leave the same

  trans : {X Y Z : Type 0} (d : Done X) (e : Done Y) (f : Done Z) → LeaveTheSame looked_at d e
      → LeaveTheSame looked_at e f → LeaveTheSame looked_at d f
  trans d e f p q = record { names = p.names ∙ q.names; marks = p.marks ∙ q.marks; ended = p.ended ∙ q.ended }

  across : {X Y : Type 0} (d : Done X) (e : Done Y) (f : List Entry → Done X) (g : List Entry → Done Y)
      → LeaveTheSame looked_at d e → ((names : List Entry) → LeaveTheSame looked_at (f names) (g names))
      → LeaveTheSame looked_at (done_then d f) (done_then e g)
  across d e f g p q = grind (arith, nat_tests)

  -- texts, and others behind them
  refs-joined : (s : Setting) (rs qs : List TextRef) (names : List Entry)
      → LeaveTheSame looked_at (done_then (refs_done s rs names) (refs_done s qs)) (refs_done s (rs ++ qs) names)
  refs-joined s [] qs names = record { names = refl; marks = refl; ended = refl }
  refs-joined s (r ∷ rs) qs names =
      let d : Done ℕ = ref_done s r names in
      let t : LeaveTheSame looked_at (done_then (refs_done s rs d.names) (refs_done s qs))
      (refs_done s (rs ++ qs) d.names) = refs-joined s rs qs d.names in
      record {
        names = t.names;
        marks = append_assoc d.marks (refs_done s rs d.names).marks _ ∙ ap (λ ms. d.marks ++ ms) t.marks;
        ended = ap looked_at (append_assoc d.ended (refs_done s rs d.names).ended _) ∙ apart d.ended _
            ∙ ap (λ es. looked_at d.ended ++ es) t.ended ∙ sym (apart d.ended (refs_done s (rs ++ qs) d.names).ended);
      }

  -- one text is what it leaves
  one-left : {X : Type 0} (s : Setting) (r : TextRef) (print : List ℕ → List X) (names : List Entry)
      → LeaveTheSame looked_at (reprinted print (ref_done s r names)) (refs_done s (r ∷ []) names)
  one-left s r print names = grind (arith, nat_tests, append-nil)

  -- ## The pieces of a section

  cited-left : (s : Setting) (n : ℕ) (part : Span) (o : Option ℕ) (names : List Entry)
      → LeaveTheSame looked_at (reprinted prints
      (option_map_or (λ _. text_done (at_section s n) Inner true part names) o (as_it_is [] names)))
      (refs_done s (list_if (is_some o) (text_ref n modes.Inner part ∷ [])) names)
  cited-left s n part None names = record { names = refl; marks = refl; ended = refl }
  cited-left s n part (Some k) names = one-left s (text_ref n modes.Inner part) prints names

  piece-left : (s : Setting) (n : ℕ) (p : TexPiece) (names : List Entry) → LeaveTheSame looked_at
      (piece_done (at_section s n) p names) (refs_done s (piece_refs s.book.name_uses n p) names)
  piece-left s n (Copied token) names = record { names = refl; marks = refl; ended = refl }
  piece-left s n (InnerText part) names = one-left s (text_ref n modes.Inner part) prints names
  piece-left s n (Cited part) names = cited-left s n part (name_at part.start s.book.name_uses) names

  pieces-left : (s : Setting) (n : ℕ) (ps : List TexPiece) (names : List Entry) → LeaveTheSame looked_at
      (pieces_done (at_section s n) ps names) (refs_done s (tex_refs s.book.name_uses n ps) names)
  pieces-left s n [] names = record { names = refl; marks = refl; ended = refl }
  pieces-left s n (p ∷ ps) names = trans (pieces_done (at_section s n) (p ∷ ps) names)
      (done_then (refs_done s (piece_refs s.book.name_uses n p) names) (refs_done s (tex_refs s.book.name_uses n ps)))
      (refs_done s (tex_refs s.book.name_uses n (p ∷ ps)) names) (across (piece_done (at_section s n) p names)
      (refs_done s (piece_refs s.book.name_uses n p) names) (pieces_done (at_section s n) ps)
      (refs_done s (tex_refs s.book.name_uses n ps)) (piece-left s n p names) (λ ns. pieces-left s n ps ns))
      (refs-joined s (piece_refs s.book.name_uses n p) (tex_refs s.book.name_uses n ps) names)

  definitions-left : (s : Setting) (n : ℕ) (opening : List ℕ) (ds : List Definition) (names : List Entry) → LeaveTheSame
      looked_at (definitions_done (at_section s n) opening ds names) (refs_done s (definition_refs n ds) names)
  definitions-left s n opening [] names = record { names = refl; marks = refl; ended = refl }
  definitions-left s n opening (d ∷ ds) names =
      across (paragraph opening (text_done (at_section s n) modes.Definition false d.span names))
      (ref_done s (text_ref n modes.Definition d.span) names) (definitions_done (at_section s n) (codes "\\B") ds)
      (refs_done s (definition_refs n ds)) (record { names = refl; marks = refl; ended = refl })
      (λ ns. definitions-left s n (codes "\\B") ds ns)

  -- ## The C part

  if-left : (b : Bool) (front : List ℕ) (d : Done ℕ) → LeaveTheSame looked_at (paragraph_if b front d) d
  if-left b front d = grind (arith, nat_tests)

  part-alone : (s : Setting) (n : ℕ) (section : Section) (names : List Entry) → LeaveTheSame looked_at
      (part_done (at_section s n) section names) (ref_done s (text_ref n modes.CPart section.c_part) names)
  part-alone s n section names = grind (arith, nat_tests, if-left)

  nothing-left : (s : Setting) (d : Done ℕ) (out : List ℕ) (names : List Entry) → LeavesNothing looked_at names d
      → LeaveTheSame looked_at (done_then d (as_it_is out)) (refs_done s [] names)
  nothing-left s d out names l = grind (arith, nat_tests, append-nil)

  part-left : (s : Setting) (n : ℕ) (section : Section) (b : Bool) (out : List ℕ) (names : List Entry)
      → (b ≡ false → LeavesNothing looked_at names (ref_done s (text_ref n modes.CPart section.c_part) names))
      → LeaveTheSame looked_at (done_then (part_done (at_section s n) section names) (as_it_is out))
      (refs_done s (part_refs b n section.c_part) names)
  part-left s n section b out names none = grind (arith, nat_tests, across, part-alone, trans, nothing-left)

  -- ## TeX parts

  tex-by-left : (s : Setting) (n : ℕ) (section : Section) (alone : Bool) (front : List ℕ) (names : List Entry)
      → (alone ≡ false → tex_refs s.book.name_uses n (tex_pieces_of s.text section.tex) ≡ [])
      → LeaveTheSame looked_at (head_and_tex alone front (at_section s n) section names)
      (refs_done s (tex_refs s.book.name_uses n (tex_pieces_of s.text section.tex)) names)
  tex-by-left s n section alone front names none = grind (arith, nat_tests, pieces-left)

  tex-left : (s : Setting) (n : ℕ) (section : Section) (names : List Entry)
      → LeaveTheSame looked_at (tex_done (at_section s n) section names)
      (refs_done s (tex_refs s.book.name_uses n (tex_pieces_of s.text section.tex)) names)
  tex-left s n section names = tex-by-left s n section (is_nothing (beside_in (at_section s n) section))
      (head s.flags.ranged s.text n section) names (λ e. no-refs s.text s.book.name_uses n
      (tex_pieces_of s.text section.tex) (no-prose s.flags.ranged (has_prose s.text section.tex)
      (first_code (has_definition s.text section.definitions) (is_printed s.text s.book.name_uses section)) e))

  -- ## Sections

  pub section-left : (s : Setting) (n : ℕ) (section : Section) (b : Bool) (names : List Entry) → ((ns : List Entry) → b
      ≡ false → LeavesNothing looked_at ns (ref_done s (text_ref n modes.CPart section.c_part) ns))
      → LeaveTheSame looked_at (section_done (at_section s n) section names)
      (refs_done s (section_refs b s.text s.book.name_uses n section) names)
  section-left s n section b names none =
      let t : Setting = at_section s n in
      let ps : List TextRef = tex_refs s.book.name_uses n (tex_pieces_of s.text section.tex) in
      let ds : List TextRef = definition_refs n (printed_definitions s.text section.definitions) in
      let part : List TextRef = part_refs b n section.c_part in
      trans (section_done t section names) (done_then (refs_done s ps names) (refs_done s (ds ++ part))) (refs_done s
      (ps ++ (ds ++ part)) names) (across (tex_done t section names) (refs_done s ps names) (rest_done t section)
      (refs_done s (ds ++ part)) (tex-left s n section names) (λ ns. trans (rest_done t section ns)
      (done_then (refs_done s ds ns) (refs_done s part)) (refs_done s (ds ++ part) ns) (across (definitions_done t
      (first_opening (beside_in t section)) (printed_definitions s.text section.definitions) ns) (refs_done s ds ns)
      (λ ms. done_then (part_done t section ms) (as_it_is (ending t section))) (refs_done s part) (definitions-left s n
      (first_opening (beside_in t section)) (printed_definitions s.text section.definitions) ns) (λ ms. part-left s n
      section b (ending t section) ms (none ms))) (refs-joined s ds part ns))) (refs-joined s ps (ds ++ part) names)

  pub sections-left : (s : Setting) (test : Section → Bool) (P : Section → Type 0)
      → ((n : ℕ) (section : Section) → P section → test section ≡ false → (ns : List Entry) → LeavesNothing looked_at ns
      (ref_done s (text_ref n modes.CPart section.c_part) ns)) → (n : ℕ) (sections : List Section) → All P sections
      → (names : List Entry) → LeaveTheSame looked_at (sections_done s n sections names)
      (refs_done s (refs_from test s.text s.book.name_uses n sections) names)
  sections-left s test P none n [] all names = record { names = refl; marks = refl; ended = refl }
  sections-left s test P none n (section ∷ sections) all names =
      let first : List TextRef = section_refs (test section) s.text s.book.name_uses n section in
      let rest : List TextRef = refs_from test s.text s.book.name_uses (suc n) sections in
      trans (sections_done s n (section ∷ sections) names) (done_then (refs_done s first names) (refs_done s rest))
      (refs_done s (first ++ rest) names) (across (section_done (at_section s n) section names)
      (refs_done s first names) (sections_done s (suc n) sections) (refs_done s rest) (section-left s n section
      (test section) names (λ ns is. none n section (All-head P section sections all) is ns)) (λ ns. sections-left s
      test P none (suc n) sections (All-tail P section sections all) ns)) (refs-joined s first rest names)

-- ## With every C part

every-section : (sections : List Section) → All (λ (section : Section). Unit {0}) sections
every-section sections = λ i x within. tt

pub every-text-is-woven : EveryTextIsWoven
every-text-is-woven lines flags = sections-left (λ ended. ended) (λ xs ys. refl) (setting (text_of lines) flags 0
    (book lines)) (λ section. true) (λ section. Unit {0}) (λ n section sound is ns. absurd cc) 1
    (book lines).outline.sections (every-section (book lines).outline.sections) (book lines).names

-- ## With those that are printed

no-scrap : (a b : Bool) → (a || b) ≡ false → b ≡ false
no-scrap a b h = grind (arith, nat_tests)

pub unprinted : NestsAreWell → CTextsAreNested → (s : Setting) (n : ℕ) (section : Section)
    → IsWholeSection s.text section → is_printed s.text s.book.name_uses section ≡ false → (names : List Entry)
    → LeavesNothing with_scraps names (ref_done s (text_ref n modes.CPart section.c_part) names)
unprinted well nested s n section whole is names = grind (
  arith,
  quiet-text s.flags s.book.sec_names s.book.name_uses (scanned modes.CPart s.text section.c_part) names
      (well (scanned modes.CPart s.text section.c_part)
      (nested s.text section.c_part.start section.c_part.«end» modes.CPart refl whole.c_part))
      (no-scrap (is_some section.name) (has_scrap s.book.name_uses (scanned modes.CPart s.text section.c_part)) is),
)

pub texts-are-woven : NestsAreWell → CTextsAreNested → SectionsAreWhole → TextsAreWoven
texts-are-woven well nested whole lines flags =
    let s : Setting = setting (text_of lines) flags 0 (book lines) in
    sections-left with_scraps (λ xs ys. filter-append (λ (state : State). is_any state.scraps) xs ys) s
    (is_printed (text_of lines) (book lines).name_uses) (IsWholeSection (text_of lines))
    (λ n section sound unprinted-part ns. unprinted well nested s n section sound unprinted-part ns) 1
    (book lines).outline.sections (whole lines) (book lines).names
