-- The book that texts leave, for each way to translate them.
use Rattle.std.proofs.Common.{◌≡◌, ℕ, Bool, true, false, List, [], ◌∷◌, ◌++◌, refl, sym, ap, subst, ◌∙◌, append_assoc}
use Rattle.std.proofs.lemmas.List.{append-nil}
use Rattle.cw_base.specs.Flags.{start_flags}
use Rattle.cw_base.specs.Web.{text_of}
use Rattle.cw_base.specs.declared.flags.Flags.{Flags}
use Rattle.cw_names.specs.Names.{Entry}
use Rattle.cw_names.specs.declared.xrefs.Occurrence.{Occurrence}
use Rattle.cw_phase1.specs.Book.{book}
use Rattle.cw_phase1.specs.Changed.{marked_book, ranged_book}
use Rattle.cw_phase1.specs.declared.book.Book.{Book}
use Rattle.cw_press.specs.Done.{Done}
use Rattle.cw_press.specs.Texts.{Setting, setting}
use Rattle.cw_press.specs.Weaving.{underlined}
use Rattle.cw_texts.specs.Scans.{scanned}
use Rattle.cw_texts.specs.Texts.{texts_of}
use Rattle.cw_texts.specs.declared.text_list.TextRef.{TextRef}
use Rattle.cw_translator.specs.NameParts.{name_texts}
use Rattle.cw_translator.specs.Translating.{Ended}
use Rattle.cw_each.specs.EachText.{book_source, each_text}
use Rattle.cw_index.specs.Mentions.{index_rows}
use Rattle.cw_laws.specs.BookTexts.{MarkTheSame, OccurrencesAreWoven, ref_done, refs_done, refs_marks}
use Rattle.cw_mini.specs.Left.{left_book, left_by_texts}
use Rattle.cw_mini.specs.Mini.{mini_rows}
use Rattle.cw_mini.specs.MiniLaws.{AreOf, NamesOtherSections}
use Rattle.cw_weave.specs.TexFile.{left_by, tex_file}
use Rattle.cw_laws.specs.Left.{EachLeavesTheBook, HaveTheSameNames, LeavesTheWovenBook, TranslateAsAtFirst}
use Rattle.cw_laws.specs.Left.{left_by_each, woven_book}
use Rattle.cw_laws.specs.MiniBooks.{SmallIndexesAreOfTheIndex}
use Rattle.cw_laws.proofs.FlagLaws.{as-at-first}

-- ## Texts that are translated with the flags of the start

-- the book with these names and occurrences
abbrev with_left : List Entry → List Occurrence → Book → Book
with_left names xrefs b = record {
  names = names;
  xrefs = xrefs;
  sec_names = b.sec_names;
  name_uses = b.name_uses;
  outline = b.outline;
}

each-left : (text : List ℕ) (b : Book) (refs : List TextRef) (names : List Entry) (xrefs : List Occurrence)
    → left_by_each (with_left names xrefs b) (each_text (book_source text b) refs names)
    ≡ left_by_texts text refs (with_left names xrefs b)
each-left text b [] names xrefs = refl
each-left text b (ref ∷ refs) names xrefs =
    let d : Done ℕ = ref_done (setting text start_flags 0 b) ref names in
    each-left text b refs d.names (xrefs ++ underlined ref.section d.marks)

mini-left : (text : List ℕ) (b : Book) (refs : List TextRef) (names : List Entry) (xrefs : List Occurrence)
    → left_by_texts text refs (with_left names xrefs b)
    ≡ with_left (refs_done (setting text start_flags 0 b) refs names).names
    (xrefs ++ refs_marks (setting text start_flags 0 b) refs names) b
mini-left text b [] names xrefs = ap (λ (all : List Occurrence). with_left names all b) (sym (append-nil xrefs))
mini-left text b (ref ∷ refs) names xrefs =
    let s : Setting = setting text start_flags 0 b in
    let d : Done ℕ = ref_done s ref names in
    mini-left text b refs d.names (xrefs ++ underlined ref.section d.marks)
    ∙ ap (λ (all : List Occurrence). with_left (refs_done s refs d.names).names all b)
    (append_assoc xrefs (underlined ref.section d.marks) (refs_marks s refs d.names))

-- ## The same with other flags

module _ (text : List ℕ) (flags : Flags) (same : TranslateAsAtFirst flags) (b : Book) where
  names-same : (refs : List TextRef) (names : List Entry) → (refs_done (setting text flags 0 b) refs names).names
      ≡ (refs_done (setting text start_flags 0 b) refs names).names
  names-same [] names = refl
  names-same (ref ∷ refs) names =
      let e = as-at-first flags same (name_texts b.sec_names b.name_uses) (scanned ref.mode text ref.span) names in
      ap (λ (t : Ended). (refs_done (setting text flags 0 b) refs t.known.names).names) e
      ∙ names-same refs (ref_done (setting text start_flags 0 b) ref names).names

  marks-same : (refs : List TextRef) (names : List Entry) → refs_marks (setting text flags 0 b) refs names
      ≡ refs_marks (setting text start_flags 0 b) refs names
  marks-same [] names = refl
  marks-same (ref ∷ refs) names =
      let e = as-at-first flags same (name_texts b.sec_names b.name_uses) (scanned ref.mode text ref.span) names in
      let d : Done ℕ = ref_done (setting text start_flags 0 b) ref names in
      ap (λ (t : Ended). underlined ref.section t.known.marks
      ++ refs_marks (setting text flags 0 b) refs t.known.names) e
      ∙ ap (λ (later : List Occurrence). underlined ref.section d.marks ++ later) (marks-same refs d.names)

  woven-left : (refs : List TextRef) → MarkTheSame text flags b refs
      → HaveTheSameNames (with_left (refs_done (setting text start_flags 0 b) refs b.names).names
      (b.xrefs ++ refs_marks (setting text start_flags 0 b) refs b.names) b)
      (left_by text flags b (tex_file text flags b))
  woven-left refs marks = record {
    names = sym (marks.names ∙ names-same refs b.names);
    occurrences = ap (λ (later : List Occurrence). b.xrefs ++ later)
        (sym (marks.occurrences ∙ marks-same refs b.names));
  }

-- ## The mark of change on the last section

unmarked-names : (text : List ℕ) (b : Book) (refs : List TextRef) (names : List Entry)
    → (refs_done (setting text start_flags 0 (marked_book b)) refs names).names
    ≡ (refs_done (setting text start_flags 0 b) refs names).names
unmarked-names text b [] names = refl
unmarked-names text b (ref ∷ refs) names =
    unmarked-names text b refs (ref_done (setting text start_flags 0 b) ref names).names

unmarked-marks : (text : List ℕ) (b : Book) (refs : List TextRef) (names : List Entry)
    → refs_marks (setting text start_flags 0 (marked_book b)) refs names
    ≡ refs_marks (setting text start_flags 0 b) refs names
unmarked-marks text b [] names = refl
unmarked-marks text b (ref ∷ refs) names =
    let d : Done ℕ = ref_done (setting text start_flags 0 b) ref names in
    ap (λ (later : List Occurrence). underlined ref.section d.marks ++ later) (unmarked-marks text b refs d.names)

-- ## The laws

pub left-woven : OccurrencesAreWoven → LeavesTheWovenBook
left-woven woven web flags same = by flags.ranged (woven web.lines flags flags.ranged)
  where
    by : (ranged : Bool) → MarkTheSame (text_of web.lines) flags (ranged_book ranged (book web.lines))
        (texts_of (text_of web.lines) (book web.lines).name_uses (book web.lines).outline.sections)
        → HaveTheSameNames (left_book web.lines) (left_by (text_of web.lines) flags
        (ranged_book ranged (book web.lines)) (tex_file (text_of web.lines) flags
        (ranged_book ranged (book web.lines))))
    by false marks =
        let b : Book = book web.lines in
        let refs : List TextRef = texts_of (text_of web.lines) b.name_uses b.outline.sections in
        let left = mini-left (text_of web.lines) b refs b.names b.xrefs in
        let w = woven-left (text_of web.lines) flags same b refs marks in
        record {
          names = ap (λ (c : Book). c.names) left ∙ w.names;
          occurrences = ap (λ (c : Book). c.xrefs) left ∙ w.occurrences;
        }
    by true marks =
        let b : Book = book web.lines in
        let refs : List TextRef = texts_of (text_of web.lines) b.name_uses b.outline.sections in
        let left = mini-left (text_of web.lines) b refs b.names b.xrefs in
        let w = woven-left (text_of web.lines) flags same (marked_book b) refs marks in
        record {
          names = ap (λ (c : Book). c.names) left ∙ sym (unmarked-names (text_of web.lines) b refs b.names) ∙ w.names;
          occurrences = ap (λ (c : Book). c.xrefs) left ∙ ap (λ (later : List Occurrence). b.xrefs ++ later)
              (sym (unmarked-marks (text_of web.lines) b refs b.names)) ∙ w.occurrences;
        }

pub each-leaves : EachLeavesTheBook
each-leaves lines = each-left (text_of lines) (book lines)
    (texts_of (text_of lines) (book lines).name_uses (book lines).outline.sections) (book lines).names
    (book lines).xrefs

pub small-indexes : LeavesTheWovenBook → NamesOtherSections → SmallIndexesAreOfTheIndex
small-indexes left others web flags section same =
    let b : Book = left_book web.lines in
    let w = left web flags same in
    subst (λ (xrefs : List Occurrence). AreOf section (index_rows (woven_book flags web).names xrefs)
    (mini_rows section b.names b.xrefs)) w.occurrences (subst (λ (names : List Entry). AreOf section
    (index_rows names b.xrefs) (mini_rows section b.names b.xrefs)) w.names (others section b.names b.xrefs))
