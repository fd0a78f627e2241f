-- The book that texts leave, text by text.
use Rattle.cw_mini.proofs.Terms.{◌≡◌, ℕ, ◌+◌, ◌≤◌, ◌^◌, Bool, List, ◌∷◌, ◌++◌, All, Some, ap, arith, drop, length}
use Rattle.cw_mini.proofs.Terms.{subst, sym, ◌∙◌, slice_get, drop_more, All-weaker, get_or_from_slice_get}
use Rattle.cw_mini.proofs.Terms.{slice_get_within, Book, Done, lasting, setting, text_done, underlined, AreNamesOf}
use Rattle.cw_mini.proofs.Terms.{is_inner, left_book, left_by_text, left_by_texts, left_with, ref_done}
use Rattle.cw_base.specs.{Flags.start_flags, Web.MergedLine, Web.text_of, declared.flags.Flags.Flags}
use Rattle.cw_each.specs.WholeRefs.{TextsAreWhole}
use Rattle.cw_phase1.specs.Book.{book}
use Rattle.cw_reduce.specs.WholeTexts.{IsCText}
use Rattle.cw_secnames.specs.Kept.{SecName}
use Rattle.cw_texts.specs.{Texts.texts_of, declared.text_list.TextRef.TextRef}
use Rattle.cw_run.specs.Given.{IsBookOf}

-- a book with the names of a text and its marks, of which nothing else changed
pub left-is : (b new : Book) (section : ℕ) (d : Done ℕ) → new.names ≡ d.names
    → new.xrefs ≡ b.xrefs ++ underlined section d.marks → lasting new ≡ lasting b → new ≡ left_with section d b
left-is b new section d names xrefs same = λ i. record {
  names = names i;
  xrefs = xrefs i;
  sec_names = (same i).sec_names;
  name_uses = (same i).name_uses;
  outline = (same i).outline;
}

-- A text is translated with the flags of the start.
pub done-as : (text : List ℕ) (ref : TextRef) (b : Book) (flags : Flags) (inner : Bool) → flags ≡ start_flags
    → inner ≡ is_inner ref.mode
    → text_done (setting text flags ref.section b) ref.mode inner ref.span b.names ≡ ref_done text ref b
done-as text ref b flags inner same inner-is =
    λ i. text_done (setting text (same i) ref.section b) ref.mode (inner-is i) ref.span b.names

drop-at : (refs : List TextRef) (i : ℕ) (ref : TextRef) → slice_get refs i ≡ Some ref
    → drop i refs ≡ ref ∷ drop (i + 1) refs
drop-at refs i ref here = drop_more refs i ref (slice_get_within refs i ref here)
    ∙ ap (λ (first : TextRef). first ∷ drop (i + 1) refs) (get_or_from_slice_get refs i ref ref here)

-- Where the texts from a place on leave a book, those behind it leave it of what the text there leaves.
pub left-next : (text : List ℕ) (refs : List TextRef) (i : ℕ) (ref : TextRef) (b new all : Book)
    → slice_get refs i ≡ Some ref → new ≡ left_by_text text b ref → left_by_texts text (drop i refs) b ≡ all
    → left_by_texts text (drop (i + 1) refs) new ≡ all
left-next text refs i ref b new all here is so = ap (left_by_texts text (drop (i + 1) refs)) is
    ∙ ap (λ (later : List TextRef). left_by_texts text later b) (sym (drop-at refs i ref here)) ∙ so

-- what is so of all texts is so of each
pub whole-at : (text : List ℕ) (refs : List TextRef) (i : ℕ) (ref : TextRef) → slice_get refs i ≡ Some ref
    → All (λ r. IsCText text r.span r.mode) refs → IsCText text ref.span ref.mode
whole-at text refs i ref here all = subst (λ (r : TextRef). IsCText text r.span r.mode)
    (get_or_from_slice_get refs i ref ref here) (all i ref (slice_get_within refs i ref here))

-- ## The texts of a web

pub texts-whole : TextsAreWhole → (lines : List MergedLine) (text : List ℕ) (refs : List TextRef) (b : Book)
    → text ≡ text_of lines → length text ≤ 2 ^ 24 → refs ≡ texts_of (text_of lines) b.name_uses b.outline.sections
    → b ≡ book lines → All (λ ref. IsCText text ref.span ref.mode) refs
texts-whole law lines text refs b text-is short refs-are same = subst (λ (t : List ℕ). All (λ (ref : TextRef). IsCText t
    ref.span ref.mode) refs) (sym text-is) (subst (λ (rs : List TextRef). All (λ (ref : TextRef). IsCText
    (text_of lines) ref.span ref.mode) rs) (sym (refs-are ∙ ap (λ (c : Book). texts_of (text_of lines) c.name_uses
    c.outline.sections) same)) (law lines (subst (λ (t : List ℕ). length t ≤ 2 ^ 24) text-is short)))

pub names-kept : (lines : List MergedLine) (text : List ℕ) (b : Book) → text ≡ text_of lines → length text ≤ 2 ^ 24
    → IsBookOf lines b → AreNamesOf b.sec_names b.name_uses
names-kept lines text b text-is short given = record {
  among = given.use_ids;
  short = All-weaker (λ (n : SecName). length n.text ≤ length (text_of lines))
      (λ (n : SecName). length n.text ≤ 2 ^ 24) (λ n low. within n low) b.sec_names given.texts;
}
  where
    limit : length (text_of lines) ≤ 2 ^ 24
    limit = subst (λ (t : List ℕ). length t ≤ 2 ^ 24) text-is short

    within : (n : SecName) → length n.text ≤ length (text_of lines) → length n.text ≤ 2 ^ 24
    within n low = omega (arith, limit)

pub left-whole : (lines : List MergedLine) (text : List ℕ) (refs : List TextRef) (b new : Book)
    → text ≡ text_of lines → refs ≡ texts_of (text_of lines) b.name_uses b.outline.sections → b ≡ book lines
    → new ≡ left_by_texts text refs b → new ≡ left_book lines
left-whole lines text refs b new text-is refs-are same e = e ∙ (λ i. left_by_texts (text-is i) (refs-are i) b)
    ∙ ap (λ (c : Book). left_by_texts (text_of lines) (texts_of (text_of lines) c.name_uses c.outline.sections) c) same
