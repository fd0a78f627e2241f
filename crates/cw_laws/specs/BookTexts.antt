-- The C texts of a book are those that its sections weave, one after another.
use Rattle.std.specs.Prelude.{◌≡◌, ℕ, Bool, true, false, List, [], ◌∷◌}
use Rattle.std.specs.List.{filter}
use Rattle.cw_base.specs.Web.{MergedLine, text_of}
use Rattle.cw_base.specs.declared.flags.Flags.{Flags}
use Rattle.cw_names.specs.Names.{Entry}
use Rattle.cw_names.specs.declared.xrefs.Occurrence.{Occurrence}
use Rattle.cw_weave.specs.Sections.{at_section}
use Rattle.cw_phase1.specs.Book.{book}
use Rattle.cw_phase1.specs.Changed.{ranged_book}
use Rattle.cw_phase1.specs.declared.book.Book.{Book}
use Rattle.cw_rules.specs.declared.tokens.Mode.{Mode}
use Rattle.cw_rules.specs.declared.tokens.Mode.TheVariants as modes
use Rattle.cw_table.specs.Rewriting.{State}
use Rattle.cw_press.specs.Done.{Done, as_it_is, done_then}
use Rattle.cw_press.specs.Texts.{Setting, setting, text_done}
use Rattle.cw_texts.specs.declared.text_list.TextRef.{TextRef}
use Rattle.cw_texts.specs.Texts.{refs_from, texts_of}
use Rattle.cw_trees.specs.Joining.{Scrap}
use Rattle.cw_weave.specs.TexFile.{all_sections, marks_of, marks_with}

-- ## C texts one after another

abbrev pub is_inner : Mode → Bool
is_inner modes.Inner = true
is_inner mode = false

-- what a text of a section prints and leaves
abbrev pub ref_done : Setting → TextRef → List Entry → Done ℕ
ref_done s ref names = text_done (at_section s ref.section) ref.mode (is_inner ref.mode) ref.span names

-- Each is translated with the names that the one before it leaves.
abbrev pub refs_done : Setting → List TextRef → List Entry → Done ℕ
refs_done s [] names = as_it_is [] names
refs_done s (ref ∷ refs) names = done_then (ref_done s ref names) (refs_done s refs)

-- their marks, each an underlined occurrence in the section of its text
abbrev pub refs_marks : Setting → List TextRef → List Entry → List Occurrence
refs_marks s [] names = []
refs_marks s (ref ∷ refs) names = marks_with ref.section (ref_done s ref names) (refs_marks s refs)

-- ## What they leave

-- the texts that have a scrap
abbrev pub is_any : List Scrap → Bool
is_any [] = false
is_any (scrap ∷ scraps) = true

abbrev pub with_scraps : List State → List State
with_scraps ended = filter (λ state. is_any state.scraps) ended

-- Two pieces of a book leave the same names, with their categories, and the same marks; and of the C texts that were
-- reduced, in the order in which they ended, the same are looked at.
pub record LeaveTheSame {X Y : Type 0} (looked_at : List State → List State) (d : Done X) (e : Done Y) : Type 0 where
  pub names : d.names ≡ e.names
  pub marks : d.marks ≡ e.marks
  pub ended : looked_at d.ended ≡ looked_at e.ended

-- The sections of a book and these texts leave the same names, and mark the same in the same sections.
pub record MarkTheSame (text : List ℕ) (flags : Flags) (b : Book) (refs : List TextRef) : Type 0 where
  pub names : (all_sections text flags b).names ≡ (refs_done (setting text flags 0 b) refs b.names).names
  pub occurrences : marks_of (setting text flags 0 b) 1 b.outline.sections b.names
      ≡ refs_marks (setting text flags 0 b) refs b.names

-- ## The laws

-- Sections leave what their texts leave, where each C part is one, also one that isn't printed.
abbrev pub EveryTextIsWoven : Type 0
EveryTextIsWoven =
    (lines : List MergedLine) (flags : Flags)
    → LeaveTheSame (λ ended. ended) (all_sections (text_of lines) flags (book lines))
    (refs_done (setting (text_of lines) flags 0 (book lines))
    (refs_from (λ section. true) (text_of lines) (book lines).name_uses 1 (book lines).outline.sections)
    (book lines).names)

-- A C part that isn't printed has no scrap and leaves nothing. So the sections of a book leave what the texts of the
-- book leave: the same names and marks, and the same texts with scraps.
abbrev pub TextsAreWoven : Type 0
TextsAreWoven =
    (lines : List MergedLine) (flags : Flags)
    → LeaveTheSame with_scraps (all_sections (text_of lines) flags (book lines))
    (refs_done (setting (text_of lines) flags 0 (book lines))
    (texts_of (text_of lines) (book lines).name_uses (book lines).outline.sections) (book lines).names)

-- Each mark is in the section of its text: with their sections too the occurrences that the sections of a book mark are
-- those that its texts mark. So it is where the last section is marked as changed.
abbrev pub OccurrencesAreWoven : Type 0
OccurrencesAreWoven =
    (lines : List MergedLine) (flags : Flags) (ranged : Bool)
    → MarkTheSame (text_of lines) flags (ranged_book ranged (book lines))
    (texts_of (text_of lines) (book lines).name_uses (book lines).outline.sections)
