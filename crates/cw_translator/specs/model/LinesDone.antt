-- A line of scraps that was reduced and put together.
use Rattle.std.specs.Prelude.{◌≡◌, ℕ, ◌+◌, ◌*◌, ◌≤◌, List, [], ◌∷◌, length, None}
use Rattle.cw_base.specs.declared.flags.Flags.{Flags}
use Rattle.cw_names.specs.Names.{Entry}
use Rattle.cw_table.specs.Normal.{normal, count}
use Rattle.cw_table.specs.Productions.{productions}
use Rattle.cw_table.specs.WalkCounts.{ticks}
use Rattle.cw_tokens.specs.Shapes.{unfolded}
use Rattle.cw_tokens.specs.Stored.{StoredLists}
use Rattle.cw_trees.specs.Joining.{whole}
use Rattle.cw_scraps.specs.declared.line.LineEntry.{LineEntry}
use Rattle.cw_scraps.specs.Applying.{state_of}
use Rattle.cw_scraps.specs.Changing.{Keeps}
use Rattle.cw_scraps.specs.Lines.{roots_of, AreRoots, IsNamedBelow}
use Rattle.cw_scraps.specs.Marking.{MarkList, marked_names}
use Rattle.cw_names.specs.Words.{words_of}
use Rattle.cw_translator.specs.declared.translator.Translated.{Translated}
use Rattle.cw_translator.specs.Translating.{with_categories}

-- what is known of a line that was translated
pub record LineDone (flags : Flags) (old new : StoredLists) (names names' : List Entry) (marks marks' : MarkList)
    (line : List LineEntry) (done : Translated) (steps steps' : ℕ) : Type 0 where
  pub tree : unfolded new.lists done.list.index
      ≡ whole (normal productions flags (state_of old.lists line marks names)).scraps
  pub scraps : done.scraps ≡ length line
  pub productions_are : done.productions ≡ count productions flags (state_of old.lists line marks names)
  pub few : done.productions ≤ 8 * done.scraps
  pub names_are : names' ≡ with_categories (normal productions flags (state_of old.lists line marks names)).cats names
  pub marks_are : marked_names marks' ≡ (normal productions flags (state_of old.lists line marks names)).marks
  pub steps_are : steps' ≡ steps + ticks productions flags (state_of old.lists line marks names)
  pub words : words_of names' ≡ words_of names
  pub named : IsNamedBelow (length names') (unfolded new.lists done.list.index)
  pub root : AreRoots new.lists (done.list.index ∷ [])
  pub keeps : Keeps old.lists new.lists (roots_of line) (done.list.index ∷ [])
  pub idle : new.building ≡ None
