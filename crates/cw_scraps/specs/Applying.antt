-- One production on a line, its store, the names and the marks.
use Rattle.std.specs.Prelude.{◌≡◌, ℕ, ◌+◌, ◌-◌, ◌≤◌, List, length, map, drop, Option, Some, None}
use Rattle.cw_base.specs.declared.flags.Flags.{Flags}
use Rattle.cw_base.specs.declared.category.Cat.{Cat}
use Rattle.cw_base.specs.declared.category.Cat.TheVariants.{RawInt}
use Rattle.cw_names.specs.declared.NameId.{NameId}
use Rattle.cw_names.specs.Names.{Entry, with_category}
use Rattle.cw_trees.specs.Tree.{Search, Found, Stopped, Nothing}
pub use Rattle.cw_table.specs.Rows.{no_row, row_of}
use Rattle.cw_table.specs.declared.types.Row.{Row}
use Rattle.cw_table.specs.Rewriting.{State, rewrite, search_in}
use Rattle.cw_tokens.specs.declared.token.Token.{Token}
use Rattle.cw_scraps.specs.declared.line.LineEntry.{LineEntry}
use Rattle.cw_tokens.specs.Counting.{token_count}
use Rattle.cw_tokens.specs.Stored.{StoredLists}
use Rattle.cw_scraps.specs.declared.TheConstants.{PRODUCTION_TOKENS}
use Rattle.cw_scraps.specs.Changing.{Keeps}
use Rattle.cw_scraps.specs.Lines.{IsSoundLine, roots_of, scraps_of}
use Rattle.cw_scraps.specs.Marking.{MarkList, marked_names}

-- the categories of the names
abbrev pub categories : List Entry → List Cat
categories names = map (λ name. name.category) names

-- what productions work on, as definitions see it
abbrev pub state_of : List (List Token) → List LineEntry → MarkList → List Entry → State
state_of lists line marks names = record {
  scraps = scraps_of lists line;
  marks = marked_names marks;
  cats = categories names;
}

-- the name that a search finds has become a type
abbrev pub retyped : Search → List Entry → List Entry
retyped (Found name) names = with_category name RawInt names
retyped Stopped names = names
retyped Nothing names = names

-- how many scraps stand to the right of the new one, where the row reserves
abbrev pub looked_at : Option ℕ → ℕ → ℕ
looked_at None count = 0
looked_at (Some k) count = count

abbrev pub retyped_by : Option NameId → List Entry → List Entry
retyped_by None names = names
retyped_by (Some name) names = with_category name.index RawInt names

-- what a production works on: a line of scraps over its store, the marks, the names, and the steps that were counted
pub record Work : Type 0 where
  pub store : StoredLists
  pub line : List LineEntry
  pub marks : MarkList
  pub names : List Entry
  pub steps : ℕ

abbrev pub work : StoredLists → List LineEntry → MarkList → List Entry → ℕ → Work
work store line marks names steps = record { store = store; line = line; marks = marks; names = names; steps = steps }

-- What a production by this row at this place leaves. The state is rewritten; the names are as before, but for the
-- one that is reserved; the line is sound; lists outside the line stay; few tokens are new, however many the lists
-- of the replaced scraps hold, and as much room is taken at most; and a row that reserves counts one step for each
-- scrap to the right of the new one.
pub record IsApplied (flags : Flags) (row : Row) (place : ℕ) (old new : Work) : Type 0 where
  pub state : state_of new.store.lists new.line new.marks new.names
      ≡ rewrite flags row place (state_of old.store.lists old.line old.marks old.names)
  pub retypes : new.names ≡ retyped (search_in row.action.reserve (drop place (scraps_of old.store.lists old.line)))
      old.names
  pub sound : IsSoundLine new.store new.names new.line
  pub others : Keeps old.store.lists new.store.lists (roots_of old.line) (roots_of new.line)
  pub few : token_count new.store.lists ≤ token_count old.store.lists + PRODUCTION_TOKENS
  pub spare : old.store.spare ≤ new.store.spare + PRODUCTION_TOKENS
  pub free : old.marks.spare ≤ new.marks.spare + 1
  pub ticked : new.steps ≡ old.steps + looked_at row.action.reserve (length new.line - (place + row.offset + 1))
