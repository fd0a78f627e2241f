-- The models beside `specs/Reduction`.
use Rattle.std.specs.Prelude.{◌≡◌, ℕ, ◌+◌, ◌-◌, ◌*◌, ◌<◌, ◌≤◌, Some, None, List, length, drop, slice_index_or}
use Rattle.cw_base.specs.declared.category.Cat.{Cat}
use Rattle.cw_table.specs.Fitting.{first_of}
use Rattle.cw_table.specs.Productions.{productions}
use Rattle.cw_table.specs.Rows.{row_numbered, row_of}
use Rattle.cw_table.specs.declared.productions.TheConstants.{ROW_COUNT}
use Rattle.cw_scraps.specs.declared.line.LineEntry.{LineEntry}
use Rattle.cw_scraps.specs.model.Inserting.{entry_cats}
use Rattle.cw_scraps.specs.Lines.{no_entry}

-- the row of this number is the first that fits at the beginning of these categories
pub record IsFirst (cats : List Cat) (number : ℕ) : Type 0 where
  pub from_one : 1 ≤ number
  pub to_last : number ≤ ROW_COUNT
  pub numbered : row_numbered productions number ≡ Some (row_of productions number)
  pub fits : first_of productions cats ≡ Some (row_of productions number)

-- these are the categories at a place of a line and at the next
pub record IsPairAt (line : List LineEntry) (place : ℕ) (first second : Cat) : Type 0 where
  pub first_is : first ≡ (slice_index_or line place no_entry).cat
  pub second_is : second ≡ (slice_index_or line (place + 1) no_entry).cat

-- No row fits at the places from one up to another, and four steps are counted for each.
pub record PassesOver (line : List LineEntry) (place steps place' steps' : ℕ) : Type 0 where
  pub on : place ≤ place'
  pub counted : steps' ≡ steps + 4 * (place' - place)
  pub none : (k : ℕ) → place ≤ k → k < place'
      → (k < length line) × (first_of productions (drop k (entry_cats line)) ≡ None)

-- the next place from one on at which a row fits, with the first that does
pub record IsNext (line : List LineEntry) (place steps place' number steps' : ℕ) : Type 0 where
  pub inside : place' < length line
  pub first : IsFirst (drop place' (entry_cats line)) number
  pub before : ℕ
  pub counted : steps' ≡ before + 4
  pub passed : PassesOver line place steps place' before

-- no row fits from a place on
pub record HasNoMore (line : List LineEntry) (place steps steps' : ℕ) : Type 0 where
  pub end : ℕ
  pub past : length line ≤ end
  pub passed : PassesOver line place steps end steps'
