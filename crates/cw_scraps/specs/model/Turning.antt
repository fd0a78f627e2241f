-- The scraps to the right of a new one, whose identifiers of a reserved name become types.
use Rattle.std.specs.Prelude.{◌≡◌, ℕ, ◌<◌, ◌≤◌, List, length, Option, Some, None, slice_index_or, ◌⊎◌}
use Rattle.cw_names.specs.declared.NameId.{NameId}
use Rattle.cw_trees.specs.Joining.{Scrap}
use Rattle.cw_table.specs.Rewriting.{named_scrap}
use Rattle.cw_tokens.specs.declared.token.Token.{Token}
use Rattle.cw_scraps.specs.declared.line.LineEntry.{LineEntry}
use Rattle.cw_scraps.specs.Lines.{seen, roots_of, no_entry}
use Rattle.cw_scraps.specs.model.Changing.{Changes}

-- a scrap, turned into a type if it is exactly an identifier of this name
abbrev pub named_by : Option NameId → Scrap → Scrap
named_by None scrap = scrap
named_by (Some name) scrap = named_scrap name.index scrap

-- the scraps from one place up to another are turned
pub record Turns (name : Option NameId) (old_lists : List (List Token)) (old : List LineEntry) (start i : ℕ)
    (lists : List (List Token)) (line : List LineEntry) : Type 0 where
  pub done : (m : ℕ) → start ≤ m → m < i → seen lists (slice_index_or line m no_entry)
      ≡ named_by name (seen old_lists (slice_index_or old m no_entry))
  pub same : (m : ℕ) → m < length old → (m < start) ⊎ (i ≤ m) → seen lists (slice_index_or line m no_entry)
      ≡ seen old_lists (slice_index_or old m no_entry)
  pub roots : roots_of line ≡ roots_of old
  pub changes : Changes old_lists lists (roots_of old)
