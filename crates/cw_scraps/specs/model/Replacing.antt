-- Some scraps of a line are replaced by the one that a row makes of them.
use Rattle.std.specs.Prelude.{◌≡◌, ℕ, ◌+◌, ◌≤◌, List, ◌∷◌, ◌++◌, length, take, drop}
use Rattle.cw_base.specs.declared.flags.Flags.{Flags}
use Rattle.cw_table.specs.declared.types.Row.{Row}
use Rattle.cw_table.specs.Rewriting.{new_scrap}
use Rattle.cw_tokens.specs.declared.token.Token.{Token}
use Rattle.cw_tokens.specs.Counting.{token_count}
use Rattle.cw_scraps.specs.declared.TheConstants.{PRODUCTION_TOKENS}
use Rattle.cw_scraps.specs.declared.line.LineEntry.{LineEntry}
use Rattle.cw_scraps.specs.Lines.{scraps_of, roots_of, AreRoots}
use Rattle.cw_scraps.specs.Changing.{Keeps}
use Rattle.cw_trees.specs.Joining.{Scrap}

-- the scraps from a place on, where what a row replaces has become one
abbrev pub replaced_from : Flags → Row → List Scrap → List Scrap
replaced_from flags row scraps = take row.offset scraps ++ new_scrap flags row scraps ∷ drop (row.offset + row.replaced)
    scraps

pub record Replaces (flags : Flags) (row : Row) (place : ℕ) (old_lists : List (List Token)) (old : List LineEntry)
    (lists : List (List Token)) (line : List LineEntry) : Type 0 where
  pub scraps : scraps_of lists line ≡ take place (scraps_of old_lists old) ++ replaced_from flags row
      (drop place (scraps_of old_lists old))
  pub roots : AreRoots lists (roots_of line)
  pub keeps : Keeps old_lists lists (roots_of old) (roots_of line)
  pub count : length line + row.replaced ≡ length old + 1
  pub few : token_count lists ≤ token_count old_lists + PRODUCTION_TOKENS
