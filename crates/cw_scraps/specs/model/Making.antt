-- The entry of the new scrap: that of a scrap which stays as it is, or of a list that is new in the store.
use Rattle.std.specs.Prelude.{◌≡◌, ℕ, ◌+◌, ◌≤◌, List, [], ◌∷◌, ◌++◌, length, map, slice_index_or, Some, None}
use Rattle.cw_base.specs.declared.flags.Flags.{Flags}
use Rattle.cw_base.specs.declared.mode.MathMode.TheVariants.{Maybe}
use Rattle.cw_table.specs.declared.types.Piece.{Piece}
use Rattle.cw_table.specs.declared.types.Row.{Row}
use Rattle.cw_table.specs.Rows.{result_at}
use Rattle.cw_table.specs.Rewriting.{alone, row_pieces}
use Rattle.cw_tokens.specs.Stored.{StoredLists}
use Rattle.cw_scraps.specs.declared.TheConstants.{PRODUCTION_TOKENS}
use Rattle.cw_scraps.specs.declared.line.LineEntry.{LineEntry}
use Rattle.cw_scraps.specs.Lines.{no_entry}
use Rattle.cw_scraps.specs.model.Inserting.{entry_cats, inserting, tokens_of, left_of, right_after}

-- the pieces of a row, where these entries stand from its place on
abbrev pub pieces_at : Flags → Row → List LineEntry → List Piece
pieces_at flags row entries = row_pieces flags row (entry_cats entries)

pub data IsMade (flags : Flags) (row : Row) (entries : List LineEntry) (old new : StoredLists) (made : LineEntry) : Type
    0 where
  kept : (k : ℕ) → alone row.replaced (pieces_at flags row entries) ≡ Some k → new ≡ old
      → made ≡ record {
        cat = result_at row.result (entry_cats entries);
        list = (slice_index_or entries k no_entry).list;
        left = (slice_index_or entries k no_entry).left;
        right = (slice_index_or entries k no_entry).right;
      }
      → IsMade flags row entries old new made
  joined : alone row.replaced (pieces_at flags row entries) ≡ None → new.lists
      ≡ old.lists ++ tokens_of Maybe (map (inserting entries) (pieces_at flags row entries)) ∷ []
      → new.building ≡ None → old.spare ≤ new.spare + PRODUCTION_TOKENS
      → made.cat ≡ result_at row.result (entry_cats entries) → made.list.index ≡ length old.lists → made.left
      ≡ left_of (map (inserting entries) (pieces_at flags row entries)) → made.right
      ≡ right_after Maybe (map (inserting entries) (pieces_at flags row entries))
      → IsMade flags row entries old new made
