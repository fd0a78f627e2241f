-- What the insertion of a piece puts into the list that is being built is what the piece puts there.
use Rattle.cw_scraps.proofs.Terms.{◌≡◌, ℕ, ◌+◌, ◌<◌, ◌≤◌, List, [], ◌∷◌, ◌++◌, length, drop, get_or, Some, sym, ap, ◌∙◌}
use Rattle.cw_scraps.proofs.Terms.{subst, option_map, arith, drop_more, MathMode, Maybe, after, first_mode, Piece}
use Rattle.cw_scraps.proofs.Terms.{Token, StoredLists, MayBePushed, LineEntry, Insert, roots_of, AreRoots, insert_in}
use Rattle.cw_scraps.proofs.Terms.{inserted_by, inserting, toggle, IsInsertionWithin, IsPieceWithin, Joins}
use Rattle.std.proofs.lemmas.Option.{slice_get-get_or}
use Rattle.std.specs.Prelude.{slice_get}
use Rattle.cw_table.specs.{declared.types.Insertion.Insertion, Insertions.insertion_of}
use Rattle.cw_scraps.specs.model.Inserting.{toggled}
use Rattle.cw_scraps.proofs.Buildings.{joins-next, joins-put, joins-within}
use Rattle.cw_table.specs.declared.types.Piece.TheVariants as piece

-- the next of the pieces, by its insertion
pub record Inserts (pieces : List Piece) (i : ℕ) (insertion : Insertion) : Type 0 where
  pub piece : Piece
  pub at : drop i pieces ≡ piece ∷ drop (i + 1) pieces
  pub is : insertion_of piece ≡ insertion

pub inserts : (pieces : List Piece) (i : ℕ) (insertion : Insertion) → i < length pieces
    → option_map insertion_of (slice_get pieces i) ≡ Some insertion → Inserts pieces i insertion
inserts pieces i insertion inside is = record {
  piece = get_or pieces i piece.Unused;
  at = drop_more pieces i piece.Unused inside;
  is = same (ap (option_map insertion_of) (sym (slice_get-get_or pieces i piece.Unused inside)) ∙ is);
}
  where
    same : Some (insertion_of (get_or pieces i piece.Unused)) ≡ Some insertion
        → insertion_of (get_or pieces i piece.Unused) ≡ insertion
    same e = cc

-- a scrap that is joined as it is
plain : (token : Token) (l r : MathMode) → ◌≡◌ {A = Insert} (record { token = token; left = l; right = r })
    (insert_in Maybe token l r)
plain token l r = grind arith

inserting-is : (entries : List LineEntry) (p : Piece) → inserting entries p ≡ inserted_by entries (insertion_of p)
inserting-is entries p = grind (arith, plain)

within-is : (place count : ℕ) (p : Piece) → IsPieceWithin place count p → IsInsertionWithin place count (insertion_of p)
within-is place count p h = grind arith

module _ (lists : List (List Token)) (entries : List LineEntry) (pieces : List Piece) (spare i : ℕ)
    (left mode : MathMode) (store : StoredLists) (j : Joins lists entries pieces spare i left mode store)
    (insertion : Insertion) (next : Inserts pieces i insertion) (roots : AreRoots lists (roots_of entries)) where
  same : inserting entries next.piece ≡ inserted_by entries insertion
  same = inserting-is entries next.piece ∙ ap (inserted_by entries) next.is

  pub inserts-within : (place count : ℕ) → count ≡ place + length entries → 2 ≤ store.spare
      → IsInsertionWithin place count insertion
  inserts-within place count long room = grind (arith, within-is, joins-within)

  pub inserts-put : 2 ≤ store.spare
      → MayBePushed (toggled mode (inserted_by entries insertion).left store) (inserted_by entries insertion).token
  inserts-put room = subst (λ (x : Insert). MayBePushed (toggled mode x.left store) x.token) same
      (joins-put lists entries pieces spare i left mode store j next.piece next.at roots room)

  pub inserts-next : (new : StoredLists) → new.building ≡ option_map (λ tokens. tokens
      ++ (inserted_by entries insertion).token ∷ []) (toggled mode (inserted_by entries insertion).left store).building
      → new.lists ≡ store.lists → new.spare + 1 + length (toggle mode (inserted_by entries insertion).left)
      ≡ store.spare → Joins lists entries pieces spare (i + 1) (first_mode left (inserted_by entries insertion).left)
      (after mode (inserted_by entries insertion).left (inserted_by entries insertion).right) new
  inserts-next new built same_lists spent = grind (arith, same, joins-next, option_map)
