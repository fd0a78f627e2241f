-- What the pieces of a row read of a line.
use Rattle.cw_scraps.proofs.Terms.{◌≡◌, ℕ, suc, ◌+◌, List, ◌∷◌, length, drop, get_or, None, refl, arith, get_or-drop}
use Rattle.cw_scraps.proofs.Terms.{End, Piece, SameAs, result_at, alone, LineEntry, no_entry, entry_cats}
use Rattle.cw_table.specs.declared.types.RowResult.{RowResult}

pub cats-entry : (es : List LineEntry) (k : ℕ) → get_or (entry_cats es) k End ≡ (get_or es k no_entry).cat
cats-entry (e ∷ es) (suc k) = cats-entry es k
cats-entry _ _ = refl

pub same-cat : (line : List LineEntry) (place k : ℕ) (outcome : RowResult) (entry : LineEntry) → entry ≡ get_or line
    (place + k) no_entry → outcome ≡ SameAs k → entry.cat ≡ result_at outcome (entry_cats (drop place line))
same-cat line place k outcome entry e is = grind (arith, get_or-drop, cats-entry)

-- a row that doesn't replace one scrap, or has more or less than one piece, keeps none
pub alone-none : (replaced : ℕ) (ps : List Piece) → (replaced ≡ 1 → length ps ≡ 1 → ⊥) → alone replaced ps ≡ None
alone-none replaced ps h = grind arith
