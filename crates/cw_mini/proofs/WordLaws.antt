-- A word that stands alone prints its own bytes.
use Rattle.cw_mini.proofs.Terms.{◌≡◌, ℕ, Bool, false, refl, ap, ◌∙◌, List, [], ◌∷◌, append-nil, added, depth_behind}
use Rattle.cw_mini.proofs.Terms.{late, CanCome, alone, item_bytes, Entry, IsWordOf}
use Rattle.cw_tokens.specs.declared.flat.FlatItem.{FlatItem}
use Rattle.cw_tokens.specs.declared.flat.FlatItem.TheVariants.{Ident, Reserved}

pub word-comes : (names depth : ℕ) (item : FlatItem) → IsWordOf names item → CanCome names depth item
word-comes names depth (Ident name number) is = record { named = is; room = tt {0}; prints = refl }
word-comes names depth (Reserved name number) is = record { named = is; room = tt {0}; prints = refl }
word-comes _ _ _ is = absurd is

pub word-added : (names : List Entry) (count : ℕ) (inner : Bool) (item : FlatItem) → IsWordOf count item
    → inner ≡ false → added inner [] (alone names item) ≡ item_bytes names item []
word-added names count inner (Ident name number) is e = ap (λ (b : Bool). added b [] (alone names (Ident name number)))
    e ∙ append-nil (item_bytes names (Ident name number) [])
word-added names count inner (Reserved name number) is e = ap (λ (b : Bool). added b []
    (alone names (Reserved name number))) e ∙ append-nil (item_bytes names (Reserved name number) [])
word-added _ _ _ _ is _ = absurd is

pub word-late : (names : List Entry) (count : ℕ) (inner : Bool) (item : FlatItem) → IsWordOf count item
    → inner ≡ false → late inner (alone names item ∷ []) ≡ []
word-late names count inner (Ident name number) is e =
    ap (λ (b : Bool). late b (alone names (Ident name number) ∷ [])) e
word-late names count inner (Reserved name number) is e =
    ap (λ (b : Bool). late b (alone names (Reserved name number) ∷ [])) e
word-late _ _ _ _ is _ = absurd is

pub word-closed : (names : List Entry) (count : ℕ) (item : FlatItem) → IsWordOf count item
    → depth_behind (alone names item ∷ []) ≡ 0
word-closed names count (Ident name number) is = refl
word-closed names count (Reserved name number) is = refl
word-closed _ _ _ is = absurd is
