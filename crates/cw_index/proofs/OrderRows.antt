-- Worked rows: bytes, texts and entries in the order of the index.
use Rattle.cw_index.proofs.Terms.{◌≡◌, ℕ, List, [], ◌∷◌, codes, refl, Less, Greater, Exp, EntryKind, Ident, Roman}
use Rattle.cw_index.proofs.Terms.{Typewriter, User, Entry, entry_cmp, text_cmp}

-- Each class stands before the next one: blanks, other bytes below 128, `_`, letters, bytes of 128 and above, digits.
class_rows : (text_cmp (codes "a b") (codes "a!b") ≡ Less)
    × (text_cmp (codes "a~") (codes "a_") ≡ Less)
    × (text_cmp (codes "a_") (codes "aA") ≡ Less)
    × (text_cmp (97 ∷ 122 ∷ []) (97 ∷ 128 ∷ []) ≡ Less)
    × (text_cmp (97 ∷ 255 ∷ []) (97 ∷ 48 ∷ []) ≡ Less)
class_rows = (refl, refl, refl, refl, refl)

-- Capitals and small letters are alike, and so are the blanks, where anything else decides; else the bytes do.
tie_rows : (text_cmp (codes "B") (codes "a") ≡ Greater)
    × (text_cmp (codes "aB") (codes "Ac") ≡ Less)
    × (text_cmp (codes "Ab") (codes "ab") ≡ Less)
    × (text_cmp (97 ∷ 9 ∷ 99 ∷ []) (97 ∷ 32 ∷ 98 ∷ []) ≡ Greater)
tie_rows = (refl, refl, refl, refl)

-- A shorter text comes first.
shorter_row : text_cmp (codes "ab") (codes "ab ") ≡ Less
shorter_row = refl

abbrev entry : EntryKind → List ℕ → Entry
entry kind text = record { kind = kind; text = text; category = Exp }

-- Equal texts stand by their kinds.
kind_rows : (entry_cmp (entry Ident (codes "a")) (entry Roman (codes "a")) ≡ Less)
    × (entry_cmp (entry Typewriter (codes "a")) (entry User (codes "a")) ≡ Less)
    × (entry_cmp (entry User (codes "A")) (entry Ident (codes "a")) ≡ Less)
kind_rows = (refl, refl, refl)
