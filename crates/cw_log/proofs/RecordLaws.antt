-- What a log of texts tells.
use Rattle.cw_log.proofs.Terms.{◌≡◌, ℕ, zero, suc, ◌<◌, Option, Some, List, [], ◌∷◌, ◌++◌, length, map, get_or, refl}
use Rattle.cw_log.proofs.Terms.{sym, ◌∙◌, ap, arith, LeafLine, LogItem, TextLog, item_of, production_of, WatchState}
use Rattle.cw_log.proofs.Terms.{LineEntry, AreRoots, roots_of, Token, ended_now}

items-back : (items : List LogItem) → map item_of (map production_of items) ≡ items
items-back [] = refl
items-back (item ∷ items) = ap (λ xs. item ∷ xs) (items-back items)

abbrev told_of : List LogItem → List LeafLine → List TextLog → Option WatchState
told_of items leaves ended = Some (record { items = map production_of items; begun = leaves; ended = ended })

-- a text that has ended stands behind the others
pub text-ended : (items now : List LogItem) (leaves begun : List LeafLine) (ended all : List TextLog) → now ≡ []
    → begun ≡ [] → all ≡ ended ++ record { leaves = leaves; items = items } ∷ []
    → told_of now begun all ≡ ended_now (told_of items leaves ended)
text-ended items now leaves begun ended all none empty is = ap (λ (x : List LogItem). told_of x begun all) none
    ∙ (ap (λ (x : List LeafLine). told_of [] x all) empty ∙ (ap (λ (x : List TextLog). told_of [] [] x) is ∙ ap (λ (x
    : List LogItem). told_of [] [] (ended ++ record { leaves = leaves; items = x } ∷ [])) (sym (items-back items))))

below-all : (count : ℕ) (line : List LineEntry) → ((i : ℕ) → i < length (roots_of line) → get_or (roots_of line) i 0 <
    count) → (k : ℕ) (d : LineEntry) → k < length line → (get_or line k d).list.index < count
below-all count [] h k d lt = absurd (omega (arith, lt))
below-all count (e ∷ line) h zero d lt = h 0 (omega arith)
below-all count (e ∷ line) h (suc k) d lt = below-all count line (λ i l. h (suc i) (omega (arith, l))) k d
    (omega (arith, lt))

-- the lists of a line are among those of the store
pub roots-known : (lists : List (List Token)) (line : List LineEntry) → AreRoots lists (roots_of line)
    → (k : ℕ) (d : LineEntry) → k < length line → (get_or line k d).list.index < length lists
roots-known lists line roots = below-all (length lists) line roots.there
