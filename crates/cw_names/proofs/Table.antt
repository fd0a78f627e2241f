-- The names that come of a table of words, each of which is added with its category.
use Rattle.cw_names.proofs.Terms.{◌≡◌, ℕ, ◌+◌, ◌<◌, ◌≤◌, Bool, true, false, not, ◌&&◌, List, [], ◌∷◌, ◌++◌, Bor, Vec}
use Rattle.cw_names.proofs.Terms.{Global, get_or, length, drop, map, refl, sym, ap, ◌∙◌, append_assoc, drop-cons}
use Rattle.cw_names.proofs.Terms.{if◌then◌else◌, arith, list_all, append-nil, drop_all, insert_entry, Cat, both-left}
use Rattle.cw_names.proofs.Terms.{both-right, Key, Entry, is_entry, entry_of, with_word, row, built_in_words, nat_tests}
use Rattle.cw_names.specs.{declared.entry.EntryKind.TheVariants.Ident, model.Table.with_table}
use Rattle.cw_names.proofs.Lookup.{key_eq, key_eq-is}

with_table-nil : (names : List Entry) → with_table [] names ≡ names
unfolding with_table
with_table-nil names = refl

with_table-cons : (w : List ℕ × Cat) (words : List (List ℕ × Cat)) (names : List Entry) → with_table (w ∷ words) names
    ≡ with_table words (with_word w names)
unfolding with_table
with_table-cons w words names = refl

-- the entry of a word of a table
abbrev entry_with : List ℕ × Cat → Entry
entry_with w = record { kind = Ident; text = w.0; category = w.1 }

-- no entry has the word
abbrev is_new : List ℕ × Cat → List Entry → Bool
is_new w entries = list_all (λ entry. not (is_entry Ident w.0 entry)) entries

-- each word of a table is new behind those that stand before it
abbrev are_new : List (List ℕ × Cat) → List Entry → Bool
are_new [] entries = true
are_new (w ∷ words) entries = is_new w entries && are_new words (entries ++ entry_with w ∷ [])

new-last : (w : List ℕ × Cat) (entries : List Entry) → is_new w entries ≡ true → with_word w entries
    ≡ entries ++ entry_with w ∷ []
new-last w [] h = refl
new-last w (entry ∷ entries) h = go (is_entry Ident w.0 entry) (both-left _ _ h) (new-last w entries (both-right _ _ h))
  where
    go : (b : Bool) → not b ≡ true → with_word w entries ≡ entries ++ entry_with w ∷ [] → (if b then record entry
        { category = w.1 } ∷ entries else entry ∷ with_word w entries) ≡ entry ∷ (entries ++ entry_with w ∷ [])
    go true n rest = absurd cc
    go false n rest = ap (λ l. entry ∷ l) rest

-- of a table whose words are all new, each is an entry, in order
with_table-new : (words : List (List ℕ × Cat)) (entries : List Entry) → are_new words entries ≡ true
    → with_table words entries ≡ entries ++ map entry_with words
with_table-new [] entries h = with_table-nil entries ∙ sym (append-nil entries)
with_table-new (w ∷ words) entries h = with_table-cons w words entries ∙ ap (with_table words)
    (new-last w entries (both-left _ _ h)) ∙ with_table-new words (entries ++ entry_with w ∷ []) (both-right _ _ h)
    ∙ append_assoc entries (entry_with w ∷ []) (map entry_with words)

-- the table of the built-in words
abbrev pub table : List (List ℕ × Cat)
table = map (λ (e : Entry). (e.text, e.category)) built_in_words

table-new : are_new table [] ≡ true
table-new = refl

table-entries : map entry_with table ≡ built_in_words
table-entries = refl

pub table-all : with_table table [] ≡ built_in_words
table-all = with_table-new table [] table-new ∙ table-entries

-- a word that is inserted into the hash table
inserted-by : (b : Bool) (e : Key × Cat) (es : List (Key × Cat)) (c : Cat) (rest : List (Key × Cat))
    → map entry_of (if b then (e.0, c) ∷ es else e ∷ rest)
    ≡ (if b then record (entry_of e) { category = c } ∷ map entry_of es else entry_of e ∷ map entry_of rest)
inserted-by x1 e es c rest = grind (arith, nat_tests)

pub inserted-word : (text : Vec ℕ Global) (c : Cat) (es : List (Key × Cat)) → map entry_of
    (insert_entry key_eq es (record { kind = Ident; text = text }) c) ≡ with_word (text.items, c) (map entry_of es)
inserted-word text c [] = refl
inserted-word text c (e ∷ es) =
    let key : Key = record { kind = Ident; text = text } in
    inserted-by (key_eq key e.0) e es c (insert_entry key_eq es key c) ∙ (λ i. if key_eq-is key e i then record
    (entry_of e) { category = c } ∷ map entry_of es else entry_of e ∷ inserted-word text c es i)

-- one word further in the table
pub with_table-step : (items : List (Bor (List ℕ) × Cat)) (i : ℕ) (d : Bor (List ℕ) × Cat) (names new all : List Entry)
    → i < length items → new ≡ with_word (row (get_or items i d)) names
    → with_table (map row (drop i items)) names ≡ all → with_table (map row (drop (i + 1) items)) new ≡ all
with_table-step items i d names new all h e t = grind (arith, nat_tests, drop-cons, with_table-cons)

-- at the end of the table
pub with_table-end : (items : List (Bor (List ℕ) × Cat)) (i : ℕ) (names all : List Entry) → length items ≤ i
    → with_table (map row (drop i items)) names ≡ all → names ≡ all
with_table-end items i names all h t = grind (arith, nat_tests, with_table-nil, drop_all)
