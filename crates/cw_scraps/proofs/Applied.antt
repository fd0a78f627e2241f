-- One production as a whole.
use Rattle.cw_scraps.proofs.Terms.{◌≡◌, ℕ, zero, suc, ◌+◌, ◌-◌, ◌<◌, ◌≤◌, true, List, [], ◌∷◌, ◌++◌, length, map, take}
use Rattle.cw_scraps.proofs.Terms.{drop, set, Option, Some, None, unwrap_or, refl, sym, ap, ◌∙◌, arith, All, list_all}
use Rattle.cw_scraps.proofs.Terms.{option_to_list, map-append, drop-map, append_assoc, take_at, drop_at}
use Rattle.cw_scraps.proofs.Terms.{take-append-drop, length-append, length-take, length-take-le, length-drop, All-drop}
use Rattle.cw_scraps.proofs.Terms.{RawInt, Flags, NameId, Entry, with_category, Search, Found, Scrap, Row, row_fits}
use Rattle.cw_scraps.proofs.Terms.{is_fine, cats_of, new_scrap, search_in, worded_at, named_right, rewrite_from}
use Rattle.cw_scraps.proofs.Terms.{found_names, with_type, rewrite, falls, Falls, Token, token_count, IsTied}
use Rattle.cw_scraps.proofs.Terms.{StoredLists, LineEntry, scraps_of, roots_of, AreRoots, IsNamedBelow, IsSoundLine}
use Rattle.cw_scraps.proofs.Terms.{entry_cats, Changes, Keeps, Replaces, named_by, productions, no_row, row_numbered}
use Rattle.cw_scraps.proofs.Terms.{row_of, categories, looked_at, state_of, retyped, retyped_by}
use Rattle.cw_table.proofs.ScrapFacts.{at-length}
use Rattle.cw_tokens.specs.Walking.{found_name}
use Rattle.cw_scraps.specs.Marking.{MarkList}
use Rattle.cw_scraps.proofs.{Buildings.length-roots, Fits.FitsAt, Fits.place-inside, Keeping.keeps-modes}
use Rattle.cw_scraps.proofs.{Keeping.keeps-named, Keeping.search-named, Productions.cats-same, Reservings.length-scraps}
use Rattle.cw_scraps.proofs.Changings.{roots-stay, outside-stay, trees-outside}

-- where a name is marked, the row names a scrap in which it is looked for
pub marked-named : (named : Option ℕ) (scraps : List Scrap) (name : Option NameId) (id : NameId) (spare : ℕ)
    → ((k : ℕ) → named ≡ Some k → 0 < spare) → name ≡ found_name (search_in named scraps) → name ≡ Some id → 0 < spare
marked-named named scraps name id spare free is e = grind arith

-- no name turns no scrap
map-none : (xs : List Scrap) → map (named_by None) xs ≡ xs
map-none [] = refl
map-none (x ∷ xs) = ap (λ ys. x ∷ ys) (map-none xs)

pub unturned : (name : Option NameId) (xs : List Scrap) (start : ℕ) → name ≡ None
    → xs ≡ take start xs ++ map (named_by name) (drop start xs)
unturned name xs start e = grind (arith, map-none, take-append-drop)

right-is : (s : Search) (xs : List Scrap) → map (named_by (found_name s)) xs ≡ named_right s xs
right-is s xs = grind (arith, map-none)

-- the row fits the entries as it fits their scraps
pub fits-line : (row : Row) (lists : List (List Token)) (line : List LineEntry) (place : ℕ) → row_fits row
    (drop place (cats_of (scraps_of lists line))) ≡ true → row_fits row (entry_cats (drop place line)) ≡ true
fits-line row lists line place h = grind (arith, cats-same, drop-map)

pub keeps-changed : (old new : List (List Token)) (rs : List ℕ) → IsTied old → Changes old new rs → Keeps old new rs rs
keeps-changed old new rs tied ch = record {
  lists = ch.others;
  trees = λ k o. trees-outside old new rs k tied ch o;
  outside = λ k o. outside-stay old new rs rs k ch o;
  free = λ k o u l p e. u l p (sym (ch.same_refs l p) ∙ e);
}

pub keeps-trans : (a b d : List (List Token)) (rs ss ts : List ℕ) → Keeps a b rs ss → Keeps b d ss ts → Keeps a d rs ts
keeps-trans a b d rs ss ts x y = record {
  lists = λ k o. y.lists k (x.outside k o) ∙ x.lists k o;
  trees = λ k o. y.trees k (x.outside k o) ∙ x.trees k o;
  outside = λ k o. y.outside k (x.outside k o);
  free = λ k o u. y.free k (x.outside k o) (x.free k o u);
}

-- the new scrap stands in the line, so the scraps to the right begin in it
pub right-inside : (flags : Flags) (row : Row) (place : ℕ) (lists : List (List Token)) (line : List LineEntry)
    (new : List (List Token)) (after : List LineEntry) → FitsAt flags row (drop place line)
    → Replaces flags row place lists line new after → place + row.offset + 1 ≤ length after
right-inside flags row place lists line new after f r = grind (arith, length-drop)

pub record Applies (flags : Flags) (row : Row) (place : ℕ) (old : List (List Token)) (line : List LineEntry)
    (new : List (List Token)) (after : List LineEntry) : Type 0 where
  pub scraps : scraps_of new after ≡ take place (scraps_of old line)
      ++ rewrite_from flags row (drop place (scraps_of old line))
  pub roots : AreRoots new (roots_of after)
  pub keeps : Keeps old new (roots_of line) (roots_of after)
  pub few : token_count new ≤ token_count old + 24

module _ (flags : Flags) (row : Row) (place : ℕ) (l0 l1 l2 l3 : List (List Token)) (line0 line1 line2 : List LineEntry)
    (reserved : Option NameId) (f : FitsAt flags row (drop place line0)) (tied : IsTied l0) (tied2 : IsTied l2)
    (e1 : scraps_of l1 line0 ≡ take place (scraps_of l0 line0) ++ worded_at row.action
    (drop place (scraps_of l0 line0))) (ch1 : Changes l0 l1 (roots_of line0))
    (r : Replaces flags row place l1 line0 l2 line1)
    (e3 : scraps_of l3 line2 ≡ take (place + row.offset + 1) (scraps_of l2 line1) ++ map (named_by reserved)
    (drop (place + row.offset + 1) (scraps_of l2 line1))) (same : roots_of line2 ≡ roots_of line1)
    (ch3 : Changes l2 l3 (roots_of line1))
    (name : reserved ≡ found_name (search_in row.action.reserve (drop place (scraps_of l0 line0)))) where
  abbrev front : List Scrap
  front = take place (scraps_of l0 line0)

  abbrev named : List Scrap
  named = worded_at row.action (drop place (scraps_of l0 line0))

  abbrev rest : List Scrap
  rest = drop (row.offset + row.replaced) (worded_at row.action (drop place (scraps_of l0 line0)))

  front-length : length front ≡ place
  front-length = grind (arith, length-take-le, place-inside, length-scraps)

  named-length : length named ≡ length (drop place line0)
  named-length = grind (arith, at-length, length-drop, length-scraps)

  -- up to the new scrap
  abbrev head : List Scrap
  head = front ++ (take row.offset named ++ new_scrap flags row named ∷ [])

  replaced-is : scraps_of l2 line1 ≡ head ++ rest
  replaced-is = grind (arith, take_at, front-length, drop_at, append_assoc)

  head-length : length head ≡ place + row.offset + 1
  head-length = grind (arith, front-length, named-length, length-append, length-take)

  scraps-are : scraps_of l3 line2 ≡ front ++ rewrite_from flags row (drop place (scraps_of l0 line0))
  scraps-are = grind (arith, replaced-is, take_at, head-length, drop_at, right-is, append_assoc)

  pub applies : Applies flags row place l0 line0 l3 line2
  applies = record {
    scraps = scraps-are;
    roots = rw same (roots-stay l2 l3 (roots_of line1) (roots_of line1) ch3 r.roots);
    keeps = rw same (keeps-trans l0 l1 l3 (roots_of line0) (roots_of line0) (roots_of line1)
        (keeps-changed l0 l1 (roots_of line0) tied ch1) (keeps-trans l1 l2 l3 (roots_of line0) (roots_of line1)
        (roots_of line1) r.keeps (keeps-changed l2 l3 (roots_of line1) tied2 ch3)));
    few = omega arith;
  }

-- the steps that were counted, where a row reserves
pub ticked-is : (given reserve : Option ℕ) (line1 line2 : List LineEntry) (start start' steps steps' : ℕ)
    → given ≡ reserve → start ≡ start' → roots_of line2 ≡ roots_of line1 → steps'
    ≡ steps + looked_at given (length line1 - start) → steps' ≡ steps + looked_at reserve (length line2 - start')
ticked-is given reserve line1 line2 start start' steps steps' n s same e = grind (arith, length-roots)

-- the row of a number is the same in a table as among the productions
pub same-row : (rows : List Row) (n : ℕ) (row : Row) → row_numbered rows n ≡ Some row → row_numbered productions n
    ≡ Some row → row_of rows n ≡ row_of productions n
same-row rows n row a b = ap (λ (o : Option Row). unwrap_or o no_row) (a ∙ sym b)

-- names and marks
some-found : (s : Search) (id : NameId) → found_name s ≡ Some id → s ≡ Found id.index
some-found s id e = grind arith

pub reserved-there : (names : List Entry) (reserve : Option ℕ) (place : ℕ) (scraps : List Scrap)
    (reserved : Option NameId) (id : NameId) → All (λ scrap. IsNamedBelow (length names) scrap.tree) scraps → reserved
    ≡ found_name (search_in reserve (drop place scraps)) → reserved ≡ Some id → id.index < length names
reserved-there names reserve place scraps reserved id all is e = search-named (length names) reserve
    (drop place scraps) id.index (All-drop (λ scrap. IsNamedBelow (length names) scrap.tree) place scraps all)
    (some-found (search_in reserve (drop place scraps)) id (sym is ∙ e))

pub retyped-is : (s : Search) (names : List Entry) → retyped_by (found_name s) names ≡ retyped s names
retyped-is s names = grind arith

cats-retyped : (n : ℕ) (names : List Entry) → categories (with_category n RawInt names)
    ≡ set (categories names) n RawInt
cats-retyped n [] = refl
cats-retyped zero (e ∷ names) = refl
cats-retyped (suc n) (e ∷ names) = ap (λ cs. e.category ∷ cs) (cats-retyped n names)

categories-are : (s : Search) (names : List Entry) → categories (retyped s names) ≡ with_type s (categories names)
categories-are s names = grind (arith, cats-retyped)

length-with : (n : ℕ) (names : List Entry) → length (with_category n RawInt names) ≡ length names
length-with n [] = refl
length-with zero (e ∷ names) = refl
length-with (suc n) (e ∷ names) = ap suc (length-with n names)

pub length-retyped : (s : Search) (names : List Entry) → length (retyped s names) ≡ length names
length-retyped s names = grind (arith, length-with)

marks-found : (s : Search) → map (λ (id : NameId). id.index) (option_to_list (found_name s)) ≡ found_names s
marks-found s = grind arith

-- the state as a whole
pub state-is : (flags : Flags) (row : Row) (place : ℕ) (old : List (List Token)) (line : List LineEntry)
    (marks : MarkList) (names : List Entry) (new : List (List Token)) (after : List LineEntry) (marks' : MarkList)
    (names' : List Entry) (marked : Option NameId) → Applies flags row place old line new after → marks'.names
    ≡ marks.names ++ option_to_list marked → marked ≡ found_name (search_in row.action.underline (drop place
    (scraps_of old line))) → names' ≡ retyped (search_in row.action.reserve (drop place (scraps_of old line))) names
    → state_of new after marks' names' ≡ rewrite flags row place (state_of old line marks names)
state-is flags row place old line marks names new after marks' names' marked a m n e =
    grind (arith, map-append, marks-found, categories-are)

pub sound-after : (flags : Flags) (row : Row) (place : ℕ) (old new : StoredLists) (line after : List LineEntry)
    (names names' : List Entry) → FitsAt flags row (drop place line)
    → row_fits row (drop place (cats_of (scraps_of old.lists line))) ≡ true → IsSoundLine old names line
    → Applies flags row place old.lists line new.lists after → new.building ≡ None → names' ≡ retyped
    (search_in row.action.reserve (drop place (scraps_of old.lists line))) names → IsSoundLine new names' after
sound-after flags row place old new line after names names' f fits sound a idle e =
    let same : length names' ≡ length names = ap length e
    ∙ length-retyped (search_in row.action.reserve (drop place (scraps_of old.lists line))) names in
    let short : place ≤ length (scraps_of old.lists line) = let h : place < length line =
    place-inside flags row line place f in omega (arith, length-scraps old.lists line) in
    let fall : Falls flags row place (record { scraps = scraps_of old.lists line; marks = []; cats = [] }) = falls flags
    row place (record { scraps = scraps_of old.lists line; marks = []; cats = [] }) f.is_sound fits sound.fine short in
    record {
      idle = idle;
      roots = a.roots;
      named = rw (same, a.scraps) (keeps-named (length names) flags row place (scraps_of old.lists line) sound.named);
      modes = rw a.scraps (keeps-modes flags row place (scraps_of old.lists line) sound.modes);
      fine = ap (list_all is_fine) a.scraps ∙ fall.fine;
    }
