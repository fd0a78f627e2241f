-- Reserving in a line: the scrap that a row names, and the scraps to the right.
use Rattle.cw_scraps.proofs.Terms.{◌≡◌, ℕ, zero, suc, ◌+◌, ◌-◌, ◌<◌, ◌≤◌, List, [], ◌∷◌, ◌++◌, length, map, take, drop}
use Rattle.cw_scraps.proofs.Terms.{set, get_or, Option, Some, inl, inr, refl, sym, ap, ◌∙◌, subst, arith}
use Rattle.cw_scraps.proofs.Terms.{get_or-set_same, get_or-set_other, get_or-drop, get_or-take, get_or-map}
use Rattle.cw_scraps.proofs.Terms.{get_or_append_left, get_or-append_right, length-set, length-map, length-drop}
use Rattle.cw_scraps.proofs.Terms.{length-append, length-take-le, ext_get_or, cases_eq, cases_lt, NameId, Tree}
use Rattle.cw_scraps.proofs.Terms.{bare_name, option_map, is_some, true, Scrap, bolded}
use Rattle.cw_scraps.proofs.Terms.{no_scrap, reserved_in, reserved_at, bolded_at, Token, unfolded, IsTied, Reserves}
use Rattle.cw_scraps.proofs.Terms.{LineEntry}
use Rattle.cw_scraps.proofs.Terms.{seen, scraps_of, roots_of, no_entry, AreRoots, IsOutside, Changes, named_by, Turns}
use Rattle.cw_scraps.proofs.Buildings.{root-entry, length-roots}
use Rattle.cw_scraps.proofs.Changings.{changes-trans, changes-more, roots-stay, root-outside, trees-outside}
use Rattle.cw_scraps.proofs.Changings.{reserves-changes, seen-same, tied-same}

pub length-scraps : (lists : List (List Token)) (line : List LineEntry) → length (scraps_of lists line) ≡ length line
length-scraps lists [] = refl
length-scraps lists (e ∷ line) = ap suc (length-scraps lists line)

pub seen-get : (lists : List (List Token)) (line : List LineEntry) (i : ℕ) → i < length line
    → get_or (scraps_of lists line) i no_scrap ≡ seen lists (get_or line i no_entry)
seen-get lists line i h = get_or-map (seen lists) line i no_entry no_scrap h

pub entry-there : (lists : List (List Token)) (line : List LineEntry) (i : ℕ) → AreRoots lists (roots_of line)
    → i < length line → (get_or line i no_entry).list.index < length lists
entry-there lists line i r h = rw (← root-entry line i) (r.there i (omega (arith, length-roots line)))

-- Two entries of a line have trees of their own: where one changes the other stays.
pub seen-other : (old new : List (List Token)) (line : List LineEntry) (i m : ℕ) → IsTied old
    → AreRoots old (roots_of line) → i < length line → m < length line → (m ≡ i → ⊥) → Changes old new
    ((get_or line i no_entry).list.index ∷ []) → seen new (get_or line m no_entry) ≡ seen old (get_or line m no_entry)
seen-other old new line i m tied roots hi hm apart ch =
    let out : IsOutside old (get_or (roots_of line) i 0 ∷ []) (get_or (roots_of line) m 0) = root-outside old
    (roots_of line) i m tied roots (omega (arith, length-roots line)) (omega (arith, length-roots line)) apart in
    let ch2 : Changes old new (get_or (roots_of line) i 0 ∷ []) = subst (λ n. Changes old new (n ∷ []))
    (sym (root-entry line i)) ch in
    seen-same old new (get_or line m no_entry) (subst (λ n. unfolded new n ≡ unfolded old n) (root-entry line m)
    (trees-outside old new (get_or (roots_of line) i 0 ∷ []) (get_or (roots_of line) m 0) tied ch2 out))

pub changes-line : (old new : List (List Token)) (line : List LineEntry) (i : ℕ) → i < length line
    → Changes old new ((get_or line i no_entry).list.index ∷ []) → Changes old new (roots_of line)
changes-line old new line i h ch = changes-more old new (roots_of line) i (omega (arith, length-roots line))
    (subst (λ n. Changes old new (n ∷ [])) (sym (root-entry line i)) ch)

set-behind : (xs : List Scrap) (place k : ℕ) (x : Scrap) → place + k < length xs → set xs (place + k) x
    ≡ take place xs ++ set (drop place xs) k x
set-behind xs zero k x h = let z : zero + k ≡ k = omega arith in ap (λ n. set xs n x) z
set-behind [] (suc place) k x h = absurd (omega arith)
set-behind (y ∷ xs) (suc place) k x h = grind (arith, set-behind xs place k x (omega arith))

-- the scrap that a row names has its first identifier reserved
pub reserve-scraps : (old new : List (List Token)) (line : List LineEntry) (place k : ℕ) → IsTied old → AreRoots old
    (roots_of line) → place + k < length line → Reserves old new (get_or line (place + k) no_entry).list.index
    → scraps_of new line ≡ take place (scraps_of old line) ++ reserved_at (Some k) (drop place (scraps_of old line))
reserve-scraps old new line place k tied roots h r = ext_get_or no_scrap (scraps_of new line)
    (set (scraps_of old line) (place + k) (reserved_in (get_or (scraps_of old line) (place + k) no_scrap))) len each
    ∙ (set-behind (scraps_of old line) place k (reserved_in (get_or (scraps_of old line) (place + k) no_scrap))
    (omega (arith, length-scraps old line)) ∙ ap (λ s. take place (scraps_of old line) ++ set
    (drop place (scraps_of old line)) k (reserved_in s)) (sym (get_or-drop place (scraps_of old line) k no_scrap)))
  where
    len : length (scraps_of new line)
        ≡ length (set (scraps_of old line) (place + k) (reserved_in (get_or (scraps_of old line) (place + k) no_scrap)))
    len = omega (
      arith,
      length-scraps old line,
      length-scraps new line,
      length-set (scraps_of old line) (place + k) (reserved_in (get_or (scraps_of old line) (place + k) no_scrap)),
    )

    here : get_or (scraps_of new line) (place + k) no_scrap
        ≡ reserved_in (get_or (scraps_of old line) (place + k) no_scrap)
    here = seen-get new line (place + k) h ∙ (ap (λ t. record {
      cat = (get_or line (place + k) no_entry).cat;
      tree = t;
      left = (get_or line (place + k) no_entry).left;
      right = (get_or line (place + k) no_entry).right;
    }) r.tree ∙ ap reserved_in (sym (seen-get old line (place + k) h)))

    each : (i : ℕ) → i < length (scraps_of new line) → get_or (scraps_of new line) i no_scrap ≡ get_or (set
        (scraps_of old line) (place + k) (reserved_in (get_or (scraps_of old line) (place + k) no_scrap))) i no_scrap
    each i lt =
        let hi : i < length line = omega (arith, length-scraps new line) in
        elim (cases_eq i (place + k)) [
          | inl e ↦ ap (λ n. get_or (scraps_of new line) n no_scrap) e ∙ (here ∙ (sym (get_or-set_same
              (scraps_of old line) (place + k) (reserved_in (get_or (scraps_of old line) (place + k) no_scrap)) no_scrap
              (omega (arith, length-scraps old line))) ∙ ap (λ n. get_or (set (scraps_of old line) (place + k)
              (reserved_in (get_or (scraps_of old line) (place + k) no_scrap))) n no_scrap) (sym e)))
          | inr ne ↦ seen-get new line i hi ∙ (seen-other old new line (place + k) i tied roots h hi ne
              (reserves-changes old new (get_or line (place + k) no_entry).list.index r)
              ∙ (sym (seen-get old line i hi) ∙ sym (get_or-set_other (scraps_of old line) (place + k) i
              (reserved_in (get_or (scraps_of old line) (place + k) no_scrap)) no_scrap ne)))
        ]

-- the same for a scrap that is exactly an identifier
bolded-is : (s : Scrap) (tree : Tree) (o : Option NameId) → s.tree ≡ tree
    → o ≡ option_map (λ name. record { index = name }) (bare_name tree) → is_some o ≡ true → bolded s ≡ reserved_in s
bolded-is s tree o same is some = grind arith

pub bold-scraps : (old new : List (List Token)) (line : List LineEntry) (place k : ℕ) (o : Option NameId) → IsTied old
    → AreRoots old (roots_of line) → place + k < length line → o ≡ option_map (λ name. record { index = name })
    (bare_name (unfolded old (get_or line (place + k) no_entry).list.index)) → is_some o ≡ true
    → Reserves old new (get_or line (place + k) no_entry).list.index
    → scraps_of new line ≡ take place (scraps_of old line) ++ bolded_at (Some k) (drop place (scraps_of old line))
bold-scraps old new line place k o tied roots h is some r =
    let at : get_or (drop place (scraps_of old line)) k no_scrap ≡ seen old (get_or line (place + k) no_entry) =
    get_or-drop place (scraps_of old line) k no_scrap ∙ seen-get old line (place + k) h in
    reserve-scraps old new line place k tied roots h r ∙ ap (λ s. take place (scraps_of old line) ++ set
    (drop place (scraps_of old line)) k s) (sym (bolded-is (get_or (drop place (scraps_of old line)) k no_scrap)
    (unfolded old (get_or line (place + k) no_entry).list.index) o (ap (λ (s : Scrap). s.tree) at) is some))

-- One scrap more to the right is turned.
module _ (name : Option NameId) (old_lists : List (List Token)) (old : List LineEntry) (start i : ℕ)
    (lists : List (List Token)) (line : List LineEntry) (t : Turns name old_lists old start i lists line)
    (tied : IsTied old_lists) (roots : AreRoots old_lists (roots_of old)) where
  pub turned-length : length line ≡ length old
  turned-length = omega (arith, length-roots line, length-roots old, ap length t.roots)

  pub turned-tied : IsTied lists
  turned-tied = tied-same old_lists lists t.changes.same_refs tied

  pub turned-roots : AreRoots lists (roots_of line)
  turned-roots = rw t.roots (roots-stay old_lists lists (roots_of old) (roots_of old) t.changes roots)

  pub turn-there : i < length old → (get_or line i no_entry).list.index < length lists
  turn-there h = entry-there lists line i turned-roots (omega (arith, turned-length))

  pub turn-inside : i < length old → i < length line
  turn-inside h = omega (arith, turned-length)

  pub turns-more : start ≤ i → i < length old → (new : List (List Token)) (entry : LineEntry) → seen new entry
      ≡ named_by name (seen lists (get_or line i no_entry)) → entry.list ≡ (get_or line i no_entry).list → Changes lists
      new ((get_or line i no_entry).list.index ∷ []) → Turns name old_lists old start (i + 1) new (set line i entry)
  turns-more low h new entry is same ch = record {
    done = λ m a b. elim (cases_eq m i) [
      | inl e ↦ ap (λ n. seen new (get_or (set line i entry) n no_entry)) e
          ∙ (ap (seen new) (get_or-set_same line i entry no_entry in_line) ∙ (is ∙ (ap (named_by name)
          (t.same i h (inr (omega arith))) ∙ ap (λ n. named_by name (seen old_lists (get_or old n no_entry))) (sym e))))
      | inr ne ↦ other m (omega arith) ne ∙ t.done m a (omega arith)
    ];
    same = λ m hm o. elim (cases_eq m i) [
      | inl e ↦ absurd (elim o [ inl a ↦ omega arith | inr b ↦ omega arith ])
      | inr ne ↦ other m hm ne ∙ t.same m hm (elim o [ inl a ↦ inl a | inr b ↦ inr (omega arith) ])
    ];
    roots = roots-set ∙ t.roots;
    changes = changes-trans old_lists lists new (roots_of old) t.changes
        (subst (λ rs. Changes lists new rs) t.roots (changes-line lists new line i in_line ch));
  }
    where
      in_line : i < length line
      in_line = omega (arith, turned-length)

      other : (m : ℕ) → m < length old → (m ≡ i → ⊥) → seen new (get_or (set line i entry) m no_entry)
          ≡ seen lists (get_or line m no_entry)
      other m hm ne = ap (seen new) (get_or-set_other line i m entry no_entry ne)
          ∙ seen-other lists new line i m turned-tied turned-roots in_line (omega (arith, turned-length)) ne ch

      roots-set : roots_of (set line i entry) ≡ roots_of line
      roots-set = go line i (ap (λ l. l.index) same)
        where
          go : (es : List LineEntry) (n : ℕ) → entry.list.index ≡ (get_or es n no_entry).list.index
              → roots_of (set es n entry) ≡ roots_of es
          go [] n e = refl
          go (x ∷ es) zero e = ap (λ r. r ∷ roots_of es) e
          go (x ∷ es) (suc n) e = ap (λ rs. x.list.index ∷ rs) (go es n e)

pub turns-end : (name : Option NameId) (old_lists : List (List Token)) (old : List LineEntry) (start i : ℕ)
    (lists : List (List Token)) (line : List LineEntry) → Turns name old_lists old start i lists line
    → start ≤ length old → length old ≤ i → scraps_of lists line ≡ take start (scraps_of old_lists old)
    ++ map (named_by name) (drop start (scraps_of old_lists old))
turns-end name old_lists old start i lists line t low high = ext_get_or no_scrap (scraps_of lists line)
    (take start (scraps_of old_lists old) ++ map (named_by name) (drop start (scraps_of old_lists old))) len each
  where
    same-length : length line ≡ length old
    same-length = omega (arith, length-roots line, length-roots old, ap length t.roots)

    front : length (take start (scraps_of old_lists old)) ≡ start
    front = length-take-le start (scraps_of old_lists old) (omega (arith, length-scraps old_lists old))

    len : length (scraps_of lists line) ≡ length (take start (scraps_of old_lists old)
        ++ map (named_by name) (drop start (scraps_of old_lists old)))
    len = omega (
      arith,
      length-scraps lists line,
      same-length,
      length-append (take start (scraps_of old_lists old)) (map (named_by name) (drop start (scraps_of old_lists old))),
      front,
      length-map (drop start (scraps_of old_lists old)) (named_by name),
      length-drop start (scraps_of old_lists old),
      length-scraps old_lists old,
    )

    each : (m : ℕ) → m < length (scraps_of lists line) → get_or (scraps_of lists line) m no_scrap ≡ get_or
        (take start (scraps_of old_lists old) ++ map (named_by name) (drop start (scraps_of old_lists old))) m no_scrap
    each m h =
        let hm : m < length line = omega (arith, length-scraps lists line) in
        let ho : m < length old = omega (arith, same-length) in
        elim (cases_lt m start) [
          | inl lt ↦
              let in_front : m < length (take start (scraps_of old_lists old)) = omega (arith, front) in
              seen-get lists line m hm ∙ (t.same m ho (inl lt)
              ∙ (sym (seen-get old_lists old m ho)
              ∙ (sym (get_or-take start (scraps_of old_lists old) m no_scrap lt)
              ∙ sym (get_or_append_left (take start (scraps_of old_lists old))
              (map (named_by name) (drop start (scraps_of old_lists old))) no_scrap m in_front))))
          | inr ge ↦
              let back : m - start < length (drop start (scraps_of old_lists old)) =
              omega (arith, length-drop start (scraps_of old_lists old), length-scraps old_lists old) in
              let at : start + (m - start) ≡ m = omega arith in
              seen-get lists line m hm ∙ (t.done m ge (omega arith)
              ∙ (ap (named_by name) (sym (seen-get old_lists old m ho)
              ∙ (ap (λ n. get_or (scraps_of old_lists old) n no_scrap) (sym at)
              ∙ sym (get_or-drop start (scraps_of old_lists old) (m - start) no_scrap)))
              ∙ (sym (get_or-map (named_by name) (drop start (scraps_of old_lists old)) (m - start) no_scrap no_scrap
              back)
              ∙ sym (get_or-append_right (take start (scraps_of old_lists old))
              (map (named_by name) (drop start (scraps_of old_lists old))) start m no_scrap front ge))))
        ]
