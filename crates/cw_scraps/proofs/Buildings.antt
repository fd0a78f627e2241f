-- One piece more goes into the list that is being built.
use Rattle.cw_scraps.proofs.Terms.{◌≡◌, ℕ, suc, ◌+◌, ◌-◌, ◌*◌, ◌<◌, ◌≤◌, List, [], ◌∷◌, ◌++◌, length, map, drop, get_or}
use Rattle.cw_scraps.proofs.Terms.{Option, Some, None, refl, sym, ap, ◌∙◌, subst, option_map, arith, append_assoc}
use Rattle.cw_scraps.proofs.Terms.{append-nil, length-append, length_push, MathMode, Math, Maybe, after, first_mode}
use Rattle.cw_scraps.proofs.Terms.{Piece, scraps_in, numbers_from, Token, StoredLists, MayBePushed, all_lists, shape}
use Rattle.cw_scraps.proofs.Terms.{ref_of, IsUnreferred, refers-more, pushed-ref, LineEntry, Insert, no_entry, roots_of}
use Rattle.cw_scraps.proofs.Terms.{AreRoots, insert_in, inserting, IsPieceWithin, toggle, tokens_of, left_of}
use Rattle.cw_scraps.proofs.Terms.{right_after, IsRun, Joins}
use Rattle.cw_scraps.specs.model.Inserting.{toggled}
use Rattle.cw_tokens.specs.declared.token.Token.TheVariants.{«List» as ListOf}
use Rattle.cw_table.specs.declared.types.Piece.TheVariants as piece

pub root-entry : (es : List LineEntry) (k : ℕ) → get_or (roots_of es) k 0 ≡ (get_or es k no_entry).list.index
root-entry (e ∷ es) (suc k) = root-entry es k
root-entry _ _ = refl

pub length-roots : (es : List LineEntry) → length (roots_of es) ≡ length es
length-roots [] = refl
length-roots (e ∷ es) = ap suc (length-roots es)

-- a list that is begun refers to nothing
pub unreferred-begun : (lists : List (List Token)) (x : ℕ) → IsUnreferred lists x → IsUnreferred (lists ++ [] ∷ []) x
unreferred-begun lists x free l p e = grind (arith, refers-more)

-- a token that refers to another list, or to none
pub unreferred-pushed : (lists : List (List Token)) (ts : List Token) (t : Token) (x : ℕ) → (ref_of (shape t) ≡ Some x
    → ⊥) → IsUnreferred (lists ++ ts ∷ []) x → IsUnreferred (lists ++ (ts ++ t ∷ []) ∷ []) x
unreferred-pushed lists ts t x other free l p e = grind (arith, pushed-ref)

pub unreferred-toggled : (lists : List (List Token)) (ts : List Token) (mode left : MathMode) (x : ℕ)
    → IsUnreferred (lists ++ ts ∷ []) x → IsUnreferred (lists ++ (ts ++ toggle mode left) ∷ []) x
unreferred-toggled lists ts mode left x free = grind (arith, unreferred-pushed, append-nil)

pub toggle-short : (mode left : MathMode) → length (toggle mode left) ≤ 1
toggle-short mode left = grind arith

-- Where nothing has a mode yet, none is known so far.
begun-next : (left mode l r : MathMode) → (left ≡ Maybe → mode ≡ Maybe) → first_mode left l ≡ Maybe → after mode l r
    ≡ Maybe
begun-next left mode l r begun e = grind arith

toggle-first : (mode left : MathMode) → mode ≡ Maybe → toggle mode left ≡ []
toggle-first mode left e = ap (λ m. toggle m left) e

math-token : (token : Token) (l r : MathMode) → (insert_in Math token l r).token ≡ token
math-token token l r = grind arith

-- a piece is a scrap of the line or a sign
pub data Kind (entries : List LineEntry) (p : Piece) : Type 0 where
  scrap : (k : ℕ) → ((rest : List Piece) → scraps_in (p ∷ rest) ≡ k ∷ scraps_in rest)
      → ref_of (shape (inserting entries p).token) ≡ Some (get_or entries k no_entry).list.index
      → ((place count : ℕ) → place + k < count → IsPieceWithin place count p) → Kind entries p
  sign : ((rest : List Piece) → scraps_in (p ∷ rest) ≡ scraps_in rest) → ref_of (shape (inserting entries p).token)
      ≡ None → ((place count : ℕ) → IsPieceWithin place count p) → Kind entries p

pub kind : (entries : List LineEntry) (p : Piece) → Kind entries p
kind entries (piece.Scrap k) = scrap k (λ rest. refl) refl (λ place count h. h)
kind entries (piece.MathScrap k) = scrap k (λ rest. refl) (ap (λ t. ref_of (shape t)) (math-token (ListOf (get_or
    entries k no_entry).list) (get_or entries k no_entry).left (get_or entries k no_entry).right)) (λ place count h. h)
kind entries _ = sign (λ rest. refl) refl (λ place count. tt)

-- the run goes on behind its first scrap
pub record Goes (k first more : ℕ) (rest : List ℕ) : Type 0 where
  pub fewer : ℕ
  pub more_is : more ≡ suc fewer
  pub first_is : k ≡ first
  pub run : rest ≡ numbers_from (suc first) fewer

pub goes : (k first more : ℕ) (rest : List ℕ) → k ∷ rest ≡ numbers_from first more → Goes k first more rest
goes k first more rest e = grind arith

pub joins-start : (lists : List (List Token)) (entries : List LineEntry) (pieces : List Piece) (spare : ℕ)
    (store : StoredLists) → store.lists ≡ lists → store.building ≡ Some [] → store.spare + 1 ≡ spare → IsRun pieces
    (length entries) → AreRoots lists (roots_of entries) → Joins lists entries pieces spare 0 Maybe Maybe store
joins-start lists entries pieces spare store same is spent run roots = record {
  done = [];
  is = is;
  same = same;
  spent = omega arith;
  few = omega arith;
  start = λ e. refl;
  begun = λ e. refl;
  tokens = refl;
  left_is = refl;
  right_is = refl;
  rest = run;
  fresh = λ k low high. unreferred-begun lists (get_or (roots_of entries) k 0) (roots.free k
      (let h : run.first + run.more ≤ length entries = run.within in omega (arith, length-roots entries)));
}

-- What one turn asks, and what it leaves.
pub record JoinsMore (lists : List (List Token)) (entries : List LineEntry) (pieces : List Piece) (spare i : ℕ)
    (left mode : MathMode) (p : Piece) (place count : ℕ) (toggled pushed : StoredLists) : Type 0 where
  pub within : IsPieceWithin place count p
  pub may : MayBePushed toggled (inserting entries p).token
  pub next : Joins lists entries pieces spare (i + 1) (first_mode left (inserting entries p).left)
      (after mode (inserting entries p).left (inserting entries p).right) pushed

module _ (lists : List (List Token)) (entries : List LineEntry) (pieces : List Piece) (spare i : ℕ)
    (left mode : MathMode) (store : StoredLists) (j : Joins lists entries pieces spare i left mode store) (p : Piece)
    (at : drop i pieces ≡ p ∷ drop (i + 1) pieces) (roots : AreRoots lists (roots_of entries)) (place count : ℕ)
    (long : count ≡ place + length entries) (toggled pushed : StoredLists)
    (t_building : toggled.building ≡ option_map (λ tokens. tokens ++ toggle mode (inserting entries p).left)
    store.building) (t_lists : toggled.lists ≡ store.lists) (t_spare : toggled.spare
    + length (toggle mode (inserting entries p).left) ≡ store.spare)
    (p_building : pushed.building ≡ option_map (λ tokens. tokens ++ (inserting entries p).token ∷ []) toggled.building)
    (p_lists : pushed.lists ≡ toggled.lists) (p_spare : pushed.spare + 1 ≡ toggled.spare) where
  abbrev ins : Insert
  ins = inserting entries p

  abbrev with_toggle : List Token
  with_toggle = j.done ++ toggle mode ins.left

  toggled-is : toggled.building ≡ Some with_toggle
  toggled-is = t_building ∙ ap (λ o. option_map (λ tokens. tokens ++ toggle mode ins.left) o) j.is

  pushed-is : pushed.building ≡ Some (with_toggle ++ ins.token ∷ [])
  pushed-is = p_building ∙ ap (λ o. option_map (λ tokens. tokens ++ ins.token ∷ []) o) toggled-is

  all-lists : (x : ℕ) → IsUnreferred (lists ++ with_toggle ∷ []) x → IsUnreferred (all_lists toggled) x
  all-lists x free = rw (toggled-is, t_lists, j.same) free

  -- what doesn't depend on the kind of the piece
  tokens-next : (with_toggle ++ ins.token ∷ []) ++ tokens_of (after mode ins.left ins.right)
      (map (inserting entries) (drop (i + 1) pieces)) ≡ tokens_of Maybe (map (inserting entries) pieces)
  tokens-next = grind (arith, append_assoc)

  first-first : (a b d : MathMode) → first_mode (first_mode a b) d ≡ first_mode a (first_mode b d)
  first-first a b d = grind arith

  left-next : first_mode (first_mode left ins.left) (left_of (map (inserting entries) (drop (i + 1) pieces)))
      ≡ left_of (map (inserting entries) pieces)
  left-next = grind (arith, first-first)

  right-next : right_after (after mode ins.left ins.right) (map (inserting entries) (drop (i + 1) pieces))
      ≡ right_after Maybe (map (inserting entries) pieces)
  right-next = ap (λ ps. right_after mode (map (inserting entries) ps)) (sym at) ∙ j.right_is

  few-next : (n : ℕ) → i ≡ n → length (with_toggle ++ ins.token ∷ []) ≤ 2 * (i + 1) - 1
  few-next n e = grind (arith, toggle-first, length_push, length-append, toggle-short)

  spent-next : pushed.spare + length (with_toggle ++ ins.token ∷ []) + 1 ≡ spare
  spent-next = grind (arith, length_push, length-append)

  next-with : (run : IsRun (drop (i + 1) pieces) (length entries)) → ((k : ℕ) → run.first ≤ k → k < run.first + run.more
      → IsUnreferred (lists ++ (with_toggle ++ ins.token ∷ []) ∷ []) (get_or (roots_of entries) k 0))
      → Joins lists entries pieces spare (i + 1) (first_mode left ins.left) (after mode ins.left ins.right) pushed
  next-with run free = record {
    done = with_toggle ++ ins.token ∷ [];
    is = pushed-is;
    same = p_lists ∙ (t_lists ∙ j.same);
    spent = spent-next;
    few = few-next i refl;
    start = λ e. absurd (omega arith);
    begun = begun-next left mode ins.left ins.right j.begun;
    tokens = tokens-next;
    left_is = left-next;
    right_is = right-next;
    rest = run;
    fresh = free;
  }

  still-free : (k : ℕ) → j.rest.first ≤ k → k < j.rest.first + j.rest.more
      → IsUnreferred (lists ++ with_toggle ∷ []) (get_or (roots_of entries) k 0)
  still-free k low high = grind (arith, unreferred-toggled)

  pub joins-more : JoinsMore lists entries pieces spare i left mode p place count toggled pushed
  joins-more = go (kind entries p)
    where
      some-is : (a b : ℕ) → Some a ≡ Some b → a ≡ b
      some-is a b k = cc

      none-some : (a : ℕ) → ◌≡◌ {A = Option ℕ} None (Some a) → ⊥
      none-some a k = cc

      go : Kind entries p → JoinsMore lists entries pieces spare i left mode p place count toggled pushed
      go (sign skip ref within) =
          let run : scraps_in (drop (i + 1) pieces) ≡ numbers_from j.rest.first j.rest.more =
          sym (ap scraps_in at ∙ skip (drop (i + 1) pieces)) ∙ j.rest.run in
          record {
            within = within place count;
            may = λ x e. absurd (none-some x (sym ref ∙ e));
            next = next-with (record { first = j.rest.first; more = j.rest.more; run = run; within = j.rest.within })
                (λ k low high. unreferred-pushed lists with_toggle ins.token (get_or (roots_of entries) k 0)
                (λ e. none-some (get_or (roots_of entries) k 0) (sym ref ∙ e)) (still-free k low high));
          }
      go (scrap k skip ref within) =
          let g : Goes k j.rest.first j.rest.more (scraps_in (drop (i + 1) pieces)) = goes k j.rest.first j.rest.more
          (scraps_in (drop (i + 1) pieces)) (sym (ap scraps_in at ∙ skip (drop (i + 1) pieces)) ∙ j.rest.run) in
          let first : k ≡ j.rest.first = g.first_is in
          let more : j.rest.more ≡ suc g.fewer = g.more_is in
          let all : j.rest.first + j.rest.more ≤ length entries = j.rest.within in
          let inside : k < length entries = omega arith in
          let root : get_or (roots_of entries) k 0 ≡ (get_or entries k no_entry).list.index = root-entry entries k in
          let in_roots : k < length (roots_of entries) = omega (arith, length-roots entries) in
          record {
            within = within place count (omega arith);
            may = λ x e.
                let same : (get_or entries k no_entry).list.index ≡ x =
                some-is (get_or entries k no_entry).list.index x (sym ref ∙ e) in
                let is : get_or (roots_of entries) k 0 ≡ x = root ∙ same in (
                  subst (λ y. y < length toggled.lists) is (rw (t_lists, j.same) (roots.there k in_roots)),
                  all-lists x (subst (λ y. IsUnreferred (lists ++ with_toggle ∷ []) y) is
                      (still-free k (omega arith) (omega arith))),
                );
            next = next-with (record { first = suc j.rest.first; more = g.fewer; run = g.run; within = omega arith })
                (λ m low high.
                let in_m : m < length (roots_of entries) = omega (arith, length-roots entries) in
                unreferred-pushed lists with_toggle ins.token (get_or (roots_of entries) m 0)
                (λ e.
                let same : (get_or entries k no_entry).list.index ≡ get_or (roots_of entries) m 0 =
                some-is (get_or entries k no_entry).list.index (get_or (roots_of entries) m 0) (sym ref ∙ e) in
                let twice : k ≡ m = roots.apart k m in_roots in_m (root ∙ same) in
                omega arith)
                (still-free m (omega arith) (omega arith)));
          }

pub joins-put : (lists : List (List Token)) (entries : List LineEntry) (pieces : List Piece) (spare i : ℕ)
    (left mode : MathMode) (store : StoredLists) → Joins lists entries pieces spare i left mode store → (p : Piece)
    → drop i pieces ≡ p ∷ drop (i + 1) pieces → AreRoots lists (roots_of entries) → 2 ≤ store.spare
    → MayBePushed (toggled mode (inserting entries p).left store) (inserting entries p).token
joins-put lists entries pieces spare i left mode store j p at roots room =
    let short : length (toggle mode (inserting entries p).left) ≤ 1 = toggle-short mode (inserting entries p).left in
    let before : StoredLists = toggled mode (inserting entries p).left store in
    let pushed : StoredLists = record {
      lists = before.lists;
      building = option_map (λ tokens. tokens ++ (inserting entries p).token ∷ []) before.building;
      spare = before.spare - 1;
    } in
    (joins-more lists entries pieces spare i left mode store j p at roots 0 (0 + length entries) refl before pushed refl
    refl (omega arith) refl refl (omega arith)).may

pub joins-next : (lists : List (List Token)) (entries : List LineEntry) (pieces : List Piece) (spare i : ℕ)
    (left mode : MathMode) (store : StoredLists) → Joins lists entries pieces spare i left mode store → (p : Piece)
    → drop i pieces ≡ p ∷ drop (i + 1) pieces → AreRoots lists (roots_of entries) → (new : StoredLists) → new.building
    ≡ option_map (λ tokens. tokens ++ (inserting entries p).token ∷ []) (toggled mode (inserting entries p).left
    store).building → new.lists ≡ store.lists → new.spare + 1 + length (toggle mode (inserting entries p).left)
    ≡ store.spare → Joins lists entries pieces spare (i + 1) (first_mode left (inserting entries p).left)
    (after mode (inserting entries p).left (inserting entries p).right) new
joins-next lists entries pieces spare i left mode store j p at roots new nb nl ns =
    (joins-more lists entries pieces spare i left mode store j p at roots 0 (0 + length entries) refl
    (toggled mode (inserting entries p).left store) new refl refl (omega arith) nb nl (omega arith)).next

pub joins-within : (lists : List (List Token)) (entries : List LineEntry) (pieces : List Piece) (spare i : ℕ)
    (left mode : MathMode) (store : StoredLists) → Joins lists entries pieces spare i left mode store → (p : Piece)
    → drop i pieces ≡ p ∷ drop (i + 1) pieces → AreRoots lists (roots_of entries) → (place count : ℕ)
    → count ≡ place + length entries → 2 ≤ store.spare → IsPieceWithin place count p
joins-within lists entries pieces spare i left mode store j p at roots place count long room =
    grind (arith, toggle-short, option_map, joins-more)
