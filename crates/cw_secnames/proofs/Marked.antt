-- The positions that are found by marks hold those of all names near a text.
use Rattle.std.proofs.Common.{nat_lt, ◌≡◌, ℕ, zero, suc, ◌+◌, ◌<◌, ◌≤◌, ◌&&◌, ◌||◌, ◌==◌, ◌⊎◌, Bool, true, nat_eq, List}
use Rattle.std.proofs.Common.{[], ◌∷◌, ◌++◌, length, take, get_or, refl, ap, if◌then◌else◌, ◌∙◌, sym, subst, arith, min}
use Rattle.std.proofs.Common.{length-take, take_all, take-take}
use Rattle.std.proofs.{lemmas.Bool.ltb-true, lemmas.Cmp.nat_list_eq_equiv, lemmas.List.Folds.list_any-append}
use Rattle.std.specs.Cmp.Lexicographic.{same_text, pointwise}
use Rattle.cw_base.proofs.TestLaws.{one-left, one-right}
use Rattle.cw_secnames.specs.declared.{kinds.SecKind.SecKind, marks.Marks.Marks}
use Rattle.cw_secnames.specs.Kept.{is_beginning_of}
use Rattle.cw_secnames.specs.model.Marks.{first_mark, next_mark, mark_from, mark_of, is_kept_length, last_kept, Has}
use Rattle.cw_secnames.specs.model.Marks.{HasAll}
use Rattle.cw_secnames.specs.Marks.{is_one_of}
use Rattle.cw_secnames.specs.model.Marks.{positions_at, wholes_at, IsMarked, KeepsMarks, IsNear}

-- ## What tables have under a mark

pub both : (a b : Bool) → (a && b) ≡ true → (a ≡ true) × (b ≡ true)
both a b h = grind arith

pub and-yes : (a b : Bool) → a ≡ true → b ≡ true → (a && b) ≡ true
and-yes a b h k = grind arith

pub or-yes : (a b : Bool) → (a || b) ≡ true → (a ≡ true) ⊎ (b ≡ true)
or-yes a b h = grind arith

pub in-left : (k : ℕ) (xs ys : List ℕ) → is_one_of k xs ≡ true → is_one_of k (xs ++ ys) ≡ true
in-left k xs ys h = list_any-append (λ other. other == k) xs ys ∙ one-left (is_one_of k xs) (is_one_of k ys) h

pub in-right : (k : ℕ) (xs ys : List ℕ) → is_one_of k ys ≡ true → is_one_of k (xs ++ ys) ≡ true
in-right k xs ys h = list_any-append (λ other. other == k) xs ys ∙ one-right (is_one_of k xs) (is_one_of k ys) h

-- ## A byte more

pub mark-more : (mark : ℕ) (text : List ℕ) (k d : ℕ) → k < length text
    → mark_from mark (take (k + 1) text) ≡ next_mark (mark_from mark (take k text)) (get_or text k d)
mark-more mark [] k d h = absurd (omega arith)
mark-more mark (byte ∷ text) zero d h = refl
mark-more mark (byte ∷ text) (suc k) d h =
    let one : suc k + 1 ≡ suc (k + 1) = omega arith in
    ap (λ n. mark_from mark (take n (byte ∷ text))) one ∙ mark-more (next_mark mark byte) text k d (omega arith)

-- ## What is found so far

pub record Found (marks : Marks) (kind : SecKind) (text : List ℕ) (count mark start : ℕ) (near : List ℕ) : Type 0 where
  pub mark_is : mark ≡ mark_of kind (take count text)
  pub at : ℕ
  pub at_most : at ≤ count
  pub within : count ≤ length text
  pub kept : is_kept_length at ≡ true
  pub start_is : start ≡ mark_of kind (take at text)
  pub shorter : (before k : ℕ) → before < count → IsMarked marks kind (take before text) k → is_one_of k near ≡ true

pub found-first : (marks : Marks) (kind : SecKind) (text : List ℕ) (mark start : ℕ) (near : List ℕ)
    → mark ≡ first_mark kind → start ≡ first_mark kind → Found marks kind text 0 mark start near
unfolding is_kept_length
found-first marks kind text mark start near is same = grind arith

below-or : (a b : ℕ) → a < b + 1 → (a < b) ⊎ (a ≡ b)
below-or a b h = grind arith

-- a text with so many bytes is found under its mark
found-here : (short : Bool) (marks : Marks) (kind : SecKind) (text : List ℕ) (count k mark : ℕ) → nat_lt count
    marks.shortest ≡ short → mark ≡ mark_of kind (take count text) → IsMarked marks kind (take count text) k
    → is_one_of k (if short then [] else positions_at mark marks.wholes) ≡ true
found-here short marks kind text count k mark below is m = grind (arith, ltb-true, length-take)

shorter-more : (marks : Marks) (kind : SecKind) (text : List ℕ) (count mark : ℕ) (near : List ℕ)
    → mark ≡ mark_of kind (take count text) → ((before k : ℕ) → before < count → IsMarked marks kind (take before text)
    k → is_one_of k near ≡ true) → (before k : ℕ) → before < count + 1 → IsMarked marks kind (take before text) k
    → is_one_of k (near ++ wholes_at marks count mark) ≡ true
shorter-more marks kind text count mark near is f before k h m = grind (arith, below-or, in-left, in-right, found-here)

pub found-more : (marks : Marks) (kind : SecKind) (text : List ℕ) (count mark start d : ℕ) (near : List ℕ)
    → Found marks kind text count mark start near → count < length text → Found marks kind text (count + 1)
    (next_mark mark (get_or text count d)) start (near ++ wholes_at marks count mark)
found-more marks kind text count mark start d near f h = grind (arith, mark-more, shorter-more)

kept-by : (b : Bool) (marks : Marks) (kind : SecKind) (text : List ℕ) (count mark start : ℕ) (near : List ℕ)
    → is_kept_length count ≡ b → Found marks kind text count mark start near
    → Found marks kind text count mark (if b then mark else start) near
kept-by b marks kind text count mark start near kept f = grind arith

-- a byte more, behind which the mark is kept or not
pub found-next : (marks : Marks) (kind : SecKind) (text : List ℕ) (count mark start new next d : ℕ) (near more : List ℕ)
    → Found marks kind text count mark start near → count < length text → new ≡ next_mark mark (get_or text count d)
    → next ≡ last_kept (count + 1) new start → more ≡ near ++ wholes_at marks count mark
    → Found marks kind text (count + 1) new next more
found-next marks kind text count mark start new next d near more f h is last all = grind (arith, kept-by, found-more)

-- ## What is found in the end

begins-take : (first text : List ℕ) → is_beginning_of first text ≡ true → first ≡ take (length first) text
begins-take first text h = same_text first (take (length first) text) (sym h)

not-longer : (first text : List ℕ) → is_beginning_of first text ≡ true → length first ≤ length text
not-longer first text h = grind (arith, begins-take, length-take)

longer : (marks : Marks) (kind : SecKind) (text other : List ℕ) (k at : ℕ) → IsMarked marks kind other k
    → is_beginning_of text other ≡ true → at ≤ length text → is_kept_length at ≡ true
    → is_one_of k (positions_at (mark_of kind (take at text)) marks.starts) ≡ true
longer marks kind text other k at m h most kept = grind (arith, not-longer, begins-take, take-take)

decide : (a b : ℕ) → a ≤ b → (a < b) ⊎ (a ≡ b)
decide a b h = grind arith

pub begins-self : (text other : List ℕ) → other ≡ text → is_beginning_of text other ≡ true
begins-self text other h = subst (λ t. is_beginning_of text t ≡ true) (sym h)
    (ap (pointwise nat_eq text) (take_all (length text) text (omega arith)) ∙ nat_list_eq_equiv.refl text)

found-all : (marks : Marks) (kind : SecKind) (text other : List ℕ) (mark start k : ℕ) (near : List ℕ)
    → Found marks kind text (length text) mark start near → IsMarked marks kind other k → IsNear other text
    → is_one_of k (near ++ positions_at start marks.starts) ≡ true
found-all marks kind text other mark start k near f m h =
    grind (arith, in-right, longer, or-yes, decide, not-longer, in-left, begins-take, begins-self, take_all)

pub found-end : (marks : Marks) (kind : SecKind) (text other : List ℕ) (count mark start k : ℕ) (near : List ℕ)
    → Found marks kind text count mark start near → length text ≤ count → IsMarked marks kind other k
    → IsNear other text → is_one_of k (near ++ positions_at start marks.starts) ≡ true
found-end marks kind text other count mark start k near f end m h =
    let within : count ≤ length text = f.within in
    let same : count ≡ length text = omega arith in
    found-all marks kind text other mark start k near (subst (λ n. Found marks kind text n mark start near) same f) m h

-- ## What a name is marked by

pub keeps-all : (marks more : Marks) → more.shortest ≤ marks.shortest → HasAll marks.wholes more.wholes
    → HasAll marks.starts more.starts → KeepsMarks marks more
keeps-all marks more low wholes starts kind text k m = grind arith

-- the marks of a name that are kept so far
pub record Marking (old marks : Marks) (kind : SecKind) (text : List ℕ) (k count mark : ℕ) : Type 0 where
  pub mark_is : mark ≡ mark_of kind (take count text)
  pub shortest : marks.shortest ≡ min old.shortest (length text)
  pub wholes : HasAll old.wholes marks.wholes
  pub keeps : HasAll old.starts marks.starts
  pub starts : (at : ℕ) → at ≤ count → is_kept_length at ≡ true → Has marks.starts (mark_of kind (take at text)) k

pub enter-first : (old marks : Marks) (kind : SecKind) (text : List ℕ) (k mark : ℕ) → mark ≡ first_mark kind
    → marks.shortest ≡ min old.shortest (length text) → HasAll old.wholes marks.wholes → HasAll old.starts marks.starts
    → (is_kept_length 0 ≡ true → Has marks.starts mark k) → Marking old marks kind text k 0 mark
enter-first old marks kind text k mark is shortest wholes keeps has = grind arith

starts-more : (marks more : Marks) (kind : SecKind) (text : List ℕ) (k count mark : ℕ) → HasAll marks.starts more.starts
    → ((at : ℕ) → at ≤ count → is_kept_length at ≡ true → Has marks.starts (mark_of kind (take at text)) k)
    → (is_kept_length (count + 1) ≡ true → Has more.starts (mark_of kind (take (count + 1) text)) k) → (at : ℕ)
    → at ≤ count + 1 → is_kept_length at ≡ true → Has more.starts (mark_of kind (take at text)) k
starts-more marks more kind text k count mark grows starts has at h kept = grind (arith, decide)

pub enter-more : (old marks more : Marks) (kind : SecKind) (text : List ℕ) (k count mark new d : ℕ)
    → Marking old marks kind text k count mark → count < length text → new ≡ next_mark mark (get_or text count d)
    → more.shortest ≡ marks.shortest → HasAll marks.wholes more.wholes → HasAll marks.starts more.starts
    → (is_kept_length (count + 1) ≡ true → Has more.starts new k) → Marking old more kind text k (count + 1) new
enter-more old marks more kind text k count mark new d e h byte shortest wholes grows has =
    grind (arith, mark-more, starts-more)

pub enter-last : (old marks more : Marks) (kind : SecKind) (text : List ℕ) (k count mark : ℕ)
    → more.shortest ≤ length text → Marking old marks kind text k count mark
    → length text ≤ count → HasAll marks.starts more.starts → Has more.wholes mark k → IsMarked more kind text k
enter-last old marks more kind text k count mark long e end grows has = grind (arith, take_all)

-- the lesser of two is no more than the first
pub no-more : (old new size : ℕ) → new ≡ min old size → new ≤ old
no-more old new size e = omega (arith, e)
