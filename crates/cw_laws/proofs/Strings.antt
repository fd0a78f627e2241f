-- A string ends with its quote, before a line's end or with the text.
use Rattle.std.proofs.Common.{◌≡◌, ℕ, ◌+◌, ◌-◌, Bool, true, false, ◌&&◌, ◌||◌, not, ◌==◌, List, [], ◌∷◌, ◌++◌, nat_lt}
use Rattle.std.proofs.Common.{codes, true≢false, slice_index, if◌then◌else◌, length, drop, refl, sym, ap, subst, ◌∙◌}
use Rattle.std.proofs.Common.{arith, ◌⊎◌}
use Rattle.std.proofs.{lemmas.Bool.eqb-true, lemmas.Bool.Decides.nat_tests}
use Rattle.std.specs.List.{AllByRecursion, concat}
use Rattle.cw_base.{proofs.TestLaws.both-left, proofs.TestLaws.both-right, specs.Bytes.newline, specs.Bytes.backslash}
use Rattle.std.proofs.Math.Seq.{drop-append_seam, drop-append-add}
use Rattle.cw_rules.specs.{declared.bodies.Inside.Inside, Prefixes.is_prefix_letter, Prefixes.prefix_size}
use Rattle.cw_rules.specs.Bytes.{at_sign, quote, apostrophe, begins, begins_by, begins_with, is_mark}
use Rattle.cw_rules.specs.Bodies.{stops, takes_next, stepped, goes_on, ended, at_start, extent}
use Rattle.cw_rules.proofs.Inside.{ended-le}
use Rattle.cw_lex.specs.Lexing.{last_after}
use Rattle.cw_laws.specs.Strings.{LinesGoOn, is_piece, is_prefix, StringEnds, IsString}
use Rattle.cw_rules.specs.declared.bodies.Body.TheVariants as bodies

-- where the inside stops, before these bytes
abbrev Stops : ℕ → ℕ → ℕ → ℕ → List ℕ → Type 0
Stops mark last inside size [] = size ≡ inside
Stops mark last inside size (byte ∷ bytes) = ((byte ≡ mark) × (size ≡ inside)) ⊎ (((byte ≡ newline)
    × ((last == backslash) ≡ false) × (size ≡ inside)) ⊎ ((byte ≡ backslash) × (bytes ≡ []) × (size ≡ inside + 1)))

record Split (mark : ℕ) (i : Inside) (bytes : List ℕ) : Type 0 where
  pieces : List (List ℕ)
  are : AllByRecursion (λ (piece : List ℕ). is_piece mark piece ≡ true) pieces
  rest : List ℕ
  lines : LinesGoOn i.before (concat pieces)
  whole : bytes ≡ concat pieces ++ rest
  stops-so : Stops mark (last_after i.before (concat pieces)) (length (concat pieces))
      ((ended i bytes).place - i.place) rest

more-stops : (mark last more inside size all : ℕ) (rest : List ℕ) → all ≡ more + size
    → Stops mark last inside size rest → Stops mark last (more + inside) all rest
more-stops mark last more inside size all rest e h = grind (arith, nat_tests)

step-ended : (i : Inside) (byte : ℕ) (bytes : List ℕ) → goes_on i (byte ∷ bytes) ≡ true
    → ended i (byte ∷ bytes) ≡ ended (stepped i byte bytes) bytes
step-ended i byte bytes h = grind (arith, nat_tests)

pub step-size : (i : Inside) (byte : ℕ) (bytes : List ℕ) → goes_on i (byte ∷ bytes) ≡ true → (ended i
    (byte ∷ bytes)).place - i.place ≡ 1 + ((ended (stepped i byte bytes) bytes).place - (stepped i byte bytes).place)
step-size i byte bytes h = grind (arith, nat_tests, step-ended, ended-le)

-- one byte, behind which no byte is taken along
one-on : (mark : ℕ) (i : Inside) (byte : ℕ) (bytes : List ℕ) → goes_on i (byte ∷ bytes) ≡ true
    → is_piece mark (byte ∷ []) ≡ true → (byte ≡ newline → i.before ≡ backslash)
    → Split mark (stepped i byte bytes) bytes → Split mark i (byte ∷ bytes)
one-on mark i byte bytes h p line s = record {
  pieces = (byte ∷ []) ∷ s.pieces;
  are = (p, s.are);
  rest = s.rest;
  lines = (line, s.lines);
  whole = ap (λ l. byte ∷ l) s.whole;
  stops-so = subst (λ n. Stops mark (last_after byte (concat s.pieces)) n ((ended i (byte ∷ bytes)).place - i.place)
      s.rest) (omega arith) (more-stops mark (last_after byte (concat s.pieces)) 1 (length (concat s.pieces)) _
      ((ended i (byte ∷ bytes)).place - i.place) s.rest (step-size i byte bytes h) s.stops-so);
}

-- a backslash and the byte behind it
two-on : (mark : ℕ) (i : Inside) (byte next : ℕ) (bytes : List ℕ) → goes_on i (byte ∷ next ∷ bytes) ≡ true
    → goes_on (stepped i byte (next ∷ bytes)) (next ∷ bytes) ≡ true → is_piece mark (byte ∷ next ∷ []) ≡ true
    → (byte ≡ newline → i.before ≡ backslash)
    → Split mark (stepped (stepped i byte (next ∷ bytes)) next bytes) bytes → Split mark i (byte ∷ next ∷ bytes)
two-on mark i byte next bytes h g p line s = record {
  pieces = (byte ∷ next ∷ []) ∷ s.pieces;
  are = (p, s.are);
  rest = s.rest;
  lines = (line, ((λ e. eqb-true byte backslash p), s.lines));
  whole = ap (λ l. byte ∷ next ∷ l) s.whole;
  stops-so = subst (λ n. Stops mark (last_after next (concat s.pieces)) n ((ended i (byte ∷ next ∷ bytes)).place -
      i.place) s.rest) (omega arith) (more-stops mark (last_after next (concat s.pieces)) 2 (length (concat s.pieces)) _
      ((ended i (byte ∷ next ∷ bytes)).place - i.place) s.rest (omega (
        arith,
        step-size i byte (next ∷ bytes) h,
        step-size (stepped i byte (next ∷ bytes)) next bytes g,
      )) s.stops-so);
}

stop-here : (mark : ℕ) (i : Inside) (byte : ℕ) (bytes : List ℕ) → i.body ≡ bodies.Quoted mark → i.along ≡ false
    → goes_on i (byte ∷ bytes) ≡ false → Split mark i (byte ∷ bytes)
stop-here mark i byte bytes b a h = grind (arith, nat_tests, eqb-true)

-- a backslash as the last byte
last-on : (mark : ℕ) (i : Inside) (byte : ℕ) → goes_on i (byte ∷ []) ≡ true → byte ≡ backslash
    → Split mark i (byte ∷ [])
last-on mark i byte h e = grind (arith, nat_tests, step-size)

-- what a byte that goes on is
record GoesOn (mark : ℕ) (i : Inside) (byte : ℕ) (bytes : List ℕ) : Type 0 where
  not-mark : (byte == mark) ≡ false
  line : byte ≡ newline → i.before ≡ backslash
  along : (stepped i byte bytes).along ≡ ((byte == backslash) || (byte == at_sign && begins at_sign bytes))

going : (mark : ℕ) (i : Inside) (byte : ℕ) (bytes : List ℕ) → i.body ≡ bodies.Quoted mark → i.along ≡ false
    → goes_on i (byte ∷ bytes) ≡ true → GoesOn mark i byte bytes
going mark i byte bytes b a h = grind (arith, nat_tests, eqb-true)

piece-one : (mark byte : ℕ) → (byte == backslash) ≡ false → (byte == mark) ≡ false → is_piece mark (byte ∷ []) ≡ true
piece-one mark byte h g = λ k. not (h k || g k)

split-none : (mark : ℕ) (i : Inside) → Split mark i []
split-none mark i = record { pieces = []; are = tt; rest = []; lines = tt; whole = refl; stops-so = omega arith }

split : (mark : ℕ) → (at_sign == mark) ≡ false → (i : Inside) (bytes : List ℕ) → i.body ≡ bodies.Quoted mark
    → i.along ≡ false → Split mark i bytes
split mark k i [] b a = split-none mark i
split mark k i (x ∷ []) b a = by (goes_on i (x ∷ [])) refl
  where
    kind : (t : Bool) → (x == backslash) ≡ t → goes_on i (x ∷ []) ≡ true → Split mark i (x ∷ [])
    kind t e h = grind (arith, nat_tests, last-on, eqb-true, one-on, piece-one, going, split-none)

    by : (t : Bool) → goes_on i (x ∷ []) ≡ t → Split mark i (x ∷ [])
    by true h = kind (x == backslash) refl h
    by false h = stop-here mark i x [] b a h
split mark k i (x ∷ y ∷ ys) b a = by (goes_on i (x ∷ y ∷ ys)) refl (λ e. split mark k (stepped i x (y ∷ ys))
    (y ∷ ys) b e) (λ e. split mark k (stepped (stepped i x (y ∷ ys)) y ys) ys b e)
  where
    taken : (stepped i x (y ∷ ys)).along ≡ true → goes_on (stepped i x (y ∷ ys)) (y ∷ ys) ≡ true
    taken e = ap (λ t. t || not (stops i.body x y ys)) e

    then-free : (stepped i x (y ∷ ys)).along ≡ true → (stepped (stepped i x (y ∷ ys)) y ys).along ≡ false
    then-free e = ap (λ t. not t && takes_next i.body y ys) e

    no-newline : at_sign ≡ newline → ⊥
    no-newline e = let wrong : false ≡ true = ap (λ b. b == newline) e in cc

    kind : (t u : Bool) → (x == backslash) ≡ t → (x == at_sign && y == at_sign) ≡ u → goes_on i (x ∷ y ∷ ys) ≡ true
        → ((stepped i x (y ∷ ys)).along ≡ false → Split mark (stepped i x (y ∷ ys)) (y ∷ ys)) → ((stepped (stepped i x
        (y ∷ ys)) y ys).along ≡ false → Split mark (stepped (stepped i x (y ∷ ys)) y ys) ys) → Split mark i (x ∷ y ∷ ys)
    kind true u e f h one two =
        let g = going mark i x (y ∷ ys) b a h in
        let along : (stepped i x (y ∷ ys)).along ≡ true = grind (arith, nat_tests) in
        two-on mark i x y ys h (taken along) e g.line (two (then-free along))
    kind false true e f h one two =
        let g = going mark i x (y ∷ ys) b a h in
        let along : (stepped i x (y ∷ ys)).along ≡ true = g.along ∙ (λ j. e j || f j) in
        let y-is : y ≡ at_sign = eqb-true y at_sign (both-right (x == at_sign) (y == at_sign) f) in
        one-on mark i x (y ∷ ys) h (piece-one mark x e g.not-mark) g.line
        (one-on mark (stepped i x (y ∷ ys)) y ys (taken along)
        (piece-one mark y (ap (λ b. b == backslash) y-is) (ap (λ b. b == mark) y-is ∙ k))
        (λ e. absurd (no-newline (sym y-is ∙ e))) (two (then-free along)))
    kind false false e f h one two =
        let g = going mark i x (y ∷ ys) b a h in
        one-on mark i x (y ∷ ys) h (piece-one mark x e g.not-mark) g.line (one (g.along ∙ (λ j. e j || f j)))

    by : (t : Bool) → goes_on i (x ∷ y ∷ ys) ≡ t → ((stepped i x (y ∷ ys)).along ≡ false → Split mark
        (stepped i x (y ∷ ys)) (y ∷ ys)) → ((stepped (stepped i x (y ∷ ys)) y ys).along ≡ false → Split mark
        (stepped (stepped i x (y ∷ ys)) y ys) ys) → Split mark i (x ∷ y ∷ ys)
    by true h one two = kind (x == backslash) (x == at_sign && y == at_sign) refl refl h one two
    by false h one two = stop-here mark i x (y ∷ ys) b a h

-- ## Whole strings

mark-is : (P : ℕ → Type 0) (mark : ℕ) → is_mark mark ≡ true → P quote → P apostrophe → P mark
mark-is P mark h p q = grind (arith, nat_tests, eqb-true)

pub string-is : (prefix : List ℕ) → is_prefix prefix ≡ true → (mark place : ℕ) (bytes : List ℕ) → is_mark mark ≡ true
    → IsString (prefix ++ mark ∷ bytes) ((length prefix + 1)
    + (extent (at_start (bodies.Quoted mark) place) bytes).size)
string-is prefix prefixed mark place bytes h =
    let i = at_start (bodies.Quoted mark) place in
    let s = split mark (mark-is (λ m. (at_sign == m) ≡ false) mark h refl refl) i bytes refl refl in
    record {
      prefix = prefix;
      prefixed = prefixed;
      mark = mark;
      quotes = h;
      pieces = s.pieces;
      are = s.are;
      lines = lines-behind (concat s.pieces) s.lines;
      rest = s.rest;
      whole = ap (λ l. prefix ++ mark ∷ l) s.whole;
      ends = ends (concat s.pieces) s.rest s.whole s.stops-so;
    }
  where
    inside : ℕ
    inside = (ended (at_start (bodies.Quoted mark) place) bytes).place - place

    size : ℕ
    size = (extent (at_start (bodies.Quoted mark) place) bytes).size

    closed-or-not : (rest : List ℕ) (t : Bool) → drop inside bytes ≡ rest → begins_with (mark ∷ []) rest ≡ t
        → size ≡ (if t then inside + 1 else inside)
    closed-or-not rest t e f = grind (arith, nat_tests, inside)

    rest-is : (front rest : List ℕ) → bytes ≡ front ++ rest → inside ≡ length front → drop inside bytes ≡ rest
    rest-is front rest w e = ap (λ n. drop n bytes) e ∙ ap (drop (length front)) w ∙ drop-append_seam front rest

    newline-other : (newline == mark) ≡ false
    newline-other = mark-is (λ m. (newline == m) ≡ false) mark h refl refl

    no-zero : 0 ≡ backslash → ⊥
    no-zero e = let wrong : false ≡ true = ap (λ b. b == backslash) e in cc

    lines-behind : (front : List ℕ) → LinesGoOn 0 front → LinesGoOn mark front
    lines-behind [] l = tt
    lines-behind (x ∷ xs) l = (λ e. absurd (no-zero (l.0 e)), l.1)

    last-behind : (front : List ℕ) → (last_after 0 front == backslash) ≡ false
        → (last_after mark front == backslash) ≡ false
    last-behind [] l = mark-is (λ m. (m == backslash) ≡ false) mark h refl refl
    last-behind (x ∷ xs) l = l

    ends : (front rest : List ℕ) → bytes ≡ front ++ rest → Stops mark (last_after 0 front) (length front) inside rest
        → StringEnds mark (last_after mark front) ((length prefix + 1) + length front) ((length prefix + 1) + size) rest
    ends front rest w e =
        grind (arith, nat_tests, closed-or-not, rest-is, mark-is, last-behind, newline-other, inside, drop-append-add)

-- ## Strings with a prefix

-- a string with a prefix of so many bytes
abbrev Prefixed : ℕ → List ℕ → ℕ → Type 0
Prefixed place bytes n = IsString bytes ((n + 1)
    + (extent (at_start (bodies.Quoted (slice_index bytes n)) (place + (n + 1))) (drop (n + 1) bytes)).size)

one-is : (place byte : ℕ) (bytes : List ℕ) → is_prefix_letter byte ≡ true → begins_by is_mark bytes ≡ true
    → Prefixed place (byte ∷ bytes) 1
one-is place byte [] p m = absurd (true≢false (sym m))
one-is place byte (mark ∷ rest) p m = string-is (byte ∷ []) p mark (place + 2) rest m

two-is : (place byte : ℕ) (bytes : List ℕ) → begins_with (codes "u8") (byte ∷ bytes) ≡ true
    → begins_by is_mark (drop 1 bytes) ≡ true → Prefixed place (byte ∷ bytes) 2
two-is place byte (next ∷ mark ∷ rest) p m = string-is (byte ∷ next ∷ []) p mark (place + 3) rest m
two-is _ _ _ _ m = absurd (true≢false (sym m))

pub prefixed-is : (place byte : ℕ) (bytes : List ℕ) → nat_lt 0 (prefix_size (byte ∷ bytes)) ≡ true
    → Prefixed place (byte ∷ bytes) (prefix_size (byte ∷ bytes))
prefixed-is place byte bytes =
    let eight = begins_with (codes "u8") (byte ∷ bytes) in
    let one = begins_by is_mark bytes in
    let two = begins_by is_mark (drop 1 bytes) in
    by (is_prefix_letter byte && one) (eight && two)
    (λ h. one-is place byte bytes (both-left (is_prefix_letter byte) one h) (both-right (is_prefix_letter byte) one h))
    (λ h. two-is place byte bytes (both-left eight two h) (both-right eight two h))
  where
    by : (one two : Bool) → (one ≡ true → Prefixed place (byte ∷ bytes) 1)
        → (two ≡ true → Prefixed place (byte ∷ bytes) 2) → nat_lt 0 (if one then 1 else if two then 2 else 0) ≡ true
        → Prefixed place (byte ∷ bytes) (if one then 1 else if two then 2 else 0)
    by true two f g h = f refl
    by false true f g h = g refl
    by false false f g h = absurd cc

pub unprefixed-is : (place mark : ℕ) (bytes : List ℕ) → prefix_size (mark ∷ bytes) ≡ 0 → is_mark mark ≡ true
    → IsString (mark ∷ bytes) ((prefix_size (mark ∷ bytes) + 1) + (extent (at_start (bodies.Quoted mark)
    (place + (prefix_size (mark ∷ bytes) + 1))) (drop (prefix_size (mark ∷ bytes) + 1) (mark ∷ bytes))).size)
unprefixed-is place mark bytes none h =
    subst (λ n. IsString (mark ∷ bytes) ((n + 1) + (extent (at_start (bodies.Quoted mark) (place + (n + 1)))
    (drop (n + 1) (mark ∷ bytes))).size)) (sym none) (string-is [] refl mark (place + 1) bytes h)
