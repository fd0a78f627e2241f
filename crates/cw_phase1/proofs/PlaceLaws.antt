-- Lines and the places where they begin in the merged text.
use Rattle.cw_phase1.proofs.Terms.{◌≡◌, ℕ, zero, suc, ◌+◌, ◌<◌, ◌≤◌, ◌&&◌, ◌||◌, Bool, true, false, refl, ap, ◌∙◌, List}
use Rattle.cw_phase1.proofs.Terms.{[], ◌∷◌, length, take, drop, get_or, nat_lt, arith, length-append, if◌then◌else◌}
use Rattle.cw_phase1.proofs.Terms.{lt-ltb, le-ltb, and_right, and_left, drop_more, take_more, common_steps, MergedLine}
use Rattle.cw_phase1.proofs.Terms.{text_of, info_from, infos_of, LineInfo, place_from, holds_changed, offset}
use Rattle.cw_base.specs.{laws.WebLaws.length-text_of-more, declared.notes.Place.Place}

offset-suc : (line : MergedLine) (lines : List MergedLine) (i : ℕ) → offset (line ∷ lines) (suc i)
    ≡ length line.text + 1 + offset lines i
offset-suc line lines i = length-append line.text (10 ∷ text_of (take i lines)) ∙ omega arith

-- the table of lines tells where each begins
pub info-at : (lines : List MergedLine) (at i : ℕ) (other : LineInfo) (none : MergedLine) → i < length lines
    → get_or (infos_of at lines) i other ≡ info_from (at + offset lines i) (get_or lines i none)
info-at [] at i other none h = absurd (let no : i < 0 = h in omega arith)
info-at (line ∷ lines) at zero other none h = ap (λ (n : ℕ). info_from n line) (let e : at ≡ at + 0 = omega arith in e)
info-at (line ∷ lines) at (suc i) other none h =
    grind (arith, info-at lines (at + length line.text + 1) i other none (omega arith), offset-suc)

-- The place of a byte is that of the line that has it.
pub place-at : (lines : List MergedLine) (at byte i : ℕ) (last : Place) (none : MergedLine) → i < length lines
    → at + offset lines i ≤ byte → (i + 1 < length lines → byte < at + offset lines (i + 1))
    → place_from lines at byte last ≡ (get_or lines i none).place
place-at [] at byte i last none h from to = absurd (let no : i < 0 = h in omega arith)
place-at (line ∷ lines) at byte zero last none h from to = grind (arith, common_steps, lt-ltb)
place-at (line ∷ lines) at byte (suc i) last none h from to =
    let test : nat_lt byte (at + length line.text + 1) ≡ false =
    le-ltb byte (at + length line.text + 1) (omega (arith, offset-suc line lines i)) in
    ap (λ (b : Bool). if b then line.place else place_from lines (at + length line.text + 1) byte line.place) test
    ∙ place-at lines (at + length line.text + 1) byte i line.place none (omega arith) (omega (
      arith,
      offset-suc line
          lines i,
    )) (λ more. let below : byte < at + offset (line ∷ lines) (suc i + 1) = to (omega arith) in
    let same : offset (line ∷ lines) (suc i + 1) ≡ offset (line ∷ lines) (suc (i + 1)) =
    ap (offset (line ∷ lines)) (let e : suc i + 1 ≡ suc (i + 1) = omega arith in e) in
    omega (arith, offset-suc line lines (i + 1), below, same))

-- Lines that end before a part of the text begins don't matter to it, and neither do those that begin behind it.
pub changed-skip : (lines : List MergedLine) (at i start end : ℕ) → i ≤ length lines → at + offset lines i ≤ start
    → holds_changed lines at start end ≡ holds_changed (drop i lines) (at + offset lines i) start end
changed-skip lines at zero start end h past = grind arith
changed-skip [] at (suc i) start end h past = absurd (let no : suc i ≤ 0 = h in omega arith)
changed-skip (line ∷ lines) at (suc i) start end h past =
    let here : ℕ = at + length line.text + 1 in
    let test : nat_lt start here ≡ false = le-ltb start here (omega (arith, offset-suc line lines i)) in
    let out : (line.changed && (nat_lt at end && nat_lt start here)) ≡ false = grind (arith, and_right) in
    grind
    (arith, changed-skip lines here i start end (omega arith) (omega (arith, offset-suc line lines i)), offset-suc)

pub changed-behind : (lines : List MergedLine) (at start end : ℕ) → end ≤ at → holds_changed lines at start end ≡ false
changed-behind [] at start end past = refl
changed-behind (line ∷ lines) at start end past =
    let here : ℕ = at + length line.text + 1 in
    let test : nat_lt at end ≡ false = le-ltb at end past in
    let out : (line.changed && (nat_lt at end && nat_lt start here)) ≡ false = grind (arith, and_right, and_left) in
    ap (λ (b : Bool). b || holds_changed lines here start end) out ∙ changed-behind lines here start end (omega arith)

pub offset-more : (lines : List MergedLine) (i : ℕ) (none : MergedLine) → i < length lines → offset lines (i + 1)
    ≡ offset lines i + length (get_or lines i none).text + 1
offset-more lines i none h =
    grind (arith, take_more lines i none h, length-text_of-more (take i lines) (get_or lines i none))

-- One line of those that are left.
pub changed-step : (lines : List MergedLine) (i start end : ℕ) (none : MergedLine) → i < length lines
    → holds_changed (drop i lines) (offset lines i) start end
    ≡ (((get_or lines i none).changed && (nat_lt (offset lines i) end && nat_lt start (offset lines i + length
    (get_or lines i none).text + 1))) || holds_changed (drop (i + 1) lines) (offset lines (i + 1)) start end)
changed-step lines i start end none h = grind (arith, drop_more, offset-more)

pub changed-hit : (lines : List MergedLine) (i start end : ℕ) (none : MergedLine) → i < length lines
    → (get_or lines i none).changed ≡ true → offset lines i < end → start ≤ offset lines i + length
    (get_or lines i none).text → holds_changed (drop i lines) (offset lines i) start end ≡ true
changed-hit lines i start end none h changed before reaches =
    grind (arith, lt-ltb (offset lines i) end before, changed-step lines i start end none h)

pub changed-plain : (lines : List MergedLine) (i start end : ℕ) (none : MergedLine) → i < length lines
    → (get_or lines i none).changed ≡ false → holds_changed (drop i lines) (offset lines i) start end
    ≡ holds_changed (drop (i + 1) lines) (offset lines (i + 1)) start end
changed-plain lines i start end none h plain = grind (arith, changed-step lines i start end none h)

pub changed-before : (lines : List MergedLine) (i start end : ℕ) (none : MergedLine) → i < length lines
    → offset lines i + length (get_or lines i none).text < start → holds_changed (drop i lines) (offset lines i) start
    end ≡ holds_changed (drop (i + 1) lines) (offset lines (i + 1)) start end
changed-before lines i start end none h before = grind (arith, changed-step lines i start end none h)
