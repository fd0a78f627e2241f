-- Blocks are checked one after another.
use Rattle.cw_log.proofs.Terms.{◌≡◌, ℕ, ◌+◌, ◌-◌, ◌≤◌, Bool, true, false, ◌&&◌, List, [], ◌∷◌, ◌++◌, inl, inr, length}
use Rattle.cw_log.proofs.Terms.{map, sum_by, All, eqb, cond, refl, sym, ◌∙◌, ap, arith, append_assoc, eqb_tells}
use Rattle.cw_log.proofs.Terms.{flat_map-append, append-nil, length-append, length-map, both-left, both-right}
use Rattle.cw_log.proofs.Terms.{pieces_of, pieces_by, Judges, same_item, LeafLine, leaf_line, log_of_lines, IsTold}
use Rattle.cw_log.proofs.Terms.{line_of, production_of, spelled, block_of, HasBlock, IsLog, Block, block_lines}
use Rattle.cw_log.proofs.Terms.{end_text, item_text, line_text, log_lines, IsFineBlock, all-append, all-cons, Entry}
use Rattle.cw_log.proofs.Terms.{AreDistinct, Production, log as log_of, productions, State, Scrap, checked, checked_by}
use Rattle.cw_log.proofs.Terms.{from_wrong, is_right, told, IsCheckedAs, Accepted, Rejected}
use Rattle.std.proofs.lemmas.List.Sums.{sum_by-append, sum_by-cons}
use Rattle.std.specs.Cmp.Lexicographic.{pointwise}
use Rattle.cw_base.specs.Flags.{start_flags}
use Rattle.cw_leaves.proofs.LineFacts.{lines-have-log}
use Rattle.cw_logs.specs.declared.blocks.ReadBlock.{ReadBlock}
use Rattle.cw_logs.proofs.Telling.{blocks-are-told}
use Rattle.cw_log.proofs.LineLaws.{lines-say-scraps}
use Rattle.cw_logs.specs.declared.checking.Verdict.TheVariants as verdicts

-- ## One block

pub spelled-lines : (names : List Entry) (scraps : List Scrap) → map (spelled names) (map line_of scraps)
    ≡ map (leaf_line names) scraps
spelled-lines names [] = refl
spelled-lines names (s ∷ scraps) = ap (λ l. l ∷ map (spelled names) (map line_of scraps)) (lines-say-scraps names s)
    ∙ ap (λ ls. leaf_line names s ∷ ls) (spelled-lines names scraps)

-- The log of scraps that are made of leaf lines is that which the leaf lines tell.
pub log-told : (names : List Entry) (leaves : List LeafLine) (items : List Production) (state : State)
    → AreDistinct names → All (IsTold names) state.scraps → map line_of state.scraps ≡ leaves
    → log_of productions start_flags state ≡ told (record { leaves = map (spelled names) leaves; items = items })
log-told names leaves items state distinct all is = lines-have-log productions start_flags names state distinct all
    ∙ ap (log_of_lines productions start_flags) (sym (spelled-lines names state.scraps) ∙ ap (map (spelled names)) is)

same-item : (p : Production) → same_item p p ≡ true
same-item p = elim (eqb_tells p.number p.number) [
  | inl e ↦ ap (λ b. b && eqb p.place p.place) e.0 ∙ elim (eqb_tells p.place p.place) [
    | inl d ↦ d.0
    | inr d ↦ absurd (d.1 refl)
  ]
  | inr e ↦ absurd (e.1 refl)
]

item-same : (p q : Production) → same_item p q ≡ true → p ≡ q
item-same p q h =
    let a : p.number ≡ q.number = number p.number q.number (both-left (eqb p.number q.number) _ h) in
    let b : p.place ≡ q.place = number p.place q.place (both-right (eqb p.number q.number) _ h) in
    ap (λ n. record { number = n; place = p.place }) a ∙ ap (λ n. record { number = q.number; place = n }) b
  where
    number : (m n : ℕ) → eqb m n ≡ true → m ≡ n
    number m n e = elim (eqb_tells m n) [ inl k ↦ k.1 | inr k ↦ absurd (let d : true ≡ false = sym e ∙ k.0 in cc) ]

same-items : (ps : List Production) → pointwise same_item ps ps ≡ true
same-items [] = refl
same-items (p ∷ ps) = ap (λ b. b && pointwise same_item ps ps) (same-item p) ∙ same-items ps

items-same : (ps qs : List Production) → pointwise same_item ps qs ≡ true → ps ≡ qs
items-same [] [] h = refl
items-same [] (q ∷ qs) h = absurd cc
items-same (p ∷ ps) [] h = absurd cc
items-same (p ∷ ps) (q ∷ qs) h = ap (λ x. x ∷ ps) (item-same p q (both-left (same_item p q) _ h))
    ∙ ap (λ xs. q ∷ xs) (items-same ps qs (both-right (same_item p q) _ h))

accepted-right : (b : Block) → Judges b.items (told b) verdicts.Accepted → is_right b ≡ true
accepted-right b is = ap (pointwise same_item b.items) (sym is) ∙ same-items b.items

false-unless : (t : Bool) → (t ≡ true → ⊥) → t ≡ false
false-unless true not = absurd (not refl)
false-unless false not = refl

rejected-wrong : (b : Block) (m : ℕ) → Judges b.items (told b) (verdicts.Rejected m) → is_right b ≡ false
rejected-wrong b m found = false-unless (is_right b) (λ e. found.0 (items-same b.items (told b) e))

-- ## Block after block

-- The blocks before the rest of a log are right, and there are so many, with so many productions.
pub record CheckedSoFar (log rest : List ℕ) (blocks items : ℕ) : Type 0 where
  pub done : List Block
  pub fine : All IsFineBlock done
  pub right : from_wrong done ≡ []
  pub is : pieces_of log ≡ log_lines done ++ pieces_of rest
  pub later : IsLog (pieces_of rest)
  pub texts : blocks ≡ length done
  pub count : items ≡ sum_by (λ b. length b.items) done

pub none-checked : (log : List ℕ) → IsLog (pieces_of log) → CheckedSoFar log log 0 0
none-checked log is = record {
  done = [];
  fine = λ i d lt. absurd (omega (arith, lt));
  right = refl;
  is = refl;
  later = is;
  texts = refl;
  count = refl;
}

right-by : (b : Block) (done later : List Block) (t : Bool) → is_right b ≡ t
    → (from_wrong done ≡ [] → from_wrong (done ++ later) ≡ from_wrong later)
    → cond t (from_wrong done) (b ∷ done) ≡ [] → from_wrong (b ∷ done ++ later) ≡ from_wrong later
right-by b done later true s rec e = ap (λ x. cond x (from_wrong (done ++ later)) (b ∷ done ++ later)) s ∙ rec e
right-by b done later false s rec e = absurd cc

right-then : (done later : List Block) → from_wrong done ≡ [] → from_wrong (done ++ later) ≡ from_wrong later
right-then [] later e = refl
right-then (b ∷ done) later e = right-by b done later (is_right b) refl (right-then done later) e

abbrev size : Block → ℕ
size b = length b.items

sum-more : (done : List Block) (b : Block) → sum_by size (done ++ b ∷ []) ≡ sum_by size done + length b.items
sum-more done b = omega (arith, sum_by-append size done (b ∷ []), sum_by-cons size b [])

one-right : (b : Block) → is_right b ≡ true → from_wrong (b ∷ []) ≡ []
one-right b e = ap (λ t. cond t (from_wrong []) (b ∷ [])) e

one-wrong : (b : Block) (later : List Block) → is_right b ≡ false → from_wrong (b ∷ later) ≡ b ∷ later
one-wrong b later e = ap (λ t. cond t (from_wrong later) (b ∷ later)) e

joined : (done : List Block) (b : Block) (lines : List (List ℕ))
    → log_lines done ++ (block_lines b ++ lines) ≡ log_lines (done ++ b ∷ []) ++ lines
joined done b lines = sym (append_assoc (log_lines done) (block_lines b) lines) ∙ ap (λ ls. ls ++ lines) (ap
    (λ ls. log_lines done ++ ls) (sym (append-nil (block_lines b))) ∙ sym (flat_map-append block_lines done (b ∷ [])))

block-next : (log rest : List ℕ) (texts count : ℕ) (old new : List Entry) (read : ReadBlock)
    → CheckedSoFar log rest texts count → HasBlock old new rest read → is_right (block_of new read.log) ≡ true
    → CheckedSoFar log read.rest.now (texts + 1) (count + length read.log.items)
block-next log rest texts count old new read s h right =
    let b : Block = block_of new read.log in
    record {
      done = s.done ++ b ∷ [];
      fine = all-append IsFineBlock s.done (b ∷ []) s.fine
          (all-cons IsFineBlock b [] h.fine (λ i d lt. absurd (omega (arith, lt))));
      right = right-then s.done (b ∷ []) s.right ∙ one-right b right;
      is = s.is ∙ (ap (λ ls. log_lines s.done ++ ls) h.is ∙ joined s.done b (pieces_of read.rest.now));
      later = h.later;
      texts = omega (arith, s.texts, length-append s.done (b ∷ []));
      count = omega (arith, s.count, sum-more s.done b, length-map read.log.items production_of);
    }

pub block-accepted : (log rest : List ℕ) (texts count : ℕ) (old new : List Entry) (read : ReadBlock)
    → CheckedSoFar log rest texts count → HasBlock old new rest read
    → Judges (map production_of read.log.items) (told (block_of new read.log)) verdicts.Accepted
    → CheckedSoFar log read.rest.now (texts + 1) (count + length read.log.items)
block-accepted log rest texts count old new read s h found =
    block-next log rest texts count old new read s h (accepted-right (block_of new read.log) found)

all-checked : (blocks others : List Block) → All IsFineBlock blocks → All IsFineBlock others
    → log_lines blocks ≡ log_lines others → checked blocks ≡ checked others
all-checked blocks others fine good e = ap checked (blocks-are-told blocks others fine good e)

pub all-accepted : (log rest : List ℕ) (texts count : ℕ) → CheckedSoFar log rest texts count → rest ≡ []
    → IsCheckedAs (pieces_of log) (Accepted texts count)
all-accepted log rest texts count s none is = ap (λ n. Accepted n count) s.texts ∙ (ap (λ n. Accepted (length s.done) n)
    s.count ∙ (sym (ap (checked_by s.done) s.right) ∙ all-checked s.done is.blocks s.fine is.fine (sym
    (append-nil (log_lines s.done)) ∙ (ap (λ r. log_lines s.done ++ pieces_of r) (sym none) ∙ (sym s.is ∙ is.is)))))

pub block-rejected : (log rest : List ℕ) (texts count after : ℕ) (old new : List Entry) (read : ReadBlock)
    → CheckedSoFar log rest texts count → HasBlock old new rest read → Judges (map production_of read.log.items)
    (told (block_of new read.log)) (verdicts.Rejected after) → IsCheckedAs (pieces_of log) (Rejected (texts + 1) after)
block-rejected log rest texts count after old new read s h found is =
    let b : Block = block_of new read.log in
    let later : List Block = h.later.blocks in
    let blocks : List Block = s.done ++ b ∷ later in
    let wrong : from_wrong blocks ≡ b ∷ later = right-then s.done (b ∷ later) s.right
    ∙ one-wrong b later (rejected-wrong b after found) in
    let number : length blocks - length later ≡ texts + 1 = omega (arith, s.texts, length-append s.done (b ∷ later)) in
    let lines : log_lines blocks ≡ pieces_of log = flat_map-append block_lines s.done (b ∷ later) ∙ (ap (λ ls. log_lines
    s.done ++ (block_lines b ++ ls)) (sym h.later.is) ∙ (ap (λ ls. log_lines s.done ++ ls) (sym h.is) ∙ sym s.is)) in
    ap (λ n. Rejected n after) (sym number) ∙ (ap (Rejected (length blocks - length later)) found.1
    ∙ (sym (ap (checked_by blocks) wrong) ∙ all-checked blocks is.blocks (all-append IsFineBlock s.done
    (b ∷ later) s.fine (all-cons IsFineBlock b later h.fine h.later.fine)) is.fine (lines ∙ is.is)))

-- ## How many there are

pieces-few : (bytes : List ℕ) → length (pieces_of bytes) ≤ length bytes
pieces-few [] = omega arith
pieces-few (byte ∷ bytes) = by (eqb byte 10) (pieces_of bytes) (pieces-few bytes)
  where
    by : (t : Bool) (pieces : List (List ℕ)) → length pieces ≤ length bytes
        → length (pieces_by t byte pieces) ≤ length (byte ∷ bytes)
    by true pieces h = omega (arith, h)
    by false [] h = omega (arith, h)
    by false (piece ∷ pieces) h = omega (arith, h)

block-many : (b : Block) → length b.items + 1 ≤ length (block_lines b)
block-many b = omega (
  arith,
  length-append (map line_text b.leaves) (map item_text b.items ++ end_text ∷ []),
  length-append (map item_text b.items) (end_text ∷ []),
  length-map b.items item_text,
)

blocks-many : (blocks : List Block) → length blocks + sum_by (λ b. length b.items) blocks ≤ length (log_lines blocks)
blocks-many [] = omega arith
blocks-many (b ∷ blocks) = omega (
  arith,
  block-many b,
  blocks-many blocks,
  sum_by-cons size b blocks,
  length-append (block_lines b) (log_lines blocks),
)

-- with one block more there are no more than the log has bytes
pub block-few : (log rest : List ℕ) (texts count : ℕ) (old new : List Entry) (read : ReadBlock) → CheckedSoFar log rest
    texts count → HasBlock old new rest read → texts + count + length read.log.items + 1 ≤ length log
block-few log rest texts count old new read s h =
    let b : Block = block_of new read.log in
    let all : length (pieces_of log) ≡ length (log_lines s.done) + length (pieces_of rest) =
    ap length s.is ∙ length-append (log_lines s.done) (pieces_of rest) in
    let next : length (pieces_of rest) ≡ length (block_lines b) + length (pieces_of read.rest.now) =
    ap length h.is ∙ length-append (block_lines b) (pieces_of read.rest.now) in
    omega (
      arith,
      s.texts,
      s.count,
      all,
      next,
      blocks-many s.done,
      block-many b,
      pieces-few log,
      length-map read.log.items production_of,
    )
