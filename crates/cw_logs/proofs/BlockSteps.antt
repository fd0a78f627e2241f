-- The lines of a block are read one after another.
use Rattle.cw_logs.proofs.Terms.{◌≡◌, ◌≢◌, ℕ, suc, ◌≤◌, List, [], ◌∷◌, ◌++◌, length, map, All, refl, sym, ◌∙◌, ap}
use Rattle.cw_logs.proofs.Terms.{subst, arith, append_assoc, length-map, map-append, flat_map-append, pieces_of}
use Rattle.cw_logs.proofs.Terms.{Entry, Production, LeafLine, spelled, Spot, Outside, Inside, with_idents, names_in}
use Rattle.cw_logs.proofs.Terms.{AreIdents, HasBlock, HasItems, HasLeafLine, HasLeaves, IsExtended, IsLeafLine}
use Rattle.cw_logs.proofs.Terms.{IsFirstLine, NoItem, IsLog, Reads, more, Step, opens, leaf, item, closes, end_text}
use Rattle.cw_logs.proofs.Terms.{greatest, head_text, item_text, line_text, IsFineItem, IsFineLine}
use Rattle.cw_logs.specs.{declared.blocks.ReadItems.ReadItems, declared.blocks.ReadLeaves.ReadLeaves}
use Rattle.cw_logs.proofs.{Cutting.all-append, Cutting.all-cons, Decimals.head-injective, Decimals.item-not-end}
use Rattle.cw_logs.proofs.{StepLaws.log-is-read, StepLaws.read-is-log}
use Rattle.cw_logs.proofs.Adding.{all-kept, all-known, idents-append, lines-kept}

-- ## The first line

pub record First (first last : Spot) (line : List ℕ) (lines : List (List ℕ)) : Type 0 where
  pub next : Spot
  pub step : Step first line next
  pub later : Reads next lines last

first-of : (first last : Spot) (line : List ℕ) (lines : List (List ℕ)) → Reads first (line ∷ lines) last
    → First first last line lines
first-of first last line lines (more a next b l ls step r) = record { next = next; step = step; later = r }

pub read-cut : (first last : Spot) (text line tail : List ℕ) → IsFirstLine text line tail
    → Reads first (pieces_of text) last → Reads first (line ∷ pieces_of tail) last
read-cut first last text line tail cut r = subst (λ ls. Reads first ls last) cut.cut r

read-some : (first last : Spot) (lines : List (List ℕ)) → Reads first lines last → (first ≡ last → ⊥) → lines ≢ []
read-some first last lines h differ e = grind arith

pub block-goes-on : (k : ℕ) (text : List ℕ) → Reads (Inside k) (pieces_of text) Outside → text ≢ []
block-goes-on k text r e = read-some (Inside k) Outside (pieces_of text) r (λ e. cc) (ap pieces_of e)

-- ## Its head

pub record Opened (line : List ℕ) (next : Spot) : Type 0 where
  pub count : ℕ
  pub few : count ≤ greatest
  pub is : line ≡ head_text count
  pub at : next ≡ Inside count

pub opened : (first next : Spot) (line : List ℕ) → Step first line next → first ≡ Outside → Opened line next
opened first next line h e = grind arith

pub head-there : (line : List ℕ) (lines : List (List ℕ)) → Reads Outside (line ∷ lines) Outside
    → (count : ℕ) × (count ≤ greatest) × (line ≡ head_text count)
head-there line lines r = grind (arith, first-of, opened)

pub behind-head : (line : List ℕ) (lines : List (List ℕ)) (count : ℕ) → count ≤ greatest → line ≡ head_text count
    → Reads Outside (line ∷ lines) Outside → Reads (Inside count) lines Outside
behind-head line lines count few is r = grind (arith, first-of, opened, head-injective)

-- ## Its leaf lines

pub record Leaf (k : ℕ) (line : List ℕ) (next : Spot) : Type 0 where
  pub is : IsLeafLine line
  pub at : next ≡ Inside k

pub leaf-step : (first next : Spot) (line : List ℕ) (k : ℕ) → Step first line next → first ≡ Inside (suc k)
    → Leaf k line next
leaf-step first next line k h e = grind (arith)

pub leaf-there : (line : List ℕ) (lines : List (List ℕ)) (k : ℕ) → Reads (Inside (suc k)) (line ∷ lines) Outside
    → IsLeafLine line
leaf-there line lines k r = grind (arith, first-of, leaf-step)

behind-leaf : (line : List ℕ) (lines : List (List ℕ)) (k : ℕ) → Reads (Inside (suc k)) (line ∷ lines) Outside
    → Reads (Inside k) lines Outside
behind-leaf line lines k r = grind (arith, first-of, leaf-step)

-- these leaf lines are read, and so many are left
pub record LeavesSoFar (old new : List Entry) (text : List ℕ) (leaves : List LeafLine) (rest : List ℕ)
    (left : ℕ) : Type 0 where
  pub idents : All (λ leaf. AreIdents new leaf.names) leaves
  pub added : new ≡ with_idents (names_in (map (spelled new) leaves)) old
  pub fine : All IsFineLine (map (spelled new) leaves)
  pub is : pieces_of text ≡ map line_text (map (spelled new) leaves) ++ pieces_of rest
  pub later : Reads (Inside left) (pieces_of rest) Outside
  pub shorter : length rest ≤ length text

pub no-leaves : (old : List Entry) (text : List ℕ) (count : ℕ) → Reads (Inside count) (pieces_of text) Outside
    → LeavesSoFar old old text [] text count
no-leaves old text count r = grind arith

append-none-of : (xs : List (List ℕ)) → xs ++ [] ≡ xs
append-none-of [] = refl
append-none-of (x ∷ xs) = ap (λ ys. x ∷ ys) (append-none-of xs)

pub one-leaf : (old mid new : List Entry) (text rest line tail : List ℕ) (leaves : List LeafLine) (one : LeafLine)
    (left : ℕ) → LeavesSoFar old mid text leaves rest (suc left) → IsFirstLine rest line tail → IsExtended mid new
    → HasLeafLine mid new line one → LeavesSoFar old new text (leaves ++ one ∷ []) tail left
one-leaf old mid new text rest line tail leaves one left s cut x h =
    let lines : map (spelled new) (leaves ++ one ∷ []) ≡ map (spelled mid) leaves ++ spelled new one ∷ [] =
    (grind (arith, map-append, lines-kept)) in
    record {
      idents = all-append (λ l. AreIdents new l.names) leaves (one ∷ []) (all-kept mid new _ x s.idents)
          (all-cons (λ l. AreIdents new l.names) one [] h.idents (λ k d lt. absurd (omega (arith, lt))));
      added = grind (arith, idents-append, append-none-of, flat_map-append);
      fine = subst (All IsFineLine) (sym lines) (all-append IsFineLine (map _ leaves)
          (spelled new one ∷ []) s.fine (all-cons IsFineLine _ [] h.fine (λ k d lt. absurd (omega (arith, lt)))));
      is = s.is ∙ (grind (arith, append_assoc, map-append));
      later = behind-leaf line _ left (read-cut (Inside _) _ rest line tail cut s.later);
      shorter = omega (arith, s.shorter, cut.shorter);
    }

-- ## Its productions, and its end

pub data Inner (line : List ℕ) (next : Spot) : Type 0 where
  on : (p : Production) → IsFineItem p → line ≡ item_text p → next ≡ Inside 0 → Inner line next
  out : line ≡ end_text → next ≡ Outside → Inner line next

pub inner : (first next : Spot) (line : List ℕ) → Step first line next → first ≡ Inside 0 → Inner line next
inner first next line (opens l count few is) e = absurd cc
inner first next line (leaf l k said fine is) e = absurd cc
inner first next line (item l p fine is) e = on p fine is refl
inner first next line (closes l is) e = out is refl

record Ended (line : List ℕ) (lines : List (List ℕ)) : Type 0 where
  is : line ≡ end_text
  later : Reads Outside lines Outside

-- these productions are read, and this line is the next
pub record ItemsSoFar (text : List ℕ) (items : List Production) (line rest : List ℕ) : Type 0 where
  pub fine : All IsFineItem items
  pub is : pieces_of text ≡ map item_text items ++ line ∷ pieces_of rest
  pub later : Reads (Inside 0) (line ∷ pieces_of rest) Outside
  pub shorter : length rest ≤ length text

pub no-items : (text line rest : List ℕ) → IsFirstLine text line rest → Reads (Inside 0) (pieces_of text) Outside
    → ItemsSoFar text [] line rest
no-items text line rest cut r = grind (arith, read-cut)

pub items-go-on : (text line rest : List ℕ) (items : List Production) (p : Production) → line ≡ item_text p
    → ItemsSoFar text items line rest → rest ≢ []
items-go-on text line rest items p is s = block-goes-on 0 rest (grind (arith, first-of, inner, item-not-end))

pub one-item : (text line rest next tail : List ℕ) (items : List Production) (p : Production) → IsFineItem p
    → line ≡ item_text p → ItemsSoFar text items line rest → IsFirstLine rest next tail
    → ItemsSoFar text (items ++ p ∷ []) next tail
one-item text line rest next tail items p fine is s cut = record {
  fine = all-append IsFineItem _ _ s.fine (all-cons IsFineItem p [] fine (λ k d lt. absurd (omega (arith, lt))));
  is = grind (arith, append_assoc, map-append);
  later = read-cut (Inside 0) _ rest next tail cut (grind (arith, first-of, inner, item-not-end));
  shorter = omega (arith, s.shorter, cut.shorter);
}

-- all of them are read
pub record AllItems (text : List ℕ) (items : List Production) (rest : List ℕ) : Type 0 where
  pub fine : All IsFineItem items
  pub is : pieces_of text ≡ map item_text items ++ end_text ∷ pieces_of rest
  pub later : Reads Outside (pieces_of rest) Outside
  pub shorter : length rest ≤ length text

pub all-items : (text line rest : List ℕ) (items : List Production) → NoItem line → ItemsSoFar text items line rest
    → AllItems text items rest
all-items text line rest items lack s = grind (arith, first-of, inner)

-- ## The whole block

pub head-read : (log line rest : List ℕ) → IsLog (pieces_of log) → IsFirstLine log line rest
    → Reads Outside (line ∷ pieces_of rest) Outside
head-read log line rest is cut = read-cut Outside Outside log line rest cut (log-is-read (pieces_of log) is)

pub whole-block : (old new : List Entry) (log line rest : List ℕ) (count : ℕ) (leaves : ReadLeaves) (items : ReadItems)
    → IsFirstLine log line rest → count ≤ greatest → line ≡ head_text count → HasLeaves old new count rest leaves
    → HasItems leaves.rest.now items
    → HasBlock old new log (record { log = record { leaves = leaves.leaves; items = items.items }; rest = items.rest })
whole-block old new log line rest count leaves items cut few is h k =
    grind (arith, length-map, all-known, read-is-log, append_assoc)
