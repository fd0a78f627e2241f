-- Reading line by line.
use Rattle.cw_logs.proofs.Terms.{◌≡◌, ℕ, zero, suc, ◌<◌, List, [], ◌∷◌, ◌++◌, length, take, map, All, get_or, refl}
use Rattle.cw_logs.proofs.Terms.{sym, ◌∙◌, ap, arith, subst, true, append_assoc, Production, Line, Block, line_text}
use Rattle.cw_logs.proofs.Terms.{head_text, item_text, end_text, block_lines, log_lines, IsFineLine, IsFineItem}
use Rattle.cw_logs.proofs.Terms.{IsFineBlock, is_identifier, Spot, Outside, Inside, IsLog, Begins, wrong, cut_off}
use Rattle.cw_logs.proofs.Terms.{Step, opens, leaf, item, closes, Reads, none, more, ReadIsLog, LogIsRead}
use Rattle.cw_logs.proofs.Terms.{StuckIsFault, InsideIsFault}
use Rattle.cw_logs.proofs.Decimals.{head-injective, item-not-end}
use Rattle.cw_base.specs.declared.category.Cat.TheVariants as cats
use Rattle.cw_leaves.specs.declared.kinds.LeafKind.TheVariants as kinds

-- a log is read
pub joined-reads : (first middle last : Spot) (xs ys : List (List ℕ)) → Reads first xs middle → Reads middle ys last
    → Reads first (xs ++ ys) last
joined-reads first middle last xs ys (none spot) r = r
joined-reads first middle last xs ys (more a next b line lines step q) r =
    more first next last line (lines ++ ys) step (joined-reads next middle last lines ys q r)

reads-items : (ps : List Production) → All IsFineItem ps → Reads (Inside 0) (map item_text ps ++ end_text ∷ []) Outside
reads-items [] all = more (Inside 0) Outside Outside end_text [] (closes end_text refl) (none Outside)
reads-items (p ∷ ps) all = more _ (Inside 0) Outside (item_text p)
    _ (item (item_text p) p (all 0 p (omega arith)) refl) (reads-items ps (λ i d lt. all (suc i) d (omega arith)))

reads-leaves : (ls : List Line) (rest : List (List ℕ)) → All IsFineLine ls → Reads (Inside 0) rest Outside
    → Reads (Inside (length ls)) (map line_text ls ++ rest) Outside
reads-leaves [] rest all r = r
reads-leaves (l ∷ ls) rest all r = more _ (Inside (length ls)) Outside (line_text l) _ (leaf (line_text l)
    (length ls) l (all 0 l (omega arith)) refl) (reads-leaves ls rest (λ i d lt. all (suc i) d (omega arith)) r)

reads-block : (b : Block) → IsFineBlock b → Reads Outside (block_lines b) Outside
reads-block b fine = more _ (Inside (length b.leaves)) Outside (head_text (length b.leaves)) _ (opens (head_text (length
    b.leaves)) (length b.leaves) fine.few refl) (reads-leaves b.leaves _ fine.leaves (reads-items b.items fine.items))

reads-blocks : (bs : List Block) → All IsFineBlock bs → Reads Outside (log_lines bs) Outside
reads-blocks [] all = none Outside
reads-blocks (b ∷ bs) all = joined-reads _ Outside Outside (block_lines b)
    (log_lines bs) (reads-block b (all 0 b (omega arith))) (reads-blocks bs (λ i d lt. all (suc i) d (omega arith)))

pub log-is-read : LogIsRead
log-is-read lines h = subst (λ ls. Reads Outside ls Outside) (sym h.is) (reads-blocks h.blocks h.fine)

-- what is read is a log
record Rest (to_come : ℕ) (lines : List (List ℕ)) : Type 0 where
  leaves : List Line
  items : List Production
  blocks : List Block
  count : length leaves ≡ to_come
  fine_leaves : All IsFineLine leaves
  fine_items : All IsFineItem items
  fine : All IsFineBlock blocks
  is : lines ≡ map line_text leaves ++ (map item_text items ++ end_text ∷ log_lines blocks)

abbrev Meaning : Spot → List (List ℕ) → Type 0
Meaning Outside lines = IsLog lines
Meaning (Inside to_come) lines = Rest to_come lines

all-none : {A : Type 0} (P : A → Type 0) → All P []
all-none P i d lt = absurd (omega arith)

step-means : (first next : Spot) (line : List ℕ) (lines : List (List ℕ)) → Step first line next → Meaning next lines
    → Meaning first (line ∷ lines)
step-means Outside (Inside n) line lines (opens l count most is) r =
    let b : Block = record { leaves = r.leaves; items = r.items } in
    record {
      blocks = b ∷ r.blocks;
      fine = grind (arith);
      is = ap (λ x. line ∷ x) r.is ∙ (ap (λ x. x ∷ map line_text r.leaves ++ (map item_text r.items ++ end_text
          ∷ log_lines r.blocks)) (is ∙ ap head_text (sym r.count)) ∙ sym (grind (arith, append_assoc)));
    }
step-means first next line lines (leaf l to_come said good is) r = record {
  leaves = said ∷ r.leaves;
  items = r.items;
  blocks = r.blocks;
  count = ap suc r.count;
  fine_leaves = (λ h d lt. grind arith);
  fine_items = r.fine_items;
  fine = r.fine;
  is = grind arith;
}
step-means first next line lines (item l p good is) r = item-means r.leaves r.count r.is
  where
    item-means : (ls : List Line) → length ls ≡ zero → lines ≡ map line_text ls
        ++ (map item_text r.items ++ end_text ∷ log_lines r.blocks) → Rest zero (line ∷ lines)
    item-means [] e h = record {
      leaves = [];
      items = p ∷ r.items;
      blocks = r.blocks;
      count = refl;
      fine_leaves = all-none IsFineLine;
      fine_items = (λ h d lt. grind arith);
      fine = r.fine;
      is = ap (λ x. line ∷ x) h ∙ ap (λ x. x ∷ map item_text r.items ++ end_text ∷ log_lines r.blocks) is;
    }
    item-means (x ∷ ls) e h = absurd (omega (arith, e))
step-means first next line lines (closes l is) r = record {
  leaves = [];
  items = [];
  blocks = r.blocks;
  count = refl;
  fine_leaves = all-none IsFineLine;
  fine_items = all-none IsFineItem;
  fine = r.fine;
  is = ap (λ x. line ∷ x) r.is ∙ ap (λ x. x ∷ log_lines r.blocks) is;
}

reads-mean : (first last : Spot) (lines : List (List ℕ)) → Reads first lines last → last ≡ Outside → Meaning first lines
reads-mean first last lines (none spot) e = grind (arith, all-none)
reads-mean first last lines (more a next b line rest step r) e =
    step-means first next line rest step (reads-mean next last rest r e)

pub read-is-log : ReadIsLog
read-is-log lines r = reads-mean Outside Outside lines r refl

-- from everywhere a log can be ended
semicolon : Line
semicolon = record { kind = kinds.S; cat = cats.Semi; names = [] }

rest_of : ℕ → List (List ℕ)
rest_of zero = end_text ∷ []
rest_of (suc k) = line_text semicolon ∷ rest_of k

ending : Spot → List (List ℕ)
ending Outside = []
ending (Inside k) = rest_of k

semicolon-fine : IsFineLine semicolon
unfolding semicolon
semicolon-fine = record { kind = refl; real = λ e. absurd cc; names = all-none (λ name. is_identifier name ≡ true) }

rest-reads : (k : ℕ) → Reads (Inside k) (rest_of k) Outside
unfolding rest_of
rest-reads zero = more (Inside 0) Outside Outside end_text [] (closes end_text refl) (none Outside)
rest-reads (suc k) = more _ _ _ (line_text _) _ (leaf (line_text _) k semicolon semicolon-fine refl) (rest-reads k)

ending-reads : (spot : Spot) → Reads spot (ending spot) Outside
unfolding ending
ending-reads Outside = none Outside
ending-reads (Inside k) = rest-reads k

read-begins : (lines : List (List ℕ)) (spot : Spot) → Reads Outside lines spot → Begins lines
read-begins lines spot r =
    record { later = ending spot; whole = grind (arith, read-is-log, joined-reads, ending-reads) }

-- one line leads to one place
step-same : (first second third : Spot) (line : List ℕ) → Step first line second → Step first line third
    → second ≡ third
step-same first second third line (opens l m hm e) (opens k n hn d) = ap Inside (head-injective m n hm hn (sym e ∙ d))
step-same first second third line (leaf l m s g e) (leaf k n t h d) = cc
step-same first second third line (item l p g e) (closes k d) = absurd (item-not-end p (sym e ∙ d))
step-same first second third line (closes l e) (item k q h d) = absurd (item-not-end q (sym d ∙ e))
step-same _ _ _ _ _ _ = refl

record Split (first last : Spot) (xs ys : List (List ℕ)) : Type 0 where
  middle : Spot
  front : Reads first xs middle
  back : Reads middle ys last

split : (first last : Spot) (xs ys : List (List ℕ)) → Reads first (xs ++ ys) last → Split first last xs ys
split first last [] ys r = record { middle = first; front = none first; back = r }
split first last (x ∷ xs) ys (more a next b line lines step r) =
    let s : Split next last xs ys = split next last xs ys r in
    record { middle = s.middle; front = more first next s.middle x xs step s.front; back = s.back }

reads-same : (first second third : Spot) (lines : List (List ℕ)) → Reads first lines second → Reads first lines third
    → second ≡ third
reads-same first second third [] (none a) (none b) = refl
reads-same first second third (l ∷ ls) (more a n b k ks s r) (more c m d j js t q) =
    reads-same n second third ls r (subst (λ x. Reads x ls third) (sym (step-same first n m l s t)) q)

pub take-next : (lines : List (List ℕ)) (n : ℕ) → n < length lines
    → take (suc n) lines ≡ take n lines ++ get_or lines n [] ∷ []
take-next [] n lt = absurd (omega arith)
take-next (l ∷ ls) zero lt = refl
take-next (l ∷ ls) (suc n) lt = ap (λ x. l ∷ x) (take-next ls n (omega arith))

first-step : (first last : Spot) (x : List ℕ) (xs : List (List ℕ)) → Reads first (x ∷ xs) last
    → (next : Spot) × Step first x next
first-step first last x xs (more a next b line lines step r) = (next, step)

pub stuck-is-fault : StuckIsFault
stuck-is-fault lines good spot lt r stuck = wrong lt (read-begins (take good _) spot r)
    (λ b. let x = get_or _ good [] in let e = ap (λ ls. ls ++ b.later) (take-next _ good lt) ∙ append_assoc _ (x ∷ [])
    _ in let s = split _ _ _ _ (subst (λ ls. Reads Outside ls Outside) e (log-is-read _ b.whole)) in let f = first-step
    _ Outside x _ s.back in stuck f.0 (subst (λ p. Step p x f.0) (reads-same _ _ spot (take good lines) s.front r) f.1))

pub inside-is-fault : InsideIsFault
inside-is-fault lines to_come r = cut_off refl (read-begins lines (Inside to_come) r)
    (λ log. let e = reads-same Outside (Inside to_come) Outside lines r (log-is-read lines log) in absurd cc)
