-- A braced tree is braced when it is laid flat and trimmed.
use Rattle.cw_brace_laws.proofs.Terms.{◌≡◌, ℕ, Bool, true, false, ◌&&◌, Option, Some, List, [], ◌∷◌, ◌++◌, refl, ap}
use Rattle.cw_brace_laws.proofs.Terms.{◌∙◌, sym, append_assoc, if◌then◌else◌, arith, Item, Close, begins_after}
use Rattle.cw_brace_laws.proofs.Terms.{ends_text, flat, is_break, is_inserted, leaf_item, trim_back, trim_front}
use Rattle.cw_brace_laws.proofs.Terms.{trimmed_items, without_inserted, Leaf, Tree, Empty, Then, Sub, Inner, IsBraced}
use Rattle.cw_brace_laws.proofs.Terms.{depth_of, leads_on, leaf_depth, outside, AreBraced, item_depth, items_depth}
use Rattle.cw_brace_laws.proofs.Terms.{nat_tests}

-- ## Flat lists

leaf-leads : (leaf : Leaf) (d e : ℕ) → leaf_depth leaf d ≡ Some e → item_depth (leaf_item leaf) d ≡ Some e
leaf-leads leaf d e h = grind (arith, nat_tests)

-- something led on to an end by way of a depth
pub record By (o : Option ℕ) (next : ℕ → Option ℕ) (e : ℕ) : Type 0 where
  pub depth : ℕ
  pub first : o ≡ Some depth
  pub second : next depth ≡ Some e

pub by-way : (o : Option ℕ) (next : ℕ → Option ℕ) (e : ℕ) → leads_on o next ≡ Some e → By o next e
by-way o next e h = grind (arith, nat_tests)

outside-same : (d e : ℕ) → outside d ≡ Some e → d ≡ e
outside-same d e h = grind (arith, nat_tests)

flat-leads : (t : Tree) (rest : List Item) (d e : ℕ) → depth_of t d ≡ Some e
    → items_depth (flat t ++ rest) d ≡ items_depth rest e
flat-leads Empty rest d e h = let same : d ≡ e = cc in ap (items_depth rest) same
flat-leads (Then leaf t) rest d e h =
    let w = by-way (leaf_depth leaf d) (depth_of t) e h in
    ap (λ o. leads_on o (items_depth (flat t ++ rest))) (leaf-leads leaf d w.depth w.first)
    ∙ flat-leads t rest w.depth e w.second
flat-leads (Sub a b) rest d e h =
    let w = by-way (depth_of a d) (depth_of b) e h in
    ap (λ items. items_depth items d) (append_assoc (flat a) (flat b) rest)
    ∙ flat-leads a (flat b ++ rest) d w.depth w.first ∙ flat-leads b rest w.depth e w.second
flat-leads (Inner a b) rest d e h =
    let w = by-way (leads_on (leads_on (outside d) (depth_of a)) outside) (depth_of b) e h in
    let v = by-way (leads_on (outside d) (depth_of a)) outside w.depth w.first in
    let u = by-way (outside d) (depth_of a) v.depth v.first in
    ap (λ o. leads_on o (items_depth ((flat a ++ Close ∷ flat b) ++ rest))) u.first ∙ ap (λ items. items_depth items
    u.depth) (append_assoc (flat a) (Close ∷ flat b) rest) ∙ flat-leads a (Close ∷ (flat b ++ rest)) u.depth v.depth
    u.second ∙ ap (λ o. leads_on o (items_depth (flat b ++ rest))) v.second ∙ flat-leads b rest w.depth e w.second

-- ## Trimming

inserted-out : (items : List Item) (d e : ℕ) → items_depth items d ≡ Some e
    → items_depth (without_inserted items) d ≡ Some e
inserted-out [] d e h = h
inserted-out (item ∷ items) d e h = go (is_inserted item) refl (λ n k. inserted-out items n e k)
  where
    go : (b : Bool) → is_inserted item ≡ b
        → ((n : ℕ) → items_depth items n ≡ Some e → items_depth (without_inserted items) n ≡ Some e)
        → items_depth (if b then without_inserted items else item ∷ without_inserted items) d ≡ Some e
    go true is rec = rec d (grind (arith, nat_tests))
    go false is rec = grind (arith, nat_tests)

front-out : (begins : Bool) (items : List Item) (d e : ℕ) → items_depth items d ≡ Some e
    → items_depth (trim_front begins items) d ≡ Some e
front-out begins [] d e h = h
front-out begins (item ∷ items) d e h = go (begins && is_break item) refl (λ more n k. front-out more items n e k)
  where
    go : (b : Bool) → (begins && is_break item) ≡ b → ((more : Bool)
        (n : ℕ) → items_depth items n ≡ Some e → items_depth (trim_front more items) n ≡ Some e) → items_depth
        (if b then trim_front begins items else item ∷ trim_front (begins_after begins item) items) d ≡ Some e
    go true is rec = rec begins d (grind (arith, nat_tests))
    go false is rec = grind (arith, nat_tests)

back-out : (items : List Item) (d e : ℕ) → items_depth items d ≡ Some e → items_depth (trim_back items) d ≡ Some e
back-out [] d e h = h
back-out (item ∷ items) d e h = go (is_break item && ends_text items) refl (λ n k. back-out items n e k)
  where
    go : (b : Bool) → (is_break item && ends_text items) ≡ b → ((n : ℕ) → items_depth items n ≡ Some e → items_depth
        (trim_back items) n ≡ Some e) → items_depth (if b then trim_back items else item ∷ trim_back items) d ≡ Some e
    go true is rec = rec d (grind (arith, nat_tests))
    go false is rec = grind (arith, nat_tests)

append-none : (items : List Item) → items ++ [] ≡ items
append-none [] = refl
append-none (item ∷ items) = ap (λ rest. item ∷ rest) (append-none items)

pub trimmed-braced : (t : Tree) → IsBraced t → AreBraced (trimmed_items (flat t))
trimmed-braced t h =
    let all : AreBraced (flat t) = ap (λ items. items_depth items 0) (sym (append-none (flat t)))
    ∙ flat-leads t [] 0 0 h in
    back-out (trim_front true (without_inserted (flat t))) 0 0
    (front-out true (without_inserted (flat t)) 0 0 (inserted-out (flat t) 0 0 all))
