-- What the signs of a braced list print is braced.
use Rattle.cw_brace_laws.proofs.Terms.{◌≡◌, ℕ, zero, suc, Bool, true, false, ◌||◌, ltb, Option, Some, None, List, []}
use Rattle.cw_brace_laws.proofs.Terms.{◌∷◌, ◌++◌, map, refl, ap, ◌∙◌, if◌then◌else◌, arith, Item, SourceItem, IdentItem}
use Rattle.cw_brace_laws.proofs.Terms.{ReservedItem, SignItem, Open, Close, flat, is_run_sign, trimmed_items, Tree}
use Rattle.cw_brace_laws.proofs.Terms.{Control, IsBraced, leads_on, sign_depth, PrintsBraced, byte_depth, bytes_depth}
use Rattle.cw_brace_laws.proofs.Terms.{items_depth, own_sign, sign_alone, nat_tests}
use Rattle.cw_trees.specs.Printing.{indent_bytes, indents, opened, printed_from, run_bytes}
use Rattle.cw_brace_laws.proofs.Flats.{by-way, trimmed-braced}

-- ## Bytes

leads-twice : (o : Option ℕ) (f g h : ℕ → Option ℕ) → ((d : ℕ) → g d ≡ leads_on (f d) h)
    → leads_on o g ≡ leads_on (leads_on o f) h
leads-twice o f g h e = grind (arith, nat_tests)

bytes-append : (xs ys : List ℕ) (d : ℕ) → bytes_depth (xs ++ ys) d ≡ leads_on (bytes_depth xs d) (bytes_depth ys)
bytes-append [] ys d = refl
bytes-append (x ∷ xs) ys d = leads-twice (byte_depth x d) (bytes_depth xs) (bytes_depth (xs ++ ys)) (bytes_depth ys)
    (λ n. bytes-append xs ys n)

-- bytes without braces and dollars
abbrev ArePlain : List ℕ → Type 0
ArePlain bytes = (d : ℕ) → bytes_depth bytes d ≡ Some d

plain-append : (xs ys : List ℕ) → ArePlain xs → ArePlain ys → ArePlain (xs ++ ys)
plain-append xs ys f g d = bytes-append xs ys d ∙ ap (λ o. leads_on o (bytes_depth ys)) (f d) ∙ g d

-- ## Runs

indents-plain : (run : List Control) → ArePlain (indents run)
indents-plain [] d = refl
indents-plain (c ∷ run) d =
    plain-append (indent_bytes c) (indents run) (λ d. grind (arith, nat_tests)) (indents-plain run) d

run-plain : (inner : Bool) (run : List Control) → ArePlain (run_bytes inner run)
run-plain true run = λ d. grind (arith, nat_tests)
run-plain false run = grind (arith, nat_tests, plain-append, indents-plain)

-- ## Signs

-- ## Lists

-- a run, then the bytes of an item, then the rest
three-lead : (run bytes rest : List ℕ) (d n e : ℕ) → ArePlain run → bytes_depth bytes d ≡ Some n
    → bytes_depth rest n ≡ Some e → bytes_depth (run ++ (bytes ++ rest)) d ≡ Some e
three-lead run bytes rest d n e plain here later = grind (arith, nat_tests, bytes-append)

printed-leads : (inner : Bool) (depth : ℕ) (run : List Control) (items : List Item) (d e : ℕ)
    → items_depth items d ≡ Some e → bytes_depth (printed_from inner depth run (map sign_alone items)) d ≡ Some e
printed-leads inner depth run [] d e h = run-plain (inner || ltb 0 depth) run d ∙ h
printed-leads inner depth run (SourceItem number ∷ items) d e h =
    three-lead (run_bytes (inner || ltb 0 depth) run) [] (printed_from inner depth [] (map sign_alone items)) d d e
    (run-plain (inner || ltb 0 depth) run) refl (printed-leads inner depth [] items d e h)
printed-leads inner depth run (IdentItem name number ∷ items) d e h =
    three-lead (run_bytes (inner || ltb 0 depth) run) [] (printed_from inner depth [] (map sign_alone items)) d d e
    (run-plain (inner || ltb 0 depth) run) refl (printed-leads inner depth [] items d e h)
printed-leads inner depth run (ReservedItem name number ∷ items) d e h =
    three-lead (run_bytes (inner || ltb 0 depth) run) [] (printed_from inner depth [] (map sign_alone items)) d d e
    (run-plain (inner || ltb 0 depth) run) refl (printed-leads inner depth [] items d e h)
printed-leads inner depth run (Open ∷ items) zero e h = three-lead (run_bytes (inner || ltb 0 depth) run) []
    (printed_from inner (opened depth Open) [] (map sign_alone items)) 0 0 e (run-plain (inner || ltb 0 depth) run) refl
    (printed-leads inner (opened depth Open) [] items 0 e h)
printed-leads inner depth run (Open ∷ items) (suc d) e h = absurd cc
printed-leads inner depth run (Close ∷ items) zero e h = three-lead (run_bytes (inner || ltb 0 depth) run) []
    (printed_from inner (opened depth Close) [] (map sign_alone items)) 0 0 e
    (run-plain (inner || ltb 0 depth) run) refl (printed-leads inner (opened depth Close) [] items 0 e h)
printed-leads inner depth run (Close ∷ items) (suc d) e h = absurd cc
printed-leads inner depth run (SignItem c ∷ items) d e h =
    go (is_run_sign c) refl (λ more n k. printed-leads inner depth more items n e k)
  where
    go : (b : Bool) → is_run_sign c ≡ b → ((more : List Control) (n : ℕ) → items_depth items n ≡ Some e → bytes_depth
        (printed_from inner depth more (map sign_alone items)) n ≡ Some e) → bytes_depth
        (elim (if b then Some c else None) as (λ _. List ℕ) [
          | Some control ↦ printed_from inner depth (run ++ control ∷ []) (map sign_alone items)
          | None ↦ run_bytes (inner || ltb 0 depth) run ++ (own_sign c ++ printed_from inner depth []
              (map sign_alone items))
        ]) d ≡ Some e
    go true is rec = rec (run ++ c ∷ []) d (grind (arith, nat_tests))
    go false is rec =
        let w = by-way (sign_depth c d) (items_depth items) e h in
        three-lead (run_bytes (inner || ltb 0 depth) run) (own_sign c) (printed_from inner depth [] (map sign_alone
        items)) d w.depth e (run-plain (inner || ltb 0 depth) run) (grind (arith, nat_tests)) (rec [] w.depth w.second)

pub prints-braced : (t : Tree) → IsBraced t → PrintsBraced t
prints-braced t h =
    let all = trimmed-braced t h in
    record { items = all; bytes = λ inner. printed-leads inner 0 [] (trimmed_items (flat t)) 0 0 all }
