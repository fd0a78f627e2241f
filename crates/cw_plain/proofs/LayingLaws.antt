-- Plain text that is made piece by piece is that of its pieces, laid out.
use Rattle.cw_plain.proofs.Terms.{◌≡◌, ℕ, zero, suc, Bool, true, false, List, [], ◌∷◌, ◌++◌, Option, None, refl, sym}
use Rattle.cw_plain.proofs.Terms.{ap, ◌∙◌, arith, if◌then◌else◌, nat_lt, append-nil, append_assoc, flat_map-cons}
use Rattle.cw_plain.proofs.Terms.{Laying, begun, ended, ended_text, no_run, piece_text, pieces_text, with_control}
use Rattle.cw_plain.proofs.Terms.{with_piece, Added, Layout, Other, Run, Stretch, at_start, backed, behind_piece}
use Rattle.cw_plain.proofs.Terms.{behind_run, break_text, cut_off, ink_bytes, ink_text, laid, laid_from, level_behind}
use Rattle.cw_plain.proofs.Terms.{level_in, moved, piece_inks, run_text, stretches, with_move, Closing, Ending, Move}
use Rattle.cw_plain.proofs.Terms.{Nothing, Opening, Part, Piece, Word}
use Rattle.std.specs.List.{list_any}
use Rattle.std.proofs.{lemmas.Grind.flat_map-append, lemmas.Bool.Decides.nat_tests, lemmas.List.Sums.fold_push}
use Rattle.cw_trees.specs.{declared.Control.Control, Printing.is_backup, Printing.is_cancel, Printing.strongest}
use Rattle.cw_join.specs.Runs.{run_state}
use Rattle.cw_join.proofs.StateLaws.{state-more}

-- ## Runs

-- these controls before what follows them
abbrev with_run : List Control → List Stretch → List Stretch
with_run [] ss = ss
with_run (c ∷ run) ss = with_move c (with_run run ss)

run-more : (run : List Control) (c : Control) (ss : List Stretch)
    → with_run (run ++ c ∷ []) ss ≡ with_run run (with_move c ss)
run-more [] c ss = refl
run-more (d ∷ run) c ss = ap (with_move d) (run-more run c ss)

-- no run goes on there
abbrev IsEnd : List Stretch → Type 0
IsEnd [] = Unit {0}
IsEnd (Run run ∷ ss) = ⊥
IsEnd (Other piece ∷ ss) = Unit {0}

run-whole : (c : Control) (run : List Control) (ss : List Stretch) → IsEnd ss
    → with_run (c ∷ run) ss ≡ Run (c ∷ run) ∷ ss
run-whole c [] [] end = refl
run-whole c [] (Run run ∷ ss) end = absurd end
run-whole c [] (Other piece ∷ ss) end = refl
run-whole c (d ∷ run) ss end = ap (with_move c) (run-whole d run ss end)

-- the layout in a run, of which these controls have come
abbrev in_run : Layout → List Control → Laying
in_run l run = record {
  layout = record { level = level_in l.depth l.level run; depth = l.depth; last = l.last };
  run = run_state run;
}

inner-level : (level other strength : ℕ) → break_text true level strength ≡ break_text true other strength
inner-level level other zero = refl
inner-level level other (suc zero) = refl
inner-level level other (suc (suc zero)) = refl
inner-level level other (suc (suc (suc strength))) = refl

is-inner : (depth : ℕ) → nat_lt 0 (suc depth) ≡ true
is-inner depth = grind (arith, nat_tests)

run-text : (l : Layout) (run : List Control) → ended_text (in_run l run) ≡ run_text l run
run-text l run = by (list_any is_cancel run) l.depth
  where
    back : Bool
    back = list_any is_backup run

    by : (t : Bool) (depth : ℕ) → break_text (nat_lt 0 depth) (backed back (level_in depth l.level run))
        (if t then 0 else strongest run) ≡ (if t then [] else break_text (nat_lt 0 depth)
        (backed back (level_behind l.level run)) (strongest run))
    by true depth = refl
    by false zero = refl
    by false (suc depth) = ap (λ inner. break_text inner (backed back l.level) (strongest run)) (is-inner depth)
        ∙ inner-level (backed back l.level) (backed back (level_behind l.level run)) (strongest run)
        ∙ sym (ap (λ inner. break_text inner (backed back (level_behind l.level run)) (strongest run)) (is-inner depth))

-- Behind a break nothing but white space stands before.
pub break-cuts : (inner : Bool) (level strength : ℕ) (last : Option ℕ)
    → cut_off last (break_text inner level (suc strength)) ≡ None
break-cuts inner level zero last = refl
break-cuts inner level (suc zero) last = refl
break-cuts true level (suc (suc strength)) last = refl
break-cuts false level (suc (suc zero)) last = refl
break-cuts false level (suc (suc (suc strength))) last = refl

run-ended : (l : Layout) (run : List Control) → ended (in_run l run) ≡ behind_run l run
run-ended l run = λ i. record {
  level = level_in l.depth l.level run;
  depth = l.depth;
  last = cut_off l.last (run-text l run i);
}

level-none : (depth level : ℕ) → level_in depth level [] ≡ level
level-none zero level = refl
level-none (suc depth) level = refl

none-in : (l : Layout) → in_run l [] ≡ record { layout = l; run = no_run }
none-in l = λ i. record {
  layout = record { level = level-none l.depth l.level i; depth = l.depth; last = l.last };
  run = no_run;
}

none-behind : (l : Layout) → behind_run l [] ≡ l
none-behind l = λ i. record { level = level-none l.depth l.level i; depth = l.depth; last = l.last }

level-more : (depth level : ℕ) (run : List Control) (c : Control)
    → level_in depth (level_in depth level run) (c ∷ []) ≡ level_in depth level (run ++ c ∷ [])
level-more zero level run c = sym (fold_push moved level run c)
level-more (suc depth) level run c = refl

control-more : (l : Layout) (run : List Control) (c : Control)
    → with_control (in_run l run) c ≡ in_run l (run ++ c ∷ [])
control-more l run c = λ i. record {
  layout = record { level = level-more l.depth l.level run c i; depth = l.depth; last = l.last };
  run = sym (state-more run c) i;
}

run-laid : (l : Layout) (run : List Control) (ss : List Stretch) → IsEnd ss
    → ink_text (laid_from l (with_run run ss)) ≡ run_text l run ++ ink_text (laid_from (behind_run l run) ss)
run-laid l [] ss end = sym (ap (λ b. ink_text (laid_from b ss)) (none-behind l))
run-laid l (c ∷ run) ss end = ap (λ ts. ink_text (laid_from l ts)) (run-whole c run ss end)
    ∙ flat_map-cons ink_bytes (Added (run_text l (c ∷ run))) (laid_from (behind_run l (c ∷ run)) ss)

-- ## Pieces

-- a piece that ends a run
abbrev Ends : Piece → List Piece → Type 0
Ends piece pieces = (l : Laying) → (piece_text l piece ≡ ended_text l ++ ink_text (piece_inks (ended l).last piece))
    × (with_piece l piece ≡ record { layout = behind_piece (ended l) piece; run = no_run })
    × (stretches (piece ∷ pieces) ≡ Other piece ∷ stretches pieces)

abbrev AreLaid : List Piece → Type 0
AreLaid pieces = (l : Layout) (run : List Control)
    → pieces_text (in_run l run) pieces ≡ ink_text (laid_from l (with_run run (stretches pieces)))

none-laid : (pieces : List Piece) → AreLaid pieces → (l : Layout)
    → pieces_text (record { layout = l; run = no_run }) pieces ≡ ink_text (laid_from l (stretches pieces))
none-laid pieces are l = sym (ap (λ b. pieces_text b pieces) (none-in l)) ∙ are l []

other-laid : (piece : Piece) (pieces : List Piece) → Ends piece pieces → AreLaid pieces → AreLaid (piece ∷ pieces)
other-laid piece pieces ends are l run =
    let b = in_run l run in
    let text = λ (x : Layout). ink_text (piece_inks x.last piece) in
    let more = λ (x : Layout). ink_text (laid_from (behind_piece x piece) (stretches pieces)) in
    (λ i. (ends b).0 i ++ pieces_text ((ends b).1 i) pieces) ∙ (λ i. (run-text l run i ++ text (run-ended l run i))
    ++ none-laid pieces are (behind_piece (run-ended l run i) piece) i) ∙ append_assoc (run_text l run)
    (text (behind_run l run)) (more (behind_run l run)) ∙ ap (λ t. run_text l run ++ t) (sym (flat_map-append ink_bytes
    (piece_inks (behind_run l run).last piece) (laid_from (behind_piece (behind_run l run) piece) (stretches pieces))))
    ∙ sym (run-laid l run (Other piece ∷ stretches pieces) tt)
    ∙ ap (λ ss. ink_text (laid_from l (with_run run ss))) (sym (ends b).2)

are-laid : (pieces : List Piece) → AreLaid pieces
are-laid [] l run = run-text l run ∙ sym (append-nil (run_text l run)) ∙ sym (run-laid l run [] tt)
are-laid (Move c ∷ pieces) l run = ap (λ b. pieces_text b pieces) (control-more l run c)
    ∙ are-laid pieces l (run ++ c ∷ []) ∙ ap (λ ss. ink_text (laid_from l ss)) (run-more run c (stretches pieces))
are-laid (Word number bytes ∷ pieces) l run =
    other-laid (Word number bytes) pieces (λ l. (refl, refl, refl)) (are-laid pieces) l run
are-laid (Part number bytes ∷ pieces) l run =
    other-laid (Part number bytes) pieces (λ l. (refl, refl, refl)) (are-laid pieces) l run
are-laid (Ending bytes ∷ pieces) l run =
    other-laid (Ending bytes) pieces (λ l. (refl, refl, refl)) (are-laid pieces) l run
are-laid (Opening ∷ pieces) l run = other-laid Opening pieces (λ l. (refl, refl, refl)) (are-laid pieces) l run
are-laid (Closing ∷ pieces) l run = other-laid Closing pieces (λ l. (refl, refl, refl)) (are-laid pieces) l run
are-laid (Nothing ∷ pieces) l run = other-laid Nothing pieces (λ l. (refl, refl, refl)) (are-laid pieces) l run

-- All pieces, from the start of a text.
pub pieces-laid : (pieces : List Piece) → pieces_text begun pieces ≡ ink_text (laid pieces)
pieces-laid pieces = none-laid pieces (are-laid pieces) at_start
