-- A leaf line tells all that is seen of its scrap.
use Rattle.cw_leaves.proofs.Terms.{◌≡◌, ℕ, suc, slice_get, Option, List, [], ◌∷◌, refl, sym, ◌∙◌, ap, map, All, arith}
use Rattle.cw_leaves.proofs.Terms.{Ident as ident_kind, Entry, Tree, Empty, Then, Sub, Inner, Scrap, said, text_by}
use Rattle.cw_leaves.proofs.Terms.{text_at, leaf_line, Entered, called_by, called, line_sight, HasNoMark, IsIdentEntry}
use Rattle.cw_leaves.proofs.Terms.{IsTold, log_of_lines}
use Rattle.cw_leaves.specs.{Sights.heard, Sights.sight, model.Sights.renamed, LogLaws.LinesHaveLog}
use Rattle.cw_leaves.specs.{LogLaws.SameLinesSameLog}
use Rattle.cw_leaves.proofs.{SightSteps.log-seen, FreeNames.log-renamed, Calling.called-apart}

heard-said : (t : Tree) → HasNoMark t → heard t ≡ said t
heard-said Empty h = refl
heard-said (Then leaf rest) h = grind (arith, heard-said rest h.1)
heard-said (Sub tree rest) h = grind (arith, heard-said tree h.0, heard-said rest h.1)
heard-said (Inner tree rest) h = heard-said rest h

-- an identifier among the entries is called by its text
one-called : (n : ℕ) (o : Option Entry) → IsIdentEntry o → called_by n o ≡ Entered ident_kind (text_by o)
one-called n o h = grind arith

all-called : (names : List Entry) (ns : List ℕ) → All (λ n. IsIdentEntry (slice_get names n)) ns
    → map (called names) ns ≡ map (Entered ident_kind) (map (text_at names) ns)
all-called names [] all = refl
all-called names (n ∷ ns) all =
    ap (λ c. c ∷ map (called names) ns) (one-called n (slice_get names n) (all 0 n (omega arith)))
    ∙ ap (λ cs. Entered ident_kind (text_at names n) ∷ cs) (all-called names ns (λ i d lt. all (suc i) d (omega arith)))

pub sight-line : (names : List Entry) (s : Scrap) → IsTold names s
    → renamed (called names) (sight s) ≡ line_sight (leaf_line names s)
sight-line names s told = grind (arith, heard-said, all-called)

sights-lines : (names : List Entry) (ss : List Scrap) → All (IsTold names) ss
    → map (renamed (called names)) (map sight ss) ≡ map line_sight (map (leaf_line names) ss)
sights-lines names [] all = refl
sights-lines names (s ∷ ss) all =
    ap (λ x. x ∷ map (renamed (called names)) (map sight ss)) (sight-line names s (all 0 s (omega arith)))
    ∙ ap (λ xs. line_sight (leaf_line names s) ∷ xs) (sights-lines names ss (λ i d lt. all (suc i) d (omega arith)))

pub lines-have-log : LinesHaveLog
lines-have-log rows flags names state distinct all = grind (arith, log-seen, log-renamed, called-apart, sights-lines)

pub same-lines-same-log : SameLinesSameLog
same-lines-same-log rows flags names others state other distinct apart told heard is = lines-have-log rows flags names
    state distinct told ∙ (ap (log_of_lines rows flags) is ∙ sym (lines-have-log rows flags others other apart heard))
