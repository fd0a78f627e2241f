-- One piece more is put with its backslash, and the rest begins with a byte that has one, or is empty.
use Rattle.cw_join.proofs.Terms.{◌≡◌, ◌<◌, List, ℕ, [], ◌∷◌, ◌++◌, length, refl, sym, ap, ◌∙◌, eqb-true, append-nil}
use Rattle.cw_join.proofs.Terms.{name_bytes, prints-failing, prints-longer, prints-none, prints-then, prints-bytes}
use Rattle.cw_join.proofs.NameLaws.{nothing, some, piece-begins, pieces-more}
use Rattle.cw_join.proofs.naming.put_pieces.Goals as goal

pub pieces-init : goal.pieces-init
pieces-init g c = record {
  done = [];
  put = prints-none _ _ (tt {0});
  is = refl;
  begins = c.requires.begins;
}

pub returns-in_err-put_marked : goal.returns-in_err-put_marked
returns-in_err-put_marked g c =
    let there : 0 < length c.pieces.rest.now = some c.pieces.rest.now (sym c.is_empty.ensures ∙ c.pieces-test.true) in
    prints-failing (pieces-more c.pieces.invariant.done c.args.bytes.now c.pieces.rest.now c.split_at.result.0.now
    c.split_at.result.1.now c.piece_size-size.result c.pieces.invariant.is c.pieces.invariant.begins there
    c.piece_size-size.ensures.size c.split_at.ensures.front c.split_at.ensures.back) (prints-longer (name_bytes
    c.split_at.result.1.now) (prints-then c.pieces.invariant.put c.in_err-put_marked.ensures)) c.from_residual.ensures.1

pub pieces-preserved : goal.pieces-preserved
pieces-preserved g c =
    let there : 0 < length c.pieces.rest.now = some c.pieces.rest.now (sym c.is_empty.ensures ∙ c.pieces-test.true) in
    record {
      done = c.pieces.invariant.done ++ (92 ∷ c.split_at.result.0.now);
      put = prints-then c.pieces.invariant.put c.in_ok-put_marked.ensures;
      is = pieces-more c.pieces.invariant.done c.args.bytes.now c.pieces.rest.now c.split_at.result.0.now
          c.split_at.result.1.now c.piece_size-size.result c.pieces.invariant.is c.pieces.invariant.begins there
          c.piece_size-size.ensures.size c.split_at.ensures.front c.split_at.ensures.back;
      begins = piece-begins c.pieces.rest.now c.split_at.result.1.now c.piece_size-size.result there
          c.piece_size-size.ensures.size c.split_at.ensures.back;
    }

pub returns : goal.returns
returns g c =
    let rest : List ℕ = c.pieces.rest.now in
    let over : [] ≡ rest = nothing rest (eqb-true (length rest) 0 (sym c.is_empty.ensures ∙ c.pieces-test.false)) in
    prints-bytes (sym (append-nil c.pieces.invariant.done)
    ∙ ap (λ (l : List ℕ). c.pieces.invariant.done ++ name_bytes l) over ∙ c.pieces.invariant.is) c.pieces.invariant.put
