-- A line is copied behind another.
use Rattle.cw_texpart.proofs.Terms.{ℕ, ◌+◌, ◌==◌, List, [], ◌∷◌, get_or, arith, slice_range, HasNoLineEnd, same-sheet}
use Rattle.cw_texpart.proofs.Terms.{same-then, can-after, bytes_of, copied, ink_by, prints}
use Rattle.cw_texpart.proofs.LayingLaws.{copy-line, copy-next, copy-none, inking-as, inking-begun, inking-ended}
use Rattle.cw_texpart.proofs.LayingLaws.{inking-line, inking-next, inking-stopped, line-free, line-put}
use Rattle.cw_texpart.proofs.copying.copy.Goals as goal

pub loop-at-init : goal.loop-at-init
loop-at-init g c = record { inked = inking-begun _ _ _; same = same-sheet _ }

pub returns-in_err-put_all : goal.returns-in_err-put_all
returns-in_err-put_all g c = record {
  puts =
      let text : List ℕ = c.args.text.now in
      let at : ℕ = c.loop-at.at in
      let stop : ℕ = at + c.line_size.result in
      let none : HasNoLineEnd (slice_range text at stop) = line-free text at c.line_size.result c.min-end.result
      (omega arith) c.line_size.ensures.none in
      inking-stopped (prints (slice_range text at stop)) (copied text stop (slice_range text stop c.args.span.«end»))
      {all = copied text c.args.span.start (bytes_of text c.args.span)}
      (inking-as (copy-line text at stop c.args.span.«end» (omega arith) (omega arith) (omega arith) none)
      c.loop-at.invariant.inked) (line-put c.in_err-put_all.ensures.puts) c.from_residual.ensures.1;
  same = same-then c.loop-at.invariant.same c.in_err-put_all.ensures.same;
}

pub returns-then-stop-end : goal.returns-then-stop-end
returns-then-stop-end g c = record {
  puts =
      let text : List ℕ = c.args.text.now in
      let stop : ℕ = c.loop-at.at + c.line_size.result in
      let none : HasNoLineEnd (slice_range text c.loop-at.at stop) = line-free text c.loop-at.at c.line_size.result
      c.min-end.result (omega arith) c.line_size.ensures.none in
      inking-ended (inking-as (copy-none text stop c.args.span.«end» (omega arith))
      (inking-line text c.loop-at.at stop c.args.span.«end» (omega arith) (omega arith)
      (omega arith) none c.loop-at.invariant.inked c.in_ok-put_all.ensures.puts));
  same = same-then c.loop-at.invariant.same c.in_ok-put_all.ensures.same;
}

pub copy_byte-requires-clause-can : goal.copy_byte-requires-clause-can
copy_byte-requires-clause-can g c =
    let stop : ℕ = c.loop-at.at + c.line_size.result in
    let none : HasNoLineEnd (slice_range c.args.text.now c.loop-at.at stop) = line-free c.args.text.now c.loop-at.at
    c.line_size.result c.min-end.result (omega arith) c.line_size.ensures.none in
    can-after c.requires.can (inking-line c.args.text.now c.loop-at.at stop c.args.span.«end» (omega arith)
    (omega arith) (omega arith) none c.loop-at.invariant.inked c.in_ok-put_all.ensures.puts).put

pub returns-in_err-copy_byte : goal.returns-in_err-copy_byte
returns-in_err-copy_byte g c = record {
  puts =
      let text : List ℕ = c.args.text.now in
      let at : ℕ = c.loop-at.at in
      let end : ℕ = c.args.span.«end» in
      let stop : ℕ = at + c.line_size.result in
      let none : HasNoLineEnd (slice_range text at stop) = line-free text at c.line_size.result c.min-end.result
      (omega arith) c.line_size.ensures.none in
      inking-stopped (ink_by (get_or text stop 0 == 10) text stop (get_or text stop 0) ∷ []) (copied text (stop + 1)
      (slice_range text (stop + 1) end)) {all = copied text c.args.span.start (bytes_of text c.args.span)}
      (inking-as (copy-next text stop end (omega arith) (omega arith)) (inking-line text at stop end (omega arith)
      (omega arith) (omega arith) none c.loop-at.invariant.inked c.in_ok-put_all.ensures.puts))
      c.in_err-copy_byte.ensures.puts c.from_residual-in_err-copy_byte.ensures.1;
  same = same-then (same-then c.loop-at.invariant.same c.in_ok-put_all.ensures.same) c.in_err-copy_byte.ensures.same;
}

pub loop-at-preserved : goal.loop-at-preserved
loop-at-preserved g c = record {
  inked =
      let text : List ℕ = c.args.text.now in
      let stop : ℕ = c.loop-at.at + c.line_size.result in
      let none : HasNoLineEnd (slice_range text c.loop-at.at stop) = line-free text c.loop-at.at c.line_size.result
      c.min-end.result (omega arith) c.line_size.ensures.none in
      inking-next (ink_by (get_or text stop 0 == 10) text stop (get_or text stop 0) ∷ [])
      (inking-as (copy-next text stop c.args.span.«end» (omega arith) (omega arith))
      (inking-line text c.loop-at.at stop c.args.span.«end» (omega arith) (omega arith)
      (omega arith) none c.loop-at.invariant.inked c.in_ok-put_all.ensures.puts)) c.in_ok-copy_byte.ensures.puts;
  same = same-then (same-then c.loop-at.invariant.same c.in_ok-put_all.ensures.same) c.in_ok-copy_byte.ensures.same;
}

pub returns : goal.returns
returns g c = record {
  puts = inking-ended
      (inking-as (copy-none c.args.text.now c.loop-at.at c.args.span.«end» (omega arith)) c.loop-at.invariant.inked);
  same = c.loop-at.invariant.same;
}
