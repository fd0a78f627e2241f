-- Each line goes behind those before it.
use Rattle.cw_index.proofs.Terms.{ℕ, All, List, ap, map, subst, sym, flat_map, All-tail, Heading, IsNamed, row_of}
use Rattle.cw_index.proofs.Terms.{row_bytes, IndexRow, printing-as, printing-begun}
use Rattle.cw_index.proofs.PrintingLaws.{printing-next, printing-stop}
use Rattle.cw_index.proofs.index.put_headings.Goals as goal

pub loop-heading-init : goal.loop-heading-init
loop-heading-init g c = record {
  put = printing-as (ap (λ (headings : List Heading). flat_map (row_bytes c.args.book.now.outline.sections)
      (map row_of headings)) (sym c.into_iter-heading-iterator.ensures.into_iter_gives.0)) (printing-begun _ _ _);
  named = subst (All (IsNamed c.args.book.now.names))
      (sym c.into_iter-heading-iterator.ensures.into_iter_gives.0) c.requires.named;
}

pub returns-in_err-put_heading : goal.returns-in_err-put_heading
returns-in_err-put_heading g c =
    let f : IndexRow → List ℕ = row_bytes c.args.book.now.outline.sections in
    printing-stop (f (row_of c.in-Some.heading)) (flat_map f (map row_of c.next.new.self))
    (printing-as (ap (λ (headings : List Heading). flat_map f (map row_of headings)) c.in-Some.ensures.steps)
    c.loop-heading.invariant.put) c.in_err-put_heading.ensures c.from_residual.ensures.1

pub loop-heading-preserved : goal.loop-heading-preserved
loop-heading-preserved g c =
    let f : IndexRow → List ℕ = row_bytes c.args.book.now.outline.sections in
    record {
      put = printing-next (f (row_of c.in-Some.heading)) (flat_map f (map row_of c.next.new.self))
          (printing-as (ap (λ (headings : List Heading). flat_map f (map row_of headings)) c.in-Some.ensures.steps)
          c.loop-heading.invariant.put) c.in_ok-put_heading.ensures;
      named = All-tail (IsNamed c.args.book.now.names) c.in-Some.heading c.next.new.self
          (subst (All (IsNamed c.args.book.now.names)) c.in-Some.ensures.steps c.loop-heading.invariant.named);
    }
