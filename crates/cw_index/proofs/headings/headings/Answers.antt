-- The next name is entered.
use Rattle.cw_index.proofs.Terms.{◌≡◌, ◌∙◌, Some, map, subst, slice_get, NameId, IsNamed, entry_of, row_of}
use Rattle.cw_index.proofs.RowLaws.{drop-at, later-step}
use Rattle.cw_index.proofs.headings.headings.Goals as goal

pub loop-index-preserved : goal.loop-index-preserved
loop-index-preserved c =
    let heading = c.heading_of-heading.result in
    let named : IsNamed c.args.names.now heading = c.heading_of-heading.ensures.named in
    let there : slice_get c.args.names.now c.loop-index.index ≡ Some (entry_of heading) = subst (λ (id : NameId).
    slice_get c.args.names.now id.index ≡ Some (entry_of heading)) c.heading_of-heading.ensures.id named in
    record {
      rows = later-step c.args.names.now c.args.xrefs.now (map row_of c.loop-index.headings.keys)
          (map row_of c.enter.new.headings.keys) c.loop-index.index heading
          (drop-at c.args.names.now c.loop-index.index (entry_of heading) there) (c.heading_of-heading.ensures.row
          (entry_of heading) there) c.in_ok-enter.ensures.rows ∙ c.loop-index.invariant.rows;
      named = c.in_ok-enter.ensures.named c.args.names.now c.loop-index.invariant.named named;
    }
