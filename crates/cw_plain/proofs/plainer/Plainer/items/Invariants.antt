-- The text so far, with that of the items still to come, is the text of all.
use Rattle.cw_plain.proofs.Terms.{◌≡◌, ◌++◌, drop, items_are, items_text, source_of}
use Rattle.cw_plain.proofs.plainer.Plainer.items.Given as goal

abbrev pub invariant-loop-item : goal.invariant-loop-item
invariant-loop-item l = record {
  reads : l.self.reads ≡ l.fn.self.reads;
  text : l.out ++ items_text (source_of l.self.reads) l.self.walk (items_are (drop l.item-index l.fn.items))
      ≡ l.fn.out ++ items_text (source_of l.fn.self.reads) l.fn.self.walk (items_are l.fn.items);
}
