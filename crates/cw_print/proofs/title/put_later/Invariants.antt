-- The numbers so far are appended, and those that are left follow.
use Rattle.cw_print.proofs.Terms.{◌≡◌, ◌++◌, drop, map, flat_map, numbered_in, later_number}
use Rattle.cw_print.specs.model.Titles.{title_of}
use Rattle.cw_print.proofs.title.put_later.Given as goal

abbrev pub invariant-loop-number : goal.invariant-loop-number
invariant-loop-number l = record {
  are : l.number-items ≡ l.title.later.now;
  appended : l.out ++ flat_map later_number (map (numbered_in l.title.book.now.outline.sections)
      (drop l.number-index l.number-items)) ≡ l.fn.out ++ flat_map later_number (title_of l.title).later;
}
