-- The definitions so far are woven.
use Rattle.cw_part.proofs.Terms.{All, length, not_silent, printed_definitions, definitions_done, first_opening}
use Rattle.cw_part.proofs.Terms.{part_setting, IsWholeDefinition, IsSameSheet, lasting, press}
use Rattle.cw_press.proofs.WovenLaws.{Weaving}
use Rattle.cw_part.proofs.sections.print_definitions.Given as goal

abbrev pub invariant-printed : goal.invariant-printed
invariant-printed g l = let told = g.D.Desk.told in record {
  woven : Weaving (part_setting l.p (lasting l.fn.book)) (definitions_done (part_setting l.p (lasting l.fn.book))
      l.front (not_silent l.definitions)) (definitions_done (part_setting l.p (lasting l.fn.book))
      (first_opening l.p.beside) (printed_definitions l.p.text.now l.fn.part) l.fn.book.names)
      (press told l.fn.book l.fn.sheet l.fn.steps) (press told l.book l.sheet l.steps) l.counts;
  same : IsSameSheet l.fn.sheet l.sheet;
  whole : All (IsWholeDefinition l.p.text.now) (not_silent l.definitions);
}

abbrev pub decreases-printed : goal.decreases-printed
decreases-printed g l = length (not_silent l.definitions)
