-- The notes so far, with those of the sections that are left, are those of all sections.
use Rattle.cw_phase1.proofs.Terms.{◌≡◌, ◌++◌, drop, missing_equals}
use Rattle.cw_phase1.proofs.missing.Search.note_sections.Given as goal

abbrev pub invariant-loop-k : goal.invariant-loop-k
invariant-loop-k l = l.notes ++ missing_equals l.self.web.now.lines l.self.uses.now l.self.names.now (drop l.k
    l.sections) ≡ l.fn.notes ++ missing_equals l.self.web.now.lines l.self.uses.now l.self.names.now l.sections
