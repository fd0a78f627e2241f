-- The notes on one section more.
use Rattle.cw_phase1.proofs.Terms.{sym, arith, append-nil, get_or_from_slice_get, slice_get_within}
use Rattle.cw_phase1.proofs.MissingLaws.{equals-more, none_missing}
use Rattle.cw_phase1.proofs.missing.Search.note_sections.Goals as goal

pub returns-then-not-has_undefined : goal.returns-then-not-has_undefined
returns-then-not-has_undefined c = sym (grind (arith, none_missing, append-nil))

pub note_section-requires : goal.note_section-requires
note_section-requires c = grind (arith, get_or_from_slice_get, slice_get_within)

pub loop-k-preserved : goal.loop-k-preserved
loop-k-preserved c = equals-more _ _ _ _ c.loop-k.k _ _ _ _ c.at.ensures c.in_ok-note_section.ensures c.loop-k.invariant
