-- The models beside `specs/Reading`.
use Rattle.std.specs.Prelude.{List, [], ◌∷◌, ◌++◌}
use Rattle.cw_base.specs.declared.flags.Flags.{Flags}
use Rattle.cw_translator.specs.Translating.{Made}
use Rattle.cw_translator.specs.Translating.{Ended, state_in, end_from}
use Rattle.cw_translator.specs.Reading.{Frame, Progress, last_scraps, CText, Comment}

-- what is made stands behind what is open
abbrev pub extended : Made → List Frame → List Frame
extended m (CText scraps ∷ frames) = CText (scraps ++ m.scraps) ∷ frames
extended m (Comment held_by items ∷ frames) = Comment held_by (items ++ m.items) ∷ frames
extended m [] = []

abbrev pub with_made : List Frame → Made → Progress
with_made frames m = record { frames = extended m frames; known = m.known }

abbrev pub all_ended : Flags → Progress → Ended
all_ended flags p = end_from flags (state_in (last_scraps p.frames) p.known) p.known
