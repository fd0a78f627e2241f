-- The models beside `specs/Sights`.
use Rattle.std.specs.Prelude.{Option, Some, None, map}
use Rattle.cw_leaves.specs.Sights.{Utterance, Sight}

-- ## Other names

abbrev pub renamed_heard : {M N : Type 0} → (M → N) → Utterance M → Utterance N
renamed_heard f h = record { names = map f h.names; stops = h.stops }

abbrev pub renamed_bare : {M N : Type 0} → (M → N) → Option M → Option N
renamed_bare f None = None
renamed_bare f (Some name) = Some (f name)

abbrev pub renamed : {M N : Type 0} → (M → N) → Sight M → Sight N
renamed f s = record { cat = s.cat; bare = renamed_bare f s.bare; heard = renamed_heard f s.heard }
