-- What is listed, with the names that are still to be listed, is the list.
use Rattle.cw_index.proofs.Terms.{◌≡◌, ◌++◌, map, listed_names, stand_of}
use Rattle.cw_index.proofs.standing.listed_names.Given as goal

abbrev pub invariant-loop-stand : goal.invariant-loop-stand
invariant-loop-stand l =
    l.listed.items ++ map (λ s. s.listed) (map stand_of l.stand-iterator) ≡ listed_names l.names l.uses
