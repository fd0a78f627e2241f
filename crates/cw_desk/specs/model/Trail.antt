-- The models beside `specs/Trail`.
use Rattle.std.specs.Prelude.{◌≡◌, ◌⊎◌, ℕ, List, [], refl}
use Rattle.std.proofs.Common.{inl, inr}
use base.Stored.{coded_unit}
use Rattle.std.specs.Coded.{Coded, code_by, coded_ℕ, coded_list, coded×, coded⊎}
use Rattle.cw_base.specs.declared.event.Event.{Event}
use Rattle.cw_base.specs.declared.event.Event.TheVariants.{Made, Byte, Drafted, Kept, Replaced}
use Rattle.cw_base.specs.declared.event.Out.{Out}
use Rattle.cw_base.specs.declared.event.Out.TheVariants.{Term, Tex, Idx, Scn}
use Rattle.cw_desk.specs.Answer.{Answer, coded_answer}
use Rattle.cw_desk.specs.Trail.{TrailState}

abbrev pub nothing : TrailState
nothing = record { heard = []; journal = [] }

-- ## Codes, so that a ghost field can hold it

abbrev pub Four : Type 0
Four = (Unit {0} ⊎ Unit {0}) ⊎ (Unit {0} ⊎ Unit {0})

abbrev pub four : Out → Four
four Term = inl (inl tt)
four Tex = inl (inr tt)
four Idx = inr (inl tt)
four Scn = inr (inr tt)

abbrev pub from_four : Four → Out
from_four (inl (inl _)) = Term
from_four (inl (inr _)) = Tex
from_four (inr (inl _)) = Idx
from_four (inr (inr _)) = Scn

pub from-four : (out : Out) → from_four (four out) ≡ out
from-four Term = refl
from-four Tex = refl
from-four Idx = refl
from-four Scn = refl

abbrev pub coded_out : Coded Out
coded_out = code_by Four (coded⊎ (coded⊎ coded_unit coded_unit) (coded⊎ coded_unit coded_unit)) four from_four from-four

abbrev pub Named : Type 0
Named = Out × List ℕ

abbrev pub TrailCases : Type 0
TrailCases = (Named ⊎ Named) ⊎ ((Out × ℕ) ⊎ (Out ⊎ Out))

abbrev pub trail_cases : Event → TrailCases
trail_cases (Made out name) = inl (inl (out, name))
trail_cases (Drafted out name) = inl (inr (out, name))
trail_cases (Byte out byte) = inr (inl (out, byte))
trail_cases (Kept out) = inr (inr (inl out))
trail_cases (Replaced out) = inr (inr (inr out))

abbrev pub from_trail_cases : TrailCases → Event
from_trail_cases (inl (inl p)) = Made p.0 p.1
from_trail_cases (inl (inr p)) = Drafted p.0 p.1
from_trail_cases (inr (inl p)) = Byte p.0 p.1
from_trail_cases (inr (inr (inl out))) = Kept out
from_trail_cases (inr (inr (inr out))) = Replaced out

pub from-trail-cases : (event : Event) → from_trail_cases (trail_cases event) ≡ event
from-trail-cases (Made out name) = refl
from-trail-cases (Drafted out name) = refl
from-trail-cases (Byte out byte) = refl
from-trail-cases (Kept out) = refl
from-trail-cases (Replaced out) = refl

abbrev pub coded_named : Coded Named
coded_named = coded× coded_out (coded_list coded_ℕ)

abbrev pub coded_event : Coded Event
coded_event = code_by TrailCases
    (coded⊎ (coded⊎ coded_named coded_named) (coded⊎ (coded× coded_out coded_ℕ) (coded⊎ coded_out coded_out)))
    trail_cases from_trail_cases from-trail-cases

abbrev pub coded_noted : Coded TrailState
coded_noted = code_by (List Answer × List Event) (coded× (coded_list coded_answer) (coded_list coded_event))
    (λ (n : TrailState). (n.heard, n.journal)) (λ (p : List Answer × List Event). record { heard = p.0; journal = p.1 })
    (λ (n : TrailState). refl)
