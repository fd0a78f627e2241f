-- All answers stay known over several steps.
use Rattle.cw_answers.proofs.Terms.{inl, inr, List, Option, ◌∙◌, Answer, IsReadUp, Reading, Stays}

pub stays-trans : (a b c : Option (List Answer)) → Stays a b → Stays b c → Stays a c
stays-trans a b c (inl e) (inl f) = inl (f ∙ e)
stays-trans a b c (inr e) (inl f) = inr (f ∙ e)
stays-trans a b c h (inr f) = inr f

-- the rest is read behind a part
pub read-up-behind : (a b c : Reading) → Stays a.all b.all → IsReadUp b c → IsReadUp a c
read-up-behind a b c h r = record { ended = r.ended; all = stays-trans a.all b.all c.all h r.all }
