-- A scan whose answers may be kept: those that are still to come, and all of them where each is kept.
use Rattle.std.specs.Prelude.{◌≡◌, ◌⊎◌, List, [], Option, None}
use Rattle.cw_rules.specs.Answers.{Answer}

pub record Reading : Type 0 where
  pub coming : List Answer
  pub all : Option (List Answer)

-- All answers are known as before, or no more.
abbrev pub Stays : Option (List Answer) → Option (List Answer) → Type 0
Stays old new = (new ≡ old) ⊎ (new ≡ None)

-- No answer is still to come, and all are known as before, or no more.
pub record IsReadUp (old new : Reading) : Type 0 where
  pub ended : new.coming ≡ []
  pub all : Stays old.all new.all
