-- The answers of a scanner, one after another: which come next, and where they begin.
use Rattle.cw_reduce.proofs.Terms.{◌≡◌, ℕ, true, false, ◌<◌, List, [], ◌∷◌, ◌++◌, arith, Answer, Finish, Note, Gives}
use Rattle.cw_reduce.proofs.Terms.{until_section, Lexed, ends_text, StartsBelow, answers_in}
use Rattle.cw_rules.specs.Order.{AreWithin}

-- the answers of a call before the others
pub gives-is : (old new : List Answer) (answer : Lexed) → Gives old answer new → old ≡ answers_in answer ++ new
gives-is old new answer g = grind arith

pub starts-split : (limit : ℕ) (xs ys : List Answer) → StartsBelow limit (xs ++ ys)
    → StartsBelow limit xs × StartsBelow limit ys
starts-split limit [] ys h = (tt, h)
starts-split limit (Finish t ∷ xs) ys h = starts-split limit xs ys h
starts-split limit (Note n place ∷ xs) ys h = starts-split limit xs ys h
starts-split limit (x ∷ xs) ys h = grind (arith, starts-split limit xs ys h.1)

pub within-starts : (limit start end : ℕ) (answers : List Answer) → end < limit → AreWithin start end answers
    → StartsBelow limit answers
within-starts limit start end [] e h = tt
within-starts limit start end (Finish t ∷ answers) e h = within-starts limit start end answers e h.1
within-starts limit start end (Note n place ∷ answers) e h = within-starts limit start end answers e h
within-starts limit start end (x ∷ answers) e h = grind (arith, within-starts limit start end answers e h.1)

pub until-goes : (old new : List Answer) (answer : Lexed) → Gives old answer new → ends_text answer ≡ false
    → until_section old ≡ answers_in answer ++ until_section new
until-goes old new answer g e = grind (arith, until_section)

-- the next answer begins below, and so do those behind it
pub starts-next : (limit : ℕ) (old new : List Answer) (answer : Lexed) → Gives old answer new → StartsBelow limit old
    → StartsBelow limit (answers_in answer) × StartsBelow limit new
starts-next limit old new answer g h = grind (arith, starts-split, answers_in, gives-is)

pub until-ends : (old new : List Answer) (answer : Lexed) → Gives old answer new → ends_text answer ≡ true
    → until_section old ≡ []
until-ends old new answer g e = grind (arith, until_section)
