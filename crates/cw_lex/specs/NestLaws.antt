-- What holds of the nests of nested answers.
use Rattle.std.specs.Prelude.{◌≡◌, false, List, [], ◌∷◌}
use Rattle.cw_rules.specs.Answers.{Answer}
use Rattle.cw_lex.specs.Nested.{IsNested}
use Rattle.cw_lex.specs.Nest.{nests, nest, IsWell}
use Rattle.cw_lex.specs.Heads.{headed, without_head}

-- Nested answers make exactly one nest.
abbrev pub NestedAnswersMakeOneNest : Type 0
NestedAnswersMakeOneNest = (answers : List Answer) → IsNested answers → nests answers ≡ nest answers ∷ []

-- In it all stands where it may.
abbrev pub NestsAreWell : Type 0
NestsAreWell = (answers : List Answer) → IsNested answers → IsWell false (nest answers)

-- The answers behind the head of a text are nested too, and their nest is what stands behind the head.
abbrev pub HeadsLeaveNests : Type 0
HeadsLeaveNests = (answers : List Answer) → IsNested answers
    → IsNested (without_head answers) × (nest (without_head answers) ≡ (headed (nest answers)).rest)
