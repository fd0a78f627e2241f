-- The words in which these proofs speak, from where they are defined.
pub use Rattle.std.proofs.Common.{◌≡◌, ℕ, inl, inr, Bool, true, false, List, [], ◌∷◌, ◌++◌, All, length, refl, sym, ap}
pub use Rattle.std.proofs.Common.{subst, ◌∙◌, Some, ◌+◌, ◌≤◌, ◌<◌, arith, get_or, drop, suc, Option, rules}
pub use Rattle.std.proofs.lemmas.Grind.{common_steps}
pub use Rattle.std.proofs.lemmas.List.{append_assoc, map-append, drop-map, length-map}
pub use Rattle.std.proofs.lemmas.List.Elements.{All-push, All-tail, All-nil, All-cons}
pub use Rattle.cw_answers.specs.model.Kept.{IsWithin, answers_at, BeginWith, StandsIn, answer_at}
pub use Rattle.cw_answers.specs.Reading.{Stays, IsReadUp, Reading}
pub use Rattle.cw_answers.specs.model.Reading.{Goes, GoesByNote, IsReading, Stand, all_of}
pub use Rattle.cw_answers.specs.declared.kept_answer.KeptAnswer.{KeptAnswer}
pub use Rattle.cw_rules.specs.Answers.{Answer, Note, Token, Begin, Finish, Seen, Gives, seen}
