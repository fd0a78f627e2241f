-- What was handed on of a run: where the desk above gathered more, a first part of it.
use Rattle.std.specs.Prelude.{◌≡◌, ◌≢◌, ◌⊎◌, ℕ, ◌+◌, ◌-◌, ◌≤◌, List, [], ◌++◌, take, drop, length}
use Rattle.std.specs.FinMap.{get}
use Rattle.std.proofs.Common.{inl, inr, sym, ap, ◌∙◌, subst, arith, length-append, append_assoc}
use Rattle.std.proofs.lemmas.List.{take-append-drop, take-append-le, take_all}
use Rattle.std.proofs.Math.Seq.{take-append-add}
use Rattle.cw_base.specs.declared.event.Event.{Event}
use Rattle.cw_base.specs.declared.exit.Exit.{Exit}
use Rattle.cw_base.specs.declared.exit.Exit.TheVariants.{Clean, Errors, Fault, Memory}
use Rattle.cw_desk.specs.Answer.{Agree, Answer, NoneAgree}
use Rattle.cw_desk.specs.Journal.{grown, GrownByPart}
use Rattle.cw_desk.specs.laws.JournalLaws.{part-first}
use Rattle.cw_desk.specs.Meaning.{Files, NamedFiles}
use Rattle.cw_run.specs.Emits.{Run}
use Rattle.cw_run.specs.Program.{Outcome, OverSome}

-- what comes behind the beginning of a first part
behind : (old xs rest : List Event) {new : List Event} → new ++ rest ≡ old ++ xs → length old ≤ length new
    → new ≡ old ++ take (length new - length old) xs
behind old xs rest {new = new} same longer =
    let more : length old + (length new - length old) ≡ length new = omega (arith, longer) in
    sym (take-append-le (length new) new rest (omega arith) ∙ take_all (length new) new (omega arith))
    ∙ ap (take (length new)) same
    ∙ ap (λ (n : ℕ). take n (old ++ xs)) (sym more)
    ∙ take-append-add old xs (length new - length old)

-- The desk below has a first part of what the desk above has, and no less than it had at first: so it has gone on by a
-- first part.
pub handed-part : (old xs rest : List Event) {new : List Event} → new ++ rest ≡ old ++ xs
    → length old ≤ length new → GrownByPart old new xs
handed-part old xs rest {new = new} same longer = record {
  count = length new - length old;
  within = omega (arith, longer, ap length same, length-append new rest, length-append old xs);
  journal = behind old xs rest same longer;
}

-- what was told begins with what was handed on
pub rest-told : {mid new events : List Event} (part : GrownByPart mid new events)
    → new ++ drop part.count events ≡ grown mid events
rest-told {mid = mid} {events = events} part =
    ap (λ (journal : List Event). journal ++ drop part.count events) part.journal
    ∙ append_assoc mid (take part.count events) (drop part.count events)
    ∙ ap (grown mid) (take-append-drop part.count events)

-- a first part of a first part
part-of_part : (old new : List Event) (count : ℕ) (events : List Event) → GrownByPart old new (take count events)
    → GrownByPart old new events
part-of_part old new count events part =
    subst (λ (all : List Event). GrownByPart old new all) (take-append-drop count events)
    (part-first (drop count events) part)

-- what the run emitted, or a first part of it, and of that what was handed on
stopped-part : (run : Run) (old told new rest : List Event) (exit : Exit) → new ++ rest ≡ told
    → length old ≤ length new → Outcome run old told exit → GrownByPart old new run.rest
stopped-part run old told new rest Clean same longer done = handed-part old run.rest rest (same ∙ done.0) longer
stopped-part run old told new rest Errors same longer done = handed-part old run.rest rest (same ∙ done.0) longer
stopped-part run old told new rest Fault same longer part =
    part-of_part old new part.count run.rest
    (handed-part old (take part.count run.rest) rest (same ∙ part.journal) longer)
stopped-part run old told new rest Memory same longer part =
    part-of_part old new part.count run.rest
    (handed-part old (take part.count run.rest) rest (same ∙ part.journal) longer)

whole-outcome : (run : Run) (old told new : List Event) (exit final : Exit) → (final ≡ exit) × (new ≡ told)
    → Outcome run old told exit → Outcome run old new final
whole-outcome run old told new exit final is done =
    subst (λ (journal : List Event). Outcome run old journal final) (sym is.1)
    (subst (λ (e : Exit). Outcome run old told e) (sym is.0) done)

-- The run as the desk below has it at the end.
pub outcome-end : (run : Run) (old told new rest : List Event) (exit final : Exit) → new ++ rest ≡ told
    → length old ≤ length new
    → (final ≢ Fault → final ≢ Memory → (final ≡ exit) × (new ≡ told))
    → Outcome run old told exit → Outcome run old new final
outcome-end run old told new rest exit Clean same longer whole done =
    whole-outcome run old told new exit Clean (whole (λ e. cc) (λ e. cc)) done
outcome-end run old told new rest exit Errors same longer whole done =
    whole-outcome run old told new exit Errors (whole (λ e. cc) (λ e. cc)) done
outcome-end run old told new rest exit Fault same longer whole done =
    stopped-part run old told new rest exit same longer done
outcome-end run old told new rest exit Memory same longer whole done =
    stopped-part run old told new rest exit same longer done

-- What was done over all files that agree, from an empty journal on, was done over some of them, or none agree.
pub over-some : (run : NamedFiles → Run) (answers : List Answer) (before now : List Event) (exit : Exit) → before ≡ []
    → ((files : Files) → Agree answers files → Outcome (run (get files)) before now exit)
    → ((files : Files) × Agree answers files) ⊎ NoneAgree answers → OverSome run answers now exit
over-some run answers before now exit none done (inl some) = inl (
  some.0,
  some.1,
  subst (λ (journal : List Event). Outcome (run (get some.0)) journal now exit) none (done some.0 some.1),
)
over-some run answers before now exit none done (inr not_any) = inr not_any
