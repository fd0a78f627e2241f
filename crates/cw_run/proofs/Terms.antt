-- The words in which these proofs speak, from where they are defined.
pub use Rattle.std.proofs.Common.{◌≡◌, ℕ, ◌+◌, ◌<◌, List, [], ◌∷◌, ◌++◌, Result, Err, length, take, drop, get_or, sym}
pub use Rattle.std.proofs.Common.{ap, ◌∙◌, refl, true, false, codes, Bool, arith, not}
pub use Rattle.std.proofs.lemmas.Grind.{flat_map-append, common_steps}
pub use Rattle.std.specs.{List.flat_map, Prelude.IsErrAnd, Prelude.decimal}
pub use Rattle.cw_base.specs.{declared.event.Event.Event, declared.event.Out.TheVariants.Term}
pub use Rattle.cw_base.specs.declared.exit.Exit.TheVariants.{Clean, Errors}
pub use Rattle.cw_desk.specs.Journal.{byte_events}
pub use Rattle.cw_lines.specs.Writes.{Adds, HasAdded}
pub use Rattle.cw_lines.specs.laws.WritesLaws.{adds-events, adds-stop, adds-then, adds-none}
pub use Rattle.cw_run.specs.{Closing.closing_run, Closing.has_error, Notes.broken_line, Notes.note_events}
pub use Rattle.cw_run.specs.{Notes.note_line, Saying.says, Saying.says_if, Statistics.statistics}
pub use Rattle.cw_run.specs.{Statistics.statistics_if}
pub use Rattle.cw_run.specs.laws.EmitsLaws.{made-opens, turns-emits, draft-drafts, draft-opens, adds-emits, emits-value}
pub use Rattle.cw_run.specs.laws.EmitsLaws.{runs-fail, runs-stop, runs-then, runs-known}
