-- The words in which these proofs speak, from where they are defined.
pub use Rattle.std.proofs.Common.{◌≡◌, ◌≢◌, ℕ, zero, suc, ◌+◌, ◌<◌, ◌≤◌, Bool, true, false, not, ◌&&◌, eqb, List, []}
pub use Rattle.std.proofs.Common.{◌∷◌, ◌++◌, length, take, slice_get, Option, Some, None, IfSome, is_some, refl, sym}
pub use Rattle.std.proofs.Common.{◌∙◌, ap, subst, arith, if◌then◌else◌, map}
pub use Rattle.cw_logs.specs.Judging.{same_item, differs_from, refused_by, common, LogPosition, Judges, StandsAt}
pub use Rattle.cw_logs.specs.Judging.{StopsWithin, told_alone, verdict_of}
