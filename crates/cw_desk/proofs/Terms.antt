-- The words in which these proofs speak, from where they are defined.
pub use Rattle.std.proofs.{lemmas.Grind.common_steps, raw_atomic.Walks.proved}
pub use Rattle.std.proofs.Common.{◌≡◌, ℕ, ◌==◌, List, [], if◌then◌else◌, sym, ap, subst, ◌∙◌, arith, ◌++◌, length, take}
pub use Rattle.std.proofs.Common.{drop, ◌+◌, ◌<◌, cond, ◌∷◌, Option, Some, get_or, ◌-◌, ◌≤◌, length-drop, rules, refl}
pub use Rattle.std.proofs.lemmas.List.{drop_more, drop_all, take-append-drop, take_at, length-take-le, drop-drop}
pub use Rattle.std.proofs.lemmas.List.{take_rest}
pub use Rattle.std.specs.Prelude.{slice_range}
pub use Rattle.std.specs.Cmp.Lexicographic.{slice_cmp, nat_list_cmp_total}
pub use Rattle.std.specs.FinMap.{find, get, from_entries, get-from_entries}
pub use Rattle.std.specs.Ordering.{nat_cmp}
pub use Rattle.cw_desk.specs.{Journal.byte_events, Journal.grown, Mem.MemState, model.Mem.called, model.Mem.counted}
pub use Rattle.cw_desk.specs.{model.Mem.tell_mem, State.DeskState, State.Opens, State.Reads, State.OnlyPuts}
pub use Rattle.cw_desk.specs.{model.Trail.nothing, Trail.noted_after}
