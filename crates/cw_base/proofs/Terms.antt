-- The words in which these proofs speak, from where they are defined.
pub use Rattle.std.proofs.{lemmas.Bool.Decides.nat_tests, lemmas.Bool.Decides.leb_tells, lemmas.Grind.common_steps}
pub use Rattle.std.proofs.{raw_atomic.Walks.proved}
pub use Rattle.std.proofs.Common.{◌≡◌, ℕ, ◌+◌, ◌-◌, ◌≤◌, List, [], ◌∷◌, ◌++◌, length, drop, get_or, slice_range, refl}
pub use Rattle.std.proofs.Common.{ap, ◌∙◌, sym, suc, arith, append_assoc, length-append, length-drop, length-take}
pub use Rattle.std.proofs.Common.{drop-drop, take-append-drop, Bool, true, false, not, ◌&&◌, ◌||◌, ◌≢◌, ◌<◌, ◌==◌, ◌⊎◌}
pub use Rattle.std.proofs.Common.{zero, Some, ◌*◌, ◌^◌, map, add-zero, zero-add, min, w64, eqb, inl, inr, ltb, bytes_eq}
pub use Rattle.std.proofs.lemmas.Bool.{ltb-false, ltb-true, eqb-true, lt-ltb}
pub use Rattle.std.proofs.lemmas.List.{drop_all, drop_more, drop-append-le, take-append-le, get_or_append_left}
pub use Rattle.std.proofs.lemmas.List.{get_or_at, drop_at, take_at, get_or-map, get_or_read}
pub use Rattle.std.specs.{List.list_all, List.list_any, Prelude.slice_get, Prelude.bit_and}
pub use Rattle.cw_base.specs.{Category.all_cats, Category.number_of, Category.in_set, Web.text_of, Web.info_from}
pub use Rattle.cw_base.specs.{Web.infos_of, Web.WebState, declared.category.Cat.Cat, declared.web.LineInfo.LineInfo}
