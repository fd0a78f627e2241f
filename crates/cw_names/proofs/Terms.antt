-- The words in which these proofs speak, from where they are defined.
pub use Rattle.std.proofs.{Math.Dec.ltb, lemmas.Bool.Decides.nat_tests, lemmas.Grind.common_steps}
pub use Rattle.std.proofs.{lemmas.Result.on_ok_weaker, lemmas.Result.on_err_weaker}
pub use Rattle.std.proofs.Common.{◌≡◌, ℕ, zero, suc, Bool, List, [], ◌∷◌, ◌++◌, refl, sym, ap, ◌∙◌, append_assoc}
pub use Rattle.std.proofs.Common.{if◌then◌else◌, arith, false, map, ◌<◌, ◌≤◌, ◌≢◌, ◌==◌, ◌||◌, ◌&&◌, true, ◌+◌, ◌-◌}
pub use Rattle.std.proofs.Common.{max, length, get_or, set, insert, filter, Vec, Global, Some, None, length-append, not}
pub use Rattle.std.proofs.Common.{cond, slice_get, subst, IsTrue, Bor, drop, drop-cons, nat_eq, take, rules}
pub use Rattle.std.proofs.lemmas.List.{map-append, append-nil, length-map, drop_all}
pub use Rattle.std.proofs.lemmas.List.Sorted.{IsPartitionedBy-ltb, IsPartitionPoint-from_clause}
pub use Rattle.std.proofs.lemmas.List.Sums.{fold-append, prefix_len-le-length}
pub use Rattle.std.specs.List.{AllByRecursion, position, position_or_len, list_all}
pub use Rattle.std.specs.Map.{keys_of}
pub use Rattle.cw_base.proofs.TestLaws.{both-left, both-right, both}
pub use Rattle.cw_base.specs.{Category.is_end, declared.category.Cat.Cat}
pub use Rattle.cw_base.specs.declared.category.Cat.TheVariants.{Exp, End, RawInt}
pub use Rattle.cw_names.specs.{model.Inside.entry_of, model.Inside.is_wanted, model.Inside.has_no_end_entry}
pub use Rattle.cw_names.specs.{model.Noted.sections_at, model.Noted.with_mention, model.Table.with_word}
pub use Rattle.cw_names.specs.{model.Table.row, model.Table.with_table, Words.built_in_words, Words.words_of}
pub use Rattle.cw_names.specs.{Words.BeginsWithWords, declared.entry.EntryKind.EntryKind, declared.entry.Key.Key}
pub use Rattle.cw_names.specs.{declared.xrefs.Occurrence.Occurrence, declared.xrefs.SectionRef.SectionRef}
pub use Rattle.cw_names.specs.Mentions.{AreAscending, above_all, any_in, any_underlined_in, is_of_section, mentions}
pub use Rattle.cw_names.specs.Mentions.{sections_in}
pub use Rattle.cw_names.specs.Names.{Entry, with_entry, with_category, is_entry, AreDistinct, place_of}
pub use Rattle.indexmap.specs.IndexMap.{insert_entry, set_value_at}
