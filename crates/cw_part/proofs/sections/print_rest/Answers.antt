-- Definitions, then the C part, and then what ends the section.
use Rattle.cw_part.proofs.Terms.{ℕ, refl, sym, ap, ◌∙◌, subst, List, arith, can-after, puts-bytes, Entry, Definition}
use Rattle.cw_part.proofs.Terms.{printed_definitions, definitions_done, first_opening, part_by, part_setting, ending}
use Rattle.cw_part.proofs.Terms.{rest_by, AreNamesOf, Counts, Done, as_it_is, done_then, Lasting, Setting, lasting}
use Rattle.cw_part.proofs.SectionLaws.{moved, sums-are}
use Rattle.cw_press.proofs.WovenLaws.{AreSums, bytes-refused, no_counts, nothing-more, weaves-bytes, weaves-stopped}
use Rattle.cw_press.proofs.WovenLaws.{weaving-begun, weaving-last, weaving-last-stopped, weaving-next, weaving-stopped}
use Rattle.cw_press.proofs.WovenLaws.{weaving-wanting}
use Rattle.cw_part.proofs.sections.print_rest.Goals as goal

none-before : (counts : Counts) → AreSums counts no_counts counts
none-before counts = record { scraps = omega arith; productions = omega arith }

pub returns-in_err-counts-clause-weaves : goal.returns-in_err-counts-clause-weaves
returns-in_err-counts-clause-weaves g c = weaves-stopped _ c.in_err-counts.ensures.weaves c.from_residual.ensures.1

pub print_c_part-requires : goal.print_c_part-requires
print_c_part-requires g c = record {
  can = can-after c.requires.can c.in_ok-counts.ensures.weaves.puts;
  short = c.requires.short;
  whole = c.requires.whole.c_part;
  kept = subst (λ (l : Lasting). AreNamesOf l.sec_names l.name_uses) (sym c.in_ok-counts.ensures.weaves.same)
      c.requires.kept;
}

pub returns-in_err-more-clause-weaves : goal.returns-in_err-more-clause-weaves
returns-in_err-more-clause-weaves g c =
    let s : Setting = part_setting c.args.p (lasting c.args.book.now) in
    let ds : List Definition = printed_definitions c.args.p.text.now c.args.section.definitions in
    let part : List Entry → Done ℕ = part_by c.args.p.beside s c.args.section in
    let end : List Entry → Done ℕ = as_it_is (ending s c.args.section) in
    weaving-stopped part end (weaving-next (definitions_done s (first_opening c.args.p.beside) ds) (λ names. done_then
    (part names) end) (weaving-begun s (rest_by c.args.p.beside s c.args.section) _ {counts = no_counts}
    (record { scraps = refl; productions = refl })) c.in_ok-counts.ensures.weaves (none-before c.in_ok-counts.counts))
    (moved c.args.p (λ (t : Setting). part_by c.args.p.beside t c.args.section c.print_definitions.new.book.names)
    c.in_ok-counts.ensures.weaves.same c.in_err-more.ensures.weaves) c.from_residual-in_err-more.ensures.1

pub returns-in_err-counts-2-clause-weaves : goal.returns-in_err-counts-2-clause-weaves
returns-in_err-counts-2-clause-weaves g c =
    let s : Setting = part_setting c.args.p (lasting c.args.book.now) in
    let ds : List Definition = printed_definitions c.args.p.text.now c.args.section.definitions in
    let part : List Entry → Done ℕ = part_by c.args.p.beside s c.args.section in
    let end : List Entry → Done ℕ = as_it_is (ending s c.args.section) in
    weaving-wanting (weaving-next part end (weaving-next (definitions_done s (first_opening c.args.p.beside) ds)
    (λ names. done_then (part names) end) (weaving-begun s (rest_by c.args.p.beside s c.args.section) _
    {counts = no_counts} (record { scraps = refl; productions = refl })) c.in_ok-counts.ensures.weaves
    (none-before c.in_ok-counts.counts)) (moved c.args.p (λ (t : Setting). part_by c.args.p.beside t c.args.section
    c.print_definitions.new.book.names) c.in_ok-counts.ensures.weaves.same c.in_ok-more.ensures.weaves)
    (sums-are c.in_ok-counts.counts c.in_ok-more.more)) c.from_residual-in_err-counts-2.ensures.1

pub put_ending-requires : goal.put_ending-requires
put_ending-requires g c = record {
  can = can-after (can-after c.requires.can c.in_ok-counts.ensures.weaves.puts) c.in_ok-more.ensures.weaves.puts;
}

pub returns-in_err-put_ending-clause-weaves : goal.returns-in_err-put_ending-clause-weaves
returns-in_err-put_ending-clause-weaves g c =
    let s : Setting = part_setting c.args.p (lasting c.args.book.now) in
    let ds : List Definition = printed_definitions c.args.p.text.now c.args.section.definitions in
    let part : List Entry → Done ℕ = part_by c.args.p.beside s c.args.section in
    let end : List Entry → Done ℕ = as_it_is (ending s c.args.section) in
    weaving-last-stopped (weaving-next part end (weaving-next (definitions_done s (first_opening c.args.p.beside) ds)
    (λ names. done_then (part names) end) (weaving-begun s (rest_by c.args.p.beside s c.args.section) _
    {counts = no_counts} (record { scraps = refl; productions = refl })) c.in_ok-counts.ensures.weaves
    (none-before c.in_ok-counts.counts)) (moved c.args.p (λ (t : Setting). part_by c.args.p.beside t c.args.section
    c.print_definitions.new.book.names) c.in_ok-counts.ensures.weaves.same c.in_ok-more.ensures.weaves)
    (record { scraps = c.in_ok-counts-2.ensures.scraps; productions = c.in_ok-counts-2.ensures.productions }))
    (bytes-refused (puts-bytes (ap (λ (l : Lasting). ending (part_setting c.args.p l) c.args.section)
    (c.in_ok-more.ensures.weaves.same ∙ c.in_ok-counts.ensures.weaves.same)) c.in_err-put_ending.ensures.puts) refl)
    c.from_residual-in_err-put_ending.ensures.1

pub returns-clause-weaves : goal.returns-clause-weaves
returns-clause-weaves g c =
    let s : Setting = part_setting c.args.p (lasting c.args.book.now) in
    let ds : List Definition = printed_definitions c.args.p.text.now c.args.section.definitions in
    let part : List Entry → Done ℕ = part_by c.args.p.beside s c.args.section in
    let end : List Entry → Done ℕ = as_it_is (ending s c.args.section) in
    weaving-last (weaving-next part end (weaving-next (definitions_done s (first_opening c.args.p.beside) ds) (λ names.
    done_then (part names) end) (weaving-begun s (rest_by c.args.p.beside s c.args.section) _ {counts = no_counts}
    (record { scraps = refl; productions = refl })) c.in_ok-counts.ensures.weaves (none-before c.in_ok-counts.counts))
    (moved c.args.p (λ (t : Setting). part_by c.args.p.beside t c.args.section c.print_definitions.new.book.names)
    c.in_ok-counts.ensures.weaves.same c.in_ok-more.ensures.weaves) (record
    { scraps = c.in_ok-counts-2.ensures.scraps; productions = c.in_ok-counts-2.ensures.productions })) (weaves-bytes
    (puts-bytes (ap (λ (l : Lasting). ending (part_setting c.args.p l) c.args.section) (c.in_ok-more.ensures.weaves.same
    ∙ c.in_ok-counts.ensures.weaves.same)) c.in_ok-put_ending.ensures.puts)) (nothing-more _)
