-- One definition goes behind another. Where no bytes stand, there is none.
use Rattle.cw_part.proofs.Terms.{◌≡◌, ℕ, not, refl, sym, ap, subst, All, List, length, arith, All-filter, All-head}
use Rattle.cw_part.proofs.Terms.{All-tail, same-sheet, same-then, can-after, Definition, definitions_in, not_silent}
use Rattle.cw_part.proofs.Terms.{definitions_done, first_opening, part_setting, IsWholeDefinition, AreNamesOf, Lasting}
use Rattle.cw_part.proofs.Terms.{Setting, lasting, weaves-as, nothing-woven}
use Rattle.cw_texts.specs.model.DefinitionForms.{loud}
use Rattle.cw_part.proofs.BareParts.{no-definitions}
use Rattle.cw_part.proofs.SectionLaws.{moved, sums-are, weaving-as}
use Rattle.cw_press.proofs.WovenLaws.{weaving-begun, weaving-ended, weaving-next, weaving-stopped, weaving-wanting}
use Rattle.cw_part.proofs.sections.print_definitions.Goals as goal
use Rattle.cw_rules.specs.declared.tokens.Mode.TheVariants as modes
use Rattle.std.specs.Prelude.{codes, false}
use Rattle.cw_press.specs.Texts.{text_done}
use Rattle.cw_part.specs.Parts.{paragraph}

pub returns-then-part-clause-weaves : goal.returns-then-part-clause-weaves
returns-then-part-clause-weaves g c = weaves-as (ap (λ (ds : List Definition). definitions_done (part_setting c.args.p
    (lasting c.args.book.now)) (first_opening c.args.p.beside) ds c.args.book.now.names) (sym (no-definitions
    c.args.p.text.now c.args.part c.if-part.true))) (nothing-woven c.none.ensures.scraps c.none.ensures.productions)

pub printed-init : goal.printed-init
printed-init g c =
    let s : Setting = part_setting c.args.p (lasting c.args.book.now) in
    let are : c.over-definitions.result ≡ definitions_in c.args.p.text.now c.args.part = c.over-definitions.ensures in
    record {
      woven = weaving-as (ap (λ (opening : List ℕ). definitions_done s opening (not_silent c.over-definitions.result))
          (sym c.first_opening-front.ensures)) (weaving-as (ap (λ (ds : List Definition). definitions_done s
          (first_opening c.args.p.beside) (not_silent ds)) (sym are)) (weaving-begun s (definitions_done s
          (first_opening c.args.p.beside) (not_silent (definitions_in c.args.p.text.now c.args.part))) _
          (record { scraps = c.none-counts.ensures.scraps; productions = c.none-counts.ensures.productions })));
      whole = All-filter (λ d. not d.silent) (IsWholeDefinition c.args.p.text.now) c.over-definitions.result
          (subst (All (IsWholeDefinition c.args.p.text.now)) (sym are) c.requires.each);
      same = same-sheet _;
    }

pub print_paragraph-requires : goal.print_paragraph-requires
print_paragraph-requires g c =
    let whole : IsWholeDefinition c.args.p.text.now (loud c.in-Some.span) =
    All-head (IsWholeDefinition c.args.p.text.now) _ _
    (subst (All (IsWholeDefinition c.args.p.text.now)) c.in-Some.ensures c.printed.invariant.whole) in
    record {
      can = can-after c.requires.can c.printed.invariant.woven.woven.puts;
      order = whole.order;
      within = whole.within;
      short = c.requires.short;
      c_text = refl;
      uncut = whole.uncut;
      kept = subst (λ (l : Lasting). AreNamesOf l.sec_names l.name_uses)
          (sym c.printed.invariant.woven.woven.same) c.requires.kept;
    }

pub returns-in_err-more-in-Some-clause-weaves : goal.returns-in_err-more-in-Some-clause-weaves
returns-in_err-more-in-Some-clause-weaves g c =
    let s : Setting = part_setting c.args.p (lasting c.args.book.now) in
    weaving-stopped (λ names. paragraph c.printed.front.now (text_done s modes.Definition false
    (loud c.in-Some.span).span names))
    (definitions_done s (codes "\\B") (not_silent c.next_printed.new.self))
    (weaving-as (ap (definitions_done s c.printed.front.now) c.in-Some.ensures) c.printed.invariant.woven)
    (moved c.args.p (λ (t : Setting). (paragraph c.printed.front.now
    (text_done t modes.Definition false (loud c.in-Some.span).span c.printed.book.names)))
    c.printed.invariant.woven.woven.same c.in_err-more-in-Some.ensures.weaves) c.from_residual.ensures.1

pub returns-in_err-counts-in-Some-clause-weaves : goal.returns-in_err-counts-in-Some-clause-weaves
returns-in_err-counts-in-Some-clause-weaves g c =
    let s : Setting = part_setting c.args.p (lasting c.args.book.now) in
    weaving-wanting (weaving-next (λ names. paragraph c.printed.front.now (text_done s modes.Definition false
    (loud c.in-Some.span).span names))
    (definitions_done s (codes "\\B") (not_silent c.next_printed.new.self))
    (weaving-as (ap (definitions_done s c.printed.front.now) c.in-Some.ensures) c.printed.invariant.woven)
    (moved c.args.p (λ (t : Setting). (paragraph c.printed.front.now
    (text_done t modes.Definition false (loud c.in-Some.span).span c.printed.book.names)))
    c.printed.invariant.woven.woven.same c.in_ok-more-in-Some.ensures.weaves)
    (sums-are c.printed.counts c.in_ok-more-in-Some.more)) c.from_residual-in_err-counts-in-Some.ensures.1

pub printed-preserved : goal.printed-preserved
printed-preserved g c =
    let s : Setting = part_setting c.args.p (lasting c.args.book.now) in
    record {
      woven = weaving-next (λ names. paragraph c.printed.front.now (text_done s modes.Definition false
          (loud c.in-Some.span).span names))
          (definitions_done s (codes "\\B") (not_silent c.next_printed.new.self))
          (weaving-as (ap (definitions_done s c.printed.front.now) c.in-Some.ensures) c.printed.invariant.woven)
          (moved c.args.p (λ (t : Setting). (paragraph c.printed.front.now
          (text_done t modes.Definition false (loud c.in-Some.span).span c.printed.book.names)))
          c.printed.invariant.woven.woven.same c.in_ok-more-in-Some.ensures.weaves) (record
          { scraps = c.in_ok-counts-in-Some.ensures.scraps; productions = c.in_ok-counts-in-Some.ensures.productions });
      whole = All-tail (IsWholeDefinition c.args.p.text.now) _ _
          (subst (All (IsWholeDefinition c.args.p.text.now)) c.in-Some.ensures c.printed.invariant.whole);
      same = same-then c.printed.invariant.same c.in_ok-more-in-Some.ensures.same;
    }

pub printed-smaller : goal.printed-smaller
printed-smaller g c = omega (arith, ap length c.in-Some.ensures)

pub returns-in-None-clause-weaves : goal.returns-in-None-clause-weaves
returns-in-None-clause-weaves g c = weaving-ended c.printed.invariant.woven (λ names. ap (λ (ds : List Definition).
    definitions_done (part_setting c.args.p (lasting c.args.book.now)) c.printed.front.now ds names) c.in-None.ensures)
