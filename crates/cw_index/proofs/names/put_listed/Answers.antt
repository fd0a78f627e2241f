-- The text stands between what is put before it and behind it.
use Rattle.cw_index.proofs.Terms.{false, ap, refl, subst, sym, can-after, puts-bytes, puts-longer, puts-then, weaves-as}
use Rattle.cw_index.proofs.Terms.{Lasting, Setting, lasting, text_done, IsWhole, list_setting, name_span, use_notes}
use Rattle.cw_base.specs.declared.span.Span.{Span}
use Rattle.cw_rules.specs.declared.tokens.Mode.TheVariants.{Inner}
use Rattle.cw_index.proofs.ListedLaws.{back-refused, front-refused, listed-woven, text-refused}
use Rattle.cw_index.proofs.PlaceLaws.{whole-within}
use Rattle.cw_index.proofs.names.put_listed.Goals as goal
use Rattle.std.specs.Prelude.{codes, ◌++◌}

pub returns-in_err-put_all-clause-weaves : goal.returns-in_err-put_all-clause-weaves
returns-in_err-put_all-clause-weaves g c = front-refused _ c.in_err-put_all.ensures.puts c.from_residual.ensures.1

pub name_span-requires : goal.name_span-requires
name_span-requires g c = whole-within c.args.t.text.now c.args.listed c.requires.whole

pub print_text-requires : goal.print_text-requires
print_text-requires g c =
    let whole : IsWhole c.args.t.text.now c.name_span.result =
    subst (IsWhole c.args.t.text.now) (sym c.name_span.ensures) c.requires.whole in
    record {
      can = can-after c.requires.can c.in_ok-put_all.ensures.puts;
      order = whole.order;
      within = whole.within;
      short = c.requires.short;
      c_text = refl;
      uncut = whole.uncut;
      kept = c.requires.kept;
    }

pub returns-in_err-counts-clause-weaves : goal.returns-in_err-counts-clause-weaves
returns-in_err-counts-clause-weaves g c =
    let s : Setting = list_setting c.args.t (lasting c.args.book.now) in
    text-refused (codes "\n" ++ use_notes s.book c.args.listed) c.in_ok-put_all.ensures.puts
    (weaves-as (ap (λ (span : Span). text_done s Inner false span c.args.book.now.names) c.name_span.ensures)
    c.in_err-counts.ensures.weaves) c.from_residual-in_err-counts.ensures.1

pub returns-in_err-put_all-2-clause-weaves : goal.returns-in_err-put_all-2-clause-weaves
returns-in_err-put_all-2-clause-weaves g c =
    let s : Setting = list_setting c.args.t (lasting c.args.book.now) in
    back-refused (text_done s Inner false (name_span c.args.t.text.now c.args.listed.place))
    (codes "\n" ++ use_notes s.book c.args.listed) c.in_ok-put_all.ensures.puts
    (weaves-as (ap (λ (span : Span). text_done s Inner false
    span c.args.book.now.names) c.name_span.ensures) c.in_ok-counts.ensures.weaves) (puts-longer (use_notes
    (lasting c.args.book.now) c.args.listed) c.in_err-put_all-2.ensures.puts) c.from_residual-in_err-put_all-2.ensures.1

pub returns-in_err-put_use_footnotes-clause-weaves : goal.returns-in_err-put_use_footnotes-clause-weaves
returns-in_err-put_use_footnotes-clause-weaves g c =
    let s : Setting = list_setting c.args.t (lasting c.args.book.now) in
    back-refused (text_done s Inner false (name_span c.args.t.text.now c.args.listed.place))
    (codes "\n" ++ use_notes s.book c.args.listed) c.in_ok-put_all.ensures.puts (weaves-as (ap
    (λ (span : Span). text_done s Inner false span c.args.book.now.names) c.name_span.ensures)
    c.in_ok-counts.ensures.weaves)
    (puts-then c.in_ok-put_all-2.ensures.puts (puts-bytes (ap (λ (l : Lasting). use_notes l c.args.listed)
    c.in_ok-counts.ensures.weaves.same) c.in_err-put_use_footnotes.ensures.puts))
    c.from_residual-in_err-put_use_footnotes.ensures.1

pub returns-clause-weaves : goal.returns-clause-weaves
returns-clause-weaves g c =
    let s : Setting = list_setting c.args.t (lasting c.args.book.now) in
    listed-woven (text_done s Inner false (name_span c.args.t.text.now c.args.listed.place))
    (codes "\n" ++ use_notes s.book c.args.listed) c.in_ok-put_all.ensures.puts (weaves-as (ap
    (λ (span : Span). text_done s Inner false span c.args.book.now.names) c.name_span.ensures)
    c.in_ok-counts.ensures.weaves)
    (puts-then c.in_ok-put_all-2.ensures.puts (puts-bytes
    (ap (λ (l : Lasting). use_notes l c.args.listed) c.in_ok-counts.ensures.weaves.same)
    c.in_ok-put_use_footnotes.ensures.puts))
