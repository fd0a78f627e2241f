-- One answer prints behind another.
use Rattle.cw_texpart.proofs.Terms.{Bool, ap, sym, Token, seen, same-sheet, same-then, can-after, puts-bytes}
use Rattle.cw_texpart.proofs.Terms.{answer_inks, end_if, inks, laid, scanned}
use Rattle.cw_texpart.proofs.LayingLaws.{inking-as, inking-begun, inking-next, lays-ended, lays-stopped}
use Rattle.cw_rules.specs.declared.tokens.Mode.TheVariants as modes
use Rattle.cw_texpart.proofs.limbo.put_limbo.Goals as goal

pub answers-init : goal.answers-init
answers-init g c = record {
  inked = inking-as (ap (inks c.args.text.now) (sym c.scan-lexer.ensures)) (inking-begun _ _ _);
  same = same-sheet _;
}

pub put_token-requires : goal.put_token-requires
put_token-requires g c = record { can = can-after c.requires.can c.answers.invariant.inked.put }

pub answers-preserved-in-Continue-1 : goal.answers-preserved-in-Continue-1
answers-preserved-in-Continue-1 g c = record {
  inked = inking-next (answer_inks c.args.text.now (Token (seen c.in-Token.token))) (inking-as
      (ap (inks c.args.text.now) c.in-Token.ensures) c.answers.invariant.inked) c.in_ok-put_token-in-Token.ensures.puts;
  same = same-then c.answers.invariant.same c.in_ok-put_token-in-Token.ensures.same;
}

pub returns-in_err-put_token-in-Token : goal.returns-in_err-put_token-in-Token
returns-in_err-put_token-in-Token g c = record {
  puts = puts-bytes (ap (λ (holds : Bool). laid holds (inks c.args.text.now (scanned modes.Limbo c.args.text.now
      c.args.span))) c.requires.begins) (lays-stopped (answer_inks c.args.text.now (Token (seen c.in-Token.token))) _
      (inking-as (ap (inks c.args.text.now) c.in-Token.ensures) c.answers.invariant.inked)
      c.in_err-put_token-in-Token.ensures.puts c.from_residual.ensures.1);
  same = same-then c.answers.invariant.same c.in_err-put_token-in-Token.ensures.same;
}

pub answers-preserved-in-Begin-1 : goal.answers-preserved-in-Begin-1
answers-preserved-in-Begin-1 g c = record {
  inked = inking-as (ap (inks c.args.text.now) c.in-Begin.ensures) c.answers.invariant.inked;
  same = c.answers.invariant.same;
}

pub answers-preserved-in-Finish-1 : goal.answers-preserved-in-Finish-1
answers-preserved-in-Finish-1 g c = record {
  inked = inking-as (ap (inks c.args.text.now) c.in-Finish.ensures) c.answers.invariant.inked;
  same = c.answers.invariant.same;
}

pub answers-preserved : goal.answers-preserved
answers-preserved g c = record {
  inked = inking-as (ap (inks c.args.text.now) c.in-Note.ensures) c.answers.invariant.inked;
  same = c.answers.invariant.same;
}

pub end_line_if-requires : goal.end_line_if-requires
end_line_if-requires g c = record { can = can-after c.requires.can c.answers.invariant.inked.put }

pub returns-in-End : goal.returns-in-End
returns-in-End g c = record {
  puts = puts-bytes (ap (λ (holds : Bool). laid holds (inks c.args.text.now (scanned modes.Limbo c.args.text.now
      c.args.span))) c.requires.begins) (lays-ended (inking-as (ap (inks c.args.text.now) c.in-End.ensures.0)
      c.answers.invariant.inked) (puts-bytes (ap end_if c.holds_bytes-holds.ensures) c.end_line_if.ensures.puts));
  same = same-then c.answers.invariant.same c.end_line_if.ensures.same;
}
