-- The blanks behind a head give no answer, and the scanner then stands at no blank.
use Rattle.std.proofs.Common.{◌≡◌, ◌+◌, true, slice_index, drop, sym, ap, ◌∙◌, arith}
use Rattle.cw_rules.specs.{declared.classes.Class.TheVariants.Blank, Bytes.run, Tokens.is_head_part}
use Rattle.cw_lex.specs.Lexing.{last_at}
use Rattle.cw_lex.proofs.HeadSpaces.{head-coming, head-is, head-skipped, run-behind}
use Rattle.cw_lex.proofs.lexer.skip.Goals as goal

pub returns-then-is_head-clause-same : goal.returns-then-is_head-clause-same
returns-then-is_head-clause-same c = grind (arith, head-is, head-coming)

pub returns-then-is_head-clause-skipped : goal.returns-then-is_head-clause-skipped
returns-then-is_head-clause-skipped c =
    let s = c.args.state.now in
    let head : is_head_part s.part s.comments ≡ true = sym c.if-is_head.ensures in
    record {
      none = λ within. head-skipped s.part s.comments (last_at c.args.text.now (s.at + c.run.result)) (slice_index
          c.args.text.now (s.at + c.run.result)) (drop ((s.at + c.run.result) + 1) c.args.text.now) head (run-behind
          Blank c.args.text.now s.at c.run.result (c.run.ensures.value ∙ ap (run Blank) c.from.ensures.value) within);
    }
