-- A constant that begins with a digit is a short token.
use Rattle.std.proofs.Common.{ap, ◌∙◌, arith}
use Rattle.cw_rules.specs.Constants.{constant}
use Rattle.cw_lex.proofs.ShortTokens.{number-short}
use Rattle.cw_lex.proofs.short.number.Goals as goal

pub returns : goal.returns
returns c =
    let s = c.args.state.now in
    number-short c.args.text.now s.part s.comments s.at c.constant-size.result c.requires.calm c.requires.place
    c.requires.letter c.requires.digit (omega arith) (omega (
      arith,
      c.constant-size.ensures.within,
      c.from.ensures.length,
    )) (c.constant-size.ensures.value ∙ ap constant c.from.ensures.value)
