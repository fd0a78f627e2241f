-- White space before a parameter, or a sign among parameters, gives no answer.
use Rattle.std.proofs.Common.{◌≡◌, List, true, drop, subst}
use Rattle.cw_rules.specs.{Tokens.is_parameter, Answers.Answer, Answers.Gives}
use Rattle.cw_lex.{specs.model.Coming.coming, proofs.HeadSpaces.parameter-here, proofs.HeadSpaces.parameter-coming}
use Rattle.cw_lex.proofs.lexer.want_parameter.Goals as goal

pub parameter-requires-clause-found : goal.parameter-requires-clause-found
parameter-requires-clause-found c =
    let follows : is_parameter (drop c.behind_white-at.result c.args.text.now) ≡ true = cc in
    parameter-here c.args.text.now c.args.state.now c.args.code c.behind_white-at.result c.requires.part
    c.requires.comments c.behind_white-at.ensures.value follows

pub returns-clause-gives : goal.returns-clause-gives
returns-clause-gives c =
    let follows : is_parameter (drop c.behind_white-at.result c.args.text.now) ≡ true = cc in
    let same = parameter-coming c.args.text.now c.args.state.now c.args.code c.behind_white-at.result c.requires.part
    c.requires.comments c.behind_white-at.ensures.value follows in
    let P : List Answer → Type 0 = λ l. Gives l c.parameter.result (coming c.args.text.now c.parameter.new.state) in
    subst P same c.parameter.ensures.gives
