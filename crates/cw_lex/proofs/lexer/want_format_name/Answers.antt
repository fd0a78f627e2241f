-- White space before a name that a format definition wants gives no answer: the name comes first.
use Rattle.std.proofs.Common.{◌≡◌, List, true, drop, subst, arith}
use Rattle.cw_rules.specs.{Bytes.begins_by, Bytes.is_letter, Answers.Answer, Answers.Gives}
use Rattle.cw_lex.{specs.model.Coming.coming, proofs.HeadSpaces.format-here, proofs.HeadSpaces.format-coming}
use Rattle.cw_lex.proofs.lexer.want_format_name.Goals as goal

pub format_name-requires-clause-found : goal.format_name-requires-clause-found
format_name-requires-clause-found c = grind (arith, format-here)

pub returns-clause-gives : goal.returns-clause-gives
returns-clause-gives c =
    let follows : begins_by is_letter (drop c.behind_white-at.result c.args.text.now) ≡ true = cc in
    let same = format-coming c.args.text.now c.args.state.now c.args.code c.args.second c.args.limbo
    c.behind_white-at.result c.requires.part c.requires.comments c.behind_white-at.ensures.value follows in
    let P : List Answer → Type 0 = λ l. Gives l c.format_name.result (coming c.args.text.now c.format_name.new.state) in
    subst P same c.format_name.ensures.gives
