-- White space before the name of a macro gives no answer: the name comes first.
use Rattle.std.proofs.Common.{◌≡◌, List, true, drop, subst, arith}
use Rattle.cw_rules.specs.{Bytes.begins_by, Bytes.is_letter, Answers.Answer, Answers.Gives}
use Rattle.cw_lex.{specs.model.Coming.coming, proofs.HeadSpaces.macro-here, proofs.HeadSpaces.macro-coming}
use Rattle.cw_lex.proofs.lexer.want_macro_name.Goals as goal

pub macro_name-requires-clause-found : goal.macro_name-requires-clause-found
macro_name-requires-clause-found c = grind (arith, macro-here)

pub returns-clause-gives : goal.returns-clause-gives
returns-clause-gives c =
    let follows : begins_by is_letter (drop c.behind_white-at.result c.args.text.now) ≡ true = cc in
    let same = macro-coming c.args.text.now c.args.state.now c.args.code c.behind_white-at.result c.requires.part
    c.requires.comments c.behind_white-at.ensures.value follows in
    let P : List Answer → Type 0 = λ l. Gives l c.macro_name.result (coming c.args.text.now c.macro_name.new.state) in
    subst P same c.macro_name.ensures.gives
