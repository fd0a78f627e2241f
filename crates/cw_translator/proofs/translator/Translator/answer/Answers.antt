-- A token, a beginning or an end does to what is open what the definition says of it; a note does nothing.
use Rattle.cw_translator.proofs.Terms.{refl}
use Rattle.cw_rules.specs.Answers.{seen}
use Rattle.cw_translator.proofs.AnswerRoutes.{begin-advances, passed-advances, token-advances}
use Rattle.cw_translator.proofs.translator.Translator.answer.Goals as goal

pub returns-in-Token : goal.returns-in-Token
returns-in-Token g c = rw c.in-Token.is (token-advances c.args.context.now.flags.now (seen c.in-Token.token)
    c.token.ensures.translating c.token.ensures.progress (record {
      scraps = c.token.ensures.scraps;
      productions = c.token.ensures.productions;
    }) c.token.ensures.keeps c.token.ensures.names refl refl refl
    (record { names = refl; store = refl; marks = refl; steps = refl }) c.token.ensures.idle)

pub returns-in-Begin : goal.returns-in-Begin
returns-in-Begin g c = rw c.in-Begin.is (begin-advances c.args.context.now.flags.now (seen c.in-Begin.token)
    c.requires.translating c.begin.ensures.begins)

pub returns-in-Finish : goal.returns-in-Finish
returns-in-Finish g c = rw c.in-Finish.is (c.finish.ensures (seen c.in-Finish.field-0))

pub returns-in-Note : goal.returns-in-Note
returns-in-Note g c = passed-advances c.args.context.now.flags.now c.args.answer.now c.in-Note.is c.requires.translating

pub returns-in-Note-2 : goal.returns-in-Note-2
returns-in-Note-2 g c =
    passed-advances c.args.context.now.flags.now c.args.answer.now c.in-Note.is c.requires.translating
