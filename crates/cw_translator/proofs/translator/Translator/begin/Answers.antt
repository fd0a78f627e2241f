-- What begins neither an inner text nor a comment nor a section name opens nothing.
use Rattle.cw_translator.proofs.Terms.{ap}
use Rattle.cw_translator.proofs.AnswerRoutes.{begun-other}
use Rattle.cw_translator.proofs.translator.Translator.begin.Goals as goal

pub returns-in_default : goal.returns-in_default
returns-in_default c = record {
  begins = ap (λ all. record c.args.self.now { nesting = all })
      (begun-other c.args.token.now.kind c.args.token.now.span.start c.args.self.now.nesting c.in_default.not-InnerText
      c.in_default.not-LongComment c.in_default.not-ShortComment c.in_default.not-Code);
}
