-- An inner text of a name begins, is read up to a section code, and ends: these are its answers.
use Rattle.cw_reduce.proofs.Terms.{[], ◌∷◌, refl, ap, arith, Finish, until_section, progress_over, answers-as}
use Rattle.cw_reduce.proofs.Terms.{advancing-last, advancing-next, advancing-stopped, advances-unread}
use Rattle.cw_reduce.proofs.NameSteps.{part_answers, text-begun}
use Rattle.cw_reduce.proofs.ReadSteps.{within-starts}
use Rattle.cw_reduce.proofs.naming.inner_text.Goals as goal
use Rattle.cw_reduce.specs.Naming.{text_answers, text_token}

pub read_until_section-requires-clause-translating : goal.read_until_section-requires-clause-translating
read_until_section-requires-clause-translating g c = (text-begun {told = g.R.Watch.told}
    c.args.context.now.flags.now (part_answers c.args.text.now c.args.span) {work = c.args.work.now}
    c.requires.translating c.in_ok-open_text.ensures.begins).reads.translating

pub read_until_section-requires-clause-start : goal.read_until_section-requires-clause-start
read_until_section-requires-clause-start g c = within-starts 4294967296 c.args.span.start c.args.span.end
    c.over-lexer.result (omega (arith, c.requires.within, c.requires.short)) c.over-lexer.ensures.within

pub returns-in_err-open_text : goal.returns-in_err-open_text
returns-in_err-open_text g c = advances-unread c.args.context.now.flags.now
    (text_answers (part_answers c.args.text.now c.args.span)) (progress_over c.args.work.now c.args.translator.now)
    c.from_residual.ensures.1 refl c.requires.translating.idle

pub returns-in_err-read_until_section : goal.returns-in_err-read_until_section
returns-in_err-read_until_section g c = advancing-stopped (part_answers c.args.text.now c.args.span)
    (Finish text_token ∷ []) (text-begun c.args.context.now.flags.now (part_answers c.args.text.now c.args.span)
    c.requires.translating c.in_ok-open_text.ensures.begins) refl (answers-as c.args.context.now.flags.now
    (progress_over c.args.work.now c.open_text.new.self) (ap until_section c.over-lexer.ensures.tokens)
    c.in_err-read_until_section.ensures) c.from_residual-in_err-read_until_section.ensures.1

pub returns : goal.returns
returns g c = advancing-last (advancing-next (part_answers c.args.text.now c.args.span) (Finish text_token ∷ [])
    (text-begun c.args.context.now.flags.now (part_answers c.args.text.now c.args.span) c.requires.translating
    c.in_ok-open_text.ensures.begins) refl
    (answers-as c.args.context.now.flags.now (progress_over c.args.work.now c.open_text.new.self)
    (ap until_section c.over-lexer.ensures.tokens) c.in_ok-read_until_section.ensures)) (c.finish.ensures text_token)
