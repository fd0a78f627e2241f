-- The name that a place is paired with is kept, and its text is short enough to be read.
use Rattle.cw_reduce.proofs.Terms.{sym, ◌∙◌, seen, progress_over}
use Rattle.cw_reduce.proofs.NameSteps.{paired-among, paired-advances, paired-short, unpaired-advances}
use Rattle.cw_reduce.proofs.naming.section_name.Goals as goal

pub kind-kind-requires : goal.kind-kind-requires
kind-kind-requires g c = paired-among c.requires.kept c.args.token.now.span.start (sym c.at.ensures ∙ c.in-Some.is)

pub text-text-requires : goal.text-text-requires
text-text-requires g c = paired-among c.requires.kept c.args.token.now.span.start (sym c.at.ensures ∙ c.in-Some.is)

pub kept_name-requires-clause-short : goal.kept_name-requires-clause-short
kept_name-requires-clause-short g c = paired-short c.requires.kept c.args.token.now.span.start
    (sym c.at.ensures ∙ c.in-Some.is) c.text-text.ensures

pub returns-in-None : goal.returns-in-None
returns-in-None g c = unpaired-advances c.args.context.now.flags.now c.args.context.now.sec_names.now
    c.args.context.now.uses.now (seen c.args.token.now) c.requires.kind (sym c.at.ensures ∙ c.in-None.is)
    c.requires.translating

pub returns-in-Some : goal.returns-in-Some
returns-in-Some g c = paired-advances c.requires.kept (seen c.args.token.now) c.requires.kind
    (sym c.at.ensures ∙ c.in-Some.is) c.kind-kind.ensures c.text-text.ensures c.args.context.now.flags.now
    (progress_over c.args.work.now c.args.translator.now) c.kept_name.ensures
