-- Without a pair the name of a head makes nothing; with one it is kept, and is read with its sign behind it.
use Rattle.cw_reduce.proofs.Terms.{refl, sym, ◌∙◌, advances-done, advances-none}
use Rattle.cw_reduce.proofs.NameSteps.{paired-among, paired-short, texts-paired, texts-unpaired}
use Rattle.cw_reduce.proofs.headed.name_with_sign.Goals as goal

pub returns-in-None : goal.returns-in-None
returns-in-None g c = rw (texts-unpaired c.args.context.now.sec_names.now c.args.context.now.uses.now c.args.number
    (sym c.at.ensures ∙ c.in-None.is)) (advances-done refl
    (advances-none c.args.context.now.flags.now c.requires.translating))

pub kind-kind-requires : goal.kind-kind-requires
kind-kind-requires g c = paired-among c.requires.kept c.args.number (sym c.at.ensures ∙ c.in-Some.is)

pub text-text-requires : goal.text-text-requires
text-text-requires g c = paired-among c.requires.kept c.args.number (sym c.at.ensures ∙ c.in-Some.is)

pub kept_name-requires-clause-short : goal.kept_name-requires-clause-short
kept_name-requires-clause-short g c = paired-short c.requires.kept c.args.number (sym c.at.ensures ∙ c.in-Some.is)
    c.text-text.ensures

pub returns-in-Some : goal.returns-in-Some
returns-in-Some g c = rw (texts-paired c.requires.kept c.args.number (sym c.at.ensures ∙ c.in-Some.is)
    c.text-text.ensures c.kind-kind.ensures) c.kept_name.ensures
