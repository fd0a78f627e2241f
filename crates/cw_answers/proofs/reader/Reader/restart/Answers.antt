-- The tokens of a scan stand in its text, and nothing is kept yet.
use Rattle.cw_answers.proofs.Terms.{All, length, subst, sym, ◌∙◌, arith, common_steps, All-nil, IsWithin}
use Rattle.cw_answers.proofs.Standing.{all-stand}
use Rattle.cw_answers.proofs.reader.Reader.restart.Goals as goal

pub invariant_of-self : goal.invariant_of-self
invariant_of-self c =
    let span = c.args.span in
    let text = c.args.text.now in
    record {
      within = λ _. subst (All (IsWithin (length text))) (sym (c.reserve.ensures.items ∙ c.clear.ensures.items))
          (All-nil (IsWithin (length text)));
      short = c.requires.short;
      stand = all-stand text span.start span.start span.end span.end c.restart.new.self c.requires.within
          c.restart.ensures.covers c.restart.ensures.within;
    }

pub returns-clause-all : goal.returns-clause-all
returns-clause-all c = grind (arith, common_steps)

pub returns-clause-coming : goal.returns-clause-coming
returns-clause-coming c = grind (arith, common_steps)
