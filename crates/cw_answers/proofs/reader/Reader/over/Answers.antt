-- The tokens of a scan stand in its text.
use Rattle.cw_answers.proofs.Terms.{◌≡◌, true, false}
use Rattle.cw_answers.proofs.Standing.{all-stand}
use Rattle.cw_answers.proofs.reader.Reader.over.Goals as goal

pub invariant_of-result : goal.invariant_of-result
invariant_of-result c =
    let span = c.args.span in
    record {
      within = λ e. absurd (let k : false ≡ true = e in cc);
      short = c.requires.short;
      stand = all-stand c.args.text.now span.start span.start span.end span.end c.over.result c.requires.within
          c.over.ensures.covers c.over.ensures.within;
    }
