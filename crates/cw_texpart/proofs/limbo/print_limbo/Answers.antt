-- Limbo stands behind the first line.
use Rattle.cw_texpart.proofs.Terms.{◌∙◌, append-nil, prints-bytes, prints-failing, prints-none, prints-stop}
use Rattle.cw_texpart.proofs.Terms.{prints-then, can-after, printed_limbo}
use Rattle.cw_texpart.proofs.LayingLaws.{holds-put}
use Rattle.cw_texpart.proofs.limbo.print_limbo.Goals as goal

pub returns-in_err-put_all-clause-prints : goal.returns-in_err-put_all-clause-prints
returns-in_err-put_all-clause-prints g c = prints-stop _ c.in_err-put_all.ensures c.from_residual.ensures.1

pub put_limbo-requires : goal.put_limbo-requires
put_limbo-requires g c = record
    { can = can-after c.requires.can c.in_ok-put_all.ensures.puts; begins = holds-put c.in_ok-put_all.ensures.puts }

pub returns-in_err-put_limbo-clause-prints : goal.returns-in_err-put_limbo-clause-prints
returns-in_err-put_limbo-clause-prints g c = prints-then c.in_ok-put_all.ensures (prints-failing (λ i. printed_limbo
    (c.text.ensures.lines i) (c.limbo.ensures i)) c.in_err-put_limbo.ensures c.from_residual-in_err-put_limbo.ensures.1)

pub returns-clause-prints : goal.returns-clause-prints
returns-clause-prints g c = prints-then c.in_ok-put_all.ensures (prints-bytes (append-nil _ ∙ (λ i. printed_limbo
    (c.text.ensures.lines i) (c.limbo.ensures i))) (prints-then c.in_ok-put_limbo.ensures (prints-none _ _ _)))
