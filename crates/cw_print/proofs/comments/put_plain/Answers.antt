-- The bytes before the first special one are appended as they stand.
use Rattle.cw_print.proofs.PieceLaws.{plain-printed}
use Rattle.cw_print.proofs.comments.put_plain.Goals as goal

pub returns-clause-printed : goal.returns-clause-printed
returns-clause-printed c = λ braces. plain-printed c.args.out.now c.args.text.now c.split_at.result.0.now
    c.split_at.result.1.now c.plain_size.result c.plain_size.ensures.size c.split_at.ensures.front
    c.split_at.ensures.back c.append.new.self c.in_ok-append.ensures.ok braces
