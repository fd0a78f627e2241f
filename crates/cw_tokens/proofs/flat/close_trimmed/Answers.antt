-- One bracket closes, or none.
use Rattle.cw_tokens.proofs.TrimmedWalk.{closes-one}
use Rattle.cw_tokens.proofs.flat.close_trimmed.Goals as goal

pub returns : goal.returns
returns c = closes-one c.args.closes c.push.result c.args.out.now c.push.new.self c.if-closes-eq0.false c.push.ensures
