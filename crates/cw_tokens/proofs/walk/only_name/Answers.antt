-- A list has an only name where it is one token, an identifier, and none where it is more or fewer tokens.
use Rattle.cw_tokens.proofs.Terms.{sym, ap, ◌∙◌, only_name_of}
use Rattle.cw_tokens.proofs.Bare.{only-none, one-token}
use Rattle.cw_tokens.proofs.walk.only_name.Goals as goal

pub returns-then-tokens-ne1 : goal.returns-then-tokens-ne1
returns-then-tokens-ne1 c = sym (only-none _ c.if-tokens-ne1.true)

pub returns : goal.returns
returns c = c.name_of.ensures ∙ ap only_name_of (one-token _ _ c.if-tokens-ne1.false)
