-- A piece of text is copied, and another token has bytes of its own.
use Rattle.cw_texpart.proofs.Terms.{sym, ◌∙◌, seen, prints-bytes, holds_bytes}
use Rattle.cw_texpart.proofs.LayingLaws.{code-inked, text-inked}
use Rattle.cw_texpart.proofs.inks.put_token.Goals as goal

pub returns-then-copies : goal.returns-then-copies
returns-then-copies g c = prints-bytes (text-inked (holds_bytes c.args.sheet.now.line.now) c.args.text.now
    c.args.token.now.kind (seen c.args.token.now) (sym c.is_text-copies.ensures ∙ c.if-copies.true)) c.copy.ensures

pub returns : goal.returns
returns g c = prints-bytes (code-inked (holds_bytes c.args.sheet.now.line.now) c.args.text.now c.args.token.now.kind
    (seen c.args.token.now) c.kind_bytes.result.now (sym c.is_text-copies.ensures
    ∙ c.if-copies.false) c.kind_bytes.ensures) c.put_all.ensures
