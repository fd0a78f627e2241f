-- Each kind of piece prints as it says.
use Rattle.cw_texpart.proofs.Terms.{ap, seen, puts-bytes, token_inks, holds_bytes, inked, TexSetting}
use Rattle.cw_texpart.proofs.WeavingLaws.{weaves-piece, weaves-plain, weaves-printed}
use Rattle.cw_texpart.proofs.tex_parts.put_piece.Goals as goal

pub returns-in-Copied-clause-woven : goal.returns-in-Copied-clause-woven
returns-in-Copied-clause-woven g c = weaves-piece (holds_bytes c.args.sheet.now.line.now) c.args.book.now.names
    c.in-Copied.is (weaves-plain (token_inks c.args.t.now.text c.in-Copied.token.kind (seen c.in-Copied.token))
    c.put_copied.result (puts-bytes (ap (λ (s : TexSetting). inked (holds_bytes c.args.sheet.now.line.now)
    (token_inks s.text c.in-Copied.token.kind (seen c.in-Copied.token))) c.t.view_is) c.put_copied.ensures.prints.puts)
    c.put_copied.ensures.scraps c.put_copied.ensures.productions)

pub returns-in-InnerText-clause-woven : goal.returns-in-InnerText-clause-woven
returns-in-InnerText-clause-woven g c = weaves-piece (holds_bytes c.args.sheet.now.line.now) c.args.book.now.names
    c.in-InnerText.is (weaves-printed (holds_bytes c.args.sheet.now.line.now) c.put_inner.ensures.woven)

pub returns-in-Cited-clause-woven : goal.returns-in-Cited-clause-woven
returns-in-Cited-clause-woven g c = weaves-piece (holds_bytes c.args.sheet.now.line.now) c.args.book.now.names
    c.in-Cited.is (weaves-printed (holds_bytes c.args.sheet.now.line.now) c.put_cited.ensures.woven)
