-- A name that the book keeps is a C text of its own.
use Rattle.cw_texpart.proofs.Terms.{true, sym, tex_setting, lasting}
use Rattle.cw_secnames.specs.{Kept.id, Uses.name_at}
use Rattle.cw_texpart.proofs.WeavingLaws.{cited, ignored}
use Rattle.cw_press.proofs.WeavingLaws.{nothing-woven, weaves-as}
use Rattle.cw_texpart.proofs.tex_parts.put_cited.Goals as goal

pub returns-in-None-clause-woven : goal.returns-in-None-clause-woven
returns-in-None-clause-woven g c = weaves-as (sym (ignored id (tex_setting c.args.t.now (lasting c.args.book.now)) true
    c.args.part c.args.book.now.names (name_at c.args.part.start c.args.book.now.name_uses) c.in-None.ensures))
    (nothing-woven c.none.ensures.scraps c.none.ensures.productions)

pub returns-in-Some-clause-woven : goal.returns-in-Some-clause-woven
returns-in-Some-clause-woven g c = weaves-as
    (cited id c.in-Some._id (tex_setting c.args.t.now (lasting c.args.book.now)) true c.args.part c.args.book.now.names
    (name_at c.args.part.start c.args.book.now.name_uses) c.in-Some.ensures) c.put_inner.ensures.woven
