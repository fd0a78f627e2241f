-- A name of `@<` has the inner texts of its text, and one of `@(` none.
use Rattle.cw_reduce.proofs.Terms.{advances-none}
use Rattle.cw_reduce.proofs.naming.texts_by_kind.Goals as goal

pub returns-in-File : goal.returns-in-File
returns-in-File g c = rw c.in-File.is (advances-none c.args.context.now.flags.now c.requires.translating)
