-- The kept answers are those of the text.
use Rattle.cw_press.proofs.Terms.{List, ap, Answer, prints-bytes, tree_bytes}
use Rattle.cw_print.specs.Sources.{source_by}
use Rattle.cw_tokens.specs.Shapes.{unfolded}
use Rattle.cw_press.proofs.texts.StoredTree.print.Goals as goal

pub returns : goal.returns
returns g c = prints-bytes (ap (λ (answers : List Answer). tree_bytes c.args.self.text.inner
    (source_by answers c.args.book.now c.args.self.text.section c.args.self.text.flags.now) (unfolded
    c.args.self.store.now.lists c.args.self.list.index)) c.requires.kept.answers_are) c.print_answers.ensures
