-- A heading goes to its place, or has no sections.
use Rattle.cw_index.proofs.Terms.{◌∙◌, sym}
use Rattle.cw_index.proofs.RowLaws.{entered-listed, named-more}
use Rattle.cw_index.proofs.headings.enter.Goals as goal

pub returns-in_ok-insert-clause-rows : goal.returns-in_ok-insert-clause-rows
returns-in_ok-insert-clause-rows c = entered-listed c.args.heading c.args.headings.now.keys c.insert.new.self.keys
    (sym c.has_sections.ensures ∙ c.if-has_sections.true) c.in_ok-insert.ensures.keys

pub returns-in_ok-insert-clause-named : goal.returns-in_ok-insert-clause-named
returns-in_ok-insert-clause-named c names all one =
    named-more names c.args.heading c.args.headings.now.keys c.insert.new.self.keys c.in_ok-insert.ensures.keys all one
