-- The list in which a section is noted is ascending, since it has the sections that mention the name. An occurrence
-- more is a section more in the list of its name.
use Rattle.cw_names.proofs.Terms.{◌≡◌, [], ◌∷◌, ◌++◌, sym, subst, ◌∙◌, arith, common_steps, Occurrence, mentions}
use Rattle.cw_names.proofs.Terms.{sections_at, nat_tests}
use Rattle.cw_names.proofs.Mentions.{mentions-ascending, noted-more}
use Rattle.cw_names.proofs.xrefs.Xrefs.note.Goals as goal

pub mention-requires-clause-ascending : goal.mention-requires-clause-ascending
mention-requires-clause-ascending c = grind (arith, nat_tests, mentions-ascending)

pub invariant_of-self-2 : goal.invariant_of-self-2
invariant_of-self-2 c =
    let o : Occurrence = record { name = c.args.id; section = c.args.section; underlined = c.args.underlined } in
    let noted : c.push.new.self.items ≡ c.self.inside.noted.items ++ o ∷ [] = grind (arith, common_steps) in
    λ name. subst (λ os. sections_at name c.mention.new.lists.items ≡ mentions name os) (sym noted) (noted-more name
    c.self.inside.noted.items o c.grow.new.lists.items c.mention.new.lists.items (λ other. c.grow.ensures.same other
    ∙ c.self.invariant other) c.in_ok-mention.ensures.here c.mention.ensures.elsewhere)
