-- A number without a token prints nothing.
use Rattle.cw_plain.proofs.Terms.{List, [], option_map, sym, ap, ◌∙◌, Answer, seen, Stand, Word, found_placed}
use Rattle.cw_plain.proofs.Terms.{number_placed, titles, Walked, source_of}
use Rattle.cw_plain.proofs.MakingLaws.{laid-makes}
use Rattle.cw_plain.proofs.plainer.Plainer.token.Goals as goal

pub returns-in-None-clause-makes : goal.returns-in-None-clause-makes
returns-in-None-clause-makes c =
    let inside = c.self.inside in
    let stand : Stand = record { name = inside.name; comments = inside.comments } in
    let behind : List Answer → Walked = λ answers. record {
      reads = record { answers = answers; kept = inside.names.kept.now; uses = inside.names.uses.now };
      walk = record { stand = stand; laying = c.word.new.self };
    } in
    laid-makes _ _ (λ w. number_placed (source_of w.reads) c.args.number w.walk.stand)
    (Word c.args.number []) stand _ _ _ _ _ c.self.view_is (c.word.ensures c.args.number) (ap
    (λ found. found_placed c.args.number (titles inside.names.kept.now inside.names.uses.now c.args.number) found stand)
    (sym (ap (option_map seen) c.in-None.is) ∙ c.find.ensures.found)) (ap behind (sym c.find.ensures.same))
