-- A name with a title is a word of its own, and what stands behind it in its leaf is passed.
use Rattle.cw_plain.proofs.Terms.{◌≡◌, ℕ, List, [], ◌++◌, codes, option_copied, refl, sym, ap, ◌∙◌, Stand, Word}
use Rattle.cw_plain.proofs.Terms.{in_name, name_placed, placed, titles}
use Rattle.cw_plain.proofs.MakingLaws.{laid-makes}
use Rattle.cw_plain.proofs.plainer.Plainer.name.Goals as goal

pub returns-in_default-clause-makes : goal.returns-in_default-clause-makes
returns-in_default-clause-makes c =
    let stand : Stand = record { name = c.self.inside.name; comments = c.self.inside.comments } in
    laid-makes _ _ (λ w. name_placed c.args.number (titles w.reads.kept w.reads.uses c.args.number) w.walk.stand)
    (Word c.args.number []) stand _ _ _ _ _ c.self.view_is (c.word.ensures c.args.number)
    (ap (λ t. name_placed c.args.number t stand) (sym (ap option_copied c.in_default.is) ∙ c.title.ensures)) refl

pub returns-clause-makes : goal.returns-clause-makes
returns-clause-makes c =
    let stand : Stand = record { name = c.self.inside.name; comments = c.self.inside.comments } in
    let text : List ℕ = c.in-Some.title.now in
    let word : c.as_slice.result.now ≡ codes "<" ++ text ++ codes ">" =
    cc (c.in_ok-word.ensures, c.in_ok-append.ensures.ok, c.in_ok-push.ensures.ok, c.as_slice.ensures) in
    laid-makes _ _ (λ w. name_placed c.args.number (titles w.reads.kept w.reads.uses c.args.number) w.walk.stand)
    (Word c.args.number c.as_slice.result.now) (in_name stand) _ _ _ _ _ c.self.view_is (c.word-4.ensures c.args.number)
    (ap (λ (bytes : List ℕ). placed (Word c.args.number bytes) (in_name stand)) word
    ∙ ap (λ t. name_placed c.args.number t stand) (sym (ap option_copied c.in-Some.is) ∙ c.title.ensures)) refl
