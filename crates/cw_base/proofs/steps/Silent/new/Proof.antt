-- A silent ledger is made: the body stores a struct without bytes, and its number, which no byte holds, is 0.
use Rattle.cw_base.proofs.Terms.{[], ◌∷◌, refl, proved}
use base.Fml.{ftrue}
use mir.Val.{vstruct, vnil}
use types.Kit.{‵, ◌⊛◌, ◌$◌, ◌∵◌, !, qed, done, keep, split, suffices}
use types.Run.{enter, no_more, returns}
use types.ByLocal.{alloc_all, pass_all, free_all, look_at, sets}
use types.Part.{agg}
use denote.Shadow.{pure_i}
use denote.Triple.Walked.{Stays, walk_of, says, ends_at}
use Rattle.cw_base.specs.contracts.steps.Silent.{the_row as Row}
use Rattle.cw_base.proofs.steps.Silent.new.Statement.{statement}
use Rattle.cw_base.specs.contracts.steps.Silent.new as f
use Rattle.cw_base.proofs.steps.Silent.new.Code as code

abbrev stayed : Stays f.ended.signature.params f.ended.kept
stayed = tt

pub new_spec : {M : Type 1} → statement M
new_spec 𝓤 𝓛 𝓜 𝓡 wired =
    let c = f.clauses 𝓛 𝓜.mem 𝓡.returns in let W = walk_of 𝓛 f.ended stayed c in
    proved 𝓛 f.ended stayed c 𝓜 𝓡 tt f.Key.name code.function (code.unfolded 𝓤 𝓛.H 𝓜 𝓡 wired) (λ κs. tt) (λ κs. tt)
    (λ κs qs bounds a _ are.
    let y : W.Ghost = ((κs, qs, bounds, a, tt), tt) in
    qed 𝓛 ((‵ ftrue ⊛ ‵ ftrue) ∷ ‵ ftrue ∷ []) ∵ split ! $ enter ! _ _ _ _ _ $ alloc_all !
    (λ l. pass_all ! refl tt $ sets ! (agg ! (no_more !)) refl (tt, tt) $ returns ! (look_at ! 0 refl) $ free_all ! refl
    $ suffices ! _ (ends_at 𝓛 f.ended stayed c y (vstruct vnil) (record { count = 0 }) tt tt) $ says ! refl $ pure_i !
    (Row.own_val (record { count = 0 }) (vstruct vnil ∷ [])) ((λ vss. (tt, tt)), tt) ((tt, (refl, tt)), tt) $ keep !
    (1 ∷ 2 ∷ 0 ∷ []) $ done !))
