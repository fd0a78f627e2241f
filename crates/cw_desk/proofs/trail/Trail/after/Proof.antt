-- A trail with one more note: the body stores a struct without bytes, and what it has noted, which no byte holds, is
-- what was noted before and this note.
use Rattle.cw_desk.proofs.Terms.{[], ◌∷◌, refl, proved, noted_after}
use base.Fml.{ftrue}
use mir.Syntax.{named}
use mir.Val.{vstruct, vnil}
use types.Kit.{‵, raw, ◌⊛◌, ◌$◌, ◌∵◌, !, qed, done, keep, split, suffices}
use types.Run.{enter, no_more, returns}
use types.ByLocal.{alloc_all, pass_all, free_all, look_at, sets}
use types.Part.{agg}
use denote.Exit.{yes}
use denote.Ref.{shr_vals, shr_Tells}
use denote.Shadow.{pure_i}
use denote.Signature.{plain, types_at, named_lft}
use denote.RattleType.{owns}
use denote.Triple.Entry.{alive}
use denote.Triple.Walked.{Stays, walk_of, says, stay_none_ref, Goes-none_ref, ends_at}
use Rattle.cw_desk.specs.contracts.trail.Trail.{the_row as Row}
use Rattle.cw_desk.proofs.trail.Trail.after.Statement.{statement}
use Rattle.cw_desk.specs.contracts.note.Note as Note
use Rattle.cw_desk.specs.contracts.trail.Trail.after as f
use Rattle.cw_desk.proofs.trail.Trail.after.Code as code

abbrev stayed : Stays f.ended.signature.params f.ended.kept
stayed = (
  stay_none_ref (0 ∷ []) tt (plain (λ _. Row)) yes,
  (stay_none_ref (1 ∷ []) tt (plain (λ κs. Note.the_row (named_lft 3 2 tt κs))) yes, tt),
)

pub after_spec : {M : Type 1} → statement M
after_spec 𝓤 𝓛 𝓜 𝓡 wired =
    let c = f.clauses 𝓛 𝓜.mem 𝓡.returns in let W = walk_of 𝓛 f.ended stayed c in
    proved 𝓛 f.ended stayed c 𝓜 𝓡 (
      Goes-none_ref 𝓛 3 (0 ∷ []) tt (plain (λ _. Row)) yes,
      (Goes-none_ref 𝓛 3 (1 ∷ []) tt (plain (λ κs. Note.the_row (named_lft 3 2 tt κs))) yes, tt),
    ) f.Key.name code.function (code.unfolded 𝓤 𝓛.H 𝓜 𝓡 wired) (λ κs. (shr_vals, (shr_vals, tt))) (λ κs. (
      shr_Tells
          (named 0) κs.0 Row,
      (shr_Tells (named 1) κs.1.0 (Note.the_row (named_lft 3 2 tt κs)), tt),
    )) (λ κs qs bounds a _ are.
    let y : W.Ghost = ((κs, qs, bounds, a, (shr_vals a.0, (shr_vals a.1.0, tt))), tt) in
    let next = noted_after a.1.0.now a.0.now.noted in
    qed 𝓛 ((raw (alive 𝓛 f.signature κs qs) ⊛ ‵ (owns (types_at f.signature.params κs) a y.0.4)) ∷ ‵ ftrue ∷ [])
    ∵ split ! $ enter ! _ _ _ _ _ $ alloc_all ! (λ l. pass_all ! refl ((tt, tt), ((tt, tt), tt)) $ sets !
    (agg ! (no_more !)) refl (tt, tt) $ returns ! (look_at ! 0 refl) $ free_all ! refl $ suffices ! _
    (ends_at 𝓛 f.ended stayed c y (vstruct vnil) (record { noted = next }) (tt, (tt, tt)) (tt, (tt, tt)))
    $ says ! refl $ pure_i ! (Row.own_val (record { noted = next }) (vstruct vnil ∷ []))
    ((λ vss. (tt, tt)), tt) ((tt, (refl, tt)), tt) $ keep ! (1 ∷ 2 ∷ 0 ∷ []) $ done !))
