-- What a name that is entered leaves, by what entering it answers.
use Rattle.cw_phase1.proofs.Terms.{◌≡◌, List, Option, Some, None, sym, ap, ◌∙◌, Answer, Seen, seen, SecId, Entering}
use Rattle.cw_phase1.proofs.Terms.{SecName, answer_of, kept_by, kept_id, note_on_name, HeldState, held_of, behind_begin}
use Rattle.cw_secnames.specs.declared.kinds.Entered.{Entered}
use Rattle.cw_phase1.proofs.pass_state.PassState.name.Goals as goal
use Rattle.std.specs.Option.{option_and_then}
use Rattle.std.specs.Prelude.{option_map}

abbrev waits : Option SecId → List SecName → Option Answer → Seen → HeldState → HeldState
waits name kept remark t h = record h {
  pass = record { standing = behind_begin h.pass.standing; waiting = Some (record { token = t; name = name }) };
  kept = kept;
  remark = remark;
}

abbrev entered_held : Option Entering → Seen → HeldState → HeldState
entered_held e t h = waits (option_map (λ e. kept_id e.answer) e) (kept_by e h.kept) (option_and_then
    (λ e. note_on_name e.answer t.span.start) e) t h

ignored-held : (e : Option Entering) (t : Seen) (h : HeldState) (kept : List SecName) → None ≡ answer_of e
    → kept ≡ kept_by e h.kept → waits None kept None t h ≡ entered_held e t h
ignored-held None t h kept none same = ap (λ (kept : List SecName). waits None kept None t h) same
ignored-held (Some e) t h kept none same = absurd (let wrong = none in cc)

named-held : (e : Option Entering) (t : Seen) (h : HeldState) (kept : List SecName) (entered : Entered) (id : SecId)
    (remark : Option Answer) → Some entered ≡ answer_of e → kept ≡ kept_by e h.kept → id ≡ kept_id entered
    → remark ≡ note_on_name entered t.span.start → waits (Some id) kept remark t h ≡ entered_held e t h
named-held None t h kept entered id remark some same name note = absurd (let wrong = some in cc)
named-held (Some e) t h kept entered id remark some same name note =
    let is : entered ≡ e.answer = let both : Some entered ≡ Some e.answer = some in cc in
    let id_is = name ∙ ap kept_id is in
    let note_is = note ∙ ap (λ (a : Entered). note_on_name a t.span.start) is in
    (λ i. waits (Some (id_is i)) (same i) (note_is i) t h)

pub returns-in-None-clause-held : goal.returns-in-None-clause-held
returns-in-None-clause-held c = ignored-held _ (seen c.args.token) (held_of c.args.self.now)
    c.enter.new.names (sym c.in-None.is ∙ c.in_ok-entered.ensures.answer) c.in_ok-entered.ensures.kept

pub returns-in-Some-clause-held : goal.returns-in-Some-clause-held
returns-in-Some-clause-held c = named-held _ _ (held_of c.args.self.now) _ _ _ _ (sym c.in-Some.is
    ∙ c.in_ok-entered.ensures.answer) c.in_ok-entered.ensures.kept c.kept_id.ensures.value c.remark_on-self.ensures
