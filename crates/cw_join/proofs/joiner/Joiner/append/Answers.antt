-- A control goes into the run, and any other item ends it, as they do when they are put.
use Rattle.cw_join.proofs.Terms.{List, ℕ, [], ◌∷◌, ◌++◌, ap, sym, subst, ◌∙◌, on_ok_weaker, opened, run_sign, run_state}
use Rattle.cw_join.proofs.Terms.{state_back, JoinerState, Stands, is_inner, alone}
use Rattle.cw_join.proofs.StateLaws.{control-added, control-stands, other-added, other-stands}
use Rattle.cw_join.proofs.joiner.Joiner.append.Goals as goal

-- a control of one byte ends the run too
pub returns-in-Some-clause-bytes : goal.returns-in-Some-clause-bytes
returns-in-Some-clause-bytes c = λ ps s. on_ok_weaker c.append_byte.result (λ bytes. bytes
    ∙ ap (λ (l : List ℕ). c.args.out.now ++ l) (ap (λ (l : List ℕ). state_back (is_inner c.args.self.now.inner
    c.args.self.now.depth) c.args.self.now.run ++ l) (sym (c.in-Some.ensures.bytes c.args.names.now)) ∙ other-added
    c.args.self.now ps s (alone c.args.names.now c.args.item) c.in-Some.ensures.in_no_run)) c.append_byte.ensures.bytes

pub returns-in-Some-clause-stands : goal.returns-in-Some-clause-stands
returns-in-Some-clause-stands c = λ ps p s is. on_ok_weaker c.append_byte.result
    (λ state. subst (λ (joiner : JoinerState). Stands joiner (ps ++ p ∷ []))
    (ap (λ (depth : ℕ). record c.args.self.now { depth = depth; run = run_state [] })
    (ap (opened c.args.self.now.depth) is ∙ c.in-Some.ensures.depth c.args.self.now.depth) ∙ sym state)
    (other-stands c.args.self.now ps s p (ap run_sign is ∙ c.in-Some.ensures.in_no_run))) c.append_byte.ensures.state

pub returns-in-Some-run_control-clause-bytes : goal.returns-in-Some-run_control-clause-bytes
returns-in-Some-run_control-clause-bytes c = λ ps s. on_ok_weaker c.append_control.result (λ bytes. bytes
    ∙ ap (λ (l : List ℕ). c.args.out.now ++ l) (control-added c.args.self.now ps s (alone c.args.names.now c.args.item)
    c.in-Some-run_control.control (sym c.in-Some-run_control.ensures))) c.append_control.ensures.bytes

pub returns-in-Some-run_control-clause-stands : goal.returns-in-Some-run_control-clause-stands
returns-in-Some-run_control-clause-stands c = λ ps p s is. on_ok_weaker c.append_control.result (λ state. subst
    (λ (joiner : JoinerState). Stands joiner (ps ++ p ∷ [])) (sym state) (control-stands c.args.self.now ps s p
    c.in-Some-run_control.control (ap run_sign is ∙ sym c.in-Some-run_control.ensures))) c.append_control.ensures.state

pub returns-in-None-clause-bytes : goal.returns-in-None-clause-bytes
returns-in-None-clause-bytes c = λ ps s. on_ok_weaker c.append_other.result (λ bytes. bytes
    ∙ ap (λ (l : List ℕ). c.args.out.now ++ l) (other-added c.args.self.now ps s (alone c.args.names.now c.args.item)
    (sym c.in-None.ensures))) c.append_other.ensures.bytes
