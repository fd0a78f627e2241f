-- A control of a run goes into it and any other item ends it: what is put and kept is that of one item more.
use Rattle.cw_join.proofs.Terms.{[], ◌∷◌, ◌++◌, sym, subst, arith, common_steps, on_ok_weaker, Printable, JoinerState}
use Rattle.cw_join.proofs.Terms.{Stands, printable}
use Rattle.cw_lines.specs.laws.WritesLaws.{puts-bytes}
use Rattle.cw_join.proofs.StateLaws.{control-added, control-stands, other-added, other-stands}
use Rattle.cw_join.proofs.joiner.Joiner.push.Goals as goal

pub returns-in-Some-clause-puts : goal.returns-in-Some-clause-puts
returns-in-Some-clause-puts g c = λ ps s. grind (
  arith,
  common_steps,
  puts-bytes (control-added c.args.self.now ps s (printable c.args.names.now c.args.token) c.in-Some.control
      (sym c.in-Some.ensures)) c.push_control.ensures.prints.puts,
)

pub returns-in-Some-clause-stands : goal.returns-in-Some-clause-stands
returns-in-Some-clause-stands g c = λ ps s. let p : Printable = printable c.args.names.now c.args.token in
    on_ok_weaker c.push_control.result
    (λ state. subst (λ (joiner : JoinerState). Stands joiner (ps ++ p ∷ [])) (sym state)
    (control-stands c.args.self.now ps s p c.in-Some.control (sym c.in-Some.ensures))) c.push_control.ensures.state

pub returns-in-None-clause-puts : goal.returns-in-None-clause-puts
returns-in-None-clause-puts g c = λ ps s. grind (
  arith,
  common_steps,
  puts-bytes (other-added c.args.self.now ps s (printable c.args.names.now c.args.token) (sym c.in-None.ensures))
      c.push_other.ensures.prints.puts,
)

pub returns-in-None-clause-stands : goal.returns-in-None-clause-stands
returns-in-None-clause-stands g c = λ ps s. let p : Printable = printable c.args.names.now c.args.token in
    on_ok_weaker c.push_other.result (λ state. subst (λ (joiner : JoinerState). Stands joiner (ps ++ p ∷ []))
    (sym state) (other-stands c.args.self.now ps s p (sym c.in-None.ensures))) c.push_other.ensures.state
