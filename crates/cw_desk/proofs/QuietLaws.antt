-- What a quiet desk tells is what the desk in memory that it holds tells.
use Rattle.cw_desk.proofs.Terms.{◌≡◌, ℕ, ◌==◌, List, [], if◌then◌else◌, sym, ap, subst, ◌∙◌, MemState, called, counted}
use Rattle.cw_desk.proofs.Terms.{tell_mem, DeskState}
use Rattle.std.specs.List.{list_any}
use Rattle.cw_desk.specs.Quiet.{QuietState, as_quiet}
use Rattle.cw_desk.specs.model.Quiet.{as_mem, tell_quiet}

-- No call on it is to fail, and none has failed.
pub record IsQuiet (d : MemState) : Type 0 where
  pub failing : d.failing ≡ []
  pub faults : d.faults ≡ 0

pub as_mem-quiet : (d : MemState) → IsQuiet d → as_mem (as_quiet d) ≡ d
as_mem-quiet d quiet = ap (λ (failing : List ℕ). record d { failing = failing; faults = 0 }) (sym quiet.failing)
    ∙ ap (λ (faults : ℕ). record d { faults = faults }) (sym quiet.faults)

pub called-quiet : (d : MemState) → IsQuiet d → IsQuiet (called d)
called-quiet d quiet = record {
  failing = quiet.failing;
  faults = ap (λ (failing : List ℕ).
      if list_any (λ n. n == counted d.calls) failing then counted d.faults else d.faults) quiet.failing ∙ quiet.faults;
}

pub quiet-after : {d e : MemState} → IsQuiet d → e.failing ≡ (called d).failing → e.faults ≡ (called d).faults
    → IsQuiet e
quiet-after {d = d} quiet failing faults = let still = called-quiet d quiet in record {
  failing = failing ∙ still.failing;
  faults = faults ∙ still.faults;
}

pub tells-quiet : (R : DeskState → DeskState → Type 0) (d e : MemState) (q : QuietState) → as_quiet d
    ≡ q → IsQuiet d → IsQuiet e
    → R (tell_mem d) (tell_mem e) → R (tell_quiet q) (tell_quiet (as_quiet e))
tells-quiet R d e q is before after done = subst (λ (s : QuietState). R (tell_quiet s) (tell_quiet (as_quiet e))) is
    (subst (λ (m : MemState). R (tell_mem m) (tell_mem (as_mem (as_quiet e)))) (sym (as_mem-quiet d before))
    (subst (λ (m : MemState). R (tell_mem d) (tell_mem m)) (sym (as_mem-quiet e after)) done))
