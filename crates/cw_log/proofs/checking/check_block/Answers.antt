-- What is found of the log is found of what the leaf lines tell.
use Rattle.cw_log.proofs.Terms.{◌≡◌, List, map, ◌∙◌, ap, subst, IfOk, Flags, Judges, LogItem, production_of, block_of}
use Rattle.cw_log.proofs.Terms.{Production, log as log_of, productions, State, told}
use Rattle.cw_scraps.specs.Applying.{state_of}
use Rattle.cw_log.proofs.CheckLaws.{log-told}
use Rattle.cw_log.proofs.checking.check_block.Goals as goal

pub returns : goal.returns
returns g c =
    let names = c.args.names.now in
    let log = c.args.log.now in
    let result = c.check_line.result in
    let state : State = state_of c.scrap_line.new.store.lists c.in_ok-line.line c.new_in-marks.result names in
    let same : log_of productions c.start-flags.result state ≡ told (block_of names log) = ap (λ (f : Flags). log_of
    productions f state) c.start-flags.ensures ∙ log-told names log.leaves (map production_of log.items) state
    c.len-distinct.ensures.distinct c.in_ok-line.ensures.told (c.in_ok-line.ensures.leaves ∙ c.as_slice.ensures) in
    subst (λ (is : List Production). IfOk result (λ v. Judges (map production_of log.items) is v)) same
    (subst (λ (items : List LogItem). IfOk result (λ v. Judges (map production_of items)
    (log_of productions c.start-flags.result state) v)) c.as_slice-items.ensures c.check_line.ensures.judges)
