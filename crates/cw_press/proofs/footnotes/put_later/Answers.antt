-- One number goes behind another.
use Rattle.cw_press.proofs.Terms.{ℕ, ◌-◌, List, ◌++◌, drop, get_or, length, map, take, arith, later_numbers, number_in}
use Rattle.cw_press.proofs.FootnoteLaws.{later-next}
use Rattle.cw_press.proofs.PrintLaws.{printing-as, printing-begun, printing-next, printing-stopped}
use Rattle.cw_press.proofs.footnotes.put_later.Goals as goal

pub loop-rest-init : goal.loop-rest-init
loop-rest-init g c = printing-begun _ _ _

pub returns-in_err-put_all : goal.returns-in_err-put_all
returns-in_err-put_all g c =
    let numbers : List ℕ = c.loop-rest.rest.now in
    let shown : ℕ → List ℕ = number_in c.args.book.now.outline.sections in
    let later : List ℕ = later_numbers (map shown (take (length numbers - 1) (drop 1 numbers))) in
    printing-stopped (shown (get_or numbers 0 0) ++ later) (printing-as (later-next shown numbers c.separator.result.now
    (omega arith) (c.separator.ensures shown)) c.loop-rest.invariant) c.in_err-put_all.ensures c.from_residual.ensures.1

pub returns-in_err-put_section : goal.returns-in_err-put_section
returns-in_err-put_section g c =
    let numbers : List ℕ = c.loop-rest.rest.now in
    let shown : ℕ → List ℕ = number_in c.args.book.now.outline.sections in
    let later : List ℕ = later_numbers (map shown (take (length numbers - 1) (drop 1 numbers))) in
    printing-stopped later (printing-next {rest = shown (get_or numbers 0 0) ++ later} (printing-as
    (later-next shown numbers c.separator.result.now (omega arith) (c.separator.ensures shown)) c.loop-rest.invariant)
    c.in_ok-put_all.ensures) c.in_err-put_section.ensures c.from_residual-in_err-put_section.ensures.1

pub loop-rest-preserved : goal.loop-rest-preserved
loop-rest-preserved g c =
    let numbers : List ℕ = c.loop-rest.rest.now in
    let shown : ℕ → List ℕ = number_in c.args.book.now.outline.sections in
    let later : List ℕ = later_numbers (map shown (take (length numbers - 1) (drop 1 numbers))) in
    printing-next {rest = later} (printing-next {rest = shown (get_or numbers 0 0) ++ later} (printing-as
    (later-next shown numbers c.separator.result.now (omega arith) (c.separator.ensures shown)) c.loop-rest.invariant)
    c.in_ok-put_all.ensures) c.in_ok-put_section.ensures
