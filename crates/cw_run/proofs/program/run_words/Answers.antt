-- What is handed on at the end is the run, or a first part of it.
use Rattle.std.proofs.Common.{List, drop, length, ap, subst, arith}
use Rattle.std.specs.FinMap.{get}
use Rattle.cw_base.specs.declared.event.Event.{Event}
use Rattle.cw_desk.specs.Batch.{Gathering, tell}
use Rattle.cw_desk.specs.Journal.{byte_events}
use Rattle.cw_desk.specs.laws.JournalLaws.{longer-part}
use Rattle.cw_run.specs.Emits.{Run}
use Rattle.cw_run.specs.Program.{Outcome}
use Rattle.cw_run.specs.laws.ProgramLaws.{outcome-end, rest-told}
use Rattle.cw_run.proofs.program.run_words.Goals as goal

pub returns-clause-done : goal.returns-clause-done
returns-clause-done g c = λ files agrees.
    let told = g.D.Desk.told in
    let batch = c.run_on-exit.new.desk in
    let run : Run = g.P.Program.run c.args.program.now c.args.words.now (get files) in
    let events : List Event = byte_events batch.out batch.waiting in
    let there = c.end.ensures.same.narrows files agrees in
    let P : List Event → Type 0 = λ journal. Outcome run journal (tell told batch).journal c.run_on-exit.result in
    outcome-end run (told c.args.desk).journal (tell told batch).journal (told c.end.result.1).journal
    (drop c.end.ensures.part.count events) c.run_on-exit.result c.end.result.0
    (rest-told {events = events} c.end.ensures.part)
    (omega (
      arith,
      c.run_on-exit.ensures.handed files there,
      longer-part {events = events} c.end.ensures.part,
      ap (λ (b : Gathering g.row.D.Denot). length (told b.below).journal) c.new_in-batch.ensures.empty,
    ))
    c.end.ensures.whole (subst P c.new_in-batch.ensures.journal (c.run_on-exit.ensures.done files there))
