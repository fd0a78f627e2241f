-- What reading the opened file answers is what looking for it answers, and what was read of it is read.
use Rattle.std.proofs.Common.{ℕ, ◌+◌, List, length, option_map, sym, ap, ◌∙◌, arith}
use Rattle.std.specs.FinMap.{get}
use Rattle.cw_input.specs.{declared.found.InputFile.InputFile, Merged.found_file}
use Rattle.cw_input.proofs.AnswerLaws.{Finds-err}
use Rattle.cw_input.proofs.ReadLaws.{reads_on-file, reads_on-more, reads_on-same}
use Rattle.cw_input.proofs.reading.find_file.Goals as goal

pub returns-in-Err-clause-finds : goal.returns-in-Err-clause-finds
returns-in-Err-clause-finds g c = λ files is.
    let made : List ℕ → InputFile = λ bytes. record { name = c.args.name; bytes = bytes } in
    let before = c.in-Err.ensures.same.narrows files is in
    Finds-err (made ((g.D.Desk.told c.open.new.self).rest files c.in-File.id.index))
    (found_file (get files) c.args.name) c.args.room c.in-Err.error (ap (option_map made)
    (ap (get files) (sym c.as_slice.ensures) ∙ c.in-File.ensures.named files before)) (c.in-Err.ensures.reads files is)

pub returns-in-Missing-clause-finds : goal.returns-in-Missing-clause-finds
returns-in-Missing-clause-finds g c = grind (arith, option_map)

pub returns-in-Ok-clause-most : goal.returns-in-Ok-clause-most
returns-in-Ok-clause-most g c sum =
    reads_on-file sum (length c.in-Ok.bytes) c.in-File.ensures c.in-Ok.ensures.same c.in-Ok.ensures.came
    c.in-Ok.ensures.most

pub returns-in-Err-clause-most : goal.returns-in-Err-clause-most
returns-in-Err-clause-most g c sum =
    reads_on-file sum (c.args.room + 1) c.in-File.ensures c.in-Err.ensures.same c.in-Err.ensures.came
    c.in-Err.ensures.most

pub returns-in-Missing-clause-most : goal.returns-in-Missing-clause-most
returns-in-Missing-clause-most g c sum =
    reads_on-same sum c.in-Missing.ensures.next c.in-Missing.ensures.same_came c.in-Missing.ensures.same_rests

pub returns-in-Failed-clause-most : goal.returns-in-Failed-clause-most
returns-in-Failed-clause-most g c sum = reads_on-more {b = sum} (omega arith)
    (reads_on-same sum c.in-Failed.ensures.next c.in-Failed.ensures.same_came c.in-Failed.ensures.same_rests)

pub returns-in-Memory-clause-most : goal.returns-in-Memory-clause-most
returns-in-Memory-clause-most g c sum = reads_on-more {b = sum} (omega arith)
    (reads_on-same sum c.in-Memory.ensures.next c.in-Memory.ensures.same_came c.in-Memory.ensures.same_rests)
