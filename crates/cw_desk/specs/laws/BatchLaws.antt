-- Laws of handing on: the bytes behind those that were put are what still waits.
use Rattle.std.specs.Prelude.{◌≡◌, ℕ, List, drop, length}
use Rattle.std.proofs.Common.{ap, ◌∙◌, arith, length-drop}
use Rattle.std.proofs.lemmas.List.{drop_all}
use Rattle.cw_base.specs.declared.event.Out.{Out}
use Rattle.cw_desk.specs.Batch.{HandsOn, PutsFirst}
use Rattle.cw_desk.specs.Journal.{byte_events, grown}
use Rattle.cw_desk.specs.laws.JournalLaws.{grown-rest, longer-part, part-bytes}
use Rattle.cw_desk.specs.State.{DeskState}
use Rattle.cw_desk.specs.declared.flushed.Flushed.{Flushed}

pub hands-rest : {out : Out} {bytes left : List ℕ} {count : ℕ} {answer : Flushed} {old new : DeskState}
    → PutsFirst out bytes count answer old new → left ≡ drop count bytes → HandsOn out answer bytes left old new
hands-rest {out = out} {bytes = bytes} {count = count} {old = old} {new = new} puts is_left = record {
  part = part-bytes old.journal out bytes count puts.journal;
  rest = ap (λ (waiting : List ℕ). grown new.journal (byte_events out waiting)) is_left
      ∙ grown-rest old.journal out bytes count puts.journal;
  same = puts.same;
  longer = longer-part (part-bytes old.journal out bytes count puts.journal);
  done = λ answer. is_left ∙ drop_all count bytes (let all : count ≡ length bytes = puts.done answer in omega arith);
  less = omega (arith, ap length is_left, length-drop count bytes);
  failed = puts.failed;
}
