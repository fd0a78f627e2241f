-- The texts are those of the web, and each can be translated.
use Rattle.cw_mini.proofs.Terms.{on_ok_weaker}
use Rattle.cw_mini.proofs.LeftLaws.{left-whole, names-kept, texts-whole}
use Rattle.cw_mini.proofs.texts.leave_texts.Goals as goal

pub leave_each-requires : goal.leave_each-requires
leave_each-requires g c = record {
  whole = texts-whole c.whole_texts_law.ensures c.args.web.now.lines c.text.result.now c.in_ok-list.list
      c.args.book.now c.text.ensures.lines c.text.ensures.limit c.in_ok-list.ensures c.requires.same;
  kept = names-kept c.args.web.now.lines c.text.result.now c.args.book.now c.text.ensures.lines c.text.ensures.limit
      c.requires;
}

pub returns : goal.returns
returns g c = on_ok_weaker c.leave_each.result
    (left-whole c.args.web.now.lines c.text.result.now c.in_ok-list.list c.args.book.now c.leave_each.new.book
    c.text.ensures.lines c.in_ok-list.ensures c.requires.same) c.leave_each.ensures
