-- The names of a web's book are those of its uses, and none is longer than the web's text.
use Rattle.std.proofs.Common.{◌≤◌, ◌^◌, ap, length, arith}
use Rattle.std.proofs.lemmas.List.Elements.{All-weaker}
use Rattle.cw_base.specs.Web.{text_of}
use Rattle.cw_secnames.specs.Kept.{SecName}
use Rattle.cw_unit_tests.proofs.small_webs.book_of.Goals as goal

pub returns : goal.returns
returns c =
    let limit : length (text_of c.args.web.now.lines) ≤ 2 ^ 24 = omega (arith, ap length c.text-text.ensures.lines) in
    record {
      among = c.in_ok-book.ensures.use_ids;
      short = All-weaker (λ (n : SecName). length n.text ≤ length (text_of c.args.web.now.lines))
          (λ (n : SecName). length n.text ≤ 2 ^ 24) (λ n short. omega (arith, limit)) _ c.in_ok-book.ensures.texts;
    }
