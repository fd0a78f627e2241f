-- The text is translated, and then it is printed or not.
use Rattle.cw_part.proofs.Terms.{◌≡◌, ℕ, ◌||◌, true, false, ap, ◌∙◌, codes, nat_lt, puts-bytes, puts-longer, puts-then}
use Rattle.cw_part.proofs.Terms.{scraps_in, Counts, Done, lasting}
use Rattle.cw_part.specs.model.PresentForms.{text_of}
use Rattle.cw_part.proofs.ParagraphLaws.{counted, paragraph-cut, paragraph-kept, paragraph-put, paragraph-refused}
use Rattle.cw_part.proofs.ParagraphLaws.{printed-is}
use Rattle.cw_part.proofs.paragraphs.print_paragraph.Goals as goal

pub returns-in_err-translated-clause-weaves : goal.returns-in_err-translated-clause-weaves
returns-in_err-translated-clause-weaves g c =
    let d : Done ℕ = text_of c.args.p c.args.paragraph (lasting c.args.book.now) c.args.book.now.names in
    paragraph-refused c.args.paragraph.front.now
    (c.args.paragraph.always || nat_lt 0 (scraps_in d.ended)) c.args.sheet.now.line.now
    (g.D.Desk.told c.args.sheet.now.desk.now) c.in_err-translated.ensures.translates c.from_residual.ensures.1

pub returns-then-not-printed-clause-weaves : goal.returns-then-not-printed-clause-weaves
returns-then-not-printed-clause-weaves g c =
    let d : Done ℕ = text_of c.args.p c.args.paragraph (lasting c.args.book.now) c.args.book.now.names in
    let is : (c.args.paragraph.always || nat_lt 0 (scraps_in d.ended)) ≡ false = printed-is c.args.paragraph.always
    c.is_printed-printed.result c.counts-counts.result.scraps (scraps_in d.ended) c.is_printed-printed.ensures
    (ap (λ (n : Counts). n.scraps) c.counts-counts.ensures ∙ c.in_ok-translated.ensures.translates.scraps)
    ∙ c.if-not-printed.true in
    counted c.counts-counts.ensures (paragraph-kept c.args.paragraph.front.now
    (c.args.paragraph.always || nat_lt 0 (scraps_in d.ended)) c.args.sheet.now.line.now
    (g.D.Desk.told c.args.sheet.now.desk.now) is c.in_ok-translated.ensures.translates)

pub returns-in_err-put_all-clause-weaves : goal.returns-in_err-put_all-clause-weaves
returns-in_err-put_all-clause-weaves g c =
    let d : Done ℕ = text_of c.args.p c.args.paragraph (lasting c.args.book.now) c.args.book.now.names in
    let is : (c.args.paragraph.always || nat_lt 0 (scraps_in d.ended)) ≡ true = printed-is c.args.paragraph.always
    c.is_printed-printed.result c.counts-counts.result.scraps (scraps_in d.ended) c.is_printed-printed.ensures
    (ap (λ (n : Counts). n.scraps) c.counts-counts.ensures ∙ c.in_ok-translated.ensures.translates.scraps)
    ∙ c.if-not-printed.false in
    paragraph-cut c.args.paragraph.front.now
    (c.args.paragraph.always || nat_lt 0 (scraps_in d.ended)) is c.in_ok-translated.ensures.translates (puts-longer
    (codes "\\par\n") (puts-longer d.out c.in_err-put_all.ensures.puts)) c.from_residual-in_err-put_all.ensures.1

pub returns-in_err-print-clause-weaves : goal.returns-in_err-print-clause-weaves
returns-in_err-print-clause-weaves g c =
    let d : Done ℕ = text_of c.args.p c.args.paragraph (lasting c.args.book.now) c.args.book.now.names in
    let is : (c.args.paragraph.always || nat_lt 0 (scraps_in d.ended)) ≡ true = printed-is c.args.paragraph.always
    c.is_printed-printed.result c.counts-counts.result.scraps (scraps_in d.ended) c.is_printed-printed.ensures
    (ap (λ (n : Counts). n.scraps) c.counts-counts.ensures ∙ c.in_ok-translated.ensures.translates.scraps)
    ∙ c.if-not-printed.false in
    paragraph-cut c.args.paragraph.front.now (c.args.paragraph.always || nat_lt 0 (scraps_in d.ended)) is
    c.in_ok-translated.ensures.translates (puts-longer (codes "\\par\n") (puts-then c.in_ok-put_all.ensures.puts
    (puts-bytes c.in_ok-translated.ensures.printed c.in_err-print.ensures.puts))) c.from_residual-in_err-print.ensures.1

pub returns-in_err-put_all-2-clause-weaves : goal.returns-in_err-put_all-2-clause-weaves
returns-in_err-put_all-2-clause-weaves g c =
    let d : Done ℕ = text_of c.args.p c.args.paragraph (lasting c.args.book.now) c.args.book.now.names in
    let is : (c.args.paragraph.always || nat_lt 0 (scraps_in d.ended)) ≡ true = printed-is c.args.paragraph.always
    c.is_printed-printed.result c.counts-counts.result.scraps (scraps_in d.ended) c.is_printed-printed.ensures
    (ap (λ (n : Counts). n.scraps) c.counts-counts.ensures ∙ c.in_ok-translated.ensures.translates.scraps)
    ∙ c.if-not-printed.false in
    paragraph-cut c.args.paragraph.front.now
    (c.args.paragraph.always || nat_lt 0 (scraps_in d.ended)) is c.in_ok-translated.ensures.translates (puts-then
    (puts-then c.in_ok-put_all.ensures.puts (puts-bytes c.in_ok-translated.ensures.printed c.in_ok-print.ensures.puts))
    c.in_err-put_all-2.ensures.puts) c.from_residual-in_err-put_all-2.ensures.1

pub returns-clause-weaves : goal.returns-clause-weaves
returns-clause-weaves g c =
    let d : Done ℕ = text_of c.args.p c.args.paragraph (lasting c.args.book.now) c.args.book.now.names in
    let is : (c.args.paragraph.always || nat_lt 0 (scraps_in d.ended)) ≡ true = printed-is c.args.paragraph.always
    c.is_printed-printed.result c.counts-counts.result.scraps (scraps_in d.ended) c.is_printed-printed.ensures
    (ap (λ (n : Counts). n.scraps) c.counts-counts.ensures ∙ c.in_ok-translated.ensures.translates.scraps)
    ∙ c.if-not-printed.false in
    counted c.counts-counts.ensures (paragraph-put c.args.paragraph.front.now (c.args.paragraph.always || nat_lt 0
    (scraps_in d.ended)) is c.in_ok-translated.ensures.translates (puts-then (puts-then c.in_ok-put_all.ensures.puts
    (puts-bytes c.in_ok-translated.ensures.printed c.in_ok-print.ensures.puts)) c.in_ok-put_all-2.ensures.puts))
