-- Equal bytes are of one class.
use Rattle.cw_index.proofs.Terms.{sym, ap, ◌∙◌, class_cmp, class_of}
use Rattle.cw_index.proofs.ClassLaws.{class_cmp-is, class_cmp-same}
use Rattle.cw_index.proofs.collation.compare_bytes.Goals as goal

pub returns-then-first-second : goal.returns-then-first-second
returns-then-first-second c = sym (class_cmp-same (class_of c.args.first))
    ∙ ap (λ byte. class_cmp (class_of c.args.first) (class_of byte)) c.if-first-second.true

pub returns : goal.returns
returns c = c.cmp.ensures ∙ class_cmp-is c.class_of.result c.class_of-2.result
    ∙ (λ i. class_cmp (c.class_of.ensures i) (c.class_of-2.ensures i))
