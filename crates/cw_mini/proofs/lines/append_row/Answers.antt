-- The line is the word, the sections that define it, and the end.
use Rattle.cw_mini.proofs.Terms.{ℕ, ◌∙◌, List, ◌++◌, ap, codes, flat_map, on_ok_weaker, defining, defining_bytes}
use Rattle.cw_mini.proofs.RowLines.{ident-line}
use Rattle.cw_mini.proofs.lines.append_row.Goals as goal

pub returns : goal.returns
returns c = λ entry there ident. let sections = c.args.book.now.outline.sections in on_ok_weaker c.append.result (λ e. e
    ∙ ap (λ (l : List ℕ). l ++ codes ".\n") (c.in_ok-append_defining.ensures ∙ (λ i. c.in_ok-append_word.ensures entry
    there i ++ flat_map (defining_bytes sections) (defining (c.sections_of.ensures.value i))))
    ∙ ident-line sections c.args.id.index entry c.args.book.now.xrefs c.args.lines.now ident) c.append.ensures.ok
