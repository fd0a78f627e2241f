-- The sections before have given their texts.
use Rattle.cw_texts.proofs.Terms.{◌≡◌, ◌+◌, ◌++◌, drop, is_printed, refs_from, texts_of}
use Rattle.cw_texts.proofs.published.texts.Given as goal

abbrev pub invariant-loop-before : goal.invariant-loop-before
invariant-loop-before l = l.list ++ refs_from (is_printed l.text l.book.name_uses) l.text l.book.name_uses
    (l.before + 1) (drop l.before l.book.outline.sections) ≡ texts_of l.text l.book.name_uses l.book.outline.sections
