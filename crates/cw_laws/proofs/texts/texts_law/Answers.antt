-- Sections are woven of their texts, and parts that aren't printed leave nothing.
use Rattle.cw_laws.proofs.BookMarks.{occurrences-are-woven}
use Rattle.cw_laws.proofs.BookTexts.{every-text-is-woven, texts-are-woven}
use Rattle.cw_laws.proofs.texts.texts_law.Goals as goal

pub returns-clause-every : goal.returns-clause-every
returns-clause-every c = every-text-is-woven

pub returns-clause-printed : goal.returns-clause-printed
returns-clause-printed c = texts-are-woven c.nest_law.ensures.well c.nesting_law.ensures.c_texts c.whole_law.ensures

pub returns-clause-occurrences : goal.returns-clause-occurrences
returns-clause-occurrences c = occurrences-are-woven c.nest_law.ensures.well c.nesting_law.ensures.c_texts
    c.whole_law.ensures
