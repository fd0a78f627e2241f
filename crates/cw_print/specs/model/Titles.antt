-- A program's section name as a title.
use Rattle.cw_print.specs.declared.title.SectionTitle.{SectionTitle}
use Rattle.std.specs.Prelude.{map}
use Rattle.cw_print.specs.Sources.{numbered_in}
use Rattle.cw_print.specs.Walk.{Title}

abbrev pub title_of : SectionTitle → Title
title_of t = record {
  text = t.text.now;
  is_file = t.is_file;
  number = t.number;
  is_changed = t.is_changed;
  later = map (numbered_in t.book.now.outline.sections) t.later.now;
}
