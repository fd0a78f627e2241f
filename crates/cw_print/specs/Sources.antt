-- What a C text of a book is printed from.
use Rattle.std.specs.Prelude.{ℕ, ◌-◌, ◌==◌, ◌&&◌, Bool, true, false, List, [], ◌∷◌, Option, Some, None, option_map}
use Rattle.std.specs.Prelude.{if◌then◌else◌, drop, map, slice_get, unwrap_or}
use Rattle.std.specs.Option.{option_map_or}
use Rattle.cw_base.specs.declared.flags.Flags.{Flags}
use Rattle.cw_base.specs.declared.span.Span.{Span}
use Rattle.cw_rules.specs.Answers.{Answer}
use Rattle.cw_lex.specs.Lexing.{tokens_of}
use Rattle.cw_rules.specs.declared.tokens.Mode.{Mode}
use Rattle.cw_phase1.specs.declared.book.Book.{Book}
use Rattle.cw_phase1.specs.declared.sections.Section.{Section}
use Rattle.cw_secnames.specs.Kept.{SecName}
use Rattle.cw_secnames.specs.Uses.{name_at}
use Rattle.cw_secnames.specs.declared.kinds.SecId.{SecId}
use Rattle.cw_secnames.specs.declared.kinds.SecKind.{SecKind}
use Rattle.cw_secnames.specs.declared.kinds.SecKind.TheVariants.{Named, File}
use Rattle.cw_print.specs.Walk.{Numbered, PrintSource, Title}

-- the section of a number; they are counted from 1
abbrev pub section_of : List Section → ℕ → Option Section
section_of sections number = if number == 0 then None else slice_get sections (number - 1)

abbrev pub is_changed : List Section → ℕ → Bool
is_changed sections number = unwrap_or (option_map (λ s. s.changed) (section_of sections number)) false

-- ## Section names

-- the first section that defines a name, or 0
abbrev pub first_section : List ℕ → ℕ
first_section [] = 0
first_section (number ∷ numbers) = number

abbrev pub is_file : SecKind → Bool
is_file Named = false
is_file File = true

abbrev pub numbered_in : List Section → ℕ → Numbered
numbered_in sections number = record { number = number; is_changed = is_changed sections number }

-- a name that is kept, as it is printed
abbrev pub title_of_name : List Section → SecName → Title
title_of_name sections name = record {
  text = name.text;
  is_file = is_file name.kind;
  number = first_section name.defined;
  is_changed = is_changed sections (first_section name.defined);
  later = map (numbered_in sections) (drop 1 name.defined);
}

abbrev pub title_of_kept : List Section → List SecName → Option ℕ → Option Title
title_of_kept sections kept None = None
title_of_kept sections kept (Some k) = option_map (title_of_name sections) (slice_get kept k)

-- The title of the section name at a number: that of the name for which it stands in the book.
abbrev pub titles : Book → ℕ → Option Title
titles book number = title_of_kept book.outline.sections book.sec_names (name_at number book.name_uses)

-- ## The present section

-- whether a section is the first that defines this name
abbrev pub defines_first : List SecName → Option SecId → ℕ → Bool
defines_first kept None number = false
defines_first kept (Some id) number =
    unwrap_or (option_map (λ name. first_section name.defined == number) (slice_get kept id.index)) false

-- Whether the present section is the first that defines its name. The section list has none.
abbrev pub is_first : Book → ℕ → Bool
is_first book number = option_map_or (λ section. defines_first book.sec_names section.name number) (section_of
    book.outline.sections number) false

-- ## The source

-- With flag r the section list, which has the number 0, has all sections that define a name.
abbrev pub lists_all : Flags → ℕ → Bool
lists_all flags section = flags.ranged && section == 0

-- what a C text with these answers of the scanner is printed from
abbrev pub source_by : List Answer → Book → ℕ → Flags → PrintSource
source_by answers book section flags = record {
  fixed = record {
    answers = answers;
    wraps = flags.wrap;
    first = is_first book section;
    lists = lists_all flags section;
  };
  titles = titles book;
  names = book.names;
}

abbrev pub source_at : List ℕ → Span → Mode → Book → ℕ → Flags → PrintSource
source_at text span mode book section flags = source_by (tokens_of text span.start span.«end» mode) book section flags
