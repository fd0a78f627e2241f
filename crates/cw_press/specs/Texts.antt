-- The C texts of a book: where they stand, and what they print.
use Rattle.std.specs.Prelude.{ℕ, Bool, List, []}
use Rattle.std.specs.Option.{option_map_or}
use Rattle.cw_base.specs.declared.flags.Flags.{Flags}
use Rattle.cw_base.specs.declared.span.Span.{Span}
use Rattle.cw_lex.specs.Lexing.{tokens_of}
use Rattle.cw_rules.specs.declared.tokens.Mode.{Mode}
use Rattle.cw_rules.specs.declared.tokens.Mode.TheVariants.{Inner}
use Rattle.cw_names.specs.Names.{Entry}
use Rattle.cw_phase1.specs.Outline.{OutlineState}
use Rattle.cw_phase1.specs.declared.book.Book.{Book}
use Rattle.cw_print.specs.Sources.{source_at}
use Rattle.cw_print.specs.Walk.{tree_bytes}
use Rattle.cw_translator.specs.NameParts.{name_texts}
use Rattle.cw_translator.specs.Translating.{Ended, translated}
use Rattle.cw_secnames.specs.Kept.{SecName}
use Rattle.cw_secnames.specs.Uses.{NameUse, name_at}
use Rattle.cw_press.specs.Done.{Done, as_it_is}

-- What stays while a book is printed: its sections, its section names, and where these stand in the web.
pub record Lasting : Type 0 where
  pub outline : OutlineState
  pub sec_names : List SecName
  pub name_uses : List NameUse

abbrev pub lasting : Book → Lasting
lasting book = record { outline = book.outline; sec_names = book.sec_names; name_uses = book.name_uses }

-- the book with these names; where names occur is no matter
abbrev pub book_with : Lasting → List Entry → Book
book_with l names =
    record { names = names; xrefs = []; sec_names = l.sec_names; name_uses = l.name_uses; outline = l.outline }

-- What is printed from: the web's text, the flags, and what stays of the book; and the present section, or 0 in the
-- section list.
pub record Setting : Type 0 where
  pub text : List ℕ
  pub flags : Flags
  pub book : Lasting
  pub section : ℕ

abbrev pub setting : List ℕ → Flags → ℕ → Book → Setting
setting text flags section book = record { text = text; flags = flags; book = lasting book; section = section }

-- the translation of the C text of a span is printed, as inner C text or not
abbrev pub ended_done : Setting → Mode → Bool → Span → Ended → Done ℕ
ended_done s mode inner span t = record {
  out = tree_bytes inner (source_at s.text span mode (book_with s.book t.known.names) s.section s.flags) t.tree;
  names = t.known.names;
  marks = t.known.marks;
  ended = t.known.ended;
}

abbrev pub text_done : Setting → Mode → Bool → Span → List Entry → Done ℕ
text_done s mode inner span names =
    ended_done s mode inner span
    (translated s.flags (name_texts s.book.sec_names s.book.name_uses)
    (tokens_of s.text span.start span.«end» mode) names [])

-- The section name that stands at a span, as a C text of its own; one that is ignored is none.
abbrev pub name_done : Setting → Bool → Span → List Entry → Done ℕ
name_done s inner span names =
    option_map_or (λ _. text_done s Inner inner span names) (name_at span.start s.book.name_uses) (as_it_is [] names)
