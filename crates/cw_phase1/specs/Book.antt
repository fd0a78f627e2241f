-- The book that the first phase makes of a web.
use Rattle.std.specs.Prelude.{List, [], length, ◌++◌, None}
use Rattle.std.specs.List.{flat_map}
use Rattle.cw_base.specs.Web.{MergedLine, text_of}
use Rattle.cw_rules.specs.Answers.{Answer}
use Rattle.cw_lex.specs.Lexing.{tokens_of}
use Rattle.cw_rules.specs.declared.tokens.Mode.TheVariants as modes
use Rattle.cw_names.specs.Words.{built_in_words}
use Rattle.cw_phase1.specs.declared.book.Book.{Book}
use Rattle.cw_phase1.specs.Entering.{kept_after, noted_from}
use Rattle.cw_phase1.specs.Roles.{placed}
use Rattle.cw_phase1.specs.Words.{occurrences, known_after}
use Rattle.cw_phase1.specs.Uses.{uses_of, section_names}
use Rattle.cw_phase1.specs.Sections.{sections_of, span, ends_section, first_start}
use Rattle.cw_phase1.specs.Missing.{missing_equals}
use Rattle.cw_phase1.specs.Notes.{name_notes, scanned_note}

-- the answers of the scanner for a whole web
abbrev pub answers_of : List MergedLine → List Answer
answers_of lines = tokens_of (text_of lines) 0 (length (text_of lines)) modes.Limbo

-- The book of a web: its sections, its names with their occurrences, its section names with their uses, and its notes.
-- All of it comes from the scanner's answers for the whole web, and from what each token is where it stands.
abbrev pub book : List MergedLine → Book
book lines =
    let size = length (text_of lines) in
    let answers = answers_of lines in
    let tokens = placed answers in
    let names = (known_after tokens (record { first = None; names = built_in_words })).names in
    let kept = section_names (kept_after [] answers) tokens in
    let uses = uses_of tokens in
    let sections = sections_of lines size tokens in
    record {
      names = names;
      xrefs = occurrences names tokens;
      sec_names = kept;
      name_uses = uses;
      outline = record {
        limbo = span 0 (first_start ends_section size tokens);
        sections = sections;
        notes = flat_map (scanned_note lines) (noted_from [] answers)
            ++ (missing_equals lines uses kept sections ++ name_notes kept);
      };
    }
