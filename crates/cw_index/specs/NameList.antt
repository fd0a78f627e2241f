-- The section list: the section names in their order, each with the sections that cite and use it.
use Rattle.std.specs.Prelude.{ℕ, false, List, [], ◌∷◌, ◌++◌, Some, codes, length}
use Rattle.cw_base.specs.declared.span.Span.{Span}
use Rattle.cw_rules.specs.Answers.{Answer, Token}
use Rattle.cw_lex.specs.Lexing.{tokens_of}
use Rattle.cw_rules.specs.declared.tokens.Mode.TheVariants.{Inner}
use Rattle.cw_names.specs.Names.{Entry}
use Rattle.cw_press.specs.Footnotes.{of_name, use_footnotes}
use Rattle.cw_press.specs.Done.{Done, done_behind, as_it_is, done_then}
use Rattle.cw_texts.specs.WholeTexts.{IsWhole}
use Rattle.cw_press.specs.Texts.{Lasting, Setting, text_done}
use Rattle.cw_index.specs.Standing.{listed_names}
use Rattle.cw_index.specs.declared.standing.Listed.{Listed}

-- the span of the section name that begins at a place
abbrev pub first_span : ℕ → List Answer → Span
first_span place (Token token ∷ answers) = token.span
first_span place answers = record { start = place; «end» = place }

abbrev pub name_span : List ℕ → ℕ → Span
name_span text place = first_span place (tokens_of text place (length text) Inner)

-- what stands behind a listed name: the end of its line, and its footnotes, each on a line
abbrev pub use_notes : Lasting → Listed → List ℕ
use_notes book l = of_name (use_footnotes book.outline.sections) book.sec_names (Some l.id)

-- A listed name prints as a C text of its own.
abbrev pub listed_done : Setting → Listed → List Entry → Done ℕ
listed_done s l names =
    done_behind (codes "\\I") (done_then (text_done s Inner false (name_span s.text l.place) names)
    (as_it_is (codes "\n" ++ use_notes s.book l)))

-- names that are listed one after another
abbrev pub all_listed : Setting → List Listed → List Entry → Done ℕ
all_listed s [] names = as_it_is [] names
all_listed s (l ∷ ls) names = done_then (listed_done s l names) (all_listed s ls)

abbrev pub names_done : Setting → List Entry → Done ℕ
names_done s names = all_listed s (listed_names s.book.sec_names s.book.name_uses) names

-- The C texts of a listed name stand in the web's text, and no section code cuts them.
abbrev pub IsWholeName : List ℕ → Listed → Type 0
IsWholeName text l = IsWhole text (name_span text l.place)
