-- The scanner over a part of a web's text.
use Rattle.std.specs.Prelude.{ℕ, List}
use Rattle.cw_base.specs.declared.span.Span.{Span}
use Rattle.cw_rules.specs.Answers.{Answer}
use Rattle.cw_rules.specs.declared.tokens.Mode.{Mode}
use Rattle.cw_lex.specs.Lexing.{tokens_of}

-- the answers of the scanner for a span of the text
abbrev pub scanned : Mode → List ℕ → Span → List Answer
scanned mode text span = tokens_of text span.start span.«end» mode
