-- Limbo as it is printed, behind the line that reads the macros.
use Rattle.std.specs.Prelude.{ℕ, false, List, ◌++◌, codes}
use Rattle.cw_base.specs.declared.span.Span.{Span}
use Rattle.cw_rules.specs.declared.tokens.Mode.TheVariants as modes
use Rattle.cw_texts.specs.Scans.{scanned}
use Rattle.cw_press.specs.Inks.{inks, laid}

abbrev pub printed_limbo : List ℕ → Span → List ℕ
printed_limbo text span = laid false (inks text (scanned modes.Limbo text span))

-- the first line of a book, and its limbo
abbrev pub limbo_bytes : List ℕ → Span → List ℕ
limbo_bytes text span = codes "\\input cwebmac\n" ++ printed_limbo text span
