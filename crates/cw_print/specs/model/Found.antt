-- The models beside `specs/Found`.
use Rattle.std.specs.Prelude.{◌≡◌, ◌≢◌, ℕ, ◌≤◌, ◌<◌, ◌^◌, List, Some}
use Rattle.cw_rules.specs.declared.tokens.Lexed.{Lexed}
use Rattle.cw_rules.specs.declared.tokens.Tok.{Tok}
use Rattle.cw_rules.specs.Answers.{Answer, Gives, seen}
use Rattle.cw_print.specs.Found.{numbered}

-- Every number from this one on has its token among the answers that are still to come. Numbers are below 2 ^ 32.
pub record IsAhead (all : List Answer) (from : ℕ) (rest : List Answer) : Type 0 where
  pub same : (number : ℕ) → from ≤ number → number < 2 ^ 32 → numbered number rest ≡ numbered number all

-- An answer of the scanner has a token that is found by its number, and others are found behind it.
pub record HasNumber (answer : Lexed) (token : Tok) : Type 0 where
  pub found : (old new : List Answer) → Gives old answer new → numbered token.span.start old ≡ Some (seen token)
  pub passed : (number : ℕ) (old new : List Answer) → Gives old answer new → token.span.start ≢ number
      → numbered number old ≡ numbered number new

-- All tokens are found behind it.
abbrev pub HasNoNumber : Lexed → Type 0
HasNoNumber answer = (number : ℕ) (old new : List Answer) → Gives old answer new
    → numbered number old ≡ numbered number new
