-- How many tokens the lists of a store hold, all together.
use Rattle.std.specs.Prelude.{ℕ, List, length}
use Rattle.std.specs.List.{sum_by}
use Rattle.cw_tokens.specs.declared.token.Token.{Token}

abbrev pub token_count : List (List Token) → ℕ
token_count lists = sum_by length lists
