-- The pieces of a line: a word before a blank or the end, names each behind a blank, and numbers.
use Rattle.std.specs.Prelude.{◌≡◌, ◌≢◌, ℕ, ◌<◌, ◌≤◌, Bool, true, not, nat_eq, List, [], ◌∷◌, ◌++◌, length, All}
use Rattle.std.specs.List.{flat_map, list_all}
use Rattle.std.specs.Fmt.{decimal}
use Rattle.cw_base.specs.Bytes.{space}
use Rattle.cw_base.specs.Text.{pieces_of}
use Rattle.cw_logs.specs.LogText.{blank_and, is_identifier}

-- no byte is this one
abbrev pub lacks : ℕ → List ℕ → Bool
lacks unwanted bytes = list_all (λ byte. not (nat_eq byte unwanted)) bytes

-- nothing, or something behind a blank
pub data IsBlanked : List ℕ → Type 0 where
  nothing : IsBlanked []
  something : (bytes : List ℕ) → IsBlanked (space ∷ bytes)

-- The word ends before the first blank.
pub record IsCut (text word rest : List ℕ) : Type 0 where
  pub is : text ≡ word ++ rest
  pub plain : lacks space word ≡ true
  pub blanked : IsBlanked rest

-- ## Names

-- The text begins with a blank and this identifier, and with no other that ends before a blank or the end.
pub record HasName (text name rest : List ℕ) : Type 0 where
  pub is : text ≡ space ∷ name ++ rest
  pub fine : is_identifier name ≡ true
  pub alone : (other tail : List ℕ) → is_identifier other ≡ true → IsBlanked tail → text ≡ space ∷ other ++ tail
      → tail ≡ rest

abbrev pub NoName : List ℕ → Type 0
NoName text = (name rest : List ℕ) → is_identifier name ≡ true → IsBlanked rest → text ≢ space ∷ name ++ rest

abbrev pub AreIdentifiers : List (List ℕ) → Type 0
AreIdentifiers names = All (λ name. is_identifier name ≡ true) names

-- The text is so many identifiers, each behind a blank.
pub record AreNames (text : List ℕ) (count : ℕ) : Type 0 where
  pub names : List (List ℕ)
  pub fine : AreIdentifiers names
  pub many : length names ≡ count
  pub is : text ≡ flat_map blank_and names

abbrev pub NoNames : List ℕ → Type 0
NoNames text = (names : List (List ℕ)) → AreIdentifiers names → text ≢ flat_map blank_and names

-- ## Numbers

pub record IsNumber (most : ℕ) (digits : List ℕ) (number : ℕ) : Type 0 where
  pub within : number ≤ most
  pub is : digits ≡ decimal number

abbrev pub NoNumber : ℕ → List ℕ → Type 0
NoNumber most digits = (number : ℕ) → number ≤ most → digits ≢ decimal number

-- ## Lines

-- The line is the first of the text, and the lines of the rest are the others.
pub record IsFirstLine (text line rest : List ℕ) : Type 0 where
  pub cut : pieces_of text ≡ line ∷ pieces_of rest
  pub shorter : length rest < length text
