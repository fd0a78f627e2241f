-- What a token prints where comments are open. How many braces are open in each is listed, the innermost comment first.
use Rattle.std.specs.Prelude.{ℕ, Bool, List, [], ◌∷◌, Option, Some, None, codes, if◌then◌else◌}
use Rattle.cw_rules.specs.Answers.{Seen}
use Rattle.cw_rules.specs.declared.tokens.TokKind.{TokKind}
use Rattle.cw_rules.specs.declared.tokens.TokKind.TheVariants as kind
use Rattle.cw_print.specs.Comments.{CommentPiece, comment_piece}
use Rattle.cw_print.specs.Tokens.{token_bytes}

abbrev pub innermost : List ℕ → ℕ
innermost [] = 0
innermost (n ∷ ns) = n

abbrev pub others : List ℕ → List ℕ
others [] = []
others (n ∷ ns) = ns

-- What a token prints where comments are open, and the braces that are open behind it.
pub record TokenShown : Type 0 where
  pub bytes : List ℕ
  pub braces : List ℕ

abbrev pub piece_in : CommentPiece → List ℕ → TokenShown
piece_in p braces = record { bytes = p.bytes; braces = p.braces ∷ others braces }

-- the sign behind the name that begins a C part, in the first section that defines the name and in later ones
abbrev pub head_sign : Bool → List ℕ
head_sign first = if first then codes "${}\\E{}$" else codes "${}\\mathrel+\\E{}$"

abbrev pub token_shown : Bool → TokKind → List ℕ → List ℕ → TokenShown
token_shown first kind.Text text braces = piece_in (comment_piece text (innermost braces)) braces
token_shown first kind.LongComment text braces = record {
  bytes = token_bytes kind.LongComment text;
  braces = 0
      ∷ braces;
}
token_shown first kind.ShortComment text braces = record {
  bytes = token_bytes kind.ShortComment text;
  braces = 0
      ∷ braces;
}
token_shown first kind.HeadSign text braces = record { bytes = head_sign first; braces = braces }
token_shown first k text braces = record { bytes = token_bytes k text; braces = braces }

-- A number without a token prints nothing.
abbrev pub number_shown : Bool → Option Seen → List ℕ → TokenShown
number_shown first None braces = record { bytes = []; braces = braces }
number_shown first (Some token) braces = token_shown first token.kind token.text braces
