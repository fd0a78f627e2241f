-- The text of a comment, which is printed in pieces, between its inner texts.
use Rattle.std.specs.Prelude.{◌≡◌, ℕ, zero, suc, ◌&&◌, ◌||◌, ◌==◌, Bool, not, List, [], ◌∷◌, ◌++◌, if◌then◌else◌}
use Rattle.cw_base.specs.Bytes.{newline, space, backslash}
use Rattle.cw_rules.specs.Bytes.{at_sign, left_brace, right_brace}
use Rattle.cw_rules.specs.ControlTexts.{is_at_pair}

-- What bytes of a comment print, and how many of its braces are open behind them.
pub record CommentPiece : Type 0 where
  pub bytes : List ℕ
  pub braces : ℕ

abbrev pub piece_of : List ℕ → ℕ → CommentPiece
piece_of bytes braces = record { bytes = bytes; braces = braces }

abbrev pub joined_pieces : CommentPiece → CommentPiece → CommentPiece
joined_pieces first second = record { bytes = first.bytes ++ second.bytes; braces = second.braces }

abbrev pub piece_then : CommentPiece → (ℕ → CommentPiece) → CommentPiece
piece_then first rest = joined_pieces first (rest first.braces)

-- a line's end is a blank
abbrev pub blank_for : ℕ → ℕ
blank_for byte = if byte == newline then space else byte

-- One byte. An `@` and a `}` without its `{` are dropped.
abbrev pub closed : ℕ → CommentPiece
closed zero = piece_of [] 0
closed (suc braces) = piece_of (right_brace ∷ []) braces

abbrev pub byte_piece : ℕ → ℕ → CommentPiece
byte_piece byte braces =
    if byte == at_sign then piece_of [] braces
    else if byte == left_brace then piece_of (byte ∷ []) (suc braces)
    else if byte == right_brace then closed braces
    else piece_of (blank_for byte ∷ []) braces

-- A backslash takes the next byte along, unless it is `@`; and `@@` is one `@`.
abbrev pub takes_along : ℕ → ℕ → Bool
takes_along byte next = byte == backslash && not (next == at_sign)

-- A backslash that is the last byte takes nothing along: a blank keeps it from the brace that closes the comment.
abbrev pub comment_piece : List ℕ → ℕ → CommentPiece
comment_piece [] braces = piece_of [] braces
comment_piece (byte ∷ []) braces =
    if byte == backslash then piece_of (byte ∷ space ∷ []) braces else byte_piece byte braces
comment_piece (byte ∷ next ∷ bytes) braces =
    if takes_along byte next then piece_then (piece_of (byte ∷ blank_for next ∷ []) braces) (comment_piece bytes)
    else if is_at_pair byte next then piece_then (piece_of (byte ∷ []) braces) (comment_piece bytes)
    else piece_then (byte_piece byte braces) (comment_piece (next ∷ bytes))

-- At a comment's end the `}` that are missing are printed, and then its own.
abbrev pub closing_braces : ℕ → List ℕ
closing_braces zero = right_brace ∷ []
closing_braces (suc braces) = right_brace ∷ closing_braces braces

-- a byte that does not print itself, or not whatever stands beside it
abbrev pub is_special : ℕ → Bool
is_special byte =
    byte == newline || (byte == at_sign || (byte == backslash || (byte == left_brace || byte == right_brace)))

-- The bytes so far and what is to come are those of the whole, and so are the open braces.
pub record Prints (begun text : List ℕ) (open_first : ℕ) (out rest : List ℕ) (open_now : ℕ) : Type 0 where
  pub bytes : out ++ (comment_piece rest open_now).bytes ≡ begun ++ (comment_piece text open_first).bytes
  pub braces : (comment_piece rest open_now).braces ≡ (comment_piece text open_first).braces
