-- What the control text of a code says: it goes to the first `@>`. In it `@@` is one `@`, and another `@` is kept.
use Rattle.std.specs.Prelude.{ℕ, ◌&&◌, ◌==◌, Bool, List, [], ◌∷◌, drop, if◌then◌else◌}
use Rattle.cw_rules.specs.Bytes.{greater, at_sign}

abbrev pub is_at_pair : ℕ → ℕ → Bool
is_at_pair byte next = byte == at_sign && next == at_sign

abbrev pub is_text_end : ℕ → ℕ → Bool
is_text_end byte next = byte == at_sign && next == greater

abbrev pub text_to_end : List ℕ → List ℕ
text_to_end [] = []
text_to_end (byte ∷ []) = byte ∷ []
text_to_end (byte ∷ next ∷ bytes) =
    if is_text_end byte next then []
    else if is_at_pair byte next then byte ∷ text_to_end bytes
    else byte ∷ text_to_end (next ∷ bytes)

-- the text behind a code's two bytes
abbrev pub text_behind_code : List ℕ → List ℕ
text_behind_code token = text_to_end (drop 2 token)
