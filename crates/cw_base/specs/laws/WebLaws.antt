-- Laws of the text of merged lines.
use Rattle.std.specs.Prelude.{◌≡◌, ◌+◌, List, [], ◌∷◌, ◌++◌, length}
use Rattle.std.proofs.Common.{refl, ap, ◌∙◌, sym, append_assoc, arith, length-append}
use Rattle.cw_base.specs.Bytes.{newline}
use Rattle.cw_base.specs.Web.{MergedLine, text_of}

-- the text of lines in a row is their texts in a row
pub text_of-append : (first second : List MergedLine) → text_of (first ++ second) ≡ text_of first ++ text_of second
text_of-append [] second = refl
text_of-append (line ∷ lines) second =
    ap (λ text. line.text ++ newline ∷ text) (text_of-append lines second)
    ∙ sym (append_assoc line.text (newline ∷ text_of lines) (text_of second))

-- one line more makes the text longer by its length and the byte that ends it
pub length-text_of-more : (lines : List MergedLine) (line : MergedLine) → length (text_of (lines ++ line ∷ []))
    ≡ length (text_of lines) + length line.text + 1
length-text_of-more lines line =
    ap length (text_of-append lines (line ∷ [])) ∙ omega (
      arith,
      length-append (text_of lines) (line.text ++ newline ∷ []),
      length-append line.text (newline ∷ []),
    )
