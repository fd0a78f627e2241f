-- As many inks are printed as bytes are copied, or as a code has bytes of its own.
use Rattle.cw_press.proofs.Terms.{◌≡◌, ℕ, suc, ◌+◌, ◌==◌, Bool, refl, sym, ap, ◌∙◌, List, [], ◌∷◌, length}
use Rattle.cw_press.proofs.Terms.{length-map, seen, Print, bytes_of, copied, prints, token_inks_by}
use Rattle.cw_press.proofs.inks.prints_nothing.Goals as goal

length-copied : (text : List ℕ) (place : ℕ) (bytes : List ℕ) → length (copied text place bytes) ≡ length bytes
length-copied text place [] = refl
length-copied text place (byte ∷ bytes) = ap suc (length-copied text (place + 1) bytes)

length-prints : (bytes : List ℕ) → length (prints bytes) ≡ length bytes
length-prints bytes = length-map bytes (λ byte. Print byte)

pub returns-then-is_text : goal.returns-then-is_text
returns-then-is_text c = c.is_empty.ensures ∙ ap (λ (n : ℕ). n == 0) (ap length c.part_of.ensures.part
    ∙ sym (length-copied c.args.text.now c.args.token.now.span.start (bytes_of c.args.text.now c.args.token.now.span)))
    ∙ ap (λ (b : Bool). length (token_inks_by b c.args.text.now c.args.token.now.kind (seen c.args.token.now)) == 0)
    (sym c.if-is_text.true ∙ c.is_text.ensures)

pub returns : goal.returns
returns c = c.is_empty-2.ensures ∙ ap (λ (n : ℕ). n == 0) (sym (length-prints c.kind_bytes.result.now)
    ∙ ap length c.kind_bytes.ensures) ∙ ap (λ (b : Bool). length (token_inks_by b c.args.text.now c.args.token.now.kind
    (seen c.args.token.now)) == 0) (sym c.if-is_text.false ∙ c.is_text.ensures)
