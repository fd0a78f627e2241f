-- Where no white space, `#` line or include name begins, a token of code does.
use Rattle.std.proofs.Common.{◌≡◌, ℕ, Bool, false, ◌&&◌, ◌==◌, List, ◌∷◌, refl, arith}
use Rattle.std.proofs.lemmas.Bool.{eq-eqb, ne_eqb}
use Rattle.cw_base.{proofs.TestLaws.not-false, specs.Bytes.newline}
use Rattle.cw_rules.specs.{Answers.Where, Bytes.hash, Bytes.less, Tokens.takes_hash_line, model.Apart.code_text_apart}
use Rattle.cw_rules.specs.Tokens.{behind_include, closes_on_line, ends_at_bar, in_code, is_space, start_of}
use Rattle.cw_lex.proofs.code_text.code_text.Goals as goal

code-begins : (w : Where) (fresh : Bool) (last place byte : ℕ) (bytes : List ℕ) → (byte == newline) ≡ false
    → is_space w.part byte bytes ≡ false → (byte == hash && (takes_hash_line w.part w.comments && fresh)) ≡ false
    → (byte == less && (behind_include w.part && closes_on_line bytes)) ≡ false → code_text_apart w fresh last place
    byte bytes ≡ in_code (start_of (ends_at_bar w.part w.comments) byte bytes) w place (byte ∷ bytes)
code-begins w fresh last place byte bytes line space hash_line name = rw (line, space, hash_line, name) refl

pub in_code-requires-clause-found : goal.in_code-requires-clause-found
in_code-requires-clause-found c = grind (arith, ne_eqb, code-begins)

pub line_end-requires-clause-ends : goal.line_end-requires-clause-ends
line_end-requires-clause-ends c = grind (arith, eq-eqb, not-false)
