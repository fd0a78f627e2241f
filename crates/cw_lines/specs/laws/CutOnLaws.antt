-- A line grows byte by byte, and what is cut on from a line that has begun are the lines of the whole.
use Rattle.std.specs.Prelude.{◌≡◌, ℕ, suc, ◌<◌, ◌≤◌, ◌≢◌, ◌==◌, All, Bool, true, false, nat_lt, List, [], ◌∷◌, ◌++◌}
use Rattle.std.specs.Prelude.{length}
use Rattle.std.specs.List.{flat_map}
use Rattle.std.proofs.Common.{refl, sym, ap, ◌∙◌, ne_eqb, append_assoc, arith, length-append}
use Rattle.std.proofs.lemmas.List.{append-nil}
use Rattle.std.proofs.lemmas.Bool.Decides.{nat_tests}
use Rattle.cw_lines.specs.Cut.{CutLine, CutText, unbroken_line, divide, with_line, cut_piece, ended_lines, TextPieces}
use Rattle.cw_lines.specs.Cut.{before_pieces}
use Rattle.cw_lines.specs.Cut.{split_by, split, behind_by, behind, cut_pieces, cut_behind, cut}
use Rattle.cw_lines.specs.laws.CutLaws.{divide-short, cut_piece-short, cut_piece-long}

-- one more byte behind a line that has begun, by whether it ends the line and whether there is room
abbrev pub add_by : Bool → Bool → List ℕ → ℕ → CutText
add_by true room line byte = record { lines = unbroken_line line ∷ []; pending = [] }
add_by false true line byte = record { lines = []; pending = line ++ byte ∷ [] }
add_by false false line byte = record { lines = (divide line).first ∷ []; pending = (divide line).rest ++ byte ∷ [] }

abbrev pub add : List ℕ → ℕ → CutText
add line byte = add_by (byte == 10) (nat_lt (length line) 80) line byte

abbrev pub with_lines : List CutLine → CutText → CutText
with_lines lines cut = record { lines = lines ++ cut.lines; pending = cut.pending }

-- the bytes added one by one
abbrev pub cut_on : List ℕ → List ℕ → CutText
cut_on line [] = record { lines = []; pending = line }
cut_on line (byte ∷ bytes) = with_lines (add line byte).lines (cut_on (add line byte).pending bytes)

behind-nil : (ended : List (List ℕ)) (last : List ℕ) → behind_by [] ended last ≡ record { ended = ended; last = last }
behind-nil [] last = refl
behind-nil (piece ∷ pieces) last = refl

before-behind : (byte : ℕ) (line : List ℕ) (ended : List (List ℕ)) (last : List ℕ)
    → before_pieces byte (behind_by line ended last).ended (behind_by line ended last).last
    ≡ behind_by (byte ∷ line) ended last
before-behind byte line [] last = refl
before-behind byte line (piece ∷ pieces) last = refl

behind-before : (line : List ℕ) (byte : ℕ) (ended : List (List ℕ)) (last : List ℕ)
    → behind_by (line ++ byte ∷ []) ended last ≡ behind line (before_pieces byte ended last)
behind-before line byte [] last = ap (λ (text : List ℕ). record { ended = []; last = text })
    (append_assoc line (byte ∷ []) last)
behind-before line byte (piece ∷ pieces) last = ap (λ (text : List ℕ). record { ended = text ∷ pieces; last = last })
    (append_assoc line (byte ∷ []) piece)

ended-short : (line : List ℕ) → length line ≤ 80 → ended_lines (line ++ []) ≡ unbroken_line line ∷ []
ended-short line short = ap ended_lines (append-nil line)
    ∙ ap (λ (c : CutText). c.lines ++ unbroken_line c.pending ∷ []) (cut_piece-short line short)

-- the line is full, and the piece goes on
full-step : (line : List ℕ) (byte : ℕ) (ended : List (List ℕ)) (last : List ℕ) → length line ≡ 80
    → with_line (divide line).first (cut_pieces (behind (divide line).rest (before_pieces byte ended last)))
    ≡ cut_pieces (behind line (before_pieces byte ended last))
full-step line byte [] last full = sym (cut_piece-long line byte last full)
full-step line byte (piece ∷ pieces) last full =
    ap (λ (c : CutText). record {
      lines = (c.lines ++ unbroken_line c.pending ∷ []) ++ flat_map ended_lines pieces
          ++ (cut_piece last).lines;
      pending = (cut_piece last).pending;
    })
    (sym (cut_piece-long line byte piece full))

on-step : (end room : Bool) (line : List ℕ) (byte : ℕ) (bytes : List ℕ) → length line ≤ 80 → nat_lt (length line) 80
    ≡ room
    → ((begun : List ℕ) → length begun ≤ 80 → cut_on begun bytes ≡ cut_pieces (behind begun (split bytes)))
    → with_lines (add_by end room line byte).lines (cut_on (add_by end room line byte).pending bytes)
    ≡ cut_pieces (behind line (split_by end byte (split bytes)))
on-step true room line byte bytes short test onward =
    let rest : TextPieces = split bytes in
    ap (with_line (unbroken_line line)) (onward [] (omega arith) ∙ ap cut_pieces (behind-nil rest.ended rest.last))
    ∙ ap (λ (first : List CutLine). record {
      lines = first ++ flat_map ended_lines rest.ended
          ++ (cut_piece rest.last).lines;
      pending = (cut_piece rest.last).pending;
    })
    (sym (ended-short line short))
on-step false true line byte bytes short test onward =
    let rest : TextPieces = split bytes in
    let room : length line < 80 = grind (arith, nat_tests) in
    onward (line ++ byte ∷ []) (omega (arith, length-append line (byte ∷ [])))
    ∙ ap cut_pieces (behind-before line byte rest.ended rest.last)
on-step false false line byte bytes short test onward =
    let rest : TextPieces = split bytes in
    let not_less : 80 ≤ length line = grind (arith, nat_tests) in
    let full : length line ≡ 80 = omega arith in
    let next : List ℕ = (divide line).rest in
    ap (with_line (divide line).first)
    (onward (next ++ byte ∷ []) (omega (arith, divide-short line full, length-append next (byte ∷ [])))
    ∙ ap cut_pieces (behind-before next byte rest.ended rest.last))
    ∙ full-step line byte rest.ended rest.last full

-- Cutting on from a line that has begun gives the lines of the whole.
pub cut_on-behind : (bytes line : List ℕ) → length line ≤ 80 → cut_on line bytes
    ≡ cut_pieces (behind line (split bytes))
cut_on-behind [] line short = sym (ap cut_piece (append-nil line) ∙ cut_piece-short line short)
cut_on-behind (byte ∷ bytes) line short =
    on-step (byte == 10) (nat_lt (length line) 80) line byte bytes short refl
    (λ begun fits. cut_on-behind bytes begun fits)

pub cut_on-is : (bytes line : List ℕ) → length line ≤ 80 → cut_on line bytes ≡ cut_behind line bytes
unfolding cut_behind
cut_on-is bytes line short = cut_on-behind bytes line short

no_end : (byte : ℕ) (line : List ℕ) → All (λ b. b ≢ 10) (byte ∷ line) → (byte == 10) ≡ false
no_end byte line none = ne_eqb byte 10 (none 0 byte (omega arith))

split-behind : (line bytes : List ℕ) → All (λ byte. byte ≢ 10) line → split (line ++ bytes) ≡ behind line (split bytes)
split-behind [] bytes none = sym (behind-nil (split bytes).ended (split bytes).last)
split-behind (byte ∷ line) bytes none =
    ap (λ (end : Bool). split_by end byte (split (line ++ bytes))) (no_end byte line none)
    ∙ ap (λ (rest : TextPieces). before_pieces byte rest.ended rest.last)
    (split-behind line bytes (λ k d inside. none (suc k) d (omega arith)))
    ∙ before-behind byte line (split bytes).ended (split bytes).last

-- What is cut behind a line that has begun is cut from the line with the bytes behind it.
pub cut_behind-whole : (line bytes : List ℕ) → All (λ byte. byte ≢ 10) line → cut_behind line bytes
    ≡ cut (line ++ bytes)
unfolding cut_behind
cut_behind-whole line bytes none =
    ap cut_pieces (sym (split-behind line bytes none)
    ∙ sym (behind-nil (split (line ++ bytes)).ended (split (line ++ bytes)).last))
