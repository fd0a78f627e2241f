-- Bytes are cut line by line, and lines that are short enough are left as they are.
use Rattle.std.proofs.Common.{arith, ◌≡◌, ℕ, ◌==◌, ◌≤◌, Bool, refl, sym, ap, ◌∙◌, subst, List, [], ◌∷◌, ◌++◌}
use Rattle.std.proofs.Common.{append_assoc, inl, inr, length, eqb-true}
use Rattle.std.proofs.lemmas.List.{append-nil}
use Rattle.std.proofs.lemmas.List.Concat.{flat_map-append}
use Rattle.std.specs.List.{AllByRecursion, flat_map}
use Rattle.std.proofs.lemmas.Bool.Decides.{nat_tests}
use Rattle.cw_lines.specs.Cut.{CutLine, CutText, TextPieces, before_pieces, behind_by, cut, cut_behind, cut_pieces}
use Rattle.cw_lines.specs.Cut.{cut_piece, ended_lines, split, split_by, unbroken_line, written}
use Rattle.cw_lines.specs.laws.CutLaws.{cut_piece-short}
use Rattle.cw_laws.specs.Files.{EndInLine, HasLineEnd, HaveShortLines, written_of}
use Rattle.cw_laws.proofs.Endings.{AreEnded, behind-any, ends-then, lines-end, none-pending, split-ended}

-- ## Line by line

behind-nil : (ended : List (List ℕ)) (last : List ℕ) → behind_by [] ended last ≡ record { ended = ended; last = last }
behind-nil [] last = refl
behind-nil (piece ∷ pieces) last = refl

cut-is : (bytes : List ℕ) → cut bytes ≡ cut_pieces (split bytes)
unfolding cut_behind
cut-is bytes = ap cut_pieces (behind-nil (split bytes).ended (split bytes).last)

-- pieces, and others behind those that are ended
abbrev before_others : TextPieces → TextPieces → TextPieces
before_others first others = record { ended = first.ended ++ others.ended; last = others.last }

split-step : (t : Bool) (byte : ℕ) (first others : TextPieces) → AreEnded first
    → split_by t byte (before_others first others) ≡ before_others (split_by t byte first) others
split-step t byte first others each = grind (arith, nat_tests)

split-append : (front bytes : List ℕ)
    → split (front ++ 10 ∷ bytes) ≡ before_others (split (front ++ 10 ∷ [])) (split bytes)
split-append [] bytes = refl
split-append (byte ∷ front) bytes = grind (arith, nat_tests, split-append front bytes, split-step, split-ended)

pieces-append : (first others : TextPieces) → AreEnded first
    → (cut_pieces (before_others first others)).lines ≡ (cut_pieces first).lines ++ (cut_pieces others).lines
pieces-append first others each = grind (arith, nat_tests, flat_map-append, append_assoc, append-nil)

cut-append : (front bytes : List ℕ) → HasLineEnd front
    → (cut (front ++ bytes)).lines ≡ (cut front).lines ++ (cut bytes).lines
cut-append front bytes ended = grind (arith, nat_tests, append_assoc, cut-is, split-append, pieces-append, split-ended)

-- What stands behind a line's end is cut by itself.
pub written-append : (front bytes : List ℕ) → EndInLine front
    → written_of (front ++ bytes) ≡ written_of front ++ written_of bytes
unfolding cut_behind
written-append front bytes (inl none) =
    subst (λ (f : List ℕ). written_of (f ++ bytes) ≡ written_of f ++ written_of bytes) (sym none) refl
written-append front bytes (inr ended) = ap written (cut-append front bytes ended)
    ∙ flat_map-append (λ (line : CutLine). line.text ++ 10 ∷ []) (cut front).lines (cut bytes).lines

-- ## What is written ends in a line

-- a line among others
line-ends : (lines : List CutLine) (line : CutLine) (more rest : List CutLine)
    → HasLineEnd (written (((lines ++ line ∷ []) ++ more) ++ rest))
line-ends [] line more rest = grind (arith, nat_tests, ends-then, lines-end)
line-ends (first ∷ lines) line more rest = grind (arith, nat_tests, line-ends lines line more rest, behind-any)

pub written-ends : (bytes : List ℕ) → HasLineEnd bytes → HasLineEnd (written_of bytes)
written-ends bytes ended =
    let each : AreEnded (split (ended.0 ++ 10 ∷ [])) = split-ended ended.0 in
    subst HasLineEnd (sym (ap written_of ended.1 ∙ ap (λ (c : CutText). written c.lines) (cut-is (ended.0 ++ 10 ∷ []))
    ∙ ap (λ (p : TextPieces). written (cut_pieces p).lines) each.is)) (line-ends (cut_piece each.first).lines
    (unbroken_line (cut_piece each.first).pending) (flat_map ended_lines each.more) [])

-- ## Short lines

-- pieces, each with its end
abbrev with_ends : List (List ℕ) → List ℕ
with_ends pieces = flat_map (λ (piece : List ℕ). piece ++ 10 ∷ []) pieces

before-whole : (byte : ℕ) (ended : List (List ℕ)) (last : List ℕ) → with_ends (before_pieces byte ended last).ended
    ++ (before_pieces byte ended last).last ≡ byte ∷ (with_ends ended ++ last)
before-whole byte ended last = grind (arith, nat_tests)

whole-step : (t : Bool) (byte : ℕ) (bytes : List ℕ) (pieces : TextPieces) → (byte == 10) ≡ t → with_ends pieces.ended
    ++ pieces.last ≡ bytes → with_ends (split_by t byte pieces).ended ++ (split_by t byte pieces).last ≡ byte ∷ bytes
whole-step t byte bytes pieces e is = grind (arith, nat_tests, eqb-true, before-whole)

split-whole : (bytes : List ℕ) → with_ends (split bytes).ended ++ (split bytes).last ≡ bytes
split-whole [] = refl
split-whole (byte ∷ bytes) = whole-step (byte == 10) byte bytes (split bytes) refl (split-whole bytes)

lines-short : (pieces : List (List ℕ)) → AllByRecursion (λ line. length line ≤ 80) pieces
    → written (flat_map ended_lines pieces) ≡ with_ends pieces
lines-short [] short = refl
lines-short (piece ∷ pieces) short = grind (arith, nat_tests, lines-short pieces short.1, cut_piece-short)

pieces-short : (pieces : TextPieces) → AllByRecursion (λ line. length line ≤ 80) pieces.ended → length pieces.last ≤ 80
    → written (cut_pieces pieces).lines ++ (cut_pieces pieces).pending ≡ with_ends pieces.ended ++ pieces.last
pieces-short pieces short last = grind (arith, nat_tests, cut_piece-short, append-nil, lines-short)

pub uncut : (bytes : List ℕ) → HaveShortLines bytes → written_of bytes ++ (cut bytes).pending ≡ bytes
uncut bytes short = grind (arith, nat_tests, cut-is, pieces-short, split-whole)

pub written-short : (bytes : List ℕ) → EndInLine bytes → HaveShortLines bytes → written_of bytes ≡ bytes
written-short bytes ended short =
    grind (arith, nat_tests, append-nil (written_of bytes), none-pending bytes ended, uncut bytes short)
