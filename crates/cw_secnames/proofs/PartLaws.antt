-- Of the parts of a section name that lie ahead.
use Rattle.std.proofs.Common.{◌≡◌, ℕ, zero, suc, ◌+◌, ◌<◌, ◌≤◌, List, [], ◌∷◌, Option, Some, ◌∙◌, refl, arith, drop}
use Rattle.std.proofs.Common.{length, get_or, option_map, drop-cons, add-one, add-zero}
use Rattle.std.proofs.lemmas.List.{drop-drop}
use Rattle.cw_base.specs.declared.span.Span.{Span}
use Rattle.cw_secnames.specs.Parts.{part_here, parts_from}
use Rattle.cw_secnames.specs.model.Parts.{end_of_part, parts_at, IsNextPart}

-- Bytes that belong to the part before are passed.
parts_from-taken : (bytes : List ℕ) (place taken : ℕ) → parts_from bytes place taken
    ≡ parts_from (drop taken bytes) (place + taken) 0
parts_from-taken bytes place zero = rw (add-zero place) refl
parts_from-taken [] place (suc taken) = refl
parts_from-taken (byte ∷ bytes) place (suc taken) = grind (arith, parts_from-taken bytes (place + 1) taken)

part-here : (size : Option ℕ) (place end : ℕ) (rest : ℕ → List Span) (tail : List Span)
    → option_map (λ n. place + n) size ≡ Some end → ((n : ℕ) → place + n ≡ end → rest (n + 1) ≡ tail)
    → part_here size place rest ≡ record { start = place; «end» = end } ∷ tail
part-here size place end rest tail e behind = grind arith

behind-part : (text : List ℕ) (bar end n : ℕ) → bar + 1 + n ≡ end
    → parts_from (drop (bar + 1) text) (bar + 1) (n + 1) ≡ parts_at text (end + 1)
behind-part text bar end n is = grind (arith, parts_from-taken, drop-drop)

drop-bar : (text : List ℕ) (bar : ℕ) → bar < length text → get_or text bar 0 ≡ 124 → drop bar text
    ≡ 124 ∷ drop (bar + 1) text
drop-bar text bar within is = drop-cons text bar 0 within ∙ rw (is, add-one bar) refl

-- A bar opens a part where a bar ends it.
pub next-part : (text : List ℕ) (bar end : ℕ) → bar < length text → get_or text bar 0 ≡ 124 → Some end ≡ end_of_part
    text (bar + 1) → bar + 1 ≤ end → end < length text → IsNextPart text bar (record { start = bar + 1; «end» = end })
next-part text bar end within opens ends order inside = grind (arith, drop-bar, part-here, behind-part)
