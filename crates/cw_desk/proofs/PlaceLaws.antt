-- The folders of a list, when one byte more of it is read.
use Rattle.cw_desk.proofs.Terms.{◌≡◌, ℕ, ◌==◌, ◌+◌, ◌-◌, ◌<◌, ◌≤◌, List, [], ◌∷◌, ◌++◌, if◌then◌else◌, get_or, sym, ap}
use Rattle.cw_desk.proofs.Terms.{◌∙◌}
use Rattle.cw_desk.proofs.Terms.{arith, length, take, drop, drop_more, length-drop, slice_range}
use Rattle.std.proofs.lemmas.List.{get_or-drop, get_or_default, take_more}
use Rattle.std.proofs.Common.{Bool, false}
use Rattle.cw_desk.specs.Places.{folders_from, with_folder}

range-more : (list : List ℕ) (from at byte : ℕ) → from ≤ at → at < length list → byte ≡ get_or list at byte
    → slice_range list from (at + 1) ≡ slice_range list from at ++ byte ∷ []
range-more list from at byte begun inside is =
    let count : (at + 1) - from ≡ (at - from) + 1 = omega (arith, begun) in
    let here : from + (at - from) ≡ at = omega (arith, begun) in
    ap (λ (n : ℕ). take n (drop from list)) count
    ∙ take_more (drop from list) (at - from) byte (omega (arith, length-drop from list, begun, inside))
    ∙ ap (λ (b : ℕ). take (at - from) (drop from list) ++ b ∷ [])
    (get_or-drop from list (at - from) byte ∙ ap (λ (n : ℕ). get_or list n byte) here ∙ sym is)

-- a colon ends a folder, and each other byte is one more of it
pub folders-next : (folders : List (List ℕ)) (list : List ℕ) (from at byte : ℕ) → from ≤ at → at < length list
    → byte ≡ get_or list at byte → folders_from folders (slice_range list from at) (drop at list)
    ≡ (if byte == 58 then folders_from (with_folder (slice_range list from at) folders) [] (drop (at + 1) list)
    else folders_from folders (slice_range list from (at + 1)) (drop (at + 1) list))
folders-next folders list from at byte begun inside is =
    ap (folders_from folders (slice_range list from at)) (drop_more list at byte inside
    ∙ ap (λ (b : ℕ). b ∷ drop (at + 1) list) (sym is))
    ∙ ap (λ (part : List ℕ). if byte == 58
    then folders_from (with_folder (slice_range list from at) folders) [] (drop (at + 1) list)
    else folders_from folders part (drop (at + 1) list)) (sym (range-more list from at byte begun inside is))

-- the folders after a colon
pub colon-next : (folders next : List (List ℕ)) (list : List ℕ) (from at to : ℕ) (all : List (List ℕ)) → from ≤ at
    → at < length list → get_or list at 0 ≡ 58 → to ≡ at + 1 → next ≡ with_folder (slice_range list from at) folders
    → folders_from folders (slice_range list from at) (drop at list) ≡ all
    → folders_from next (slice_range list to (at + 1)) (drop (at + 1) list) ≡ all
colon-next folders next list from at to all begun inside colon behind is so_far =
    let none : (at + 1) - to ≡ 0 = omega (arith, behind) in
    let part : slice_range list to (at + 1) ≡ [] = ap (λ (n : ℕ). take n (drop to list)) none in
    ap (λ (begun : List ℕ). folders_from next begun (drop (at + 1) list)) part
    ∙ ap (λ (now : List (List ℕ)). folders_from now [] (drop (at + 1) list)) is
    ∙ sym (folders-next folders list from at 58 begun inside (sym colon ∙ get_or_default list at 0 58 inside)) ∙ so_far

-- and after another byte
pub byte-next : (folders next : List (List ℕ)) (list : List ℕ) (from at to : ℕ) (all : List (List ℕ)) → from ≤ at
    → at < length list → (get_or list at 0 == 58) ≡ false → to ≡ from → next ≡ folders
    → folders_from folders (slice_range list from at) (drop at list) ≡ all
    → folders_from next (slice_range list to (at + 1)) (drop (at + 1) list) ≡ all
byte-next folders next list from at to all begun inside other same is so_far =
    let byte = get_or list at 0 in
    ap (λ (now : List (List ℕ)). folders_from now (slice_range list to (at + 1)) (drop (at + 1) list)) is
    ∙ ap (λ (n : ℕ). folders_from folders (slice_range list n (at + 1)) (drop (at + 1) list)) same
    ∙ sym (folders-next folders list from at byte begun inside (get_or_default list at 0 byte inside)
    ∙ ap (λ (colon : Bool). if colon
    then folders_from (with_folder (slice_range list from at) folders) [] (drop (at + 1) list)
    else folders_from folders (slice_range list from (at + 1)) (drop (at + 1) list)) other) ∙ so_far
