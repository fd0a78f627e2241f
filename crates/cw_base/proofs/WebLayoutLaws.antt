-- The table of lines and the text say the same as the list of lines.
use Rattle.cw_base.proofs.Terms.{◌≡◌, ℕ, ◌+◌, ◌-◌, ◌≤◌, List, [], ◌∷◌, ◌++◌, length, drop, get_or, slice_range, refl}
use Rattle.cw_base.proofs.Terms.{ap, ◌∙◌, sym, suc, arith, append_assoc, length-append, length-drop, length-take}
use Rattle.cw_base.proofs.Terms.{drop-drop, take-append-drop, drop_all, drop_more, drop-append-le, take-append-le}
use Rattle.cw_base.proofs.Terms.{get_or_append_left, get_or_at, drop_at, take_at, nat_tests, LineInfo, text_of}
use Rattle.cw_base.proofs.Terms.{info_from, infos_of}
use Rattle.cw_base.specs.model.WebLayout.{read_line, read_lines, Covers}

pub length-read_lines : (text : List ℕ) (infos : List LineInfo) → length (read_lines text infos) ≡ length infos
length-read_lines text [] = refl
length-read_lines text (info ∷ infos) = ap suc (length-read_lines text infos)

-- a text from one place on, cut at a later one
drop_parts : (text : List ℕ) (from to : ℕ) → from ≤ to → drop from text ≡ slice_range text from to ++ drop to text
drop_parts text from to le =
    let joined : from + (to - from) ≡ to = omega arith in
    sym (take-append-drop (to - from) (drop from text))
    ∙ ap (λ rest. slice_range text from to ++ rest) (drop-drop (to - from) from text ∙ ap (λ i. drop i text) joined)

pub text_of-read_lines : (text : List ℕ) (from : ℕ) (infos : List LineInfo) → Covers text from infos
    → text_of (read_lines text infos) ≡ drop from text
text_of-read_lines text from [] at = sym (drop_all from text (omega arith))
text_of-read_lines text from (info ∷ infos) (start, ends, within, code, rest) =
    grind (arith, nat_tests, text_of-read_lines text (info.«end» + 1) infos rest, slice_range, drop_more, drop_parts)

length-slice_range : (text : List ℕ) (from to : ℕ) → to ≤ length text → length (slice_range text from to) ≡ to - from
length-slice_range text from to le = omega (arith, length-take (to - from) (drop from text), length-drop from text)

same_info : (info : LineInfo) (start stop : ℕ) → start ≡ info.start → stop ≡ info.«end»
    → record { start = start; «end» = stop; place = info.place; changed = info.changed } ≡ info
same_info info start stop s e = grind (arith, nat_tests)

pub infos_of-read_lines : (text : List ℕ) (from : ℕ) (infos : List LineInfo) → Covers text from infos
    → infos_of from (read_lines text infos) ≡ infos
infos_of-read_lines text from [] at = refl
infos_of-read_lines text from (info ∷ infos) (start, ends, within, code, rest) =
    let stop : from + length (slice_range text info.start info.«end») ≡ info.«end» =
    omega (arith, length-slice_range text info.start info.«end» (omega arith)) in
    ap (λ i. info_from from (read_line text info) ∷ infos_of (i + 1) (read_lines text infos)) stop ∙ ap (λ more.
    info_from from (read_line text info) ∷ more) (infos_of-read_lines text (info.«end» + 1) infos rest) ∙ ap (λ first.
    first ∷ infos) (same_info info from (from + length (slice_range text info.start info.«end»)) (sym start) stop)

-- more text behind changes no line
slice_range-more : (text more : List ℕ) (from to : ℕ) → from ≤ to → to ≤ length text
    → slice_range (text ++ more) from to ≡ slice_range text from to
slice_range-more text more from to le within = grind (arith, nat_tests, drop-append-le, take-append-le, length-drop)

pub read_lines-more : (text more : List ℕ) (from : ℕ) (infos : List LineInfo) → Covers text from infos
    → read_lines (text ++ more) infos ≡ read_lines text infos
read_lines-more text more from [] at = refl
read_lines-more text more from (info ∷ infos) (start, ends, within, code, rest) =
    grind (arith, nat_tests, read_lines-more text more (info.«end» + 1) infos rest, slice_range-more)

pub read_lines-append : (text : List ℕ) (first second : List LineInfo) → read_lines text (first ++ second)
    ≡ read_lines text first ++ read_lines text second
read_lines-append text [] second = refl
read_lines-append text (info ∷ infos) second = grind (arith, nat_tests, read_lines-append text infos second)

-- one line more, behind all others
pub Covers-more : (text line : List ℕ) (from : ℕ) (infos : List LineInfo) (info : LineInfo)
    → info.start ≡ length text → info.«end» ≡ length text + length line
    → Covers text from infos → Covers (text ++ line ++ 10 ∷ []) from (infos ++ info ∷ [])
Covers-more text line from [] info starts ends at = grind (arith, nat_tests, length-append, get_or_at)
Covers-more text line from (first ∷ infos) info starts ends (start, stops, within, code, rest) = (
  start,
  stops,
  omega (arith, length-append (text ++ line) (10 ∷ []), length-append text line),
  ap (λ bytes. get_or bytes first.«end» 0) (append_assoc text line (10 ∷ []))
      ∙ get_or_append_left text (line ++ 10 ∷ []) 0 first.«end» within ∙ code,
  Covers-more text line (first.«end» + 1) infos info starts ends rest,
)

-- the line that is read there
pub read_line-more : (text line : List ℕ) (info : LineInfo) → info.start ≡ length text → info.«end»
    ≡ length text + length line
    → read_line (text ++ line ++ 10 ∷ []) info ≡ record { text = line; place = info.place; changed = info.changed }
read_line-more text line info starts ends = grind (arith, nat_tests, append_assoc, drop_at, take_at)

pub read_lines-push : (text line : List ℕ) (infos : List LineInfo) (info : LineInfo) → info.start ≡ length text
    → info.«end» ≡ length text + length line → Covers text 0 infos → read_lines (text ++ line ++ 10 ∷ []) (infos ++ info
    ∷ []) ≡ read_lines text infos ++ record { text = line; place = info.place; changed = info.changed } ∷ []
read_lines-push text line infos info starts ends covers =
    grind (arith, nat_tests, read_lines-append, append_assoc, read_lines-more, read_line-more)
