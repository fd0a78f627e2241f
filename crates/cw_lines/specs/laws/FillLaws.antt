-- Laws of filling a line: more bytes after some, and what is filled are the lines of the definition of cutting.
use Rattle.std.specs.Prelude.{◌≡◌, ℕ, suc, ◌+◌, ◌-◌, ◌^◌, ◌<◌, ◌≤◌, ◌≢◌, ◌==◌, All, Bool, true, false, nat_lt, map, min}
use Rattle.std.specs.Prelude.{List, [], ◌∷◌, ◌++◌, length}
use Rattle.std.proofs.Common.{refl, sym, ap, ◌∙◌, append_assoc, arith, length-append, ne_eqb}
use Rattle.std.proofs.lemmas.Bool.Decides.{nat_tests}
use Rattle.std.proofs.lemmas.List.{append-nil, map-append}
use Rattle.std.proofs.lemmas.Grind.{flat_map-append}
use Rattle.cw_base.specs.declared.event.Out.{Out}
use Rattle.cw_lines.specs.Cut.{CutLine, CutText, broken_numbers, cut, cut_behind, divide, written}
use Rattle.cw_base.specs.Conditions.{list_if}
use Rattle.cw_lines.specs.laws.CutLaws.{divide-short}
use Rattle.cw_lines.specs.laws.CutOnLaws.{add_by, add, cut_on, cut_on-is, cut_behind-whole}
use Rattle.cw_lines.specs.Line.{Line, Filled, fill_by, fill_byte, filled_on, fill}
use Rattle.cw_lines.specs.model.Line.{HasNoLineEnd, with_text, filled_with}
use Rattle.cw_lines.specs.Line.{new_line, next_number, as_count}

pub fill-none : (line : Line) → fill line [] ≡ record { line = line; written = [] }
unfolding fill
fill-none line = refl

pub fill-byte : (line : Line) (byte : ℕ) → fill line (byte ∷ []) ≡ fill_byte line byte
unfolding fill
fill-byte line byte = ap (λ (w : List ℕ). record { line = (fill_byte line byte).line; written = w })
    (append-nil (fill_byte line byte).written)

pub fill-append : (line : Line) (xs ys : List ℕ) → fill line (xs ++ ys)
    ≡ filled_on (fill line xs).written (fill (fill line xs).line ys)
unfolding fill
fill-append line [] ys = refl
fill-append line (byte ∷ xs) ys =
    let step : Filled = fill_byte line byte in
    let first : Filled = fill step.line xs in
    let last : Filled = fill first.line ys in
    ap (filled_on step.written) (fill-append step.line xs ys)
    ∙ ap (λ (w : List ℕ). record { line = last.line; written = w })
    (sym (append_assoc step.written first.written last.written))

fill_by-out : (end room : Bool) (line : Line) (byte : ℕ) → (fill_by end room line byte).line.out ≡ line.out
fill_by-out true room line byte = refl
fill_by-out false true line byte = refl
fill_by-out false false line byte = refl

pub fill-out : (line : Line) (bytes : List ℕ) → (fill line bytes).line.out ≡ line.out
unfolding fill
fill-out line [] = refl
fill-out line (byte ∷ bytes) = fill-out (fill_byte line byte).line bytes
    ∙ fill_by-out (byte == 10) (nat_lt (length line.pending) 80) line byte

fill_by-at : (end room : Bool) (line : Line) (byte : ℕ) → (byte == 10) ≡ end → nat_lt (length line.pending) 80 ≡ room
    → fill line (byte ∷ []) ≡ fill_by end room line byte
fill_by-at end room line byte ends fits =
    fill-byte line byte ∙ ap (λ (e : Bool). fill_by e (nat_lt (length line.pending) 80) line byte) ends
    ∙ ap (λ (r : Bool). fill_by end r line byte) fits

pub fill-end : (line : Line) → fill line (10 ∷ []) ≡ fill_by true true line 10
fill-end line = fill-byte line 10

pub fill-room : (line : Line) (byte : ℕ) → length line.pending < 80 → byte ≢ 10 → fill line (byte ∷ [])
    ≡ fill_by false true line byte
fill-room line byte room other = fill_by-at false true line byte (ne_eqb byte 10 other) (grind (arith, nat_tests))

pub fill-full : (line : Line) (byte : ℕ) → length line.pending ≡ 80 → byte ≢ 10 → fill line (byte ∷ [])
    ≡ fill_by false false line byte
fill-full line byte full other = fill_by-at false false line byte (ne_eqb byte 10 other) (grind (arith, nat_tests))

-- bytes that fit, of which none ends the line
pub fill-text : (text : List ℕ) (line : Line) → length line.pending + length text ≤ 80 → HasNoLineEnd text
    → fill line text ≡ record { line = with_text line text; written = [] }
fill-text [] line fits none = fill-none line ∙ ap (λ (pending : List ℕ). record {
  line = record { out = line.out; pending = pending; lines = line.lines; broken = line.broken };
  written = [];
}) (sym (append-nil line.pending))
fill-text (byte ∷ text) line fits none =
    let here : fill line (byte ∷ []) ≡ fill_by false true line byte =
    fill-room line byte (omega arith) (none 0 byte (omega arith)) in
    fill-append line (byte ∷ []) text
    ∙ ap (λ (f : Filled). filled_on f.written (fill f.line text)) here
    ∙ fill-text text (fill_by false true line byte).line (omega (arith, length-append line.pending (byte ∷ [])))
    (λ k d inside. none (suc k) d (omega arith))
    ∙ ap (λ (pending : List ℕ). record {
      line = record { out = line.out; pending = pending; lines = line.lines; broken = line.broken };
      written = [];
    }) (append_assoc line.pending (byte ∷ []) text)

-- a line that fits, with its end
pub fill-line : (text : List ℕ) (line : Line) → length line.pending + length text ≤ 80 → All (λ byte. byte ≢ 10) text
    → fill line (text ++ 10 ∷ []) ≡ record {
      line = record { out = line.out; pending = []; lines = next_number line.lines; broken = line.broken };
      written = line.pending ++ text ++ 10 ∷ [];
    }
fill-line [] line fits none =
    fill-end line
    ∙ ap (λ (w : List ℕ). record {
      line = record {
        out = line.out;
        pending = [];
        lines = next_number line.lines;
        broken = line.broken;
      };
      written = w ++ 10 ∷ [];
    })
    (sym (append-nil line.pending))
fill-line (byte ∷ text) line fits none =
    let here : fill line (byte ∷ []) ≡ fill_by false true line byte =
    fill-room line byte (omega arith) (none 0 byte (omega arith)) in
    fill-append line (byte ∷ []) (text ++ 10 ∷ [])
    ∙ ap (λ (f : Filled). filled_on f.written (fill f.line (text ++ 10 ∷ []))) here
    ∙ fill-line text (fill_by false true line byte).line (omega (arith, length-append line.pending (byte ∷ [])))
    (λ k d inside. none (suc k) d (omega arith))
    ∙ ap (λ (w : List ℕ). record {
      line = record {
        out = line.out;
        pending = [];
        lines = next_number line.lines;
        broken = line.broken;
      };
      written = w ++ 10 ∷ [];
    })
    (append_assoc line.pending (byte ∷ []) text)

-- Each step of filling is one of cutting.

by-pending : (end room : Bool) (line : Line) (byte : ℕ) → (fill_by end room line byte).line.pending
    ≡ (add_by end room line.pending byte).pending
by-pending true room line byte = refl
by-pending false true line byte = refl
by-pending false false line byte = refl

by-written : (end room : Bool) (line : Line) (byte : ℕ) → (fill_by end room line byte).written
    ≡ written (add_by end room line.pending byte).lines
by-written true room line byte = sym (append-nil _)
by-written false true line byte = refl
by-written false false line byte = sym (append-nil _)

fill-pending : (line : Line) (bytes : List ℕ) → (fill line bytes).line.pending ≡ (cut_on line.pending bytes).pending
unfolding fill
fill-pending line [] = refl
fill-pending line (byte ∷ bytes) =
    fill-pending (fill_byte line byte).line bytes
    ∙ ap (λ (pending : List ℕ). (cut_on pending bytes).pending)
    (by-pending (byte == 10) (nat_lt (length line.pending) 80) line byte)

fill-written : (line : Line) (bytes : List ℕ) → (fill line bytes).written ≡ written (cut_on line.pending bytes).lines
unfolding fill
fill-written line [] = refl
fill-written line (byte ∷ bytes) =
    let end : Bool = byte == 10 in
    let room : Bool = nat_lt (length line.pending) 80 in
    ap (λ (more : List ℕ). (fill_byte line byte).written ++ more)
    (fill-written (fill_byte line byte).line bytes
    ∙ ap (λ (pending : List ℕ). written (cut_on pending bytes).lines) (by-pending end room line byte))
    ∙ ap (λ (begun : List ℕ). begun ++ written (cut_on (add line.pending byte).pending bytes).lines)
    (by-written end room line byte)
    ∙ sym (flat_map-append (λ (line : CutLine). line.text ++ 10 ∷ []) (add line.pending byte).lines
    (cut_on (add line.pending byte).pending bytes).lines)

fill_by-short : (end room : Bool) (line : Line) (byte : ℕ) → length line.pending ≤ 80 → nat_lt (length line.pending) 80
    ≡ room
    → length (fill_by end room line byte).line.pending ≤ 80
fill_by-short true room line byte short test = omega arith
fill_by-short false true line byte short test =
    let fits : length line.pending < 80 = grind (arith, nat_tests) in
    omega (arith, length-append line.pending (byte ∷ []))
fill_by-short false false line byte short test =
    let not_less : 80 ≤ length line.pending = grind (arith, nat_tests) in
    let full : length line.pending ≡ 80 = omega arith in
    omega (arith, divide-short line.pending full, length-append (divide line.pending).rest (byte ∷ []))

-- a line never holds more than 80 bytes
pub fill-short : (line : Line) (bytes : List ℕ) → length line.pending ≤ 80 → length (fill line bytes).line.pending ≤ 80
unfolding fill
fill-short line [] short = short
fill-short line (byte ∷ bytes) short =
    fill-short (fill_byte line byte).line bytes (fill_by-short (byte == 10) (nat_lt (length line.pending) 80) line byte
    short refl)

min-again : (n k top : ℕ) → min (min n top + k) top ≡ min (n + k) top
min-again n k top = omega arith

as_count-again : (n k : ℕ) → as_count (as_count n + k) ≡ as_count (n + k)
as_count-again n k = min-again n k (2 ^ 64 - 1)

none-more : (n : ℕ) → n ≡ n + 0
none-more n = omega arith

by-lines : (end room : Bool) (line : Line) (byte n : ℕ) → line.lines ≡ as_count n
    → (fill_by end room line byte).line.lines ≡ as_count (n + length (add_by end room line.pending byte).lines)
by-lines true room line byte n is = ap next_number is ∙ as_count-again n 1
by-lines false true line byte n is = is ∙ ap as_count (none-more n)
by-lines false false line byte n is = ap next_number is ∙ as_count-again n 1

fill-lines : (line : Line) (bytes : List ℕ) (n : ℕ) → line.lines ≡ as_count n → (fill line bytes).line.lines
    ≡ as_count (n + length (cut_on line.pending bytes).lines)
unfolding fill
fill-lines line [] n is = is ∙ ap as_count (none-more n)
fill-lines line (byte ∷ bytes) n is =
    let end : Bool = byte == 10 in
    let room : Bool = nat_lt (length line.pending) 80 in
    let first : List CutLine = (add line.pending byte).lines in
    let rest : List CutLine = (cut_on (add line.pending byte).pending bytes).lines in
    let both : n + length first + length rest ≡ n + length (first ++ rest) = omega (arith, length-append first rest) in
    fill-lines (fill_byte line byte).line bytes (n + length first) (by-lines end room line byte n is)
    ∙ ap (λ (pending : List ℕ). as_count (n + length first + length (cut_on pending bytes).lines))
    (by-pending end room line byte)
    ∙ ap as_count both

broken_numbers-append : (n : ℕ) (first second : List CutLine)
    → broken_numbers n (first ++ second) ≡ broken_numbers n first ++ broken_numbers (n + length first) second
broken_numbers-append n [] second = ap (λ (m : ℕ). broken_numbers m second) (none-more n)
broken_numbers-append n (line ∷ first) second =
    let number : List ℕ = list_if line.broken ((n + 1) ∷ []) in
    let next : n + 1 + length first ≡ n + length (line ∷ first) = omega arith in
    ap (λ (numbers : List ℕ). number ++ numbers) (broken_numbers-append (n + 1) first second)
    ∙ ap (λ (m : ℕ). number ++ (broken_numbers (n + 1) first ++ broken_numbers m second)) next
    ∙ sym (append_assoc number (broken_numbers (n + 1) first) (broken_numbers (n + length (line ∷ first)) second))

listed-as_count : (broken : Bool) (n : ℕ)
    → list_if broken (as_count n ∷ []) ≡ map as_count (list_if broken (n ∷ []) ++ [])
listed-as_count true n = refl
listed-as_count false n = refl

by-broken : (end room : Bool) (line : Line) (byte n : ℕ) → line.lines ≡ as_count n
    → (fill_by end room line byte).line.broken ≡ line.broken
    ++ map as_count (broken_numbers n (add_by end room line.pending byte).lines)
by-broken true room line byte n is = sym (append-nil line.broken)
by-broken false true line byte n is = sym (append-nil line.broken)
by-broken false false line byte n is =
    let broken : Bool = (divide line.pending).first.broken in
    ap (λ (m : ℕ). line.broken ++ list_if broken (m ∷ [])) (ap next_number is ∙ as_count-again n 1)
    ∙ ap (λ (numbers : List ℕ). line.broken ++ numbers) (listed-as_count broken (n + 1))

fill-broken : (line : Line) (bytes : List ℕ) (n : ℕ) → line.lines ≡ as_count n
    → (fill line bytes).line.broken ≡ line.broken ++ map as_count (broken_numbers n (cut_on line.pending bytes).lines)
unfolding fill
fill-broken line [] n is = sym (append-nil line.broken)
fill-broken line (byte ∷ bytes) n is =
    let end : Bool = byte == 10 in
    let room : Bool = nat_lt (length line.pending) 80 in
    let first : List CutLine = (add line.pending byte).lines in
    let rest : List CutLine = (cut_on (add line.pending byte).pending bytes).lines in
    let begun : List ℕ = broken_numbers n first in
    let ended : List ℕ = broken_numbers (n + length first) rest in
    fill-broken (fill_byte line byte).line bytes (n + length first) (by-lines end room line byte n is)
    ∙ ap (λ (pending : List ℕ). (fill_byte line byte).line.broken
    ++ map as_count (broken_numbers (n + length first) (cut_on pending bytes).lines))
    (by-pending end room line byte)
    ∙ ap (λ (numbers : List ℕ). numbers ++ map as_count ended) (by-broken end room line byte n is)
    ∙ append_assoc line.broken (map as_count begun) (map as_count ended)
    ∙ ap (λ (numbers : List ℕ). line.broken ++ numbers) (sym (map-append as_count begun ended)
    ∙ ap (map as_count) (sym (broken_numbers-append n first rest)))

fill-on : (line : Line) (bytes : List ℕ) → line.lines ≡ as_count line.lines → fill line bytes
    ≡ filled_with line (cut_on line.pending bytes)
fill-on line bytes counted =
    let cut : CutText = cut_on line.pending bytes in
    let filled : Filled = fill line bytes in
    let out : filled.line.out ≡ line.out = fill-out line bytes in
    let pending : filled.line.pending ≡ cut.pending = fill-pending line bytes in
    let lines : filled.line.lines ≡ as_count (line.lines + length cut.lines) =
    fill-lines line bytes line.lines counted in
    let broken : filled.line.broken ≡ line.broken ++ map as_count (broken_numbers line.lines cut.lines) =
    fill-broken line bytes line.lines counted in
    let whole : filled.written ≡ written cut.lines = fill-written line bytes in
    ap (λ (o : Out). record {
      line = record {
        out = o;
        pending = filled.line.pending;
        lines = filled.line.lines;
        broken = filled.line.broken;
      };
      written = filled.written;
    }) out
    ∙ ap (λ (p : List ℕ). record {
      line = record {
        out = line.out;
        pending = p;
        lines = filled.line.lines;
        broken = filled.line.broken;
      };
      written = filled.written;
    }) pending
    ∙ ap (λ (n : ℕ). record {
      line = record {
        out = line.out;
        pending = cut.pending;
        lines = n;
        broken = filled.line.broken;
      };
      written = filled.written;
    }) lines
    ∙ ap (λ (b : List ℕ). record {
      line = record {
        out = line.out;
        pending = cut.pending;
        lines = as_count (line.lines + length cut.lines);
        broken = b;
      };
      written = filled.written;
    }) broken
    ∙ ap (λ (w : List ℕ). record { line = (filled_with line cut).line; written = w }) whole

min-is : (n top : ℕ) → n ≤ top → n ≡ min n top
min-is n top within = omega arith

-- What is filled, in the words of the definition of cutting: of a new line; of a line with at most 80 bytes pending,
-- whose count fits 64
-- bits; and of such a line whose pending bytes hold no byte 10, from all its bytes.

pub fill-cut : (out : Out) (bytes : List ℕ) → fill (new_line out) bytes ≡ filled_with (new_line out) (cut bytes)
fill-cut out bytes = fill-on (new_line out) bytes refl
    ∙ ap (filled_with (new_line out)) (cut_on-is bytes [] (omega arith))

pub fill-behind : (line : Line) (bytes : List ℕ) → length line.pending ≤ 80 → line.lines ≤ 2 ^ 64 - 1 → fill line bytes
    ≡ filled_with line (cut_behind line.pending bytes)
fill-behind line bytes short counted = fill-on line bytes (min-is line.lines (2 ^ 64 - 1) counted)
    ∙ ap (filled_with line) (cut_on-is bytes line.pending short)

pub fill-whole : (line : Line) (bytes : List ℕ) → length line.pending ≤ 80 → All (λ byte. byte ≢ 10) line.pending
    → line.lines ≤ 2 ^ 64 - 1
    → fill line bytes ≡ filled_with line (cut (line.pending ++ bytes))
fill-whole line bytes short none counted = fill-behind line bytes short counted
    ∙ ap (filled_with line) (cut_behind-whole line.pending bytes none)
