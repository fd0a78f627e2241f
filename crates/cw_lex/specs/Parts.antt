-- The scan of a part of a text, and the scan of the whole.
use Rattle.std.specs.Prelude.{◌≡◌, ℕ, zero, suc, ◌+◌, ◌-◌, ◌≤◌, Bool, true, false, ◌&&◌, ◌==◌, List, [], ◌∷◌, ◌++◌}
use Rattle.std.specs.Prelude.{Option, Some, None, length, drop, take, if◌then◌else◌}
use Rattle.cw_rules.specs.declared.parts.Part.TheVariants as parts
use Rattle.cw_rules.specs.declared.tokens.Mode.{Mode}
use Rattle.cw_rules.specs.declared.tokens.Mode.TheVariants as modes
use Rattle.cw_rules.specs.declared.tokens.TokKind.TheVariants as kinds
use Rattle.cw_rules.specs.Bytes.{at_sign, greater, begins}
use Rattle.cw_base.specs.Text.{bar}
use Rattle.cw_rules.specs.Codes.{begins_section}
use Rattle.cw_rules.specs.Answers.{Answer, Begin, Finish, Where, ScanStep, token_of}
use Rattle.cw_rules.specs.Tokens.{found, all_cut, is_tex_inner}
use Rattle.cw_lex.specs.Lexing.{still_fresh, joined, fresh_at, last_at, answers_at, beginning, tokens_of}

abbrev pub followed : ScanStep → (Where → ℕ → Option Where) → Option Where
followed f rest = rest f.next f.more

-- Where the scan of these bytes stands behind the first `n` of them; None inside a token. The first `taken` belong to
-- what was answered before.
abbrev pub stand : ℕ → List ℕ → Where → Bool → ℕ → ℕ → ℕ → Option Where
stand zero bytes w fresh last place zero = Some w
stand zero bytes w fresh last place (suc taken) = None
stand (suc n) [] w fresh last place taken = None
stand (suc n) (byte ∷ bytes) w fresh last place zero =
    followed (found (record { stands = w; fresh = fresh; last = last; place = place }) byte bytes)
    (λ next more. stand n bytes next (still_fresh fresh byte) byte (place + 1) more)
stand (suc n) (byte ∷ bytes) w fresh last place (suc taken) =
    stand n bytes w (still_fresh fresh byte) byte (place + 1) taken

-- where the scan of a text that stands so at one place stands at another
abbrev pub stands_at : List ℕ → Where → ℕ → ℕ → Option Where
stands_at text w start end = stand (end - start) (drop start text) w (fresh_at text start) (last_at text start) start 0

-- The answers for these bytes, at whose end all that is open ends, with notes about the byte at `about`.
abbrev pub answers_to : ℕ → List ℕ → Where → Bool → ℕ → ℕ → ℕ → List Answer
answers_to about [] w fresh last place taken = all_cut w.part w.comments place about
answers_to about (byte ∷ bytes) w fresh last place zero =
    joined (found (record { stands = w; fresh = fresh; last = last; place = place }) byte bytes)
    (λ next more. answers_to about bytes next (still_fresh fresh byte) byte (place + 1) more)
answers_to about (byte ∷ bytes) w fresh last place (suc taken) =
    answers_to about bytes w (still_fresh fresh byte) byte (place + 1) taken

-- The answers for the bytes of a text from `start` up to `end`, in this mode, with the notes on what is cut at the end
-- about the byte at `about`.
abbrev pub part_answers : List ℕ → ℕ → ℕ → Mode → ℕ → List Answer
part_answers text start end mode about =
    let part = take end text in
    answers_to about (drop start part) (beginning mode) (fresh_at part start) (last_at part start) start 0

-- A section code stands at a place, or another code but `@>`.
abbrev pub is_section_at : List ℕ → ℕ → Bool
is_section_at text place = begins at_sign (drop place text) && begins_section (drop (place + 1) text)

abbrev pub IsCodeAt : List ℕ → ℕ → Type 0
IsCodeAt text place = (begins at_sign (drop place text) ≡ true) × (begins greater (drop (place + 1) text) ≡ false)

-- The scan of a part is the scan of the whole there. Where the scan of the whole stands at a part's beginning as the
-- part's mode begins, and meets a section code at its end, its answers from the beginning on are those of the part,
-- with notes about that code on what it cuts, and then those from the code on.
abbrev pub PartsEndAtSections : Type 0
PartsEndAtSections = (text : List ℕ) (start end : ℕ) (mode : Mode) (w : Where) → start ≤ end
    → stands_at text (beginning mode) start end ≡ Some w → is_section_at text end ≡ true
    → answers_at text (beginning mode) start ≡
    part_answers text start end mode end ++ answers_at text (beginning modes.TexText) end

-- The same where a code stands at the part's end and nothing is open there, so that nothing is cut: there the next part
-- of a section begins.
abbrev pub PartsEndAtCodes : Type 0
PartsEndAtCodes = (text : List ℕ) (start end : ℕ) (mode : Mode) (w : Where) → start ≤ end
    → stands_at text (beginning mode) start end ≡ Some w → IsCodeAt text end → all_cut w.part w.comments end end ≡ []
    → answers_at text (beginning mode) start ≡ part_answers text start end mode end ++ answers_at text w end

-- The last part ends with the text.
abbrev pub LastPartsEndWithTheText : Type 0
LastPartsEndWithTheText = (text : List ℕ) (start : ℕ) (mode : Mode)
    → answers_at text (beginning mode) start ≡ tokens_of text start (length text) mode

-- What is answered of a part has notes about its last byte on what is cut at its end.
abbrev pub PartsAreAnswered : Type 0
PartsAreAnswered = (text : List ℕ) (start end : ℕ) (mode : Mode) → start ≤ end → end ≤ length text
    → tokens_of text start end mode ≡ part_answers text start end mode (end - 1)

-- ## Inner C text of TeX text

-- Where the bar stands that closes inner C text of TeX text, in which the scan of these bytes stands. It is the first
-- token behind which the scan stands in inner text no more. None where a section code or the end of the bytes comes
-- first.
abbrev pub closing_bar : List ℕ → Where → Bool → ℕ → ℕ → ℕ → Option ℕ
closing_bar [] w fresh last place taken = None
closing_bar (byte ∷ bytes) w fresh last place zero =
    let f = found (record { stands = w; fresh = fresh; last = last; place = place }) byte bytes in
    if is_tex_inner f.next.part then closing_bar bytes f.next (still_fresh fresh byte) byte (place + 1) f.more
    else if byte == bar then Some place else None
closing_bar (byte ∷ bytes) w fresh last place (suc taken) =
    closing_bar bytes w (still_fresh fresh byte) byte (place + 1) taken

-- the bar that closes the inner C text of TeX text that begins at a place of a text
abbrev pub closing_bar_from : List ℕ → ℕ → Option ℕ
closing_bar_from text start =
    let inner : Where = record { part = parts.TexInner; comments = [] } in
    closing_bar (drop start text) inner (fresh_at text start) (last_at text start) start 0

-- Inner C text between two bars of TeX text is scanned by itself: its answers are those of the bytes between the bars.
abbrev pub InnerTextsEndAtBars : Type 0
InnerTextsEndAtBars = (text : List ℕ) (start end : ℕ) → begins bar (drop start text) ≡ true
    → closing_bar_from text (start + 1) ≡ Some end
    → answers_at text (beginning modes.TexText) start ≡
    Begin (token_of false kinds.InnerText start 1 (drop start text)) ∷ (tokens_of text (start + 1) end modes.Inner ++
    Finish (token_of false kinds.InnerText end 1 (drop end text)) ∷ answers_at text (beginning modes.TexText) (end + 1))
