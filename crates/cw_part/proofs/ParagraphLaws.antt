-- A paragraph is translated, and then printed or not.
use Rattle.cw_part.proofs.Terms.{◌≡◌, ℕ, ◌||◌, Bool, true, false, sym, ap, ◌∙◌, List, ◌++◌, codes, arith, Result, Ok}
use Rattle.cw_part.proofs.Terms.{Err, IsErrAnd, nat_lt, append-nil, DeskState, LineState, Puts, puts-bytes, puts-none}
use Rattle.cw_part.proofs.Terms.{puts-stop, puts-then, puts-nothing, PutError, paragraph_if, Book, Counts, Done}
use Rattle.cw_part.proofs.Terms.{reprinted, Setting, Press, Weaves, weaves-refused}
use Rattle.cw_base.specs.declared.memory.Memory.{Memory}
use Rattle.cw_press.specs.model.Translation.{TranslatedState, Translates}
use Rattle.cw_lines.specs.declared.put_error.PutError.TheVariants as puts

abbrev reprint : List ℕ → Done ℕ → Done ℕ
reprint out d = reprinted (λ bytes. out) d

-- the call was refused before it printed anything
refused : {s : Setting} {d : Done ℕ} (front : List ℕ) (printed : Bool) {old new : Book} {before after : ℕ}
    {error : Memory} (line : LineState) (told : DeskState) {result : Result Counts PutError}
    → Translates s d old new before after (Err error) → IsErrAnd result (λ found. found ≡ puts.Memory)
    → Weaves s (paragraph_if printed front d) (record { book = old; line = line; told = told; steps = before })
    (record { book = new; line = line; told = told; steps = after }) result
refused front true line told t is = weaves-refused puts.Memory (puts-nothing _ line told is) t.same t.bound is
refused front false line told t is = weaves-refused puts.Memory (puts-nothing _ line told is) t.same t.bound is

pub paragraph-refused : {s : Setting} {d : Done ℕ} (front : List ℕ) (printed : Bool) {old new : Book}
    {before after : ℕ} {error : Memory} (line : LineState) (told : DeskState) {result : Result Counts PutError}
    → Translates s d old new before after (Err error) → IsErrAnd result (λ found. found ≡ puts.Memory)
    → Weaves s (paragraph_if printed front d) (record { book = old; line = line; told = told; steps = before })
    (record { book = new; line = line; told = told; steps = after }) result
paragraph-refused front printed line told t is = refused front printed line told t is

-- these bytes were printed of a piece that was translated
woven : {T : Type 0} {s : Setting} {d : Done ℕ} {out : List ℕ} {old new : Book} {before after : ℕ}
    {text : TranslatedState} {line line' : LineState} {told told' : DeskState} {value : T}
    → Translates s d old new before after (Ok text) → Puts {T = T} out line line' told told' (Ok value)
    → Weaves s (reprint out d) (record { book = old; line = line; told = told; steps = before })
    (record { book = new; line = line'; told = told'; steps = after }) (Ok text.counts)
woven {text = text} {line' = line'} {told' = told'} t put = grind (arith, puts-bytes, append-nil, puts-then, puts-none)

-- the same of a paragraph
abbrev shown : List ℕ → Done ℕ → List ℕ
shown front d = front ++ d.out ++ codes "\\par\n"

pub paragraph-put : {T : Type 0} {s : Setting} {d : Done ℕ} (front : List ℕ) (printed : Bool) {old new : Book}
    {before after : ℕ} {text : TranslatedState} {line line' : LineState} {told told' : DeskState} {value : T}
    → printed ≡ true → Translates s d old new before after (Ok text)
    → Puts {T = T} (front ++ d.out ++ codes "\\par\n") line line' told told' (Ok value)
    → Weaves s (paragraph_if printed front d) (record { book = old; line = line; told = told; steps = before })
    (record { book = new; line = line'; told = told'; steps = after }) (Ok text.counts)
paragraph-put {s = s} {d = d} front true is t put = woven {s = s} {d = d} {out = shown front d} t put
paragraph-put front false is t put = absurd (cc)

pub paragraph-cut : {T : Type 0} {s : Setting} {d : Done ℕ} (front : List ℕ) (printed : Bool) {old new : Book}
    {before after : ℕ} {text : TranslatedState} {line line' : LineState} {told told' : DeskState} {error : PutError}
    {result : Result Counts PutError} → printed ≡ true → Translates s d old new before after (Ok text) → Puts {T = T}
    (front ++ d.out ++ codes "\\par\n") line line' told told' (Err error) → IsErrAnd result (λ found. found ≡ error)
    → Weaves s (paragraph_if printed front d) (record { book = old; line = line; told = told; steps = before })
    (record { book = new; line = line'; told = told'; steps = after }) result
paragraph-cut front true {error = error} is t put e = grind (arith, weaves-refused, puts-bytes, append-nil, puts-stop)
paragraph-cut front false is t put e = absurd (cc)

pub paragraph-kept : {s : Setting} {d : Done ℕ} (front : List ℕ) (printed : Bool) {old new : Book} {before after : ℕ}
    {text : TranslatedState} (line : LineState) (told : DeskState)
    → printed ≡ false → Translates s d old new before after (Ok text)
    → Weaves s (paragraph_if printed front d) (record { book = old; line = line; told = told; steps = before })
    (record { book = new; line = line; told = told; steps = after }) (Ok text.counts)
paragraph-kept front true line told is t = absurd (cc)
paragraph-kept {s = s} {d = d} front false line told is t = woven {s = s} {d = d} t (puts-none line told (tt {0}))

-- whether it is printed, by its counts and by its scraps
pub printed-is : (always printed : Bool) (n m : ℕ) → printed ≡ (always || nat_lt 0 n) → n ≡ m
    → (always || nat_lt 0 m) ≡ printed
printed-is always printed n m is same = ap (λ (k : ℕ). always || nat_lt 0 k) (sym same) ∙ sym is

-- the same counts
pub counted : {s : Setting} {d : Done ℕ} {old new : Press} {a b : Counts} → a ≡ b → Weaves s d old new (Ok b)
    → Weaves s d old new (Ok a)
counted {s = s} {d = d} {old = old} {new = new} same woven = grind (arith, woven)
