-- The white space before what a head wants.
use Rattle.std.proofs.Common.{◌≡◌, ℕ, zero, suc, ◌+◌, ◌-◌, ◌<◌, ◌≤◌, Bool, true, false, ◌&&◌, ◌==◌, List, [], ◌∷◌, ◌++◌}
use Rattle.std.proofs.Common.{length, slice_index, drop, refl, sym, ap, ◌∙◌, arith, add-zero, if◌then◌else◌}
use Rattle.std.proofs.Common.{length-drop}
use Rattle.std.proofs.{lemmas.Bool.eqb-true, lemmas.Bool.ltb-true, lemmas.Bool.ltb-false, lemmas.List.drop-drop}
use Rattle.std.proofs.{lemmas.List.drop_all, lemmas.Bool.Decides.nat_tests, lemmas.Grind.common_steps}
use Rattle.cw_rules.specs.declared.{classes.Class.Class, parts.Part.Part, parts.Opened.Opened}
use Rattle.cw_rules.specs.Answers.{Where, plain, note_answers}
use Rattle.cw_rules.specs.Bytes.{is_in, is_letter, run, begins, begins_by}
use Rattle.cw_rules.specs.{Codes.begins_section, model.Apart.in_text_apart, model.Cuttings.bytes_at}
use Rattle.cw_rules.specs.{Pending.pending_notes}
use Rattle.cw_lex.specs.{Lexing.fresh_at, Lexing.last_at, Lexing.answers_at, declared.state.State.State}
use Rattle.cw_rules.specs.Tokens.{section, macro_name, format_name, parameter, is_parameter, behind_white}
use Rattle.cw_rules.specs.Tokens.{behind_format, identifier, skipped_byte, one, moved, is_head_part}
use Rattle.cw_lex.specs.model.Coming.{found_at, where_of, coming, is_skipped}
use Rattle.cw_rules.proofs.Runs.{drop-here, run-inside}
use Rattle.cw_lex.proofs.{Steps.skip-gives, White.other-byte}
use Rattle.cw_rules.specs.declared.classes.Class.TheVariants as classes
use Rattle.cw_rules.specs.declared.parts.Part.TheVariants as parts
use Rattle.cw_rules.specs.declared.signs.Sign.TheVariants as signs
use Rattle.cw_rules.specs.declared.tokens.TokKind.TheVariants as kinds

run-some : (class : Class) (bytes : List ℕ) → 0 < run class bytes
    → (0 < length bytes) × (is_in class (slice_index bytes 0) ≡ true)
run-some class [] h = absurd (omega arith)
run-some class (b ∷ bs) h = grind (arith, nat_tests)

run-none : (class : Class) (bytes : List ℕ) → run class bytes ≡ 0 → 0 < length bytes → is_in class (slice_index bytes 0)
    ≡ false
run-none class [] h g = absurd (omega arith)
run-none class (b ∷ bs) h g = grind (arith, nat_tests)

first-byte : (text : List ℕ) (p : ℕ) → p < length text → slice_index (drop p text) 0 ≡ slice_index text p
first-byte text p h = ap (λ l. slice_index l 0) (drop-here text p h)

-- a byte inside a run, and the one behind it
pub run-byte : (class : Class) (text : List ℕ) (place size p : ℕ) → size ≡ run class (drop place text) → place ≤ p
    → p < place + size → (p < length text) × (is_in class (slice_index text p) ≡ true)
run-byte class text place size p e low high =
    let some = run-some class (drop p text) (omega (arith, run-inside class text place size p e low (omega arith))) in
    let within : p < length text = omega (arith, some.0, length-drop p text) in
    (within, ap (is_in class) (sym (first-byte text p within)) ∙ some.1)

pub run-behind : (class : Class) (text : List ℕ) (place size : ℕ) → size ≡ run class (drop place text)
    → place + size < length text → is_in class (slice_index text (place + size)) ≡ false
run-behind class text place size e within = ap (is_in class) (sym (first-byte text (place + size) within))
    ∙ run-none class (drop (place + size) text) (omega (
      arith,
      run-inside class text place size (place + size) e (omega arith) (omega arith),
    )) (omega (arith, length-drop (place + size) text))

-- bytes that give no answer
pub skip-run : (text : List ℕ) (w : Where) (place n : ℕ) → ((p : ℕ) → place ≤ p → p < place + n → (p < length text)
    × (found_at text w p ≡ skipped_byte w)) → answers_at text w (place + n) ≡ answers_at text w place
skip-run text w place zero h = ap (answers_at text w) (add-zero place)
skip-run text w place (suc n) h =
    let last = h (place + n) (omega arith) (omega arith) in
    let next : (place + n) + 1 ≡ place + suc n = omega arith in
    ap (answers_at text w) (sym next) ∙ sym (skip-gives text w (place + n) last.0 last.1)
    ∙ skip-run text w place n (λ p low high. h p low (omega arith))

-- what isn't a section code
pub not-section : (text : List ℕ) (w : Where) (p : ℕ) → (slice_index text p == 64) ≡ false → found_at text w p
    ≡ in_text_apart w.part w.comments (fresh_at text p) (last_at text p) p (slice_index text p) (drop (p + 1) text)
not-section text w p h = ap (λ t. if t && begins_section (drop (p + 1) text) then section w p (drop (p + 1) text) else
    in_text_apart w.part w.comments (fresh_at text p) (last_at text p) p (slice_index text p) (drop (p + 1) text)) h

-- the blanks before the sign of a head
pub head-blank : (text : List ℕ) (p : ℕ) → is_in classes.Blank (slice_index text p) ≡ true → found_at text
    (record { part = parts.Head; comments = [] }) p ≡ skipped_byte (record { part = parts.Head; comments = [] })
head-blank text p h = grind (arith, nat_tests, not-section, other-byte)

-- What a head wants stands behind the white space, which is so at each byte of it and right behind.
module _ (text : List ℕ) (place size : ℕ) (test : List ℕ → Bool) (run-is : size ≡ run classes.White (drop place text))
    (follows : test (drop (place + size) text) ≡ true) where
  behind-same : (p : ℕ) → place ≤ p → p ≤ place + size → behind_white (drop p text) ≡ drop (place + size) text
  behind-same p low high =
      grind (arith, run-inside classes.White text place size p run-is low high, drop-drop ((place + size) - p) p text)

  pub follows-at : (p : ℕ) → place ≤ p → p ≤ place + size → p < length text → test (behind_white (bytes_at text p))
      ≡ true
  follows-at p low high within = grind (arith, nat_tests, drop-here text p within, behind-same p low high)

  pub not-at : (p : ℕ) → place ≤ p → p ≤ place + size → p < length text → ((bs : List ℕ) → test (64 ∷ bs) ≡ false)
      → (slice_index text p == 64) ≡ false
  not-at p low high within fails =
      grind (arith, nat_tests, common_steps, follows-at p low high within, eqb-true, follows-at)

-- Macro heads.
pub macro-found : (text : List ℕ) (place size : ℕ) (code : ℕ) (p : ℕ) → size ≡ run classes.White (drop place text)
    → begins_by is_letter (drop (place + size) text) ≡ true → place ≤ p → p ≤ place + size → p < length text
    → found_at text (record { part = parts.MacroName code; comments = [] }) p
    ≡ macro_name code (record { part = parts.MacroName code; comments = [] }) p (slice_index text p) (drop (p + 1) text)
macro-found text place size code p run-is follows low high within =
    grind (arith, nat_tests, follows-at text place size (begins_by is_letter) run-is follows p low high within)

pub macro-skipped : (text : List ℕ) (place size : ℕ) (code : ℕ) → size ≡ run classes.White (drop place text)
    → begins_by is_letter (drop (place + size) text) ≡ true
    → answers_at text (record { part = parts.MacroName code; comments = [] }) (place + size)
    ≡ answers_at text (record { part = parts.MacroName code; comments = [] }) place
macro-skipped text place size code run-is follows =
    let w : Where = record { part = parts.MacroName code; comments = [] } in
    skip-run text w place size (λ p low high.
    let here = run-byte classes.White text place size p run-is low high in (
      here.0,
      macro-found text place size code p run-is follows low (omega arith) here.0 ∙ ap (λ t. if t then skipped_byte w
          else one false (if begins 40 (drop (run classes.Word (slice_index text p ∷ drop (p + 1) text))
          (slice_index text p ∷ drop (p + 1) text)) then moved w (parts.MacroParen code) else moved w parts.Definition)
          p (slice_index text p ∷ drop (p + 1) text) (identifier (slice_index text p ∷ drop (p + 1) text))) here.1,
    ))

-- Parameter heads.
pub parameter-found : (text : List ℕ) (place size : ℕ) (code : ℕ) (p : ℕ) → size ≡ run classes.White (drop place text)
    → is_parameter (drop (place + size) text) ≡ true → place ≤ p → p ≤ place + size → p < length text
    → found_at text (record { part = parts.Parameters code; comments = [] }) p
    ≡ parameter (record { part = parts.Parameters code; comments = [] }) p (slice_index text p) (drop (p + 1) text)
parameter-found text place size code p run-is follows low high within =
    grind (arith, nat_tests, follows-at text place size (is_parameter) run-is follows p low high within)

pub parameter-skipped : (text : List ℕ) (place size : ℕ) (code : ℕ) → size ≡ run classes.White (drop place text)
    → is_parameter (drop (place + size) text) ≡ true
    → answers_at text (record { part = parts.Parameters code; comments = [] }) (place + size)
    ≡ answers_at text (record { part = parts.Parameters code; comments = [] }) place
parameter-skipped text place size code run-is follows =
    let w : Where = record { part = parts.Parameters code; comments = [] } in
    skip-run text w place size (λ p low high.
    let here = run-byte classes.White text place size p run-is low high in (
      here.0,
      parameter-found text place size code p run-is follows low (omega arith) here.0 ∙ ap (λ t. if t then skipped_byte w
          else if is_letter (slice_index text p) then one false w p (slice_index text p ∷ drop (p + 1) text) (identifier
          (slice_index text p ∷ drop (p + 1) text)) else (if slice_index text p == 44 then one false w p (slice_index
          text p ∷ drop (p + 1) text) (plain (kinds.Sign signs.Comma) 1) else if slice_index text p == 41 then one false
          (moved w parts.Definition) p (slice_index text p ∷ drop (p + 1) text) (plain (kinds.Sign signs.RightParen) 1)
          else one false w p (slice_index text p ∷ drop (p + 1) text) (plain (kinds.Sign signs.Ellipsis) 3))) here.1,
    ))

-- Format heads.
pub format-found : (text : List ℕ) (place size : ℕ) (code : ℕ) (second limbo : Bool) (p : ℕ)
    → size ≡ run classes.White (drop place text) → begins_by is_letter (drop (place + size) text) ≡ true → place ≤ p
    → p ≤ place + size → p < length text → found_at text
    (record { part = parts.FormatName code second limbo; comments = [] }) p ≡ format_name code second limbo
    (record { part = parts.FormatName code second limbo; comments = [] }) p (slice_index text p) (drop (p + 1) text)
format-found text place size code second limbo p run-is follows low high within =
    grind (arith, nat_tests, follows-at text place size (begins_by is_letter) run-is follows p low high within)

pub format-skipped : (text : List ℕ) (place size : ℕ) (code : ℕ) (second limbo : Bool)
    → size ≡ run classes.White (drop place text) → begins_by is_letter (drop (place + size) text) ≡ true
    → answers_at text (record { part = parts.FormatName code second limbo; comments = [] }) (place + size)
    ≡ answers_at text (record { part = parts.FormatName code second limbo; comments = [] }) place
format-skipped text place size code second limbo run-is follows =
    let w : Where = record { part = parts.FormatName code second limbo; comments = [] } in
    skip-run text w place size (λ p low high.
    let here = run-byte classes.White text place size p run-is low high in (
      here.0,
      format-found text place size code second limbo p run-is follows low (omega arith) here.0
          ∙ ap (λ t. if t then skipped_byte w else one false (if second then behind_format limbo w else moved w
          (parts.FormatName code true limbo)) p (slice_index text p ∷ drop (p + 1) text)
          (identifier (slice_index text p ∷ drop (p + 1) text))) here.1,
    ))

follows-within : (text : List ℕ) (q : ℕ) (test : List ℕ → Bool) → test [] ≡ false → test (drop q text) ≡ true
    → q < length text
follows-within text q test none h = grind (arith, nat_tests, ltb-true, drop_all, ltb-false)

pub macro-here : (text : List ℕ) (s : State) (code : ℕ) (at : ℕ) → s.part ≡ parts.MacroName code → s.comments ≡ []
    → at ≡ s.at + run classes.White (drop s.at text) → begins_by is_letter (drop at text) ≡ true
    → found_at text (where_of s) at ≡ macro_name code (where_of s) at (slice_index text at) (drop (at + 1) text)
macro-here text s code at p k e f =
    let size = run classes.White (drop s.at text) in
    let follows : begins_by is_letter (drop (s.at + size) text) ≡ true = grind (arith, nat_tests) in
    (λ i. found_at text (record { part = p i; comments = k i }) (e i))
    ∙ macro-found text s.at size code (s.at + size) refl follows (omega arith) (omega arith)
    (follows-within text (s.at + size) (begins_by is_letter) refl follows) ∙ sym
    (λ i. macro_name code (record { part = p i; comments = k i }) (e i) (slice_index text (e i)) (drop (e i + 1) text))

pub macro-coming : (text : List ℕ) (s : State) (code : ℕ) (at : ℕ) → s.part ≡ parts.MacroName code → s.comments ≡ []
    → at ≡ s.at + run classes.White (drop s.at text) → begins_by is_letter (drop at text) ≡ true
    → coming text (record s { at = at }) ≡ coming text s
macro-coming text s code at p k e f = grind (arith, macro-skipped)

pub parameter-here : (text : List ℕ) (s : State) (code : ℕ) (at : ℕ) → s.part ≡ parts.Parameters code → s.comments ≡ []
    → at ≡ s.at + run classes.White (drop s.at text) → is_parameter (drop at text) ≡ true
    → found_at text (where_of s) at ≡ parameter (where_of s) at (slice_index text at) (drop (at + 1) text)
parameter-here text s code at p k e f =
    let size = run classes.White (drop s.at text) in
    let follows : is_parameter (drop (s.at + size) text) ≡ true = ap (λ n. is_parameter (drop n text)) (sym e) ∙ f in
    (λ i. found_at text (record { part = p i; comments = k i }) (e i)) ∙ parameter-found text s.at size code (s.at
    + size) refl follows (omega arith) (omega arith) (follows-within text (s.at + size) (is_parameter) refl follows)
    ∙ sym (λ i. parameter (record { part = p i; comments = k i }) (e i) (slice_index text (e i)) (drop (e i + 1) text))

pub parameter-coming : (text : List ℕ) (s : State) (code : ℕ) (at : ℕ) → s.part ≡ parts.Parameters code → s.comments
    ≡ [] → at ≡ s.at + run classes.White (drop s.at text) → is_parameter (drop at text) ≡ true
    → coming text (record s { at = at }) ≡ coming text s
parameter-coming text s code at p k e f = grind (arith, parameter-skipped)

pub format-here : (text : List ℕ) (s : State) (code : ℕ) (second limbo : Bool) (at : ℕ)
    → s.part ≡ parts.FormatName code second limbo → s.comments ≡ [] → at ≡ s.at + run classes.White (drop s.at text)
    → begins_by is_letter (drop at text) ≡ true → found_at text (where_of s) at
    ≡ format_name code second limbo (where_of s) at (slice_index text at) (drop (at + 1) text)
format-here text s code second limbo at p k e f =
    let size = run classes.White (drop s.at text) in
    let follows : begins_by is_letter (drop (s.at + size) text) ≡ true = grind (arith, nat_tests) in
    (λ i. found_at text (record { part = p i; comments = k i }) (e i))
    ∙ format-found text s.at size code second limbo (s.at + size) refl follows (omega arith) (omega arith)
    (follows-within text (s.at + size) (begins_by is_letter) refl follows) ∙ sym (λ i. format_name code second limbo
    (record { part = p i; comments = k i }) (e i) (slice_index text (e i)) (drop (e i + 1) text))

pub format-coming : (text : List ℕ) (s : State) (code : ℕ) (second limbo : Bool) (at : ℕ)
    → s.part ≡ parts.FormatName code second limbo → s.comments ≡ [] → at ≡ s.at + run classes.White (drop s.at text)
    → begins_by is_letter (drop at text) ≡ true → coming text (record s { at = at }) ≡ coming text s
format-coming text s code second limbo at p k e f = grind (arith, format-skipped)

-- the blanks before the sign of a head, in a scanner's state
pub head-coming : (text : List ℕ) (s : State) (size : ℕ) → s.part ≡ parts.Head → s.comments ≡ []
    → size ≡ run classes.Blank (drop s.at text) → coming text (record s { at = s.at + size }) ≡ coming text s
head-coming text s size p k e = ap (λ l. note_answers (pending_notes text s.pending) ++ l)
    ((λ i. answers_at text (record { part = p i; comments = k i }) (s.at + size))
    ∙ skip-run text (record { part = parts.Head; comments = [] }) s.at size (λ q low high.
    let here = run-byte classes.Blank text s.at size q e low high in
    (here.0, head-blank text q here.1)) ∙ sym (λ i. answers_at text (record { part = p i; comments = k i }) s.at))

pub head-is : (p : Part) (comments : List Opened) → is_head_part p comments ≡ true → (p ≡ parts.Head) × (comments ≡ [])
head-is p comments h = grind arith

pub head-skipped : (p : Part) (comments : List Opened) (last b : ℕ) (bs : List ℕ) → is_head_part p comments ≡ true
    → is_in classes.Blank b ≡ false → is_skipped p comments last b bs ≡ false
head-skipped p comments last b bs h e = grind (arith, nat_tests)
