-- What begins at a place of C text or a comment is the same where the text ends before an `@` or a bar that it doesn't
-- take.
use Rattle.std.proofs.Common.{◌≡◌, ℕ, suc, ◌+◌, ◌<◌, ◌≤◌, Bool, true, false, ◌&&◌, ◌||◌, not, ◌==◌, nat_lt, List, []}
use Rattle.std.proofs.Common.{◌∷◌, ◌++◌, Option, Some, None, length, take, drop, refl, sym, ap, subst, ◌∙◌, arith, ◌⊎◌}
use Rattle.std.proofs.Common.{inl, inr, slice_index, length-drop}
use Rattle.std.specs.Prelude.{if◌then◌else◌}
use Rattle.std.proofs.{lemmas.Bool.eqb-true, lemmas.List.drop_all, lemmas.Bool.Decides.nat_tests}
use Rattle.std.specs.Option.{option_map_or}
use Rattle.cw_base.proofs.TestLaws.{both-right}
use Rattle.cw_base.specs.{declared.notes.NoteKind.NoteKind, Text.bar}
use Rattle.cw_rules.specs.declared.{bodies.Inside.Inside, codes.Code.Code, codes.Effect.Effect, parts.Part.Part}
use Rattle.cw_rules.specs.declared.{parts.Opened.Opened, parts.Start.Start, signs.Sign.Sign}
use Rattle.cw_rules.specs.{declared.tokens.TokKind.TokKind, Bytes.begins, Constants.constant, Prefixes.prefix_size}
use Rattle.cw_rules.specs.{Signs.all_signs, Signs.longest, Codes.code_at, Codes.has_control_text, Names.is_void}
use Rattle.cw_rules.specs.Bytes.{quote, apostrophe, star, slash, less, greater, at_sign, run, is_letter, is_mark}
use Rattle.cw_rules.proofs.StringPrefixes.{prefix-below, prefix-mark}
use Rattle.cw_rules.specs.Bodies.{at_start, stops, extent, ended, noted, one_note, note_unless}
use Rattle.cw_rules.specs.Answers.{Answer, Where, Cut, ScanStep, before, plain, dropped}
use Rattle.cw_rules.specs.Tokens.{word, directive_at, string, string_of, closes_on_line, include_name, section_name}
use Rattle.cw_rules.specs.Tokens.{is_name, is_quote, control_or_plain, code_token, dropped_code, is_signed, is_head}
use Rattle.cw_rules.specs.Tokens.{in_hash_line, passed, moved, one, comment_begin, comment_closed, piece_start, piece}
use Rattle.cw_rules.specs.Tokens.{effect_in, may_head, code_by, in_code, start_of}
use Rattle.cw_rules.specs.model.Apart.{comment_text_apart, code_text_apart, in_text_apart}
use Rattle.cw_rules.proofs.{Choices.if-both, Sizes.run-le, IncludeEnds.greater-stops}
use Rattle.cw_rules.proofs.Ahead.{Stop, At, Bar, byte_of, of-both, IsApart, apart-on, drop-same, take-same, begins-same}
use Rattle.cw_rules.proofs.Ahead.{run-same, constant-same, prefix-same, start_of-same, signed-same, include-same}
use Rattle.cw_rules.proofs.Ahead.{directive-same}
use Rattle.cw_rules.proofs.BodiesAhead.{IsFree, body-same, extent-same, all_notes-same}
use Rattle.cw_base.specs.declared.notes.NoteKind.TheVariants as notes
use Rattle.cw_rules.specs.declared.bodies.Body.TheVariants as bodies
use Rattle.cw_rules.specs.declared.classes.Class.TheVariants as classes
use Rattle.cw_rules.specs.declared.codes.Code.TheVariants as at
use Rattle.cw_rules.specs.declared.codes.Effect.TheVariants as effects
use Rattle.cw_rules.specs.declared.parts.Behind.TheVariants as behinds
use Rattle.cw_rules.specs.declared.parts.Part.TheVariants as parts
use Rattle.cw_rules.specs.declared.parts.Start.TheVariants as start
use Rattle.cw_rules.specs.declared.signs.Sign.TheVariants as signs
use Rattle.cw_rules.specs.declared.tokens.Directive.TheVariants as directives
use Rattle.cw_rules.specs.declared.tokens.TokKind.TheVariants as kinds

-- two cuts that are the same where the first has no more than so many bytes
pub record CutLocal (left : ℕ) (c d : Cut) : Type 0 where
  pub same : c.size ≤ left → c ≡ d

-- and two findings
pub record Local (left : ℕ) (f g : ScanStep) : Type 0 where
  pub same : f.more ≤ left → f ≡ g

pub if-cut : (left : ℕ) (t : Bool) (a b c d : Cut) → (t ≡ true → CutLocal left a b) → (t ≡ false → CutLocal left c d)
    → CutLocal left (if t then a else c) (if t then b else d)
if-cut left true a b c d f g = f refl
if-cut left false a b c d f g = g refl

pub if-local : (left : ℕ) (t u : Bool) (a b c d : ScanStep) → t ≡ u → (u ≡ true → Local left a b)
    → (u ≡ false → Local left c d) → Local left (if t then a else c) (if u then b else d)
if-local left t true a b c d e f g = subst (λ t. Local left (if t then a else c) b) (sym e) (f refl)
if-local left t false a b c d e f g = subst (λ t. Local left (if t then a else c) d) (sym e) (g refl)

pub same-local : (left : ℕ) (f g : ScanStep) → f ≡ g → Local left f g
same-local left f g e = record { same = λ h. e }

pub before-local : (left : ℕ) (xs : List Answer) (f g : ScanStep) → Local left f g → Local left (before xs f)
    (before xs g)
before-local left xs f g l = record { same = λ h. ap (before xs) (l.same h) }

-- a quote is not the stop
abbrev QuoteIs : Stop → Start → Type 0
QuoteIs s (start.Quoted q) = (byte_of s == q) ≡ false
QuoteIs _ _ = Unit {0}

record Quotes (stop : Stop) (s : Start) : Type 0 where
  is : QuoteIs stop s

abbrev is_code_start : Start → Bool
is_code_start (start.Code c) = true
is_code_start _ = false

record NoCode (s : Start) : Type 0 where
  is : is_code_start s ≡ false

sign-no-code : (o : Option Sign) → is_code_start (option_map_or start.Sign o start.OtherByte) ≡ false
sign-no-code None = refl
sign-no-code (Some sign) = refl

abbrev standing : Part → List Opened → Where
standing part cs = record { part = part; comments = cs }

-- ## What goes on over the stop

quote-over : (s : Stop) (more : List ℕ) (q before : ℕ) → (byte_of s == q) ≡ false
    → stops (bodies.Quoted q) before (byte_of s) more ≡ false
quote-over At more q before n = ap (λ t. t || false) n
quote-over Bar more q before n = ap (λ t. t || false) n

control-over : (s : Stop) (more : List ℕ) (before : ℕ) → IsFree s more
    → stops bodies.ControlText before (byte_of s) more ≡ false
control-over At more before free = free
control-over Bar more before free = refl

include-over : (s : Stop) (more : List ℕ) → 0 < run classes.IncludeName (byte_of s ∷ more)
include-over At more = omega arith
include-over Bar more = omega arith

-- ## What the stop is taken along by

pub twice : (f g : ScanStep) → 1 ≤ f.more → Local 0 f g
twice f g h = record { same = λ k. absurd (omega arith) }

effect-at : (part : Part) (comments : List Opened) → effect_in part comments at.At ≡ effects.Drops notes.UnknownCode
effect-at parts.Definition [] = refl
effect-at parts.Begin [] = refl
effect-at part comments = refl

effect-bar : (part : Part) (comments : List Opened) → effect_in part comments at.OptionalBreak ≡ effects.Stands
effect-bar parts.Definition [] = refl
effect-bar parts.Begin [] = refl
effect-bar part comments = refl

-- an `@` and the stop are a code
at-end : (s : Stop) (more : List ℕ) (w : Where) (place byte : ℕ) (g : ScanStep)
    → Local 0 (in_code (start.Code (code_at (byte_of s ∷ more))) w place (byte ∷ byte_of s ∷ more)) g
at-end At more w place byte g = grind (arith, nat_tests, effect-at, twice)
at-end Bar more w place byte g = grind (arith, nat_tests, effect-bar, twice)

-- a bar before a bar is one sign with it
apart-or : (s : Stop) (more : List ℕ) (ends : Bool) (w : Where) (place byte : ℕ) (g : ScanStep)
    → IsApart s byte [] ⊎ Local 0 (in_code (start_of ends byte (byte_of s ∷ more)) w place (byte ∷ byte_of s ∷ more)) g
apart-or At more ends w place byte g = inl tt
apart-or Bar more ends w place byte g = by (byte == 124) refl
  where
    two : (ends : Bool) → start_of ends 124 (124 ∷ more) ≡ start.Sign signs.OrOr
    two true = refl
    two false = refl

    by : (t : Bool) → (byte == 124) ≡ t → ((byte == 124) ≡ false)
        ⊎ Local 0 (in_code (start_of ends byte (124 ∷ more)) w place (byte ∷ 124 ∷ more)) g
    by t e = grind (arith, nat_tests, eqb-true, two, twice)

-- The bytes behind an `@` begin with no `>`.
module _ (s : Stop) (more : List ℕ) (free : IsFree s more) where
  -- a token with its bytes
  pub one-local : (hash_line : Bool) (next other : Where) (place byte : ℕ) (bs : List ℕ) (c d : Cut)
      → (c.size ≤ suc (length bs) → (next ≡ other) × (c ≡ d)) → Local (length bs)
      (one hash_line next place (byte ∷ (bs ++ byte_of s ∷ more)) c) (one hash_line other place (byte ∷ bs) d)
  one-local hash_line next other place byte bs c d same = grind (arith, nat_tests, byte_of, take-same)

  pub simple-local : (hash_line : Bool) (next : Where) (place byte : ℕ) (bs : List ℕ) (c d : Cut) → c ≡ d
      → Local (length bs) (one hash_line next place (byte ∷ (bs ++ byte_of s ∷ more)) c)
      (one hash_line next place (byte ∷ bs) d)
  simple-local hash_line next place byte bs c d e = one-local hash_line next next place byte bs c d (λ h. (refl, e))

  -- ## Tokens

  string-local : (kind : TokKind) (opening q : ℕ) (i : Inside) (bs : List ℕ) (left : ℕ) → i.body ≡ bodies.Quoted q
      → (byte_of s == q) ≡ false → left ≡ opening + length bs
      → CutLocal left (string_of kind opening i (bs ++ byte_of s ∷ more)) (string_of kind opening i bs)
  string-local kind opening q i bs left b n l =
      grind (arith, nat_tests, byte_of, quote-over, extent-same, all_notes-same)

  control-local : (c : Code) (place byte next : ℕ) (bs : List ℕ) → CutLocal (suc (suc (length bs)))
      (control_or_plain c place (byte ∷ next ∷ (bs ++ byte_of s ∷ more))) (control_or_plain c place (byte ∷ next ∷ bs))
  control-local c place byte next bs =
      let i : Inside = at_start bodies.ControlText (place + 2) in
      if-cut (suc (suc (length bs))) (has_control_text c) _ _ _ _ (λ t. record {
        same = λ h.
            let fits : (extent i (bs ++ byte_of s ∷ more)).size ≤ length bs = omega (arith, h) in
            let e = extent-same s more i bs free tt fits in
            let m = all_notes-same s more notes.ControlTextUnended i bs free tt
            (λ before. control-over s more before free) fits in
            λ j. record { kind = kinds.Code c; directive = directives.No; size = 2 + e.size j; notes = m j };
      }) (λ t. record { same = λ h. refl })

  name-local : (c : Code) (place byte next : ℕ) (bs : List ℕ) → CutLocal (suc (suc (length bs)))
      (section_name c place (byte ∷ next ∷ (bs ++ byte_of s ∷ more))) (section_name c place (byte ∷ next ∷ bs))
  name-local c place byte next bs = record {
    same = λ h.
        let i : Inside = at_start bodies.SectionName (place + 2) in
        let fits : (extent i (bs ++ byte_of s ∷ more)).size ≤ length bs = omega (arith, h) in
        let e = extent-same s more i bs free tt fits in
        let name = ap (λ n. take n (bs ++ byte_of s ∷ more)) e.inner
        ∙ take-same (extent i bs).inner_size bs (byte_of s ∷ more) e.short in
        λ j. record {
          kind = kinds.Code c;
          directive = directives.No;
          size = 2 + e.size j;
          notes = one_note (note_unless (e.closed j) notes.NameUnended place)
              ++ (one_note (note_unless (not (is_void (name j))) notes.NameEmpty place) ++ e.notes j);
        };
  }

  pub code-local : (c : Code) (place byte next : ℕ) (bs : List ℕ) → CutLocal (suc (suc (length bs)))
      (code_token c place (byte ∷ next ∷ (bs ++ byte_of s ∷ more))) (code_token c place (byte ∷ next ∷ bs))
  code-local c place byte next bs =
      let left = suc (suc (length bs)) in
      if-cut left (is_name c) _ _ _ _ (λ t. name-local c place byte next bs) (λ t. if-cut left (is_quote c) _ _ _ _
      (λ t. string-local (kinds.Code c) 2 apostrophe (at_start (bodies.Quoted apostrophe) (place + 2)) bs left refl
      (of-both (λ b. b == apostrophe) false s refl refl) (omega arith)) (λ t. control-local c place byte next bs))

  pub dropped-local : (note : NoteKind) (c : Code) (place byte next : ℕ) (bs : List ℕ)
      → CutLocal (suc (suc (length bs))) (dropped_code note c place (byte ∷ next ∷ (bs ++ byte_of s ∷ more)))
      (dropped_code note c place (byte ∷ next ∷ bs))
  dropped-local note c place byte next bs =
      record { same = λ h. ap (dropped note place) ((control-local c place byte next bs).same h) }

  -- whether a name that ends before the `@` heads a C part
  head-same : (place byte next : ℕ) (bs : List ℕ)
      → (extent (at_start bodies.SectionName (place + 2)) (bs ++ byte_of s ∷ more)).size ≤ length bs
      → is_head place (byte ∷ next ∷ (bs ++ byte_of s ∷ more)) ≡ is_head place (byte ∷ next ∷ bs)
  head-same place byte next bs fits =
      let i : Inside = at_start bodies.SectionName (place + 2) in
      let e = extent-same s more i bs free tt fits in
      let size : (extent i bs).size ≤ length bs = omega (arith, fits, e.size) in
      (λ j. e.closed j && is_signed (drop (e.size j) (bs ++ byte_of s ∷ more)))
      ∙ ap (λ l. (extent i bs).closed && is_signed l) (drop-same (extent i bs).size bs (byte_of s ∷ more) size)
      ∙ ap (λ t. (extent i bs).closed && t) (signed-same s more (drop (extent i bs).size bs))

  pub heads-same : (c : Code) (may : Bool) (place byte next : ℕ) (bs : List ℕ)
      → (code_token c place (byte ∷ next ∷ (bs ++ byte_of s ∷ more))).size ≤ suc (suc (length bs))
      → (is_name c && (may && is_head place (byte ∷ next ∷ (bs ++ byte_of s ∷ more))))
      ≡ (is_name c && (may && is_head place (byte ∷ next ∷ bs)))
  heads-same c may place byte next bs h = by (is_name c) refl
    where
      by : (t : Bool) → is_name c ≡ t → (is_name c && (may && is_head place (byte ∷ next ∷ (bs ++ byte_of s ∷ more))))
          ≡ (is_name c && (may && is_head place (byte ∷ next ∷ bs)))
      by true e =
          let named : code_token c place (byte ∷ next ∷ (bs ++ byte_of s ∷ more)) ≡ section_name c place (byte ∷ next ∷
          (bs ++ byte_of s ∷ more)) = grind (arith, nat_tests, byte_of) in
          let size : (code_token c place (byte ∷ next ∷ (bs ++ byte_of s ∷ more))).size
          ≡ 2 + (extent (at_start bodies.SectionName (place + 2)) (bs ++ byte_of s ∷ more)).size =
          ap (λ (x : Cut). x.size) named in
          ap (λ t. is_name c && (may && t)) (head-same place byte next bs (omega (arith, size, h)))
      by false e = (λ i. e i && (may && is_head place (byte ∷ next ∷ (bs ++ byte_of s ∷ more))))
          ∙ sym (λ i. e i && (may && is_head place (byte ∷ next ∷ bs)))

  -- ## C text

  code_by-local : (effect : Effect) (c : Code) (w : Where) (place byte next : ℕ) (bs : List ℕ) → Local (suc (length bs))
      (code_by effect c w place (byte ∷ next ∷ (bs ++ byte_of s ∷ more))) (code_by effect c w place (byte ∷ next ∷ bs))
  code_by-local effects.Stands c w place byte next bs =
      let may = may_head w.part w.comments in
      one-local (in_hash_line w.part) _ _ place byte (next ∷ bs)
      (code_token c place (byte ∷ next ∷ (bs ++ byte_of s ∷ more))) (code_token c place (byte ∷ next ∷ bs)) (λ h. (
        ap (λ t. if t then moved w parts.Head else moved w (passed w.part)) (heads-same c may place byte next bs h),
        (code-local c place byte next bs).same h,
      ))
  code_by-local (effects.Drops note) c w place byte next bs = one-local (in_hash_line w.part) _ _ place byte (next ∷ bs)
      _ _ (λ h. (refl, (dropped-local note c place byte next bs).same h))
  code_by-local _ _ _ _ _ _ _ = grind (arith, nat_tests, simple-local)

  begin-local : (long : Bool) (w : Where) (place byte : ℕ) (bs : List ℕ) → Local (length bs)
      (comment_begin long w place (byte ∷ (bs ++ byte_of s ∷ more))) (comment_begin long w place (byte ∷ bs))
  begin-local long w place byte bs = grind (arith, nat_tests, take-same, byte_of)

  -- a string, behind so many bytes that begin it
  quoted-local : (opening q place : ℕ) (bs : List ℕ) → (byte_of s == q) ≡ false → opening ≤ length bs → CutLocal (length
      bs) (string kinds.Quoted opening q place (bs ++ byte_of s ∷ more)) (string kinds.Quoted opening q place bs)
  quoted-local opening q place bs n fits =
      let i = at_start (bodies.Quoted q) (place + opening) in
      subst (λ l. CutLocal (length bs) (string_of kinds.Quoted opening i l) (string_of kinds.Quoted opening i
      (drop opening bs))) (sym (drop-same opening bs (byte_of s ∷ more) fits)) (string-local kinds.Quoted opening q i
      (drop opening bs) (length bs) refl n (omega (arith, length-drop opening bs, fits)))

  -- what begins at a byte, where more than one byte is left or it is no code
  begun-local : (b : Start) (part : Part) (cs : List Opened) (place byte : ℕ) (bs : List ℕ) → QuoteIs s b
      → (is_code_start b ≡ true → 0 < length bs) → Local (length bs) (in_code b (record { part = part; comments = cs })
      place (byte ∷ (bs ++ byte_of s ∷ more))) (in_code b (record { part = part; comments = cs }) place (byte ∷ bs))
  begun-local start.Identifier part cs place byte bs q k = one-local (in_hash_line part) _ _ place byte bs
      (word (directive_at part (byte ∷ (bs ++ byte_of s ∷ more))) (byte ∷ (bs ++ byte_of s ∷ more)))
      (word (directive_at part (byte ∷ bs)) (byte ∷ bs)) (λ h. (
        ap (λ t. record {
          part = if in_hash_line part && t then parts.Plain true behinds.Include else passed part;
          comments = cs;
        }) (include-same s more (byte ∷ bs)),
        (λ j. record {
          kind = kinds.Identifier;
          directive = directive-same s more part (byte ∷ bs) j;
          size = run-same s more classes.Word (byte ∷ bs) refl refl j;
          notes = [];
        }),
      ))
  begun-local start.Constant part cs place byte bs q k = simple-local (in_hash_line part) _ place byte bs _ _
      (ap (plain kinds.Constant) (constant-same s more (byte ∷ bs)))
  begun-local (start.Quoted quoted) part cs place byte bs q k =
      let whole = byte ∷ (bs ++ byte_of s ∷ more) in
      let short = string kinds.Quoted (prefix_size (byte ∷ bs) + 1) quoted place (byte ∷ bs) in
      one-local (in_hash_line part) _ _ place byte bs
      (string kinds.Quoted (prefix_size whole + 1) quoted place whole) short (λ h. (
        refl,
        (subst (λ n. CutLocal (suc (length bs)) (string kinds.Quoted (n + 1) quoted place whole) short)
            (sym (prefix-same s more byte bs)) (quoted-local (prefix_size (byte ∷ bs) + 1) quoted place (byte ∷ bs) q
            (omega (arith, prefix-below byte bs)))).same h,
      ))
  begun-local (start.Code c) part cs place byte [] q k = absurd (omega (arith, k refl))
  begun-local (start.Code c) part cs place byte (next ∷ bs) q k = grind (arith, nat_tests, code_by-local)
  begun-local start.EndOfInner part cs place byte bs q k = same-local (length bs) _ _ refl
  begun-local (start.Sign sign) part cs place byte bs q k = grind (arith, nat_tests, simple-local)
  begun-local start.OtherByte part cs place byte bs q k = grind (arith, nat_tests, simple-local)
  begun-local _ _ _ _ _ _ _ _ = grind (arith, nat_tests, begin-local)

  -- ## What an include name ends

  include-run : (bs : List ℕ) → ((run classes.IncludeName (bs ++ byte_of s ∷ more) ≡ run classes.IncludeName bs)
      × (run classes.IncludeName bs < length bs)) ⊎ ((run classes.IncludeName bs ≡ length bs)
      × (length bs < run classes.IncludeName (bs ++ byte_of s ∷ more)))
  include-run [] = inr (refl, include-over s more)
  include-run (b ∷ bs) = grind (arith, nat_tests, include-run bs, byte_of)

  closes-cases : (bs : List ℕ) → (closes_on_line (bs ++ byte_of s ∷ more) ≡ closes_on_line bs)
      ⊎ ((closes_on_line bs ≡ false) × (length bs < run classes.IncludeName (bs ++ byte_of s ∷ more)))
  closes-cases bs = grind (arith, nat_tests, include-run, byte_of, drop-same, run-le, begins-same, drop_all)

  include-local : (hash_line : Bool) (next : Where) (place byte : ℕ) (bs : List ℕ) → closes_on_line bs ≡ true
      → Local (length bs) (one hash_line next place (byte ∷ (bs ++ byte_of s ∷ more)) (include_name place
      (byte ∷ (bs ++ byte_of s ∷ more)))) (one hash_line next place (byte ∷ bs) (include_name place (byte ∷ bs)))
  include-local hash_line next place byte bs closes = one-local hash_line next next place byte bs
      (include_name place (byte ∷ (bs ++ byte_of s ∷ more))) (include_name place (byte ∷ bs))
      (λ h. (refl, same (omega (arith, h)) (include-run bs)))
    where
      same : run classes.IncludeName (bs ++ byte_of s ∷ more) < length bs → ((run classes.IncludeName
          (bs ++ byte_of s ∷ more) ≡ run classes.IncludeName bs) × (run classes.IncludeName bs < length bs))
          ⊎ ((run classes.IncludeName bs ≡ length bs) × (length bs < run classes.IncludeName (bs ++ byte_of s ∷ more)))
          → include_name place (byte ∷ (bs ++ byte_of s ∷ more)) ≡ include_name place (byte ∷ bs)
      same least (inl r) =
          let i : Inside = at_start bodies.IncludeName (place + 1) in
          let n = run classes.IncludeName bs in
          let full : begins greater (drop n (bs ++ byte_of s ∷ more)) ≡ true = grind (
            arith,
            nat_tests,
            drop-same,
            byte_of,
            run-le,
            begins-same,
          ) in
          let far : (ended i (bs ++ byte_of s ∷ more)).place ≤ (place + 1) + n =
          greater-stops i (bs ++ byte_of s ∷ more) n refl (λ a. absurd cc) full in
          let b = body-same s more i bs (omega (arith, r.1)) in
          λ j. record { kind = kinds.IncludeName; directive = directives.No; size = 1 + (r.0 j + 1); notes = b.notes j }
      same least (inr r) = absurd (omega (arith, r.1, least))

  include-or : (hash_line behind : Bool) (next : Where) (place byte : ℕ) (bs : List ℕ) (f g : ScanStep)
      → Local (length bs) f g → Local (length bs)
      (if byte == less && (behind && closes_on_line (bs ++ byte_of s ∷ more)) then one hash_line next place (byte
      ∷ (bs ++ byte_of s ∷ more)) (include_name place (byte ∷ (bs ++ byte_of s ∷ more))) else f) (if byte == less &&
      (behind && closes_on_line bs) then one hash_line next place (byte ∷ bs) (include_name place (byte ∷ bs)) else g)
  include-or hash_line behind next place byte bs f g l =
      grind (arith, nat_tests, closes-cases, byte_of, if-local, include-local, both-right)

  -- ## C text and comments

  begun-quote : (ends : Bool) (byte : ℕ) (bs : List ℕ) → Quotes s (start_of ends byte bs)
  begun-quote ends byte bs = if-both (Quotes s) (nat_lt 0 (prefix_size (byte ∷ bs))) _ _ (λ h. record
      { is = marked (slice_index (byte ∷ bs) (prefix_size (byte ∷ bs))) (prefix-mark byte bs h) }) (λ h. if-both (Quotes
      s) (is_letter byte) _ _ (λ h. record { is = tt }) (λ h. if-both (Quotes s) (nat_lt 0 (constant (byte ∷ bs))) _ _
      (λ h. record { is = tt }) (λ h. if-both (Quotes s) (is_mark byte) _ _ (λ h. record { is = marked byte h })
      (λ h. if-both (Quotes s) (byte == slash && begins star bs) _ _ (λ h. record { is = tt }) (λ h. if-both (Quotes s)
      (byte == slash && begins slash bs) _ _ (λ h. record { is = tt }) (λ h. if-both (Quotes s) (byte == at_sign) _ _
      (λ h. record { is = tt }) (λ h. if-both (Quotes s) (byte == bar && (ends && not (begins bar bs))) _ _
      (λ h. record { is = tt }) (λ h. record { is = sign-quote (longest all_signs (byte ∷ bs)) }))))))))
    where
      quoted : (b : ℕ) (t : Bool) → (b == quote) ≡ t → is_mark b ≡ true → (byte_of s == b) ≡ false
      quoted b t e h = grind (arith, nat_tests, byte_of, eqb-true, of-both)

      marked : (b : ℕ) → is_mark b ≡ true → (byte_of s == b) ≡ false
      marked b h = quoted b (b == quote) refl h

      sign-quote : (o : Option Sign) → QuoteIs s (option_map_or start.Sign o start.OtherByte)
      sign-quote None = tt
      sign-quote (Some sign) = tt

  -- what begins at a byte, whatever is left
  begun : (ends : Bool) (part : Part) (cs : List Opened) (place byte : ℕ) (bs : List ℕ)
      → Local (length bs) (in_code (start_of ends byte (bs ++ byte_of s ∷ more)) (standing part cs) place
      (byte ∷ (bs ++ byte_of s ∷ more))) (in_code (start_of ends byte bs) (standing part cs) place (byte ∷ bs))
  begun ends part cs place byte (c ∷ bs) = subst (λ b. Local (suc (length bs)) (in_code b (standing part cs) place (byte
      ∷ c ∷ (bs ++ byte_of s ∷ more))) (in_code (start_of ends byte (c ∷ bs)) (standing part cs) place (byte ∷ c ∷ bs)))
      (sym (start_of-same s more ends byte (c ∷ bs) (apart-on s byte c bs) (λ e. refl))) (begun-local
      (start_of ends byte (c ∷ bs)) part cs place byte (c ∷ bs) (begun-quote ends byte (c ∷ bs)).is (λ e. omega arith))
  begun ends part cs place byte [] = by (byte == at_sign) refl (apart-or s more ends (standing part cs) place byte
      (in_code (start_of ends byte []) (standing part cs) place (byte ∷ [])))
    where
      no-code : (byte == at_sign) ≡ false → NoCode (start_of ends byte [])
      no-code e = if-both NoCode (nat_lt 0 (prefix_size (byte ∷ []))) _ _ (λ h. record { is = refl })
          (λ h. if-both NoCode (is_letter byte) _ _ (λ h. record { is = refl })
          (λ h. if-both NoCode (nat_lt 0 (constant (byte ∷ []))) _ _ (λ h. record { is = refl }) (λ h. if-both NoCode
          (is_mark byte) _ _ (λ h. record { is = refl }) (λ h. if-both NoCode (byte == slash && begins star []) _ _
          (λ h. record { is = refl }) (λ h. if-both NoCode (byte == slash && begins slash []) _ _
          (λ h. record { is = refl }) (λ h. if-both NoCode (byte == at_sign) _ _ (λ h. absurd
          (let k : true ≡ false = sym h ∙ e in cc)) (λ h. if-both NoCode (byte == bar && (ends && not (begins bar [])))
          _ _ (λ h. record { is = refl }) (λ h. record { is = sign-no-code (longest all_signs (byte ∷ [])) }))))))))

      by : (t : Bool) → (byte == at_sign) ≡ t → IsApart s byte [] ⊎ Local 0 (in_code (start_of ends byte (byte_of s
          ∷ more)) (standing part cs) place (byte ∷ byte_of s ∷ more)) (in_code (start_of ends byte []) (standing part
          cs) place (byte ∷ [])) → Local 0 (in_code (start_of ends byte (byte_of s ∷ more)) (standing part cs) place
          (byte ∷ byte_of s ∷ more)) (in_code (start_of ends byte []) (standing part cs) place (byte ∷ []))
      by true e o = subst (λ b. Local 0 (in_code b (standing part cs) place (byte ∷ byte_of s ∷ more))
          (in_code (start_of ends byte []) (standing part cs) place (byte ∷ [])))
          (sym (ap (λ b. start_of ends b (byte_of s ∷ more)) (eqb-true byte at_sign e))) (at-end s more
          (standing part cs) place byte (in_code (start_of ends byte []) (standing part cs) place (byte ∷ [])))
      by false e (inr l) = l
      by false e (inl apart) = subst (λ b. Local 0 (in_code b (standing part cs) place (byte ∷ byte_of s ∷ more))
          (in_code (start_of ends byte []) (standing part cs) place (byte ∷ [])))
          (sym (start_of-same s more ends byte [] apart (λ h. absurd (let k : true ≡ false = sym h ∙ e in cc))))
          (begun-local (start_of ends byte []) part cs place byte [] (begun-quote ends byte []).is
          (λ h. absurd (let k : true ≡ false = sym h ∙ (no-code e).is in cc)))

  pub code_text-local : (part : Part) (cs : List Opened) (fresh : Bool) (last place byte : ℕ) (bs : List ℕ)
      → Local (length bs) (code_text_apart (record { part = part; comments = cs }) fresh last place byte
      (bs ++ byte_of s ∷ more)) (code_text_apart (record { part = part; comments = cs }) fresh last place byte bs)
  code_text-local part cs fresh last place byte bs =
      grind (arith, nat_tests, if-local, same-local, byte_of, begins-same, simple-local, include-or, begun)

  piece-local : (part : Part) (cs : List Opened) (c : Opened) (place byte : ℕ) (bs : List ℕ)
      → Local (length bs) (piece part cs c place (byte ∷ (bs ++ byte_of s ∷ more))) (piece part cs c place (byte ∷ bs))
  piece-local part cs c place byte bs =
      let i = piece_start part cs c place in
      one-local (in_hash_line part) _ _ place byte bs (record {
        kind = kinds.Text;
        directive = directives.No;
        size = (extent i (byte ∷ (bs ++ byte_of s ∷ more))).size;
        notes = noted i (byte ∷ (bs ++ byte_of s ∷ more));
      }) (record {
        kind = kinds.Text;
        directive = directives.No;
        size = (extent i (byte ∷ bs)).size;
        notes = noted i
            (byte ∷ bs);
      })
      (λ h. let e = extent-same s more i (byte ∷ bs) free tt h in (
        (λ j. record {
          part = part;
          comments = record {
            start = c.start;
            long = c.long;
            braces = e.braces j;
            inner = c.inner;
          } ∷ cs;
        }),
        (λ j. record { kind = kinds.Text; directive = directives.No; size = e.size j; notes = e.notes j }),
      ))

  closed-local : (part : Part) (c : Opened) (cs : List Opened) (place byte : ℕ) (bs : List ℕ) → Local (length bs)
      (comment_closed part c cs place (byte ∷ (bs ++ byte_of s ∷ more))) (comment_closed part c cs place (byte ∷ bs))
  closed-local part c cs place byte bs = grind (arith, nat_tests, take-same, byte_of)

  comment_text-local : (part : Part) (c : Opened) (cs : List Opened) (last place byte : ℕ) (bs : List ℕ)
      → Local (length bs) (comment_text_apart part c cs last place byte (bs ++ byte_of s ∷ more))
      (comment_text_apart part c cs last place byte bs)
  comment_text-local part c cs last place byte bs =
      grind (arith, nat_tests, if-local, byte_of, begins-same, closed-local, same-local, piece-local)

  pub within-local : (part : Part) (c : Opened) (cs : List Opened) (fresh : Bool) (last place byte : ℕ) (bs : List ℕ)
      → Local (length bs) (in_text_apart part (c ∷ cs) fresh last place byte (bs ++ byte_of s ∷ more))
      (in_text_apart part (c ∷ cs) fresh last place byte bs)
  within-local part c cs fresh last place byte bs = if-local (length bs) c.inner c.inner _ _ _ _ refl (λ h.
      code_text-local part (c ∷ cs) fresh last place byte bs) (λ h. comment_text-local part c cs last place byte bs)

-- inner C text of TeX text
pub inner-local : (s : Stop) (more : List ℕ) (free : IsFree s more) (cs : List Opened) (fresh : Bool)
    (last place byte : ℕ) (bs : List ℕ) → Local (length bs) (in_text_apart parts.TexInner cs fresh last place byte
    (bs ++ byte_of s ∷ more)) (in_text_apart parts.TexInner cs fresh last place byte bs)
inner-local s more free [] fresh last place byte bs =
    code_text-local s more free parts.TexInner [] fresh last place byte bs
inner-local s more free (c ∷ cs) fresh last place byte bs =
    within-local s more free parts.TexInner c cs fresh last place byte bs
