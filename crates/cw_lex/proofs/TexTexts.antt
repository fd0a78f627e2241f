-- TeX text in which no other part begins goes on token by token, and its inner C texts are whole by themselves.
use Rattle.std.proofs.Common.{◌≡◌, ℕ, suc, ◌+◌, ◌-◌, ◌<◌, ◌≤◌, Bool, true, false, ◌&&◌, ◌||◌, ◌==◌, List, [], ◌∷◌, ◌++◌}
use Rattle.std.proofs.Common.{Option, Some, None, length, slice_index, take, drop, refl, sym, ap, subst, ◌∙◌, arith}
use Rattle.std.proofs.Common.{append-nil, length-drop, ◌⊎◌, inl, inr}
use Rattle.std.specs.Prelude.{if◌then◌else◌, is_some}
use Rattle.std.proofs.{lemmas.Bool.eqb-true, lemmas.Bool.Decides.nat_tests}
use Rattle.std.proofs.lemmas.List.{drop-drop, length-take}
use Rattle.cw_base.proofs.TestLaws.{both-right, one-failed-left, one-failed-right, not-both}
use Rattle.cw_rules.specs.declared.{bodies.NoteAt.NoteAt, codes.Code.Code, codes.Effect.Effect, tokens.TokKind.TokKind}
use Rattle.cw_rules.specs.Answers.{Answer, Token, Begin, Finish, Note, Seen, Where, Cut, ScanStep, note_answers}
use Rattle.cw_rules.specs.Answers.{token_of}
use Rattle.cw_rules.specs.{Answers.cut_token, Answers.plain, Answers.has_sign, Bodies.at_start, Bodies.extent}
use Rattle.cw_rules.specs.{Bytes.at_sign, Bytes.equals, Bytes.run, Bytes.begins, Bytes.is_in, Order.Covers}
use Rattle.cw_rules.specs.{model.Apart.found_apart}
use Rattle.cw_base.specs.Text.{bar}
use Rattle.cw_rules.specs.Codes.{code_of, code_at, is_section, begins_section, effect_in_tex}
use Rattle.cw_lex.specs.{model.Coming.found_at, Limbo.is_name_kind, Parts.closing_bar_from}
use Rattle.cw_lex.specs.Lexing.{still_fresh, joined, answers, fresh_at, last_at, answers_at, beginning, tokens_of}
use Rattle.cw_lex.specs.Nested.{is_section_kind, begins_section_in}
use Rattle.cw_lex.specs.Openings.{opened_by, opens_part_before, opens_part_in}
use Rattle.cw_lex.specs.model.TexTexts.{tex_at, are_notes, GoesOn, HoldsInner}
use Rattle.cw_rules.specs.Tokens.{one, moved, dropped_code, effect_in, section_name, is_name, is_head, is_signed}
use Rattle.cw_rules.specs.Tokens.{tex_by, tex_text, section, code_by, inner_begin, inner_cut}
use Rattle.cw_rules.proofs.{CodeStarts.code-kind, CodeTwins.at-code, NameEnds.name-take, InnerTwins.tex_inner}
use Rattle.cw_rules.proofs.{Sizes.extent-le, Runs.drop-here, Within.found-fits}
use Rattle.cw_lex.proofs.Covering.{drop-part, covers-le, tokens-cover}
use Rattle.cw_lex.proofs.{InnerEnds.to-end, InnerScans.inner-ends-at-bar, Openings.section-cuts, Openings.bare-uncut}
use Rattle.cw_lex.proofs.{FirstTokens.notes-sign, FirstTokens.begun, PartScans.ends-with-text, Walk.answers-at}
use Rattle.cw_rules.proofs.Taking.{AreNotes, found-takes, bare-all-cut}
use Rattle.cw_base.specs.declared.notes.NoteKind.TheVariants as notes
use Rattle.cw_rules.specs.declared.bodies.Body.TheVariants as bodies
use Rattle.cw_rules.specs.declared.classes.Class.TheVariants as classes
use Rattle.cw_rules.specs.declared.codes.Code.TheVariants as at
use Rattle.cw_rules.specs.declared.codes.Effect.TheVariants as effects
use Rattle.cw_rules.specs.declared.parts.Behind.TheVariants as behinds
use Rattle.cw_rules.specs.declared.parts.Part.TheVariants as parts
use Rattle.cw_rules.specs.declared.tokens.Mode.TheVariants as modes
use Rattle.cw_rules.specs.declared.tokens.TokKind.TheVariants as kinds

abbrev tex : Where
tex = record { part = parts.Tex; comments = [] }

abbrev head : Where
head = record { part = parts.Head; comments = [] }

abbrev inner : Where
inner = record { part = parts.Inner; comments = [] }

-- ## Lists

pub opens-uncut : (more answers : List Answer) → opens_part_before more answers ≡ false → begins_section_in answers
    ≡ false
opens-uncut more [] h = refl
opens-uncut more (Token t ∷ answers) h = both (is_section_kind t.kind) (one-failed-left (is_section_kind t.kind) _ h)
    (opens-uncut more answers (one-failed-right (is_some (opened_by t.kind (has_sign (answers ++ more))))
    (opens_part_before more answers) (one-failed-right (is_section_kind t.kind) _ h)))
  where
    both : (a : Bool) → a ≡ false → begins_section_in answers ≡ false → (a || begins_section_in answers) ≡ false
    both a e k = grind (arith, nat_tests)
opens-uncut more (_ ∷ answers) h = opens-uncut more answers h

notes-only : (ns : List NoteAt) → AreNotes (note_answers ns)
notes-only [] = tt
notes-only (n ∷ ns) = notes-only ns

notes-are : (ns : List NoteAt) → are_notes (note_answers ns) ≡ true
notes-are [] = refl
notes-are (n ∷ ns) = notes-are ns

-- ## The sign of a head comes where it is wanted

signed : (bytes : List ℕ) (fresh : Bool) (last place : ℕ) → is_signed bytes ≡ true
    → has_sign (answers bytes head fresh last place 0) ≡ true
signed [] fresh last place h = absurd cc
signed (b ∷ bs) fresh last place h = by (is_in classes.Blank b) refl (signed bs (still_fresh fresh b) b (place + 1))
  where
    by : (t : Bool) → is_in classes.Blank b ≡ t → (is_signed bs ≡ true → has_sign (answers bs head
        (still_fresh fresh b) b (place + 1) 0) ≡ true) → has_sign (answers (b ∷ bs) head fresh last place 0) ≡ true
    by true e rec = code (b == at_sign) refl
      where
        code : (t : Bool) → (b == at_sign) ≡ t → has_sign (answers (b ∷ bs) head fresh last place 0) ≡ true
        code true k = absurd (let w : true ≡ false = sym e ∙ ap (is_in classes.Blank) (eqb-true b at_sign k) in cc)
        code false k =
            let one-more : suc (run classes.Blank bs) ≡ 1 + run classes.Blank bs = omega arith in
            let next : is_signed bs ≡ true = grind (arith, nat_tests) in
            (λ i. has_sign (joined (if k i && begins_section bs then section head place bs else
            (if e i then record { answers = []; more = 0; next = head } else one false
            (moved head (parts.Plain false behinds.Other)) place (b ∷ bs)
            (plain kinds.HeadSign (if begins equals bs then 2 else 1))))
            (λ next more. answers bs next (still_fresh fresh b) b (place + 1) more)))
            ∙ rec next
    by false e rec = code (b == at_sign) refl
      where
        code : (t : Bool) → (b == at_sign) ≡ t → has_sign (answers (b ∷ bs) head fresh last place 0) ≡ true
        code t k = grind (arith, nat_tests, eqb-true, not-both)

-- an end among answers that cover a text
reaches : (text : List ℕ) (from end : ℕ) (xs : List Answer) (finish : Seen) (rest : List Answer)
    → Covers text from end (xs ++ Finish finish ∷ rest) → (from ≤ finish.span.start) × (finish.span.start ≤ end)
reaches text from end [] finish rest c = grind (arith, nat_tests, covers-le)
reaches text from end (Token t ∷ xs) finish rest c = grind (arith, reaches text t.span.end end xs finish rest c.2)
reaches text from end (Begin t ∷ xs) finish rest c = grind (arith, reaches text t.span.end end xs finish rest c.1)
reaches text from end (Finish t ∷ xs) finish rest c = grind (arith, reaches text t.span.end end xs finish rest c.1)
reaches text from end (Note kind about ∷ xs) finish rest c = reaches text from end xs finish rest c

-- ## Section names by themselves

-- what is left when a token has all bytes
pub all-taken : (bytes : List ℕ) (w : Where) (fresh : Bool) (last place : ℕ)
    → begins_section_in (answers bytes w fresh last place (length bytes)) ≡ false
all-taken [] w fresh last place = grind (arith, nat_tests, bare-uncut, bare-all-cut)
all-taken (b ∷ bytes) w fresh last place = all-taken bytes w (still_fresh fresh b) b (place + 1)

pub or-notes : (ns : List NoteAt) (ys : List Answer) → begins_section_in ys ≡ false
    → begins_section_in (note_answers ns ++ ys) ≡ false
or-notes [] ys h = h
or-notes (n ∷ ns) ys h = or-notes ns ys h

pub name-plain : (c : Code) → is_name c ≡ true → is_section c ≡ false
name-plain c h = grind arith

pub name-kind : (c : Code) → is_name c ≡ true → is_section_kind (kinds.Code c) ≡ false
name-kind at.SectionName h = refl
name-kind at.FileName h = refl
name-kind _ h = absurd cc

name-found : (c : Code) (place : ℕ) (shown : List ℕ) → is_name c ≡ true → code_by (effect_in parts.Inner [] c) c inner
    place shown ≡ one false inner place shown (section_name c place shown)
name-found c place shown h = grind arith

-- a name, where the text ends behind it
name-uncut : (c : Code) (d : ℕ) (bs : List ℕ) (fresh : Bool) (last place : ℕ) → is_name c ≡ true → code_of d ≡ c
    → begins_section_in (answers (64 ∷ d ∷ take (extent (at_start bodies.SectionName (place + 2)) bs).size bs) inner
    fresh last place 0) ≡ false
name-uncut c d bs fresh last place n h =
    let i = at_start bodies.SectionName (place + 2) in
    let k = (extent i bs).size in
    let ls = take k bs in
    let shown = 64 ∷ d ∷ ls in
    let cut = section_name c place shown in
    let rest : Where → ℕ → List Answer = λ next more. answers (d ∷ ls) next (still_fresh fresh 64) 64 (place + 1)
    more in
    let is : found_apart inner fresh last place 64 (d ∷ ls) ≡ one false inner place shown cut = grind (
      arith,
      nat_tests,
      name-plain,
      at-code,
      name-found,
    ) in
    let fits : k ≤ length bs = extent-le i bs in
    let size : (2 + (extent i ls).size) - 1 ≡ length (d ∷ ls) =
    omega (arith, name-take i bs refl, length-take k bs, fits) in
    let behind : begins_section_in (rest inner ((2 + (extent i ls).size) - 1)) ≡ false = grind (
      arith,
      nat_tests,
      all-taken,
    ) in
    ap (λ (f : ScanStep). begins_section_in (joined f rest)) is ∙ ap
    (λ b. b || begins_section_in (note_answers cut.notes ++ rest inner ((2 + (extent i ls).size) - 1))) (name-kind c n)
    ∙ or-notes cut.notes (rest inner ((2 + (extent i ls).size) - 1)) behind

-- a name in its text
name-whole : (text : List ℕ) (start end d : ℕ) (bs : List ℕ) (c : Code) → drop start text ≡ 64 ∷ d ∷ bs
    → is_name c ≡ true → code_of d ≡ c → end ≡ start + (2 + (extent (at_start bodies.SectionName (start + 2)) bs).size)
    → begins_section_in (tokens_of text start end modes.Inner) ≡ false
name-whole text start end d bs c here n h e =
    let k = (extent (at_start bodies.SectionName (start + 2)) bs).size in
    let size : end - start ≡ suc (suc k) = omega (arith, e) in
    let part : drop start (take end text) ≡ 64 ∷ d ∷ take k bs = grind (arith, nat_tests, drop-part) in
    ap (λ l. begins_section_in (answers l inner (fresh_at (take end text) start) (last_at (take end text) start) start
    0)) part ∙ name-uncut c d bs (fresh_at (take end text) start) (last_at (take end text) start) start n h

-- ## What begins in TeX text

-- A code stands as a token, behind which TeX text goes on; or it is a name that heads a C part; or another part begins.
record Stands (c : Code) (place : ℕ) (shown : List ℕ) (f : ScanStep) : Type 0 where
  cut : Cut
  is : f ≡ one false tex place shown cut
  name : is_name_kind cut.kind ≡ true → (is_name c ≡ true) × (cut ≡ section_name c place shown)

record Heads (c : Code) (place : ℕ) (shown : List ℕ) (f : ScanStep) : Type 0 where
  name : is_name c ≡ true
  headed : is_head place shown ≡ true
  is : f ≡ one false head place shown (section_name c place shown)

record Opens (f : ScanStep) : Type 0 where
  token : Seen
  answers : f.answers ≡ Token token ∷ []
  opened : is_some (opened_by token.kind false) ≡ true

abbrev Begins : Code → ℕ → List ℕ → ScanStep → Type 0
Begins c place shown f = Stands c place shown f ⊎ (Heads c place shown f ⊎ Opens f)

name-begins : (c : Code) (place : ℕ) (shown : List ℕ) (t : Bool) → is_head place shown ≡ t → is_name c ≡ true
    → Begins c place shown (one false (if t then head else tex) place shown (section_name c place shown))
name-begins c place shown true h n = inr (inl (record { name = n; headed = h; is = refl }))
name-begins c place shown false h n =
    inl (record { cut = section_name c place shown; is = refl; name = λ k. (n, refl) })

abbrev is_kept : Effect → Bool
is_kept effects.Stands = true
is_kept (effects.Drops note) = true
is_kept effect = false

name-code : (c : Code) → is_name_kind (kinds.Code c) ≡ is_name c
name-code c = grind arith

-- any other code
effect-begins : (effect : Effect) (c : Code) (place : ℕ) (shown : List ℕ) → is_name c ≡ false → is_kept effect ≡ true
    → Begins c place shown (tex_by effect c tex place shown)
effect-begins effects.Stands c place shown n k = grind (arith, nat_tests, not-both, code-kind, name-code)
effect-begins (effects.Drops note) c place shown n k =
    inl (record { cut = dropped_code note c place shown; is = refl; name = λ h. absurd cc })
effect-begins _ c place shown n k = absurd cc

code-begins : (c : Code) (place : ℕ) (shown : List ℕ)
    → Begins c place shown (tex_by (effect_in_tex c) c tex place shown)
code-begins at.SectionName place shown = name-begins at.SectionName place shown (is_head place shown) refl refl
code-begins at.FileName place shown = name-begins at.FileName place shown (is_head place shown) refl refl
code-begins at.Define place shown = inr (inr (record { token = _; answers = refl; opened = refl }))
code-begins at.Format place shown = inr (inr (record { token = _; answers = refl; opened = refl }))
code-begins at.SilentFormat place shown = inr (inr (record { token = _; answers = refl; opened = refl }))
code-begins at.Program place shown = inr (inr (record { token = _; answers = refl; opened = refl }))
code-begins c place shown = effect-begins (effect_in_tex c) c place shown refl refl

-- ## TeX text goes on

more-opened : (kind : TokKind) (headed : Bool) → is_some (opened_by kind false) ≡ true → is_some (opened_by kind headed)
    ≡ true
more-opened kind headed h = grind (arith, nat_tests)

module _ (text : List ℕ) (place : ℕ) (within : place < length text) (quiet : opens_part_in (tex_at text place)
    ≡ false) where
  abbrev byte : ℕ
  byte = slice_index text place

  abbrev behind : List ℕ
  behind = drop (place + 1) text

  abbrev here : ScanStep
  here = found_at text tex place

  abbrev next : ℕ
  next = (place + 1) + here.more

  goes : tex_at text place ≡ here.answers ++ answers_at text here.next next
  goes =
      let fits = found-fits tex (fresh_at text place) (last_at text place) place byte behind in
      answers-at text tex place here next within refl refl (omega (arith, fits.more, length-drop (place + 1) text))

  next-within : next ≤ length text
  next-within =
      let fits = found-fits tex (fresh_at text place) (last_at text place) place byte behind in
      omega (arith, fits.more, length-drop (place + 1) text)

  -- no section code, and no code with which another part begins
  no-section : (byte == at_sign && begins_section behind) ≡ false
  no-section = grind (arith, nat_tests, opens-uncut, not-both, section-cuts, goes)

  here-is : here ≡ tex_text tex place byte behind
  here-is = ap (λ t. if t then section tex place behind else tex_text tex place byte behind) no-section

  -- a token that stands
  token-goes : (cut : Cut) → here ≡ one false tex place (byte ∷ behind) cut → (is_name_kind cut.kind ≡ true
      → begins_section_in (tokens_of text place (place + cut.size) modes.Inner) ≡ false) → GoesOn text place
  token-goes cut e name =
      let t = cut_token false cut place (byte ∷ behind) in
      let takes = found-takes tex (fresh_at text place) (last_at text place) place byte behind in
      let b = begun place (byte ∷ behind) here.more takes.first takes.rest [] t (note_answers cut.notes) takes.bare
      takes.whole (sym takes.split ∙ ap (λ (f : ScanStep). f.answers) e) in
      let to : t.span.end ≡ next = b.whole.to in
      record {
        token = t;
        notes = note_answers cut.notes;
        answers = goes ∙ ap (λ (f : ScanStep). f.answers ++ answers_at text f.next next) e
            ∙ ap (λ n. Token t ∷ (note_answers cut.notes ++ tex_at text n)) (sym to);
        only = notes-are cut.notes;
        starts = refl;
        some = omega (arith, to);
        within = omega (arith, to, next-within);
        name = name;
      }

  -- no name heads a C part
  no-head : (c : Code) → is_name c ≡ true → is_head place (byte ∷ behind) ≡ true
      → here ≡ one false head place (byte ∷ behind) (section_name c place (byte ∷ behind)) → ⊥
  no-head c n h e =
      let bs = drop 2 (byte ∷ behind) in
      let x = extent (at_start bodies.SectionName (place + 2)) bs in
      let cut = section_name c place (byte ∷ behind) in
      let t = cut_token false cut place (byte ∷ behind) in
      let to : next ≡ place + (2 + x.size) = omega (arith, ap (λ (f : ScanStep). f.more) e) in
      let two : drop (place + 2) text ≡ bs = sym (drop-drop 2 place text) ∙ ap (drop 2) (drop-here text place within) in
      let at-next : drop next text ≡ drop x.size bs =
      ap (λ n. drop n text) (to ∙ omega arith) ∙ sym (drop-drop x.size (place + 2) text) ∙ ap (drop x.size) two in
      let sign : has_sign (answers_at text head next) ≡ true = grind (arith, nat_tests, signed, both-right) in
      let rest = note_answers cut.notes ++ answers_at text head next in
      let all : tex_at text place ≡ Token t ∷ rest = goes
      ∙ ap (λ (f : ScanStep). f.answers ++ answers_at text f.next next) e in
      let unopened = ap opens_part_in (sym all) ∙ quiet in
      let behind-name : has_sign (rest ++ []) ≡ true = ap has_sign (append-nil rest)
      ∙ notes-sign (note_answers cut.notes) (answers_at text head next) (notes-only cut.notes) ∙ sign in
      not-both _ (ap (λ b. is_some (opened_by (kinds.Code c) b)) behind-name
      ∙ named-opens c n) (one-failed-left (is_some (opened_by (kinds.Code c) (has_sign (rest ++ []))))
      (opens_part_before [] rest) (one-failed-right (is_section_kind (kinds.Code c)) _ unopened))
    where
      named-opens : (c : Code) → is_name c ≡ true → is_some (opened_by (kinds.Code c) true) ≡ true
      named-opens c n = grind (arith, nat_tests)

  -- a code
  code-goes : (byte == at_sign) ≡ true → GoesOn text place
  code-goes e = by (code-begins (code_at behind) place (byte ∷ behind))
    where
      is : here ≡ tex_by (effect_in_tex (code_at behind)) (code_at behind) tex place (byte ∷ behind)
      is = grind (arith, nat_tests, here-is)

      name-goes : (c : Code) (ls : List ℕ) → behind ≡ ls → code_at behind ≡ c → is_name c ≡ true → begins_section_in
          (tokens_of text place (place + (section_name c place (byte ∷ behind)).size) modes.Inner) ≡ false
      name-goes c [] l k n = absurd (no-name (sym (ap code_at l) ∙ k))
        where
          no-name : at.Unknown ≡ c → ⊥
          no-name u = let w : false ≡ true = ap is_name u ∙ n in cc
      name-goes c (d ∷ bs) l k n =
          let b : byte ≡ 64 = eqb-true byte at_sign e in
          name-whole text place (place + (section_name c place (byte ∷ behind)).size) d bs c
          (drop-here text place within ∙ (λ i. b i ∷ l i)) n (sym (ap code_at l) ∙ k)
          (λ i. place + (2 + (extent (at_start bodies.SectionName (place + 2)) (drop 1 (l i))).size))

      by : Begins (code_at behind) place (byte ∷ behind) (tex_by (effect_in_tex (code_at behind)) (code_at behind) tex
          place (byte ∷ behind)) → GoesOn text place
      by (inl s) = token-goes s.cut (is ∙ s.is) (λ k. let n = s.name k in
          ap (λ (x : Cut). begins_section_in (tokens_of text place (place + x.size) modes.Inner)) n.1
          ∙ name-goes (code_at behind) behind refl refl n.0)
      by (inr (inl h)) = absurd (no-head (code_at behind) h.name h.headed (is ∙ h.is))
      by (inr (inr o)) =
          let rest = answers_at text here.next next in
          let all : tex_at text place ≡ Token o.token ∷ rest = goes
          ∙ ap (λ l. l ++ rest) (ap (λ (f : ScanStep). f.answers) is ∙ o.answers) in
          let unopened = ap opens_part_in (sym all) ∙ quiet in
          not-both _ (more-opened o.token.kind (has_sign (rest ++ [])) o.opened)
          (one-failed-left (is_some (opened_by o.token.kind (has_sign (rest ++ [])))) (opens_part_before [] rest)
          (one-failed-right (is_section_kind o.token.kind) _ unopened))

  -- inner C text
  abbrev opening : Seen
  opening = token_of false kinds.InnerText place 1 (drop place text)

  bar-holds : (byte == bar) ≡ true → HoldsInner text place
  bar-holds e = by (closing_bar_from text (place + 1)) refl
    where
      b : byte ≡ 124
      b = eqb-true byte bar e

      at-bar : begins bar (drop place text) ≡ true
      at-bar = ap (begins bar) (drop-here text place within) ∙ e

      covered : (finish : Seen) (rest : List Answer) (stop : ℕ) → tex_at text place
          ≡ Begin opening ∷ (tokens_of text (place + 1) stop modes.Inner ++ Finish finish ∷ rest)
          → (place + 1 ≤ finish.span.start) × (finish.span.start ≤ length text)
      covered finish rest stop all =
          let cover : Covers text place (length text) (tex_at text place) =
          subst (Covers text place (length text)) (sym (ends-with-text text place modes.TexText))
          (tokens-cover text place (length text) modes.TexText (omega (arith, within)) (omega arith)) in
          let behind = (subst (Covers text place (length text)) all cover).1 in
          reaches text (place + 1) (length text) (tokens_of text (place + 1) stop modes.Inner) finish rest behind

      by : (o : Option ℕ) → closing_bar_from text (place + 1) ≡ o → HoldsInner text place
      by (Some stop) k =
          let finish = token_of false kinds.InnerText stop 1 (drop stop text) in
          let all = inner-ends-at-bar text place stop at-bar k in
          let c = covered finish (answers_at text (beginning modes.TexText) (stop + 1)) stop all in
          record {
            token = opening;
            finish = finish;
            rest = answers_at text (beginning modes.TexText) (stop + 1);
            answers = all;
            begins = omega arith;
            order = c.0;
            within = c.1;
            goes_on = inr refl;
          }
      by None k =
          let size = length text in
          let start = place + 1 in
          let finish = token_of false kinds.InnerText size 0 [] in
          let is : here ≡ inner_begin false (tex_inner []) place (byte ∷ behind) = grind (
            arith,
            nat_tests,
            here-is,
            tex_inner,
          ) in
          let one : (place + 1) + 0 ≡ start = omega arith in
          let begun : tex_at text place ≡ Begin opening ∷ answers_at text (tex_inner []) start = grind (
            arith,
            nat_tests,
            goes,
            drop-here,
            tex_inner,
          ) in
          let uncut : begins_section_in (answers_at text (tex_inner []) start) ≡ false =
          ap begins_section_in (sym begun) ∙ opens-uncut [] (tex_at text place) quiet in
          let inside = to-end size (drop start text) [] (fresh_at text start) (last_at text start) start 0
          (omega (arith, length-drop start text, within)) k uncut in
          let all : tex_at text place ≡ Begin opening ∷ (tokens_of text start size modes.Inner ++ Finish finish
          ∷ Note notes.BarMissing (size - 1) ∷ []) =
          begun ∙ ap (λ l. Begin opening ∷ l) inside ∙ ap (λ l. Begin opening ∷ (l ++ inner_cut false size (size - 1)))
          (ends-with-text text start modes.Inner) in
          let c = covered finish (Note notes.BarMissing (size - 1) ∷ []) size all in
          record {
            token = opening;
            finish = finish;
            rest = Note notes.BarMissing (size - 1) ∷ [];
            answers = all;
            begins = omega arith;
            order = c.0;
            within = c.1;
            goes_on = inl refl;
          }

  step : GoesOn text place ⊎ HoldsInner text place
  step = by (byte == at_sign) refl (byte == bar) refl
    where
      by : (a : Bool) → (byte == at_sign) ≡ a → (c : Bool) → (byte == bar) ≡ c
          → GoesOn text place ⊎ HoldsInner text place
      by true e c k = inl (code-goes e)
      by false e true k = inr (bar-holds k)
      by false e false k = inl (token-goes (plain kinds.Text (run classes.TexText (byte ∷ behind))) (here-is
          ∙ (λ i. if e i then tex_by (effect_in_tex (code_at behind)) (code_at behind) tex place (byte ∷ behind) else if
          k i then inner_begin false (moved tex parts.TexInner) place (byte ∷ behind) else one false tex place
          (byte ∷ behind) (plain kinds.Text (run classes.TexText (byte ∷ behind))))) (λ h. absurd cc))

pub tex-texts-go-on : (text : List ℕ) (place : ℕ) → place < length text → opens_part_in (tex_at text place) ≡ false
    → GoesOn text place ⊎ HoldsInner text place
tex-texts-go-on text place within quiet = step text place within quiet
