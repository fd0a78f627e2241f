-- The definitions of a whole part are whole.
use Rattle.cw_texts.proofs.Terms.{◌≡◌, ℕ, ◌≤◌, Bool, false, List, [], ◌∷◌, ◌++◌, Option, Some, None, All, length, take}
use Rattle.cw_texts.proofs.Terms.{refl, sym, ap, subst, ◌∙◌, arith, append_assoc, ◌⊎◌, inl, inr, take_all, take-take}
use Rattle.cw_texts.proofs.Terms.{length-take, All-nil, All-cons, All-weaker, answers_at, tokens_of, beginning as begun}
use Rattle.cw_texts.proofs.Terms.{Definition, begun_by, next_begin, ended_at, with_begun, definitions_of}
use Rattle.cw_texts.proofs.Terms.{DefinitionsAreWhole, RestsAreWhole, IsWholeDefinition}
use Rattle.cw_phase1.proofs.PartEnds.{uncut-before}
use Rattle.cw_rules.specs.{declared.codes.Code.Code, declared.tokens.TokKind.TokKind, Order.AreWithin}
use Rattle.cw_rules.specs.Answers.{Answer, Token, Begin, Finish, Note, has_sign}
use Rattle.cw_lex.specs.{Nested.begins_section_in, Openings.opened_by, Openings.TextsEndAtOpenings}
use Rattle.cw_lex.proofs.{TokensWithin.tokens-within, Openings.uncut-right}
use Rattle.cw_texts.specs.{declared.definitions.OpenDefinition.OpenDefinition, Scans.scanned}
use Rattle.cw_rules.specs.declared.tokens.Mode.TheVariants as modes
use Rattle.cw_rules.specs.declared.tokens.TokKind.TheVariants as kinds

-- ## Section codes among answers

uncut-left : (xs ys : List Answer) → begins_section_in (xs ++ ys) ≡ false → begins_section_in xs ≡ false
uncut-left [] ys h = refl
uncut-left (x ∷ xs) ys h = grind (arith, uncut-left xs ys)

-- ## Where a definition begins

-- A token begins a definition, or none.
record Begins (kind : TokKind) (start : ℕ) (b : OpenDefinition) : Type 0 where
  at : b.start ≡ start
  opened : (headed : Bool) → opened_by kind headed ≡ Some modes.Definition

record Told (kind : TokKind) (start : ℕ) : Type 0 where
  so : (begun_by kind start ≡ None) ⊎ ((b : OpenDefinition) × (begun_by kind start ≡ Some b) × Begins kind start b)

told-code : (code : Code) (start : ℕ) → Told (kinds.Code code) start
told-code code start = grind arith

told : (kind : TokKind) (start : ℕ) → Told kind start
told kind start = grind (arith, told-code)

-- ## The definitions of a text

-- A definition in a text, no section code in it.
record IsGood (text : List ℕ) (start end : ℕ) : Type 0 where
  order : start ≤ end
  within : end ≤ length text
  uncut : begins_section_in (tokens_of text start end modes.Definition) ≡ false

abbrev IsGoodDefinition : List ℕ → Definition → Type 0
IsGoodDefinition text d = IsGood text d.span.start d.span.«end»

-- where a token begins no definition, and where one does
abbrev next_by : ℕ → Option OpenDefinition → List Answer → ℕ
next_by size b ys = next_begin size (with_begun b size (definitions_of size ys))

module _ (openings : TextsEndAtOpenings) (text : List ℕ) where
  abbrev scan : ℕ → List Answer
  scan start = answers_at text (begun modes.Definition) start

  -- the text up to the next definition, or to the end
  up-to-next : (start : ℕ) (xs ys : List Answer) → start ≤ length text → scan start ≡ xs ++ ys →
      begins_section_in (xs ++ ys) ≡ false → AreWithin 0 (length text) ys
      → IsGood text start (next_begin (length text) (definitions_of (length text) ys))
  up-to-next start xs [] l e h a = grind (arith, take_all)
  up-to-next start xs (Token t ∷ ys) l e h a = by (told t.kind t.span.start).so
      (up-to-next start (xs ++ Token t ∷ []) ys l (e ∙ sym (append_assoc xs (Token t ∷ []) ys))
      (ap begins_section_in (append_assoc xs (Token t ∷ []) ys) ∙ h) a.1)
    where
      by : (begun_by t.kind t.span.start ≡ None) ⊎ ((b : OpenDefinition) × (begun_by t.kind t.span.start
          ≡ Some b) × Begins
          t.kind t.span.start b) → IsGood text start (next_begin (length text) (definitions_of (length text) ys))
          → IsGood text start (next_by (length text) (begun_by t.kind t.span.start) ys)
      by (inl none) rec = subst (λ (o : Option OpenDefinition). IsGood text start (next_by (length text) o ys))
          (sym none) rec
      by (inr some) rec =
          let law = openings text start modes.Definition modes.Definition xs t ys refl e
          (some.2.opened (has_sign ys)) in
          subst (λ (o : Option OpenDefinition). IsGood text start (next_by (length text) o ys)) (sym some.1)
          (subst (λ n. IsGood text start n) (sym some.2.at)
          (record {
            order = law.0.order;
            within = omega (arith, a.0.1, a.0.2);
            uncut = uncut-before text start modes.Definition xs t law.0 (uncut-left xs (Token t ∷ ys) h);
          }))
  up-to-next start xs (Begin t ∷ ys) l e h a = up-to-next start (xs ++ Begin t ∷ []) ys l
      (e ∙ sym (append_assoc xs (Begin t ∷ []) ys)) (ap begins_section_in (append_assoc xs (Begin t ∷ []) ys) ∙ h) a.1
  up-to-next start xs (Finish t ∷ ys) l e h a = up-to-next start (xs ++ Finish t ∷ []) ys l
      (e ∙ sym (append_assoc xs (Finish t ∷ []) ys)) (ap begins_section_in (append_assoc xs (Finish t ∷ []) ys) ∙ h) a.1
  up-to-next start xs (Note kind place ∷ ys) l e h a = up-to-next start (xs ++ Note kind place ∷ []) ys l
      (e ∙ sym (append_assoc xs (Note kind place ∷ []) ys)) (ap begins_section_in (append_assoc xs (Note kind place ∷
      []) ys) ∙ h) a

  each : (start : ℕ) (xs ys : List Answer) → scan start ≡ xs ++ ys → begins_section_in (xs ++ ys) ≡ false →
      AreWithin 0 (length text) ys → All (IsGoodDefinition text) (definitions_of (length text) ys)
  each start xs [] e h a = All-nil (IsGoodDefinition text)
  each start xs (Token t ∷ ys) e h a = by (told t.kind t.span.start).so (each start (xs ++ Token t ∷ []) ys (e
      ∙ sym (append_assoc xs (Token t ∷ []) ys)) (ap begins_section_in (append_assoc xs (Token t ∷ []) ys) ∙ h) a.1)
    where
      by : (begun_by t.kind t.span.start ≡ None) ⊎ ((b : OpenDefinition) × (begun_by t.kind t.span.start
          ≡ Some b) × Begins
          t.kind t.span.start b) → All (IsGoodDefinition text) (definitions_of (length text) ys) → All (IsGoodDefinition
          text) (with_begun (begun_by t.kind t.span.start) (length text) (definitions_of (length text) ys))
      by (inl none) rec = subst (λ (o : Option OpenDefinition). All (IsGoodDefinition text)
          (with_begun o (length text) (definitions_of (length text) ys))) (sym none) rec
      by (inr some) rec =
          let b = some.0 in
          let law = openings text start modes.Definition modes.Definition xs t ys refl e
          (some.2.opened (has_sign ys)) in
          let d = ended_at (next_begin (length text) (definitions_of (length text) ys)) b in
          let good = up-to-next t.span.start (Token t ∷ []) ys (omega (arith, a.0.1, a.0.2)) (sym law.1)
          (uncut-right xs (Token t ∷ ys) h) a.1 in
          subst (λ (o : Option OpenDefinition). All (IsGoodDefinition text)
          (with_begun o (length text) (definitions_of (length text) ys))) (sym some.1)
          (All-cons (IsGoodDefinition text) d (definitions_of (length text) ys)
          (subst (λ n. IsGood text n (next_begin (length text) (definitions_of (length text) ys))) (sym some.2.at)
          good) rec)
  each start xs (Begin t ∷ ys) e h a = each start (xs ++ Begin t ∷ []) ys (e ∙ sym (append_assoc xs (Begin t ∷ []) ys))
      (ap begins_section_in (append_assoc xs (Begin t ∷ []) ys) ∙ h) a.1
  each start xs (Finish t ∷ ys) e h a = each start (xs ++ Finish t ∷ []) ys (e
      ∙ sym (append_assoc xs (Finish t ∷ []) ys)) (ap begins_section_in (append_assoc xs (Finish t ∷ []) ys) ∙ h) a.1
  each start xs (Note kind place ∷ ys) e h a = each start (xs ++ Note kind place ∷ []) ys (e ∙ sym (append_assoc xs
      (Note kind place ∷ []) ys)) (ap begins_section_in (append_assoc xs (Note kind place ∷ []) ys) ∙ h) a

-- the spans of answers are within a wider stretch
wider : (low from to : ℕ) (answers : List Answer) → low ≤ from → AreWithin from to answers → AreWithin low to answers
wider low from to [] l a = tt
wider low from to (Token t ∷ answers) l a = ((omega (arith, a.0.0), a.0.1, a.0.2), wider low from to answers l a.1)
wider low from to (Begin t ∷ answers) l a = ((omega (arith, a.0.0), a.0.1, a.0.2), wider low from to answers l a.1)
wider low from to (Finish t ∷ answers) l a = ((omega (arith, a.0.0), a.0.1, a.0.2), wider low from to answers l a.1)
wider low from to (Note kind place ∷ answers) l a = wider low from to answers l a

-- a part of the text's beginning is a part of the text
in-text : (text : List ℕ) (end : ℕ) (d : Definition) → end ≤ length text → IsGoodDefinition (take end text) d →
    IsWholeDefinition text d
in-text text end d l g = grind (arith, length-take, take-take)

pub definitions-whole : TextsEndAtOpenings → DefinitionsAreWhole
definitions-whole openings text part w =
    let end = part.«end» in
    let cut = take end text in
    let size : length cut ≡ end = omega (arith, length-take end text, w.within) in
    let answers = scanned modes.Definition text part in
    let within : AreWithin 0 (length cut) answers = subst (λ n. AreWithin 0 n answers) (sym size) (wider 0 part.start
    end answers (omega arith) (tokens-within text part.start end modes.Definition w.order w.within)) in
    let good = each openings cut part.start [] answers refl w.uncut within in
    subst (λ n. All (IsWholeDefinition text) (definitions_of n answers)) size (All-weaker (IsGoodDefinition cut)
    (IsWholeDefinition text) (λ d g. in-text text end d w.within g) (definitions_of (length cut) answers) good)

pub rests-whole : TextsEndAtOpenings → RestsAreWhole
rests-whole openings text section w = grind (arith, each, definitions-whole)
