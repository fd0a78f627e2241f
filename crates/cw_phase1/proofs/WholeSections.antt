-- The parts of a section are whole.
use Rattle.cw_phase1.proofs.Terms.{◌≡◌, ℕ, Bool, true, false, not, List, [], ◌∷◌, ◌++◌, Some, All, length, drop, take}
use Rattle.cw_phase1.proofs.Terms.{refl, sym, ap, subst, ◌∙◌, arith, append_assoc, ◌⊎◌, inl, inr, if◌then◌else◌}
use Rattle.cw_phase1.proofs.Terms.{take_all, drop_all, length-take, All-nil, one-right, not-both, or-false, one-left}
use Rattle.cw_phase1.proofs.Terms.{MergedLine, text_of, Mode, Answer, Token, Begin, Finish, Note, Seen, has_sign}
use Rattle.cw_phase1.proofs.Terms.{answers_at, beginning, tokens_of, is_section_kind, SecName, Part, Standing, Section}
use Rattle.cw_phase1.proofs.Terms.{answers_of, kept_behind, Placement, at_limbo, token_step, placed, placed_from, span}
use Rattle.cw_phase1.proofs.Terms.{is_section_code, is_tex, is_program, ends_section, ends_definitions, ends_tex}
use Rattle.cw_phase1.proofs.Terms.{first_start, section_at, sections_of}
use Rattle.cw_lex.specs.Openings.{opens_part_in, TextsEndAtOpenings, TextsEndAtSections}
use Rattle.cw_lex.proofs.{Covering.tokens-cover, TexTexts.opens-uncut}
use Rattle.cw_phase1.specs.Whole.{IsUncut, SectionsAreWhole}
use Rattle.cw_phase1.proofs.PartEnds.{first-none, first-behind, first-token, none-stricter, uncut-before, alone-before}
use Rattle.cw_phase1.proofs.PartEnds.{tex-opens, ends, token_placed, Ended, Stopped, stop, AtSection, AtDefinitions}
use Rattle.cw_phase1.proofs.PartEnds.{AtCPart, Nowhere, Ending, EndsBy, ends-so, section-role, section-part, plain-role}
use Rattle.cw_phase1.proofs.PartEnds.{plain-part}
use Rattle.cw_phase1.proofs.SpanLaws.{follows, all-lie}
use Rattle.cw_rules.specs.declared.tokens.Mode.TheVariants as modes
use Rattle.cw_phase1.specs.declared.roles.Part.TheVariants as parts

-- ## Parts that are empty, and the last one

empty : (text : List ℕ) (p : ℕ) → drop p (take p text) ≡ []
empty text p = drop_all p (take p text) (omega (arith, length-take p text))

empty-program : (text : List ℕ) (p : ℕ) → IsUncut text modes.CPart (span p p)
empty-program text p = grind (arith, empty)

-- ## The tests of the parts

abbrev not_program : Part → Bool
not_program part = not (is_program part)

abbrev any_part : Part → Bool
any_part part = true

-- a section code passes each test
code-passes : (good : Part → Bool) (p : Placement) → is_section_code p.role ≡ true → ends good p ≡ true
code-passes good p h = one-left (is_section_code p.role) (not (good p.part)) h

not-not : (b : Bool) → not (not b) ≡ b
not-not b = grind arith

section-by : (p : Placement) → ends any_part p ≡ ends_section p
section-by p = or-false (is_section_code p.role)

-- the test of an earlier part is the weaker one
definitions-tex : (p : Placement) → ends_definitions p ≡ true → ends is_tex p ≡ true
definitions-tex p h = grind arith

section-tex : (p : Placement) → ends_section p ≡ true → ends is_tex p ≡ true
section-tex p h = code-passes is_tex p h

section-definitions : (p : Placement) → ends_section p ≡ true → ends not_program p ≡ true
section-definitions p h = code-passes not_program p h

definitions-not : (p : Placement) → ends_definitions p ≡ true → ends not_program p ≡ true
definitions-not p h = (grind (arith, not-not)) ∙ h

module _ (sections : TextsEndAtSections) (openings : TextsEndAtOpenings) (text : List ℕ) where
  abbrev size : ℕ
  size = length text

  -- ## C parts

  abbrev tokens_at : Mode → ℕ → Standing → List SecName → List Placement
  tokens_at mode start s kept = placed_from s kept (answers_at text (beginning mode) start)

  -- where a C part ends with a token
  c-part-at : (start : ℕ) (s : Standing) (kept : List SecName)
      → Stopped any_part s kept (answers_at text (beginning modes.CPart) start)
      → IsUncut text modes.CPart (span start (first_start ends_section size (tokens_at modes.CPart start s kept)))
  c-part-at start s kept r =
      let ps = tokens_at modes.CPart start s kept in
      let p = token_placed any_part r.standing r.names r.token r.behind in
      let at : first_start ends_section size ps ≡ r.token.span.start = ap (first_start ends_section size)
      r.placed ∙ first-behind ends_section size r.front (placed_from r.standing r.names (Token r.token ∷ r.behind))
      (none-stricter (ends any_part) ends_section r.front (λ p h. section-by p ∙ h) r.none)
      ∙ first-token any_part ends_section size r.standing r.names r.token r.behind (sym (section-by p) ∙ r.passes) in
      let law = sections text start modes.CPart
      r.before r.token r.behind r.split (grind (arith, section-by, token_placed, section-role, plain-role)) in
      subst (λ n. IsUncut text modes.CPart (span start n))
      (sym at) (uncut-before text start modes.CPart r.before r.token law.0 r.uncut)

  c-part : (start : ℕ) (s : Standing) (kept : List SecName)
      → IsUncut text modes.CPart (span start (first_start ends_section size (tokens_at modes.CPart start s kept)))
  c-part start s kept = by (stop any_part s kept (answers_at text (beginning modes.CPart) start) refl)
    where
      by : Ended any_part s kept (answers_at text (beginning modes.CPart) start)
          ⊎ Stopped any_part s kept (answers_at text (beginning modes.CPart) start)
          → IsUncut text modes.CPart (span start (first_start ends_section size (tokens_at modes.CPart start s kept)))
      by (inl e) =
          let ps = tokens_at modes.CPart start s kept in
          let none = first-none ends_section size ps (grind (arith, none-stricter, ends, section-by)) in
          subst (λ n. IsUncut text modes.CPart (span start n)) (sym none) (grind (arith, take_all))
      by (inr r) = c-part-at start s kept r

  -- ## Definitions

  -- definitions from a place on, and the C part behind them
  record Defined (start : ℕ) (ps : List Placement) : Type 0 where
    definitions : IsUncut text modes.Definition (span start (first_start ends_definitions size ps))
    c_part : IsUncut text modes.CPart (span (first_start ends_definitions size ps) (first_start ends_section size ps))

  -- where definitions end with a token, and what follows it
  defined-at : (start : ℕ) (s : Standing) (kept : List SecName)
      (r : Stopped not_program s kept (answers_at text (beginning modes.Definition) start)) (how : Ending)
      → EndsBy r.token.kind (has_sign r.behind) how → Defined start (tokens_at modes.Definition start s kept)
  defined-at start s kept r AtSection h =
      let ps = tokens_at modes.Definition _ s kept in
      let p = token_placed not_program r.standing r.names r.token r.behind in
      let code = section-role _ r.token r.behind h in
      let to : first_start ends_definitions size ps
      ≡ r.token.span.start = grind (arith, first-behind, none-stricter, ends, definitions-not, first-token, one-left) in
      let end : first_start ends_section size ps ≡ r.token.span.start = ap (first_start ends_section size) r.placed
      ∙ first-behind ends_section size r.front _ (none-stricter (ends not_program) _ r.front section-definitions r.none)
      ∙ first-token not_program ends_section size r.standing r.names r.token r.behind code in
      let law = sections text start _ r.before r.token _ r.split h in
      record {
        definitions = subst (λ n. IsUncut text modes.Definition (span start n))
            (sym to) (uncut-before text _ modes.Definition r.before r.token law.0 r.uncut);
        c_part = grind (arith, empty-program);
      }
  defined-at start s kept r AtCPart h =
      let ps = tokens_at modes.Definition start s kept in
      let p = token_placed not_program r.standing r.names r.token r.behind in
      let code = plain-role r.standing r.token r.behind h.0 in
      let part = plain-part _ r.token r.behind _ h.0 h.1 in
      let to = ap (first_start ends_definitions size) r.placed ∙ first-behind ends_definitions size r.front (placed_from
      _ r.names (Token r.token ∷ r.behind)) (none-stricter _ _ r.front definitions-not r.none) ∙ first-token
      not_program ends_definitions size r.standing r.names r.token r.behind (one-right _ _ (ap is_program part)) in
      let law = openings text _ modes.Definition modes.CPart r.before r.token r.behind refl r.split h.1 in
      let end = ap (first_start ends_section size) r.placed
      ∙ first-behind ends_section size r.front _ (none-stricter _ ends_section r.front section-definitions r.none)
      ∙ ap (λ l. first_start ends_section size (placed_from r.standing r.names l)) law.1 in
      record {
        definitions = subst (λ n. IsUncut text modes.Definition (span start n))
            (sym to) (uncut-before text _ _ r.before _ law.0 r.uncut);
        c_part = subst (λ n. IsUncut text modes.CPart (span n (first_start ends_section size ps))) (sym to) (subst (λ n.
            IsUncut text modes.CPart (span r.token.span.start n)) (sym end) (c-part r.token.span.start _ r.names));
      }
  defined-at start s kept r AtDefinitions h = grind (arith, token_placed, plain-role, plain-part, not-both)
  defined-at start s kept r Nowhere h = grind (arith, plain-role, plain-part, not-both)

  defined : (start : ℕ) (s : Standing) (kept : List SecName) → not_program s.part ≡ true
      → Defined start (tokens_at modes.Definition start s kept)
  defined start s kept g = by (stop not_program s kept (answers_at text (beginning modes.Definition) start) g)
    where
      by : Ended not_program s kept (answers_at text (beginning modes.Definition) start) ⊎ Stopped not_program s kept
          (answers_at text (beginning modes.Definition) start) → Defined start (tokens_at modes.Definition start s kept)
      by (inl e) =
          let ps = tokens_at modes.Definition start s kept in
          let to = first-none _ size ps (grind (arith, none-stricter, ends, definitions-not)) in
          let end = first-none ends_section size ps (grind (arith, none-stricter, ends, section-definitions)) in
          record {
            definitions = subst (λ n. IsUncut text modes.Definition (span start n)) (sym to) (grind (arith, take_all));
            c_part = grind (arith, empty-program);
          }
      by (inr r) = let e = ends-so r.token.kind (has_sign r.behind) in defined-at start s kept r e.how e.so

  -- ## TeX text, and the parts behind it

  abbrev Alone : ℕ → ℕ → Type 0
  Alone start end = opens_part_in (tokens_of text start end modes.TexText) ≡ false

  record Told (start : ℕ) (ps : List Placement) : Type 0 where
    tex : Alone start (first_start ends_tex size ps)
    definitions : IsUncut text modes.Definition (span (first_start ends_tex size ps)
        (first_start ends_definitions size ps))
    c_part : IsUncut text modes.CPart (span (first_start ends_definitions size ps) (first_start ends_section size ps))

  told-by : (start to middle end : ℕ) (ps : List Placement) → first_start ends_tex size ps ≡ to
      → first_start ends_definitions size ps ≡ middle → first_start ends_section size ps ≡ end → Alone start to
      → IsUncut text modes.Definition (span to middle) → IsUncut text modes.CPart (span middle end) → Told start ps
  told-by start to middle end ps a b c t d p = record { tex = subst (Alone _) (sym a) t; definitions = cc; c_part = cc }

  told-at : (start : ℕ) (s : Standing) (kept : List SecName)
      (r : Stopped is_tex s kept (answers_at text (beginning modes.TexText) start)) (how : Ending)
      → EndsBy r.token.kind (has_sign r.behind) how → Told start (tokens_at modes.TexText start s kept)
  told-at start s kept r AtSection h =
      let ps = tokens_at modes.TexText start s kept in
      let p = token_placed is_tex r.standing r.names r.token r.behind in
      let code = section-role r.standing r.token r.behind h in
      let at = r.token.span.start in
      let law = sections text start modes.TexText r.before r.token r.behind r.split h in
      told-by start at at at ps (grind (arith, first-behind, first-token)) (grind (
        arith,
        first-behind,
        none-stricter,
        ends,
        definitions-tex,
        first-token,
        one-left,
      )) (grind (
        arith,
        first-behind,
        none-stricter,
        ends,
        section-tex,
        first-token,
      )) (alone-before text start modes.TexText r.before r.token (Token r.token ∷ r.behind) law.0
      (tex-opens (Token r.token ∷ r.behind) r.before r.keeps)) (grind (arith, empty)) (empty-program text at)
  told-at start s kept r AtDefinitions h =
      let ps = tokens_at modes.TexText start s kept in
      let p = token_placed is_tex r.standing r.names r.token r.behind in
      let at = r.token.span.start in
      let law = openings text start modes.TexText modes.Definition r.before r.token r.behind refl r.split h.1 in
      let rest = tokens_at modes.Definition at r.standing r.names in
      let d = defined at r.standing r.names (tex-no-program r.standing.part r.part) in
      told-by start at (first_start ends_definitions size rest) (first_start ends_section size rest)
      ps (grind (arith, first-behind, first-token)) (grind (arith, first-behind, none-stricter, ends, definitions-tex))
      (grind (arith, first-behind, none-stricter, ends, section-tex)) (alone-before text start
      modes.TexText r.before r.token (Token r.token ∷ r.behind) law.0 (grind (arith, tex-opens))) d.definitions d.c_part
    where
      tex-no-program : (part : Part) → is_tex part ≡ true → not_program part ≡ true
      tex-no-program parts.Tex h = refl
      tex-no-program _ h = absurd cc
  told-at start s kept r AtCPart h =
      let ps = tokens_at modes.TexText start s kept in
      let p = token_placed is_tex r.standing r.names r.token r.behind in
      let at = r.token.span.start in
      let part = plain-part r.standing r.token r.behind (Some modes.CPart) h.0 h.1 in
      let law = openings text start modes.TexText modes.CPart r.before r.token r.behind refl r.split h.1 in
      let rest = tokens_at modes.CPart at r.standing r.names in
      told-by start at at (first_start ends_section size rest) ps (grind (arith, first-behind, first-token))
      (grind (arith, first-behind, none-stricter, ends, definitions-tex, first-token, one-right))
      (grind (arith, first-behind, none-stricter, ends, section-tex))
      (alone-before text start modes.TexText r.before r.token (Token r.token ∷ r.behind) law.0
      (tex-opens (Token r.token ∷ r.behind) r.before r.keeps)) (grind (arith, empty)) (c-part at r.standing r.names)
  told-at start s kept r Nowhere h = grind (arith, plain-role, plain-part, not-both)

  told : (start : ℕ) (s : Standing) (kept : List SecName) → is_tex s.part ≡ true
      → Told start (tokens_at modes.TexText start s kept)
  told start s kept g = by (stop is_tex s kept (answers_at text (beginning modes.TexText) start) g)
    where
      by : Ended is_tex s kept (answers_at text (beginning modes.TexText) start) ⊎ Stopped is_tex s kept
          (answers_at text (beginning modes.TexText) start) → Told start (tokens_at modes.TexText start s kept)
      by (inl e) =
          let ps = tokens_at modes.TexText _ s kept in
          told-by _ size size size ps (first-none _ size ps e.none)
          (first-none _ size ps (none-stricter _ _ ps definitions-tex e.none)) (first-none _ size ps (none-stricter _ _
          ps section-tex e.none)) (grind (arith, take_all, tex-opens)) (grind (arith, empty)) (empty-program text size)
      by (inr r) = let e = ends-so r.token.kind (has_sign r.behind) in told-at start s kept r e.how e.so

  -- ## All sections

  record Uncut (s : Section) : Type 0 where
    tex : Alone s.tex.start s.tex.«end»
    definitions : IsUncut text modes.Definition s.definitions
    c_part : IsUncut text modes.CPart s.c_part

  sections-by : (b : Bool) (s : Section) (rest : List Section) → (b ≡ true → Uncut s) → All Uncut rest
      → All Uncut (if b then s ∷ rest else rest)
  sections-by b s rest h a = grind arith

  -- the section of a code among the answers of the whole text
  at-code : (lines : List MergedLine) (xs : List Answer) (t : Seen) (ys : List Answer) (s : Standing)
      (kept : List SecName) → answers_at text (beginning modes.Limbo) 0 ≡ xs ++ Token t ∷ ys
      → is_section_kind t.kind ≡ true → is_tex s.part ≡ true → Uncut (section_at lines size t (placed_from s kept ys))
  at-code lines xs t ys s kept e k g =
      let law = sections text 0 modes.Limbo xs t ys e k in
      subst (λ l. Uncut (section_at lines size t (placed_from s kept l))) (sym law.1)
      (let u = told t.span.end s kept g in record { tex = u.tex; definitions = u.definitions; c_part = u.c_part })

  all-uncut : (lines : List MergedLine) (xs ys : List Answer) (s : Standing) (kept : List SecName) → answers_at text
      (beginning modes.Limbo) 0 ≡ xs ++ ys → All Uncut (sections_of lines size (placed_from s kept ys))
  all-uncut lines xs [] s kept e = All-nil Uncut
  all-uncut lines xs (Token t ∷ ys) s kept e =
      let next = (token_step t.kind (has_sign ys) s t.span).next in
      sections-by (is_section_code (token_step t.kind (has_sign ys) s t.span).role) _ _ (λ code. begun code)
      (all-uncut lines (xs ++ Token t ∷ []) ys next (kept_behind t kept) (e ∙ sym (append_assoc xs (Token t ∷ []) ys)))
    where
      begun : is_section_code (token_step t.kind (has_sign ys) s t.span).role ≡ true → Uncut (section_at lines size t
          (placed_from (token_step t.kind (has_sign ys) s t.span).next (kept_behind t kept) ys))
      begun code = by (is_section_kind t.kind) refl
        where
          by : (b : Bool) → is_section_kind t.kind ≡ b → Uncut (section_at lines size t
              (placed_from (token_step t.kind (has_sign ys) s t.span).next (kept_behind t kept) ys))
          by true k = at-code lines xs t ys (token_step _ _ s _).next _ e k (ap is_tex (section-part s t ys k))
          by false k = not-both _ code (plain-role s t ys k)
  all-uncut lines xs (Begin t ∷ ys) s kept e = all-uncut lines _ ys _ kept (e ∙ sym (append_assoc xs (Begin t ∷ []) ys))
  all-uncut lines xs (Finish t ∷ ys) s kept e = all-uncut lines (xs ++ Finish t ∷ []) ys s kept (e
      ∙ sym (append_assoc xs (Finish t ∷ []) ys))
  all-uncut lines xs (Note kind place ∷ ys) s kept e = all-uncut lines (xs ++ Note kind place ∷ []) ys s kept (e
      ∙ sym (append_assoc xs (Note kind place ∷ []) ys))

pub sections-whole : TextsEndAtSections → TextsEndAtOpenings → SectionsAreWhole
sections-whole sections openings lines =
    let text = text_of lines in
    let scanned = answers_of lines in
    let all : answers_at text (beginning modes.Limbo) 0 ≡ scanned = grind (arith, take_all) in
    let lies = all-lie lines 0 (length text) (placed scanned) (follows text
    0 (length text) at_limbo [] scanned (tokens-cover text 0 (length text) modes.Limbo (omega arith) (omega arith))) in
    let uncut = all-uncut sections openings text lines [] scanned at_limbo [] all in
    grind (arith, opens-uncut)
