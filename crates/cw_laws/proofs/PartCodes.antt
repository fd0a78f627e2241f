-- The definitions and the C part of a section begin with codes of theirs, where they aren't empty.
use Rattle.std.proofs.Common.{◌≡◌, ℕ, Bool, true, false, ◌||◌, not, List, [], ◌∷◌, Some, None, refl, sym, ap, subst}
use Rattle.std.proofs.Common.{◌∙◌, inl, if◌then◌else◌, arith}
use Rattle.std.proofs.lemmas.Bool.Decides.{nat_tests}
use Rattle.cw_base.proofs.TestLaws.{both}
use Rattle.cw_rules.specs.declared.codes.Code.{Code}
use Rattle.cw_rules.specs.declared.tokens.Mode.TheVariants as modes
use Rattle.cw_rules.specs.Answers.{Answer, Token, Begin, Finish, Note, Seen, has_sign}
use Rattle.cw_rules.proofs.CodeStarts.{kind_code}
use Rattle.cw_secnames.specs.Kept.{SecName}
use Rattle.cw_phase1.specs.declared.roles.Part.{Part}
use Rattle.cw_phase1.specs.declared.roles.Part.TheVariants as parts
use Rattle.cw_phase1.specs.declared.roles.Standing.{Standing}
use Rattle.cw_phase1.specs.Entering.{kept_behind}
use Rattle.cw_phase1.specs.Roles.{defining, token_step, behind_begin, placed_from}
use Rattle.cw_phase1.specs.Sections.{span, is_section_code, is_tex, is_program, ends_section, ends_definitions}
use Rattle.cw_phase1.specs.Sections.{ends_tex, first_start}
use Rattle.cw_phase1.proofs.PartEnds.{Ending, EndsBy, AtSection, AtDefinitions, AtCPart, Nowhere, ends-so, section-role}
use Rattle.cw_phase1.proofs.PartEnds.{plain-role, plain-part}
use Rattle.cw_laws.specs.Pieces.{BeginsBy, opens_definitions, opens_c_part}
use Rattle.cw_laws.proofs.Openers.{CodeStands, AreOpeners, definition-code, program-code}

-- the code of a token of that kind stands where a part begins
stands : (text : List ℕ) (opens : Code → Bool) (t : Seen) (end : ℕ) → CodeStands text t
    → opens (kind_code t.kind) ≡ true → BeginsBy text opens (span t.span.start end)
stands text opens t end s h = grind (arith, nat_tests, both)

abbrev at_test : Bool → ℕ → ℕ → ℕ
at_test passes here later = if passes then here else later

-- the parts before a C part
abbrev pub IsBefore : Part → Type 0
IsBefore parts.Tex = Unit {0}
IsBefore parts.Definitions = Unit {0}
IsBefore part = ⊥

defining-is : (part : Part) → IsBefore part → defining part ≡ parts.Definitions
defining-is part h = grind (arith, nat_tests)

no-program : (part : Part) → IsBefore part → is_program part ≡ false
no-program part h = grind (arith, nat_tests)

module _ (text : List ℕ) (size : ℕ) where
  -- ## Definitions

  abbrev DefinitionsAt : Bool → Part → ℕ → ℕ → ℕ → Type 0
  DefinitionsAt code part here tex definitions = BeginsBy text opens_definitions
      (span (at_test (code || not (is_tex part)) here tex) (at_test (code || is_program part) here definitions))

  pub definitions-begin : (s : Standing) (kept : List SecName) (answers : List Answer) → s.part ≡ parts.Tex
      → AreOpeners text answers → BeginsBy text opens_definitions (span (first_start ends_tex size
      (placed_from s kept answers)) (first_start ends_definitions size (placed_from s kept answers)))
  definitions-begin s kept [] e o = inl refl
  definitions-begin s kept (Token t ∷ answers) e o =
      let so = ends-so t.kind (has_sign answers) in
      by so.how so.so (λ k. definitions-begin (token_step t.kind (has_sign answers) s t.span).next (kept_behind t kept)
      answers k o.1)
    where
      next : Standing
      next = (token_step t.kind (has_sign answers) s t.span).next

      code : Bool
      code = is_section_code (token_step t.kind (has_sign answers) s t.span).role

      tex : ℕ
      tex = first_start ends_tex size (placed_from next (kept_behind t kept) answers)

      definitions : ℕ
      definitions = first_start ends_definitions size (placed_from next (kept_behind t kept) answers)

      as-part : (part : Part) → code ≡ false → next.part ≡ part → DefinitionsAt false part t.span.start tex definitions
          → DefinitionsAt code next.part t.span.start tex definitions
      as-part part c p h = subst (λ c. DefinitionsAt c next.part t.span.start tex definitions) (sym c)
          (subst (λ part. DefinitionsAt false part t.span.start tex definitions) (sym p) h)

      by : (how : Ending) → EndsBy t.kind (has_sign answers) how → (next.part ≡ parts.Tex → BeginsBy text
          opens_definitions (span tex definitions)) → DefinitionsAt code next.part t.span.start tex definitions
      by AtSection h rec = subst (λ c. DefinitionsAt c next.part t.span.start tex definitions)
          (sym (section-role s t answers h)) (inl refl)
      by AtDefinitions h rec =
          let is = definition-code t.kind (has_sign answers) h.1 in
          as-part parts.Definitions (plain-role s t answers h.0)
          (plain-part s t answers (Some modes.Definition) h.0 h.1 ∙ ap defining e)
          (stands text opens_definitions t definitions (o.0 is.0) is.1)
      by AtCPart h rec = as-part parts.Program (plain-role s t answers h.0)
          (plain-part s t answers (Some modes.CPart) h.0 h.1) (inl refl)
      by Nowhere h rec =
          let same = plain-part s t answers None h.0 h.1 ∙ e in
          as-part parts.Tex (plain-role s t answers h.0) same (rec same)
  definitions-begin s kept (Begin t ∷ answers) e o = definitions-begin (behind_begin s) kept answers e o
  definitions-begin s kept (Finish t ∷ answers) e o = definitions-begin s kept answers e o
  definitions-begin s kept (Note kind place ∷ answers) e o = definitions-begin s kept answers e o

  -- ## C parts

  abbrev ProgramAt : Bool → Bool → ℕ → ℕ → ℕ → Type 0
  ProgramAt code program here definitions end =
      BeginsBy text opens_c_part (span (at_test (code || program) here definitions) (at_test code here end))

  pub c-part-begins : (s : Standing) (kept : List SecName) (answers : List Answer) → IsBefore s.part
      → AreOpeners text answers → BeginsBy text opens_c_part (span (first_start ends_definitions size
      (placed_from s kept answers)) (first_start ends_section size (placed_from s kept answers)))
  c-part-begins s kept [] e o = inl refl
  c-part-begins s kept (Token t ∷ answers) e o =
      let so = ends-so t.kind (has_sign answers) in
      by so.how so.so (λ k. c-part-begins (token_step t.kind (has_sign answers) s t.span).next (kept_behind t kept)
      answers k o.1)
    where
      next : Standing
      next = (token_step t.kind (has_sign answers) s t.span).next

      code : Bool
      code = is_section_code (token_step t.kind (has_sign answers) s t.span).role

      definitions : ℕ
      definitions = first_start ends_definitions size (placed_from next (kept_behind t kept) answers)

      end : ℕ
      end = first_start ends_section size (placed_from next (kept_behind t kept) answers)

      as-part : (program : Bool) → code ≡ false → is_program next.part ≡ program → ProgramAt false program t.span.start
          definitions end → ProgramAt code (is_program next.part) t.span.start definitions end
      as-part program c p h = subst (λ c. ProgramAt c (is_program next.part) t.span.start definitions end) (sym c)
          (subst (λ program. ProgramAt false program t.span.start definitions end) (sym p) h)

      by : (how : Ending) → EndsBy t.kind (has_sign answers) how → (IsBefore next.part → BeginsBy text opens_c_part
          (span definitions end)) → ProgramAt code (is_program next.part) t.span.start definitions end
      by AtSection h rec = subst (λ c. ProgramAt c (is_program next.part) t.span.start definitions end)
          (sym (section-role s t answers h)) (inl refl)
      by AtDefinitions h rec =
          let is : next.part ≡ parts.Definitions =
          plain-part s t answers (Some modes.Definition) h.0 h.1 ∙ defining-is s.part e in
          as-part false (plain-role s t answers h.0) (ap is_program is) (rec (subst IsBefore (sym is) tt))
      by AtCPart h rec =
          let is = program-code t.kind (has_sign answers) h.1 in
          as-part true (plain-role s t answers h.0)
          (ap is_program (plain-part s t answers (Some modes.CPart) h.0 h.1))
          (stands text opens_c_part t end (o.0 is.0) is.1)
      by Nowhere h rec =
          let same : next.part ≡ s.part = plain-part s t answers None h.0 h.1 in
          as-part false (plain-role s t answers h.0) (ap is_program same ∙ no-program s.part e)
          (rec (subst IsBefore (sym same) e))
  c-part-begins s kept (Begin t ∷ answers) e o = c-part-begins (behind_begin s) kept answers e o
  c-part-begins s kept (Finish t ∷ answers) e o = c-part-begins s kept answers e o
  c-part-begins s kept (Note kind place ∷ answers) e o = c-part-begins s kept answers e o
