-- No section name stands before the first section code, so no section refers to one there.
use Rattle.cw_phase1.proofs.Terms.{◌≡◌, ℕ, ◌≤◌, Bool, false, List, [], ◌∷◌, refl, length, arith, MergedLine, Span}
use Rattle.cw_phase1.proofs.Terms.{not-both, Expectation, TokKind, Answer, Token, Begin, Finish, Note, HasNoNames}
use Rattle.cw_phase1.proofs.Terms.{is_section_kind, SecName, Standing, Placement, word_role, head_role, token_step}
use Rattle.cw_phase1.proofs.Terms.{behind_begin, placed_from, is_section_code, sections_of, references_of}
use Rattle.cw_phase1.proofs.RoleLaws.{is_name_role, count_by, codes, Numbered, Rise, sections_in, rise-reference, rise}
use Rattle.cw_phase1.proofs.RoleLaws.{section-count}

-- No section name stands before the first section code.
abbrev pub Unnamed : List Placement → Type 0
Unnamed [] = Unit {0}
Unnamed (p ∷ ps) = is_section_code p.role ≡ false → (is_name_role p.role ≡ false) × Unnamed ps

first-rise-by : (b : Bool) (high : ℕ) (p : Placement) (ps : List Placement) → is_section_code p.role
    ≡ b → Numbered 0 (p ∷ ps)
    → codes (p ∷ ps) ≤ high → Unnamed (p ∷ ps) → (Numbered 0 ps → codes ps ≤ high → Unnamed ps → Rise 1 high
    (sections_in (references_of ps))) → Rise 1 high (sections_in (references_of (p ∷ ps)))
first-rise-by b high p ps e n h u k = grind (arith, count_by, rise-reference, rise, sections_in)

first-rise : (high : ℕ) (ps : List Placement) → Numbered 0 ps → codes ps ≤ high → Unnamed ps
    → Rise 1 high (sections_in (references_of ps))
first-rise high [] n h u = tt
first-rise high (p ∷ ps) n h u = first-rise-by (is_section_code p.role) high p ps refl n h u (first-rise high ps)

-- ## The roles of tokens

no-section-by : (b : Bool) (kind : TokKind) (headed : Bool) (s : Standing) (span : Span) → is_section_kind kind ≡ b
    → is_section_code (token_step kind headed s span).role ≡ false → is_section_kind kind ≡ false
no-section-by b kind headed s span e h = grind (arith, not-both)

plain-word : (wanted : Expectation) → is_name_role (word_role wanted) ≡ false
plain-word wanted = grind arith

plain-head : (wanted : Expectation) (kind : TokKind) → is_name_role (head_role wanted kind) ≡ false
plain-head wanted kind = grind (arith, plain-word)

pub unnamed : (s : Standing) (kept : List SecName) (answers : List Answer) → HasNoNames answers
    → Unnamed (placed_from s kept answers)
unnamed s kept [] n = tt
unnamed s kept (Token t ∷ answers) n = λ e. let kind = no-section-by
    _ _ _ s _ refl e in ((grind (arith, plain-head)), unnamed (token_step _ _ s _).next _ answers (n kind).1)
unnamed s kept (Begin t ∷ answers) n = unnamed (behind_begin s) kept answers n
unnamed s kept (Finish t ∷ answers) n = unnamed s kept answers n
unnamed s kept (Note kind place ∷ answers) n = unnamed s kept answers n

-- ## References

pub all-rise : (lines : List MergedLine) (size : ℕ) (ps : List Placement) → Numbered 0 ps → Unnamed ps
    → Rise 1 (length (sections_of lines size ps)) (sections_in (references_of ps))
all-rise lines size ps n u = grind (arith, section-count, first-rise)
