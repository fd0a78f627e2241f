-- A section name that begins at a place is whole by itself.
use Rattle.cw_index.proofs.Terms.{◌||◌, ◌≡◌, ℕ, suc, ◌+◌, ◌-◌, ◌≤◌, Bool, true, false, List, [], ◌∷◌, ◌++◌, length}
use Rattle.cw_index.proofs.Terms.{take, drop, refl, sym, ap, subst, ◌∙◌, arith, length-drop, length-take, take_all}
use Rattle.cw_index.proofs.Terms.{nat_tests, common_steps, Code, Answer, Where, ScanStep, note_answers, code_of}
use Rattle.cw_index.proofs.Terms.{still_fresh, joined, answers, fresh_at, last_at, tokens_of, one, effect_in}
use Rattle.cw_index.proofs.Terms.{section_name, is_name, code_by, found_apart, drop-part, all-taken, or-notes}
use Rattle.cw_index.proofs.Terms.{name-kind, name-plain, IsWhole, name_span}
use Rattle.cw_rules.specs.Bodies.{at_start, extent}
use Rattle.cw_lex.specs.Nested.{begins_section_in}
use Rattle.cw_rules.proofs.{CodeTwins.at-code, NameEnds.name-take, Sizes.extent-le}
use Rattle.cw_phase1.specs.Sections.{span}
use Rattle.cw_index.proofs.NameTokens.{BeginsName}
use Rattle.cw_rules.specs.declared.bodies.Body.TheVariants as bodies
use Rattle.cw_rules.specs.declared.parts.Part.TheVariants as parts
use Rattle.cw_rules.specs.declared.tokens.Mode.TheVariants as modes

abbrev inner : Where
inner = record { part = parts.Inner; comments = [] }

-- how many bytes a name at a place has behind its code
abbrev name_size : ℕ → List ℕ → ℕ
name_size place bytes = (extent (at_start bodies.SectionName (place + 2)) bytes).size

-- ## A name in C text

-- the name with this code, as a token
abbrev named : Code → ℕ → List ℕ → ScanStep
named c place shown = one false inner place shown (section_name c place shown)

name-stands : (c : Code) (place : ℕ) (shown : List ℕ) → is_name c ≡ true
    → code_by (effect_in parts.Inner [] c) c inner place shown ≡ named c place shown
name-stands c place shown h = grind arith

name-found : (d : ℕ) (bs : List ℕ) (fresh : Bool) (last place : ℕ) → is_name (code_of d) ≡ true
    → found_apart inner fresh last place 64 (d ∷ bs) ≡ named (code_of d) place (64 ∷ d ∷ bs)
name-found d bs fresh last place n = grind (arith, name-plain, at-code, name-stands)

-- the answers behind the first byte of a code
abbrev behind_at : List ℕ → Bool → ℕ → Where → ℕ → List Answer
behind_at bytes fresh place next more = answers bytes next (still_fresh fresh 64) 64 (place + 1) more

-- ## Its span

name-spans : (text : List ℕ) (place : ℕ) (b : BeginsName text place)
    → name_span text place ≡ span place (place + (2 + name_size place b.behind))
name-spans text place b =
    grind (arith, nat_tests, common_steps, take_all (length text) text (omega arith), take_all, name-found)

-- ## It has no section code

-- a name, where the text ends behind it
name-uncut : (d : ℕ) (bs : List ℕ) (fresh : Bool) (last place : ℕ) → is_name (code_of d) ≡ true
    → begins_section_in (answers (64 ∷ d ∷ take (name_size place bs) bs) inner fresh last place 0) ≡ false
name-uncut d bs fresh last place n =
    let i = at_start bodies.SectionName (place + 2) in
    let ls = take (name_size place bs) bs in
    let notes = (section_name (code_of d) place (64 ∷ d ∷ ls)).notes in
    let rest = behind_at (d ∷ ls) fresh place in
    let last_bytes = rest inner ((2 + name_size place ls) - 1) in
    let size : (2 + name_size place ls) - 1 ≡ length (d ∷ ls) =
    omega (arith, name-take i bs refl, length-take (name_size place bs) bs, extent-le i bs) in
    let behind : begins_section_in last_bytes ≡ false =
    ap (λ m. begins_section_in (rest inner m)) size ∙ all-taken (d ∷ ls) inner (still_fresh fresh 64) 64 (place + 1) in
    ap (λ (f : ScanStep). begins_section_in (joined f rest)) (name-found d ls fresh last place n) ∙ ap (λ b. b ||
    begins_section_in (note_answers notes ++ last_bytes)) (name-kind (code_of d) n) ∙ or-notes notes last_bytes behind

-- a name in its text
name-alone : (text : List ℕ) (start end : ℕ) (b : BeginsName text start)
    → end ≡ start + (2 + name_size start b.behind) → begins_section_in (tokens_of text start end modes.Inner) ≡ false
name-alone text start end b e =
    let cut = take end text in
    let size : end - start ≡ suc (suc (name_size start b.behind)) = omega (arith, e) in
    let part : drop start cut ≡ 64 ∷ b.next ∷ take (name_size start b.behind) b.behind = drop-part text end start
    (omega (arith, e)) ∙ (λ i. take (size i) (b.here i)) in
    ap (λ l. begins_section_in (answers l inner (fresh_at cut start) (last_at cut start) start 0)) part
    ∙ name-uncut b.next b.behind (fresh_at cut start) (last_at cut start) start b.name

pub begun-whole : (text : List ℕ) (place : ℕ) → BeginsName text place → IsWhole text (name_span text place)
begun-whole text place b =
    let k = name_size place b.behind in
    let fits : k ≤ length b.behind = extent-le (at_start bodies.SectionName (place + 2)) b.behind in
    let size : length text - place ≡ suc (suc (length b.behind)) = sym (length-drop place text) ∙ ap length b.here in
    subst (IsWhole text) (sym (name-spans text place b)) (record {
      order = omega arith;
      within = omega (arith, fits, size);
      uncut = name-alone text place (place + (2 + k)) b refl;
    })
