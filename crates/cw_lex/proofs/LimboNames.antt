-- No section name stands in limbo.
use Rattle.std.proofs.Common.{◌≡◌, ℕ, zero, suc, ◌+◌, Bool, true, false, List, [], ◌∷◌, ◌++◌, drop, refl, if◌then◌else◌}
use Rattle.std.proofs.Common.{arith}
use Rattle.std.proofs.lemmas.Bool.Decides.{nat_tests}
use Rattle.cw_base.proofs.TestLaws.{not-both}
use Rattle.cw_rules.specs.declared.{bodies.NoteAt.NoteAt, codes.Code.Code, parts.Part.Part}
use Rattle.cw_rules.specs.declared.parts.Part.TheVariants as parts
use Rattle.cw_rules.specs.Answers.{Answer, Where, Cut, ScanStep, note_answers}
use Rattle.cw_rules.specs.{Bytes.star, Bytes.begins, Codes.effect_in_limbo, model.Apart.found_apart}
use Rattle.cw_rules.specs.{model.Apart.part_text_apart}
use Rattle.cw_lex.specs.Lexing.{answers, joined, still_fresh}
use Rattle.cw_lex.specs.{model.Limbo.HasNoNames, model.Limbo.LimboHasNoNames, Nested.is_section_kind}
use Rattle.cw_rules.specs.Tokens.{section, section_code, limbo_by, limbo_text, format_name, name_follows}

-- limbo, and a format definition in it
abbrev is_limbo : Part → Bool
is_limbo parts.Limbo = true
is_limbo (parts.FormatName code second limbo) = limbo
is_limbo part = false

abbrev within : Part → Where
within part = record { part = part; comments = [] }

-- What begins at a place has no section name before the first section code, if nothing behind it has.
abbrev IsFree : ScanStep → Type 0
IsFree f = (rest : Where → ℕ → List Answer) → ((part : Part) → is_limbo part ≡ true → (more : ℕ)
    → HasNoNames (rest (within part) more)) → HasNoNames (joined f rest)

free-if : (b : Bool) (f g : ScanStep) → IsFree f → IsFree g → IsFree (if b then f else g)
free-if b f g h k = grind arith

free-notes : (notes : List NoteAt) (rest : List Answer) → HasNoNames rest → HasNoNames (note_answers notes ++ rest)
free-notes [] rest h = h
free-notes (n ∷ notes) rest h = free-notes notes rest h

section-if : (b : Bool) (x y : Cut) → is_section_kind x.kind ≡ true → is_section_kind y.kind ≡ true
    → is_section_kind (if b then x else y).kind ≡ true
section-if b x y h k = grind arith

section-kind : (bytes : List ℕ) → is_section_kind (section_code bytes).kind ≡ true
section-kind bytes = section-if (begins star (drop 1 bytes)) _ _ refl refl

free-section : (part : Part) → is_limbo part ≡ true → (place : ℕ) (bytes : List ℕ)
    → IsFree (section (within part) place bytes)
free-section part h place bytes = grind (arith, not-both, section-kind, nat_tests)

free-code : (code : Code) (place : ℕ) (bytes : List ℕ)
    → IsFree (limbo_by (effect_in_limbo code) code (within parts.Limbo) place bytes)
free-code code place bytes = grind (arith, nat_tests, free-notes)

free-limbo : (place byte : ℕ) (bytes : List ℕ) → IsFree (limbo_text (within parts.Limbo) place byte bytes)
free-limbo place byte bytes = grind (arith, nat_tests, free-if, free-code)

free-word : (code : ℕ) (second : Bool) (place byte : ℕ) (bytes : List ℕ)
    → IsFree (format_name code second true (within (parts.FormatName code second true)) place byte bytes)
free-word code second place byte bytes = grind (arith, nat_tests, free-if)

free-part : (part : Part) → is_limbo part ≡ true → (fresh : Bool) (last place byte : ℕ) (bytes : List ℕ)
    → IsFree (part_text_apart part (within part) fresh last place byte bytes)
free-part parts.Limbo h fresh last place byte bytes = free-limbo place byte bytes
free-part (parts.FormatName code second true) h fresh last place byte bytes = free-if (name_follows (byte ∷ bytes)) _ _
    (free-word code second place byte bytes) (λ rest k. free-limbo place byte bytes rest k)
free-part (parts.FormatName code second false) h fresh last place byte bytes = grind (arith, nat_tests)
free-part part h fresh last place byte bytes = absurd (let wrong : false ≡ true = h in cc)

free-found : (part : Part) → is_limbo part ≡ true → (fresh : Bool) (last place byte : ℕ) (bytes : List ℕ)
    → IsFree (found_apart (within part) fresh last place byte bytes)
free-found part h fresh last place byte bytes = grind (arith, nat_tests, free-if, free-section, free-part)

no-names : (part : Part) → is_limbo part ≡ true → (bytes : List ℕ) (fresh : Bool) (last place taken : ℕ)
    → HasNoNames (answers bytes (within part) fresh last place taken)
no-names parts.Limbo h [] fresh last place taken = tt
no-names (parts.FormatName code second limbo) h [] fresh last place taken = tt
no-names part h [] fresh last place taken = absurd (let wrong : false ≡ true = h in cc)
no-names part h (byte ∷ bytes) fresh last place zero = free-found part h fresh last place byte bytes
    (λ next more. answers bytes next (still_fresh fresh byte) byte (place + 1) more)
    (λ next e more. no-names next e bytes (still_fresh fresh byte) byte (place + 1) more)
no-names part h (byte ∷ bytes) fresh last place (suc taken) =
    no-names part h bytes (still_fresh fresh byte) byte (place + 1) taken

pub limbo-has-no-names : LimboHasNoNames
limbo-has-no-names text start end = grind (arith, no-names)
