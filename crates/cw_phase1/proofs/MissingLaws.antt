-- Where each section name has a definition, no section lacks a `=`; else the notes come section by section.
use Rattle.cw_phase1.proofs.Terms.{◌≡◌, ℕ, zero, suc, ◌+◌, ◌<◌, ◌||◌, Bool, false, List, [], ◌∷◌, ◌++◌, Option, Some}
use Rattle.cw_phase1.proofs.Terms.{◌∙◌, refl, ap, sym, append_assoc, arith, drop, filter, length, at_drop_more}
use Rattle.cw_phase1.proofs.Terms.{get_or_from_slice_get, slice_get_within, list_any, slice_get, common_steps}
use Rattle.cw_phase1.proofs.Terms.{MergedLine, Span, SecName, NameUse, has_no_definition, is_undefined_name}
use Rattle.cw_phase1.proofs.Terms.{lacks_equals, missing_equals, missing_in, Section}
use Rattle.cw_base.specs.{Conditions.list_if, declared.notes.Note.Note}
use Rattle.std.specs.Option.{option_map_or}

-- one of two tests that fail together
pub left-false : (a b : Bool) → (a || b) ≡ false → a ≡ false
left-false a b e = grind arith

pub right-false : (a b : Bool) → (a || b) ≡ false → b ≡ false
right-false a b e = grind arith

pub defined-at : (names : List SecName) (k : ℕ) → list_any has_no_definition names ≡ false
    → option_map_or has_no_definition (slice_get names k) false ≡ false
defined-at [] k e = refl
defined-at (n ∷ names) zero e = left-false (has_no_definition n) (list_any has_no_definition names) e
defined-at (n ∷ names) (suc k) e =
    defined-at names k (right-false (has_no_definition n) (list_any has_no_definition names) e)

undefined-none : (names : List SecName) (name : Option ℕ) → list_any has_no_definition names ≡ false
    → is_undefined_name names name ≡ false
undefined-none names name e = grind (arith, defined-at)

not-lacking : (text : List ℕ) (uses : List NameUse) (names : List SecName) (tex name : Span)
    → list_any has_no_definition names ≡ false → lacks_equals text uses names tex name ≡ false
not-lacking text uses names tex name e = grind (arith, undefined-none)

none-lack : (text : List ℕ) (uses : List NameUse) (names : List SecName) (tex : Span) (spans : List Span)
    → list_any has_no_definition names ≡ false → filter (lacks_equals text uses names tex) spans ≡ []
none-lack text uses names tex [] e = refl
none-lack text uses names tex (name ∷ spans) e =
    rw (not-lacking text uses names tex name e) (none-lack text uses names tex spans e)

empty-if : {X : Type 0} (test : Bool) (xs : List X) → xs ≡ [] → list_if test xs ≡ []
empty-if test xs e = grind arith

none-in : (lines : List MergedLine) (uses : List NameUse) (names : List SecName) (s : Section)
    → list_any has_no_definition names ≡ false → missing_in lines uses names s ≡ []
none-in lines uses names s e = grind (arith, empty-if, none-lack)

pub none_missing : (lines : List MergedLine) (uses : List NameUse) (names : List SecName) (sections : List Section)
    → list_any has_no_definition names ≡ false → missing_equals lines uses names sections ≡ []
none_missing lines uses names [] e = refl
none_missing lines uses names (s ∷ sections) e =
    rw (none-in lines uses names s e) (none_missing lines uses names sections e)

-- ## Names that are looked at one by one

pub any-more : (names : List SecName) (k : ℕ) → k < length names → list_any has_no_definition (drop k names)
    ≡ (is_undefined_name names (Some k) || list_any has_no_definition (drop (k + 1) names))
any-more [] k h = absurd (omega arith)
any-more (n ∷ names) zero h = refl
any-more (n ∷ names) (suc k) h = grind (arith, common_steps, any-more names k (omega arith))

-- ## Section by section

pub equals-more : (lines : List MergedLine) (uses : List NameUse) (names : List SecName) (sections : List Section)
    → (k : ℕ) (s : Section) (total notes more : List Note) → slice_get sections k ≡ Some s
    → more ≡ notes ++ missing_in lines uses names s → notes ++ missing_equals lines uses names (drop k sections) ≡ total
    → more ++ missing_equals lines uses names (drop (k + 1) sections) ≡ total
equals-more lines uses names sections k s total notes more e added i = ap (λ ns. ns ++ missing_equals lines uses names
    (drop (k + 1) sections)) added ∙ (append_assoc notes (missing_in lines uses names s) (missing_equals lines uses
    names (drop (k + 1) sections)) ∙ (ap (λ ns. notes ++ ns) (sym (at_drop_more (missing_equals lines uses names)
    sections k s (slice_get_within sections k s e) ∙ ap (λ (x : Section). missing_in lines uses names x
    ++ missing_equals lines uses names (drop (k + 1) sections)) (get_or_from_slice_get sections k s s e))) ∙ i))
