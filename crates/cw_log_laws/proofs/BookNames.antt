-- The names of a book: no two are alike, each has a category, and none of its section names is longer than its text.
use Rattle.cw_log_laws.proofs.Terms.{◌≡◌, ◌≢◌, ℕ, zero, suc, ◌≤◌, ◌^◌, Bool, true, false, not, ◌&&◌, List, [], ◌∷◌}
use Rattle.cw_log_laws.proofs.Terms.{Option, None, length, slice_get, All, refl, arith, AllByRecursion, list_all}
use Rattle.cw_log_laws.proofs.Terms.{All-from_recursion, All-weaker, both-left, both-right, not-true, Cat, End}
use Rattle.cw_log_laws.proofs.Terms.{MergedLine, text_of, tokens-cover, EntryKind, Ident, NameId, Entry, AreDistinct}
use Rattle.cw_log_laws.proofs.Terms.{is_entry, with_category, with_entry, built_in_words, answers_of, book, Placement}
use Rattle.cw_log_laws.proofs.Terms.{placed, SecName, AreNames}
use Rattle.std.specs.List.{IsDistinct}
use Rattle.std.specs.Option.{option_map_or}
use Rattle.cw_phase1.proofs.NameSizes.{all-short}
use Rattle.cw_rules.specs.ControlTexts.{text_behind_code}
use Rattle.cw_phase1.specs.{Uses.references_of, declared.roles.Role.Role}
use Rattle.cw_phase1.specs.Words.{KnownNames, known_after, known_behind, name_id, with_format}
use Rattle.cw_log_laws.proofs.LaterNames.{HaveCats, are_real, distinct-entry, have-entry, real-law}
use Rattle.cw_rules.specs.declared.tokens.Mode.TheVariants as modes
use Rattle.cw_phase1.specs.declared.roles.Role.TheVariants as roles
use Rattle.cw_base.specs.declared.category.Cat.TheVariants.{Exp}

-- ## The built-in words

abbrev is_other : Entry → List Entry → Bool
is_other e es = list_all (λ d. not (is_entry e.kind e.text d)) es

abbrev are_apart : List Entry → Bool
are_apart [] = true
are_apart (e ∷ es) = is_other e es && are_apart es

other-law : (e : Entry) (es : List Entry) → is_other e es ≡ true
    → AllByRecursion (λ d. is_entry e.kind e.text d ≡ false) es
other-law e [] h = tt
other-law e (d ∷ es) h = (not-true (is_entry e.kind e.text d) (both-left _ _ h), other-law e es (both-right _ _ h))

apart-law : (es : List Entry) → are_apart es ≡ true → AreDistinct es
unfolding IsDistinct
apart-law [] h = tt
apart-law (e ∷ es) h = (other-law e es (both-left _ _ h), apart-law es (both-right _ _ h))

words-apart : are_apart built_in_words ≡ true
words-apart = refl

words-real : are_real built_in_words ≡ true
words-real = refl

-- ## Another category

others-at : (e : Entry) (place : ℕ) (c : Cat) (es : List Entry) → AllByRecursion (λ d. is_entry e.kind e.text d ≡ false)
    es → AllByRecursion (λ d. is_entry e.kind e.text d ≡ false) (with_category place c es)
others-at e place c [] all = tt
others-at e zero c (d ∷ es) all = (all.0, all.1)
others-at e (suc place) c (d ∷ es) all = (all.0, others-at e place c es all.1)

distinct-at : (place : ℕ) (c : Cat) (es : List Entry) → AreDistinct es → AreDistinct (with_category place c es)
unfolding IsDistinct
distinct-at place c [] d = d
distinct-at zero c (e ∷ es) d = (d.0, d.1)
distinct-at (suc place) c (e ∷ es) d = (others-at e place c es d.0, distinct-at place c es d.1)

have-at : (place : ℕ) (c : Cat) (es : List Entry) → c ≢ End → HaveCats es → HaveCats (with_category place c es)
have-at place c [] h all = tt
have-at zero c (e ∷ es) h all = (h, all.1)
have-at (suc place) c (e ∷ es) h all = (all.0, have-at place c es h all.1)

category-real : (es : List Entry) (k : ℕ) → HaveCats es
    → (option_map_or (λ entry. entry.category) (slice_get es k) Exp) ≢ End
category-real [] k all = λ e. absurd cc
category-real (e ∷ es) zero all = all.0
category-real (e ∷ es) (suc k) all = category-real es k all.1

-- ## All names

abbrev Good : List Entry → Type 0
Good es = AreDistinct es × HaveCats es

good-entry : (kind : EntryKind) (text : List ℕ) (es : List Entry) → Good es → Good (with_entry kind text es)
good-entry kind text es g = (distinct-entry kind text es g.0, have-entry kind text es g.1)

good-format : (first : Option NameId) (second : NameId) (es : List Entry) → Good es → Good (with_format first second es)
good-format first second es g = grind (arith, distinct-at, slice_get, have-at, category-real)

good-behind : (role : Role) (text : List ℕ) (k : KnownNames) → Good k.names → Good (known_behind role text k).names
good-behind roles.MacroName text k g = good-entry Ident text k.names g
good-behind roles.Parameter text k g = good-entry Ident text k.names g
good-behind roles.Word text k g = good-entry Ident text k.names g
good-behind (roles.FirstName silent) text k g = good-entry Ident text k.names g
good-behind (roles.SecondName silent) text k g =
    good-format k.first (name_id Ident text k.names) (with_entry Ident text k.names) (good-entry Ident text k.names g)
good-behind (roles.Entry kind) text k g = good-entry kind (text_behind_code text) k.names g
good-behind _ text k g = g

good-after : (ps : List Placement) (k : KnownNames) → Good k.names → Good (known_after ps k).names
good-after [] k g = g
good-after (p ∷ ps) k g = good-after ps (known_behind p.role p.token.text k) (good-behind p.role p.token.text k g)

real-all : (es : List Entry) → HaveCats es → AllByRecursion (λ entry. entry.category ≢ End) es
real-all [] all = tt
real-all (e ∷ es) all = (all.0, real-all es all.1)

pub book-names : (lines : List MergedLine) → AreNames (book lines).names
book-names lines =
    let g : Good (book lines).names =
    good-after (placed (answers_of lines)) (record { first = None; names = built_in_words })
    (apart-law built_in_words words-apart, real-law built_in_words words-real) in
    record {
      apart = g.0;
      real = All-from_recursion (λ (e : Entry). e.category ≢ End) (book lines).names (real-all (book lines).names g.1);
    }

-- ## Section names

pub book-short : (lines : List MergedLine) → length (text_of lines) ≤ 2 ^ 24
    → All (λ (name : SecName). length name.text ≤ 2 ^ 24) (book lines).sec_names
book-short lines short = All-weaker (λ (name : SecName). length name.text ≤ length (text_of lines))
    (λ (name : SecName). length name.text ≤ 2 ^ 24) (λ name h. omega (arith, h, short)) (book lines).sec_names
    (all-short (text_of lines) (answers_of lines) (references_of (placed (answers_of lines)))
    (tokens-cover (text_of lines) 0 (length (text_of lines)) modes.Limbo (omega arith) (omega arith)))
