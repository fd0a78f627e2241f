-- The texts of a book: their names stay, and the blocks of all that are reduced are right.
use Rattle.cw_log_laws.proofs.Terms.{◌≢◌, ℕ, zero, suc, ◌+◌, ◌<◌, ◌≤◌, ◌^◌, Bool, true, false, Option, Some, None, List}
use Rattle.cw_log_laws.proofs.Terms.{[], ◌∷◌, length, map, slice_get, arith, All, AllByRecursion, if◌then◌else◌, ◌==◌}
use Rattle.cw_log_laws.proofs.Terms.{All-from_recursion, All-head, All-nil, All-tail, All-weaker, recursion_from_All}
use Rattle.cw_log_laws.proofs.Terms.{End, Span, bar, Answer, Mode, tokens_of, until_section, Entry, SecName, NameUse}
use Rattle.cw_log_laws.proofs.Terms.{name_at, block_of, greatest, TextRef, text_ended, logged, AreNames, HasShortNames}
use Rattle.cw_log_laws.proofs.Terms.{IsInside, IsLater, IsRightBlock, TextsAreLogged, TextsKeepNames}
use Rattle.cw_rules.specs.declared.tokens.Mode.TheVariants.{Inner}
use Rattle.cw_secnames.specs.Parts.{begins_with_bar, one_more, part_here, parts_from, size_to_bar}
use Rattle.cw_secnames.specs.declared.kinds.SecKind.{SecKind}
use Rattle.cw_each.specs.EachText.{TextSource}
use Rattle.cw_translator.specs.NameParts.{name_texts, parts_by_kind}
use Rattle.cw_translator.specs.Translating.{begin}
use Rattle.cw_log_laws.proofs.{LaterNames.HaveCats, MadeTexts.AreFine, MadeTexts.Grows, MadeTexts.fine-later}
use Rattle.cw_log_laws.proofs.{SpeltTokens.tokens-spelt, SpeltTokens.until-spelt, WrittenScraps.IsFineState}
use Rattle.cw_log_laws.proofs.{WrittenScraps.block-right}
use Rattle.cw_log_laws.proofs.CountedTokens.{tokens-count, tokens_in, until-count}
use Rattle.cw_log_laws.proofs.NamedTexts.{ArePlainNames, ArePlainTexts, MayBePlain, text-grows}
use Rattle.std.specs.Prelude.{option_map}
use Rattle.std.specs.Option.{option_and_then}

-- ## The inner texts of a name

-- A part ends before the bytes end, and doesn't begin with the first of them.
abbrev ArePartsIn : ℕ → List Span → Type 0
ArePartsIn end [] = Unit {0}
ArePartsIn end (span ∷ spans) = ((0 < span.start) × (span.«end» ≤ end)) × ArePartsIn end spans

abbrev IsSizeIn : ℕ → Option ℕ → Type 0
IsSizeIn most None = Unit {0}
IsSizeIn most (Some size) = size ≤ most

more-size : (most : ℕ) (o : Option ℕ) → IsSizeIn most o → IsSizeIn (suc most) (one_more o)
more-size most o h = grind arith

size-in : (second : Bool) (bytes : List ℕ) → IsSizeIn (length bytes) (size_to_bar second bytes)
size-in second [] = tt
size-in true (byte ∷ bytes) = more-size (length bytes) (size_to_bar false bytes) (size-in false bytes)
size-in false (byte ∷ bytes) = by (byte == bar) (begins_with_bar bytes) (size-in true bytes) (size-in false bytes)
  where
    by : (b c : Bool) → IsSizeIn (length bytes) (size_to_bar true bytes) → IsSizeIn (length bytes)
        (size_to_bar false bytes) → IsSizeIn (suc (length bytes))
        (if b then (if c then one_more (size_to_bar true bytes) else Some 0) else one_more (size_to_bar false bytes))
    by true true h g = more-size (length bytes) (size_to_bar true bytes) h
    by true false h g = omega arith
    by false c h g = more-size (length bytes) (size_to_bar false bytes) g

part-in : (o : Option ℕ) (place end most : ℕ) (rest : ℕ → List Span) → IsSizeIn most o → 0 < place
    → place + most ≤ end → ((n : ℕ) → ArePartsIn end (rest n)) → ArePartsIn end (part_here o place rest)
part-in o place end most rest h some fits later = grind arith

parts-in : (bytes : List ℕ) (place taken end : ℕ) → place + length bytes ≤ end
    → ArePartsIn end (parts_from bytes place taken)
parts-in [] place taken end fits = tt
parts-in (byte ∷ bytes) place (suc taken) end fits = parts-in bytes (place + 1) taken end (omega (arith, fits))
parts-in (byte ∷ bytes) place zero end fits =
    by (byte == bar) (λ n. parts-in bytes (place + 1) n end (omega (arith, fits)))
  where
    by : (b : Bool) → ((n : ℕ) → ArePartsIn end (parts_from bytes (place + 1) n)) → ArePartsIn end (if b then part_here
        (size_to_bar false bytes) (place + 1) (parts_from bytes (place + 1)) else parts_from bytes (place + 1) 0)
    by true later = part-in (size_to_bar false bytes) (place + 1) end (length bytes) (parts_from bytes (place + 1))
        (size-in false bytes) (omega arith) (omega (arith, fits)) later
    by false later = later 0

inside-few : (text : List ℕ) (start end : ℕ) (mode : Mode) → 0 < start → end ≤ 2 ^ 24
    → tokens_in (tokens_of text start end mode) ≤ greatest
inside-few text start end mode behind within = omega (arith, tokens-count text start end mode, behind, within)

spans-plain : (text : List ℕ) (spans : List Span) → ArePartsIn (2 ^ 24) spans
    → ArePlainTexts (map (λ span. until_section (tokens_of text span.start span.«end» Inner)) spans)
spans-plain text [] h = tt
spans-plain text (span ∷ spans) h =
    let all = tokens_of text span.start span.«end» Inner in (
      (
        until-spelt all (tokens-spelt text span.start span.«end» Inner),
        omega (arith, until-count all, inside-few text span.start span.«end» Inner h.0.0 h.0.1),
      ),
      spans-plain text spans h.1,
    )

kind-plain : (k : SecKind) (text : List ℕ) → length text ≤ 2 ^ 24 → ArePlainTexts (parts_by_kind k text)
kind-plain k text short = grind (arith, spans-plain, parts-in)

abbrev IsShortName : Option SecName → Type 0
IsShortName None = Unit {0}
IsShortName (Some name) = length name.text ≤ 2 ^ 24

short-at : (kept : List SecName) (k : ℕ) → All (λ name. length name.text ≤ 2 ^ 24) kept → IsShortName (slice_get kept k)
short-at [] k all = tt
short-at (name ∷ kept) zero all = All-head (λ (n : SecName). length n.text ≤ 2 ^ 24) name kept all
short-at (name ∷ kept) (suc k) all = short-at kept k (All-tail (λ (n : SecName). length n.text ≤ 2 ^ 24) name kept all)

name-plain : (o : Option SecName) → IsShortName o
    → MayBePlain (option_map (λ name. parts_by_kind name.kind name.text) o)
name-plain o h = grind (arith, kind-plain)

kept-plain : (kept : List SecName) (o : Option ℕ) → All (λ name. length name.text ≤ 2 ^ 24) kept
    → MayBePlain (option_and_then (λ k. option_map (λ name. parts_by_kind name.kind name.text) (slice_get kept k)) o)
kept-plain kept o all = grind (arith, name-plain, slice_get, short-at)

names-plain : (kept : List SecName) (uses : List NameUse) → All (λ name. length name.text ≤ 2 ^ 24) kept
    → ArePlainNames (name_texts kept uses)
names-plain kept uses all number = kept-plain kept (name_at number uses) all

-- ## Categories

have-cats : (names : List Entry) → AllByRecursion (λ entry. entry.category ≢ End) names → HaveCats names
have-cats [] h = tt
have-cats (e ∷ names) h = (h.0, have-cats names h.1)

cats-had : (names : List Entry) → HaveCats names → AllByRecursion (λ entry. entry.category ≢ End) names
cats-had [] h = tt
cats-had (e ∷ names) h = (h.0, cats-had names h.1)

names-cats : (names : List Entry) → AreNames names → HaveCats names
names-cats names h = have-cats names (recursion_from_All (λ (e : Entry). e.category ≢ End) names h.real)

-- ## Whole texts

module _ (s : TextSource) (ref : TextRef) (names : List Entry) (short : HasShortNames s) (are : AreNames names) where
  abbrev answers : List Answer
  answers = tokens_of s.text ref.span.start ref.span.«end» ref.mode

  grown : Grows (tokens_in answers) (begin names []) (text_ended s ref names).known
  grown = text-grows s.flags (name_texts s.sec_names s.name_uses) answers names [] (names-plain s.sec_names s.name_uses
      short) (names-cats names are) (tokens-spelt s.text ref.span.start ref.span.«end» ref.mode)

  pub text-names : AreNames (text_ended s ref names).known.names
  text-names = record {
    apart = grown.distinct are.apart;
    real = All-from_recursion (λ (e : Entry). e.category ≢ End) (text_ended s ref names).known.names
        (cats-had (text_ended s ref names).known.names grown.cats);
  }

  pub names-later : IsLater names (text_ended s ref names).known.names
  names-later = grown.later

  -- the states of a text, over any later names
  pub text-fine : (later : List Entry) → IsInside ref.span → IsLater (text_ended s ref names).known.names later
      → AreFine later (text_ended s ref names).known.ended
  text-fine later inside l = fine-later (text_ended s ref names).known.names later l
      (text_ended s ref names).known.ended (grown.ended (inside-few s.text ref.span.start ref.span.«end» ref.mode
      inside.behind inside.within) (All-nil (IsFineState names)))

pub texts-keep-names : TextsKeepNames
texts-keep-names s ref names short are = (text-names s ref names short are, names-later s ref names short are)

pub texts-logged : TextsAreLogged
texts-logged s ref names later inside short are distinct l = All-weaker (IsFineState later) (λ state. IsRightBlock
    s.flags (block_of later (logged s.flags state))) (λ state h. block-right s.flags later state distinct h)
    (text_ended s ref names).known.ended (text-fine s ref names short are later inside l)
