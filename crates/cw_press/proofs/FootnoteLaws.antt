-- Footnotes, and the numbers in them.
use Rattle.cw_press.proofs.Terms.{arith, ◌≡◌, ℕ, suc, ◌-◌, ◌<◌, ◌≤◌, ◌==◌, Bool, true, false, refl, sym, ap, List, []}
use Rattle.cw_press.proofs.Terms.{◌∷◌, ◌++◌, codes, drop, get_or, length, map, take, take_all, Option, Some, None}
use Rattle.cw_press.proofs.Terms.{slice_get, footnote, footnote_numbers, later_numbers, name_footnotes, number_in}
use Rattle.cw_press.proofs.Terms.{of_name, separator, use_footnotes, list_if, Section, SecName}
use Rattle.std.specs.Option.{option_map, option_map_or}
use Rattle.cw_print.specs.Sources.{defines_first}
use Rattle.cw_secnames.specs.declared.kinds.SecId.{SecId}

-- ## Numbers

behind-first : (n : ℕ) (ns : List ℕ) → take (length (n ∷ ns) - 1) ns ≡ ns
behind-first n ns = let all : length ns ≤ length (n ∷ ns) - 1 = omega arith in take_all (length (n ∷ ns) - 1) ns all

-- the first of some numbers, with what separates it from those that follow
pub later-next : (shown : ℕ → List ℕ) (numbers sep : List ℕ) → 1 ≤ length numbers
    → sep ≡ separator (map shown (take (length numbers - 1) (drop 1 numbers))) → later_numbers (map shown numbers) ≡ sep
    ++ (shown (get_or numbers 0 0) ++ later_numbers (map shown (take (length numbers - 1) (drop 1 numbers))))
later-next shown [] sep some is = absurd (omega arith)
later-next shown (n ∷ ns) sep some is = grind (arith, behind-first n ns)

pub no-numbers : (shown : ℕ → List ℕ) (numbers : List ℕ) → length numbers < 1
    → [] ≡ footnote_numbers (map shown numbers)
no-numbers shown [] none = refl
no-numbers shown (n ∷ ns) none = absurd (omega arith)

pub several-numbers : (shown : ℕ → List ℕ) (one : ℕ) (later : List ℕ) → 2 ≤ length later
    → codes "s" ++ shown one ++ later_numbers (map shown later) ≡ footnote_numbers (map shown (one ∷ later))
several-numbers shown one [] two = absurd (omega arith)
several-numbers shown one (next ∷ []) two = absurd (omega arith)
several-numbers shown one (next ∷ third ∷ more) two = refl

-- ## One footnote

not-none : (n : ℕ) → (suc n == 0) ≡ true → ⊥
not-none n is = grind arith

pub no-footnote : (sections : List Section) (letter numbers : List ℕ) → (length numbers == 0) ≡ true
    → [] ≡ footnote sections letter numbers
no-footnote sections letter numbers none = grind (arith, not-none)

pub some-footnote : (sections : List Section) (letter numbers : List ℕ) → (length numbers == 0) ≡ false
    → letter ++ footnote_numbers (map (number_in sections) numbers) ++ codes ".\n" ≡ footnote sections letter numbers
some-footnote sections letter numbers some = grind arith

-- ## The footnotes of a name

part-is : {X : Type 0} (part : SecName → X) (name : SecName) (x : X) → Some (part name) ≡ Some x → x ≡ part name
part-is part name x is = cc

-- the uses of a name that is kept
abbrev pub used_by : List Section → SecName → List ℕ
used_by sections name = footnote sections (codes "\\U") name.used

used-kept : (sections : List Section) (found : Option SecName) (used : List ℕ) → option_map (λ n. n.used) found
    ≡ Some used → footnote sections (codes "\\U") used ≡ option_map_or (used_by sections) found []
used-kept sections found used is = grind (arith, part-is)

pub used-last : (sections : List Section) (kept : List SecName) (id : SecId) (used : List ℕ)
    → option_map (λ n. n.used) (slice_get kept id.index) ≡ Some used
    → footnote sections (codes "\\U") used ≡ of_name (used_by sections) kept (Some id)
used-last sections kept id used is = used-kept sections (slice_get kept id.index) used is

cited-kept : (sections : List Section) (found : Option SecName) (cited : List ℕ)
    → option_map (λ n. n.cited) found ≡ Some cited
    → footnote sections (codes "\\Q") cited ++ option_map_or (used_by sections) found []
    ≡ option_map_or (use_footnotes sections) found []
cited-kept sections found cited is = grind (arith, part-is)

pub cited-first : (sections : List Section) (kept : List SecName) (id : SecId) (cited : List ℕ)
    → option_map (λ n. n.cited) (slice_get kept id.index) ≡ Some cited → footnote sections (codes "\\Q") cited
    ++ of_name (used_by sections) kept (Some id) ≡ of_name (use_footnotes sections) kept (Some id)
cited-first sections kept id cited is = cited-kept sections (slice_get kept id.index) cited is

defined-kept : (sections : List Section) (found : Option SecName) (defined others : List ℕ)
    → option_map (λ n. n.defined) found ≡ Some defined → others ≡ drop 1 defined → footnote sections (codes "\\A")
    others ++ option_map_or (use_footnotes sections) found [] ≡ option_map_or (name_footnotes sections) found []
defined-kept sections found defined others is rest = grind (arith, part-is)

pub defined-first : (sections : List Section) (kept : List SecName) (id : SecId) (defined others : List ℕ)
    → option_map (λ n. n.defined) (slice_get kept id.index) ≡ Some defined → others ≡ drop 1 defined
    → footnote sections (codes "\\A") others ++ of_name (use_footnotes sections) kept (Some id)
    ≡ of_name (name_footnotes sections) kept (Some id)
defined-first sections kept id defined others is rest = grind (arith, defined-kept)

not-kept : (notes : SecName → List ℕ) (found : Option SecName) → found ≡ None → [] ≡ option_map_or notes found []
not-kept notes found is = grind arith

pub no-name : (notes : SecName → List ℕ) (kept : List SecName) (id : SecId) → slice_get kept id.index ≡ None
    → [] ≡ of_name notes kept (Some id)
no-name notes kept id is = not-kept notes (slice_get kept id.index) is

-- ## In which section they stand

where-by : (first is : Bool) (notes : List ℕ) → first ≡ is → list_if is notes ≡ list_if first notes
where-by first is notes e = ap (λ (b : Bool). list_if b notes) (sym e)

pub unnamed : (notes : SecName → List ℕ) (kept : List SecName) (name : Option SecId) (number : ℕ) → name ≡ None
    → [] ≡ list_if (defines_first kept name number) (of_name notes kept name)
unnamed notes kept name number is = grind arith

pub named : (notes : SecName → List ℕ) (kept : List SecName) (name : Option SecId) (id : SecId) (number : ℕ)
    (first : Bool) → name ≡ Some id → defines_first kept (Some id) number ≡ first
    → list_if first (of_name notes kept (Some id)) ≡ list_if (defines_first kept name number) (of_name notes kept name)
named notes kept name id number first is e = grind (arith, where-by)
