-- What the lines of a log are, from their pieces.
use Rattle.cw_logs.proofs.Terms.{◌≡◌, ◌≢◌, ℕ, true, false, List, ◌∷◌, sym, ◌∙◌, ap, arith, flat_map, decimal}
use Rattle.cw_logs.proofs.Terms.{decimal_injective, Cat, End, Production, LeafKind, Line, letter, cat_text}
use Rattle.cw_logs.proofs.Terms.{blank_and, line_text, item_text, fits_kind, IsFineLine, IsFineItem, IsCut, AreNames}
use Rattle.cw_logs.proofs.Terms.{something}
use Rattle.cw_logs.proofs.Plain.{cat-blank, decimal-lacks, no-blank}
use Rattle.cw_logs.proofs.Telling.{blanked-same, names-blanked, names-same}

tail-of : (a b : ℕ) (xs ys : List ℕ) → ◌≡◌ {A = List ℕ} (a ∷ xs) (b ∷ ys) → xs ≡ ys
tail-of a b xs ys e = cc

-- ## Leaf lines

-- the pieces of a line that is a leaf line
pub record LeafParts (byte : ℕ) (word rest : List ℕ) (said : Line) : Type 0 where
  pub letter : byte ≡ letter said.kind
  pub cat : word ≡ cat_text said.cat
  pub names : rest ≡ flat_map blank_and said.names

pub leaf-parts : (byte : ℕ) (behind word rest : List ℕ) → IsCut behind word rest → (said : Line)
    → byte ∷ 32 ∷ behind ≡ line_text said → LeafParts byte word rest said
leaf-parts byte behind word rest cut said is =
    let same = blanked-same word (cat_text said.cat) rest (flat_map blank_and said.names) cut.plain (cat-blank said.cat)
    cut.blanked (names-blanked said.names) (sym cut.is ∙ tail-of 32 32 _ _ (tail-of byte (letter said.kind) _ _ is)) in
    record { letter = cc; cat = same.front; names = same.back }

pub leaf-whole : (kind : LeafKind) (cat : Cat) (byte : ℕ) (behind word rest : List ℕ) (count : ℕ) → byte ≡ letter kind
    → IsCut behind word rest → cat ≢ End → word ≡ cat_text cat → (names : AreNames rest count)
    → fits_kind kind cat count ≡ true → IsFineLine (record { kind = kind; cat = cat; names = names.names })
    × (byte ∷ 32 ∷ behind ≡ line_text (record { kind = kind; cat = cat; names = names.names }))
leaf-whole kind cat byte behind word rest count letters cut real named names fit = grind arith

pub leaf-unfit : (kind : LeafKind) (cat : Cat) (rest : List ℕ) (count : ℕ) (said : Line) → AreNames rest count
    → kind ≡ said.kind → cat ≡ said.cat → rest ≡ flat_map blank_and said.names → IsFineLine said
    → fits_kind kind cat count ≡ false → ⊥
leaf-unfit kind cat rest count said names k c is fine fit =
    grind (arith, names-same names.names said.names names.fine fine.names (sym names.is ∙ is))

-- ## Productions

pub record ItemParts (word rest : List ℕ) (production : Production) : Type 0 where
  pub number : word ≡ decimal production.number
  pub place : rest ≡ 32 ∷ decimal production.place

pub item-parts : (behind word rest : List ℕ) → IsCut behind word rest → (p : Production) → IsFineItem p
    → 80 ∷ behind ≡ item_text p → ItemParts word rest p
item-parts behind word rest cut p fine is =
    let same = blanked-same word (decimal _) rest _ cut.plain (decimal-lacks
    32 _ no-blank (omega (arith, fine.to_last))) cut.blanked (something _) (sym cut.is ∙ tail-of 80 80 _ _ is) in
    record { number = same.front; place = same.back }

pub item-whole : (behind word digits : List ℕ) (number place : ℕ) → IsCut behind word (32 ∷ digits) → word
    ≡ decimal number → digits ≡ decimal place → 80 ∷ behind ≡ item_text (record { number = number; place = place })
item-whole behind word digits number place cut n p = grind arith

-- ## From what a line begins with

-- the pieces of a line whose first byte is cut off, and the blank behind it
pub leaf-of : (line behind words word rest : List ℕ) (byte blank : ℕ) → line ≡ byte ∷ behind → behind ≡ blank ∷ words
    → blank ≡ 32 → IsCut words word rest → (said : Line) → line ≡ line_text said → LeafParts byte word rest said
leaf-of line behind words word rest byte blank l b is cut said e = grind (arith, leaf-parts)

pub item-of : (line behind word rest digits : List ℕ) (letter blank : ℕ) → line ≡ letter ∷ behind → letter ≡ 80
    → IsCut behind word rest → rest ≡ blank ∷ digits → (p : Production) → IsFineItem p → line ≡ item_text p
    → (word ≡ decimal p.number) × (digits ≡ decimal p.place)
item-of line behind word rest digits letter blank l is cut r p fine e =
    let parts = item-parts behind word rest cut p fine (sym (l ∙ ap (λ b. b ∷ behind) is) ∙ e) in
    (parts.number, tail-of blank 32 digits (decimal p.place) (sym r ∙ parts.place))

pub no-zero : (word : List ℕ) (number : ℕ) (p : Production) → IsFineItem p → number ≡ 0 → word ≡ decimal number
    → word ≡ decimal p.number → ⊥
no-zero word number p fine zeros is e = grind (arith, decimal_injective)
