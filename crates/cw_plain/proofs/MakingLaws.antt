-- A piece that is laid is what the walk makes.
use Rattle.cw_plain.proofs.Terms.{◌≡◌, ℕ, List, [], Option, Result, Ok, Err, OnOk, refl, subst, Code, TokKind, Lays}
use Rattle.cw_plain.proofs.Terms.{Laying, Piece, PlacedPiece, Stand, Word, placed, token_placed, MakesPlaced, Walked}
use Rattle.cw_base.specs.declared.memory.Memory.{Memory}
use Rattle.cw_rules.specs.declared.codes.Code.TheVariants as codes
use Rattle.cw_rules.specs.declared.tokens.TokKind.TheVariants as kinds

-- a walk that stands elsewhere, and has laid more
abbrev pub moved_to : Walked → Stand → Laying → Walked
moved_to w stand laying = record { reads = w.reads; walk = record { stand = stand; laying = laying } }

lays-makes : {w : Walked} {piece : Piece} {out out' : List ℕ} {laying : Laying} (stand : Stand)
    → Lays w.walk.laying piece out laying out' → MakesPlaced w (placed piece stand) out (moved_to w stand laying) out'
lays-makes stand lays = record {
  text = lays.text;
  walk = λ i. record { stand = stand; laying = lays.laying i };
  reads = refl;
}

-- What is laid in a walk is what the walk makes, and it stands where that leads.
pub laid-makes : (w old : Walked) (p : Walked → PlacedPiece) (piece : Piece) (stand : Stand) (laying : Laying)
    (out out' : List ℕ) (new : Walked) (result : Result (Unit {0}) Memory) → w ≡ old
    → OnOk result (Lays w.walk.laying piece out laying out') → placed piece stand ≡ p w
    → moved_to w stand laying ≡ new → OnOk result (MakesPlaced old (p old) out new out')
laid-makes w old p piece stand laying out out' new (Ok done) same lays is there = subst
    (λ (v : Walked). MakesPlaced v (p v) out new out') same (subst (λ (q : PlacedPiece). MakesPlaced w q out new out')
    is
    (subst (λ (v : Walked). MakesPlaced w (placed piece stand) out v out') there (lays-makes stand lays)))
laid-makes w old p piece stand laying out out' new (Err error) same lays is there = tt

-- ## Tokens

-- a code that prints nothing
pub other-code : (number : ℕ) (title : Option (List ℕ)) (code : Code) (text : List ℕ) (stand : Stand)
    → (code ≡ codes.SectionName → ⊥) → (code ≡ codes.FileName → ⊥) → (code ≡ codes.Verbatim → ⊥)
    → (code ≡ codes.Quote → ⊥) → placed (Word number []) stand ≡ token_placed number title (kinds.Code code) text stand
other-code number title codes.SectionName text stand section file verbatim quoted = absurd (section refl)
other-code number title codes.FileName text stand section file verbatim quoted = absurd (file refl)
other-code number title codes.Verbatim text stand section file verbatim quoted = absurd (verbatim refl)
other-code number title codes.Quote text stand section file verbatim quoted = absurd (quoted refl)
other-code number title _ text stand section file verbatim quoted = refl

-- a token that prints its bytes
pub other-token : (number : ℕ) (title : Option (List ℕ)) (kind : TokKind) (text : List ℕ) (stand : Stand)
    → (kind ≡ kinds.LongComment → ⊥) → (kind ≡ kinds.ShortComment → ⊥) → (kind ≡ kinds.Text → ⊥)
    → (kind ≡ kinds.HeadSign → ⊥) → ((code : Code) → kind ≡ kinds.Code code → ⊥)
    → placed (Word number text) stand ≡ token_placed number title kind text stand
other-token number title kinds.LongComment text stand long short piece head code = absurd (long refl)
other-token number title kinds.ShortComment text stand long short piece head code = absurd (short refl)
other-token number title kinds.Text text stand long short piece head code = absurd (piece refl)
other-token number title kinds.HeadSign text stand long short piece head code = absurd (head refl)
other-token number title (kinds.Code one) text stand long short piece head code = absurd (code one refl)
other-token number title _ text stand long short piece head code = refl
