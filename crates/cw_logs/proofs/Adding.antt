-- Identifiers that are added to a list of names: those that are there keep their places, and each has one.
use Rattle.cw_logs.proofs.Terms.{◌≡◌, ℕ, zero, suc, ◌<◌, ◌≤◌, Bool, true, false, not, if◌then◌else◌, nat_lt, List}
use Rattle.cw_logs.proofs.Terms.{[], ◌∷◌, ◌++◌, length, map, slice_get, slice_index_or, All, Option, Some, None}
use Rattle.cw_logs.proofs.Terms.{refl, sym, ◌∙◌, ap, subst, arith, bytes_decides, both-right, Exp, NameId, Entry}
use Rattle.cw_logs.proofs.Terms.{is_entry, place_of, with_entry, LeafLine, IsIdentEntry, text_at, text_by, IsKnown}
use Rattle.cw_logs.proofs.Terms.{spelled, with_idents, IsExtended, AreIdents}
use Rattle.std.proofs.{lemmas.Bool.ltb-true, lemmas.Bool.ltb-false, lemmas.List.Sums.prefix_len-le-length}
use Rattle.cw_names.specs.declared.entry.EntryKind.TheVariants as kinds

-- ## What is there stays

slot-kept : (es more : List Entry) (i : ℕ) → IsIdentEntry (slice_get es i) → slice_get (es ++ more) i ≡ slice_get es i
slot-kept [] more i h = absurd h
slot-kept (e ∷ es) more zero h = refl
slot-kept (e ∷ es) more (suc i) h = slot-kept es more i h

slot-kept-by : (b : Bool) (e : Entry) (es : List Entry) (i : ℕ) → IsIdentEntry (slice_get es i)
    → slice_get (if b then es else es ++ e ∷ []) i ≡ slice_get es i
slot-kept-by b e es i h = grind (arith, slot-kept)

pub slots-kept : (texts : List (List ℕ)) (es : List Entry) (i : ℕ) → IsIdentEntry (slice_get es i)
    → slice_get (with_idents texts es) i ≡ slice_get es i
slots-kept [] es i h = refl
slots-kept (text ∷ texts) es i h =
    let one : slice_get (with_entry kinds.Ident text es) i ≡ slice_get es i = (grind (arith, slot-kept-by)) in
    slots-kept texts (with_entry kinds.Ident text es) i (subst IsIdentEntry (sym one) h) ∙ one

pub idents-kept : (old new : List Entry) (ids : List NameId) → IsExtended old new → AreIdents old ids
    → AreIdents new ids
idents-kept old new ids x h = grind (arith, slice_index_or, slice_get, slots-kept)

pub texts-kept : (old new : List Entry) (ids : List NameId) → IsExtended old new → AreIdents old ids
    → map (λ id. text_at new id.index) ids ≡ map (λ id. text_at old id.index) ids
texts-kept old new [] x h = refl
texts-kept old new (id ∷ ids) x h =
    let one : text_at new id.index ≡ text_at old id.index =
    ap text_by (ap (λ es. slice_get es id.index) x.is ∙ slots-kept x.added old id.index (h 0 id (omega arith))) in
    grind (arith, texts-kept old new ids x (λ k d lt. h (suc k) d (omega arith)))

pub spelled-kept : (old new : List Entry) (leaf : LeafLine) → IsExtended old new → AreIdents old leaf.names
    → spelled new leaf ≡ spelled old leaf
spelled-kept old new leaf x h = grind (arith, texts-kept)

pub lines-kept : (old new : List Entry) (leaves : List LeafLine) → IsExtended old new
    → All (λ leaf. AreIdents old leaf.names) leaves → map (spelled new) leaves ≡ map (spelled old) leaves
lines-kept old new [] x h = refl
lines-kept old new (leaf ∷ leaves) x h =
    ap (λ l. l ∷ map (spelled new) leaves) (spelled-kept old new leaf x (h 0 leaf (omega arith)))
    ∙ ap (λ ls. spelled old leaf ∷ ls) (lines-kept old new leaves x (λ k d lt. h (suc k) d (omega arith)))

pub all-kept : (old new : List Entry) (leaves : List LeafLine) → IsExtended old new
    → All (λ leaf. AreIdents old leaf.names) leaves → All (λ leaf. AreIdents new leaf.names) leaves
all-kept old new leaves x h = λ k d lt. idents-kept old new (slice_index_or leaves k d).names x (h k d lt)

ident-within : (es : List Entry) (i : ℕ) → IsIdentEntry (slice_get es i) → i < length es
ident-within [] i h = absurd h
ident-within (e ∷ es) zero h = omega arith
ident-within (e ∷ es) (suc i) h = omega (arith, ident-within es i h)

pub all-known : (es : List Entry) (leaves : List LeafLine) → All (λ leaf. AreIdents es leaf.names) leaves
    → All (IsKnown es) leaves
all-known es leaves h = grind (arith, ident-within, slice_index_or)

-- ## Several in a row

pub idents-append : (texts more : List (List ℕ)) (es : List Entry)
    → with_idents (texts ++ more) es ≡ with_idents more (with_idents texts es)
idents-append [] more es = refl
idents-append (text ∷ texts) more es = idents-append texts more (with_entry kinds.Ident text es)

pub none-added : (es : List Entry) → IsExtended es es
none-added es = record { added = []; is = refl }

pub one-added : (text : List ℕ) (old mid new : List Entry) → IsExtended old mid → new ≡ with_entry kinds.Ident text mid
    → IsExtended old new
one-added text old mid new x is = grind (arith, idents-append x.added (text ∷ []) old)

pub both-added : (old mid new : List Entry) → IsExtended old mid → IsExtended mid new → IsExtended old new
both-added old mid new x y = grind (arith, idents-append x.added y.added old)

-- ## The one that is added

-- It is this identifier.
abbrev pub IsNamed : List ℕ → Option Entry → Type 0
IsNamed text None = ⊥
IsNamed text (Some entry) = (entry.kind ≡ kinds.Ident) × (entry.text ≡ text)

entry-named : (text : List ℕ) (e : Entry) → is_entry kinds.Ident text e ≡ true → IsNamed text (Some e)
entry-named text e h = ((grind arith), sym ((bytes_decides text _).0 (both-right _ _ h)))

place-there : (text : List ℕ) (es : List Entry) → place_of kinds.Ident text es < length es
    → IsNamed text (slice_get es (place_of kinds.Ident text es))
place-there text [] lt = absurd (omega (arith, lt))
place-there text (e ∷ es) lt = grind (arith, place-there text es, slice_get, entry-named)

slot-last : (es : List Entry) (e : Entry) → slice_get (es ++ e ∷ []) (length es) ≡ Some e
slot-last [] e = refl
slot-last (d ∷ es) e = slot-last es e

pub entry-there : (text : List ℕ) (es : List Entry)
    → IsNamed text (slice_get (with_entry kinds.Ident text es) (place_of kinds.Ident text es))
entry-there text es = by (nat_lt (place_of kinds.Ident text es) (length es)) refl
  where
    new : Entry
    new = record { kind = kinds.Ident; text = text; category = Exp }

    most : place_of kinds.Ident text es ≤ length es
    most = prefix_len-le-length (λ entry. not (is_entry kinds.Ident text entry)) es

    by : (b : Bool) → nat_lt (place_of kinds.Ident text es) (length es) ≡ b → IsNamed text (slice_get (if b then es else
        es ++ record { kind = kinds.Ident; text = text; category = Exp } ∷ []) (place_of kinds.Ident text es))
    by true h = place-there text es (ltb-true _ _ h)
    by false h =
        let last : place_of kinds.Ident text es ≡ length es = omega (arith, most, ltb-false _ _ h) in
        grind (arith, slice_get, slot-last)

pub new-ident : (text : List ℕ) (es new : List Entry) (id : NameId) → new ≡ with_entry kinds.Ident text es
    → id.index ≡ place_of kinds.Ident text es → IsIdentEntry (slice_get new id.index) × (text_at new id.index ≡ text)
new-ident text es new id is place = grind (arith, slice_get, entry-there)
