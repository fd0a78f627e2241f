-- The names of a leaf line are added one after another.
use Rattle.cw_logs.proofs.Terms.{◌≡◌, ℕ, suc, List, [], ◌∷◌, ◌++◌, map, slice_get, refl, sym, ◌∙◌, ap, arith}
use Rattle.cw_logs.proofs.Terms.{flat_map, append_assoc, map-append, Ident, NameId, Entry, place_of, with_entry}
use Rattle.cw_logs.proofs.Terms.{IsIdentEntry, text_at, with_idents, AreIdents, HasNames, AreIdentifiers, HasName}
use Rattle.cw_logs.proofs.Terms.{NoName, blank_and}
use Rattle.cw_logs.proofs.{Cutting.all-cons, Cutting.all-append, Plain.name-lacks, Telling.Same}
use Rattle.cw_logs.proofs.{Telling.blanked-same, Telling.names-blanked}
use Rattle.cw_logs.proofs.Adding.{idents-append, idents-kept, new-ident, none-added, one-added, texts-kept}

append-none-of : (xs : List (List ℕ)) → xs ++ [] ≡ xs
append-none-of [] = refl
append-none-of (x ∷ xs) = ap (λ ys. x ∷ ys) (append-none-of xs)

-- these texts are those of the names, and then some for the rest
pub record Left (new : List Entry) (ids : List NameId) (rest : List ℕ) (texts : List (List ℕ)) : Type 0 where
  pub left : List (List ℕ)
  pub fine : AreIdentifiers left
  pub behind : rest ≡ flat_map blank_and left
  pub is : texts ≡ map (λ id. text_at new id.index) ids ++ left

pub record NamesSoFar (old new : List Entry) (text : List ℕ) (ids : List NameId) (rest : List ℕ) : Type 0 where
  pub idents : AreIdents new ids
  pub added : new ≡ with_idents (map (λ id. text_at new id.index) ids) old
  pub texts : (texts : List (List ℕ)) → AreIdentifiers texts → text ≡ flat_map blank_and texts → Left new ids rest texts

pub no-names : (old : List Entry) (text : List ℕ) → NamesSoFar old old text [] text
no-names old text = grind arith

-- the texts of the names, and that of the new one
more-texts : (mid new : List Entry) (ids : List NameId) (id : NameId) (word : List ℕ) → AreIdents mid ids
    → new ≡ with_entry Ident word mid → id.index ≡ place_of Ident word mid
    → map (λ i. text_at new i.index) (ids ++ id ∷ []) ≡ map (λ i. text_at mid i.index) ids ++ word ∷ []
more-texts mid new ids id word idents is place = grind (arith, map-append, texts-kept, one-added, none-added, new-ident)

-- the name with which a text begins is the first of its texts
first-same : (rest word tail n : List ℕ) (ns : List (List ℕ)) → HasName rest word tail → AreIdentifiers (n ∷ ns)
    → rest ≡ flat_map blank_and (n ∷ ns) → Same word n tail (flat_map blank_and ns)
first-same rest word tail n ns h fine behind =
    let later : flat_map blank_and ns ≡ tail = grind (arith, names-blanked) in
    blanked-same word n tail (flat_map blank_and ns) (grind (arith, name-lacks))
    (name-lacks 32 refl n (fine 0 n (omega arith))) (grind (arith, names-blanked)) (names-blanked ns) (cc)

left-behind : (mid new : List Entry) (ids : List NameId) (id : NameId) (rest word tail : List ℕ) (texts : List (List ℕ))
    → AreIdents mid ids → new ≡ with_entry Ident word mid → id.index ≡ place_of Ident word mid → HasName rest word tail
    → Left mid ids rest texts → Left new (ids ++ id ∷ []) tail texts
left-behind mid new ids id rest word tail texts idents is place h l = go l.left l.fine l.behind l.is
  where
    go : (left : List (List ℕ)) → AreIdentifiers left → rest ≡ flat_map blank_and left
        → texts ≡ map (λ i. text_at mid i.index) ids ++ left → Left new (ids ++ id ∷ []) tail texts
    go [] fine behind e = let k : 32 ∷ word ++ tail ≡ [] = sym h.is ∙ behind in absurd cc
    go (n ∷ ns) fine behind e =
        let s : Same word n tail (flat_map blank_and ns) = first-same rest word tail n ns h fine behind in
        record {
          left = ns;
          fine = λ i d lt. fine (suc i) d (omega arith);
          behind = s.back;
          is = e ∙ (ap (λ t. map (λ i. text_at mid i.index) ids ++ t ∷ ns) (sym s.front) ∙ (sym (append_assoc
              _ (word ∷ []) ns) ∙ ap (λ ts. ts ++ ns) (sym (more-texts mid new ids id word idents is place))));
        }

pub one-name : (old mid new : List Entry) (text rest word tail : List ℕ) (ids : List NameId) (id : NameId)
    → NamesSoFar old mid text ids rest → HasName rest word tail → new ≡ with_entry Ident word mid
    → id.index ≡ place_of Ident word mid → NamesSoFar old new text (ids ++ id ∷ []) tail
one-name old mid new text rest word tail ids id s h is place = record {
  idents = all-append (λ i. IsIdentEntry (slice_get new i.index)) ids (id ∷ []) (idents-kept mid new
      ids (one-added word mid mid new (none-added mid) is) s.idents) (grind (arith, all-cons, slice_get, new-ident));
  added = is ∙ (ap (with_entry Ident word) s.added ∙ (sym (idents-append (map (λ i. text_at mid i.index) ids)
      (word ∷ []) old) ∙ ap (λ ts. with_idents ts old) (sym (more-texts mid new ids id word s.idents is place))));
  texts = λ texts fine behind. left-behind mid new ids id rest word tail _ s.idents is place h (grind arith);
}

pub all-names : (old new : List Entry) (text rest : List ℕ) (ids : List NameId) → NamesSoFar old new text ids rest
    → NoName rest → HasNames old new text ids
all-names old new text rest ids s none =
    record { idents = s.idents; added = s.added; texts = λ texts fine is. whole _ (s.texts texts fine is) }
  where
    whole : (texts : List (List ℕ)) → Left new ids rest texts → map (λ id. text_at new id.index) ids ≡ texts
    whole texts l = go l.left l.fine l.behind l.is
      where
        go : (left : List (List ℕ)) → AreIdentifiers left → rest ≡ flat_map blank_and left
            → texts ≡ map (λ i. text_at new i.index) ids ++ left → map (λ id. text_at new id.index) ids ≡ texts
        go [] fine behind e = sym (e ∙ append-none-of (map (λ i. text_at new i.index) ids))
        go (n ∷ ns) fine behind e = absurd (none n _ (fine 0 n (omega arith)) (names-blanked ns) behind)
