-- A scrap that is made of a leaf line has that leaf line, and keeps a line sound.
use Rattle.cw_log.proofs.Terms.{◌≡◌, ℕ, zero, suc, ◌+◌, ◌<◌, Bool, true, false, Option, Some, None, List, [], ◌∷◌, ◌++◌}
use Rattle.cw_log.proofs.Terms.{length, map, eqb, slice_get, All, refl, ◌∙◌, ap, arith, both-left, both-right, Cat}
use Rattle.cw_log.proofs.Terms.{NameId, reads, Tree, bare_name, fine_with, LeafKind, LeafLine, kind_by, said, followed}
use Rattle.cw_log.proofs.Terms.{fits_kind, IsNamedBelow, IsGood, Token, token_ref, tree_in, ident_token, last_tokens}
use Rattle.cw_log.proofs.Terms.{made_form, id_of, line_by}
use Rattle.cw_base.specs.declared.mode.MathMode.{MathMode}
use Rattle.cw_table.specs.Sound.{is_exp}
use Rattle.cw_base.specs.declared.category.Cat.TheVariants as cats
use Rattle.cw_leaves.specs.declared.kinds.LeafKind.TheVariants as kinds

index_of : NameId → ℕ
index_of id = id.index

-- ## What its tree is

ids-back : (ids : List NameId) → map id_of (map (λ id. id.index) ids ++ []) ≡ ids
ids-back [] = refl
ids-back (id ∷ ids) = ap (λ xs. id ∷ xs) (ids-back ids)

said-idents : (trees : List Tree) (ids : List NameId) (last : List Token) → said (tree_in trees (map ident_token ids
    ++ last)) ≡ followed (record { names = map (λ id. id.index) ids; stops = false }) (said (tree_in trees last))
said-idents trees [] last = refl
said-idents trees (id ∷ ids) last =
    ap (followed (record { names = id.index ∷ []; stops = false })) (said-idents trees ids last)

bare-case : (trees : List Tree) (word : NameId) (ids : List NameId)
    → bare_name (tree_in trees (map ident_token ids ++ last_tokens word kinds.C)) ≡ None
bare-case trees word [] = refl
bare-case trees word (id ∷ []) = refl
bare-case trees word (id ∷ other ∷ ids) = refl

bare-space : (trees : List Tree) (word : NameId) (ids : List NameId)
    → bare_name (tree_in trees (map ident_token ids ++ last_tokens word kinds.I)) ≡ None
bare-space trees word [] = refl
bare-space trees word (id ∷ []) = refl
bare-space trees word (id ∷ other ∷ ids) = refl

said-last : (trees : List Tree) (word : NameId) (kind : LeafKind)
    → (said (tree_in trees (last_tokens word kind))).names ≡ []
said-last trees word kinds.B = refl
said-last trees word kinds.C = refl
said-last trees word kinds.I = refl
said-last trees word kinds.S = refl

pub said-made : (trees : List Tree) (word : NameId) (kind : LeafKind) (ids : List NameId)
    → (said (tree_in trees (map ident_token ids ++ last_tokens word kind))).names ≡ map (λ id. id.index) ids ++ []
said-made trees word kind ids = ap (λ h. h.names) (said-idents trees ids (last_tokens word kind))
    ∙ ap (λ ns. map (λ (id : NameId). id.index) ids ++ ns) (said-last trees word kind)

-- ## Its leaf line

line-by : (cat : Cat) (tree : Tree) (kind : LeafKind) (ids : List NameId) (bare : Option ℕ) (stops : Bool) → bare_name
    tree ≡ bare → said tree ≡ record { names = map (λ id. id.index) ids ++ []; stops = stops } → kind_by bare stops
    (map (λ id. id.index) ids ++ []) ≡ kind → line_by cat tree ≡ record { kind = kind; cat = cat; names = ids }
line-by cat tree kind ids bare stops b s k = ap (λ h. record
    { kind = kind_by (bare_name tree) h.stops h.names; cat = cat; names = map id_of h.names }) s ∙ (ap (λ o. record {
      kind = kind_by o stops (map (λ (id : NameId). id.index) ids ++ []);
      cat = cat;
      names = map id_of (map (λ (id : NameId). id.index) ids ++ []);
    }) b ∙ (ap (λ x. record { kind = x; cat = cat; names = map id_of (map (λ (id : NameId). id.index) ids ++ []) }) k
    ∙ ap (λ xs. record { kind = kind; cat = cat; names = xs }) (ids-back ids)))

no-two : (n : ℕ) → eqb (suc (suc n)) 1 ≡ true → ⊥
no-two n h = let e : suc (suc n) ≡ 1 = grind (arith, h) in absurd (omega (arith, e))

no-one : (n : ℕ) → eqb (suc n) 0 ≡ true → ⊥
no-one n h = let e : suc n ≡ 0 = grind (arith, h) in absurd (omega (arith, e))

pub made-line : (trees : List Tree) (word : NameId) (kind : LeafKind) (cat : Cat) (ids : List NameId)
    → fits_kind kind cat (length ids) ≡ true → line_by cat
    (tree_in trees (map ident_token ids ++ last_tokens word kind)) ≡ record { kind = kind; cat = cat; names = ids }
made-line trees word kinds.B cat [] h = absurd (let k : false ≡ true = both-right (is_exp cat) _ h in cc)
made-line trees word kinds.B cat (id ∷ []) h = refl
made-line trees word kinds.B cat (id ∷ other ∷ ids) h = absurd (no-two (length ids) (both-right (is_exp cat) _ h))
made-line trees word kinds.C cat ids h = line-by cat (tree_in trees (map ident_token ids ++ last_tokens word kinds.C))
    kinds.C ids None true (bare-case trees word ids) (said-idents trees ids (last_tokens word kinds.C)) refl
made-line trees word kinds.I cat [] h = absurd cc
made-line trees word kinds.I cat (id ∷ ids) h =
    line-by cat (tree_in trees (map ident_token (id ∷ ids) ++ last_tokens word kinds.I)) kinds.I (id ∷ ids) None false
    (bare-space trees word (id ∷ ids)) (said-idents trees (id ∷ ids) (last_tokens word kinds.I)) refl
made-line trees word kinds.S cat [] h = refl
made-line trees word kinds.S cat (id ∷ ids) h = absurd (no-one (length ids) h)

-- ## It keeps a line sound

plain-idents : (ids : List NameId) (last : List Token) → ((p x : ℕ) → token_ref (slice_get last p) ≡ Some x → ⊥)
    → (p x : ℕ) → token_ref (slice_get (map ident_token ids ++ last) p) ≡ Some x → ⊥
plain-idents [] last h p x e = h p x e
plain-idents (id ∷ ids) last h zero x e = cc
plain-idents (id ∷ ids) last h (suc p) x e = plain-idents ids last h p x e

plain-last : (word : NameId) (kind : LeafKind) (p x : ℕ) → token_ref (slice_get (last_tokens word kind) p) ≡ Some x → ⊥
plain-last word kinds.B p x e = cc
plain-last word kinds.C zero x e = cc
plain-last word kinds.C (suc p) x e = cc
plain-last word kinds.I zero x e = cc
plain-last word kinds.I (suc p) x e = cc
plain-last word kinds.S p x e = cc

named-idents : (count : ℕ) (trees : List Tree) (ids : List NameId) (last : List Token) → All (λ id. id.index < count)
    ids → IsNamedBelow count (tree_in trees last) → IsNamedBelow count (tree_in trees (map ident_token ids ++ last))
named-idents count trees [] last h k = k
named-idents count trees (id ∷ ids) last h k =
    (h 0 id (omega arith), named-idents count trees ids last (λ i d lt. h (suc i) d (omega arith)) k)

named-last : (count : ℕ) (trees : List Tree) (word : NameId) (kind : LeafKind) → word.index < count
    → IsNamedBelow count (tree_in trees (last_tokens word kind))
named-last count trees word kinds.B h = tt
named-last count trees word kinds.C h = (h, tt)
named-last count trees word kinds.I h = (tt, tt)
named-last count trees word kinds.S h = tt

reads-idents : (trees : List Tree) (ids : List NameId) (last : List Token) (mode : MathMode)
    → reads (tree_in trees last) mode ≡ Some mode → reads (tree_in trees (map ident_token ids ++ last)) mode ≡ Some mode
reads-idents trees [] last mode h = h
reads-idents trees (id ∷ ids) last mode h = reads-idents trees ids last mode h

reads-last : (trees : List Tree) (word : NameId) (kind : LeafKind) (mode : MathMode)
    → reads (tree_in trees (last_tokens word kind)) mode ≡ Some mode
reads-last trees word kinds.B mode = refl
reads-last trees word kinds.C mode = refl
reads-last trees word kinds.I mode = refl
reads-last trees word kinds.S mode = refl

exp-fine : (cat : Cat) (o : Option ℕ) → is_exp cat ≡ true → fine_with cat o ≡ true
exp-fine cats.Exp None h = refl
exp-fine cats.Exp (Some name) h = refl
exp-fine cat None h = refl
exp-fine cat (Some name) h = absurd cc

none-fine : (cat : Cat) (o : Option ℕ) → o ≡ None → fine_with cat o ≡ true
none-fine cat o e = ap (fine_with cat) e

fine-made : (trees : List Tree) (word : NameId) (kind : LeafKind) (cat : Cat) (ids : List NameId)
    → fits_kind kind cat (length ids) ≡ true
    → fine_with cat (bare_name (tree_in trees (map ident_token ids ++ last_tokens word kind))) ≡ true
fine-made trees word kinds.B cat ids h = exp-fine cat
    (bare_name (tree_in trees (map ident_token ids ++ last_tokens word kinds.B))) (both-left (is_exp cat) _ h)
fine-made trees word kinds.C cat ids h = none-fine cat _ (bare-case trees word ids)
fine-made trees word kinds.I cat ids h = none-fine cat _ (bare-space trees word ids)
fine-made trees word kinds.S cat [] h = refl
fine-made trees word kinds.S cat (id ∷ ids) h = absurd (no-one (length ids) h)

pub made-good : (count : ℕ) (word : NameId) (leaf : LeafLine) → word.index < count → All (λ id. id.index < count)
    leaf.names → fits_kind leaf.kind leaf.cat (length leaf.names) ≡ true → IsGood count (made_form word leaf)
made-good count word leaf lt known fits = record {
  plain = plain-idents leaf.names (last_tokens word leaf.kind) (plain-last word leaf.kind);
  named = λ trees. named-idents count trees leaf.names (last_tokens word leaf.kind) known
      (named-last count trees word leaf.kind lt);
  agrees = λ trees mode. reads-idents trees leaf.names (last_tokens word leaf.kind) mode
      (reads-last trees word leaf.kind mode);
  fine = λ trees. fine-made trees word leaf.kind leaf.cat leaf.names fits;
}
