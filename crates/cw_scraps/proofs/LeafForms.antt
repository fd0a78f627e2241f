-- The scrap of a token keeps a line sound.
use Rattle.cw_scraps.proofs.Terms.{◌≡◌, ℕ, zero, suc, ◌<◌, ◌≤◌, Bool, true, List, [], ◌∷◌, ◌++◌, length, take, Option}
use Rattle.cw_scraps.proofs.Terms.{Some, None, IfSome, IsSome, unwrap_or, option_map, sym, ap, ◌∙◌, subst, arith}
use Rattle.cw_scraps.proofs.Terms.{slice_get, map-append, take_all, drop_all, length-append, nat_tests, common_steps}
use Rattle.cw_scraps.proofs.Terms.{Cat, MathMode, Text, Math, Maybe, NameId, Ident as ident_kind, Entry, place_of}
use Rattle.cw_scraps.proofs.Terms.{with_entry, Tree, Empty, Then, Sub, Inner, bare_name, Control, Agrees, needs, stays}
use Rattle.cw_scraps.proofs.Terms.{reads_sign, fine_with, Token, shape, ref_of, tree_in, token_ref, IsTied, StoredLists}
use Rattle.cw_scraps.proofs.Terms.{unfolded-old, unfolded-new, LineEntry, seen, roots_of, AreRoots, IsNamedBelow}
use Rattle.cw_scraps.proofs.Terms.{IsSoundLine, LeafForm, source, code_form, form_of, word_form, word_cat, own_cat}
use Rattle.cw_scraps.proofs.Terms.{token_form, MakesLeaf, HasForm, entry_of}
use Rattle.cw_rules.specs.declared.{codes.Code.Code, tokens.Directive.Directive, tokens.TokKind.TokKind}
use Rattle.cw_names.specs.declared.entry.EntryKind.{EntryKind}
use Rattle.cw_tokens.specs.declared.token.Token.TheVariants.{Control as ControlOf}
use Rattle.cw_scraps.specs.declared.leaves.Leaf.{Leaf}
use Rattle.cw_scraps.proofs.{Growing.grown-roots, Productions.seen-line, Reservings.entry-there, Splices.spliced}
use Rattle.cw_base.specs.declared.category.Cat.TheVariants as cat
use Rattle.cw_rules.specs.declared.tokens.TokKind.TheVariants as kind

plain-form : (c : Cat) (name : NameId) (number : ℕ) → (c ≡ cat.TexLike → ⊥)
    → ((word_form c name number).cat ≡ c) × ((word_form c name number).mode ≡ Maybe)
plain-form c name number other = grind arith

-- the form of an identifier
pub word-has : (k : TokKind) (text : List ℕ) (hash : Bool) (d : Directive) (number : ℕ) (names names' : List Entry)
    (name : NameId) (own c : Cat) (leaf : Leaf) (old new : List (List Token)) → k ≡ kind.Identifier → name.index
    ≡ place_of ident_kind text names → names' ≡ with_entry ident_kind text names → option_map (λ entry. entry.category)
    (slice_get names' name.index) ≡ Some own → c ≡ word_cat hash d text own → HasForm (word_form c name number) leaf old
    new → IfSome (token_form k text hash d number names) (λ form. HasForm form leaf old new)
word-has k text hash d number names names' name own c leaf old new is at grown value cat_is has =
    let same_name : name ≡ record { index = place_of ident_kind text names } = ap (λ i. record { index = i }) at in
    let same_own : own_cat (with_entry ident_kind text names) (place_of ident_kind text names) ≡ own = ap
    (λ o. unwrap_or o cat.Exp) (ap (λ es. option_map (λ entry. entry.category) (slice_get es (place_of ident_kind text
    names))) (sym grown) ∙ (ap (λ i. option_map (λ entry. entry.category) (slice_get names' i)) (sym at) ∙ value)) in
    let form : word_form c name number ≡ word_form (word_cat hash d text (own_cat (with_entry ident_kind text names)
    (place_of ident_kind text names))) (record { index = place_of ident_kind text names }) number = ap
    (λ x. word_form x name number) (cat_is ∙ ap (word_cat hash d text) (sym same_own)) ∙ ap (λ x. word_form
    (word_cat hash d text (own_cat (with_entry ident_kind text names) (place_of ident_kind text names))) x number)
    same_name in
    subst (λ q. IfSome (token_form q text hash d number names) (λ form. HasForm form leaf old new)) (sym is)
    (subst (λ x. HasForm x leaf old new) form has)

-- the scrap of a macro of TeX, and of every other identifier
module _ (c : Cat) (name : NameId) (number : ℕ) (word : Token) (leaf : Leaf) (old new : List (List Token))
    (tokens : (word_form c name number).tokens ≡ word ∷ []) (list : leaf.list.index ≡ length old)
    (lists : new ≡ old ++ (word ∷ []) ∷ []) where
  form-lists : new ≡ old ++ (word_form c name number).tokens ∷ []
  form-lists = lists ∙ ap (λ ts. old ++ ts ∷ []) (sym tokens)

  pub macro-has : c ≡ cat.TexLike → leaf.cat ≡ cat.TexLike → leaf.left ≡ Math → leaf.right ≡ Math
      → HasForm (word_form c name number) leaf old new
  macro-has is cat_is left right = grind (arith, form-lists)

  pub plain-has : (c ≡ cat.TexLike → ⊥) → leaf.cat ≡ c → leaf.left ≡ Maybe → leaf.right ≡ Maybe
      → HasForm (word_form c name number) leaf old new
  plain-has other cat_is left right = grind (arith, plain-form, form-lists)

-- tokens that refer to no list
abbrev IsPlain : List Token → Type 0
IsPlain [] = Unit {0}
IsPlain (t ∷ ts) = (ref_of (shape t) ≡ None) × IsPlain ts

plain-ref : (ts : List Token) → IsPlain ts → (p x : ℕ) → token_ref (slice_get ts p) ≡ Some x → ⊥
plain-ref [] h p x e = cc
plain-ref (t ∷ ts) h zero x e = grind arith
plain-ref (t ∷ ts) h (suc p) x e = plain-ref ts h.1 p x e

-- what each form keeps
pub record IsGood (count : ℕ) (form : LeafForm) : Type 0 where
  pub plain : (p x : ℕ) → token_ref (slice_get form.tokens p) ≡ Some x → ⊥
  pub named : (trees : List Tree) → IsNamedBelow count (tree_in trees form.tokens)
  pub agrees : (trees : List Tree) → Agrees (tree_in trees form.tokens) form.mode form.mode
  pub fine : (trees : List Tree) → fine_with form.cat (bare_name (tree_in trees form.tokens)) ≡ true

source-good : (count : ℕ) (c : Cat) (mode : MathMode) (number : ℕ) → IsGood count (source c mode number)
source-good count c mode number = grind (arith, plain-ref)

pub word-good : (count : ℕ) (c : Cat) (name : NameId) (number : ℕ) → name.index < count
    → IsGood count (word_form c name number)
word-good count c name number h = grind (arith, plain-ref)

-- a control, and nothing
control-text : (count : ℕ) (c : Cat) (sign : Control) → ((m : MathMode) → reads_sign sign m ≡ stays (needs sign) m)
    → needs sign ≡ Text → IsGood count (record { cat = c; mode = Text; tokens = ControlOf sign ∷ [] })
control-text count c sign steady e = grind (arith, plain-ref)

control-maybe : (count : ℕ) (c : Cat) (sign : Control) → ((m : MathMode) → reads_sign sign m ≡ stays (needs sign) m)
    → needs sign ≡ Maybe → IsGood count (record { cat = c; mode = Maybe; tokens = ControlOf sign ∷ [] })
control-maybe count c sign steady e = grind (arith, plain-ref)

empty-good : (count : ℕ) (c : Cat) → IsGood count (record { cat = c; mode = Maybe; tokens = [] })
empty-good count c = grind (arith, plain-ref)

code-good : (count : ℕ) (c : Code) (number : ℕ) → IfSome (code_form c number) (IsGood count)
code-good count c number = grind (arith, source-good, control-maybe, control-text, plain-ref, empty-good)

form-good : (count : ℕ) (k : TokKind) (number : ℕ) → IfSome (form_of k number) (IsGood count)
form-good count k number = grind (arith, source-good, plain-ref, control-text, code-good)

-- the name of an identifier is one of the names behind the token
pub token-good : (count : ℕ) (k : TokKind) (text : List ℕ) (hash : Bool) (d : Directive) (number : ℕ)
    (names : List Entry) → (k ≡ kind.Identifier → place_of ident_kind text names < count)
    → IfSome (token_form k text hash d number names) (IsGood count)
token-good count k text hash d number names h = grind (arith, word-good, form-good)

pub more-named : (m n : ℕ) (t : Tree) → m ≤ n → IsNamedBelow m t → IsNamedBelow n t
more-named m n Empty le h = h
more-named m n (Then leaf rest) le h = grind (arith, more-named m n rest le h.1)
more-named m n (Sub tree rest) le h = (more-named m n tree le h.0, more-named m n rest le h.1)
more-named m n (Inner tree rest) le h = (more-named m n tree le h.0, more-named m n rest le h.1)

-- a scrap more, with a list that refers to none
leaf-roots : (old : List (List Token)) (ts : List Token) (line : List LineEntry) (made : LineEntry) → IsTied old
    → AreRoots old (roots_of line) → ((p x : ℕ) → token_ref (slice_get ts p) ≡ Some x → ⊥) → made.list.index
    ≡ length old → AreRoots (old ++ ts ∷ []) (roots_of (line ++ made ∷ []))
leaf-roots old ts line made tied roots plain is =
    let same : roots_of (line ++ made ∷ []) ≡ spliced (roots_of line) (length (roots_of line)) (length (roots_of line))
    (length old) = map-append (λ entry. entry.list.index) line (made ∷ []) ∙ (ap (λ x. roots_of line ++ x ∷ []) is
    ∙ (ap (λ xs. xs ++ length old ∷ []) (sym (take_all (length (roots_of line)) (roots_of line) (omega arith)))
    ∙ ap (λ xs. take (length (roots_of line)) (roots_of line) ++ length old ∷ xs)
    (sym (drop_all (length (roots_of line)) (roots_of line) (omega arith))))) in
    rw same (grown-roots old ts (roots_of line) (length (roots_of line)) (length (roots_of line)) (omega arith)
    (omega arith) tied roots (λ p x e. absurd (plain p x e)))

pub leaf-sound : (form : LeafForm) (leaf : Leaf) (old new : StoredLists) (names names' : List Entry)
    (line : List LineEntry) → IsGood (length names') form → HasForm form leaf old.lists new.lists → IsTied old.lists
    → new.building ≡ None → length names ≤ length names'
    → IsSoundLine old names line → IsSoundLine new names' (line ++ entry_of leaf ∷ [])
leaf-sound form leaf old new names names' line good has tied idle more sound = grind (
  arith,
  nat_tests,
  common_steps,
  unfolded-new old.lists form.tokens,
  map-append (seen new.lists) line (entry_of leaf ∷ []),
  leaf-roots old.lists form.tokens line (entry_of leaf) tied sound.roots good.plain has.list,
  seen-line,
  unfolded-old,
  entry-there,
  more-named,
)

-- a token that makes a scrap of its own has a form, whatever its number
code-some : (c : Code) (number : ℕ) → IsSome (code_form c 0) → IsSome (code_form c number)
code-some c number h = grind arith

form-some : (k : TokKind) (number : ℕ) → (k ≡ kind.Identifier → ⊥) → MakesLeaf k → IsSome (form_of k number)
form-some k number not h = grind (arith, code-some)

some-sound : (o : Option LeafForm) (leaf : Leaf) (old new : StoredLists) (names : List Entry) (line : List LineEntry)
    → IsSome o → IfSome o (IsGood (length names)) → IfSome o (λ form. HasForm form leaf old.lists new.lists) → IsTied
    old.lists → new.building ≡ None → IsSoundLine old names line → IsSoundLine new names (line ++ entry_of leaf ∷ [])
some-sound None leaf old new names line some good has tied idle sound = cc
some-sound (Some form) leaf old new names line some good has tied idle sound =
    leaf-sound form leaf old new names names line good has tied idle (omega arith) sound

pub token-sound : (k : TokKind) (number : ℕ) (leaf : Leaf) (old new : StoredLists) (names : List Entry)
    (line : List LineEntry) → (k ≡ kind.Identifier → ⊥) → MakesLeaf k
    → IfSome (form_of k number) (λ form. HasForm form leaf old.lists new.lists) → IsTied old.lists → new.building ≡ None
    → IsSoundLine old names line → IsSoundLine new names (line ++ entry_of leaf ∷ [])
token-sound k number leaf old new names line not makes has tied idle sound = some-sound (form_of k number) leaf old new
    names line (form-some k number not makes) (form-good (length names) k number) has tied idle sound

pub length-entry : (k : EntryKind) (text : List ℕ) (names : List Entry)
    → length names ≤ length (with_entry k text names)
length-entry k text names = grind (arith, length-append)

-- the list of a scrap is one of the store
pub token-some : (k : TokKind) (text : List ℕ) (hash : Bool) (d : Directive) (number : ℕ) (names : List Entry)
    → MakesLeaf k → IsSome (token_form k text hash d number names)
token-some k text hash d number names h = grind (arith, code-some)

pub list-there : (k : TokKind) (text : List ℕ) (hash : Bool) (d : Directive) (number : ℕ) (names : List Entry)
    (leaf : Leaf) (old new : List (List Token)) → MakesLeaf k → IfSome (token_form k text hash d number names)
    (λ form. HasForm form leaf old new) → leaf.list.index < length new
list-there k text hash d number names leaf old new makes has = grind (arith, token-some, length-append)
