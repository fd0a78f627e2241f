-- The tokens of a list say its names, one after another.
use Rattle.cw_log.proofs.Terms.{◌≡◌, ℕ, zero, suc, ◌+◌, ◌*◌, ◌<◌, ◌≤◌, Bool, true, false, Option, Some, None, List, []}
use Rattle.cw_log.proofs.Terms.{◌∷◌, ◌++◌, length, map, drop, get_or, slice_get, refl, sym, ◌∙◌, ap, subst, arith}
use Rattle.cw_log.proofs.Terms.{drop-cons, append_assoc, map-append, NameId, Cat, Tree, search_word, said, Utterance}
use Rattle.cw_log.proofs.Terms.{followed, silence, told_by, Token, refers, token_ref, IsTied, Shape, Plain, Below}
use Rattle.cw_log.proofs.Terms.{InnerBelow, shape, ref_of, tree_in, trees_from, unfolded, with_built, unfold-is, id_of}
use Rattle.cw_log.proofs.Terms.{token_said, IsSaid}
use Rattle.std.proofs.lemmas.Option.{slice_get-get_or}
use Rattle.cw_base.specs.declared.category.Cat.TheVariants.{CaseLike}
use Rattle.cw_tokens.specs.Shapes.{item_of}

-- ## The finished lists

refers-front : (ls : List (List Token)) (ts : List Token) (l p x : ℕ) → refers ls l p ≡ Some x
    → refers (ls ++ ts ∷ []) l p ≡ Some x
refers-front [] ts l p x e = absurd cc
refers-front (t ∷ ls) ts zero p x e = e
refers-front (t ∷ ls) ts (suc l) p x e = refers-front ls ts l p x e

pub tied-front : (ls : List (List Token)) (built : Option (List Token)) → IsTied (with_built ls built) → IsTied ls
tied-front ls None tied = tied
tied-front ls (Some ts) tied = record {
  earlier = λ l p x e. tied.earlier l p x (refers-front ls ts l p x e);
  once = λ l p m q x e d. tied.once l p m q x (refers-front ls ts l p x e) (refers-front ls ts m q x d);
}

-- ## One token

-- how far down a token refers
abbrev pub rank_by : Option ℕ → ℕ
rank_by None = 0
rank_by (Some list) = 2 * list + 2

abbrev pub token_rank : Token → ℕ
token_rank token = rank_by (ref_of (shape token))

pub below-earlier : (lists : List (List Token)) (tokens : List Token) (list place x : ℕ) (token d : Token)
    → IsTied lists → tokens ≡ get_or lists list [] → place < length tokens → get_or tokens place d ≡ token
    → ref_of (shape token) ≡ Some x → x < list
below-earlier lists tokens list place x token d tied same lt is e = tied.earlier list place x (ap (λ ts. token_ref
    (slice_get ts place)) (sym same) ∙ (ap token_ref (slice_get-get_or tokens place d lt ∙ ap Some is) ∙ e))

rank-below : (o : Option ℕ) (list : ℕ) → ((x : ℕ) → o ≡ Some x → x < list) → rank_by o < 2 * list + 1
rank-below None list h = omega arith
rank-below (Some x) list h = omega (arith, h x refl)

pub rank-falls : (lists : List (List Token)) (tokens : List Token) (list place : ℕ) (token d : Token) → IsTied lists
    → tokens ≡ get_or lists list [] → place < length tokens → get_or tokens place d ≡ token
    → token_rank token < 2 * list + 1
rank-falls lists tokens list place token d tied same lt is = rank-below (ref_of (shape token)) list
    (λ x e. below-earlier lists tokens list place x token d tied same lt is e)

said-item : (lists : List (List Token)) (s : Shape) (rest : Tree)
    → said (item_of (trees_from [] lists) s rest) ≡ followed (token_said lists s) (said rest)
said-item lists (Plain leaf) rest = refl
said-item lists (Below list) rest = refl
said-item lists (InnerBelow list) rest = refl

abbrev pub names_alone : List ℕ → Utterance ℕ
names_alone names = record { names = names; stops = false }

abbrev pub names_stopped : List ℕ → Utterance ℕ
names_stopped names = record { names = names; stops = true }

followed-twice : (ns ms : List ℕ) (h : Utterance ℕ) → followed (names_alone ns) (followed (names_alone ms) h)
    ≡ followed (names_alone (ns ++ ms)) h
followed-twice ns ms h = ap (λ xs. record { names = xs; stops = h.stops }) (sym (append_assoc ns ms h.names))

-- ## The tokens so far

abbrev pub list_said : List (List Token) → List Token → Utterance ℕ
list_said lists tokens = said (tree_in (trees_from [] lists) tokens)

-- the tokens before a place have said so many names, and did not stop
pub record SaidSoFar (lists : List (List Token)) (tokens : List Token) (place : ℕ) (old now : List NameId) : Type
    0 where
  pub names : List ℕ
  pub grown : now ≡ old ++ map id_of names
  pub rest : followed (names_alone names) (list_said lists (drop place tokens)) ≡ list_said lists tokens

pub nothing-said : (lists : List (List Token)) (tokens : List Token) (old : List NameId)
    → SaidSoFar lists tokens 0 old old
nothing-said lists tokens old = record { names = []; grown = sym (append-none old); rest = refl }
  where
    append-none : (xs : List NameId) → xs ++ [] ≡ xs
    append-none [] = refl
    append-none (x ∷ xs) = ap (λ ys. x ∷ ys) (append-none xs)

-- what is said from a place on, by its token
here-said : (lists : List (List Token)) (tokens : List Token) (place : ℕ) (token d : Token) → place < length tokens
    → get_or tokens place d ≡ token → list_said lists (drop place tokens)
    ≡ followed (token_said lists (shape token)) (list_said lists (drop (place + 1) tokens))
here-said lists tokens place token d lt is =
    let next : suc place ≡ place + 1 = omega arith in
    ap (list_said lists) (drop-cons tokens place d lt ∙ (ap (λ t. t ∷ drop (suc place) tokens) is ∙ ap (λ n. token
    ∷ drop n tokens) next)) ∙ said-item lists (shape token) (tree_in (trees_from [] lists) (drop (place + 1) tokens))

grown-twice : (old mid new : List NameId) (ns ms : List ℕ) → mid ≡ old ++ map id_of ns → new ≡ mid ++ map id_of ms
    → new ≡ old ++ map id_of (ns ++ ms)
grown-twice old mid new ns ms e d = d ∙ (ap (λ xs. xs ++ map id_of ms) e
    ∙ (append_assoc old (map id_of ns) (map id_of ms) ∙ ap (λ xs. old ++ xs) (sym (map-append id_of ns ms))))

pub one-said-of : (lists : List (List Token)) (tokens : List Token) (place : ℕ) (old mid new : List NameId)
    (token d : Token) (ms : List ℕ) → SaidSoFar lists tokens place old mid → place < length tokens
    → get_or tokens place d ≡ token → token_said lists (shape token) ≡ names_alone ms
    → new ≡ mid ++ map id_of ms → SaidSoFar lists tokens (place + 1) old new
one-said-of lists tokens place old mid new token d ms s lt is says grown = record {
  names = s.names ++ ms;
  grown = grown-twice old mid new s.names ms s.grown grown;
  rest = sym (followed-twice s.names ms (list_said lists (drop (place + 1) tokens)))
      ∙ (ap (followed (names_alone s.names)) (ap (λ h. followed h (list_said lists (drop (place + 1) tokens)))
      (sym says) ∙ sym (here-said lists tokens place token d lt is)) ∙ s.rest);
}

pub said-stopped-of : (lists : List (List Token)) (tokens : List Token) (place : ℕ) (old mid new : List NameId)
    (token d : Token) (ms : List ℕ) → SaidSoFar lists tokens place old mid → place < length tokens
    → get_or tokens place d ≡ token → token_said lists (shape token) ≡ names_stopped ms
    → new ≡ mid ++ map id_of ms → IsSaid (list_said lists tokens) old new true
said-stopped-of lists tokens place old mid new token d ms s lt is says grown =
    let whole : names_stopped (s.names ++ ms) ≡ list_said lists tokens =
    ap (followed (names_alone s.names)) (ap (λ h. followed h (list_said lists (drop (place + 1) tokens))) (sym says)
    ∙ sym (here-said lists tokens place token d lt is)) ∙ s.rest in
    subst (λ h. IsSaid h old new true) whole
    (record { grown = grown-twice old mid new s.names ms s.grown grown; is = refl })

drop-all : (tokens : List Token) (n : ℕ) → length tokens ≤ n → drop n tokens ≡ []
drop-all [] zero le = refl
drop-all [] (suc n) le = refl
drop-all (t ∷ ts) zero le = absurd (omega (arith, le))
drop-all (t ∷ ts) (suc n) le = drop-all ts n (omega (arith, le))

append-no-names : (xs : List ℕ) → xs ++ [] ≡ xs
append-no-names [] = refl
append-no-names (x ∷ xs) = ap (λ ys. x ∷ ys) (append-no-names xs)

pub said-all : (lists : List (List Token)) (tokens : List Token) (place : ℕ) (old now : List NameId)
    → SaidSoFar lists tokens place old now → length tokens ≤ place → IsSaid (list_said lists tokens) old now false
said-all lists tokens place old now s le =
    let whole : names_alone s.names ≡ list_said lists tokens = ap names_alone (sym (append-no-names s.names))
    ∙ (ap (λ ts. followed (names_alone s.names) (list_said lists ts)) (sym (drop-all tokens place le)) ∙ s.rest) in
    subst (λ h. IsSaid h old now false) whole (record { grown = s.grown; is = refl })

-- a token said its names, and the next is at hand; or it stopped
pub one-said : (lists : List (List Token)) (tokens : List Token) (place : ℕ) (old mid new : List NameId)
    (token d : Token) (stops : Bool) → SaidSoFar lists tokens place old mid → place < length tokens
    → get_or tokens place d ≡ token → IsSaid (token_said lists (shape token)) mid new stops → stops ≡ false
    → SaidSoFar lists tokens (place + 1) old new
one-said lists tokens place old mid new token d stops s lt is h no_stop =
    one-said-of lists tokens place old mid new token d (token_said lists (shape token)).names s lt is
    (ap (λ b. record { names = (token_said lists (shape token)).names; stops = b }) (sym h.is ∙ no_stop)) h.grown

pub said-stopped : (lists : List (List Token)) (tokens : List Token) (place : ℕ) (old mid new : List NameId)
    (token d : Token) (stops : Bool) → SaidSoFar lists tokens place old mid → place < length tokens
    → get_or tokens place d ≡ token → IsSaid (token_said lists (shape token)) mid new stops → stops ≡ true
    → IsSaid (list_said lists tokens) old new true
said-stopped lists tokens place old mid new token d stops s lt is h stop =
    said-stopped-of lists tokens place old mid new token d (token_said lists (shape token)).names s lt is
    (ap (λ b. record { names = (token_said lists (shape token)).names; stops = b }) (sym h.is ∙ stop)) h.grown

-- the names that a reserved word says are none
pub no-word-said : (lists : List (List Token)) (cat : Cat) (old : List NameId) (stops : Bool)
    → stops ≡ (told_by (search_word cat)).stops → IsSaid (told_by (search_word cat)) old old stops
no-word-said lists cat old stops is = record {
  grown = sym (ap (λ ns. old ++ map id_of ns) (none cat) ∙ append-none old);
  is = is;
}
  where
    append-none : (xs : List NameId) → xs ++ [] ≡ xs
    append-none [] = refl
    append-none (x ∷ xs) = ap (λ ys. x ∷ ys) (append-none xs)

    none : (c : Cat) → (told_by (search_word c)).names ≡ []
    none CaseLike = refl
    none _ = refl

pub silent-said : (old : List NameId) → IsSaid silence old old false
silent-said old = record { grown = sym (append-none old); is = refl }
  where
    append-none : (xs : List NameId) → xs ++ [] ≡ xs
    append-none [] = refl
    append-none (x ∷ xs) = ap (λ ys. x ∷ ys) (append-none xs)

-- of the tree of a list
pub tree-said : (lists : List (List Token)) (list : ℕ) (old new : List NameId) (stops : Bool) → IsTied lists
    → list < length lists → IsSaid (list_said lists (get_or lists list [])) old new stops
    → IsSaid (said (unfolded lists list)) old new stops
tree-said lists list old new stops tied lt h =
    subst (λ tree. IsSaid (said tree) old new stops) (sym (unfold-is lists list tied lt)) h
