-- The token with which answers begin: behind answers without bytes, and before notes.
use Rattle.std.proofs.Common.{◌≡◌, ℕ, List, [], ◌∷◌, ◌++◌, refl, subst, ◌⊎◌, inl, arith}
use Rattle.std.proofs.lemmas.Bool.Decides.{nat_tests}
use Rattle.cw_rules.specs.Answers.{Answer, Token, Begin, Finish, Note, Seen, has_sign}
use Rattle.cw_lex.specs.Openings.{tokens_in}
use Rattle.cw_rules.proofs.{CodeStarts.code_in, Taking.AreBare, Taking.AreNotes, Taking.IsWhole, Taking.TakesAll}

pub bare-tokens : (place : ℕ) (xs : List Answer) → AreBare place xs → tokens_in xs ≡ []
bare-tokens place [] h = refl
bare-tokens place (Finish t ∷ xs) h = bare-tokens place xs h.3
bare-tokens place (Note kind about ∷ xs) h = bare-tokens place xs h
bare-tokens _ _ h = absurd h

pub bare-code : (place : ℕ) (xs ys : List Answer) → AreBare place xs → code_in (xs ++ ys) ≡ code_in ys
bare-code place [] ys h = refl
bare-code place (Finish t ∷ xs) ys h = bare-code place xs ys h.3
bare-code place (Note kind about ∷ xs) ys h = bare-code place xs ys h
bare-code _ _ _ h = absurd h

pub notes-sign : (xs ys : List Answer) → AreNotes xs → has_sign (xs ++ ys) ≡ has_sign ys
notes-sign [] ys h = refl
notes-sign (Note kind about ∷ xs) ys h = notes-sign xs ys h
notes-sign _ _ h = absurd h

pub head-is : (a b : Answer) (xs ys : List Answer) → a ∷ xs ≡ b ∷ ys → a ≡ b
head-is a b xs ys e = cc

pub tail-is : (a b : Answer) (xs ys : List Answer) → a ∷ xs ≡ b ∷ ys → xs ≡ ys
tail-is a b xs ys e = cc

pub token-is : (s t : Seen) → Token s ≡ Token t → s ≡ t
token-is s t e = cc

-- a token stands in the first of two lists, or behind it
abbrev pub Split : List Answer → List Answer → List Answer → Seen → List Answer → Type 0
Split ls bs xs t ys = ((zs : List Answer) × (xs ≡ ls ++ zs) × (bs ≡ zs ++ Token t ∷ ys))
    ⊎ ((zs : List Answer) × (ls ≡ xs ++ Token t ∷ zs) × (ys ≡ zs ++ bs))

split-further : (a x : Answer) (ls bs xs : List Answer) (t : Seen) (ys : List Answer) → a ≡ x → Split ls bs xs t ys
    → Split (a ∷ ls) bs (x ∷ xs) t ys
split-further a x ls bs xs t ys e h = grind arith

pub split : (ls bs xs : List Answer) (t : Seen) (ys : List Answer) → ls ++ bs ≡ xs ++ Token t ∷ ys → Split ls bs xs t ys
split [] bs xs t ys e = inl (xs, refl, e)
split (a ∷ ls) bs [] t ys e = grind (arith, nat_tests, head-is, tail-is)
split (a ∷ ls) bs (x ∷ xs) t ys e =
    grind (arith, split ls bs xs t ys (tail-is a x (ls ++ bs) (xs ++ Token t ∷ ys) e), split-further, head-is, tail-is)

-- no token among answers without bytes
pub no-token-bare : (place : ℕ) (ls xs : List Answer) (t : Seen) (zs : List Answer) → AreBare place ls
    → ls ≡ xs ++ Token t ∷ zs → ⊥
no-token-bare place [] [] t zs h e = cc
no-token-bare place [] (x ∷ xs) t zs h e = cc
no-token-bare place (Finish s ∷ ls) [] t zs h e = let k : Finish s ≡ Token t = head-is _ _ ls zs e in cc
no-token-bare place (Finish s ∷ ls) (x ∷ xs) t zs h e =
    no-token-bare place ls xs t zs h.3 (tail-is _ x ls (xs ++ Token t ∷ zs) e)
no-token-bare place (Note kind about ∷ ls) [] t zs h e = let k : Note kind about ≡ Token t = head-is _ _ ls zs e in cc
no-token-bare place (Note kind about ∷ ls) (x ∷ xs) t zs h e =
    no-token-bare place ls xs t zs h (tail-is _ x ls (xs ++ Token t ∷ zs) e)
no-token-bare place (_ ∷ ls) _ t zs h e = absurd h

no-token-notes : (ls xs : List Answer) (t : Seen) (zs : List Answer) → AreNotes ls → ls ≡ xs ++ Token t ∷ zs → ⊥
no-token-notes [] [] t zs h e = cc
no-token-notes [] (x ∷ xs) t zs h e = cc
no-token-notes (Note kind about ∷ ls) [] t zs h e = let k : Note kind about ≡ Token t = head-is _ _ ls zs e in cc
no-token-notes (Note kind about ∷ ls) (x ∷ xs) t zs h e =
    no-token-notes ls xs t zs h (tail-is _ x ls (xs ++ Token t ∷ zs) e)
no-token-notes _ _ _ _ h _ = absurd h

-- The token that begins at a place.
pub record Begun (place : ℕ) (bytes : List ℕ) (more : ℕ) (xs : List Answer) (t : Seen) (zs : List Answer) : Type 0 where
  pub bare : AreBare place xs
  pub whole : IsWhole place bytes more t
  pub notes : AreNotes zs

begun-whole : (place : ℕ) (bytes : List ℕ) (more : ℕ) (ls xs : List Answer) (t : Seen) (zs : List Answer)
    → TakesAll place bytes more ls → ls ≡ xs ++ Token t ∷ zs → Begun place bytes more xs t zs
begun-whole place bytes more [] [] t zs h e = absurd cc
begun-whole place bytes more [] (x ∷ xs) t zs h e = absurd cc
begun-whole place bytes more (Token s ∷ ls) [] t zs h e = grind (arith, nat_tests, token-is, head-is, tail-is)
begun-whole place bytes more (Begin s ∷ ls) [] t zs h e = absurd (let k : Begin s ≡ Token t = head-is _ _ ls zs e in cc)
begun-whole place bytes more (Finish s ∷ ls) [] t zs h e = grind (arith, nat_tests, head-is)
begun-whole place bytes more (Note kind about ∷ ls) xs t zs h e = absurd h
begun-whole place bytes more (_ ∷ ls) _ t zs h e = grind (arith, nat_tests, no-token-notes, tail-is)

pub begun : (place : ℕ) (bytes : List ℕ) (more : ℕ) (first rest xs : List Answer) (t : Seen) (zs : List Answer)
    → AreBare place first → TakesAll place bytes more rest → first ++ rest ≡ xs ++ Token t ∷ zs
    → Begun place bytes more xs t zs
begun place bytes more [] rest xs t zs b h e = begun-whole place bytes more rest xs t zs h e
begun place bytes more (Finish s ∷ first) rest [] t zs b h e = grind (arith, nat_tests, head-is)
begun place bytes more (Finish s ∷ first) rest (x ∷ xs) t zs b h e =
    let same : Finish s ≡ x = head-is (Finish s) x (first ++ rest) (xs ++ Token t ∷ zs) e in
    let g = begun place bytes more first rest xs t zs b.3 h (tail-is (Finish s) x (first ++ rest) (xs ++ Token t ∷ zs)
    e) in
    record { bare = subst (λ x. AreBare place (x ∷ xs)) same (b.0, b.1, b.2, g.bare); whole = g.whole; notes = g.notes }
begun place bytes more (Note kind about ∷ first) rest [] t zs b h e = grind (arith, nat_tests, head-is)
begun place bytes more (Note kind about ∷ first) rest (x ∷ xs) t zs b h e =
    let same : Note kind about ≡ x = head-is (Note kind about) x (first ++ rest) (xs ++ Token t ∷ zs) e in
    let g = begun place bytes more first rest xs t zs b h
    (tail-is (Note kind about) x (first ++ rest) (xs ++ Token t ∷ zs) e) in
    record { bare = subst (λ x. AreBare place (x ∷ xs)) same g.bare; whole = g.whole; notes = g.notes }
begun _ _ _ _ _ _ _ _ b _ _ = absurd b
