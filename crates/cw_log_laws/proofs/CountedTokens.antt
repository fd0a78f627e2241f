-- There are at most as many tokens and comments as bytes, and a nest has no more of them.
use Rattle.cw_log_laws.proofs.Terms.{◌≡◌, ℕ, zero, suc, ◌+◌, ◌-◌, ◌≤◌, Bool, List, [], ◌∷◌, ◌++◌, length, refl, sym, ap}
use Rattle.cw_log_laws.proofs.Terms.{◌∙◌, arith, append_assoc, append-nil, length-drop, length-take, Mode, Answer}
use Rattle.cw_log_laws.proofs.Terms.{Token, Begin, Finish, Note, Seen, Where, ScanStep, found_apart, AreBare, AreNotes}
use Rattle.cw_log_laws.proofs.Terms.{TakesAll, Takes, bare-all-cut, found-takes, still_fresh, answers, tokens_of, Nest}
use Rattle.cw_log_laws.proofs.Terms.{Leaf, Group, group, leaf, nests, first_nest, nest, until_section}
use Rattle.cw_rules.specs.Tokens.{all_cut}
use Rattle.cw_lex.specs.Nest.{End}

-- how many of the answers are tokens, or begin a comment or an inner text
abbrev pub tokens_in : List Answer → ℕ
tokens_in [] = 0
tokens_in (Token token ∷ answers) = suc (tokens_in answers)
tokens_in (Begin token ∷ answers) = suc (tokens_in answers)
tokens_in (Finish token ∷ answers) = tokens_in answers
tokens_in (Note kind place ∷ answers) = tokens_in answers

-- ## Answers

bare-count : (place : ℕ) (xs ys : List Answer) → AreBare place xs → tokens_in (xs ++ ys) ≡ tokens_in ys
bare-count place [] ys h = refl
bare-count place (Finish t ∷ xs) ys h = bare-count place xs ys h.3
bare-count place (Note kind about ∷ xs) ys h = bare-count place xs ys h
bare-count _ _ _ h = absurd h

notes-count : (xs ys : List Answer) → AreNotes xs → tokens_in (xs ++ ys) ≡ tokens_in ys
notes-count [] ys h = refl
notes-count (Note kind about ∷ xs) ys h = notes-count xs ys h
notes-count _ _ h = absurd h

whole-count : (place : ℕ) (bytes : List ℕ) (more : ℕ) (xs ys : List Answer) → TakesAll place bytes more xs
    → tokens_in (xs ++ ys) ≤ suc (tokens_in ys)
whole-count place bytes more xs ys h = grind (arith, notes-count)

found-count : (place : ℕ) (bytes : List ℕ) (f : ScanStep) (ys : List Answer) → Takes place bytes f
    → tokens_in (f.answers ++ ys) ≤ suc (tokens_in ys)
found-count place bytes f ys t = grind (arith, append_assoc, bare-count, whole-count)

all-count : (bytes : List ℕ) (w : Where) (fresh : Bool) (last place taken : ℕ)
    → tokens_in (answers bytes w fresh last place taken) ≤ length bytes
all-count [] w fresh last place taken =
    let cut = all_cut w.part w.comments place (place - 1) in
    let none : tokens_in cut ≡ 0 =
    ap tokens_in (sym (append-nil cut)) ∙ bare-count place cut [] (bare-all-cut w.part w.comments place (place - 1)) in
    omega (arith, none)
all-count (byte ∷ bytes) w fresh last place zero =
    let f = found_apart w fresh last place byte bytes in
    omega (
      arith,
      found-count place (byte ∷ bytes) f (answers bytes f.next (still_fresh fresh byte) byte (place + 1) f.more)
          (found-takes w fresh last place byte bytes),
      all-count bytes f.next (still_fresh fresh byte) byte (place + 1) f.more,
    )
all-count (byte ∷ bytes) w fresh last place (suc taken) =
    omega (arith, all-count bytes w (still_fresh fresh byte) byte (place + 1) taken)

-- the answers over a part of a text
pub tokens-count : (text : List ℕ) (start end : ℕ) (mode : Mode)
    → tokens_in (tokens_of text start end mode) ≤ end - start
tokens-count text start end mode = grind (arith, all-count, length-drop, length-take)

pub until-count : (xs : List Answer) → tokens_in (until_section xs) ≤ tokens_in xs
until-count [] = omega arith
until-count (x ∷ xs) = grind (arith, until-count xs)

-- ## Nests

abbrev pub nest_size : Nest → ℕ
nest_size End = 0
nest_size (Leaf token rest) = suc (nest_size rest)
nest_size (Group token inner rest) = suc (nest_size inner + nest_size rest)

abbrev sizes : List Nest → ℕ
sizes [] = 0
sizes (n ∷ ns) = nest_size n + sizes ns

leaf-size : (t : Seen) (ns : List Nest) → sizes (leaf t ns) ≤ suc (sizes ns)
leaf-size t ns = grind arith

group-size : (t : Seen) (ns : List Nest) → sizes (group t ns) ≤ suc (sizes ns)
group-size t ns = grind arith

nests-size : (xs : List Answer) → sizes (nests xs) ≤ tokens_in xs
nests-size [] = omega arith
nests-size (Token t ∷ xs) = omega (arith, leaf-size t (nests xs), nests-size xs)
nests-size (Begin t ∷ xs) = omega (arith, group-size t (nests xs), nests-size xs)
nests-size (Finish t ∷ xs) = omega (arith, nests-size xs)
nests-size (Note kind place ∷ xs) = nests-size xs

first-size : (ns : List Nest) → nest_size (first_nest ns) ≤ sizes ns
first-size ns = grind arith

pub nest-size : (xs : List Answer) → nest_size (nest xs) ≤ tokens_in xs
nest-size xs = omega (arith, first-size (nests xs), nests-size xs)
