-- Nested answers are those of one nest, in which pieces of text stand in comments alone, comments in C text and inner
-- texts in comments.
use Rattle.std.proofs.Common.{◌≡◌, Bool, true, false, not, Option, Some, List, [], ◌∷◌, refl, arith}
use Rattle.std.proofs.lemmas.Bool.Decides.{nat_tests}
use Rattle.cw_rules.specs.{declared.tokens.TokKind.TokKind, Answers.Answer, Answers.Seen}
use Rattle.cw_lex.specs.Nested.{Level, InCode, InComment, after_token, after_begin, after_finish, levels_after}
use Rattle.cw_lex.specs.Nested.{all_levels_after, IsNested}
use Rattle.cw_lex.specs.Nest.{Nest, End, leaf, group, nests, first_nest, nest, is_text_kind, IsGroupOf, IsWell}

-- ## As many nests as texts are open

abbrev pub SameSize : List Nest → List Level → Type 0
SameSize [] [] = Unit {0}
SameSize (n ∷ ns) (l ∷ ls) = SameSize ns ls
SameSize ns ls = ⊥

pub some-levels : (a b : List Level) → ◌≡◌ {A = Option (List Level)} (Some a) (Some b) → a ≡ b
some-levels a b e = cc

-- what the levels after the first answer are
pub first-levels : (answer : Answer) (answers : List Answer) (levels : List Level) (next : Option (List Level))
    → levels_after answer levels ≡ next → all_levels_after (answer ∷ answers) levels ≡ Some (InCode ∷ [])
    → (l : List Level) × ((levels_after answer levels ≡ Some l) × (all_levels_after answers l ≡ Some (InCode ∷ [])))
first-levels answer answers levels next e h = grind (arith, nat_tests)

size-leaf : (token : Seen) (ns : List Nest) (l : Level) (ls : List Level) → SameSize ns (l ∷ ls)
    → SameSize (leaf token ns) (l ∷ ls)
size-leaf token ns l ls s = grind arith

size-token : (k : TokKind) (token : Seen) (ns : List Nest) (levels next : List Level) → after_token k levels ≡ Some next
    → SameSize ns next → SameSize (leaf token ns) levels
size-token k token ns levels next h s = grind (arith, nat_tests, size-leaf, some-levels)

size-group : (token : Seen) (ns : List Nest) (a b : Level) (ls : List Level) → SameSize ns (a ∷ b ∷ ls)
    → SameSize (group token ns) (b ∷ ls)
size-group token ns a b ls s = grind arith

size-begin : (k : TokKind) (token : Seen) (ns : List Nest) (levels next : List Level) → after_begin k levels ≡ Some next
    → SameSize ns next → SameSize (group token ns) levels
size-begin k token ns levels next h s = grind (arith, nat_tests, size-group, some-levels)

size-finish : (ns : List Nest) (levels next : List Level) → after_finish levels ≡ Some next → SameSize ns next
    → SameSize (End ∷ ns) levels
size-finish ns levels next h s = grind (arith, some-levels)

size-one : (answer : Answer) (answers : List Answer) (levels next : List Level) → levels_after answer levels ≡ Some next
    → SameSize (nests answers) next → SameSize (nests (answer ∷ answers)) levels
size-one answer answers levels next h s = grind (arith, size-token, size-begin, size-finish, some-levels)

pub nests-size : (answers : List Answer) (levels : List Level) → all_levels_after answers levels ≡ Some (InCode ∷ [])
    → SameSize (nests answers) levels
nests-size [] levels h = rw (some-levels levels (InCode ∷ []) h) tt
nests-size (answer ∷ answers) levels h =
    let f = first-levels answer answers levels (levels_after answer levels) refl h in
    size-one answer answers levels f.0 f.1.0 (nests-size answers f.0 f.1.1)

one-nest : (ns : List Nest) → SameSize ns (InCode ∷ []) → ns ≡ first_nest ns ∷ []
one-nest (n ∷ []) s = refl
one-nest _ s = absurd s

-- nested answers make exactly one nest
pub nests-nested : (answers : List Answer) → IsNested answers → nests answers ≡ nest answers ∷ []
nests-nested answers h = one-nest (nests answers) (nests-size answers (InCode ∷ []) h)

-- ## What stands in what

abbrev comment_of : Level → Bool
comment_of InCode = false
comment_of InComment = true

abbrev AllWell : List Nest → List Level → Type 0
AllWell [] [] = Unit {0}
AllWell (n ∷ ns) (l ∷ ls) = IsWell (comment_of l) n × AllWell ns ls
AllWell ns ls = ⊥

well-leaf : (token : Seen) (ns : List Nest) (l : Level) (ls : List Level) → is_text_kind token.kind ≡ comment_of l
    → AllWell ns (l ∷ ls) → AllWell (leaf token ns) (l ∷ ls)
well-leaf token ns l ls e s = grind arith

well-token : (k : TokKind) (token : Seen) (ns : List Nest) (levels next : List Level) → token.kind ≡ k
    → after_token k levels ≡ Some next → AllWell ns next → AllWell (leaf token ns) levels
well-token k token ns levels next e h s = grind (arith, nat_tests, well-leaf, some-levels)

well-group : (token : Seen) (ns : List Nest) (a b : Level) (ls : List Level) → IsGroupOf (comment_of b) token.kind
    → comment_of a ≡ not (comment_of b) → AllWell ns (a ∷ b ∷ ls) → AllWell (group token ns) (b ∷ ls)
well-group token ns a b ls g e s = grind arith

well-begin : (k : TokKind) (token : Seen) (ns : List Nest) (levels next : List Level) → token.kind ≡ k
    → after_begin k levels ≡ Some next → AllWell ns next → AllWell (group token ns) levels
well-begin k token ns levels next e h s = grind (arith, nat_tests, well-group, some-levels)

well-finish : (ns : List Nest) (levels next : List Level) → after_finish levels ≡ Some next → AllWell ns next
    → AllWell (End ∷ ns) levels
well-finish ns levels next h s = grind (arith, some-levels)

well-one : (answer : Answer) (answers : List Answer) (levels next : List Level) → levels_after answer levels ≡ Some next
    → AllWell (nests answers) next → AllWell (nests (answer ∷ answers)) levels
well-one answer answers levels next h s = grind (arith, well-token, well-begin, well-finish, some-levels)

nests-well : (answers : List Answer) (levels : List Level) → all_levels_after answers levels ≡ Some (InCode ∷ [])
    → AllWell (nests answers) levels
nests-well [] levels h = rw (some-levels levels (InCode ∷ []) h) (tt, tt)
nests-well (answer ∷ answers) levels h =
    let f = first-levels answer answers levels (levels_after answer levels) refl h in
    well-one answer answers levels f.0 f.1.0 (nests-well answers f.0 f.1.1)

first-well : (ns : List Nest) → AllWell ns (InCode ∷ []) → IsWell false (first_nest ns)
first-well ns w = grind arith

pub nest-well : (answers : List Answer) → IsNested answers → IsWell false (nest answers)
nest-well answers h = first-well (nests answers) (nests-well answers (InCode ∷ []) h)
