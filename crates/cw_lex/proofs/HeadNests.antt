-- The answers behind a head are nested, and their nest is what stands behind the head.
use Rattle.std.proofs.Common.{◌≡◌, Bool, true, false, Option, Some, None, List, [], ◌∷◌, refl, sym, ap, if◌then◌else◌}
use Rattle.std.proofs.Common.{arith}
use Rattle.std.proofs.{lemmas.Bool.Decides.nat_tests, lemmas.Grind.common_steps}
use Rattle.cw_lex.specs.{declared.heads.Expectation.Expectation, Nested.Level, Nested.InCode, Nested.after_token}
use Rattle.cw_lex.specs.{Nested.IsNested}
use Rattle.cw_rules.specs.declared.tokens.TokKind.{TokKind}
use Rattle.cw_rules.specs.Answers.{Answer, Token, Begin, Note, Seen, is_head_sign}
use Rattle.cw_lex.specs.Nest.{Nest, Leaf, leaf, group, nests, first_nest, nest}
use Rattle.cw_lex.specs.Heads.{head_behind, behind_sign, Words, no_word, word_before, head_words, named_headed}
use Rattle.cw_lex.specs.Heads.{headed_by, headed, without_words, without_name, without_head_of, without_head}
use Rattle.cw_lex.proofs.Nests.{some-levels, first-levels, nests-nested}
use Rattle.cw_rules.specs.declared.codes.Code.TheVariants as code
use Rattle.cw_lex.specs.declared.heads.Expectation.TheVariants as wants
use Rattle.cw_rules.specs.declared.tokens.TokKind.TheVariants as kind

stays : (k : TokKind) (l : List Level) → after_token k (InCode ∷ []) ≡ Some l → l ≡ InCode ∷ []
stays k l h = grind (arith, some-levels)

-- a token of C text, and what stands behind it
pub nested-behind : (t : Seen) (answers : List Answer) → IsNested (Token t ∷ answers) → IsNested answers
nested-behind t answers h = grind (arith, nat_tests, first-levels, stays)

pub nest-token : (t : Seen) (answers : List Answer) → IsNested (Token t ∷ answers) → nest (Token t ∷ answers)
    ≡ Leaf t (nest answers)
nest-token t answers h = ap (λ ns. first_nest (leaf t ns)) (nests-nested answers (nested-behind t answers h))

-- ## Words

group-words : (wanted : Expectation) (t : Seen) (ns : List Nest) → (head_words wanted (first_nest (group t ns))).rest
    ≡ first_nest (group t ns)
group-words wanted t ns = grind arith

-- the rest behind words is that of the answers without them
abbrev Leaves : List Answer → Nest → Type 0
Leaves answers rest = IsNested answers × (nest answers ≡ rest)

pub words-leave : (wanted : Expectation) (answers : List Answer) → IsNested answers
    → Leaves (without_words wanted answers) (head_words wanted (nest answers)).rest
words-leave wanted (Token t ∷ answers) h = by (head_behind wanted t.kind t.span) refl
    (λ next. words-leave next answers (nested-behind t answers h))
  where
    leaf-words : (o : Option Expectation) → head_behind wanted t.kind t.span ≡ o → (head_words wanted
        (nest (Token t ∷ answers))).rest ≡ (elim o as (λ o. Words) [
          | Some next ↦ word_before t (head_words next (nest answers))
          | None ↦ no_word (Leaf t (nest answers))
        ]).rest
    leaf-words o e = grind (arith, nat_tests, nest-token)

    by : (o : Option Expectation) → head_behind wanted t.kind t.span ≡ o
        → ((next : Expectation) → Leaves (without_words next answers) (head_words next (nest answers)).rest)
        → Leaves (without_words wanted (Token t ∷ answers)) (head_words wanted (nest (Token t ∷ answers))).rest
    by o e rec = grind (arith, nat_tests, leaf-words, nest-token)
words-leave wanted (Begin t ∷ answers) h = (h, sym (group-words wanted t (nests answers)))
words-leave wanted (Note note place ∷ answers) h = words-leave wanted answers h
words-leave _ _ h = (h, refl)

-- ## A name and its sign

group-named : (name t : Seen) (ns : List Nest) → (named_headed name (first_nest (group t ns))).rest
    ≡ Leaf name (first_nest (group t ns))
group-named name t ns = grind arith

abbrev Signed : Seen → List Answer → Option (List Answer) → Type 0
Signed name answers None = (named_headed name (nest answers)).rest ≡ Leaf name (nest answers)
Signed name answers (Some rest) = Leaves rest (named_headed name (nest answers)).rest

named-rest : (name t : Seen) (rest : Nest) (b : Bool) → is_head_sign t.kind ≡ b → (named_headed name (Leaf t rest)).rest
    ≡ (if b then rest else Leaf name (Leaf t rest))
named-rest name t rest b e = grind (arith, nat_tests)

sign-leaves : (name : Seen) (answers : List Answer) → IsNested answers → Signed name answers (behind_sign answers)
sign-leaves name (Token t ∷ answers) h = grind (arith, nat_tests, nested-behind, nest-token, named-rest)
sign-leaves name (Begin t ∷ answers) h = group-named name t (nests answers)
sign-leaves name (Note note place ∷ answers) h = sign-leaves name answers h
sign-leaves _ _ _ = refl

name-leaves : (name : Seen) (answers : List Answer) → IsNested (Token name ∷ answers)
    → Leaves (without_name name answers) (named_headed name (nest answers)).rest
name-leaves name answers h =
    grind (arith, sign-leaves name answers (nested-behind name answers h), nest-token name answers h)

-- ## Any head

head-by : (k : TokKind) (t : Seen) (answers : List Answer) → IsNested (Token t ∷ answers)
    → Leaves (without_head_of k t answers) (headed_by k t (nest answers)).rest
head-by (kind.Code code.Define) t answers h = words-leave wants.Macro answers (nested-behind t answers h)
head-by (kind.Code code.Format) t answers h = words-leave (wants.First false) answers (nested-behind t answers h)
head-by (kind.Code code.SilentFormat) t answers h = words-leave (wants.First true) answers (nested-behind t answers h)
head-by (kind.Code code.SectionName) t answers h = name-leaves t answers h
head-by (kind.Code code.FileName) t answers h = name-leaves t answers h
head-by _ t answers h = (h, nest-token t answers h)

group-head : (t : Seen) (ns : List Nest) → first_nest (group t ns) ≡ (headed (first_nest (group t ns))).rest
group-head t ns = grind arith

pub head-leaves : (answers : List Answer) → IsNested answers → IsNested (without_head answers)
    × (nest (without_head answers) ≡ (headed (nest answers)).rest)
head-leaves (Token t ∷ answers) h =
    grind (arith, nat_tests, common_steps, head-by t.kind t answers h, nest-token t answers h, head-by, nest-token)
head-leaves (Begin t ∷ answers) h = (h, group-head t (nests answers))
head-leaves (Note note place ∷ answers) h = head-leaves answers h
head-leaves _ h = (h, refl)
