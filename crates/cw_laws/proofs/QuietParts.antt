-- A C part without a scrap leaves nothing.
use Rattle.std.proofs.Common.{◌≡◌, ℕ, Bool, false, ◌||◌, List, [], ◌∷◌, Option, None, refl, ap, ◌∙◌, if◌then◌else◌}
use Rattle.std.proofs.Common.{arith}
use Rattle.std.specs.Prelude.{is_some, option_map}
use Rattle.std.proofs.lemmas.Bool.Decides.{nat_tests}
use Rattle.std.specs.List.{slice_get}
use Rattle.std.specs.Option.{option_and_then}
use Rattle.cw_base.specs.declared.flags.Flags.{Flags}
use Rattle.cw_lex.specs.Heads.{Headed, Named, headed, headed_by, headless, named_headed}
use Rattle.cw_lex.specs.Nest.{Nest, End, Leaf, Group, IsGroupOf, IsWell, first_nest, group, is_text_kind, leaf, nest}
use Rattle.cw_lex.specs.Nest.{nests}
use Rattle.cw_names.specs.Names.{Entry}
use Rattle.cw_rules.specs.Answers.{Answer, Token, Begin, Finish, Note, Seen}
use Rattle.cw_rules.specs.declared.codes.Code.{Code}
use Rattle.cw_rules.specs.declared.tokens.TokKind.{TokKind}
use Rattle.cw_rules.specs.declared.tokens.TokKind.TheVariants as kind
use Rattle.cw_scraps.specs.Applying.{categories}
use Rattle.cw_table.specs.Normal.{normal}
use Rattle.cw_secnames.specs.Kept.{SecName}
use Rattle.cw_secnames.specs.Uses.{NameUse}
use Rattle.cw_texts.specs.Printed.{group_makes, has_scrap, is_kept, token_makes}
use Rattle.cw_translator.specs.NameParts.{name_texts, parts_by_kind}
use Rattle.cw_translator.specs.Translating.{Ended, Known, Made, made_before, begin, beside, end_of, headed_made}
use Rattle.cw_translator.specs.Translating.{leaf_of_name, made, nothing, state_in, token_made, translated}
use Rattle.cw_translator.specs.Translating.{with_categories}
use Rattle.cw_trees.specs.Joining.{whole}

neither : (a b : Bool) → (a || b) ≡ false → (a ≡ false) × (b ≡ false)
neither a b h = grind (arith, nat_tests)

-- ## Nests in which nothing makes a scrap

abbrev Quiet : List NameUse → Nest → Type 0
Quiet uses End = Unit {0}
Quiet uses (Leaf token rest) = (token_makes uses token.kind token.span.start ≡ false) × Quiet uses rest
Quiet uses (Group token inner rest) = (group_makes token.kind ≡ false) × Quiet uses rest

abbrev AreQuiet : List NameUse → List Nest → Type 0
AreQuiet uses [] = Unit {0}
AreQuiet uses (n ∷ ns) = Quiet uses n × AreQuiet uses ns

leaf-quiet : (uses : List NameUse) (token : Seen) (ns : List Nest)
    → token_makes uses token.kind token.span.start ≡ false → AreQuiet uses ns → AreQuiet uses (leaf token ns)
leaf-quiet uses token ns m q = grind (arith, nat_tests)

group-quiet : (uses : List NameUse) (token : Seen) (ns : List Nest) → group_makes token.kind ≡ false → AreQuiet uses ns
    → AreQuiet uses (group token ns)
group-quiet uses token ns m q = grind (arith, nat_tests)

nests-quiet : (uses : List NameUse) (answers : List Answer) → has_scrap uses answers ≡ false
    → AreQuiet uses (nests answers)
nests-quiet uses [] h = (tt, tt)
nests-quiet uses (Token token ∷ answers) h =
    let n = neither (token_makes uses token.kind token.span.start) (has_scrap uses answers) h in
    leaf-quiet uses token (nests answers) n.0 (nests-quiet uses answers n.1)
nests-quiet uses (Begin token ∷ answers) h =
    let n = neither (group_makes token.kind) (has_scrap uses answers) h in
    group-quiet uses token (nests answers) n.0 (nests-quiet uses answers n.1)
nests-quiet uses (Finish token ∷ answers) h = (tt, nests-quiet uses answers h)
nests-quiet uses (Note note place ∷ answers) h = nests-quiet uses answers h

first-quiet : (uses : List NameUse) (ns : List Nest) → AreQuiet uses ns → Quiet uses (first_nest ns)
first-quiet uses ns q = grind (arith, nat_tests)

-- ## What is made of them

no-text : (kept : List SecName) (o : Option ℕ) → is_some o ≡ false
    → option_and_then (λ k. option_map (λ name. parts_by_kind name.kind name.text) (slice_get kept k)) o ≡ None
no-text kept o h = grind (arith, nat_tests)

group-none : {A : Type 0} (k : TokKind) → IsGroupOf false k → group_makes k ≡ false → A
group-none k g m = grind (arith, nat_tests)

module _ (flags : Flags) (kept : List SecName) (uses : List NameUse) where
  unnamed : (number : ℕ) (known : Known) → is_kept uses number ≡ false
      → leaf_of_name flags (name_texts kept uses) number known ≡ nothing known
  unnamed number known m = grind (arith, nat_tests, no-text)

  code-quiet : (c : Code) (token : Seen) (known : Known) → token_makes uses (kind.Code c) token.span.start ≡ false
      → token_made (leaf_of_name flags (name_texts kept uses)) (kind.Code c) token known ≡ nothing known
  code-quiet c token known m = grind (arith, nat_tests, unnamed)

  token-quiet : (k : TokKind) (token : Seen) (known : Known) → is_text_kind k ≡ false → token_makes uses k
      token.span.start ≡ false → token_made (leaf_of_name flags (name_texts kept uses)) k token known ≡ nothing known
  token-quiet k token known t m = grind (arith, nat_tests, code-quiet)

  made-quiet : (n : Nest) → IsWell false n → Quiet uses n → (known : Known)
      → made flags (leaf_of_name flags (name_texts kept uses)) n known ≡ nothing known
  made-quiet End w q known = refl
  made-quiet (Leaf token rest) w q known = grind (arith, nat_tests, made-quiet rest w.1 q.1 known, token-quiet)
  made-quiet (Group token inner rest) w q known = group-none token.kind w.0 q.0

  -- without a head, and with one
  headless-quiet : (n : Nest) → IsWell false n → Quiet uses n → (known : Known)
      → made_before (nothing known) (made flags (leaf_of_name flags (name_texts kept uses)) n) ≡ nothing known
  headless-quiet n w q known = ap (λ (m : Made). beside (nothing known) m) (made-quiet n w q known)

  abbrev Rests : Headed → Known → Type 0
  Rests h known = headed_made flags (name_texts kept uses) h known ≡ nothing known

  -- a name, which heads the part where its sign stands behind it
  by-sign : (b : Bool) (name token : Seen) (rest : Nest) → IsWell false (Leaf name (Leaf token rest)) → Quiet uses
      (Leaf name (Leaf token rest)) → is_kept uses name.span.start ≡ false → (known : Known) → Rests (if b then record
      { head = Named name.span.start token.span.start; rest = rest } else headless (Leaf name (Leaf token rest))) known
  by-sign b name token rest w q m known = grind (arith, nat_tests, no-text, headless-quiet)

  name-headed : (name : Seen) (rest : Nest) → IsWell false (Leaf name rest) → Quiet uses (Leaf name rest)
      → is_kept uses name.span.start ≡ false → (known : Known) → Rests (named_headed name rest) known
  name-headed name rest w q m known = grind (arith, nat_tests, headless-quiet, by-sign)

  code-headed : (c : Code) (token : Seen) (rest : Nest) → IsWell false (Leaf token rest) → Quiet uses (Leaf token rest)
      → token_makes uses (kind.Code c) token.span.start ≡ false → (known : Known)
      → Rests (headed_by (kind.Code c) token rest) known
  code-headed c token rest w q m known = grind (arith, nat_tests, name-headed, headless-quiet)

  kind-headed : (k : TokKind) (token : Seen) (rest : Nest) → IsWell false (Leaf token rest) → Quiet uses (Leaf token
      rest) → token_makes uses k token.span.start ≡ false → (known : Known) → Rests (headed_by k token rest) known
  kind-headed k token rest w q m known = grind (arith, nat_tests, code-headed, headless-quiet)

  headed-quiet : (n : Nest) → IsWell false n → Quiet uses n → (known : Known) → Rests (headed n) known
  headed-quiet n w q known = grind (arith, nat_tests, headless-quiet, kind-headed)

-- ## The end of a text in which nothing was made

own-categories : (names : List Entry) → with_categories (categories names) names ≡ names
own-categories [] = refl
own-categories (name ∷ names) = ap (λ ns. name ∷ ns) (own-categories names)

-- what is left of it, where these names were there before it, and these are there behind it
abbrev text_left : List Entry → List Entry → Ended
text_left old new = record {
  tree = whole [];
  known = record { names = new; marks = []; ended = state_in [] (begin old []) ∷ [] };
}

abbrev pub empty_text : List Entry → Ended
empty_text names = text_left names names

end-quiet : (flags : Flags) (names : List Entry) → end_of flags (nothing (begin names [])) ≡ empty_text names
unfolding normal
end-quiet flags names = ap (text_left names) (own-categories names)

pub quiet-text : (flags : Flags) (kept : List SecName) (uses : List NameUse) (answers : List Answer)
    (names : List Entry) → IsWell false (nest answers) → has_scrap uses answers ≡ false
    → translated flags (name_texts kept uses) answers names [] ≡ empty_text names
unfolding translated
quiet-text flags kept uses answers names w h = ap (end_of flags) (headed-quiet flags kept uses (nest answers) w
    (first-quiet uses (nests answers) (nests-quiet uses answers h)) (begin names [])) ∙ end-quiet flags names
