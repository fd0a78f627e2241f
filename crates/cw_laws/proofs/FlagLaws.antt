-- Flags that choose the same translations translate a text alike.
use Rattle.std.proofs.Common.{◌≡◌, ℕ, zero, suc, ◌+◌, Bool, not, ◌&&◌, List, [], ◌∷◌, ◌++◌, Option, Some, None, refl}
use Rattle.std.proofs.Common.{ap, ◌∙◌, drop, take, get_or}
use Rattle.cw_base.specs.Flags.{start_flags}
use Rattle.cw_base.specs.declared.category.Cat.{Cat}
use Rattle.cw_base.specs.declared.category.Cat.TheVariants as cat
use Rattle.cw_base.specs.declared.flags.Flags.{Flags}
use Rattle.cw_base.specs.declared.mode.MathMode.{MathMode}
use Rattle.cw_base.specs.declared.mode.MathMode.TheVariants.{Text, Maybe}
use Rattle.cw_lex.specs.Heads.{Head, Headless, Macro, Format, Silent, Named, headed}
use Rattle.cw_lex.specs.Nest.{Nest, End, Leaf, Group, nest}
use Rattle.cw_names.specs.Names.{Entry}
use Rattle.cw_rules.specs.Answers.{Answer, Seen}
use Rattle.cw_rules.specs.declared.tokens.TokKind.{TokKind}
use Rattle.cw_rules.specs.declared.tokens.TokKind.TheVariants as kind
use Rattle.cw_table.specs.Normal.{At, Nowhere, Place, next_place, normal, steps, weight}
use Rattle.cw_table.specs.Productions.{productions}
use Rattle.cw_table.specs.Rewriting.{State, cats_of, found_names, is_stmt, named_right, new_from, rewrite, search_in}
use Rattle.cw_table.specs.Rewriting.{takes_other, with_type, worded_at}
use Rattle.cw_table.specs.Rows.{pieces_for, result_at}
use Rattle.cw_table.specs.declared.types.Choice.{Choice}
use Rattle.cw_table.specs.declared.types.Choice.TheVariants.{Always, Indent, Separate, Force}
use Rattle.cw_table.specs.declared.types.Row.{Row}
use Rattle.cw_translator.specs.Translating.{Known, Made, NameTexts, as_item, begin, end_of, ended_as, group_made}
use Rattle.cw_translator.specs.Translating.{head_made, headed_made, leaf_of_name, made, made_before, no_name}
use Rattle.cw_translator.specs.Translating.{plain_text, scrap_of_name, sign_behind, state_in, texts_made, texts_named}
use Rattle.cw_translator.specs.Translating.{then_texts, token_made, translated}
use Rattle.cw_trees.specs.Tree.{Empty, Sign, Then, Tree}
use Rattle.cw_trees.specs.declared.Control.TheVariants as control
use Rattle.cw_laws.specs.Left.{TranslateAsAtFirst}

-- Flags that take the other translation of a production where those take it.
abbrev ChooseTheSame : Flags → Flags → Type 0
ChooseTheSame f g = (choice : Choice) (cats : List Cat) → takes_other f choice cats ≡ takes_other g choice cats

choose-same : (f : Flags) → TranslateAsAtFirst f → ChooseTheSame f start_flags
choose-same f same Always cats = refl
choose-same f same Indent cats = ap not same.indent
choose-same f same Separate cats = ap (λ (b : Bool). not b && is_stmt (get_or cats 1 cat.End)) same.separate
choose-same f same Force cats = ap not same.force

module _ (f g : Flags) (same : ChooseTheSame f g) where
  -- ## Productions

  rewrite-same : (row : Row) (place : ℕ) (state : State) → rewrite f row place state ≡ rewrite g row place state
  rewrite-same row place state =
      let here = drop place state.scraps in
      let named = worded_at row.action here in
      let chosen = same row.action.choice (cats_of named) in
      λ i. record {
        scraps = take place state.scraps
            ++ (take row.offset named ++ new_from (result_at row.result (cats_of named)) row.replaced
            (pieces_for (chosen i) row) named
            ∷ named_right (search_in row.action.reserve here) (drop (row.offset + row.replaced) named));
        marks = state.marks ++ found_names (search_in row.action.underline here);
        cats = with_type (search_in row.action.reserve here) state.cats;
      }

  steps-same : (n : ℕ) (state : State) → steps productions f n state ≡ steps productions g n state
  steps-same zero state = refl
  steps-same (suc n) state = by (next_place productions state) (λ (later : State). steps-same n later)
    where
      by : (p : Place)
          → ((later : State) → steps productions f n later ≡ steps productions g n later)
          → ◌≡◌ {A = State}
          (elim p [ Nowhere ↦ state | At place row ↦ steps productions f n (rewrite f row place state) ])
          (elim p [ Nowhere ↦ state | At place row ↦ steps productions g n (rewrite g row place state) ])
      by Nowhere same-later = refl
      by (At place row) same-later = ap (steps productions f n) (rewrite-same row place state)
          ∙ same-later (rewrite g row place state)

  normal-same : (state : State) → normal productions f state ≡ normal productions g state
  unfolding normal
  normal-same state = steps-same (weight state.scraps) state

  -- ## Texts

  end-same : (m : Made) → end_of f m ≡ end_of g m
  end-same m = ap (λ (done : State). ended_as (state_in m.scraps m.known) done m.known)
      (normal-same (state_in m.scraps m.known))

  group-same : (k : TokKind) (token : Seen) (m : Made) → group_made f k token m ≡ group_made g k token m
  group-same kind.InnerText token m = ap as_item (end-same m)
  group-same k token m = refl

  made-same : (name other : ℕ → Known → Made) → name ≡ other → (ns : Nest) (known : Known)
      → made f name ns known ≡ made g other ns known
  made-same name other names End known = refl
  made-same name other names (Leaf token rest) known =
      λ i. made_before (token_made (names i) token.kind token known) (λ k. made-same name other names rest k i)
  made-same name other names (Group token inner rest) known =
      (λ i. made_before (group_made f token.kind token (made-same name other names inner known i))
      (λ k. made-same name other names rest k i))
      ∙ ap (λ (m : Made). made_before m (made g other rest)) (group-same token.kind token (made g other inner known))

  plain-same : (answers : List Answer) (known : Known) → plain_text f answers known ≡ plain_text g answers known
  plain-same answers known = ap (end_of f) (made-same no_name no_name refl (nest answers) known)
      ∙ end-same (made g no_name (nest answers) known)

  -- ## Section names

  texts-same : (texts : List (List Answer)) (behind : Tree) (known : Known)
      → texts_made f texts behind known ≡ texts_made g texts behind known
  texts-same [] behind known = refl
  texts-same (text ∷ texts) behind known =
      λ i. then_texts (plain-same text known i) (λ k. texts-same texts behind k i)

  named-same : (texts : Option (List (List Answer))) (c : Cat) (mode : MathMode) (behind : Tree) (number : ℕ)
      (known : Known) → texts_named f texts c mode behind number known ≡ texts_named g texts c mode behind number known
  named-same None c mode behind number known = refl
  named-same (Some texts) c mode behind number known = ap (scrap_of_name c mode number)
      (texts-same texts (Then (Sign control.NameEnd) behind) known)

  leaf-same : (named : NameTexts) → leaf_of_name f named ≡ leaf_of_name g named
  leaf-same named = λ i number known. named-same (named number) cat.SectionScrap Maybe Empty number known i

  -- ## Whole texts

  head-same : (named : NameTexts) (h : Head) (known : Known) → head_made f named h known ≡ head_made g named h known
  head-same named Headless known = refl
  head-same named (Macro number words) known = refl
  head-same named (Format number words) known = refl
  head-same named (Silent words) known = refl
  head-same named (Named number sign) known = named-same (named number) cat.Dead Text (sign_behind sign) number known

  translated-same : (named : NameTexts) (answers : List Answer) (names : List Entry) (marks : List ℕ)
      → translated f named answers names marks ≡ translated g named answers names marks
  unfolding translated
  translated-same named answers names marks =
      let h = headed (nest answers) in
      let known : Known = begin names marks in
      (λ i. end_of f (made_before (head-same named h.head known i)
      (λ k. made-same (leaf_of_name f named) (leaf_of_name g named) (leaf-same named) h.rest k i)))
      ∙ end-same (headed_made g named h known)

pub as-at-first : (f : Flags) → TranslateAsAtFirst f → (named : NameTexts) (answers : List Answer) (names : List Entry)
    → translated f named answers names [] ≡ translated start_flags named answers names []
as-at-first f same named answers names = translated-same f start_flags (choose-same f same) named answers names []
