-- The tree of a translation is braced, where the operators of all texts that ended hold no text.
use Rattle.cw_brace_laws.proofs.Terms.{arith, ◌≡◌, ℕ, true, false, Option, Some, None, List, [], ◌∷◌, ◌++◌, get_or}
use Rattle.cw_brace_laws.proofs.Terms.{refl, ap, ◌∙◌, nat_tests, All, list_all, All-append, All-cons, All-head, All-nil}
use Rattle.cw_brace_laws.proofs.Terms.{All-tail, not-both, Cat, Flags, MathMode, Text, Maybe, Entry, TokKind, LeafForm}
use Rattle.cw_brace_laws.proofs.Terms.{names_with, token_form, row_is_braced, State, productions, row_is_sound, Token}
use Rattle.cw_brace_laws.proofs.Terms.{CommentItem, Ended, InnerText, Known, Made, NameTexts, begin, beside}
use Rattle.cw_brace_laws.proofs.Terms.{comment_rest, comment_scrap, dead, dollared, end_of, first_word, form_made}
use Rattle.cw_brace_laws.proofs.Terms.{group_made, head_made, headed_made, later_words, leaf_of_name, leaf_scrap, made}
use Rattle.cw_brace_laws.proofs.Terms.{name_in_text, names_in_text, no_name, nothing, one_scrap, plain_text}
use Rattle.cw_brace_laws.proofs.Terms.{sign_behind, spelled, state_in, texts_made, texts_named, token_made, with_names}
use Rattle.cw_brace_laws.proofs.Terms.{word_tokens, Scrap, Tree, Empty, Then, Inner, Sign, IsBraced, depth_of, leads_on}
use Rattle.cw_brace_laws.proofs.Terms.{outside, HasCleanOperators}
use Rattle.cw_lex.specs.Heads.{Head, Headed, Headless, Macro, Format, Silent, Named, headed}
use Rattle.cw_lex.specs.Nest.{Nest, End, Leaf, Group, nest}
use Rattle.cw_rules.specs.Answers.{Answer, Seen}
use Rattle.cw_translator.specs.Translating.{Piece, translated}
use Rattle.cw_brace_laws.proofs.CleanScraps.{IsLeafScrap, is_clean, leaf-is-braced}
use Rattle.cw_brace_laws.proofs.Leaves.{AreFlat, FormBraced, flat-append, flat-braced, token-braced, token-flat}
use Rattle.cw_brace_laws.proofs.Wholes.{reduction-braced}
use Rattle.cw_base.specs.declared.category.Cat.TheVariants as cat
use Rattle.cw_rules.specs.declared.codes.Code.TheVariants as code
use Rattle.cw_rules.specs.declared.tokens.TokKind.TheVariants as kind
use Rattle.cw_tokens.specs.declared.token.Token.TheVariants as token
use Rattle.cw_trees.specs.declared.Control.TheVariants as control

-- ## Lists

all-left : {A : Type 0} (P : A → Type 0) (xs ys : List A) → All P (xs ++ ys) → All P xs
all-left P [] ys all = All-nil P
all-left P (x ∷ xs) ys all = All-cons P x xs (All-head P x (xs ++ ys) all)
    (all-left P xs ys (All-tail P x (xs ++ ys) all))

all-last : {A : Type 0} (P : A → Type 0) (xs : List A) (y : A) → All P (xs ++ y ∷ []) → P y
all-last P [] y all = All-head P y [] all
all-last P (x ∷ xs) y all = all-last P xs y (All-tail P x (xs ++ y ∷ []) all)

one : {A : Type 0} (P : A → Type 0) (x : A) → P x → All P (x ∷ [])
one P x h = All-cons P x [] h (All-nil P)

-- ## Trees

inner-braced : (tree rest : Tree) → IsBraced tree → IsBraced rest → IsBraced (Inner tree rest)
inner-braced tree rest h r = ap (λ o. leads_on (leads_on o outside) (depth_of rest)) h ∙ r

-- a scrap that is no operator and none of a calm category
loud : (scrap : Scrap) → is_clean scrap.cat ≡ false → IsBraced scrap.tree → IsLeafScrap scrap
loud scrap other h = record { braced = h; clean = λ e. not-both (is_clean scrap.cat) e other }

abbrev ItemBraced : CommentItem → Type 0
ItemBraced (Piece number) = Unit {0}
ItemBraced (InnerText tree) = IsBraced tree

comment-braced : (items : List CommentItem) → All ItemBraced items → IsBraced (comment_rest items)
comment-braced [] all = refl
comment-braced (Piece number ∷ items) all = comment-braced items (All-tail ItemBraced (Piece number) items all)
comment-braced (InnerText tree ∷ items) all = inner-braced tree (comment_rest items) (All-head ItemBraced
    (InnerText tree) items all) (comment-braced items (All-tail ItemBraced (InnerText tree) items all))

-- ## What is made

-- What is asked of the texts that ended: their operators hold no text, or what makes sure of that.
abbrev AreClean : (State → Type 0) → Known → Type 0
AreClean C known = All C known.ended

-- what was made after this was known
record Brings (C : State → Type 0) (known : Known) (m : Made) : Type 0 where
  clean : AreClean C known
  scraps : All IsLeafScrap m.scraps
  items : All ItemBraced m.items

-- what is made is braced, if that holds of the texts that ended by then
abbrev Makes : (State → Type 0) → Known → Made → Type 0
Makes C known m = AreClean C m.known → Brings C known m

record Ends (C : State → Type 0) (known : Known) (text : Ended) : Type 0 where
  clean : AreClean C known
  tree : IsBraced text.tree

abbrev MakesNames : (State → Type 0) → (ℕ → Known → Made) → Type 0
MakesNames C name = (number : ℕ) (known : Known) → Makes C known (name number known)

nothing-made : (C : State → Type 0) (known : Known) → Makes C known (nothing known)
nothing-made C known clean = record { clean = clean; scraps = All-nil IsLeafScrap; items = All-nil ItemBraced }

scrap-named : (C : State → Type 0) (known : Known) (names : List Entry) (scrap : Scrap) → IsLeafScrap scrap
    → Makes C known (one_scrap scrap (with_names names known))
scrap-named C known names scrap h clean = grind (arith, nat_tests, one)

beside-made : (C : State → Type 0) (known : Known) (a b : Made) → Makes C known a → Makes C a.known b
    → Makes C known (beside a b)
beside-made C known a b first second clean =
    let g = second clean in
    let f = first g.clean in
    record {
      clean = f.clean;
      scraps = All-append IsLeafScrap a.scraps b.scraps f.scraps g.scraps;
      items = All-append ItemBraced a.items b.items f.items g.items;
    }

-- ## The tokens of heads

dollared-flat : (tokens : List Token) → AreFlat tokens → AreFlat (dollared tokens)
dollared-flat tokens all = grind (arith, nat_tests, flat-append)

names-flat : (words : List Token) → AreFlat words → AreFlat (names_in_text words)
names-flat [] all = tt
names-flat (word ∷ words) all = flat-append
    (name_in_text word) (names_in_text words) (grind (arith, nat_tests, dollared-flat)) (names-flat words all.1)

spelled-flat : (words : List Seen) (names : List Entry) → AreFlat (spelled words names).tokens
spelled-flat [] names = tt
spelled-flat (word ∷ words) names = flat-append (word_tokens word names) (spelled words
    (names_with word.kind word.text names)).tokens
    (token-flat word.kind word.text word.hash_line word.directive word.span.start names)
    (spelled-flat words (names_with word.kind word.text names))

dead-braced : (number : ℕ) (tokens : List Token) → AreFlat tokens → IsLeafScrap (leaf_scrap (dead number tokens))
dead-braced number tokens all = loud (leaf_scrap (dead number tokens)) refl (flat-braced tokens all)

module _ (sound : list_all row_is_sound productions ≡ true) (braced : list_all row_is_braced productions ≡ true)
    (flags : Flags) (C : State → Type 0)
    (uses : (state : State) → C state → All IsLeafScrap state.scraps → HasCleanOperators flags state) where
  -- ## Texts and comments

  end-made : (known : Known) (m : Made) → Makes C known m → AreClean C (end_of flags m).known
      → Ends C known (end_of flags m)
  end-made known m made_ clean =
      let f = made_ (all-left C m.known.ended (state_in m.scraps m.known ∷ []) clean) in
      record {
        clean = f.clean;
        tree = reduction-braced sound braced flags (state_in m.scraps m.known)
            (uses (state_in m.scraps m.known) (all-last C m.known.ended (state_in m.scraps m.known) clean) f.scraps)
            (λ i d lt. leaf-is-braced (get_or m.scraps i d) (f.scraps i d lt));
      }

  form-made : (o : Option LeafForm) (known : Known) (names : List Entry) → FormBraced o
      → Makes C known (form_made o (with_names names known))
  form-made None known names h = λ clean. grind (arith, nat_tests)
  form-made (Some form) known names h = scrap-named C known names (leaf_scrap form) h

  token-made : (name : ℕ → Known → Made) → MakesNames C name → (k : TokKind) (t : Seen) (known : Known)
      → Makes C known (token_made name k t known)
  token-made name names kind.Text t known clean = record {
    clean = clean;
    scraps = All-nil IsLeafScrap;
    items = one ItemBraced (Piece t.span.start) tt;
  }
  token-made name names (kind.Code code.SectionName) t known clean = names t.span.start known clean
  token-made name names (kind.Code code.FileName) t known clean = names t.span.start known clean
  token-made name names k t known clean = form-made
      (token_form k t.text t.hash_line t.directive t.span.start known.names) known (names_with k t.text known.names)
      (token-braced k t.text t.hash_line t.directive t.span.start known.names) clean

  group-made : (k : TokKind) (t : Seen) (known : Known) (m : Made) → Makes C known m
      → Makes C known (group_made flags k t m)
  group-made kind.InnerText t known m made_ clean =
      let e = end-made known m made_ clean in
      record {
        clean = e.clean;
        scraps = All-nil IsLeafScrap;
        items = one ItemBraced (InnerText (end_of flags m).tree) e.tree;
      }
  group-made k t known m made_ clean =
      let f = made_ clean in
      record {
        clean = f.clean;
        scraps = one IsLeafScrap (comment_scrap t.span.start m.items)
            (loud (comment_scrap t.span.start m.items) refl (comment-braced m.items f.items));
        items = All-nil ItemBraced;
      }

  nest-made : (name : ℕ → Known → Made) → MakesNames C name → (n : Nest) (known : Known)
      → Makes C known (made flags name n known)
  nest-made name names End known = nothing-made C known
  nest-made name names (Leaf t rest) known =
      let first = token_made name t.kind t known in
      beside-made C known first (made flags name rest first.known) (token-made name names t.kind t known)
      (nest-made name names rest first.known)
  nest-made name names (Group t inner rest) known =
      let within = made flags name inner known in
      let first = group_made flags t.kind t within in
      beside-made C known first (made flags name rest first.known)
      (group-made t.kind t known within (nest-made name names inner known)) (nest-made name names rest first.known)

  -- ## Section names

  texts-end : (texts : List (List Answer)) (behind : Tree) (known : Known) → IsBraced behind
      → AreClean C (texts_made flags texts behind known).known → Ends C known (texts_made flags texts behind known)
  texts-end [] behind known h clean = record { clean = clean; tree = h }
  texts-end (text ∷ texts) behind known h clean =
      let more = texts-end texts behind (plain_text flags text known).known h clean in
      let here = ((end-made known (made flags no_name (nest text) known)
      (nest-made no_name (λ number k. nothing-made C k) (nest text) known)) more.clean) in
      record {
        clean = here.clean;
        tree = inner-braced (plain_text flags text known).tree (Then (Sign control.NameText)
            (texts_made flags texts behind (plain_text flags text known).known).tree) here.tree more.tree;
      }

  named-made : (o : Option (List (List Answer))) (c : Cat) (mode : MathMode) (behind : Tree) (number : ℕ) (known
      : Known) → is_clean c ≡ false → IsBraced behind → Makes C known (texts_named flags o c mode behind number known)
  named-made None c mode behind number known other h clean = nothing-made C known clean
  named-made (Some texts) c mode behind number known other h clean =
      grind (arith, nat_tests, texts-end texts (Then (Sign control.NameEnd) behind) known h clean)

  name-made : (named : NameTexts) → MakesNames C (leaf_of_name flags named)
  name-made named number known = named-made (named number) cat.SectionScrap Maybe Empty number known refl refl

  -- ## Heads

  head-made : (named : NameTexts) (h : Head) (known : Known) → Makes C known (head_made flags named h known)
  head-made named Headless known = nothing-made C known
  head-made named (Silent words) known = λ clean. grind (arith, nat_tests)
  head-made named (Macro number words) known =
      let p = spelled words known.names in
      scrap-named C known p.names _ (dead-braced number (dollared p.tokens ++ token.Control control.OptionalBreak ∷ [])
      (flat-append (dollared p.tokens) (token.Control control.OptionalBreak ∷ [])
      (dollared-flat p.tokens (spelled-flat words known.names)) (((λ rest. refl), tt))))
  head-made named (Format number words) known =
      let p = spelled (first_word words) known.names in
      let q = spelled (later_words words) p.names in
      scrap-named C known q.names _ (dead-braced number (names_in_text p.tokens ++ token.Control control.OptionalBreak
      ∷ names_in_text q.tokens) (flat-append (names_in_text p.tokens) (token.Control control.OptionalBreak
      ∷ names_in_text q.tokens) (names-flat p.tokens (spelled-flat (first_word words) known.names))
      ((λ rest. refl), names-flat q.tokens (spelled-flat (later_words words) p.names))))
  head-made named (Named number sign) known =
      named-made (named number) cat.Dead Text (sign_behind sign) number known refl refl

  -- ## The whole text

  headed-made : (named : NameTexts) (h : Headed) (known : Known) → Makes C known (headed_made flags named h known)
  headed-made named h known =
      let first = head_made flags named h.head known in
      beside-made C known first (made flags (leaf_of_name flags named) h.rest first.known)
      (head-made named h.head known) (nest-made (leaf_of_name flags named) (name-made named) h.rest first.known)

  pub translation-braced : (named : NameTexts) (answers : List Answer) (names : List Entry) (marks : List ℕ)
      → All C (translated flags named answers names marks).known.ended
      → IsBraced (translated flags named answers names marks).tree
  unfolding translated
  translation-braced named answers names marks clean = (end-made (begin names marks) (headed_made flags named (headed
      (nest answers)) (begin names marks)) (headed-made named (headed (nest answers)) (begin names marks)) clean).tree
