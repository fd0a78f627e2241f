-- What is made of the tokens of a text has the bytes of its tokens, and so has its whole translation.
use Rattle.cw_rules.specs.declared.tokens.Directive.{Directive}
use Rattle.cw_plain_laws.proofs.Terms.{arith, ◌≡◌, ℕ, Bool, true, false, not, is_some, Option, Some, None, List, []}
use Rattle.cw_plain_laws.proofs.Terms.{◌∷◌, ◌++◌, refl, if◌then◌else◌, ap, subst, ◌∙◌, All, list_all, append-nil}
use Rattle.cw_plain_laws.proofs.Terms.{append_assoc, All-append, All-nil, common_steps, both-left, both-right, Cat, Exp}
use Rattle.cw_plain_laws.proofs.Terms.{Flags, MathMode, Text, Head, Headless, Macro, Format, Silent, Named, Headed}
use Rattle.cw_plain_laws.proofs.Terms.{Words, headed, headed_by, headless, head_behind, head_words, named_headed}
use Rattle.cw_plain_laws.proofs.Terms.{no_word, word_before, Nest, End, Leaf, Group, IsGroupOf, IsWell, NameId, Entry}
use Rattle.cw_plain_laws.proofs.Terms.{PlainSource, Answer, Seen, is_head_sign, TokKind, if-both, LeafForm, names_with}
use Rattle.cw_plain_laws.proofs.Terms.{token_form, word_form, tree_in, Scrap, Tree, Empty, Then, Sign}
use Rattle.cw_lex.specs.declared.heads.Expectation.{Expectation}
use Rattle.cw_plain_laws.proofs.{FoundTokens.AllOf, FoundTokens.IsFound, KeptTrees.OfScrap, KeptTrees.end-kept}
use Rattle.cw_plain_laws.proofs.{Walks.Walks}
use Rattle.cw_plain_laws.proofs.LeafWalks.{FormWalks, ItemWalks, Owns, TokensWalk, comment-walks, form-walks}
use Rattle.cw_plain_laws.proofs.LeafWalks.{found-owns, is_name, name-walks, source-walks, stays, word-walks}
use Rattle.cw_plain_laws.proofs.WalkLaws.{empty-walks, reserve-walks, sign-walks, sub-walks}
use Rattle.cw_reduce.proofs.HeadAnswers.{first-all, head-words-fit, later-all, word_kind}
use Rattle.cw_scraps.specs.model.Words.{is_word}
use Rattle.cw_tokens.specs.declared.token.Token.{Token}
use Rattle.cw_translator.specs.Translating.{CommentItem, Piece, Known, Made, NameTexts, beside, dead, dollared, end_of}
use Rattle.cw_translator.specs.Translating.{first_word, form_made, group_made, head_made, headed_made, later_words}
use Rattle.cw_translator.specs.Translating.{leaf_of_name, leaf_scrap, is_macro, made, name_in_text, names_in_text}
use Rattle.cw_translator.specs.Translating.{one_item, one_scrap, sign_behind, spelled, state_in, texts_named}
use Rattle.cw_translator.specs.Translating.{token_made, with_names, word_tokens}
use Rattle.cw_trees.specs.Tree.{Source as SourceLeaf}
use Rattle.cw_rules.specs.declared.codes.Code.TheVariants as code
use Rattle.cw_rules.specs.declared.tokens.TokKind.TheVariants as kind
use Rattle.cw_tokens.specs.declared.token.Token.TheVariants as token
use Rattle.cw_trees.specs.declared.Control.TheVariants as control
use Rattle.std.specs.Option.{option_map_or}

-- ## Scraps and items

pub record MadeWalks (s : PlainSource) (m : Made) : Type 0 where
  pub scraps : All (OfScrap (Walks s)) m.scraps
  pub items : All (ItemWalks s) m.items

made-none : (s : PlainSource) (known : Known) → MadeWalks s (record { scraps = []; items = []; known = known })
made-none s known = record { scraps = All-nil (OfScrap (Walks s)); items = All-nil (ItemWalks s) }

made-scrap : (s : PlainSource) (scrap : Scrap) (known : Known) → Walks s scrap.tree → MadeWalks s
    (one_scrap scrap known)
made-scrap s scrap known walks = grind arith

made-item : (s : PlainSource) (item : CommentItem) (known : Known) → ItemWalks s item
    → MadeWalks s (one_item item known)
made-item s item known walks = grind arith

made-beside : (s : PlainSource) (a b : Made) → MadeWalks s a → MadeWalks s b → MadeWalks s (beside a b)
made-beside s a b f g = record {
  scraps = All-append (OfScrap (Walks s)) a.scraps b.scraps f.scraps g.scraps;
  items = All-append (ItemWalks s) a.items b.items f.items g.items;
}

made-end : (s : PlainSource) (flags : Flags) (m : Made) → MadeWalks s m → Walks s (end_of flags m).tree
made-end s flags m f = end-kept (Walks s) (empty-walks s) (sub-walks s) (sign-walks s) (reserve-walks s) flags
    (state_in m.scraps m.known) f.scraps

-- ## Tokens, comments and inner texts

-- what the section names of a text make
abbrev NamesWalk : PlainSource → (ℕ → Known → Made) → Type 0
NamesWalk s name = (t : Seen) (known : Known) → IsFound s.answers t → is_name t.kind ≡ true
    → MadeWalks s (name t.span.start known)

whole-tokens : (s : PlainSource) (tokens : List Token) → TokensWalk s tokens → Walks s (tree_in [] tokens)
whole-tokens s tokens walks = subst (λ ts. Walks s (tree_in [] ts)) (append-nil tokens) (walks [] (empty-walks s))

form-made : (s : PlainSource) (o : Option LeafForm) (known : Known) → FormWalks s o → MadeWalks s (form_made o known)
form-made s o known walks = grind (arith, made-none, made-scrap, whole-tokens)

token-made : (s : PlainSource) (name : ℕ → Known → Made) → NamesWalk s name → (k : TokKind) (t : Seen) (known : Known)
    → t.kind ≡ k → IsFound s.answers t → MadeWalks s (token_made name k t known)
token-made s name names kind.Text t known e found =
    made-item s (Piece t.span.start) known (found-owns s t found (ap stays e))
token-made s name names (kind.Code code.SectionName) t known e found = names t known found (ap is_name e)
token-made s name names (kind.Code code.FileName) t known e found = names t known found (ap is_name e)
token-made s name names k t known e found = form-made s (token_form k t.text t.hash_line t.directive t.span.start
    known.names)
    (with_names (names_with k t.text known.names) known)
    (form-walks s k t.text t.hash_line t.directive t.span.start known.names (λ stay. found-owns s t found (ap stays e ∙
    stay)))

group-made : (s : PlainSource) (flags : Flags) (comment : Bool) (k : TokKind) (t : Seen) (m : Made) → t.kind ≡ k
    → IsFound s.answers t → IsGroupOf comment k → MadeWalks s m → MadeWalks s (group_made flags k t m)
group-made s flags comment k t m e found is walks = grind (arith, made-item, made-end, made-scrap, comment-walks)

nest-made : (s : PlainSource) (flags : Flags) (name : ℕ → Known → Made) → NamesWalk s name → (n : Nest) (comment : Bool)
    (known : Known) → IsWell comment n → AllOf (IsFound s.answers) n → MadeWalks s (made flags name n known)
nest-made s flags name names End comment known well all = made-none s known
nest-made s flags name names (Leaf t rest) comment known well all =
    let first = token_made name t.kind t known in
    made-beside s first (made flags name rest first.known) (token-made s name names t.kind t known refl all.0)
    (nest-made s flags name names rest comment first.known well.1 all.1)
nest-made s flags name names (Group t inner rest) comment known well all =
    let within = made flags name inner known in
    let first = group_made flags t.kind t within in
    made-beside s first (made flags name rest first.known) (group-made s flags comment t.kind t within refl all.0 well.0
    (nest-made s flags name names inner (not comment) known well.1 all.1))
    (nest-made s flags name names rest comment first.known well.2 all.2)

-- ## Section names

named-made : (s : PlainSource) (flags : Flags) (o : Option (List (List Answer))) (title : Option (List ℕ)) (c : Cat)
    (mode : MathMode) (behind : Tree) (t : Seen) (known : Known) → IsFound s.answers t → is_name t.kind ≡ true
    → s.titles t.span.start ≡ title → is_some title ≡ is_some o → Walks s behind
    → MadeWalks s (texts_named flags o c mode behind t.span.start known)
named-made s flags o title c mode behind t known found is at titled walks =
    grind (arith, made-none, made-scrap, name-walks)

-- each section name that stands for something has a title, and another has none
abbrev pub AreTitled : PlainSource → NameTexts → Type 0
AreTitled s named = (number : ℕ) → is_some (s.titles number) ≡ is_some (named number)

names-made : (s : PlainSource) (flags : Flags) (named : NameTexts) → AreTitled s named
    → NamesWalk s (leaf_of_name flags named)
names-made s flags named titled t known found is = named-made s flags (named t.span.start)
    (s.titles t.span.start) _ _ Empty t known found is refl (titled t.span.start) (empty-walks s)

-- ## Heads

-- of each of these
abbrev pub Each : (Seen → Type 0) → List Seen → Type 0
Each P [] = Unit {0}
Each P (t ∷ ts) = P t × Each P ts

pub record WordsAre (P : Seen → Type 0) (w : Words) : Type 0 where
  pub words : Each P w.words
  pub rest : AllOf P w.rest

head-words-are : (P : Seen → Type 0) (wanted : Expectation) (n : Nest) → AllOf P n → WordsAre P (head_words wanted n)
head-words-are P wanted End all = record { words = tt; rest = tt }
head-words-are P wanted (Group t inner rest) all = record { words = tt; rest = all }
head-words-are P wanted (Leaf t rest) all =
    by (head_behind wanted t.kind t.span) (λ next. head-words-are P next rest all.1)
  where
    by : (o : Option Expectation) → ((next : Expectation) → WordsAre P (head_words next rest))
        → WordsAre P (elim o as (λ o. Words) [
          | Some next ↦ word_before t (head_words next rest)
          | None ↦ no_word (Leaf t rest)
        ])
    by None more = record { words = tt; rest = all }
    by (Some next) more = record { words = (all.0, (more next).words); rest = (more next).rest }

-- the tokens of a head
abbrev NumberOf : PlainSource → (TokKind → Bool) → ℕ → Type 0
NumberOf s test number = (t : Seen) × ((t.span.start ≡ number) × (IsFound s.answers t × (test t.kind ≡ true)))

record WordsFound (s : PlainSource) (words : List Seen) : Type 0 where
  fit : list_all word_kind words ≡ true
  each : Each (IsFound s.answers) words

abbrev HeadFound : PlainSource → Head → Type 0
HeadFound s Headless = Unit {0}
HeadFound s (Macro number words) = NumberOf s stays number × WordsFound s words
HeadFound s (Format number words) = NumberOf s stays number × WordsFound s words
HeadFound s (Silent words) = Unit {0}
HeadFound s (Named number sign) = NumberOf s is_name number × NumberOf s stays sign

record HeadedFound (s : PlainSource) (h : Headed) : Type 0 where
  head : HeadFound s h.head
  rest : AllOf (IsFound s.answers) h.rest

headless-found : (s : PlainSource) (n : Nest) → AllOf (IsFound s.answers) n → HeadedFound s (headless n)
headless-found s n all = record { head = tt; rest = all }

sign-stays : (k : TokKind) → is_head_sign k ≡ true → stays k ≡ true
sign-stays k e = grind arith

named-found-if : (s : PlainSource) (b : Bool) (t u : Seen) (rest : Nest) → is_name t.kind ≡ true → is_head_sign u.kind
    ≡ b
    → AllOf (IsFound s.answers) (Leaf t (Leaf u rest)) → HeadedFound s
    (if b then record { head = Named t.span.start u.span.start; rest = rest } else headless (Leaf t (Leaf u rest)))
named-found-if s b t u rest is sign all = grind (arith, sign-stays, headless-found)

named-found : (s : PlainSource) (t : Seen) (rest : Nest) → is_name t.kind ≡ true → AllOf (IsFound s.answers)
    (Leaf t rest)
    → HeadedFound s (named_headed t rest)
named-found s t rest is all = grind (arith, headless-found, named-found-if)

head-found-by : (s : PlainSource) (k : TokKind) (t : Seen) (rest : Nest) → t.kind ≡ k
    → AllOf (IsFound s.answers) (Leaf t rest) → HeadedFound s (headed_by k t rest)
head-found-by s k t rest e all =
    grind (arith, head-words-are, stays, head-words-fit, named-found, is_name, headless-found)

head-found : (s : PlainSource) (n : Nest) → AllOf (IsFound s.answers) n → HeadedFound s (headed n)
head-found s n all = grind (arith, headless-found, head-found-by)

number-owns : (s : PlainSource) (number : ℕ) → NumberOf s stays number → Owns s number
number-owns s number is = subst (Owns s) is.1.0 (found-owns s is.0 is.1.1.0 is.1.1.1)

-- the words of a head
tokens-none : (s : PlainSource) → TokensWalk s []
tokens-none s rest walks = walks

tokens-append : (s : PlainSource) (xs ys : List Token) → TokensWalk s xs → TokensWalk s ys → TokensWalk s (xs ++ ys)
tokens-append s xs ys f g rest walks = grind (arith, append_assoc)

word-stays : (k : TokKind) → is_word k ≡ true → stays k ≡ true
word-stays k e = grind arith

-- each of some tokens has its bytes
abbrev EachWalks : PlainSource → List Token → Type 0
EachWalks s [] = Unit {0}
EachWalks s (t ∷ ts) = TokensWalk s (t ∷ []) × EachWalks s ts

each-walk : (s : PlainSource) (tokens : List Token) → EachWalks s tokens → TokensWalk s tokens
each-walk s [] each = tokens-none s
each-walk s (t ∷ ts) each = tokens-append s (t ∷ []) ts each.0 (each-walk s ts each.1)

each-append : (s : PlainSource) (xs ys : List Token) → EachWalks s xs → EachWalks s ys → EachWalks s (xs ++ ys)
each-append s [] ys f g = g
each-append s (x ∷ xs) ys f g = (f.0, each-append s xs ys f.1 g)

-- a name has one token
name-each : (s : PlainSource) (c : Cat) (name : NameId) (n : ℕ) → Owns s n → EachWalks s (word_form c name n).tokens
name-each s Exp name n owns = (word-walks s Exp name n owns, tt)
name-each s c name n owns = (word-walks s c name n owns, tt)

word-each : (s : PlainSource) (k : TokKind) (text : List ℕ) (hash_line : Bool) (d : Directive) (n : ℕ)
    (names : List Entry)
    → is_word k ≡ true → Owns s n → EachWalks s (option_map_or (λ form. form.tokens)
    (token_form k text hash_line d n names) [])
word-each s k text hash_line d n names is owns = grind (arith, name-each, form-walks)

spelled-each : (s : PlainSource) (words : List Seen) (names : List Entry) → list_all word_kind words ≡ true
    → Each (IsFound s.answers) words → EachWalks s (spelled words names).tokens
spelled-each s [] names are all = tt
spelled-each s (t ∷ words) names are all =
    let is : is_word t.kind ≡ true = both-left (word_kind t) (list_all word_kind words) are in
    let owns : Owns s t.span.start = found-owns s t all.0 (word-stays t.kind is) in
    each-append s (word_tokens t names) (spelled words (names_with t.kind t.text names)).tokens
    (word-each s t.kind t.text t.hash_line t.directive t.span.start names is owns) (spelled-each s words
    (names_with t.kind t.text names) (both-right (word_kind t) (list_all word_kind words) are) all.1)

control-walks : (s : PlainSource) (rest : List Token) → Walks s (tree_in [] rest)
    → Walks s (tree_in [] (token.Control control.Dollar ∷ rest))
control-walks s rest walks = sign-walks s control.Dollar (tree_in [] rest) tt walks

dollared-walks : (s : PlainSource) (tokens : List Token) → TokensWalk s tokens → TokensWalk s (dollared tokens)
dollared-walks s [] walks = tokens-none s
dollared-walks s (t ∷ ts) walks = grind (arith, common_steps, control-walks, tokens-append)

-- the names of a format definition, with the dollars of macros of TeX
names-walk : (s : PlainSource) (tokens : List Token) → EachWalks s tokens → TokensWalk s (names_in_text tokens)
names-walk s [] each = tokens-none s
names-walk s (t ∷ ts) each = tokens-append s (name_in_text t) (names_in_text ts) (if-both (TokensWalk s) (is_macro t)
    (dollared (t ∷ [])) (t ∷ []) (λ h. dollared-walks s (t ∷ []) each.0) (λ h. each.0)) (names-walk s ts each.1)

break-walks : (s : PlainSource) → TokensWalk s (token.Control control.OptionalBreak ∷ [])
break-walks s rest walks = sign-walks s control.OptionalBreak (tree_in [] rest) tt walks

dead-made : (s : PlainSource) (number : ℕ) (tokens : List Token) (known : Known) → Owns s number → TokensWalk s tokens
    → MadeWalks s (one_scrap (leaf_scrap (dead number tokens)) known)
dead-made s number tokens known owns walks = made-scrap s (leaf_scrap (dead number tokens)) known
    (sign-walks s control.Backup (Then (SourceLeaf number Text) (tree_in [] tokens)) tt
    (source-walks s number Text (tree_in [] tokens) owns (whole-tokens s tokens walks)))

each-first : (P : Seen → Type 0) (words : List Seen) → Each P words → Each P (first_word words)
each-first P [] all = tt
each-first P (w ∷ words) all = (all.0, tt)

each-later : (P : Seen → Type 0) (words : List Seen) → Each P words → Each P (later_words words)
each-later P words all = grind arith

head-made : (s : PlainSource) (flags : Flags) (named : NameTexts) → AreTitled s named → (h : Head) (known : Known)
    → HeadFound s h → MadeWalks s (head_made flags named h known)
head-made s flags named titled Headless known found = made-none s known
head-made s flags named titled (Silent words) known found = made-none s _
head-made s flags named titled (Macro number words) known found =
    let p = spelled words known.names in
    dead-made s number (dollared p.tokens ++ token.Control control.OptionalBreak ∷ []) _ (number-owns s number found.0)
    (tokens-append s (dollared p.tokens) (token.Control control.OptionalBreak ∷ []) (dollared-walks s p.tokens
    (each-walk s p.tokens (spelled-each s words known.names found.1.fit found.1.each))) (break-walks s))
head-made s flags named titled (Format number words) known found =
    let p = spelled (first_word words) known.names in
    let q = spelled (later_words words) p.names in
    let first = names_in_text p.tokens in
    let second = names_in_text q.tokens in
    dead-made s number (first ++ token.Control control.OptionalBreak ∷ second) _ (number-owns s number found.0)
    (tokens-append s first (token.Control control.OptionalBreak ∷ second)
    (names-walk s p.tokens (spelled-each s (first_word words) known.names (first-all word_kind words found.1.fit)
    (each-first (IsFound s.answers) words found.1.each))) (tokens-append s (token.Control control.OptionalBreak ∷ [])
    second (break-walks s) (names-walk s q.tokens (spelled-each s (later_words words) p.names
    (later-all word_kind words found.1.fit) (each-later (IsFound s.answers) words found.1.each)))))
head-made s flags named titled (Named number sign) known found =
    let t = found.0.0 in
    let behind = source-walks s sign Text (Then (Sign control.Break) Empty) (number-owns s sign found.1)
    (sign-walks s control.Break Empty tt (empty-walks s)) in
    subst (λ n. MadeWalks s (head_made flags named (Named n sign) known)) found.0.1.0
    (named-made s flags (named t.span.start) (s.titles t.span.start) _ _ (sign_behind sign) t known found.0.1.1.0
    found.0.1.1.1 refl (titled t.span.start) behind)

-- ## The whole text

pub headed-walks : (s : PlainSource) (flags : Flags) (named : NameTexts) (n : Nest) (known : Known)
    → AreTitled s named → IsWell false (headed n).rest → AllOf (IsFound s.answers) n
    → Walks s (end_of flags (headed_made flags named (headed n) known)).tree
headed-walks s flags named n known titled well all =
    let h = headed n in
    let f = head-found s n all in
    let first = head_made flags named h.head known in
    made-end s flags (headed_made flags named h known) (made-beside s first (made flags (leaf_of_name flags named)
    h.rest first.known) (head-made s flags named titled h.head known f.head) (nest-made s flags
    (leaf_of_name flags named) (names-made s flags named titled) h.rest false first.known well f.rest))
