-- What section names and heads make, and whole texts.
use Rattle.cw_log_laws.proofs.Terms.{◌≢◌, ℕ, ◌+◌, ◌≤◌, Option, Some, None, List, [], ◌∷◌, ◌++◌, arith, Cat, Flags}
use Rattle.cw_log_laws.proofs.Terms.{Answer, Seen, TokKind, Nest, Leaf, Group, nest, Entry, Tree, Empty, Then, Source}
use Rattle.cw_log_laws.proofs.Terms.{Sign, tree_in, names_with, token_form, greatest}
use Rattle.cw_base.specs.declared.mode.MathMode.{MathMode}
use Rattle.cw_base.specs.declared.mode.MathMode.TheVariants.{Text, Maybe}
use Rattle.cw_lex.specs.{declared.heads.Expectation.Expectation, Nest.End}
use Rattle.cw_lex.specs.Heads.{Head, Headless, Macro, Format, Silent, Named, Headed, headed, headed_by, head_behind}
use Rattle.cw_lex.specs.Heads.{Words, head_words, headless, named_headed, no_word, word_before}
use Rattle.cw_tokens.specs.declared.token.Token.{Token}
use Rattle.cw_translator.specs.Translating.{Known, NameTexts, Spelled, made_before, begin, dead, dollared, end_of}
use Rattle.cw_translator.specs.Translating.{first_word, format_made, head_made, headed_made, later_words, leaf_of_name}
use Rattle.cw_translator.specs.Translating.{leaf_scrap, macro_made, made, plain_text, sign_behind, spelled, texts_made}
use Rattle.cw_translator.specs.Translating.{name_in_text, names_in_text, texts_named, translated, with_names}
use Rattle.cw_translator.specs.Translating.{word_tokens}
use Rattle.cw_log_laws.proofs.{LaterNames.HaveCats, LaterNames.later-on, SpeltTokens.AreSpelt, SpeltTokens.IsSpelt}
use Rattle.cw_log_laws.proofs.CountedTokens.{nest-size, nest_size, tokens_in}
use Rattle.cw_log_laws.proofs.LeafScraps.{AreNamesBehind, form-tokens, names-behind, same-behind, token-logged}
use Rattle.cw_log_laws.proofs.LeafScraps.{tokens-append}
use Rattle.cw_log_laws.proofs.MadeTexts.{AreWellNamed, Grows, IsSpeltNest, IsWellMade, ended-grows, grows-names}
use Rattle.cw_log_laws.proofs.MadeTexts.{grows-none, grows-then, grows-wider, nest-spelt, plain-grows, well-before}
use Rattle.cw_log_laws.proofs.MadeTexts.{well-made, well-nothing, well-scrap, well-wider}
use Rattle.cw_log_laws.proofs.WrittenScraps.{IsLogged, IsWritten, written-later}
use Rattle.cw_base.specs.declared.category.Cat.TheVariants as cat
use Rattle.cw_trees.specs.declared.Control.TheVariants as control
use Rattle.cw_tokens.specs.declared.token.Token.TheVariants as token

-- ## Section names

-- Their inner texts have identifiers that are spelt so, and few tokens.
abbrev pub ArePlainTexts : List (List Answer) → Type 0
ArePlainTexts [] = Unit {0}
ArePlainTexts (answers ∷ texts) = (AreSpelt answers × (tokens_in answers ≤ greatest)) × ArePlainTexts texts

abbrev pub MayBePlain : Option (List (List Answer)) → Type 0
MayBePlain None = Unit {0}
MayBePlain (Some texts) = ArePlainTexts texts

-- A tree without identifiers is written over all names.
abbrev IsPlainTree : Tree → Type 0
IsPlainTree tree = (names : List Entry) → IsWritten names tree

texts-plain : (flags : Flags) (texts : List (List Answer)) (rest : Tree) (known : Known) → IsPlainTree rest
    → IsPlainTree (texts_made flags texts rest known).tree
texts-plain flags [] rest known h = h
texts-plain flags (answers ∷ texts) rest known h =
    λ names. (tt, texts-plain flags texts rest (plain_text flags answers known).known h names)

texts-grow : (flags : Flags) (texts : List (List Answer)) (rest : Tree) (known : Known) → HaveCats known.names
    → ArePlainTexts texts → Grows 0 known (texts_made flags texts rest known).known
texts-grow flags [] rest known cats h = grows-none known cats
texts-grow flags (answers ∷ texts) rest known cats h =
    let first = (plain_text flags answers known).known in
    let one = plain-grows flags answers known cats h.0.0 h.0.1 in
    grows-then 0 0 known first (texts_made flags texts rest first).known one
    (texts-grow flags texts rest first one.cats h.1)

name-well : (flags : Flags) (o : Option (List (List Answer))) (c : Cat) (mode : MathMode) (rest : Tree) (number : ℕ)
    (known : Known) → c ≢ cat.End → IsPlainTree rest → HaveCats known.names → MayBePlain o
    → IsWellMade 1 known (texts_named flags o c mode rest number known)
name-well flags None c mode rest number known real plain cats h = grind (arith, well-nothing, grows-wider, grows-none)
name-well flags (Some texts) c mode rest number known real plain cats h =
    let behind = Then (Sign control.NameEnd) rest in
    let all = texts_made flags texts behind known in
    well-scrap 1 known all.known (record {
      cat = c;
      tree = Then (Source number Maybe) all.tree;
      left = mode;
      right = mode;
    }) (omega arith) (record {
      written = (tt, texts-plain flags texts behind known (λ names. (tt, plain names)) all.known.names);
      real = real;
      bare = tt;
    }) (grows-wider 0 1 known all.known (omega arith) (texts-grow flags texts behind known cats h))

abbrev pub ArePlainNames : NameTexts → Type 0
ArePlainNames named = (number : ℕ) → MayBePlain (named number)

names-well : (flags : Flags) (named : NameTexts) → ArePlainNames named → AreWellNamed (leaf_of_name flags named)
names-well flags named h number known cats = name-well flags (named number) cat.SectionScrap Maybe Empty number known
    (λ e. absurd cc) (λ names. tt) cats (h number)

-- ## Words of heads

abbrev AreSpeltWords : List Seen → Type 0
AreSpeltWords [] = Unit {0}
AreSpeltWords (word ∷ words) = IsSpelt word.kind word.text × AreSpeltWords words

record IsWellSpelled (names : List Entry) (s : Spelled) : Type 0 where
  behind : AreNamesBehind names s.names
  cats : HaveCats s.names
  written : IsWritten s.names (tree_in [] s.tokens)

behind-on : (a b c : List Entry) → AreNamesBehind a b → AreNamesBehind b c → AreNamesBehind a c
behind-on a b c g h = (later-on a b c g.0 h.0, λ d. h.1 (g.1 d), λ k. h.2 (g.2 k))

word-written : (word : Seen) (names : List Entry) → IsSpelt word.kind word.text → HaveCats names
    → IsWritten (names_with word.kind word.text names) (tree_in [] (word_tokens word names))
word-written word names h cats = form-tokens (names_with word.kind word.text names) (token_form word.kind word.text
    word.hash_line word.directive word.span.start names) (token-logged word.kind word.text word.hash_line
    word.directive word.span.start names h cats)

well-spelled : (words : List Seen) (names : List Entry) → HaveCats names → AreSpeltWords words
    → IsWellSpelled names (spelled words names)
well-spelled [] names cats h = record { behind = same-behind names; cats = cats; written = tt }
well-spelled (word ∷ words) names cats h =
    let next = names_with word.kind word.text names in
    let one = names-behind word.kind word.text names in
    let rest = well-spelled words next (one.2 cats) h.1 in
    record {
      behind = behind-on names next (spelled words next).names one rest.behind;
      cats = rest.cats;
      written = tokens-append (spelled words next).names (word_tokens word names) (spelled words next).tokens
          (written-later next (spelled words next).names rest.behind.0 (tree_in [] (word_tokens word names))
          (word-written word names h.0 cats)) rest.written;
    }

-- ## Heads

dead-logged : (names : List Entry) (number : ℕ) (tokens : List Token) → IsWritten names (tree_in [] tokens)
    → IsLogged names (leaf_scrap (dead number tokens))
dead-logged names number tokens h = record { written = (tt, (tt, h)); real = λ e. absurd cc; bare = tt }

dollared-written : (names : List Entry) (tokens : List Token) → IsWritten names (tree_in [] tokens)
    → IsWritten names (tree_in [] (dollared tokens))
dollared-written names [] h = tt
dollared-written names (first ∷ tokens) h =
    (tt, tokens-append names (first ∷ tokens) (token.Control control.Dollar ∷ []) h (tt, tt))

-- the names of a format definition
split-written : (names : List Entry) (t : Token) (ts : List Token) → IsWritten names (tree_in [] (t ∷ ts))
    → IsWritten names (tree_in [] (t ∷ [])) × IsWritten names (tree_in [] ts)
split-written names t ts h = grind arith

name-written : (names : List Entry) (t : Token) → IsWritten names (tree_in [] (t ∷ []))
    → IsWritten names (tree_in [] (name_in_text t))
name-written names t h = grind (arith, dollared-written)

names-written : (names : List Entry) (ts : List Token) → IsWritten names (tree_in [] ts)
    → IsWritten names (tree_in [] (names_in_text ts))
names-written names [] h = tt
names-written names (t ∷ ts) h =
    let both = split-written names t ts h in
    tokens-append names (name_in_text t) (names_in_text ts) (name-written names t both.0)
    (names-written names ts both.1)

module _ (number : ℕ) (known : Known) where
  words-grow : (words : Spelled) → HaveCats known.names → IsWellSpelled known.names words
      → Grows 1 known (with_names words.names known)
  words-grow words cats s =
      grows-wider 0 1 known (with_names words.names known) (omega arith) (grows-names known words.names cats s.behind)

  macro-well : (words : Spelled) → HaveCats known.names → IsWellSpelled known.names words
      → IsWellMade 1 known (macro_made number words known)
  macro-well words cats s =
      let behind = token.Control control.OptionalBreak ∷ [] in
      well-scrap 1 known (with_names words.names known) (leaf_scrap (dead number (dollared words.tokens ++ behind)))
      (omega arith) (dead-logged words.names number (dollared words.tokens ++ behind) (tokens-append words.names
      (dollared words.tokens) behind (dollared-written words.names words.tokens s.written) (tt, tt)))
      (words-grow words cats s)

  format-well : (first second : Spelled) → HaveCats known.names → IsWellSpelled known.names first
      → IsWellSpelled first.names second → IsWellMade 1 known (format_made number first second known)
  format-well first second cats s t =
      let front = names_in_text first.tokens in
      let behind = token.Control control.OptionalBreak ∷ names_in_text second.tokens in
      well-scrap 1 known (with_names second.names known) (leaf_scrap (dead number (front ++ behind))) (omega arith)
      (dead-logged second.names number (front ++ behind)
      (tokens-append second.names front behind (written-later first.names second.names t.behind.0 (tree_in [] front)
      (names-written first.names first.tokens s.written)) (tt, names-written second.names second.tokens t.written)))
      (grows-wider 0 1 known (with_names second.names known) (omega arith)
      (grows-names known second.names cats (behind-on known.names first.names second.names s.behind t.behind)))

first-words : (words : List Seen) → AreSpeltWords words → AreSpeltWords (first_word words)
first-words words h = grind arith

other-words : (words : List Seen) → AreSpeltWords words → AreSpeltWords (later_words words)
other-words words h = grind arith

-- the words of a head
abbrev IsSpeltHead : Head → Type 0
IsSpeltHead (Macro number words) = AreSpeltWords words
IsSpeltHead (Format number words) = AreSpeltWords words
IsSpeltHead (Silent words) = AreSpeltWords words
IsSpeltHead head = Unit {0}

-- a head makes at most one scrap
abbrev head_size : Head → ℕ
head_size Headless = 0
head_size head = 1

head-well : (flags : Flags) (named : NameTexts) → ArePlainNames named → (head : Head) (known : Known)
    → HaveCats known.names → IsSpeltHead head → IsWellMade (head_size head) known (head_made flags named head known)
head-well flags named plain Headless known cats h = well-nothing 0 known known (grows-none known cats)
head-well flags named plain (Macro number words) known cats h =
    macro-well number known (spelled words known.names) cats (well-spelled words known.names cats h)
head-well flags named plain (Format number words) known cats h =
    let first = spelled (first_word words) known.names in
    let s = well-spelled (first_word words) known.names cats (first-words words h) in
    format-well number known first (spelled (later_words words) first.names) cats s
    (well-spelled (later_words words) first.names s.cats (other-words words h))
head-well flags named plain (Silent words) known cats h =
    let all = spelled words known.names in
    well-nothing 1 known (with_names all.names known)
    (words-grow 0 known all cats (well-spelled words known.names cats h))
head-well flags named plain (Named number sign) known cats h = name-well flags (named number) cat.Dead Text
    (sign_behind sign) number known (λ e. absurd cc) (λ names. (tt, (tt, tt))) cats (plain number)

-- ## What a head has of a nest

record FitsIn (n : Nest) (h : Headed) : Type 0 where
  words : IsSpeltHead h.head
  rest : IsSpeltNest h.rest
  few : head_size h.head + nest_size h.rest ≤ nest_size n

record AreWordsOf (n : Nest) (w : Words) : Type 0 where
  words : AreSpeltWords w.words
  rest : IsSpeltNest w.rest
  few : nest_size w.rest ≤ nest_size n

words-fit : (wanted : Expectation) (n : Nest) → IsSpeltNest n → AreWordsOf n (head_words wanted n)
words-fit wanted End h = record { words = tt; rest = tt; few = omega arith }
words-fit wanted (Group t inner rest) h = record { words = tt; rest = h; few = omega arith }
words-fit wanted (Leaf t rest) h = by (head_behind wanted t.kind t.span) (λ next. words-fit next rest h.1)
  where
    by : (o : Option Expectation) → ((next : Expectation) → AreWordsOf rest (head_words next rest))
        → AreWordsOf (Leaf t rest) (elim o as (λ o. Words) [
          | Some next ↦ word_before t (head_words next rest)
          | None ↦ no_word (Leaf t rest)
        ])
    by None later = record { words = tt; rest = h; few = omega arith }
    by (Some next) later =
        let l = later next in
        record { words = (h.0, l.words); rest = l.rest; few = omega (arith, l.few) }

headless-fits : (n : Nest) → IsSpeltNest n → FitsIn n (headless n)
headless-fits n h = record { words = tt; rest = h; few = omega arith }

named-fits : (name : Seen) (n : Nest) → IsSpelt name.kind name.text → IsSpeltNest n
    → FitsIn (Leaf name n) (named_headed name n)
named-fits name n g h = grind (arith, headless-fits)

headed-by : (k : TokKind) (t : Seen) (n : Nest) → IsSpelt t.kind t.text → IsSpeltNest n
    → FitsIn (Leaf t n) (headed_by k t n)
headed-by k t n g h = grind (arith, words-fit, named-fits, headless-fits)

headed-fits : (n : Nest) → IsSpeltNest n → FitsIn n (headed n)
headed-fits n h = grind (arith, headless-fits, headed-by)

-- ## Whole texts

headed-well : (flags : Flags) (named : NameTexts) → ArePlainNames named → (n : Nest) (known : Known)
    → HaveCats known.names → IsSpeltNest n → IsWellMade (nest_size n) known (headed_made flags named (headed n) known)
headed-well flags named plain n known cats h =
    let fits = headed-fits n h in
    let first = head_made flags named (headed n).head known in
    let rest = made flags (leaf_of_name flags named) (headed n).rest in
    well-wider (head_size (headed n).head + nest_size (headed n).rest) (nest_size n) known (made_before first rest)
    fits.few (well-before (head_size (headed n).head) (nest_size (headed n).rest) known first rest
    (head-well flags named plain (headed n).head known cats fits.words) (λ cats. well-made flags
    (leaf_of_name flags named) (names-well flags named plain) (headed n).rest first.known cats fits.rest))

pub text-grows : (flags : Flags) (named : NameTexts) (answers : List Answer) (names : List Entry) (marks : List ℕ)
    → ArePlainNames named → HaveCats names → AreSpelt answers
    → Grows (tokens_in answers) (begin names marks) (translated flags named answers names marks).known
unfolding translated
text-grows flags named answers names marks plain cats h =
    let n = nest answers in
    let all = headed_made flags named (headed n) (begin names marks) in
    grows-wider (nest_size n) (tokens_in answers) (begin names marks) (end_of flags all).known (nest-size answers)
    (ended-grows flags (nest_size n) (begin names marks) all
    (headed-well flags named plain n (begin names marks) cats (nest-spelt answers h)))
