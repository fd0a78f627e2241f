-- The words of heads stand in the tree of a translation as well, and read from text, they end in text. So do whole
-- texts; their steps are at most the limit.
use Rattle.std.proofs.Common.{if◌then◌else◌}
use Rattle.std.proofs.lemmas.Bool.Decides.{nat_tests}
use Rattle.std.proofs.lemmas.Grind.{common_steps}
use Rattle.std.specs.Option.{option_map_or}
use Rattle.cw_rules.specs.declared.tokens.Directive.{Directive}
use Rattle.cw_reduce.proofs.Terms.{◌≡◌, ℕ, Bool, true, false, Option, Some, List, [], ◌∷◌, ◌++◌, refl, ap, ◌∙◌}
use Rattle.cw_reduce.proofs.Terms.{list_all, append-nil, Cat, Flags, MathMode, Text, Math, Span, Answer, Seen}
use Rattle.cw_reduce.proofs.Terms.{is_head_sign, Expectation, TokKind, Head, Headless, Macro, Format, Silent, Named}
use Rattle.cw_reduce.proofs.Terms.{Headed, headed, headed_by, headless, named_headed, head_behind, head_words, Nest}
use Rattle.cw_reduce.proofs.Terms.{Leaf, nest, NameId, Entry, reads, StoredToken as Token, tree_in, sign_mode}
use Rattle.cw_reduce.proofs.Terms.{token_form, word_form, names_with, is_word, InnersRead, ReadsInText, Known}
use Rattle.cw_reduce.proofs.Terms.{leaf_scrap, sign_behind, names_in_text, names-append, struck, starts, scrap_agrees}
use Rattle.cw_reduce.proofs.Terms.{append_assoc, IsWell, ◌≤◌, arith, State, productions-sound, ticks_in, limit_in}
use Rattle.cw_reduce.proofs.Terms.{is_some, Dead, IsNested, list_if, nest-well, shown_in, shown_head, shown, ticks-most}
use Rattle.cw_reduce.proofs.Terms.{limit-one, limits-more, ticks-more, ticks-one}
use Rattle.cw_lex.specs.declared.heads.Expectation.TheVariants as wants
use Rattle.cw_rules.specs.declared.signs.Sign.{Sign}
use Rattle.cw_rules.specs.declared.tokens.TokKind.TheVariants as kind
use Rattle.cw_trees.specs.declared.Control.TheVariants as control
use Rattle.cw_tokens.specs.declared.token.Token.TheVariants as token
use Rattle.cw_translator.specs.Translating.{translated, spelled, word_tokens, first_word, later_words, dollared, dead}
use Rattle.cw_translator.specs.Translating.{head_made, headed_made, leaf_of_name, made, begin, end_of, texts_named}
use Rattle.cw_reduce.proofs.HeadAnswers.{first-all, head-words-by, head-words-fit, later-all, word_kind}
use Rattle.cw_reduce.proofs.ShownLaws.{IsFineKnown, IsSoundMade, reads-nothing, reads-scrap, reads-beside, reads-end}
use Rattle.cw_reduce.proofs.ShownLaws.{reads-made, reads-leaf, reads-headed-name, fine-end, fine_state, Shows}
use Rattle.cw_reduce.proofs.ShownLaws.{shows-beside, shows-made, shows-name, struck-end, struck-parts}
use Rattle.cw_table.specs.Productions.{productions}
use Rattle.cw_base.proofs.TestLaws.{both, both-left, both-right}
use Rattle.cw_trees.specs.Joining.{stays}

-- Tokens that lead from one mode to another, hold no inner text, and show these numbers.
pub record Spells (from to : MathMode) (tokens : List Token) (numbers : List ℕ) : Type 0 where
  pub leads : (rest : List Token) → reads (tree_in [] (tokens ++ rest)) from ≡ reads (tree_in [] rest) to
  pub inners : (rest : List Token) → InnersRead (tree_in [] rest) → InnersRead (tree_in [] (tokens ++ rest))
  pub shows : (rest : List Token) → struck (tree_in [] (tokens ++ rest)) ≡ numbers ++ struck (tree_in [] rest)

spells-none : (mode : MathMode) → Spells mode mode [] []
spells-none mode = record { leads = λ rest. refl; inners = λ rest h. h; shows = λ rest. refl }

spells-append : {l m n : MathMode} {a b : List Token} {p q : List ℕ} → Spells l m a p → Spells m n b q
    → Spells l n (a ++ b) (p ++ q)
spells-append {a = a} {b = b} {p = p} {q = q} s t = grind (arith, append_assoc, struck, tree_in)

pub spells-numbers : {from to : MathMode} {tokens : List Token} {numbers : List ℕ} → Spells from to tokens numbers
    → struck (tree_in [] tokens) ≡ numbers
spells-numbers s = simp append-nil at (s.shows [])

word-spells : (mode : MathMode) (c : Cat) (name : NameId) (n : ℕ)
    → Spells mode mode (word_form c name n).tokens (n ∷ [])
word-spells mode c name n = grind arith

sign-math : (s : Sign) → stays (sign_mode s) Math ≡ Some Math
sign-math s = grind arith

sign-spells : (s : Sign) (n : ℕ) → Spells Math Math (token.Source n (sign_mode s) ∷ []) (n ∷ [])
sign-spells s n = grind (arith, reads, tree_in, sign-math)

-- identifiers and signs in math
kind-spells : (k : TokKind) (text : List ℕ) (hash_line : Bool) (d : Directive) (n : ℕ) (names : List Entry)
    → is_word k ≡ true → Spells Math Math (option_map_or (λ form. form.tokens) (token_form k text hash_line d n names)
    []) (n ∷ [])
kind-spells k text hash_line d n names h = grind (arith, word-spells, sign-spells)

spelled-spells : (words : List Seen) (names : List Entry) → list_all word_kind words ≡ true
    → Spells Math Math (spelled words names).tokens (starts words)
spelled-spells [] names h = spells-none Math
spelled-spells (word ∷ words) names h = spells-append (kind-spells word.kind word.text word.hash_line
    word.directive word.span.start names (both-left (word_kind word) (list_all word_kind words) h))
    (spelled-spells words _ (both-right (word_kind word) (list_all word_kind words) h))

dollared-spells : (tokens : List Token) (numbers : List ℕ) → Spells Math Math tokens numbers
    → Spells Text Text (dollared tokens) numbers
dollared-spells [] numbers s = record { leads = λ rest. refl; inners = λ rest h. h; shows = s.shows }
dollared-spells (t ∷ ts) numbers s =
    grind (arith, nat_tests, common_steps, append-nil numbers, append-nil, spells-append)

break-spells : Spells Text Text (token.Control control.OptionalBreak ∷ []) []
break-spells = record { leads = λ rest. refl; inners = λ rest h. h; shows = λ rest. refl }

-- the names of a format definition, in text
abbrev is_name : TokKind → Bool
is_name kind.Identifier = true
is_name k = false

abbrev name_kind : Seen → Bool
name_kind word = is_name word.kind

word-in-text : (c : Cat) (name : NameId) (n : ℕ) → Spells Text Text (names_in_text (word_form c name n).tokens) (n ∷ [])
word-in-text c name n = grind arith

name-in-text : (k : TokKind) (text : List ℕ) (hash_line : Bool) (d : Directive) (n : ℕ) (names : List Entry)
    → is_name k ≡ true → Spells Text Text (names_in_text
    (option_map_or (λ form. form.tokens) (token_form k text hash_line d n names) [])) (n ∷ [])
name-in-text k text hash_line d n names h = grind (arith, word-in-text)

names-spell : (words : List Seen) (names : List Entry) → list_all name_kind words ≡ true
    → Spells Text Text (names_in_text (spelled words names).tokens) (starts words)
names-spell [] names h = spells-none Text
names-spell (word ∷ words) names h =
    let n = names_with word.kind word.text names in
    rw (names-append (word_tokens word names) (spelled words n).tokens)
    (spells-append (name-in-text word.kind word.text word.hash_line word.directive word.span.start names
    (both-left (name_kind word) (list_all name_kind words) h))
    (names-spell words n (both-right (name_kind word) (list_all name_kind words) h)))

-- the tokens of heads
pub macro-spells : (words : List Seen) (names : List Entry) → list_all word_kind words ≡ true → Spells Text Text
    (dollared (spelled words names).tokens ++ token.Control control.OptionalBreak ∷ []) (starts words ++ [])
macro-spells words names fits = spells-append (dollared-spells _ _ (spelled-spells words names fits)) break-spells

pub format-spells : (words : List Seen) (names : List Entry) → list_all name_kind words ≡ true
    → Spells Text Text (names_in_text (spelled (first_word words) names).tokens ++ token.Control control.OptionalBreak
    ∷ names_in_text (spelled (later_words words) (spelled (first_word words) names).names).tokens)
    (starts (first_word words) ++ starts (later_words words))
format-spells words names fits = spells-append (names-spell (first_word words) names (first-all name_kind words fits))
    (spells-append break-spells (names-spell (later_words words) _ (later-all name_kind words fits)))

pub dead-agrees : {tokens : List Token} {numbers : List ℕ} (number : ℕ) → Spells Text Text tokens numbers
    → scrap_agrees (leaf_scrap (dead number tokens))
dead-agrees {tokens = tokens} number s = rw (append-nil tokens) at (s.leads [])

reads-dead : {tokens : List Token} {numbers : List ℕ} (number : ℕ) (known : Known) → Spells Text Text tokens numbers
    → IsFineKnown known
    → IsSoundMade (record { scraps = leaf_scrap (dead number tokens) ∷ []; items = []; known = known })
reads-dead {tokens = tokens} number known s f = reads-scrap (leaf_scrap (dead number tokens)) known
    (dead-agrees number s) (rw (append-nil tokens) at (s.inners [] tt)) refl f

-- the words of heads
abbrev is_names : Expectation → Bool
is_names (wants.First silent) = true
is_names (wants.Second silent) = true
is_names wants.Nothing = true
is_names wanted = false

some-wanted : (a b : Expectation) → ◌≡◌ {A = Option Expectation} (Some a) (Some b) → a ≡ b
some-wanted a b e = cc

takes-text : (wanted : Expectation) (k : TokKind) (span : Span) (next : Expectation) → is_names wanted ≡ true
    → head_behind wanted k span ≡ Some next → (is_name k ≡ true) × (is_names next ≡ true)
takes-text wanted k span next n h = grind (arith, some-wanted)

words-text : (wanted : Expectation) (n : Nest) → is_names wanted ≡ true
    → list_all name_kind (head_words wanted n).words ≡ true
words-text = head-words-by (λ wanted n ws. is_names wanted ≡ true → list_all name_kind ws.words ≡ true)
    (λ wanted n w. refl) (λ wanted next t rest e more w.
    let f = takes-text wanted t.kind t.span next w e in
    both (name_kind t) (list_all name_kind (head_words next rest).words) f.0 (more f.1))

abbrev pub HeadFits : Head → Type 0
HeadFits (Macro number words) = list_all word_kind words ≡ true
HeadFits (Format number words) = list_all (name_kind) words ≡ true
HeadFits h = Unit {0}

abbrev pub sign_headed : Seen → Seen → Nest → Bool → Headed
sign_headed t s rest b = if b then record { head = Named t.span.start s.span.start; rest = rest }
    else headless (Leaf t (Leaf s rest))

-- The words of a head fit it, and what stands behind it is well.
pub record IsFit (n : Nest) (h : Headed) : Type 0 where
  pub head : HeadFits h.head
  pub rest : IsWell false n → IsWell false h.rest

words-rest : (wanted : Expectation) (n : Nest) → IsWell false n → IsWell false (head_words wanted n).rest
words-rest = head-words-by (λ wanted n ws. IsWell false n → IsWell false ws.rest) (λ wanted n w. w)
    (λ wanted next t rest e more w. more w.1)

sign-fits : (b : Bool) (t s : Seen) (rest : Nest) → IsFit (Leaf t (Leaf s rest)) (sign_headed t s rest b)
sign-fits b t s rest = grind arith

named-fits : (t : Seen) (rest : Nest) → IsFit (Leaf t rest) (named_headed t rest)
named-fits t rest = grind (arith, sign-fits, is_head_sign)

pub fits-by : (k : TokKind) (t : Seen) (rest : Nest) → IsFit (Leaf t rest) (headed_by k t rest)
fits-by k t rest = grind (arith, head-words-fit, words-rest, words-text, named-fits)

pub head-fits : (n : Nest) → IsFit n (headed n)
head-fits n = grind (arith, fits-by)

pub reads-head : (flags : Flags) (named : ℕ → Option (List (List Answer))) (h : Head) (known : Known) → HeadFits h
    → IsFineKnown known → IsSoundMade (head_made flags named h known)
reads-head flags named Headless known fits f = reads-nothing known f
reads-head flags named (Silent words) known fits f = reads-nothing _ f
reads-head flags named (Macro number words) known fits f = reads-dead number _ (macro-spells words known.names fits) f
reads-head flags named (Format number words) known fits f = reads-dead number _ (format-spells words known.names fits) f
reads-head flags named (Named number sign) known fits f = reads-headed-name flags (named number) (sign_behind sign)
    number known refl tt f

pub reads-headed : (flags : Flags) (named : ℕ → Option (List (List Answer))) (answers : List Answer) (names : List
    Entry) (marks : List ℕ) → IsSoundMade (headed_made flags named (headed (nest answers)) (begin names marks))
reads-headed flags named answers names marks =
    let h = headed (nest answers) in
    let known = begin names marks in
    let first = head_made flags named h.head known in
    let g = reads-head flags named h.head known (head-fits (nest answers)).head refl in
    reads-beside first (made flags (leaf_of_name flags named) h.rest first.known) g
    (reads-made flags (leaf_of_name flags named) (reads-leaf flags named) h.rest first.known g.known)

pub stands-in-text : (flags : Flags) (named : ℕ → Option (List (List Answer))) (answers : List Answer)
    (names : List Entry) (marks : List ℕ) → ReadsInText (translated flags named answers names marks).tree
unfolding translated
stands-in-text flags named answers names marks = reads-end flags
    (headed_made flags named (headed (nest answers)) (begin names marks)) (reads-headed flags named answers names marks)

most : (flags : Flags) (ended : List State) → list_all fine_state ended ≡ true
    → ticks_in flags ended ≤ limit_in flags ended
most flags [] f = omega arith
most flags (state ∷ ended) f =
    let first = both-left (fine_state state) (list_all fine_state ended) f in
    let later = most flags ended (both-right (fine_state state) (list_all fine_state ended) f) in
    let most_here = ticks-most productions flags state productions-sound first in
    let ticked = ticks-more flags (state ∷ []) ended in
    let limits = limits-more flags (state ∷ []) ended in
    omega (arith, most_here, later, ticked, limits, ticks-one flags state, limit-one flags state)

pub ticks-within : (flags : Flags) (named : ℕ → Option (List (List Answer))) (answers : List Answer)
    (names : List Entry) (marks : List ℕ) → ticks_in flags (translated flags named answers names marks).known.ended
    ≤ limit_in flags (translated flags named answers names marks).known.ended
unfolding translated
ticks-within flags named answers names marks =
    let m = headed_made flags named (headed (nest answers)) (begin names marks) in
    most flags (end_of flags m).known.ended (fine-end flags m (reads-headed flags named answers names marks))

shows-named-head : (flags : Flags) (o : Option (List (List Answer))) (number sign : ℕ) (known : Known)
    → Shows false (texts_named flags o Dead Text (sign_behind sign) number known) (list_if (is_some o) (number ∷ [])
    ++ list_if (is_some o) (sign ∷ []))
shows-named-head flags o number sign known = grind (arith, struck-parts)

-- the two names of a format definition
starts-split : (words : List Seen) → starts (first_word words) ++ starts (later_words words) ≡ starts words
starts-split words = grind arith

shows-head : (flags : Flags) (named : ℕ → Option (List (List Answer))) (h : Head) (known : Known) → HeadFits h
    → Shows false (head_made flags named h known) (shown_head (λ n. is_some (named n)) h)
shows-head flags named (Macro number words) known w = append-nil _ ∙ ap (λ ns. number ∷ ns)
    (spells-numbers (macro-spells words known.names w) ∙ append-nil (starts words))
shows-head flags named (Format number words) known w = append-nil _ ∙ ap (λ ns. number ∷ ns)
    (spells-numbers (format-spells words known.names w) ∙ starts-split words)
shows-head flags named (Named number sign) known w = shows-named-head flags (named number) number sign known
shows-head _ _ _ _ _ = refl

pub translated-shown : (flags : Flags) (named : ℕ → Option (List (List Answer))) (answers : List Answer)
    (names : List Entry) (marks : List ℕ) → IsNested answers → struck (translated flags named answers names marks).tree
    ≡ shown (λ n. is_some (named n)) answers
unfolding translated
translated-shown flags named answers names marks nested =
    let h = headed (nest answers) in
    let fit = head-fits (nest answers) in
    let known = begin names marks in
    let first = head_made flags named h.head known in
    let is_named = λ (n : ℕ). is_some (named n) in
    struck-end flags (headed_made flags named h known).scraps (headed_made flags named h known).known
    (reads-headed flags named answers names marks).fine ∙ shows-beside false first
    (made flags (leaf_of_name flags named) h.rest first.known) (shown_head is_named h.head) (shown_in is_named h.rest)
    (shows-head flags named h.head known fit.head) (shows-made flags is_named (leaf_of_name flags named)
    (λ number k. shows-name flags (named number) number k) (reads-leaf flags named) h.rest false first.known
    (fit.rest (nest-well answers nested)) (reads-head flags named h.head known fit.head refl).known)
