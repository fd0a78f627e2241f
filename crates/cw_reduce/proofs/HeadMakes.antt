-- What the head of a definition makes: the tokens of its list, and its scrap. They refer to no list, and their names
-- are names. Behind that, what stands behind heads, as they are read.
use Rattle.cw_rules.specs.declared.tokens.Directive.{Directive}
use Rattle.cw_reduce.proofs.Terms.{list_all, ltb-true, both-left, both-right, Cat, NameId, is_entry, with_entry}
use Rattle.cw_reduce.proofs.Terms.{Ident as ident_kind, word_form, is_word, names-grow, Expectation, nest, IsNested}
use Rattle.cw_reduce.proofs.Terms.{ListId, HeadRead, empty-line, keeps-itself, err-if, err-ok, on-err, Token, seen}
use Rattle.cw_reduce.proofs.Terms.{Gives, is_head_sign, Lexed, Tok, is_name_kind, Nest, Leaf, End, Group, group, nests}
use Rattle.cw_reduce.proofs.Terms.{first_nest, nested-behind, nest-token, words-leave, Beginning, StartsBelow}
use Rattle.std.proofs.lemmas.Option.{slice_get-get_or}
use Rattle.cw_rules.specs.declared.tokens.TokKind.TheVariants as kind
use Rattle.cw_trees.specs.declared.Control.TheVariants as control
use Rattle.cw_tokens.specs.declared.token.Token.TheVariants as token
use Rattle.cw_rewrite.proofs.GatherSteps.{ref-place}
use Rattle.cw_reduce.proofs.HeadAnswers.{word_kind, words-fit, words-same, bare, only-token}
use Rattle.cw_base.specs.declared.category.Cat.TheVariants as cat
use Rattle.cw_rules.specs.declared.codes.Code.TheVariants as code
use Rattle.cw_lex.specs.declared.heads.Expectation.TheVariants as wants
use Rattle.cw_reduce.specs.declared.heads.HeadRead.TheVariants as read
use Rattle.cw_reduce.proofs.HeadsShown.{HeadFits, Spells, dead-agrees, fits-by, format-spells, macro-spells}
use Rattle.cw_reduce.proofs.HeadsShown.{sign_headed}
use Rattle.cw_translator.proofs.OpenLaws.{plain-keeps}
use Rattle.cw_rules.specs.declared.tokens.Lexed.TheVariants as lexed
use Rattle.cw_reduce.proofs.ReadSteps.{gives-is}
use Rattle.cw_translator.specs.Translating.{spelled, word_tokens, first_word, later_words, dollared, dead, NameTexts}
use Rattle.cw_translator.specs.Translating.{head_made}
use Rattle.std.proofs.lemmas.List.Sums.{prefix_len-le-length}
use Rattle.cw_translator.proofs.Terms.{◌≡◌, ℕ, ◌<◌, Option, Some, None, List, [], ◌∷◌, ◌++◌, length, get_or, refl, sym}
use Rattle.cw_translator.proofs.Terms.{◌∙◌, arith, Token as StoredToken, shape, ref_of, StoredLists, MayBePushed}
use Rattle.cw_translator.proofs.Terms.{refs_in, ◌≤◌, true, ap, slice_get, append-nil, length-append, Text, Seen}
use Rattle.cw_translator.proofs.Terms.{TokKind, Entry, place_of, scrap_agrees, reads, Tree, token_ref, tree_in}
use Rattle.cw_translator.proofs.Terms.{tree_in-same, token_form, names_with, IsNamedBelow, IsGood, leaf_scrap}
use Rattle.cw_translator.proofs.Terms.{name_in_text, names_in_text, Flags, Answer, IsTied, trees_from, unfolded-new}
use Rattle.cw_translator.proofs.Terms.{Keeps, scraps_of, roots_of, AreRoots, IsSoundLine, Known, with_names, IsErrAnd}
use Rattle.cw_translator.proofs.Terms.{Memory, subst, Begin, Note, answers_in}
use Rattle.std.proofs.Common.{Bool, false, Ok, Result, ◌^◌}
use Rattle.std.specs.Option.{option_map_or}
use Rattle.cw_reduce.specs.model.HeadReading.{macro_tokens, format_tokens, with_break, IsLast, HasTokens, answer_words}
use Rattle.cw_reduce.specs.model.HeadReading.{is_definition, words_tokens, answers_ahead, head_named, without_notes}
use Rattle.cw_reduce.specs.HeadReading.{head_line, read_made, words_in, NamesWithin}
use Rattle.cw_lex.specs.Heads.{Head, Macro, Format, Silent, headed_by, head_words, wanted_by, Named, Headed, headed}
use Rattle.cw_lex.specs.Heads.{headless, named_headed, without_words}
use Rattle.cw_scraps.proofs.LeafForms.{leaf-sound}
use Rattle.cw_reduce.specs.model.HeadsRead.{HeadIsRead}

pub word-plain : (ws : List StoredToken) (i : ℕ) (d : StoredToken) → refs_in ws ≡ [] → i < length ws
    → ref_of (shape (get_or ws i d)) ≡ None
word-plain ws i d e h = by (ref_of (shape (get_or ws i d))) refl
  where
    by : (o : Option ℕ) → ref_of (shape (get_or ws i d)) ≡ o → o ≡ None
    by None k = refl
    by (Some x) k =
        let a = ref-place ws i x (ap token_ref (slice_get-get_or ws i d h) ∙ k) in
        absurd (omega (arith, ap length e, a.below))

pub plain-may : (s : StoredLists) (t : StoredToken) → ref_of (shape t) ≡ None → MayBePushed s t
plain-may s t e x h = let k : ◌≡◌ {A = Option ℕ} None (Some x) = sym e ∙ h in absurd cc

-- tokens that refer to no list, with names that are among so many
abbrev pub IsNamed : ℕ → StoredToken → Type 0
IsNamed count (token.Source number mode) = Unit {0}
IsNamed count (token.Ident name number) = name.index < count
IsNamed count (token.Reserved name number c) = name.index < count
IsNamed count (token.Control c) = Unit {0}
IsNamed count _ = ⊥

abbrev pub AreNamed : ℕ → List StoredToken → Type 0
AreNamed count [] = Unit {0}
AreNamed count (t ∷ ts) = IsNamed count t × AreNamed count ts

named-append : (count : ℕ) (xs ys : List StoredToken) → AreNamed count xs → AreNamed count ys
    → AreNamed count (xs ++ ys)
named-append count [] ys h k = k
named-append count (x ∷ xs) ys h k = (h.0, named-append count xs ys h.1 k)

more-named : (m n : ℕ) → m ≤ n → (ts : List StoredToken) → AreNamed m ts → AreNamed n ts
more-named m n le [] h = tt
more-named m n le (t ∷ ts) h = (more t h.0, more-named m n le ts h.1)
  where
    more : (t : StoredToken) → IsNamed m t → IsNamed n t
    more (token.Ident name number) k = omega arith
    more (token.Reserved name number c) k = omega arith
    more _ k = k

pub plain-refs : (count : ℕ) (ts : List StoredToken) → AreNamed count ts → refs_in ts ≡ []
plain-refs count [] h = refl
plain-refs count (token.Inner list ∷ ts) h = absurd h.0
plain-refs count (token.List list ∷ ts) h = absurd h.0
plain-refs count (_ ∷ ts) h = plain-refs count ts h.1

named-tree : (count : ℕ) (trees : List Tree) (ts : List StoredToken) → AreNamed count ts
    → IsNamedBelow count (tree_in trees ts)
named-tree count trees [] h = tt
named-tree count trees (token.Inner list ∷ ts) h = absurd h.0
named-tree count trees (token.List list ∷ ts) h = absurd h.0
named-tree count trees (_ ∷ ts) h = (h.0, named-tree count trees ts h.1)

-- ## The tokens of words

form-named : (c : Cat) (name : NameId) (number count : ℕ) → name.index < count
    → AreNamed count (word_form c name number).tokens
form-named c name number count h = grind arith

place-there : (text : List ℕ) (names : List Entry)
    → place_of ident_kind text names < length (with_entry ident_kind text names)
place-there text names = grind (arith, place_of, ident_kind, ltb-true, prefix_len-le-length, is_entry, length-append)

kind-named : (k : TokKind) (text : List ℕ) (hash_line : Bool) (d : Directive) (n : ℕ) (names : List Entry)
    → is_word k ≡ true → AreNamed (length (names_with k text names))
    (option_map_or (λ form. form.tokens) (token_form k text hash_line d n names) [])
kind-named k text hash_line d n names h = grind (arith, form-named, place_of, ident_kind, place-there)

pub spelled-grow : (words : List Seen) (names : List Entry) → length names ≤ length (spelled words names).names
spelled-grow [] names = omega arith
spelled-grow (word ∷ words) names =
    let more = spelled-grow words (names_with word.kind word.text names) in
    omega (arith, names-grow word.kind word.text names, more)

pub spelled-named : (words : List Seen) (names : List Entry) → list_all word_kind words ≡ true
    → AreNamed (length (spelled words names).names) (spelled words names).tokens
spelled-named [] names h = tt
spelled-named (word ∷ words) names h =
    let n = names_with word.kind word.text names in
    named-append (length (spelled words n).names) (word_tokens word names) (spelled words n).tokens
    (more-named (length n) (length (spelled words n).names) (spelled-grow words n) (word_tokens word names) (kind-named
    word.kind word.text word.hash_line word.directive word.span.start names (both-left (word_kind word)
    (list_all word_kind words) h))) (spelled-named words n (both-right (word_kind word) (list_all word_kind words) h))

-- each word is one token
record IsOne (ts : List StoredToken) : Type 0 where
  pub token : StoredToken
  pub is : ts ≡ token ∷ []

form-one : (c : Cat) (name : NameId) (number : ℕ) → IsOne (word_form c name number).tokens
form-one c name number = grind arith

kind-one : (k : TokKind) (text : List ℕ) (hash_line : Bool) (d : Directive) (n : ℕ) (names : List Entry)
    → is_word k ≡ true → IsOne (option_map_or (λ form. form.tokens) (token_form k text hash_line d n names) [])
kind-one k text hash_line d n names h = grind (arith, form-one)

-- the first of them, the break, and the others
pub break-behind : (words : List Seen) (names : List Entry) → list_all word_kind words ≡ true → names_in_text (spelled
    (first_word words) names).tokens ++ token.Control control.OptionalBreak ∷ names_in_text (spelled (later_words words)
    (spelled (first_word words) names).names).tokens ≡ with_break (spelled words names).tokens
break-behind [] names h = refl
break-behind (word ∷ words) names h =
    let n = names_with word.kind word.text names in
    by (word_tokens word names) (spelled words n).tokens (kind-one word.kind word.text word.hash_line
    word.directive word.span.start names (both-left (word_kind word) (list_all word_kind words) h))
  where
    by : (ts us : List StoredToken) → IsOne ts
        → names_in_text (ts ++ []) ++ token.Control control.OptionalBreak ∷ names_in_text us ≡ with_break (ts ++ us)
    by ts us o = rw (o.is, append-nil (name_in_text o.token))

pub later-names : (words : List Seen) (names : List Entry)
    → (spelled (later_words words) (spelled (first_word words) names).names).names ≡ (spelled words names).names
later-names words names = grind arith

-- ## The tokens of heads

dollared-named : (count : ℕ) (ts : List StoredToken) → AreNamed count ts → AreNamed count (dollared ts)
dollared-named count ts h = grind (arith, named-append)

name-named : (count : ℕ) (t : StoredToken) → IsNamed count t → AreNamed count (name_in_text t)
name-named count t h = grind arith

names-named : (count : ℕ) (ts : List StoredToken) → AreNamed count ts → AreNamed count (names_in_text ts)
names-named count [] h = tt
names-named count (t ∷ ts) h =
    named-append count (name_in_text t) (names_in_text ts) (name-named count t h.0) (names-named count ts h.1)

break-named : (count : ℕ) (ts : List StoredToken) → AreNamed count ts → AreNamed count (with_break ts)
break-named count ts h = grind (arith, named-append, name_in_text, names_in_text, name-named, names-named)

pub macro-named : (count number : ℕ) (ts : List StoredToken) → AreNamed count ts
    → AreNamed count (macro_tokens number ts)
macro-named count number ts h = grind (arith, named-append, dollared-named)

pub format-named : (count number : ℕ) (ts : List StoredToken) → AreNamed count ts
    → AreNamed count (format_tokens number ts)
format-named count number ts h = (tt, (tt, break-named count ts h))

-- ## The scrap of a head

module _ (count number : ℕ) (ts : List StoredToken) (named : AreNamed count (dead number ts).tokens)
    (agrees : scrap_agrees (leaf_scrap (dead number ts))) where
  pub head-plain : (p x : ℕ) → token_ref (slice_get (dead number ts).tokens p) ≡ Some x → ⊥
  head-plain p x e =
      grind (arith, ref-place (dead number ts).tokens p x e, plain-refs count (dead number ts).tokens named)

  pub head-tree : (trees : List Tree) → tree_in trees (dead number ts).tokens ≡ tree_in [] (dead number ts).tokens
  head-tree trees = tree_in-same trees [] (dead number ts).tokens (λ q x e. absurd (head-plain q x e))

  pub head-good : IsGood count (dead number ts)
  head-good = grind (arith, head-plain, named-tree, reads, head-tree)

-- ## A list that is new

no-roots : (lists : List (List StoredToken)) → AreRoots lists []
no-roots lists = grind arith

-- what a head makes, over the store
pub record Makes (old new : StoredLists) (names names' : List Entry) (head : HeadRead) : Type 0 where
  pub sound : IsSoundLine new names' (head_line head)
  pub keeps : Keeps old.lists new.lists [] (roots_of (head_line head))

module _ (number : ℕ) (ts : List StoredToken) (list : ListId) (old new : StoredLists) (names names' : List Entry)
    (named : AreNamed (length names') (dead number ts).tokens) (agrees : scrap_agrees (leaf_scrap (dead number ts)))
    (last : IsLast (dead number ts).tokens list.index old.lists new.lists) where
  pub dead-seen : scraps_of new.lists (head_line (read.Dead list)) ≡ leaf_scrap (dead number ts) ∷ []
  dead-seen = grind (
    arith,
    unfolded-new old.lists (dead number ts).tokens,
    head-tree (length names') number ts named agrees (trees_from [] old.lists),
  )

  module _ (tied : IsTied old.lists) (was_idle : old.building ≡ None) (idle : new.building
      ≡ None) (more : length names ≤ length names') where
    pub dead-makes : Makes old new names names' (read.Dead list)
    dead-makes = record {
      sound = leaf-sound (dead number ts) (record { list = list; cat = cat.Dead; left = Text; right = Text }) old new
          names names' [] (head-good (length names') number ts named agrees)
          (record { cat = refl; left = refl; right = refl; list = last.list_is; lists = last.lists }) tied idle more
          (empty-line old names was_idle);
      keeps = rw (last.list_is, last.lists) (plain-keeps old.lists (dead number ts).tokens [] tied (no-roots old.lists)
          (head-plain (length names') number ts named agrees));
    }

-- ## The heads of definitions

pub record Defines (old new : StoredLists) (names names' : List Entry) (head : HeadRead) (h : Head) : Type 0 where
  pub made : (flags : Flags) (named : NameTexts) (known : Known)
      → head_made flags named h (with_names names known)
      ≡ read_made flags named new.lists head (with_names names' known)
  pub makes : Makes old new names names' head

module _ (number : ℕ) (words : List Seen) (old new : StoredLists) (names names' : List Entry)
    (fit : list_all word_kind words ≡ true) (are : names' ≡ (spelled words names).names)
    (tied : IsTied old.lists) (was_idle : old.building ≡ None) (idle : new.building ≡ None) where
  spelled-there : AreNamed (length names') (spelled words names).tokens
  spelled-there = rw are (spelled-named words names fit)

  more : length names ≤ length names'
  more = rw are (spelled-grow words names)

  -- a dead scrap with these tokens
  dead-by : (head : HeadRead) (h : Head) (ts : List StoredToken) (numbers : List ℕ) → Spells Text Text ts numbers
      → AreNamed (length names') (dead number ts).tokens → HasTokens (Some (dead number ts).tokens) head old.lists
      new.lists → ((flags : Flags) (named : NameTexts) (known : Known) → head_made flags named h (with_names names
      known) ≡ record { scraps = leaf_scrap (dead number ts) ∷ []; items = []; known = with_names names' known })
      → Defines old new names names' head h
  dead-by (read.Dead list) h ts numbers spells all last makes =
      let agrees = dead-agrees number spells in
      record {
        made = λ flags named known. makes flags named known
            ∙ ap (λ scraps. record { scraps = scraps; items = []; known = with_names names' known })
            (sym (dead-seen number ts list old new names names' all agrees last));
        makes = dead-makes number ts list old new names names' all agrees last tied was_idle idle more;
      }
  dead-by _ h ts numbers spells all last makes = absurd last

  macro-by : (head : HeadRead) → HasTokens (Some (macro_tokens number (spelled words names).tokens)) head old.lists
      new.lists → Defines old new names names' head (Macro number words)
  macro-by head last = dead-by head (Macro number words) _ _ (macro-spells words names fit)
      (macro-named (length names') number (spelled words names).tokens spelled-there) last (λ flags named known. rw are)

  format-by : (head : HeadRead) → HeadFits (Format number words) → HasTokens (Some (format_tokens number
      (spelled words names).tokens)) head old.lists new.lists → Defines old new names names' head (Format number words)
  format-by head fits last = dead-by head (Format number words) _ _ (format-spells words names fits) (rw
      (break-behind words names fit) (format-named (length names') number (spelled words names).tokens spelled-there))
      (rw (break-behind words names fit) last) (λ flags named known. rw (are ∙ sym (later-names words names)))

  silent-by : (head : HeadRead) → HasTokens None head old.lists new.lists
      → Defines old new names names' head (Silent words)
  silent-by head same = grind (arith, empty-line, keeps-itself)

-- Behind the code of a definition: its head, by the answers.
pub record Behind (k : TokKind) (t : Seen) (answers : List Answer) : Type 0 where
  pub words : words_in (headed_by k t (nest answers)).head ≡ answer_words (wanted_by k) answers
  pub rest : (headed_by k t (nest answers)).rest ≡ (head_words (wanted_by k) (nest answers)).rest

pub behind : (k : TokKind) (t : Seen) (answers : List Answer) → is_definition k ≡ true → IsNested answers
    → Behind k t answers
behind k t answers d h = grind (arith, words-same)

pub definition-defines : (k : TokKind) (t : Seen) (answers : List Answer) (old new : StoredLists)
    (names names' : List Entry) (head : HeadRead) → is_definition k ≡ true → IsNested answers → names'
    ≡ (spelled (answer_words (wanted_by k) answers) names).names → IsTied old.lists → old.building ≡ None → new.building
    ≡ None → HasTokens (words_tokens (wanted_by k) t.span.start (spelled (answer_words (wanted_by k) answers)
    names).tokens) head old.lists new.lists → Defines old new names names' head (headed_by k t (nest answers)).head
definition-defines (kind.Code code.Define) t answers old new names names' head d h are tied was idle has =
    rw (words-same wants.Macro answers h) (macro-by t.span.start (answer_words wants.Macro answers) old new names names'
    (words-fit wants.Macro answers h) are tied was idle head has)
definition-defines (kind.Code code.Format) t answers old new names names' head d h are tied was idle has =
    let same = words-same (wants.First false) answers h in
    let fits = (fits-by (kind.Code code.Format) t (nest answers)).head in
    rw same (format-by t.span.start (answer_words (wants.First false) answers) old new names names'
    (words-fit (wants.First false) answers h) are tied was idle head (rw same at fits) has)
definition-defines (kind.Code code.SilentFormat) t answers old new names names' head d h are tied was idle has =
    grind (arith, words-same, silent-by, words-fit)
definition-defines k t answers old new names names' head d h are tied was idle has = absurd cc

-- ## Words that were read into a vector

pub words-plain : (wanted : Expectation) (answers : List Answer) (names : List Entry)
    (items slice before : List StoredToken)
    → IsNested answers → items ≡ before ++ (spelled (answer_words wanted answers) names).tokens → before ≡ []
    → slice ≡ items → refs_in slice ≡ []
words-plain wanted answers names items slice before h e none is = grind (arith, plain-refs, spelled-named, words-fit)

-- ## Definitions

pub definition-rest : (k : TokKind) (t : Seen) (answers ahead : List Answer) → is_definition k ≡ true
    → IsNested (Token t ∷ answers) → ahead ≡ without_words (wanted_by k) answers
    → IsNested ahead × (nest ahead ≡ (headed_by k t (nest answers)).rest)
definition-rest k t answers ahead d h is =
    let inner = nested-behind t answers h in
    let l = words-leave (wanted_by k) answers inner in
    rw is (l.0, l.1 ∙ sym (behind k t answers d inner).rest)

pub definition-within : (k : TokKind) (t : Seen) (answers : List Answer) (names new : List Entry) → is_definition k
    ≡ true → IsNested (Token t ∷ answers) → NamesWithin (answer_words (wanted_by k) answers) names new
    → NamesWithin (words_in (headed_by k t (nest answers)).head) names new
definition-within k t answers names new d h w = rw (behind k t answers d (nested-behind t answers h)).words w

pub all-within : (words : List Seen) (names new : List Entry) → new ≡ (spelled words names).names
    → NamesWithin words names new
all-within words names new e = record { first = words; later = []; are = append-nil words; is = e }

-- ## Behind notes

-- What the answer behind notes and the later ones are.
pub record Ahead (rest ahead : List Answer) : Type 0 where
  pub nested : IsNested ahead
  pub same : nest ahead ≡ nest rest
  pub starts : StartsBelow (2 ^ 32) ahead

pub ahead-of : (rest new : List Answer) (answer : Lexed) → Gives (without_notes rest) answer new → IsNested rest
    → StartsBelow (2 ^ 32) rest → Ahead rest (answers_in answer ++ new)
ahead-of rest new answer g h s = subst (Ahead rest) (gives-is (without_notes rest) new answer g)
    (record { nested = (bare rest).nested h; same = (bare rest).same; starts = (bare rest).starts (2 ^ 32) s })

-- ## Names

-- What holds of the end of a text and of each group holds of the nest of answers whose first is no token.
nest-other : (P : Nest → Type 0) → P End → ((t : Seen) (inner rest : Nest) → P (Group t inner rest))
    → (rest new : List Answer) (answer : Lexed) → Gives (without_notes rest) answer new
    → ((t : Tok) → answer ≡ lexed.Token t → ⊥) → P (nest rest)
nest-other P none grouped (Note note place ∷ rest) new answer g n = nest-other P none grouped rest new answer g n
nest-other P none grouped (Begin t ∷ rest) new answer g n = grind (arith, nests, first_nest, group)
nest-other P none grouped (Token t ∷ rest) new answer g n = absurd (only-token t rest new answer g n)
nest-other P none grouped _ new answer g n = none

pub unsigned-other : (name : Seen) (rest new : List Answer) (answer : Lexed) → Gives (without_notes rest) answer new
    → ((t : Tok) → answer ≡ lexed.Token t → ⊥) → named_headed name (nest rest) ≡ headless (Leaf name (nest rest))
unsigned-other name = nest-other (λ n. named_headed name n ≡ headless (Leaf name n)) refl (λ t inner rest. refl)

pub headless-other : (rest new : List Answer) (answer : Lexed) → Gives (without_notes rest) answer new
    → ((t : Tok) → answer ≡ lexed.Token t → ⊥) → headed (nest rest) ≡ headless (nest rest)
headless-other = nest-other (λ n. headed n ≡ headless n) refl (λ t inner rest. refl)

-- the nest of answers whose first is a token
module _ (rest new : List Answer) (t : Tok) (g : Gives (without_notes rest) (lexed.Token t) new) (h : IsNested rest)
  where
    pub token-nested : IsNested (Token (seen t) ∷ new)
    token-nested = rw g at ((bare rest).nested h)

    pub token-nest : nest rest ≡ Leaf (seen t) (nest new)
    token-nest = sym (bare rest).same ∙ (ap nest g ∙ nest-token (seen t) new token-nested)

    pub signed : (name : Seen) → is_head_sign t.kind ≡ true → named_headed name (nest rest)
        ≡ record { head = Named name.span.start t.span.start; rest = nest new }
    signed name e = ap (named_headed name) token-nest ∙ ap (sign_headed name (seen t) (nest new)) e

    pub unsigned-token : (name : Seen) → is_head_sign t.kind ≡ false → named_headed name (nest rest)
        ≡ headless (Leaf name (nest rest))
    unsigned-token name e = grind (arith, token-nest, sign_headed, seen, nest)

-- a name of another kind than text stands in C text
abbrev NestedOf : TokKind → Seen → List Answer → Type 0
NestedOf k name list =
    IsNested (Token (record {
      kind = k;
      text = name.text;
      span = name.span;
      hash_line = name.hash_line;
      directive = name.directive;
    }) ∷ list)

nested-by : (k : TokKind) (name : Seen) (rest ahead : List Answer) → NestedOf k name rest → IsNested ahead
    → NestedOf k name ahead
nested-by k name rest ahead h i = grind arith

pub name-headed : (k : TokKind) (t : Seen) (n : Nest) → is_name_kind k ≡ true → headed_by k t n ≡ named_headed t n
name-headed k t n e = grind arith

pub none-headed : (k : TokKind) (t : Seen) (n : Nest) → is_definition k ≡ false → is_name_kind k ≡ false
    → headed_by k t n ≡ headless (Leaf t n)
none-headed k t n d e = grind arith

pub token-headed : (rest new : List Answer) (t : Tok) → Gives (without_notes rest) (lexed.Token t) new → IsNested rest
    → headed (nest rest) ≡ headed_by t.kind (seen t) (nest new)
token-headed rest new t g h = ap headed (token-nest rest new t g h)

-- ## What the calls give

-- a name that heads nothing
pub record Signs (name : Seen) (rest : List Answer) (b : Beginning) (ahead : List Answer) : Type 0 where
  pub head : (named_headed name (nest rest)).head ≡ head_named b.head
  pub line : head_line b.head ≡ []
  pub rest_is : nest ahead ≡ (named_headed name (nest rest)).rest
  pub nested : IsNested ahead
  pub starts : StartsBelow (2 ^ 32) ahead

pub unsigned-signs : {name : Tok} {answer : Lexed} (rest new : List Answer) (b : Beginning) → b.head ≡ read.None
    → b.name ≡ Some name → b.next ≡ answer → Gives (without_notes rest) answer new → IsNested (Token (seen name) ∷ rest)
    → StartsBelow (2 ^ 32) (Token (seen name) ∷ rest) → named_headed (seen name) (nest rest)
    ≡ headless (Leaf (seen name) (nest rest)) → Signs (seen name) rest b (answers_ahead b ++ new)
unsigned-signs {name = name} {answer = answer} rest new b head named next g h s u =
    grind (arith, ahead-of, nested-behind, seen, answers_in, nested-by, nest-token)

pub none-token : (rest new : List Answer) (t : Tok) → Gives (without_notes rest) (lexed.Token t) new → IsNested rest
    → is_definition t.kind ≡ false → is_name_kind t.kind ≡ false → headed (nest rest) ≡ headless (nest rest)
none-token rest new t g h d n = grind (arith, token-headed, none-headed, seen, nest, token-nest)

-- the head of a named C part, or none
pub name-token : (rest new : List Answer) (t : Tok) → Gives (without_notes rest) (lexed.Token t) new → IsNested rest
    → is_name_kind t.kind ≡ true → headed (nest rest) ≡ named_headed (seen t) (nest new)
name-token rest new t g h n = token-headed rest new t g h ∙ name-headed t.kind (seen t) (nest new) n

pub sign-by : (flags : Flags) (named : NameTexts) (lists : List (List StoredToken)) (known : Known) (head : HeadRead)
    → head_line head ≡ [] → head_made flags named (head_named head) known ≡ read_made flags named lists head known
sign-by flags named lists known head line = grind arith

pub sign-words : (head : HeadRead) (names : List Entry) → names ≡ (spelled (words_in (head_named head)) names).names
sign-words head names = grind arith

-- A call that reads a head is refused.
pub head-refused : {h : Headed} {old new : StoredLists} {names names' : List Entry} {coming : List Answer}
    {error : Memory} {result : Result Beginning Memory}
    → IsErrAnd result (λ found. found ≡ error) → NamesWithin (words_in h.head) names names' → new.lists ≡ old.lists
    → new.building ≡ None → HeadIsRead h old names new names' coming result
head-refused {error = error} {result = result} is within same idle = grind (arith, err-if, err-ok, on-err)

pub no-head : {names : List Entry} {store : StoredLists} {answer : Lexed} (rest new : List Answer) (b : Beginning)
    → b.head ≡ read.None → b.name ≡ None → b.next ≡ answer → Gives (without_notes rest) answer new → IsNested rest
    → StartsBelow (2 ^ 32) rest → headed (nest rest) ≡ headless (nest rest) → store.building ≡ None
    → HeadIsRead (headed (nest rest)) store names store names new (Ok b)
no-head {names = names} {store = store} {answer = answer} rest new b none named next g h s u idle =
    grind (arith, ahead-of, with_names, empty-line, keeps-itself)
