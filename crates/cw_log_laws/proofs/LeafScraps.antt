-- The scraps of single tokens, and the tokens of heads, are written with words of the names behind them.
use Rattle.cw_log_laws.proofs.Terms.{◌≡◌, ◌≢◌, ℕ, zero, suc, Bool, true, false, if◌then◌else◌, Option, Some, None, List}
use Rattle.cw_log_laws.proofs.Terms.{[], ◌∷◌, ◌++◌, slice_get, unwrap_or, refl, arith, nat_eq, pointwise, Cat, End}
use Rattle.cw_log_laws.proofs.Terms.{Code, TokKind, Ident as ident_kind, NameId, Entry, AreDistinct, place_of}
use Rattle.cw_log_laws.proofs.Terms.{with_entry, category_among, directive_words, words_with, tree_in, LeafForm}
use Rattle.cw_log_laws.proofs.Terms.{code_form, form_of, names_with, own_cat, sign_cat, token_form, word_cat, word_form}
use Rattle.cw_log_laws.proofs.Terms.{is_identifier, IsLater, cat_in_line}
use Rattle.std.specs.Prelude.{codes}
use Rattle.std.specs.Option.{option_map_or}
use Rattle.cw_base.specs.declared.category.Cat.TheVariants.{SizeofLike}
use Rattle.cw_rules.specs.declared.{signs.Sign.Sign, tokens.Directive.Directive}
use Rattle.cw_tokens.specs.declared.token.Token.{Token}
use Rattle.cw_logs.proofs.Adding.{IsNamed, entry-there}
use Rattle.cw_translator.specs.Translating.{leaf_scrap}
use Rattle.cw_log_laws.proofs.LaterNames.{HaveCats, distinct-entry, have-entry, later-entry, later-same, real-law}
use Rattle.cw_log_laws.proofs.SpeltTokens.{IsSpelt}
use Rattle.cw_log_laws.proofs.WrittenScraps.{IsLogged, IsWord, IsWordEntry, IsWritten}
use Rattle.cw_rules.specs.declared.tokens.Directive.TheVariants as directive
use Rattle.cw_rules.specs.declared.tokens.TokKind.TheVariants as kind
use Rattle.cw_tokens.specs.declared.token.Token.TheVariants as token

-- ## Names behind a token

abbrev pub AreNamesBehind : List Entry → List Entry → Type 0
AreNamesBehind names new = IsLater names new × (AreDistinct names → AreDistinct new) × (HaveCats names → HaveCats new)

pub same-behind : (names : List Entry) → AreNamesBehind names names
same-behind names = (later-same names, λ d. d, λ h. h)

pub names-behind : (k : TokKind) (text : List ℕ) (names : List Entry) → AreNamesBehind names (names_with k text names)
names-behind k text names = grind (arith, later-entry, distinct-entry, have-entry, same-behind)

-- ## Categories

among-real : (words : List Entry) (word : List ℕ) (other : Cat) → HaveCats words → other ≢ End
    → unwrap_or (category_among words word) other ≢ End
among-real [] word other all h = h
among-real (e ∷ words) word other all h = by (pointwise nat_eq word e.text) (among-real words word other all.1 h)
  where
    by : (b : Bool) → unwrap_or (category_among words word) other ≢ End
        → unwrap_or (if b then Some e.category else category_among words word) other ≢ End
    by true later = all.0
    by false later = later

directive-cats : HaveCats directive_words
directive-cats = real-law directive_words refl

own-real : (names : List Entry) (k : ℕ) → HaveCats names → own_cat names k ≢ End
own-real [] k all = λ e. absurd cc
own-real (e ∷ names) zero all = all.0
own-real (e ∷ names) (suc k) all = own-real names k all.1

line-real : (hash_line : Bool) (text : List ℕ) (own : Cat) → own ≢ End → cat_in_line hash_line text own ≢ End
line-real true text own h =
    let words = words_with SizeofLike (codes "defined" ∷ []) in among-real words text own (real-law words refl) h
line-real false text own h = h

word-real : (hash_line : Bool) (d : Directive) (text : List ℕ) (own : Cat) → own ≢ End
    → word_cat hash_line d text own ≢ End
word-real hash_line directive.No text own h = line-real hash_line text own h
word-real hash_line directive.Word text own h =
    among-real directive_words text _ directive-cats (line-real hash_line text own h)
word-real hash_line directive.Macro text own h = λ e. absurd cc

-- ## Forms

-- What is known of a form: its tree is written with words of the names, and its category isn't End.
abbrev pub IsForm : List Entry → LeafForm → Type 0
IsForm names form = IsLogged names (leaf_scrap form)

abbrev pub MayBeForm : List Entry → Option LeafForm → Type 0
MayBeForm names None = Unit {0}
MayBeForm names (Some form) = IsForm names form

named-word : (text : List ℕ) (o : Option Entry) → is_identifier text ≡ true → IsNamed text o → IsWordEntry o
named-word text o h n = grind arith

word-there : (text : List ℕ) (names : List Entry) → is_identifier text ≡ true
    → IsWord (with_entry ident_kind text names) (place_of ident_kind text names)
word-there text names h = grind (arith, named-word, slice_get, entry-there)

word-logged : (names : List Entry) (c : Cat) (id : NameId) (number : ℕ) → IsWord names id.index → c ≢ End
    → IsForm names (word_form c id number)
word-logged names c id number w h = grind arith

sign-real : (s : Sign) → sign_cat s ≢ End
sign-real s = grind arith

code-logged : (names : List Entry) (c : Code) (number : ℕ) → MayBeForm names (code_form c number)
code-logged names c number = grind arith

form-logged : (names : List Entry) (k : TokKind) (number : ℕ) → MayBeForm names (form_of k number)
form-logged names k number = grind (arith, sign-real, code-logged)

-- a token, over the names behind it
pub token-logged : (k : TokKind) (text : List ℕ) (hash_line : Bool) (d : Directive) (number : ℕ) (names : List Entry)
    → IsSpelt k text → HaveCats names → MayBeForm (names_with k text names) (token_form k text hash_line d number names)
token-logged kind.Identifier text hash_line d number names h cats = word-logged (with_entry ident_kind text names)
    (word_cat hash_line d text (own_cat (with_entry ident_kind text names) (place_of ident_kind text names))) (record
    { index = place_of ident_kind text names }) number (word-there text names h) (word-real hash_line d text _ (own-real
    (with_entry ident_kind text names) (place_of ident_kind text names) (have-entry ident_kind text names cats)))
token-logged (kind.Code c) text hash_line d number names h cats = code-logged names c number
token-logged k text hash_line d number names h cats = form-logged names k number

-- ## Lists of tokens

pub tokens-append : (names : List Entry) (xs ys : List Token) → IsWritten names (tree_in [] xs)
    → IsWritten names (tree_in [] ys) → IsWritten names (tree_in [] (xs ++ ys))
tokens-append names [] ys h g = g
tokens-append names (token.Source number mode ∷ xs) ys h g = (h.0, tokens-append names xs ys h.1 g)
tokens-append names (token.Ident name number ∷ xs) ys h g = (h.0, tokens-append names xs ys h.1 g)
tokens-append names (token.Reserved name number cat ∷ xs) ys h g = (h.0, tokens-append names xs ys h.1 g)
tokens-append names (token.Control control ∷ xs) ys h g = (h.0, tokens-append names xs ys h.1 g)
tokens-append names (token.Inner list ∷ xs) ys h g = tokens-append names xs ys h g
tokens-append names (token.«List» list ∷ xs) ys h g = (h.0, tokens-append names xs ys h.1 g)

pub form-tokens : (names : List Entry) (o : Option LeafForm) → MayBeForm names o
    → IsWritten names (tree_in [] (option_map_or (λ form. form.tokens) o []))
form-tokens names o h = grind arith
