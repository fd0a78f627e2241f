-- The leaves of tokens, of comments and of section names have the bytes of their tokens.
use Rattle.cw_rules.specs.declared.tokens.Directive.{Directive}
use Rattle.cw_plain_laws.proofs.Terms.{arith, ◌≡◌, ℕ, Bool, true, false, List, [], ◌∷◌, ◌++◌, Option, Some, None, refl}
use Rattle.cw_plain_laws.proofs.Terms.{sym, ap, ◌∙◌, if◌then◌else◌, All, codes, append_assoc, All-head, All-tail, Cat}
use Rattle.cw_plain_laws.proofs.Terms.{Exp, Flags, MathMode, Text, Maybe, IsGroupOf, NameId, Entry, Piece, Word}
use Rattle.cw_plain_laws.proofs.Terms.{PlacedPiece, PlainSource, Stand, before, in_name, number_placed, outside}
use Rattle.cw_plain_laws.proofs.Terms.{pieces_from, placed, token_placed, Answer, Seen, Code, TokKind, LeafForm}
use Rattle.cw_plain_laws.proofs.Terms.{code_form, sign_mode, token_form, word_form, tree_in, Item, SignItem, Close}
use Rattle.cw_plain_laws.proofs.Terms.{continues_name, flat, struck, Ident, Reserved, Sign, Tree, Then}
use Rattle.cw_plain_laws.proofs.{FoundTokens.IsFound, WalkLaws.inner-passed, WalkLaws.sign-walks, Walks.Walks}
use Rattle.cw_plain_laws.proofs.{Walks.among, Walks.owners}
use Rattle.cw_reduce.proofs.ShownLaws.{struck-parts}
use Rattle.cw_tokens.specs.declared.token.Token.{Token}
use Rattle.cw_translator.specs.Translating.{CommentItem, Piece as TextPiece, InnerText, Known, comment_rest}
use Rattle.cw_translator.specs.Translating.{comment_tree, plain_text, texts_made}
use Rattle.cw_trees.specs.Tree.{Source as SourceLeaf}
use Rattle.cw_rules.specs.declared.codes.Code.TheVariants as code
use Rattle.cw_rules.specs.declared.tokens.TokKind.TheVariants as kind
use Rattle.cw_trees.specs.declared.Control.TheVariants as control

-- ## What a token prints

-- The token of a number prints its bytes, wherever it stands, and leads to where it stands.
abbrev pub OwnsBy : (Stand → PlacedPiece) → ℕ → Type 0
OwnsBy f number = (owners ((f outside).piece ∷ []) ≡ number ∷ [])
    × ((stand : Stand) → f stand ≡ placed (f outside).piece stand)

abbrev pub Owns : PlainSource → ℕ → Type 0
Owns s number = OwnsBy (number_placed s number) number

-- a token that begins no comment and is no section name
abbrev pub stays : TokKind → Bool
stays kind.LongComment = false
stays kind.ShortComment = false
stays (kind.Code code.SectionName) = false
stays (kind.Code code.FileName) = false
stays k = true

token-owns : (number : ℕ) (title : Option (List ℕ)) (k : TokKind) (text : List ℕ) → stays k ≡ true
    → OwnsBy (token_placed number title k text) number
token-owns number title k text e = grind arith

pub found-owns : (s : PlainSource) (t : Seen) → IsFound s.answers t → stays t.kind ≡ true → Owns s t.span.start
found-owns s t found e = grind (arith, token-owns)

owners-first : (p : Piece) (ps : List Piece) → owners (p ∷ ps) ≡ owners (p ∷ []) ++ owners ps
owners-first p ps = grind arith

owns-first : (s : PlainSource) (number : ℕ) → Owns s number → (stand : Stand) (rest : Stand → List Piece)
    → owners (before (number_placed s number stand) rest) ≡ number ∷ owners (rest stand)
owns-first s number owns stand rest = grind (arith, owners, owners-first)

pub source-walks : (s : PlainSource) (number : ℕ) (mode : MathMode) (t : Tree) → Owns s number → Walks s t
    → Walks s (Then (SourceLeaf number mode) t)
source-walks s number mode t owns walks comments rest = grind (arith, owns-first, among)

ident-walks : (s : PlainSource) (name number : ℕ) (t : Tree) → Owns s number → Walks s t
    → Walks s (Then (Ident name number) t)
ident-walks s name number t owns walks comments rest = owns-first s number owns (among comments)
    (pieces_from s (flat t ++ rest)) ∙ ap (λ l. number ∷ l) (walks comments rest)

reserved-walks : (s : PlainSource) (name number : ℕ) (c : Cat) (t : Tree) → Owns s number → Walks s t
    → Walks s (Then (Reserved name number c) t)
reserved-walks s name number c t owns walks comments rest = grind (arith, owns-first, among)

-- ## Tokens

-- Tokens of a list that have their bytes, whatever stands behind them.
abbrev pub TokensWalk : PlainSource → List Token → Type 0
TokensWalk s tokens = (rest : List Token) → Walks s (tree_in [] rest) → Walks s (tree_in [] (tokens ++ rest))

abbrev pub FormWalks : PlainSource → Option LeafForm → Type 0
FormWalks s None = Unit {0}
FormWalks s (Some form) = TokensWalk s form.tokens

pub word-walks : (s : PlainSource) (c : Cat) (name : NameId) (n : ℕ) → Owns s n → TokensWalk s
    (word_form c name n).tokens
word-walks s Exp name n owns rest walks = ident-walks s name.index n (tree_in [] rest) owns walks
word-walks s c name n owns rest walks = reserved-walks s name.index n c (tree_in [] rest) owns walks

code-walks : (s : PlainSource) (c : Code) (n : ℕ) → (stays (kind.Code c) ≡ true → Owns s n)
    → FormWalks s (code_form c n)
code-walks s c n owns = grind (arith, source-walks, sign-walks)

pub form-walks : (s : PlainSource) (k : TokKind) (text : List ℕ) (hash_line : Bool) (d : Directive) (n : ℕ)
    (names : List
    Entry)
    → (stays k ≡ true → Owns s n) → FormWalks s (token_form k text hash_line d n names)
form-walks s kind.Identifier text hash_line d n names owns = word-walks s _ _ n (owns refl)
form-walks s kind.Constant text hash_line d n names owns = λ rest walks.
    source-walks s n Maybe (tree_in [] rest) (owns refl) walks
form-walks s kind.Quoted text hash_line d n names owns = λ rest walks.
    source-walks s n Maybe (tree_in [] rest) (owns refl) walks
form-walks s kind.IncludeName text hash_line d n names owns = λ rest walks.
    source-walks s n Maybe (tree_in [] rest) (owns refl) walks
form-walks s kind.OtherByte text hash_line d n names owns = λ rest walks.
    source-walks s n Maybe (tree_in [] rest) (owns refl) walks
form-walks s (kind.Sign sign) text hash_line d n names owns = λ rest walks.
    source-walks s n (sign_mode sign) (tree_in [] rest) (owns refl) walks
form-walks s kind.HashLine text hash_line d n names owns = λ rest walks. sign-walks s control.Break
    (Then (SourceLeaf n Text) (tree_in [] rest)) tt (source-walks s n Text (tree_in [] rest) (owns refl) walks)
form-walks s kind.HashLineEnd text hash_line d n names owns = λ rest walks.
    sign-walks s control.Break (tree_in [] rest) tt walks
form-walks s (kind.Code c) text hash_line d n names owns = code-walks s c n owns
form-walks s _ text hash_line d n names owns = tt

-- ## Comments

abbrev pub ItemWalks : PlainSource → CommentItem → Type 0
ItemWalks s (TextPiece number) = Owns s number
ItemWalks s (InnerText tree) = Walks s tree

goes-on : (items : List CommentItem) → continues_name (comment_rest items) ≡ false
goes-on [] = refl
goes-on (TextPiece number ∷ items) = refl
goes-on (InnerText tree ∷ items) = refl

-- the rest of a comment leads out of it
rest-walks : (s : PlainSource) (items : List CommentItem) → All (ItemWalks s) items → (long : Bool)
    (comments : List Bool)
    (rest : List Item) → owners (pieces_from s (flat (comment_rest items) ++ rest) (among (long ∷ comments)))
    ≡ struck (comment_rest items) ++ owners (pieces_from s rest (among comments))
rest-walks s [] all long comments rest = refl
rest-walks s (TextPiece number ∷ items) all long comments rest = owns-first s number (All-head (ItemWalks s)
    (TextPiece number) items all) (among (long ∷ comments)) (pieces_from s (flat (comment_rest items) ++ rest))
    ∙ ap (λ l. number ∷ l) (rest-walks s items (All-tail (ItemWalks s) (TextPiece number) items all) long comments rest)
rest-walks s (InnerText tree ∷ items) all long comments rest =
    let walks : Walks s tree = All-head (ItemWalks s) (InnerText tree) items all in
    ap (λ l. owners (pieces_from s l (among (long ∷ comments)))) (append_assoc (flat tree) (Close ∷ flat
    (comment_rest items)) rest) ∙ walks (long ∷ comments) (Close ∷ (flat (comment_rest items) ++ rest)) ∙ ap
    (λ l. struck tree ++ l) (rest-walks s items (All-tail (ItemWalks s) (InnerText tree) items all) long comments rest)
    ∙ sym (append_assoc (struck tree) (struck (comment_rest items)) (owners (pieces_from s rest (among comments))))
    ∙ ap (λ l. l ++ owners (pieces_from s rest (among comments))) (sym (ap (λ (b : Bool). if b then struck
    (comment_rest items) else struck tree ++ struck (comment_rest items)) (goes-on items)))

abbrev is_long : TokKind → Bool
is_long kind.LongComment = true
is_long k = false

abbrev opening_bytes : TokKind → List ℕ
opening_bytes kind.LongComment = codes "/*"
opening_bytes k = codes "//"

abbrev BeginsComment : TokKind → (Stand → PlacedPiece) → ℕ → Type 0
BeginsComment k f number = (comments : List Bool) → f (among comments)
    ≡ placed (Word number (opening_bytes k)) (among (is_long k ∷ comments))

token-begins : (number : ℕ) (title : Option (List ℕ)) (k : TokKind) (text : List ℕ) → IsGroupOf false k
    → BeginsComment k (token_placed number title k text) number
token-begins number title k text is comments = grind arith

pub comment-walks : (s : PlainSource) (t : Seen) (items : List CommentItem) → IsFound s.answers t
    → IsGroupOf false t.kind
    → All (ItemWalks s) items → Walks s (comment_tree t.span.start items)
comment-walks s t items found is all comments rest = grind (arith, token-begins, owners, rest-walks)

-- ## Section names

abbrev pub is_name : TokKind → Bool
is_name (kind.Code code.SectionName) = true
is_name (kind.Code code.FileName) = true
is_name k = false

abbrev TitledBy : (Stand → PlacedPiece) → ℕ → List ℕ → Type 0
TitledBy f number title = (comments : List Bool) → f (among comments)
    ≡ placed (Word number (codes "<" ++ title ++ codes ">")) (in_name (among comments))

token-titled : (number : ℕ) (title : List ℕ) (k : TokKind) (text : List ℕ) → is_name k ≡ true
    → TitledBy (token_placed number (Some title) k text) number title
token-titled number title k text is comments = grind arith

name-titled : (s : PlainSource) (t : Seen) (title : List ℕ) → IsFound s.answers t → is_name t.kind ≡ true
    → s.titles t.span.start ≡ Some title → TitledBy (number_placed s t.span.start) t.span.start title
name-titled s t title found is e = grind (arith, token-titled)

name-passed : (s : PlainSource) (flags : Flags) (parts : List (List Answer)) (behind : Tree) (known : Known)
    (comments : List Bool) (rest : List Item) → pieces_from s (flat (texts_made flags parts (Then (Sign control.NameEnd)
    behind) known).tree ++ rest) (in_name (among comments)) ≡ pieces_from s (flat behind ++ rest) (among comments)
name-passed s flags [] behind known comments rest = refl
name-passed s flags (part ∷ parts) behind known comments rest =
    let text = plain_text flags part known in
    let more = texts_made flags parts (Then (Sign control.NameEnd) behind) text.known in
    ap (λ l. pieces_from s l (record { name = 2; comments = comments })) (append_assoc (flat text.tree)
    (Close ∷ SignItem control.NameText ∷ flat more.tree) rest) ∙ inner-passed s text.tree 0 comments (Close ∷ SignItem
    control.NameText ∷ (flat more.tree ++ rest)) ∙ name-passed s flags parts behind text.known comments rest

pub name-walks : (s : PlainSource) (flags : Flags) (t : Seen) (title : List ℕ) (parts : List (List Answer))
    (behind : Tree)
    (known : Known) → IsFound s.answers t → is_name t.kind ≡ true → s.titles t.span.start ≡ Some title → Walks s behind
    → Walks s (Then (SourceLeaf t.span.start Maybe)
    (texts_made flags parts (Then (Sign control.NameEnd) behind) known).tree)
name-walks s flags t title parts behind known found is titled walks comments rest =
    grind (arith, owners, name-titled, name-passed, among, struck-parts)
