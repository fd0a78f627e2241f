-- The translation of a C text, over the nest of its tokens: a token makes a leaf; the inner texts of a comment are
-- translated when its leaf is made; a text that ends is reduced and put together.
use Rattle.std.specs.Prelude.{ℕ, Bool, true, false, List, [], ◌∷◌, ◌++◌, Option, Some, None, if◌then◌else◌}
use Rattle.std.specs.Option.{option_map_or}
use Rattle.cw_base.specs.declared.category.Cat.{Cat}
use Rattle.cw_base.specs.declared.category.Cat.TheVariants as cat
use Rattle.cw_base.specs.declared.flags.Flags.{Flags}
use Rattle.cw_base.specs.declared.mode.MathMode.{MathMode}
use Rattle.cw_base.specs.declared.mode.MathMode.TheVariants.{Text, Maybe}
use Rattle.cw_rules.specs.Answers.{Answer, Seen}
use Rattle.cw_rules.specs.declared.codes.Code.TheVariants as code
use Rattle.cw_rules.specs.declared.tokens.TokKind.{TokKind}
use Rattle.cw_rules.specs.declared.tokens.TokKind.TheVariants as kind
use Rattle.cw_lex.specs.Heads.{Head, Headless, Macro, Format, Silent, Named, Headed, headed}
use Rattle.cw_lex.specs.Nest.{Nest, End, Leaf, Group, nest}
use Rattle.cw_names.specs.Names.{Entry}
use Rattle.cw_trees.specs.declared.Control.TheVariants as control
use Rattle.cw_trees.specs.Tree.{Tree, Empty, Then, Inner, Source, Sign}
use Rattle.cw_trees.specs.Joining.{Scrap, whole}
use Rattle.cw_table.specs.Normal.{normal}
use Rattle.cw_table.specs.Productions.{productions}
use Rattle.cw_table.specs.Rewriting.{State}
use Rattle.cw_tokens.specs.declared.token.Token.{Token}
use Rattle.cw_tokens.specs.declared.token.Token.TheVariants as token
use Rattle.cw_tokens.specs.Shapes.{tree_in}
use Rattle.cw_scraps.specs.Applying.{categories}
use Rattle.cw_scraps.specs.Leaves.{LeafForm, token_form, names_with}

-- ## Scraps

-- the scrap of a token without nested text
abbrev pub leaf_scrap : LeafForm → Scrap
leaf_scrap form = record { cat = form.cat; tree = tree_in [] form.tokens; left = form.mode; right = form.mode }

-- A comment: what stands in its text, and the scrap that it makes.
pub data CommentItem : Type 0 where
  Piece : (number : ℕ) → CommentItem
  InnerText : (tree : Tree) → CommentItem

abbrev pub comment_rest : List CommentItem → Tree
comment_rest [] = Then (Sign control.CommentEnd) (Then (Sign control.Break) Empty)
comment_rest (Piece number ∷ items) = Then (Source number Text) (comment_rest items)
comment_rest (InnerText tree ∷ items) = Inner tree (comment_rest items)

abbrev pub comment_tree : ℕ → List CommentItem → Tree
comment_tree number items = Then (Sign control.Cancel) (Then (Source number Text) (comment_rest items))

abbrev pub comment_scrap : ℕ → List CommentItem → Scrap
comment_scrap number items = record { cat = cat.Insert; tree = comment_tree number items; left = Text; right = Text }

-- ## What goes on from token to token

-- What is known: the names, the marks, and what was reduced, in the order in which the texts ended.
pub record Known : Type 0 where
  pub names : List Entry
  pub marks : List ℕ
  pub ended : List State

abbrev pub begin : List Entry → List ℕ → Known
begin names marks = record { names = names; marks = marks; ended = [] }

abbrev pub with_names : List Entry → Known → Known
with_names names known = record { names = names; marks = known.marks; ended = known.ended }

-- What is made of tokens: scraps of those of C text, and items of those of a comment.
pub record Made : Type 0 where
  pub scraps : List Scrap
  pub items : List CommentItem
  pub known : Known

abbrev pub nothing : Known → Made
nothing known = record { scraps = []; items = []; known = known }

abbrev pub one_scrap : Scrap → Known → Made
one_scrap scrap known = record { scraps = scrap ∷ []; items = []; known = known }

abbrev pub one_item : CommentItem → Known → Made
one_item item known = record { scraps = []; items = item ∷ []; known = known }

-- one after the other, where the first is known to the second
abbrev pub beside : Made → Made → Made
beside first second = record {
  scraps = first.scraps ++ second.scraps;
  items = first.items ++ second.items;
  known = second.known;
}

abbrev pub made_before : Made → (Known → Made) → Made
made_before first rest = beside first (rest first.known)

-- ## The end of a text

-- names with these categories
abbrev pub with_categories : List Cat → List Entry → List Entry
with_categories [] names = names
with_categories cats [] = []
with_categories (cat ∷ cats) (name ∷ names) = record name { category = cat } ∷ with_categories cats names

-- A text has ended: its scraps were reduced, with the categories that held there, and put together.
pub record Ended : Type 0 where
  pub tree : Tree
  pub known : Known

abbrev pub state_in : List Scrap → Known → State
state_in scraps known = record { scraps = scraps; marks = known.marks; cats = categories known.names }

abbrev pub ended_as : State → State → Known → Ended
ended_as begun done known = record {
  tree = whole done.scraps;
  known = record {
    names = with_categories done.cats known.names;
    marks = done.marks;
    ended = known.ended ++ begun
        ∷ [];
  };
}

abbrev pub end_from : Flags → State → Known → Ended
end_from flags begun known = ended_as begun (normal productions flags begun) known

abbrev pub end_of : Flags → Made → Ended
end_of flags made = end_from flags (state_in made.scraps made.known) made.known

-- ## Tokens, comments and inner texts

-- A token. Of section names it is said elsewhere what they make.
abbrev pub form_made : Option LeafForm → Known → Made
form_made None known = nothing known
form_made (Some form) known = one_scrap (leaf_scrap form) known

abbrev pub token_made : (ℕ → Known → Made) → TokKind → Seen → Known → Made
token_made name kind.Text token known = one_item (Piece token.span.start) known
token_made name (kind.Code code.SectionName) token known = name token.span.start known
token_made name (kind.Code code.FileName) token known = name token.span.start known
token_made name k token known =
    form_made (token_form k token.text token.hash_line token.directive token.span.start known.names)
    (with_names (names_with k token.text known.names) known)

-- what begins and ends: an inner text of a comment, and a comment
abbrev pub as_item : Ended → Made
as_item text = one_item (InnerText text.tree) text.known

abbrev pub group_made : Flags → TokKind → Seen → Made → Made
group_made flags kind.InnerText token made = as_item (end_of flags made)
group_made flags k token made = one_scrap (comment_scrap token.span.start made.items) made.known

abbrev pub made : Flags → (ℕ → Known → Made) → Nest → Known → Made
made flags name End known = nothing known
made flags name (Leaf token rest) known = made_before (token_made name token.kind token known) (made flags name rest)
made flags name (Group token inner rest) known =
    made_before (group_made flags token.kind token (made flags name inner known)) (made flags name rest)

-- A text without a head, in which no section name stands for anything.
abbrev pub no_name : ℕ → Known → Made
no_name number known = nothing known

abbrev pub plain_text : Flags → List Answer → Known → Ended
plain_text flags answers known = end_of flags (made flags no_name (nest answers) known)

-- ## Section names

-- What a section name stands for, by the number of its token: the answers of its inner texts, which are plain texts. A
-- name that stands for nothing has none, and makes no scrap.
abbrev pub NameTexts : Type 0
NameTexts = ℕ → Option (List (List Answer))

-- no name stands for anything
abbrev pub unnamed : NameTexts
unnamed number = None

-- Its leaf is its token, and then each inner text with the control for the text behind it.
abbrev pub inner_before : Tree → Ended → Ended
inner_before tree rest = record { tree = Inner tree (Then (Sign control.NameText) rest.tree); known = rest.known }

abbrev pub then_texts : Ended → (Known → Ended) → Ended
then_texts text rest = inner_before text.tree (rest text.known)

abbrev pub texts_made : Flags → List (List Answer) → Tree → Known → Ended
texts_made flags [] behind known = record { tree = behind; known = known }
texts_made flags (text ∷ texts) behind known = then_texts (plain_text flags text known) (texts_made flags texts behind)

abbrev pub scrap_of_name : Cat → MathMode → ℕ → Ended → Made
scrap_of_name c mode number text =
    one_scrap (record { cat = c; tree = Then (Source number Maybe) text.tree; left = mode; right = mode }) text.known

abbrev pub texts_named : Flags → Option (List (List Answer)) → Cat → MathMode → Tree → ℕ → Known → Made
texts_named flags None c mode behind number known = nothing known
texts_named flags (Some texts) c mode behind number known =
    scrap_of_name c mode number (texts_made flags texts (Then (Sign control.NameEnd) behind) known)

abbrev pub leaf_of_name : Flags → NameTexts → ℕ → Known → Made
leaf_of_name flags named number known = texts_named flags (named number) cat.SectionScrap Maybe Empty number known

-- ## Heads

-- The words of a head as tokens, and the names with theirs.
pub record Spelled : Type 0 where
  pub tokens : List Token
  pub names : List Entry

abbrev pub spelled_behind : List Token → Spelled → Spelled
spelled_behind tokens rest = record { tokens = tokens ++ rest.tokens; names = rest.names }

abbrev pub word_tokens : Seen → List Entry → List Token
word_tokens word names =
    option_map_or (λ form. form.tokens) (token_form word.kind word.text word.hash_line word.directive word.span.start
    names) []

abbrev pub spelled : List Seen → List Entry → Spelled
spelled [] names = record { tokens = []; names = names }
spelled (word ∷ words) names = spelled_behind (word_tokens word names)
    (spelled words (names_with word.kind word.text names))

-- the first of two names, and the second
abbrev pub first_word : List Seen → List Seen
first_word [] = []
first_word (word ∷ words) = word ∷ []

abbrev pub later_words : List Seen → List Seen
later_words [] = []
later_words (word ∷ words) = words

-- Heads of definitions are dead scraps, of the code's token and the words.
abbrev pub dead : ℕ → List Token → LeafForm
dead number tokens = record {
  cat = cat.Dead;
  mode = Text;
  tokens = token.Control control.Backup ∷ token.Source number Text ∷ tokens;
}

abbrev pub dollared : List Token → List Token
dollared [] = []
dollared (first ∷ tokens) = token.Control control.Dollar ∷ first ∷ tokens ++ token.Control control.Dollar ∷ []

abbrev pub macro_made : ℕ → Spelled → Known → Made
macro_made number words known =
    one_scrap (leaf_scrap (dead number (dollared words.tokens ++ token.Control control.OptionalBreak ∷ [])))
    (with_names words.names known)

-- The names of a format definition stand in text, so a macro of TeX among them has dollars of its own.
abbrev pub is_macro : Token → Bool
is_macro (token.Reserved name number cat.TexLike) = true
is_macro word = false

abbrev pub name_in_text : Token → List Token
name_in_text word = if is_macro word then dollared (word ∷ []) else word ∷ []

abbrev pub names_in_text : List Token → List Token
names_in_text [] = []
names_in_text (word ∷ words) = name_in_text word ++ names_in_text words

abbrev pub format_made : ℕ → Spelled → Spelled → Known → Made
format_made number first second known =
    one_scrap (leaf_scrap (dead number (names_in_text first.tokens ++ token.Control control.OptionalBreak
    ∷ names_in_text second.tokens)))
    (with_names second.names known)

abbrev pub format_from : ℕ → Spelled → List Seen → Known → Made
format_from number first second known = format_made number first (spelled second first.names) known

-- the sign of a named C part, and the break behind it
abbrev pub sign_behind : ℕ → Tree
sign_behind number = Then (Source number Text) (Then (Sign control.Break) Empty)

abbrev pub head_made : Flags → NameTexts → Head → Known → Made
head_made flags named Headless known = nothing known
head_made flags named (Macro number words) known = macro_made number (spelled words known.names) known
head_made flags named (Format number words) known = format_from number (spelled (first_word words) known.names)
    (later_words words) known
head_made flags named (Silent words) known = nothing (with_names (spelled words known.names).names known)
head_made flags named (Named number sign) known = texts_named flags (named number) cat.Dead Text (sign_behind sign)
    number known

-- ## The translation

abbrev pub headed_made : Flags → NameTexts → Headed → Known → Made
headed_made flags named h known = made_before (head_made flags named h.head known)
    (made flags (leaf_of_name flags named) h.rest)

-- The translation of a text of which these are the scanner's answers.
unfoldable pub translated : Flags → NameTexts → List Answer → List Entry → List ℕ → Ended
translated flags named answers names marks = end_of flags (headed_made flags named (headed (nest answers))
    (begin names marks))
