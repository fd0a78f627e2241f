-- The scrap of a token without nested text: its category, the mode of its two ends, and the tokens of its list.
use Rattle.std.specs.Prelude.{◌≡◌, ℕ, Bool, false, List, [], ◌∷◌, ◌++◌, length, Option, Some, None, unwrap_or}
use Rattle.std.specs.Prelude.{slice_get, option_map, IsSome, if◌then◌else◌}
use Rattle.cw_base.specs.declared.category.Cat.{Cat}
use Rattle.cw_base.specs.declared.category.Cat.TheVariants as cat
use Rattle.cw_base.specs.declared.mode.MathMode.{MathMode}
use Rattle.cw_base.specs.declared.mode.MathMode.TheVariants.{Text, Math, Maybe}
use Rattle.cw_rules.specs.declared.codes.Code.{Code}
use Rattle.cw_rules.specs.declared.codes.Code.TheVariants as code
use Rattle.cw_rules.specs.declared.signs.Sign.{Sign}
use Rattle.cw_rules.specs.declared.signs.Sign.TheVariants as sign
use Rattle.cw_rules.specs.declared.tokens.Directive.{Directive}
use Rattle.cw_rules.specs.declared.tokens.Directive.TheVariants as directive
use Rattle.cw_rules.specs.declared.tokens.TokKind.{TokKind}
use Rattle.cw_rules.specs.declared.tokens.TokKind.TheVariants as kind
use Rattle.cw_names.specs.declared.NameId.{NameId}
use Rattle.cw_names.specs.declared.entry.EntryKind.TheVariants.{Ident as ident_kind}
use Rattle.cw_names.specs.Names.{Entry, place_of, with_entry}
use Rattle.cw_names.specs.Words.{directive_category, hash_line_category}
use Rattle.cw_trees.specs.declared.Control.TheVariants as control
use Rattle.cw_tokens.specs.declared.token.Token.{Token}
use Rattle.cw_tokens.specs.declared.token.Token.TheVariants.{Source, Ident, Reserved, Control}
use Rattle.cw_scraps.specs.declared.leaves.Leaf.{Leaf}
use Rattle.cw_scraps.specs.declared.line.LineEntry.{LineEntry}

pub record LeafForm : Type 0 where
  pub cat : Cat
  pub mode : MathMode
  pub tokens : List Token

-- one token that is printed as it is read
abbrev pub source : Cat → MathMode → ℕ → LeafForm
source c mode number = record { cat = c; mode = mode; tokens = Source number mode ∷ [] }

-- signs
abbrev pub sign_cat : Sign → Cat
sign_cat sign.Slash = cat.Binop
sign_cat sign.Dot = cat.Dot
sign_cat sign.Less = cat.Binop
sign_cat sign.Greater = cat.Binop
sign_cat sign.Bar = cat.Binop
sign_cat sign.Assign = cat.Binop
sign_cat sign.Caret = cat.Binop
sign_cat sign.Percent = cat.Binop
sign_cat sign.Arrow = cat.Binop
sign_cat sign.ShiftLeft = cat.Binop
sign_cat sign.ShiftRight = cat.Binop
sign_cat sign.Equal = cat.Binop
sign_cat sign.NotEqual = cat.Binop
sign_cat sign.AtMost = cat.Binop
sign_cat sign.AtLeast = cat.Binop
sign_cat sign.AndAnd = cat.Binop
sign_cat sign.OrOr = cat.Binop
sign_cat sign.Not = cat.Unop
sign_cat sign.Tilde = cat.Unop
sign_cat sign.PlusPlus = cat.Unop
sign_cat sign.MinusMinus = cat.Unop
sign_cat sign.Plus = cat.Ubinop
sign_cat sign.Minus = cat.Ubinop
sign_cat sign.Hash = cat.Ubinop
sign_cat sign.Star = cat.RawUbin
sign_cat sign.Ampersand = cat.RawUbin
sign_cat sign.Question = cat.Question
sign_cat sign.LeftParen = cat.Lpar
sign_cat sign.LeftBracket = cat.Lpar
sign_cat sign.RightParen = cat.Rpar
sign_cat sign.RightBracket = cat.Rpar
sign_cat sign.LeftBrace = cat.Lbrace
sign_cat sign.RightBrace = cat.Rbrace
sign_cat sign.Comma = cat.Comma
sign_cat sign.Semicolon = cat.Semi
sign_cat sign.Colon = cat.Colon
sign_cat sign.Ellipsis = cat.Dots
sign_cat sign.DoubleColon = cat.Colcol
sign_cat sign.QuestionColon = cat.Binop
sign_cat sign.DoubleBracket = cat.AttrHead

-- brackets, the semicolon and the colon need no mode; every other sign is in math
abbrev pub sign_mode : Sign → MathMode
sign_mode sign.LeftParen = Maybe
sign_mode sign.LeftBracket = Maybe
sign_mode sign.RightParen = Maybe
sign_mode sign.RightBracket = Maybe
sign_mode sign.DoubleBracket = Maybe
sign_mode sign.Semicolon = Maybe
sign_mode sign.Colon = Maybe
sign_mode _ = Math

-- codes; those that make no scrap of their own have none here
abbrev pub code_form : Code → ℕ → Option LeafForm
code_form code.TexBox number = Some (source cat.Box Maybe number)
code_form code.Verbatim number = Some (source cat.Box Maybe number)
code_form code.Quote number = Some (source cat.Exp Maybe number)
code_form code.Join number = Some (source cat.Insert Maybe number)
code_form code.ThinSpace number = Some (record {
  cat = cat.Insert;
  mode = Maybe;
  tokens = Control control.ThinSpace
      ∷ [];
})
code_form code.LineBreak number = Some (record { cat = cat.Insert; mode = Text; tokens = Control control.Break ∷ [] })
code_form code.BigBreak number = Some (record { cat = cat.Insert; mode = Text; tokens = Control control.BigBreak ∷ [] })
code_form code.OptionalBreak number =
    Some (record { cat = cat.Insert; mode = Maybe; tokens = Control control.OptionalLineBreak0 ∷ [] })
code_form code.NoBreak number = Some (record {
  cat = cat.Insert;
  mode = Text;
  tokens = Control control.Cancel
      ∷ Control control.Wall ∷ Control control.OptionalBreak ∷ Control control.Wall ∷ Control control.Cancel ∷ [];
})
code_form code.HeaderFile number = Some (record {
  cat = cat.Insert;
  mode = Text;
  tokens = Control control.Break
      ∷ Source number Text ∷ Control control.Break ∷ [];
})
code_form code.InvisibleSemicolon number = Some (record { cat = cat.Semi; mode = Maybe; tokens = [] })
code_form code.BeginArgument number = Some (record { cat = cat.BeginArg; mode = Maybe; tokens = [] })
code_form code.EndArgument number = Some (record { cat = cat.EndArg; mode = Maybe; tokens = [] })
code_form _ number = None

-- Tokens other than identifiers; those that make no scrap of their own have none here.
abbrev pub form_of : TokKind → ℕ → Option LeafForm
form_of kind.Constant number = Some (source cat.Exp Maybe number)
form_of kind.Quoted number = Some (source cat.Exp Maybe number)
form_of kind.IncludeName number = Some (source cat.Exp Maybe number)
form_of kind.OtherByte number = Some (source cat.Exp Maybe number)
form_of (kind.Sign s) number = Some (source (sign_cat s) (sign_mode s) number)
form_of kind.HashLine number = Some (record {
  cat = cat.Lproc;
  mode = Text;
  tokens = Control control.Break
      ∷ Source number Text ∷ [];
})
form_of kind.HashLineEnd number = Some (record { cat = cat.Rproc; mode = Text; tokens = Control control.Break ∷ [] })
form_of (kind.Code c) number = code_form c number
form_of _ number = None

-- An identifier. One of another category than exp is a reserved word; a macro of TeX is in math.
abbrev pub word_form : Cat → NameId → ℕ → LeafForm
word_form cat.Exp name number = record { cat = cat.Exp; mode = Maybe; tokens = Ident name number ∷ [] }
word_form cat.TexLike name number =
    record { cat = cat.TexLike; mode = Math; tokens = Reserved name number cat.TexLike ∷ [] }
word_form c name number = record { cat = c; mode = Maybe; tokens = Reserved name number c ∷ [] }

-- The category of an identifier that has one of its own: in a `#` line, and directly behind its `#`, the words of such
-- lines have others.
abbrev pub cat_in_line : Bool → List ℕ → Cat → Cat
cat_in_line hash_line text own = if hash_line then unwrap_or (hash_line_category text) own else own

abbrev pub word_cat : Bool → Directive → List ℕ → Cat → Cat
word_cat hash_line directive.No text own = cat_in_line hash_line text own
word_cat hash_line directive.Word text own = unwrap_or (directive_category text) (cat_in_line hash_line text own)
word_cat hash_line directive.Macro text own = cat.MdefineLike

abbrev pub own_cat : List Entry → ℕ → Cat
own_cat names index = unwrap_or (option_map (λ entry. entry.category) (slice_get names index)) cat.Exp

-- The form of a token, which may stand in a `#` line and be a word of a directive, where these are the names before it.
abbrev pub token_form : TokKind → List ℕ → Bool → Directive → ℕ → List Entry → Option LeafForm
token_form kind.Identifier text hash_line d number names =
    Some (word_form (word_cat hash_line d text (own_cat (with_entry ident_kind text names)
    (place_of ident_kind text names))) (record { index = place_of ident_kind text names }) number)
token_form k text hash_line d number names = form_of k number

-- the names after a token: those with that of an identifier
abbrev pub names_with : TokKind → List ℕ → List Entry → List Entry
names_with kind.Identifier text names = with_entry ident_kind text names
names_with _ text names = names

-- a token makes a scrap of its own
abbrev pub MakesLeaf : TokKind → Type 0
MakesLeaf k = IsSome (token_form k [] false directive.No 0 [])

-- the scrap has the form, and its list is the one that is new in the store
pub record HasForm (form : LeafForm) (leaf : Leaf) (old new : List (List Token)) : Type 0 where
  pub cat : leaf.cat ≡ form.cat
  pub left : leaf.left ≡ form.mode
  pub right : leaf.right ≡ form.mode
  pub list : leaf.list.index ≡ length old
  pub lists : new ≡ old ++ form.tokens ∷ []

abbrev pub entry_of : Leaf → LineEntry
entry_of leaf = record { cat = leaf.cat; list = leaf.list; left = leaf.left; right = leaf.right }
