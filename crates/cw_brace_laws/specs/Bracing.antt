-- Braces in the tree of a translation: those that productions put in pair, and between them stands no text.
use Rattle.std.specs.Prelude.{◌≡◌, ℕ, zero, suc, Bool, true, false, Option, Some, None, if◌then◌else◌}
use Rattle.cw_base.specs.declared.mode.MathMode.{MathMode}
use Rattle.cw_table.specs.Braces.{is_calm, is_text}
use Rattle.cw_trees.specs.Joining.{Scrap, needs}
use Rattle.cw_trees.specs.Tree.{Leaf, Source, Ident, Reserved, Sign, Tree, Empty, Then, Sub, Inner}
use Rattle.cw_trees.specs.declared.Control.{Control}
use Rattle.cw_trees.specs.declared.Control.TheVariants.{OpenBrace, CloseBrace, OpenRelation, ToMath, ToText, Dollar}

-- ## Reading a tree
-- A tree is read item by item, with the number of braces that are open. It leads nowhere where a brace closes that
-- none opened, or where something stands between braces that can't.

abbrev pub leads_on : Option ℕ → (ℕ → Option ℕ) → Option ℕ
leads_on None next = None
leads_on (Some depth) next = next depth

-- what can stand outside of braces only
abbrev pub outside : ℕ → Option ℕ
outside zero = Some zero
outside (suc depth) = None

abbrev pub outside_if : Bool → ℕ → Option ℕ
outside_if is_text depth = if is_text then outside depth else Some depth

-- a control is text: it needs text, or leads to text or from there
abbrev pub is_text_sign : Control → Bool
is_text_sign ToMath = true
is_text_sign ToText = true
is_text_sign Dollar = true
is_text_sign control = is_text (needs control)

abbrev pub sign_depth : Control → ℕ → Option ℕ
sign_depth OpenBrace depth = Some (suc depth)
sign_depth OpenRelation depth = Some (suc depth)
sign_depth CloseBrace zero = None
sign_depth CloseBrace (suc depth) = Some depth
sign_depth control depth = outside_if (is_text_sign control) depth

abbrev pub leaf_depth : Leaf → ℕ → Option ℕ
leaf_depth (Source number mode) depth = outside_if (is_text mode) depth
leaf_depth (Ident name number) depth = Some depth
leaf_depth (Reserved name number cat) depth = Some depth
leaf_depth (Sign control) depth = sign_depth control depth

-- An inner text stands outside of braces, and its own braces pair.
abbrev pub depth_of : Tree → ℕ → Option ℕ
depth_of Empty depth = Some depth
depth_of (Then leaf rest) depth = leads_on (leaf_depth leaf depth) (depth_of rest)
depth_of (Sub tree rest) depth = leads_on (depth_of tree depth) (depth_of rest)
depth_of (Inner tree rest) depth =
    leads_on (leads_on (leads_on (outside depth) (depth_of tree)) outside) (depth_of rest)

-- The braces of a tree pair, with no text between them, and so do those of each inner text in it.
abbrev pub IsBraced : Tree → Type 0
IsBraced tree = depth_of tree 0 ≡ Some 0

-- ## Scraps

-- an end of a scrap that stands between braces isn't in text
abbrev pub EndsAt : ℕ → MathMode → Type 0
EndsAt zero mode = Unit {0}
EndsAt (suc depth) mode = is_text mode ≡ false

-- a tree with its two modes can stand where so many braces are open
pub record StandsAt (depth : ℕ) (tree : Tree) (left right : MathMode) : Type 0 where
  pub back : depth_of tree depth ≡ Some depth
  pub begins : EndsAt depth left
  pub ends : EndsAt depth right

-- a scrap that holds no text: it can stand between braces, however many are open
abbrev pub HoldsNoText : Scrap → Type 0
HoldsNoText scrap = (depth : ℕ) → StandsAt depth scrap.tree scrap.left scrap.right

-- The braces of a scrap pair, with no text between them, and one of a calm category holds no text.
pub record IsBracedScrap (scrap : Scrap) : Type 0 where
  pub braced : IsBraced scrap.tree
  pub calm : is_calm scrap.cat ≡ true → HoldsNoText scrap
