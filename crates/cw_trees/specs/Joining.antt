-- Scraps, and how their trees are joined. Each end of a translation is in text mode, in math mode, or in
-- either; where two pieces do not fit, a toggle is put between them.
use Rattle.std.specs.Prelude.{◌≡◌, Option, Some, None, List, [], ◌∷◌}
use Rattle.cw_base.specs.declared.category.Cat.{Cat}
use Rattle.cw_base.specs.declared.category.Cat.TheVariants.{End}
use Rattle.cw_base.specs.declared.mode.MathMode.{MathMode}
use Rattle.cw_base.specs.declared.mode.MathMode.TheVariants.{Text, Math, Maybe}
use Rattle.cw_trees.specs.declared.Control.{Control}
use Rattle.cw_trees.specs.declared.Control.TheVariants.{Blank, OptionalBreak, Break, BigBreak, Cancel, Backup, Wall}
use Rattle.cw_trees.specs.declared.Control.TheVariants.{Indent, Outdent, OptionalLineBreak0, OptionalLineBreak9}
use Rattle.cw_trees.specs.declared.Control.TheVariants.{ThinSpace, OpenBrace, CloseBrace, OpenRelation, Inserted}
use Rattle.cw_trees.specs.declared.Control.TheVariants.{ToMath, ToText, Dollar, CommentEnd, NameText, NameEnd}
use Rattle.cw_trees.specs.Tree.{Leaf, Source, Ident, Reserved, Sign, Tree, Empty, Then, Sub, Inner}

-- a piece of C text on its way through the productions: its category, its translation, and its two modes
pub record Scrap : Type 0 where
  pub cat : Cat
  pub tree : Tree
  pub left : MathMode
  pub right : MathMode

-- what is read past the end of a list of scraps
abbrev pub no_scrap : Scrap
no_scrap = record { cat = End; tree = Empty; left = Maybe; right = Maybe }

-- the mode that a control needs; Maybe where it needs none
abbrev pub needs : Control → MathMode
needs Blank = Text
needs OptionalBreak = Text
needs Break = Text
needs BigBreak = Text
needs Cancel = Text
needs Backup = Text
needs Wall = Maybe
needs Indent = Maybe
needs Outdent = Maybe
needs OptionalLineBreak0 = Maybe
needs OptionalLineBreak9 = Maybe
needs ThinSpace = Maybe
needs OpenBrace = Math
needs CloseBrace = Math
needs OpenRelation = Math
needs Inserted = Maybe
needs ToMath = Text
needs ToText = Math
needs Dollar = Maybe
needs CommentEnd = Text
needs NameText = Maybe
needs NameEnd = Maybe

-- a piece of a translation that is to be joined: the tree of a scrap with its modes, or a control
pub data JoinPiece : Type 0 where
  Whole : (tree : Tree) → (left : MathMode) → (right : MathMode) → JoinPiece
  Mark : (control : Control) → JoinPiece

-- the toggle, if one is needed, between the mode so far and the left mode of the piece with which a tree begins
abbrev pub toggled : MathMode → MathMode → Tree → Tree
toggled Math Text tree = Then (Sign ToText) tree
toggled Text Math tree = Then (Sign ToMath) tree
toggled _ _ tree = tree

-- the mode so far after a piece: as before where its left mode is Maybe, else its right mode
abbrev pub after : MathMode → MathMode → MathMode → MathMode
after mode Maybe right = mode
after mode Text right = right
after mode Math right = right

-- the first of two modes that is not Maybe
abbrev pub first_mode : MathMode → MathMode → MathMode
first_mode Maybe later = later
first_mode Text later = Text
first_mode Math later = Math

-- the tree of the pieces, from a mode so far
abbrev pub joined_tree : MathMode → List JoinPiece → Tree
joined_tree mode [] = Empty
joined_tree mode (Whole tree left right ∷ pieces) =
    toggled mode left (Sub tree (joined_tree (after mode left right) pieces))
joined_tree mode (Mark control ∷ pieces) = toggled mode (needs control)
    (Then (Sign control) (joined_tree (after mode (needs control) (needs control)) pieces))

-- the left mode of the pieces: the first that is not Maybe
abbrev pub joined_left : List JoinPiece → MathMode
joined_left [] = Maybe
joined_left (Whole tree left right ∷ pieces) = first_mode left (joined_left pieces)
joined_left (Mark control ∷ pieces) = first_mode (needs control) (joined_left pieces)

-- the right mode of the pieces: the mode so far at their end
abbrev pub joined_right : MathMode → List JoinPiece → MathMode
joined_right mode [] = mode
joined_right mode (Whole tree left right ∷ pieces) = joined_right (after mode left right) pieces
joined_right mode (Mark control ∷ pieces) = joined_right (after mode (needs control) (needs control)) pieces

-- the scrap of a category that pieces are joined to
abbrev pub join : Cat → List JoinPiece → Scrap
join cat pieces = record {
  cat = cat;
  tree = joined_tree Maybe pieces;
  left = joined_left pieces;
  right = joined_right Maybe pieces;
}

-- a dollar at an end that is in math
abbrev pub dollar_before : MathMode → Tree → Tree
dollar_before Math tree = Then (Sign Dollar) tree
dollar_before _ tree = tree

-- a scrap in text, followed by a tree
abbrev pub scrap_in_text : Scrap → Tree → Tree
scrap_in_text scrap rest = dollar_before scrap.left (Sub scrap.tree (dollar_before scrap.right rest))

abbrev pub blank_and_whole : List Scrap → Tree
blank_and_whole [] = Empty
blank_and_whole (scrap ∷ scraps) = Then (Sign Blank) (scrap_in_text scrap (blank_and_whole scraps))

-- The tree of a list of scraps that no production joins: one after the other in text, with a blank between
-- each two.
abbrev pub whole : List Scrap → Tree
whole [] = Empty
whole (scrap ∷ scraps) = scrap_in_text scrap (blank_and_whole scraps)

-- where a mode that something needs leads from a mode: nowhere if the two differ
abbrev pub stays : MathMode → MathMode → Option MathMode
stays Maybe mode = Some mode
stays Text Text = Some Text
stays Math Math = Some Math
stays _ _ = None

abbrev pub other_mode : MathMode → Option MathMode
other_mode Text = Some Math
other_mode Math = Some Text
other_mode Maybe = None

abbrev pub to_math : MathMode → Option MathMode
to_math Text = Some Math
to_math _ = None

abbrev pub to_text : MathMode → Option MathMode
to_text Math = Some Text
to_text _ = None

-- where a control leads from a mode
abbrev pub reads_sign : Control → MathMode → Option MathMode
reads_sign ToMath mode = to_math mode
reads_sign ToText mode = to_text mode
reads_sign Dollar mode = other_mode mode
reads_sign control mode = stays (needs control) mode

abbrev pub reads_leaf : Leaf → MathMode → Option MathMode
reads_leaf (Source number needed) mode = stays needed mode
reads_leaf (Ident name number) mode = Some mode
reads_leaf (Reserved name number cat) mode = Some mode
reads_leaf (Sign control) mode = reads_sign control mode

abbrev pub leads_on : Option MathMode → (MathMode → Option MathMode) → Option MathMode
leads_on None next = None
leads_on (Some mode) next = next mode

-- Where a tree leads from a mode, item by item; nowhere if the need of an item is not met.
abbrev pub reads : Tree → MathMode → Option MathMode
reads Empty mode = Some mode
reads (Then leaf rest) mode = leads_on (reads_leaf leaf mode) (reads rest)
reads (Sub tree rest) mode = leads_on (reads tree mode) (reads rest)
reads (Inner tree rest) mode = reads rest mode

-- A tree agrees with its modes: with both Maybe it can be read from each mode and keeps it; else neither is
-- Maybe, and it leads from the left one to the right one.
abbrev pub Agrees : Tree → MathMode → MathMode → Type 0
Agrees tree Maybe Maybe = (mode : MathMode) → reads tree mode ≡ Some mode
Agrees tree Maybe Text = ⊥
Agrees tree Maybe Math = ⊥
Agrees tree Text Maybe = ⊥
Agrees tree Math Maybe = ⊥
Agrees tree Text Text = reads tree Text ≡ Some Text
Agrees tree Text Math = reads tree Text ≡ Some Math
Agrees tree Math Text = reads tree Math ≡ Some Text
Agrees tree Math Math = reads tree Math ≡ Some Math

abbrev pub scrap_agrees : Scrap → Type 0
scrap_agrees scrap = Agrees scrap.tree scrap.left scrap.right
