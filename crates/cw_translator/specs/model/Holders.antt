-- The models beside `specs/Holders`.
use Rattle.std.specs.Prelude.{ℕ, List, [], ◌∷◌, Option, Some, None}
use Rattle.cw_base.specs.declared.category.Cat.TheVariants as cat
use Rattle.cw_base.specs.declared.mode.MathMode.TheVariants.{Text}
use Rattle.cw_trees.specs.declared.Control.TheVariants as control
use Rattle.cw_trees.specs.Tree.{Tree, Empty, Inner, Source}
use Rattle.cw_scraps.specs.declared.leaves.Leaf.{Leaf}
use Rattle.cw_tokens.specs.declared.token.ListId.{ListId}
use Rattle.cw_tokens.specs.declared.token.Token.{Token}
use Rattle.cw_tokens.specs.declared.token.Token.TheVariants as token
use Rattle.cw_translator.specs.declared.comments.CommentPart.{CommentPart}
use Rattle.cw_translator.specs.declared.comments.CommentPart.TheVariants as part
use Rattle.cw_translator.specs.declared.holders.Holder.{Holder}
use Rattle.cw_translator.specs.Translating.{Piece, InnerText, sign_behind}
use Rattle.cw_translator.specs.Holders.{held_cat, held_mode}

-- behind the name at the head of a C part stands its sign
abbrev pub behind_name : Option ℕ → Tree
behind_name None = Empty
behind_name (Some sign) = sign_behind sign

-- the same with a list
abbrev pub held_leaf : Holder → ListId → Leaf
held_leaf held_by list =
    record { cat = held_cat held_by; list = list; left = held_mode held_by; right = held_mode held_by }

-- the tokens of an inner text of a name, and of the sign of a head
abbrev pub name_part : CommentPart → List Token
name_part (part.Piece number) = []
name_part (part.InnerText list) = token.Inner list ∷ token.Control control.NameText ∷ []

abbrev pub sign_tokens : Option ℕ → List Token
sign_tokens None = []
sign_tokens (Some sign) = token.Source sign Text ∷ token.Control control.Break ∷ []
