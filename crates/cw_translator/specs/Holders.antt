-- What holds inner texts, a comment and a section name, and the scrap that it makes.
use Rattle.std.specs.Prelude.{ℕ, List, [], ◌∷◌}
use Rattle.cw_base.specs.declared.category.Cat.{Cat}
use Rattle.cw_base.specs.declared.category.Cat.TheVariants as cat
use Rattle.cw_base.specs.declared.mode.MathMode.{MathMode}
use Rattle.cw_base.specs.declared.mode.MathMode.TheVariants.{Text, Maybe}
use Rattle.cw_trees.specs.declared.Control.TheVariants as control
use Rattle.cw_trees.specs.Tree.{Tree, Empty, Then, Inner, Source, Sign}
use Rattle.cw_trees.specs.Joining.{Scrap}
use Rattle.cw_translator.specs.declared.holders.Holder.{Holder}
use Rattle.cw_translator.specs.declared.holders.Holder.TheVariants as holder
use Rattle.cw_translator.specs.Translating.{CommentItem, Piece, InnerText, comment_tree, sign_behind}

-- A section name is its token, and then each inner text with the control for the text behind it.
abbrev pub name_rest : List CommentItem → Tree → Tree
name_rest [] behind = Then (Sign control.NameEnd) behind
name_rest (Piece number ∷ items) behind = name_rest items behind
name_rest (InnerText tree ∷ items) behind = Inner tree (Then (Sign control.NameText) (name_rest items behind))

abbrev pub name_tree : ℕ → Tree → List CommentItem → Tree
name_tree number behind items = Then (Source number Maybe) (name_rest items behind)

abbrev pub held_tree : Holder → List CommentItem → Tree
held_tree (holder.Comment number) items = comment_tree number items
held_tree (holder.Name number) items = name_tree number Empty items
held_tree (holder.Head number sign) items = name_tree number (sign_behind sign) items

abbrev pub held_cat : Holder → Cat
held_cat (holder.Comment number) = cat.Insert
held_cat (holder.Name number) = cat.SectionScrap
held_cat (holder.Head number sign) = cat.Dead

abbrev pub held_mode : Holder → MathMode
held_mode (holder.Comment number) = Text
held_mode (holder.Name number) = Maybe
held_mode (holder.Head number sign) = Text

abbrev pub held_scrap : Holder → List CommentItem → Scrap
held_scrap held_by items =
    record {
      cat = held_cat held_by;
      tree = held_tree held_by items;
      left = held_mode held_by;
      right = held_mode held_by;
    }
