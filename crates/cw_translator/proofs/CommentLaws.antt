-- What holds of the tree of a comment and of a section name: which names it has, and how it begins and ends.
use Rattle.std.proofs.Common.{arith}
use Rattle.cw_translator.proofs.Terms.{◌≡◌, ℕ, true, List, [], ◌∷◌, Some, refl, All, All-head, All-tail, Text, reads}
use Rattle.cw_translator.proofs.Terms.{scrap_agrees, Tree, Empty, is_fine, IsNamedBelow, IsNamedItem, CommentItem}
use Rattle.cw_translator.proofs.Terms.{Piece, InnerText, comment_rest, comment_scrap, Holder, held_scrap, held_tree}
use Rattle.cw_translator.proofs.Terms.{name_rest, sign_behind}
use Rattle.cw_base.specs.declared.mode.MathMode.{MathMode}
use Rattle.cw_translator.specs.declared.holders.Holder.TheVariants as holder

module _ (count : ℕ) where
  rest-named : (items : List CommentItem) → All (IsNamedItem count) items → IsNamedBelow count (comment_rest items)
  rest-named [] all = (tt, (tt, tt))
  rest-named (Piece number ∷ items) all = (tt, rest-named items (All-tail (IsNamedItem count) (Piece number) items all))
  rest-named (InnerText tree ∷ items) all = (
    All-head (IsNamedItem count) (InnerText tree) items all,
    rest-named items (All-tail (IsNamedItem count) (InnerText tree) items all),
  )

  name-named : (items : List CommentItem) (behind : Tree) → IsNamedBelow count behind → All (IsNamedItem count) items
      → IsNamedBelow count (name_rest items behind)
  name-named [] behind h all = (tt, h)
  name-named (Piece number ∷ items) behind h all =
      name-named items behind h (All-tail (IsNamedItem count) (Piece number) items all)
  name-named (InnerText tree ∷ items) behind h all = (
    All-head (IsNamedItem count) (InnerText tree) items all,
    (tt, name-named items behind h (All-tail (IsNamedItem count) (InnerText tree) items all)),
  )

  pub held-named : (held_by : Holder) (items : List CommentItem) → All (IsNamedItem count) items
      → IsNamedBelow count (held_tree held_by items)
  held-named held_by items all = grind (arith, rest-named, name-named, sign_behind)

-- a comment begins and ends in text
rest-reads : (items : List CommentItem) → reads (comment_rest items) Text ≡ Some Text
rest-reads [] = refl
rest-reads (Piece number ∷ items) = rest-reads items
rest-reads (InnerText tree ∷ items) = rest-reads items

pub comment-agrees : (number : ℕ) (items : List CommentItem) → scrap_agrees (comment_scrap number items)
comment-agrees number items = rest-reads items

name-reads : (items : List CommentItem) (behind : Tree) (mode : MathMode)
    → reads (name_rest items behind) mode ≡ reads behind mode
name-reads [] behind mode = refl
name-reads (Piece number ∷ items) behind mode = name-reads items behind mode
name-reads (InnerText tree ∷ items) behind mode = name-reads items behind mode

pub held-agrees : (held_by : Holder) (items : List CommentItem) → scrap_agrees (held_scrap held_by items)
held-agrees (holder.Comment number) items = comment-agrees number items
held-agrees (holder.Name number) items = λ mode. name-reads items Empty mode
held-agrees (holder.Head number sign) items = name-reads items (sign_behind sign) Text

pub held-fine : (held_by : Holder) (items : List CommentItem) → is_fine (held_scrap held_by items) ≡ true
held-fine held_by items = grind arith
