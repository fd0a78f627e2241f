-- What stands in a comment: pieces of its text, and C texts between bars.
use Rattle.std.specs.Prelude.{ℕ, List, [], ◌∷◌}
use Rattle.cw_base.specs.declared.mode.MathMode.TheVariants.{Text}
use Rattle.cw_tokens.specs.declared.token.Token.{Token}
use Rattle.cw_tokens.specs.declared.token.Token.TheVariants.{Source, Inner}
use Rattle.cw_tokens.specs.Shapes.{unfolded}
use Rattle.cw_translator.specs.declared.comments.CommentPart.{CommentPart}
use Rattle.cw_translator.specs.declared.comments.CommentPart.TheVariants as part
use Rattle.cw_translator.specs.Translating.{CommentItem, Piece, InnerText}

-- what stands in a comment, with the trees of its inner texts
abbrev pub part_seen : List (List Token) → CommentPart → CommentItem
part_seen lists (part.Piece number) = Piece number
part_seen lists (part.InnerText list) = InnerText (unfolded lists list.index)

-- the lists of the inner texts of a comment
abbrev pub inner_lists : List CommentPart → List ℕ
inner_lists [] = []
inner_lists (part.Piece number ∷ parts) = inner_lists parts
inner_lists (part.InnerText list ∷ parts) = list.index ∷ inner_lists parts

abbrev pub token_of : CommentPart → Token
token_of (part.Piece number) = Source number Text
token_of (part.InnerText list) = Inner list
