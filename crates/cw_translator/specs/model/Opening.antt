-- The models beside `specs/Opening`.
use Rattle.std.specs.Prelude.{ℕ, ◌+◌, List, [], ◌∷◌, ◌++◌}
use Rattle.cw_rules.specs.declared.tokens.TokKind.{TokKind}
use Rattle.cw_rules.specs.declared.tokens.TokKind.TheVariants as kind
use Rattle.cw_scraps.specs.declared.leaves.Leaf.{Leaf}
use Rattle.cw_scraps.specs.declared.line.LineEntry.{LineEntry}
use Rattle.cw_scraps.specs.Leaves.{entry_of}
use Rattle.cw_translator.specs.declared.comments.CommentPart.{CommentPart}
use Rattle.cw_translator.specs.declared.holders.Holder.TheVariants as holder
use Rattle.cw_translator.specs.declared.nesting.Open.{Open}
use Rattle.cw_translator.specs.declared.nesting.Open.TheVariants.{CText, Comment}
use Rattle.cw_translator.specs.declared.translator.Translator.{Translator}
use Rattle.cw_translator.specs.Translating.{InnerText}

-- a scrap behind those of the innermost C text, and a part behind those of the innermost comment
abbrev pub with_entry : LineEntry → List Open → List Open
with_entry entry (CText line ∷ rest) = CText (line ++ entry ∷ []) ∷ rest
with_entry entry all = all

abbrev pub with_part : CommentPart → List Open → List Open
with_part part (Comment held_by parts ∷ rest) = Comment held_by (parts ++ part ∷ []) ∷ rest
with_part part all = all

-- the scraps of the C text that is open alone
abbrev pub last_line : List Open → List LineEntry
last_line (CText line ∷ []) = line
last_line all = []

-- what begins becomes the innermost
abbrev pub begun_by : TokKind → ℕ → List Open → List Open
begun_by kind.InnerText number all = CText [] ∷ all
begun_by kind.LongComment number all = Comment (holder.Comment number) [] ∷ all
begun_by kind.ShortComment number all = Comment (holder.Comment number) [] ∷ all
begun_by (kind.Code c) number all = Comment (holder.Name number) [] ∷ all
begun_by _ number all = all

abbrev pub of_leaf : Leaf → Translator
of_leaf leaf = record { nesting = CText (entry_of leaf ∷ []) ∷ []; scraps = 0; productions = 0 }
