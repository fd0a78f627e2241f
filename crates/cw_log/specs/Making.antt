-- The tokens that a leaf line is made of, so that the scrap has just this leaf line.
use Rattle.std.specs.Prelude.{List, [], ◌∷◌, ◌++◌, map}
use Rattle.cw_base.specs.declared.category.Cat.TheVariants.{CaseLike}
use Rattle.cw_base.specs.declared.mode.MathMode.TheVariants.{Maybe}
use Rattle.cw_names.specs.declared.entry.NameId.{NameId}
use Rattle.cw_trees.specs.declared.Control.TheVariants.{ThinSpace}
use Rattle.cw_leaves.specs.declared.kinds.LeafKind.{LeafKind}
use Rattle.cw_leaves.specs.declared.kinds.LeafKind.TheVariants as kinds
use Rattle.cw_leaves.specs.declared.lines.LeafLine.{LeafLine}
use Rattle.cw_tokens.specs.declared.token.Token.{Token}
use Rattle.cw_tokens.specs.declared.token.Token.TheVariants.{Ident, Reserved, Control}
use Rattle.cw_scraps.specs.Leaves.{LeafForm}

abbrev pub ident_token : NameId → Token
ident_token id = Ident id 0

-- What stands behind the names: a word like `case`, whatever its name is; or a space, so that one name isn't bare.
abbrev pub last_tokens : NameId → LeafKind → List Token
last_tokens word kinds.B = []
last_tokens word kinds.C = Reserved word 0 CaseLike ∷ []
last_tokens word kinds.I = Control ThinSpace ∷ []
last_tokens word kinds.S = []

abbrev pub made_tokens : NameId → LeafLine → List Token
made_tokens word leaf = map ident_token leaf.names ++ last_tokens word leaf.kind

abbrev pub made_form : NameId → LeafLine → LeafForm
made_form word leaf = record { cat = leaf.cat; mode = Maybe; tokens = made_tokens word leaf }
