-- The words in which these proofs speak, from where they are defined.
pub use Rattle.std.proofs.Common.{◌≡◌, ℕ, suc, ◌==◌, Bool, true, false, List, [], ◌∷◌, codes, map, get_or, replicate}
pub use Rattle.std.proofs.Common.{refl, ◌++◌}
pub use Rattle.cw_base.specs.Flags.{start_flags}
pub use Rattle.cw_base.specs.declared.category.Cat.TheVariants.{RawInt, Exp, Semi, Binop, Ubinop, Lpar, Rpar, Comma}
pub use Rattle.cw_base.specs.declared.category.Cat.TheVariants.{Colon, CaseLike, SizeofLike, Colcol, RawUbin, Lbrace}
pub use Rattle.cw_base.specs.declared.category.Cat.TheVariants.{Rbrace, IfLike, DefineLike, ForLike, DoLike, ElseLike}
pub use Rattle.cw_base.specs.declared.category.Cat.TheVariants.{AttrHead, ConstLike, AlignasLike}
pub use Rattle.cw_base.specs.declared.category.Cat.TheVariants.{Dot, HashLike, IntLike, MdefineLike, Question}
pub use Rattle.cw_base.specs.declared.category.Cat.TheVariants.{StructLike, TypedefLike, Unop}
pub use Rattle.cw_base.specs.declared.mode.MathMode.TheVariants.{Text, Math, Maybe}
