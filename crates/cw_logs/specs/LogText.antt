-- The text of a log.
use Rattle.std.specs.Prelude.{◌≡◌, ◌≢◌, ℕ, ◌≤◌, ◌^◌, ◌-◌, Bool, true, false, ◌&&◌, ◌==◌, nat_lt, List, []}
use Rattle.std.specs.Prelude.{◌∷◌, ◌++◌}
use Rattle.std.specs.Prelude.{length, map, All, codes}
use Rattle.std.specs.List.{flat_map, list_all}
use Rattle.std.specs.Fmt.{decimal}
use Rattle.cw_base.specs.Bytes.{byte_of, space, newline}
use Rattle.cw_base.specs.declared.category.Cat.{Cat}
use Rattle.cw_base.specs.declared.category.Cat.TheVariants as cat
use Rattle.cw_table.specs.declared.productions.TheConstants.{ROW_COUNT}
use Rattle.cw_table.specs.Normal.{Production}
use Rattle.cw_table.specs.Sound.{is_exp}
use Rattle.cw_rules.specs.declared.classes.Class.TheVariants as classes
use Rattle.cw_rules.specs.Bytes.{is_in, is_letter}
use Rattle.cw_leaves.specs.declared.kinds.LeafKind.{LeafKind}
use Rattle.cw_leaves.specs.declared.kinds.LeafKind.TheVariants as leaf
use Rattle.cw_leaves.specs.LeafLines.{Line}

-- ## Its lines

-- One C text: the leaf lines of its scraps, and the productions.
pub record Block : Type 0 where
  pub leaves : List Line
  pub items : List Production

abbrev pub letter : LeafKind → ℕ
letter leaf.B = byte_of "b"
letter leaf.C = byte_of "c"
letter leaf.I = byte_of "i"
letter leaf.S = byte_of "s"

-- the category's name
abbrev pub cat_text : Cat → List ℕ
cat_text cat.RawInt = codes "raw_int"
cat_text cat.ConstLike = codes "const_like"
cat_text cat.Cast = codes "cast"
cat_text cat.IntLike = codes "int_like"
cat_text cat.IfClause = codes "if_clause"
cat_text cat.SectionScrap = codes "section_scrap"
cat_text cat.Exp = codes "exp"
cat_text cat.DeclHead = codes "decl_head"
cat_text cat.ElseLike = codes "else_like"
cat_text cat.IfHead = codes "if_head"
cat_text cat.Semi = codes "semi"
cat_text cat.RawUbin = codes "raw_ubin"
cat_text cat.Unop = codes "unop"
cat_text cat.Binop = codes "binop"
cat_text cat.Ubinop = codes "ubinop"
cat_text cat.Question = codes "question"
cat_text cat.Lpar = codes "lpar"
cat_text cat.Rpar = codes "rpar"
cat_text cat.Lbrace = codes "lbrace"
cat_text cat.Rbrace = codes "rbrace"
cat_text cat.Comma = codes "comma"
cat_text cat.Colon = codes "colon"
cat_text cat.StructLike = codes "struct_like"
cat_text cat.CaseLike = codes "case_like"
cat_text cat.ForLike = codes "for_like"
cat_text cat.DoLike = codes "do_like"
cat_text cat.IfLike = codes "if_like"
cat_text cat.DefineLike = codes "define_like"
cat_text cat.SizeofLike = codes "sizeof_like"
cat_text cat.TypedefLike = codes "typedef_like"
cat_text cat.Decl = codes "decl"
cat_text cat.FnDecl = codes "fn_decl"
cat_text cat.Function = codes "function"
cat_text cat.Stmt = codes "stmt"
cat_text cat.Tag = codes "tag"
cat_text cat.StructHead = codes "struct_head"
cat_text cat.ElseHead = codes "else_head"
cat_text cat.Lproc = codes "lproc"
cat_text cat.Rproc = codes "rproc"
cat_text cat.Insert = codes "insert"
cat_text cat.BeginArg = codes "begin_arg"
cat_text cat.EndArg = codes "end_arg"
cat_text cat.Dead = codes "dead"
cat_text cat.Dot = codes "dot"
cat_text cat.Dots = codes "dots"
cat_text cat.Box = codes "box"
cat_text cat.TypeofLike = codes "typeof_like"
cat_text cat.TexLike = codes "tex_like"
cat_text cat.Colcol = codes "colcol"
cat_text cat.AttrHead = codes "attr_head"
cat_text cat.Attr = codes "attr"
cat_text cat.AlignasLike = codes "alignas_like"
cat_text cat.HashLike = codes "hash_like"
cat_text cat.MdefineLike = codes "mdefine_like"
cat_text cat.Paren = codes "paren"
cat_text cat.End = codes "end"

abbrev pub blank_and : List ℕ → List ℕ
blank_and text = space ∷ text

-- the letter, the category, and the names, with a blank between each two
abbrev pub line_text : Line → List ℕ
line_text line = letter line.kind ∷ blank_and (cat_text line.cat) ++ flat_map blank_and line.names

abbrev pub head_text : ℕ → List ℕ
head_text count = codes "text " ++ decimal count

abbrev pub item_text : Production → List ℕ
item_text p = byte_of "P" ∷ decimal p.number ++ blank_and (decimal p.place)

abbrev pub end_text : List ℕ
end_text = codes "end"

abbrev pub block_lines : Block → List (List ℕ)
block_lines b = head_text (length b.leaves) ∷ map line_text b.leaves ++ (map item_text b.items ++ end_text ∷ [])

abbrev pub log_lines : List Block → List (List ℕ)
log_lines blocks = flat_map block_lines blocks

-- ## Its bytes

abbrev pub ended : List ℕ → List ℕ
ended line = line ++ newline ∷ []

abbrev pub log_text : List Block → List ℕ
log_text blocks = flat_map ended (log_lines blocks)

-- ## Which blocks may stand in it

abbrev pub greatest : ℕ
greatest = 2 ^ 24 - 1

abbrev pub is_identifier : List ℕ → Bool
is_identifier [] = false
is_identifier (byte ∷ bytes) = is_letter byte && list_all (is_in classes.Word) bytes

-- A leaf that is one identifier is an expression. One with identifiers has a name, and one of the last kind has none.
abbrev pub fits_kind : LeafKind → Cat → ℕ → Bool
fits_kind leaf.B c count = is_exp c && count == 1
fits_kind leaf.C c count = true
fits_kind leaf.I c count = nat_lt 0 count
fits_kind leaf.S c count = count == 0

pub record IsFineLine (line : Line) : Type 0 where
  pub kind : fits_kind line.kind line.cat (length line.names) ≡ true
  pub real : line.cat ≢ cat.End
  pub names : All (λ name. is_identifier name ≡ true) line.names

pub record IsFineItem (p : Production) : Type 0 where
  pub from_one : 1 ≤ p.number
  pub to_last : p.number ≤ ROW_COUNT
  pub near : p.place ≤ greatest

pub record IsFineBlock (b : Block) : Type 0 where
  pub few : length b.leaves ≤ greatest
  pub leaves : All IsFineLine b.leaves
  pub items : All IsFineItem b.items
