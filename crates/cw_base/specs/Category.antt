-- Categories of scraps, their numbers and ranks, and sets of categories.
use Rattle.std.specs.Prelude.{ℕ, ◌+◌, ◌-◌, ◌^◌, Bool, true, false, not, nat_lt, bit_and, ◌&&◌, List, [], ◌∷◌}
use Rattle.std.specs.List.{list_any}
use Rattle.cw_base.specs.declared.category.Cat.{Cat}
use Rattle.cw_base.specs.declared.category.CatSet.{CatSet}
use Rattle.cw_base.specs.declared.category.Cat.TheVariants.{RawInt, ConstLike, Cast, IntLike, IfClause, SectionScrap}
use Rattle.cw_base.specs.declared.category.Cat.TheVariants.{Exp, DeclHead, ElseLike, IfHead, Semi, RawUbin, Unop, Binop}
use Rattle.cw_base.specs.declared.category.Cat.TheVariants.{Ubinop, Question, Lpar, Rpar, Lbrace, Rbrace, Comma, Colon}
use Rattle.cw_base.specs.declared.category.Cat.TheVariants.{StructLike, CaseLike, ForLike, DoLike, IfLike, DefineLike}
use Rattle.cw_base.specs.declared.category.Cat.TheVariants.{SizeofLike, TypedefLike, Decl, FnDecl, Function, Stmt, Tag}
use Rattle.cw_base.specs.declared.category.Cat.TheVariants.{StructHead, ElseHead, Lproc, Rproc, Insert, BeginArg}
use Rattle.cw_base.specs.declared.category.Cat.TheVariants.{EndArg, Dead, Dot, Dots, Box, TypeofLike}
use Rattle.cw_base.specs.declared.category.Cat.TheVariants.{TexLike, Colcol, AttrHead, Attr, AlignasLike}
use Rattle.cw_base.specs.declared.category.Cat.TheVariants.{HashLike, MdefineLike, Paren, End}

-- every category in the order of its number, and End, which stands past the last scrap
abbrev pub all_cats : List Cat
all_cats =
    RawInt ∷ ConstLike ∷ Cast ∷ IntLike ∷ IfClause ∷ SectionScrap ∷ Exp ∷ DeclHead ∷ ElseLike ∷
    IfHead ∷ Semi ∷ RawUbin ∷ Unop ∷ Binop ∷ Ubinop ∷ Question ∷ Lpar ∷ Rpar ∷ Lbrace ∷ Rbrace ∷
    Comma ∷ Colon ∷ StructLike ∷ CaseLike ∷ ForLike ∷ DoLike ∷ IfLike ∷ DefineLike ∷ SizeofLike ∷
    TypedefLike ∷ Decl ∷ FnDecl ∷ Function ∷ Stmt ∷ Tag ∷ StructHead ∷ ElseHead ∷ Lproc ∷ Rproc ∷
    Insert ∷ BeginArg ∷ EndArg ∷ Dead ∷ Dot ∷ Dots ∷ Box ∷ TypeofLike ∷ TexLike ∷ Colcol ∷ AttrHead ∷ Attr ∷
    AlignasLike ∷ HashLike ∷ MdefineLike ∷ Paren ∷ End ∷ []

-- the place of a category in the list of all, and its bit in a set
abbrev pub number_of : Cat → ℕ
number_of RawInt = 0
number_of ConstLike = 1
number_of Cast = 2
number_of IntLike = 3
number_of IfClause = 4
number_of SectionScrap = 5
number_of Exp = 6
number_of DeclHead = 7
number_of ElseLike = 8
number_of IfHead = 9
number_of Semi = 10
number_of RawUbin = 11
number_of Unop = 12
number_of Binop = 13
number_of Ubinop = 14
number_of Question = 15
number_of Lpar = 16
number_of Rpar = 17
number_of Lbrace = 18
number_of Rbrace = 19
number_of Comma = 20
number_of Colon = 21
number_of StructLike = 22
number_of CaseLike = 23
number_of ForLike = 24
number_of DoLike = 25
number_of IfLike = 26
number_of DefineLike = 27
number_of SizeofLike = 28
number_of TypedefLike = 29
number_of Decl = 30
number_of FnDecl = 31
number_of Function = 32
number_of Stmt = 33
number_of Tag = 34
number_of StructHead = 35
number_of ElseHead = 36
number_of Lproc = 37
number_of Rproc = 38
number_of Insert = 39
number_of BeginArg = 40
number_of EndArg = 41
number_of Dead = 42
number_of Dot = 43
number_of Dots = 44
number_of Box = 45
number_of TypeofLike = 46
number_of TexLike = 47
number_of Colcol = 48
number_of AttrHead = 49
number_of Attr = 50
number_of AlignasLike = 51
number_of HashLike = 52
number_of MdefineLike = 53
number_of Paren = 54
number_of End = 55

-- the rank of a category: a scrap weighs 4 and its rank, and rewriting lowers the weight
abbrev pub rank : Cat → ℕ
rank RawInt = 3
rank ConstLike = 3
rank Dots = 3
rank Box = 3
rank Cast = 2
rank IntLike = 2
rank IfClause = 2
rank SectionScrap = 2
rank TexLike = 2
rank Paren = 2
rank Exp = 1
rank DeclHead = 1
rank ElseLike = 1
rank IfHead = 1
rank Semi = 1
rank RawUbin = 1
rank Dot = 1
rank ForLike = 1
rank Insert = 1
rank DefineLike = 1
rank MdefineLike = 1
rank _ = 0

-- the category that stands past the last scrap, which is that of no name and of no scrap
abbrev pub is_end : Cat → Bool
is_end End = true
is_end _ = false

-- the categories that a scrap may have whose translation is exactly one unreserved identifier
abbrev pub may_be_bare : Cat → Bool
may_be_bare Exp = true
may_be_bare FnDecl = true
may_be_bare Stmt = true
may_be_bare _ = false

-- a category is in a set
abbrev pub in_set : CatSet → Cat → Bool
in_set s c = nat_lt 0 (bit_and s.bits (2 ^ number_of c))

-- two sets have a category in common
unfoldable pub meet : CatSet → CatSet → Bool
meet s t = list_any (λ c. in_set s c && in_set t c) all_cats

-- some category of the first set is not in the second
unfoldable pub leaves : CatSet → CatSet → Bool
leaves s t = list_any (λ c. in_set s c && not (in_set t c)) all_cats

-- the set has a category
unfoldable pub some_of : CatSet → Bool
some_of s = list_any (in_set s) all_cats

-- the sum of the bits of some categories, each named once
abbrev pub bits_of : List Cat → ℕ
bits_of [] = 0
bits_of (c ∷ cs) = 2 ^ number_of c + bits_of cs

-- the set of these categories
abbrev pub set_of : List Cat → CatSet
set_of cs = record { bits = bits_of cs }

-- every category but these, and not End
abbrev pub any_but : List Cat → CatSet
any_but cs = record { bits = 2 ^ number_of End - 1 - bits_of cs }

-- every category and End, but for these and Insert
abbrev pub none_of : List Cat → CatSet
none_of cs = record { bits = 2 ^ (number_of End + 1) - 1 - bits_of (Insert ∷ cs) }
