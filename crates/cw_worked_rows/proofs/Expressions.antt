-- Worked expressions: operators, casts, constants, strings, and ends of inner texts.
use Rattle.cw_worked_rows.proofs.Terms.{ℕ, List, ◌≡◌, [], ◌∷◌, codes, refl, Exp, Math, Maybe, start_flags, Binop}
use Rattle.cw_worked_rows.proofs.Terms.{CaseLike, Colcol, Colon, Comma, Lbrace, Lpar, Question, RawInt, RawUbin, Rbrace}
use Rattle.cw_worked_rows.proofs.Terms.{Rpar, Semi, SizeofLike, Ubinop, Unop}
use Rattle.cw_table.specs.{Productions.productions, Normal.normal, Normal.log}
use Rattle.cw_trees.specs.Joining.{Scrap}
use Rattle.cw_worked_rows.proofs.Worked.{sign, ident, word, tex_macro, tex_box, no_break, start, numbers, AreWorked}
use Rattle.cw_worked_rows.proofs.Worked.{inner, part}

expressions : AreWorked (
    -- `::x;`
    part (sign Colcol Math 0 ∷ ident 0 1 ∷ sign Semi Maybe 2 ∷ []) (17 ∷ 8 ∷ []) "\\DC~x~;" (codes "$\\DC\\|x;$")
    -- `(int)==1;`
    ∷ part (sign Lpar Maybe 0 ∷ word RawInt 0 1 ∷ sign Rpar Maybe 2 ∷ sign Binop Math 3 ∷ sign Exp Maybe 4
    ∷ sign Semi Maybe 5 ∷ []) (89 ∷ 14 ∷ 24 ∷ 6 ∷ 8 ∷ []) "(~int~)~\\E~\\T{1}~;" (codes "$(\\&{int})\\E\\T{1};$")
    -- `a:=b`: inner text
    ∷ inner (ident 0 0 ∷ sign Colon Maybe 1 ∷ sign Binop Math 2 ∷ ident 1 3 ∷ [])
    (102 ∷ 6 ∷ []) "a~:~\\K~b" (codes "$\\|a:\\MRL{\\K}\\|b$")
    -- `a=@t$b$@>;`
    ∷ part (ident 0 0 ∷ sign Binop Math 1 ∷ tex_box 2 ∷ sign Semi Maybe 3 ∷ []) (113 ∷ 142 ∷ 6 ∷ 8 ∷ [])
    "a~\\K~\\hbox{$b$}~;" (codes "$\\|a\\K\\hbox{$b$};$")
    -- `asm("a"::: "m");`
    ∷ part (word SizeofLike 0 0 ∷ sign Lpar Maybe 1 ∷ sign Exp Maybe 2 ∷ sign Colcol Math 3 ∷ sign Colon Maybe 4
    ∷ sign Exp Maybe 5 ∷ sign Rpar Maybe 6 ∷ sign Semi Maybe 7 ∷ []) (120 ∷ 6 ∷ 12 ∷ 26 ∷ 8 ∷ [])
    "asm~(~\\.{\"a\"}~\\DC~:~\\.{\"m\"}~)~;" (codes "\\&{asm} ${}(\\.{\"a\"}\\DC:\\.{\"m\"});$")
    -- `a=b?:c;`
    ∷ part (ident 0 0 ∷ sign Binop Math 1 ∷ ident 1 2 ∷ sign Binop Math 3 ∷ ident 2 4 ∷ sign Semi Maybe 5 ∷ [])
    (6 ∷ 6 ∷ 8 ∷ []) "a~\\K~b~\\?:~c~;" (codes "$\\|a\\K\\|b\\?:\\|c;$")
    -- `x=0b10'01+0x1.8p3+1'000u;`
    ∷ part (ident 0 0 ∷ sign Binop Math 1 ∷ sign Exp Maybe 2 ∷ sign Ubinop Math 3 ∷ sign Exp Maybe 4
    ∷ sign Ubinop Math 5 ∷ sign Exp Maybe 6 ∷ sign Semi Maybe 7 ∷ []) (6 ∷ 6 ∷ 6 ∷ 8 ∷ [])
    "x~\\K~\\T{\\\\10\\ 01}~+~\\T{\\^1.8p3}~+~\\T{1\\ 000\\$U}~;"
    (codes "$\\|x\\K\\T{\\\\10\\ 01}+\\T{\\^1.8p3}+\\T{1\\ 000\\$U};$")
    -- `a=L"b";`
    ∷ part (ident 0 0 ∷ sign Binop Math 1 ∷ sign Exp Maybe 2 ∷ sign Semi Maybe 3 ∷ [])
    (6 ∷ 8 ∷ []) "a~\\K~\\.{L\"b\"}~;" (codes "$\\|a\\K\\.{L\"b\"};$")
    -- `a="0123456789012345678901234";`
    ∷ part (ident 0 0 ∷ sign Binop Math 1 ∷ sign Exp Maybe 2 ∷ sign Semi Maybe 3 ∷ []) (6 ∷ 8 ∷ [])
    "a~\\K~\\.{\"0123456789012345678}\\)\\.{901234\"}~;" (codes "$\\|a\\K\\.{\"0123456789012345678}\\)\\.{901234\"};$")
    -- `a:@+|b;`
    ∷ part (ident 0 0 ∷ sign Colon Maybe 1 ∷ no_break ∷ sign Binop Math 2 ∷ ident 1 3 ∷ sign Semi Maybe 4 ∷ [])
    (1 ∷ 102 ∷ 6 ∷ 8 ∷ []) "a~:~\\OR~b~;" (codes "\\|a:\\5${}\\MRL{\\OR}\\|b;$")
    -- `case 1: b`: inner text
    ∷ inner (word CaseLike 0 0 ∷ sign Exp Maybe 1 ∷ sign Colon Maybe 2 ∷ ident 1 3 ∷ [])
    (68 ∷ 9 ∷ 99 ∷ []) "case~\\T{1}~:~b" (codes "\\&{case} \\T{1}: \\|b")
    -- `a; done:`: inner text
    ∷ inner (ident 0 0 ∷ sign Semi Maybe 1 ∷ ident 1 2 ∷ sign Colon Maybe 3 ∷ [])
    (8 ∷ 9 ∷ 101 ∷ []) "a~;~done~:" (codes "\\|a; \\\\{done}:")
    -- `a,`: inner text
    ∷ inner (ident 0 0 ∷ sign Comma Math 1 ∷ []) (124 ∷ []) "a~," (codes "$\\|a,$")
    -- `goto continue`: inner text
    ∷ inner (word CaseLike 0 0 ∷ word CaseLike 1 1 ∷ []) (125 ∷ []) "goto~continue" (codes "\\&{goto} \\&{continue}")
    -- `a=(b+c)*d;`
    ∷ part (ident 0 0 ∷ sign Binop Math 1 ∷ sign Lpar Maybe 2 ∷ ident 1 3 ∷ sign Ubinop Math 4 ∷ ident 2 5
    ∷ sign Rpar Maybe 6 ∷ sign RawUbin Math 7 ∷ ident 3 8 ∷ sign Semi Maybe 9 ∷ []) (6 ∷ 12 ∷ 6 ∷ 91 ∷ 6 ∷ 8 ∷ [])
    "a~\\K~(~b~+~c~)~*~d~;" (codes "$\\|a\\K(\\|b+\\|c)*\\|d;$")
    -- `a,(b);`
    ∷ part (ident 0 0 ∷ sign Comma Math 1 ∷ sign Lpar Maybe 2 ∷ ident 1 3 ∷ sign Rpar Maybe 4 ∷ sign Semi Maybe 5 ∷ [])
    (12 ∷ 7 ∷ 8 ∷ []) "a~,~(~b~)~;" (codes "$\\|a,\\39(\\|b);$")
    -- `f(x);`
    ∷ part (ident 0 0 ∷ sign Lpar Maybe 1 ∷ ident 1 2 ∷ sign Rpar Maybe 3 ∷ sign Semi Maybe 4 ∷ []) (12 ∷ 11 ∷ 8 ∷ [])
    "f~(~x~)~;" (codes "\\|f(\\|x);")
    -- `OP(<);`
    ∷ part (ident 0 0 ∷ sign Lpar Maybe 1 ∷ sign Binop Math 2 ∷ sign Rpar Maybe 3 ∷ sign Semi Maybe 4 ∷ [])
    (12 ∷ 11 ∷ 8 ∷ []) "OP~(~<~)~;" (codes "$\\.{OP}(<);$")
    -- `f();`
    ∷ part (ident 0 0 ∷ sign Lpar Maybe 1 ∷ sign Rpar Maybe 2 ∷ sign Semi Maybe 3 ∷ []) (13 ∷ 11 ∷ 8 ∷ []) "f~(~)~;"
    (codes "\\|f(\\,);")
    -- `f((a),b);`
    ∷ part (ident 0 0 ∷ sign Lpar Maybe 1 ∷ sign Lpar Maybe 2 ∷ ident 1 3 ∷ sign Rpar Maybe 4 ∷ sign Comma Math 5
    ∷ ident 2 6 ∷ sign Rpar Maybe 7 ∷ sign Semi Maybe 8 ∷ []) (12 ∷ 15 ∷ 12 ∷ 11 ∷ 8 ∷ []) "f~(~(~a~)~,~b~)~;"
    (codes "$\\|f((\\|a),\\39\\|b);$")
    -- `!(a);`
    ∷ part (sign Unop Math 0 ∷ sign Lpar Maybe 1 ∷ ident 0 2 ∷ sign Rpar Maybe 3 ∷ sign Semi Maybe 4 ∷ [])
    (12 ∷ 17 ∷ 142 ∷ 8 ∷ []) "\\R~(~a~)~;" (codes "$\\R(\\|a);$")
    -- `a=-(b);`
    ∷ part (ident 0 0 ∷ sign Binop Math 1 ∷ sign Ubinop Math 2 ∷ sign Lpar Maybe 3 ∷ ident 1 4 ∷ sign Rpar Maybe 5
    ∷ sign Semi Maybe 6 ∷ []) (12 ∷ 19 ∷ 6 ∷ 8 ∷ []) "a~\\K~-~(~b~)~;" (codes "$\\|a\\K{-}(\\|b);$")
    -- `sizeof (a);`
    ∷ part (word SizeofLike 0 0 ∷ sign Lpar Maybe 1 ∷ ident 1 2 ∷ sign Rpar Maybe 3 ∷ sign Semi Maybe 4 ∷ [])
    (12 ∷ 26 ∷ 8 ∷ []) "sizeof~(~a~)~;" (codes "\\&{sizeof} (\\|a);")
    -- `return (a);`
    ∷ part (word CaseLike 0 0 ∷ sign Lpar Maybe 1 ∷ ident 1 2 ∷ sign Rpar Maybe 3 ∷ sign Semi Maybe 4 ∷ [])
    (12 ∷ 68 ∷ 8 ∷ []) "return~(~a~)~;" (codes "\\&{return} (\\|a);")
    -- `asm("":"=m"(x)::);`
    ∷ part (word SizeofLike 0 0 ∷ sign Lpar Maybe 1 ∷ sign Exp Maybe 2 ∷ sign Colon Maybe 3 ∷ sign Exp Maybe 4
    ∷ sign Lpar Maybe 5 ∷ ident 1 6 ∷ sign Rpar Maybe 7 ∷ sign Colcol Math 8 ∷ sign Rpar Maybe 9 ∷ sign Semi Maybe 10
    ∷ []) (9 ∷ 12 ∷ 11 ∷ 124 ∷ 96 ∷ 12 ∷ 26 ∷ 8 ∷ []) "asm~(~\\.{\"\"}~:~\\.{\"=m\"}~(~x~)~\\DC~)~;"
    (codes "\\&{asm} (\\.{\"\"}: ${}\\.{\"=m\"}(\\|x)\\DC);$")
    -- `foo x;`
    ∷ part (ident 0 0 ∷ ident 1 1 ∷ sign Semi Maybe 2 ∷ []) (136 ∷ 8 ∷ []) "foo~x~;" (codes "\\\\{foo} \\|x;")
    -- `x@t$_1$@>y;`
    ∷ part (ident 0 0 ∷ tex_box 1 ∷ ident 1 2 ∷ sign Semi Maybe 3 ∷ []) (113 ∷ 140 ∷ 141 ∷ 8 ∷ []) "x~\\hbox{$_1$}~y~;"
    (codes "\\|x\\hbox{$_1$}\\|y;")
    -- `a=b? :c;`
    ∷ part (ident 0 0 ∷ sign Binop Math 1 ∷ ident 1 2 ∷ sign Question Math 3 ∷ sign Colon Maybe 4 ∷ ident 2 5
    ∷ sign Semi Maybe 6 ∷ []) (6 ∷ 146 ∷ 6 ∷ 8 ∷ []) "a~\\K~b~\\?~:~c~;" (codes "$\\|a\\K\\|b\\?:\\|c;$")
    -- `void *v[]={&&a,&&b};`
    ∷ part (word RawInt 0 0 ∷ sign RawUbin Math 1 ∷ ident 1 2 ∷ sign Lpar Maybe 3 ∷ sign Rpar Maybe 4
    ∷ sign Binop Math 5 ∷ sign Lbrace Math 6 ∷ sign Binop Math 7 ∷ ident 2 8 ∷ sign Comma Math 9 ∷ sign Binop Math 10
    ∷ ident 3 11 ∷ sign Rbrace Math 12 ∷ sign Semi Maybe 13 ∷ [])
    (89 ∷ 91 ∷ 29 ∷ 32 ∷ 13 ∷ 11 ∷ 33 ∷ 148 ∷ 148 ∷ 7 ∷ 51 ∷ 34 ∷ 37 ∷ []) "void~*~v~[~]~\\K~\\{~\\W~a~,~\\W~b~\\}~;"
    (codes "\\&{void} ${}{*}\\|v[\\,]\\K\\{\\W\\|a,\\39\\W\\|b\\};$")
    ∷ [])
unfolding log normal productions
expressions = (refl, refl)

-- `a=NULL;`, and `a[1 TeX 2]` and `1 TeX 2` as inner texts
abbrev log_of_macros : List Scrap → List ℕ
log_of_macros scraps = numbers (log productions start_flags (start scraps))

tex_macros : (log_of_macros (ident 0 0 ∷ sign Binop Math 1 ∷ tex_macro 1 2 ∷ sign Semi Maybe 3 ∷ []) ≡ 142 ∷ 6 ∷ 8 ∷ [])
    × ((log_of_macros (ident 0 0 ∷ sign Lpar Maybe 1 ∷ sign Exp Maybe 2 ∷ tex_macro 1 3 ∷ sign Exp Maybe 4
    ∷ sign Rpar Maybe 5 ∷ []) ≡ 140 ∷ 141 ∷ 12 ∷ 11 ∷ [])
    × (log_of_macros (sign Exp Maybe 0 ∷ tex_macro 0 1 ∷ sign Exp Maybe 2 ∷ []) ≡ 140 ∷ 141 ∷ []))
unfolding log productions
tex_macros = (refl, (refl, refl))
