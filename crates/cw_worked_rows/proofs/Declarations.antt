-- Worked declarations: attributes, boxes before types, names before declarations, and heads of functions.
use Rattle.cw_worked_rows.proofs.Terms.{[], ◌∷◌, ◌++◌, codes, refl, Exp, Math, Maybe, AlignasLike, AttrHead, Binop}
use Rattle.cw_worked_rows.proofs.Terms.{CaseLike, Comma, ConstLike, Dot, IntLike, Lbrace, Lpar, RawInt, RawUbin, Rbrace}
use Rattle.cw_worked_rows.proofs.Terms.{Rpar, Semi, StructLike, TypedefLike}
use Rattle.cw_table.specs.{Productions.productions, Normal.normal, Normal.log}
use Rattle.cw_worked_rows.proofs.Worked.{sign, ident, word, section_name, tex_box, comment, AreWorked, inner, part}

declarations : AreWorked (
    -- `int x=5`: inner text
    inner (word RawInt 0 0 ∷ ident 1 1 ∷ sign Binop Math 2 ∷ sign Exp Maybe 3 ∷ [])
    (89 ∷ 29 ∷ 33 ∷ 34 ∷ []) "int~x~\\K~\\T{5}" (codes "\\&{int} \\|x${}\\K\\T{5}$")
    -- `int f(int a,/* c */int b){c;}`
    ∷ part (word RawInt 0 0 ∷ ident 1 1 ∷ sign Lpar Maybe 2 ∷ word RawInt 0 3 ∷ ident 2 4 ∷ sign Comma Math 5
    ∷ comment 6 ∷ word RawInt 0 8 ∷ ident 3 9 ∷ sign Rpar Maybe 10 ∷ sign Lbrace Math 11 ∷ ident 4 12
    ∷ sign Semi Maybe 13 ∷ sign Rbrace Math 14 ∷ [])
    (89 ∷ 29 ∷ 89 ∷ 29 ∷ 33 ∷ 15 ∷ 1 ∷ 89 ∷ 29 ∷ 33 ∷ 14 ∷ 11 ∷ 33 ∷ 36 ∷ 8 ∷ 50 ∷ 47 ∷ [])
    "int~f~(~int~a~,~\\C{~ c ~int~b~)~\\{~c~;~\\}" (codes "\\1\\1\\&{int} \\|f(\\&{int} \\|a${},\\39{}$\\C{ c }\\6\n"
    ++ codes "\\&{int} \\|b)\\2\\2\\6\n${}\\{\\1{}$\\6\n\\|c;\\6\n\\4${}\\}\\2{}$")
    -- `f() @<x@> int g(){a;}`
    ∷ part (ident 0 0 ∷ sign Lpar Maybe 1 ∷ sign Rpar Maybe 2 ∷ section_name 3 ∷ word RawInt 1 4 ∷ ident 2 5
    ∷ sign Lpar Maybe 6 ∷ sign Rpar Maybe 7 ∷ sign Lbrace Math 8 ∷ ident 3 9 ∷ sign Semi Maybe 10 ∷ sign Rbrace Math 11
    ∷ []) (13 ∷ 11 ∷ 110 ∷ 105 ∷ 89 ∷ 29 ∷ 13 ∷ 11 ∷ 33 ∷ 36 ∷ 8 ∷ 50 ∷ 47 ∷ 71 ∷ [])
    "f~(~)~\\X1:x\\X~int~g~(~)~\\{~a~;~\\}" (codes "\\|f(\\,)\\6\n\\X1:x\\X\\7\n\\1\\1\\&{int} \\|g(\\,)\\2\\2\\6\n"
    ++ codes "${}\\{\\1{}$\\6\n\\|a;\\6\n\\4${}\\}\\2{}$")
    -- `f(){@<x@>}`
    ∷ part (ident 0 0 ∷ sign Lpar Maybe 1 ∷ sign Rpar Maybe 2 ∷ sign Lbrace Math 3 ∷ section_name 4 ∷ sign Rbrace Math 5
    ∷ []) (13 ∷ 11 ∷ 4 ∷ 80 ∷ 108 ∷ 47 ∷ []) "f~(~)~\\{~\\X1:x\\X~\\}"
    (codes "\\1\\1\\|f(\\,)\\2\\2\\6\n${}\\{\\1{}$\\6\n\\X1:x\\X\\6\n\\4${}\\}\\2{}$")
    -- `@<x@>`, then `int b;`
    ∷ part (section_name 0 ∷ word RawInt 0 1 ∷ ident 1 2 ∷ sign Semi Maybe 3 ∷ [])
    (110 ∷ 89 ∷ 29 ∷ 33 ∷ 37 ∷ 71 ∷ []) "\\X1:x\\X~int~b~;" (codes "\\X1:x\\X\\7\n\\&{int} \\|b;")
    -- `alignas(8) int b;`
    ∷ part (word AlignasLike 0 0 ∷ sign Lpar Maybe 1 ∷ sign Exp Maybe 2 ∷ sign Rpar Maybe 3 ∷ word RawInt 1 4
    ∷ ident 2 5 ∷ sign Semi Maybe 6 ∷ [])
    (12 ∷ 115 ∷ 117 ∷ 89 ∷ 29 ∷ 33 ∷ 37 ∷ []) "alignas~(~\\T{8}~)~int~b~;" (codes "\\&{alignas}(\\T{8}) \\&{int} \\|b;")
    -- `[[a]] const int b;`
    ∷ part (sign AttrHead Maybe 0 ∷ ident 0 1 ∷ sign Rpar Maybe 2 ∷ sign Rpar Maybe 3 ∷ word ConstLike 1 4
    ∷ word RawInt 2 5 ∷ ident 3 6 ∷ sign Semi Maybe 7 ∷ [])
    (114 ∷ 92 ∷ 117 ∷ 89 ∷ 27 ∷ 29 ∷ 33 ∷ 37 ∷ []) "[[~a~]~]~const~int~b~;" (codes "[[\\|a]] \\&{const} \\&{int} \\|b;")
    -- `@t\4@>const int b;`
    ∷ part (tex_box 0 ∷ word ConstLike 0 1 ∷ word RawInt 1 2 ∷ ident 2 3 ∷ sign Semi Maybe 4 ∷ [])
    (92 ∷ 112 ∷ 89 ∷ 27 ∷ 29 ∷ 33 ∷ 37 ∷ []) "\\hbox{\\4}~const~int~b~;" (codes "\\hbox{\\4}\\&{const} \\&{int} \\|b;")
    -- `bool b=true; uint8_t c;`
    ∷ part (word RawInt 0 0 ∷ ident 1 1 ∷ sign Binop Math 2 ∷ ident 2 3 ∷ sign Semi Maybe 4 ∷ word RawInt 3 5
    ∷ ident 4 6 ∷ sign Semi Maybe 7 ∷ []) (89 ∷ 29 ∷ 33 ∷ 34 ∷ 37 ∷ 89 ∷ 29 ∷ 33 ∷ 37 ∷ 38 ∷ [])
    "bool~b~\\K~true~;~uint8_t~c~;" (codes "\\&{bool} \\|b${}\\K\\\\{true};{}$\\6\n\\&{uint8\\_t} \\|c;")
    -- `_Thread_local typedef int t;`
    ∷ part (word IntLike 0 0 ∷ word TypedefLike 1 1 ∷ word RawInt 2 2 ∷ ident 3 3 ∷ sign Semi Maybe 4 ∷ [])
    (27 ∷ 89 ∷ 83 ∷ 84 ∷ 86 ∷ []) "_Thread_local~typedef~int~t~;"
    (codes "\\&{\\_Thread\\_local} \\&{typedef} \\&{int} \\&{t};")
    -- `extern "C" int f();`
    ∷ part (word IntLike 0 0 ∷ sign Exp Maybe 1 ∷ word RawInt 1 2 ∷ ident 2 3 ∷ sign Lpar Maybe 4 ∷ sign Rpar Maybe 5
    ∷ sign Semi Maybe 6 ∷ []) (28 ∷ 89 ∷ 27 ∷ 29 ∷ 13 ∷ 11 ∷ 33 ∷ 37 ∷ []) "extern~\\.{\"C\"}~int~f~(~)~;"
    (codes "\\&{extern} \\.{\"C\"} \\&{int} \\|f(\\,);")
    -- `int f(a);`
    ∷ part (word RawInt 0 0 ∷ ident 1 1 ∷ sign Lpar Maybe 2 ∷ ident 2 3 ∷ sign Rpar Maybe 4 ∷ sign Semi Maybe 5 ∷ [])
    (89 ∷ 29 ∷ 12 ∷ 11 ∷ 33 ∷ 37 ∷ []) "int~f~(~a~)~;" (codes "\\&{int} \\|f(\\|a);")
    -- `int f(a){b;}`
    ∷ part (word RawInt 0 0 ∷ ident 1 1 ∷ sign Lpar Maybe 2 ∷ ident 2 3 ∷ sign Rpar Maybe 4 ∷ sign Lbrace Math 5
    ∷ ident 3 6 ∷ sign Semi Maybe 7 ∷ sign Rbrace Math 8 ∷ []) (89 ∷ 29 ∷ 12 ∷ 11 ∷ 33 ∷ 36 ∷ 8 ∷ 50 ∷ 47 ∷ [])
    "int~f~(~a~)~\\{~b~;~\\}" (codes "\\1\\1\\&{int} \\|f(\\|a)\\2\\2\\6\n${}\\{\\1{}$\\6\n\\|b;\\6\n\\4${}\\}\\2{}$")
    -- `struct foo;`
    ∷ part (word StructLike 0 0 ∷ ident 1 1 ∷ sign Semi Maybe 2 ∷ []) (41 ∷ 37 ∷ []) "struct~foo~;"
    (codes "\\&{struct} \\&{foo};")
    -- `struct foo{int a;}; int f(struct foo *foo);`
    ∷ part (word StructLike 0 0 ∷ ident 1 1 ∷ sign Lbrace Math 2 ∷ word RawInt 2 3 ∷ ident 3 4 ∷ sign Semi Maybe 5
    ∷ sign Rbrace Math 6 ∷ sign Semi Maybe 7 ∷ word RawInt 2 8 ∷ ident 4 9 ∷ sign Lpar Maybe 10 ∷ word StructLike 0 11
    ∷ ident 1 12 ∷ sign RawUbin Math 13 ∷ ident 1 14 ∷ sign Rpar Maybe 15 ∷ sign Semi Maybe 16 ∷ [])
    (42 ∷ 89 ∷ 29 ∷ 33 ∷ 37 ∷ 44 ∷ 30 ∷ 37 ∷ 89 ∷ 29 ∷ 43 ∷ 91 ∷ 29 ∷ 32 ∷ 33 ∷ 14 ∷ 11 ∷ 33 ∷ 37 ∷ 38 ∷ [])
    "struct~foo~\\{~int~a~;~\\}~;~int~f~(~struct~foo~*~foo~)~;"
    (codes "\\&{struct} \\&{foo} ${}\\{\\1{}$\\6\n\\&{int} \\|a;\\2\\6\n${}\\};{}$\\6\n"
    ++ codes "\\&{int} \\|f(\\&{struct} \\&{foo} ${}{*}\\\\{foo});$")
    -- `struct foo *foo;`
    ∷ part (word StructLike 0 0 ∷ ident 1 1 ∷ sign RawUbin Math 2 ∷ ident 1 3 ∷ sign Semi Maybe 4 ∷ [])
    (43 ∷ 91 ∷ 29 ∷ 32 ∷ 33 ∷ 37 ∷ []) "struct~foo~*~foo~;" (codes "\\&{struct} \\&{foo} ${}{*}\\\\{foo};$")
    -- `typedef int (*f)(int x); typedef int (*f)(int x);`
    ∷ part (word TypedefLike 0 0 ∷ word RawInt 1 1 ∷ sign Lpar Maybe 2 ∷ sign RawUbin Math 3 ∷ ident 2 4
    ∷ sign Rpar Maybe 5 ∷ sign Lpar Maybe 6 ∷ word RawInt 1 7 ∷ ident 3 8 ∷ sign Rpar Maybe 9 ∷ sign Semi Maybe 10
    ∷ word TypedefLike 0 11 ∷ word RawInt 1 12 ∷ sign Lpar Maybe 13 ∷ sign RawUbin Math 14 ∷ ident 2 15
    ∷ sign Rpar Maybe 16 ∷ sign Lpar Maybe 17 ∷ word RawInt 1 18 ∷ ident 3 19 ∷ sign Rpar Maybe 20 ∷ sign Semi Maybe 21
    ∷ [])
    (89 ∷ 83 ∷ 91 ∷ 19 ∷ 12 ∷ 142 ∷ 89 ∷ 29 ∷ 33 ∷ 14 ∷ 11 ∷ 84 ∷ 86 ∷ 89 ∷ 83 ∷ 91 ∷ 89 ∷ 19 ∷ 14 ∷ 22 ∷ 89 ∷ 29 ∷ 33
    ∷ 14 ∷ 82 ∷ 86 ∷ 38 ∷ []) "typedef~int~(~*~f~)~(~int~x~)~;~typedef~int~(~*~f~)~(~int~x~)~;"
    (codes "\\&{typedef} \\&{int} ${}({*}\\&{f}){}$(\\&{int} \\|x);\\6\n"
    ++ codes "\\&{typedef} \\&{int} ${}({*}\\&{f})({}$\\&{int} \\|x);")
    -- `struct s v={.int=1};`
    ∷ part (word StructLike 0 0 ∷ ident 1 1 ∷ ident 2 2 ∷ sign Binop Math 3 ∷ sign Lbrace Math 4 ∷ sign Dot Math 5
    ∷ word RawInt 3 6 ∷ sign Binop Math 7 ∷ sign Exp Maybe 8 ∷ sign Rbrace Math 9 ∷ sign Semi Maybe 10 ∷ [])
    (43 ∷ 29 ∷ 33 ∷ 95 ∷ 6 ∷ 51 ∷ 34 ∷ 37 ∷ []) "struct~s~v~\\K~\\{~.~int~\\K~\\T{1}~\\}~;"
    (codes "\\&{struct} \\&{s} \\|v${}\\K\\{{.}\\&{int}\\K\\T{1}\\};$")
    -- `typedef int heap; f() { return heap->n; }`
    ∷ part (word TypedefLike 0 0 ∷ word RawInt 1 1 ∷ ident 2 2 ∷ sign Semi Maybe 3 ∷ ident 3 4 ∷ sign Lpar Maybe 5
    ∷ sign Rpar Maybe 6 ∷ sign Lbrace Math 7 ∷ word CaseLike 4 8 ∷ ident 2 9 ∷ sign Binop Math 10 ∷ ident 5 11
    ∷ sign Semi Maybe 12 ∷ sign Rbrace Math 13 ∷ [])
    (89 ∷ 83 ∷ 84 ∷ 86 ∷ 13 ∷ 11 ∷ 4 ∷ 89 ∷ 107 ∷ 68 ∷ 6 ∷ 8 ∷ 50 ∷ 47 ∷ 39 ∷ [])
    "typedef~int~heap~;~f~(~)~\\{~return~heap~\\MG~n~;~\\}"
    (codes "\\&{typedef} \\&{int} \\&{heap};\\7\n\\1\\1\\|f(\\,)\\2\\2\\6\n${}\\{\\1{}$\\6\n"
    ++ codes "\\&{return} \\&{heap}${}\\MG\\|n;{}$\\6\n\\4${}\\}\\2{}$")
    -- `typedef int __attribute__((a)) b;`
    ∷ part (word TypedefLike 0 0 ∷ word RawInt 1 1 ∷ word AlignasLike 2 2 ∷ sign Lpar Maybe 3 ∷ sign Lpar Maybe 4
    ∷ ident 3 5 ∷ sign Rpar Maybe 6 ∷ sign Rpar Maybe 7 ∷ ident 4 8 ∷ sign Semi Maybe 9 ∷ [])
    (89 ∷ 83 ∷ 12 ∷ 12 ∷ 115 ∷ 116 ∷ 84 ∷ 86 ∷ []) "typedef~int~__attribute__~(~(~a~)~)~b~;"
    (codes "\\&{typedef} \\&{int} \\&{\\_\\_attribute\\_\\_}((\\|a)) \\&{b};")
    -- `int f(a) int a; {b;}`
    ∷ part (word RawInt 0 0 ∷ ident 1 1 ∷ sign Lpar Maybe 2 ∷ ident 2 3 ∷ sign Rpar Maybe 4 ∷ word RawInt 0 5
    ∷ ident 2 6 ∷ sign Semi Maybe 7 ∷ sign Lbrace Math 8 ∷ ident 3 9 ∷ sign Semi Maybe 10 ∷ sign Rbrace Math 11 ∷ [])
    (89 ∷ 29 ∷ 12 ∷ 11 ∷ 33 ∷ 89 ∷ 29 ∷ 33 ∷ 37 ∷ 130 ∷ 46 ∷ 8 ∷ 50 ∷ 47 ∷ []) "int~f~(~a~)~int~a~;~\\{~b~;~\\}"
    (codes "\\1\\1\\&{int} \\|f(\\|a)\\6\n\\&{int} \\|a;\\2\\2\\6\n${}\\{\\1{}$\\6\n\\|b;\\6\n"
    ++ codes "\\4${}\\}\\2{}$")
    -- `API int f(int);`
    ∷ part (ident 0 0 ∷ word RawInt 1 1 ∷ ident 2 2 ∷ sign Lpar Maybe 3 ∷ word RawInt 1 4 ∷ sign Rpar Maybe 5
    ∷ sign Semi Maybe 6 ∷ []) (89 ∷ 29 ∷ 89 ∷ 14 ∷ 11 ∷ 33 ∷ 37 ∷ 131 ∷ []) "API~int~f~(~int~)~;"
    (codes "\\.{API} \\&{int} \\|f(\\&{int});")
    -- `int f(UNUSED int a);`
    ∷ part (word RawInt 0 0 ∷ ident 1 1 ∷ sign Lpar Maybe 2 ∷ ident 2 3 ∷ word RawInt 0 4 ∷ ident 3 5
    ∷ sign Rpar Maybe 6 ∷ sign Semi Maybe 7 ∷ []) (89 ∷ 29 ∷ 89 ∷ 132 ∷ 29 ∷ 33 ∷ 14 ∷ 11 ∷ 33 ∷ 37 ∷ [])
    "int~f~(~UNUSED~int~a~)~;" (codes "\\&{int} \\|f(\\.{UNUSED} \\&{int} \\|a);")
    -- `static A(1) int f(){a;}`
    ∷ part (word IntLike 0 0 ∷ ident 1 1 ∷ sign Lpar Maybe 2 ∷ sign Exp Maybe 3 ∷ sign Rpar Maybe 4 ∷ word RawInt 2 5
    ∷ ident 3 6 ∷ sign Lpar Maybe 7 ∷ sign Rpar Maybe 8 ∷ sign Lbrace Math 9 ∷ ident 4 10 ∷ sign Semi Maybe 11
    ∷ sign Rbrace Math 12 ∷ []) (29 ∷ 12 ∷ 11 ∷ 33 ∷ 89 ∷ 29 ∷ 13 ∷ 11 ∷ 33 ∷ 36 ∷ 133 ∷ 8 ∷ 50 ∷ 47 ∷ [])
    "static~A~(~\\T{1}~)~int~f~(~)~\\{~a~;~\\}"
    (codes "\\&{static} \\|A(\\T{1})\\6\n\\1\\1\\&{int} \\|f(\\,)\\2\\2\\6\n${}\\{\\1{}$\\6\n\\|a;\\6\n"
    ++ codes "\\4${}\\}\\2{}$")
    -- `int a; int b`: inner text
    ∷ inner (word RawInt 0 0 ∷ ident 1 1 ∷ sign Semi Maybe 2 ∷ word RawInt 0 3 ∷ ident 2 4 ∷ [])
    (89 ∷ 29 ∷ 33 ∷ 37 ∷ 89 ∷ 29 ∷ 33 ∷ 139 ∷ []) "int~a~;~int~b" (codes "\\&{int} \\|a; \\&{int} \\|b")
    -- `struct s v[]={{1},{}};`
    ∷ part (word StructLike 0 0 ∷ ident 1 1 ∷ ident 2 2 ∷ sign Lpar Maybe 3 ∷ sign Rpar Maybe 4 ∷ sign Binop Math 5
    ∷ sign Lbrace Math 6 ∷ sign Lbrace Math 7 ∷ sign Exp Maybe 8 ∷ sign Rbrace Math 9 ∷ sign Comma Math 10
    ∷ sign Lbrace Math 11 ∷ sign Rbrace Math 12 ∷ sign Rbrace Math 13 ∷ sign Semi Maybe 14 ∷ [])
    (43 ∷ 29 ∷ 13 ∷ 11 ∷ 33 ∷ 51 ∷ 143 ∷ 7 ∷ 51 ∷ 34 ∷ 37 ∷ []) "struct~s~v~[~]~\\K~\\{~\\{~\\T{1}~\\}~,~\\{~\\}~\\}~;"
    (codes "\\&{struct} \\&{s} \\|v[\\,]${}\\K\\{\\{\\T{1}\\},\\39\\{\\,\\}\\};$")
    -- `struct s v[]={{},{1}};`
    ∷ part (word StructLike 0 0 ∷ ident 1 1 ∷ ident 2 2 ∷ sign Lpar Maybe 3 ∷ sign Rpar Maybe 4 ∷ sign Binop Math 5
    ∷ sign Lbrace Math 6 ∷ sign Lbrace Math 7 ∷ sign Rbrace Math 8 ∷ sign Comma Math 9 ∷ sign Lbrace Math 10
    ∷ sign Exp Maybe 11 ∷ sign Rbrace Math 12 ∷ sign Rbrace Math 13 ∷ sign Semi Maybe 14 ∷ [])
    (43 ∷ 29 ∷ 13 ∷ 11 ∷ 33 ∷ 144 ∷ 51 ∷ 7 ∷ 51 ∷ 34 ∷ 37 ∷ []) "struct~s~v~[~]~\\K~\\{~\\{~\\}~,~\\{~\\T{1}~\\}~\\}~;"
    (codes "\\&{struct} \\&{s} \\|v[\\,]${}\\K\\{\\{\\,\\},\\39\\{\\T{1}\\}\\};$")
    -- `int a [[]];`
    ∷ part (word RawInt 0 0 ∷ ident 1 1 ∷ sign AttrHead Maybe 2 ∷ sign Rpar Maybe 3 ∷ sign Rpar Maybe 4
    ∷ sign Semi Maybe 5 ∷ []) (89 ∷ 29 ∷ 33 ∷ 145 ∷ 116 ∷ 37 ∷ []) "int~a~[[~]~]~;" (codes "\\&{int} \\|a [[\\,]];")
    ∷ [])
unfolding log normal productions
declarations = (refl, refl)
