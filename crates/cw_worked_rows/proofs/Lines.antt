-- Worked comments and `#` lines.
use Rattle.cw_worked_rows.proofs.Terms.{[], ◌∷◌, ◌++◌, codes, refl, Exp, Math, Maybe, Binop, Comma, DefineLike, ForLike}
use Rattle.cw_worked_rows.proofs.Terms.{HashLike, Lbrace, Lpar, MdefineLike, RawInt, RawUbin, Rbrace, Rpar, Semi}
use Rattle.cw_worked_rows.proofs.Terms.{Ubinop}
use Rattle.cw_table.specs.{Productions.productions, Normal.normal, Normal.log}
use Rattle.cw_worked_rows.proofs.Worked.{sign, ident, word, comment, hash_line, line_end, AreWorked, part}

lines : AreWorked (
    -- `char */* c */p;`
    part (word RawInt 0 0 ∷ sign RawUbin Math 1 ∷ comment 2 ∷ ident 1 4 ∷ sign Semi Maybe 5 ∷ [])
    (89 ∷ 91 ∷ 29 ∷ 32 ∷ 1 ∷ 33 ∷ 37 ∷ []) "char~*~\\C{~ c ~p~;" (codes "\\&{char} ${}{*}{}$\\C{ c }\\6\n\\|p;")
    -- `/* c */ *p=1;`
    ∷ part (comment 0 ∷ sign RawUbin Math 2 ∷ ident 0 3 ∷ sign Binop Math 4 ∷ sign Exp Maybe 5 ∷ sign Semi Maybe 6 ∷ [])
    (91 ∷ 19 ∷ 81 ∷ 6 ∷ 8 ∷ []) "\\C{~ c ~*~p~\\K~\\T{1}~;" (codes "\\C{ c }\\6\n${}{*}\\|p\\K\\T{1};$")
    -- `#define T int`, then `a;`
    ∷ part (hash_line 0 ∷ word DefineLike 0 1 ∷ ident 1 2 ∷ word RawInt 2 3 ∷ line_end ∷ ident 3 4 ∷ sign Semi Maybe 5
    ∷ [])
    (74 ∷ 89 ∷ 77 ∷ 81 ∷ 8 ∷ []) "\\8\\#~define~T~int~a~;" (codes "\\8\\#\\&{define} \\|T\\5\\&{int}\\6\n\\|a;")
    -- `#define B 2 /* c */`, then `a;`
    ∷ part (hash_line 0 ∷ word DefineLike 0 1 ∷ ident 1 2 ∷ sign Exp Maybe 3 ∷ comment 4 ∷ line_end ∷ ident 2 6
    ∷ sign Semi Maybe 7 ∷ []) (74 ∷ 1 ∷ 77 ∷ 81 ∷ 8 ∷ []) "\\8\\#~define~B~\\T{2}~\\C{~ c ~a~;"
    (codes "\\8\\#\\&{define} \\|B\\5\\T{2}\\C{ c }\\6\n\\|a;")
    -- `#include <x>`, then `int f(){a;}`
    ∷ part (hash_line 0 ∷ word HashLike 0 1 ∷ sign Exp Maybe 2 ∷ line_end ∷ word RawInt 1 3 ∷ ident 2 4
    ∷ sign Lpar Maybe 5 ∷ sign Rpar Maybe 6 ∷ sign Lbrace Math 7 ∷ ident 3 8 ∷ sign Semi Maybe 9 ∷ sign Rbrace Math 10
    ∷ []) (75 ∷ 77 ∷ 127 ∷ 89 ∷ 29 ∷ 13 ∷ 11 ∷ 33 ∷ 36 ∷ 8 ∷ 50 ∷ 47 ∷ 39 ∷ [])
    "\\8\\#~include~\\.{<x>}~int~f~(~)~\\{~a~;~\\}"
    (codes "\\8\\#\\&{include} \\.{<x>}\\7\n\\1\\1\\&{int} \\|f(\\,)\\2\\2\\6\n${}\\{\\1{}$\\6\n"
    ++ codes "\\|a;\\6\n\\4${}\\}\\2{}$")
    -- `#define F(x) {y;}`, then `a;`
    ∷ part (hash_line 0 ∷ word MdefineLike 0 1 ∷ ident 1 2 ∷ sign Lpar Maybe 3 ∷ ident 2 4 ∷ sign Rpar Maybe 5
    ∷ sign Lbrace Math 6 ∷ ident 3 7 ∷ sign Semi Maybe 8 ∷ sign Rbrace Math 9 ∷ line_end ∷ ident 4 10
    ∷ sign Semi Maybe 11 ∷ []) (12 ∷ 78 ∷ 75 ∷ 8 ∷ 50 ∷ 77 ∷ 81 ∷ 8 ∷ []) "\\8\\#~define~F~(~x~)~\\{~y~;~\\}~a~;"
    (codes "\\8\\#\\&{define} \\|F(\\|x)\\6\n${}\\{\\1{}$\\6\n\\|y;\\6\n\\4${}\\}\\2{}$\\6\n\\|a;")
    -- `#define N n+1`, then `a;`
    ∷ part (hash_line 0 ∷ word DefineLike 0 1 ∷ ident 1 2 ∷ ident 2 3 ∷ sign Ubinop Math 4 ∷ sign Exp Maybe 5 ∷ line_end
    ∷ ident 3 6 ∷ sign Semi Maybe 7 ∷ []) (74 ∷ 6 ∷ 77 ∷ 81 ∷ 8 ∷ []) "\\8\\#~define~N~n~+~\\T{1}~a~;"
    (codes "\\8\\#\\&{define} \\|N\\5${}\\|n+\\T{1}{}$\\6\n\\|a;")
    -- `#undef N`, then `a;`
    ∷ part (hash_line 0 ∷ word HashLike 0 1 ∷ ident 1 2 ∷ line_end ∷ ident 2 3 ∷ sign Semi Maybe 4 ∷ [])
    (75 ∷ 77 ∷ 81 ∷ 8 ∷ []) "\\8\\#~undef~N~a~;" (codes "\\8\\#\\&{undef} \\|N\\6\n\\|a;")
    -- `#define BEGIN {`, then `a;`
    ∷ part (hash_line 0 ∷ word DefineLike 0 1 ∷ ident 1 2 ∷ sign Lbrace Math 3 ∷ line_end ∷ ident 2 4
    ∷ sign Semi Maybe 5 ∷ []) (74 ∷ 77 ∷ 81 ∷ 8 ∷ []) "\\8\\#~define~BEGIN~\\{~a~;"
    (codes "\\8\\#\\&{define} \\.{BEGIN}\\5${}\\{{}$\\6\n\\|a;")
    -- `#define F(x) y=x`, then `a;`
    ∷ part (hash_line 0 ∷ word MdefineLike 0 1 ∷ ident 1 2 ∷ sign Lpar Maybe 3 ∷ ident 2 4 ∷ sign Rpar Maybe 5
    ∷ ident 3 6 ∷ sign Binop Math 7 ∷ ident 2 8 ∷ line_end ∷ ident 4 9 ∷ sign Semi Maybe 10 ∷ [])
    (12 ∷ 78 ∷ 75 ∷ 6 ∷ 77 ∷ 81 ∷ 8 ∷ []) "\\8\\#~define~F~(~x~)~y~\\K~x~a~;"
    (codes "\\8\\#\\&{define} \\|F(\\|x)\\5${}\\|y\\K\\|x{}$\\6\n\\|a;")
    -- `#pragma a for`, then `b;`
    ∷ part (hash_line 0 ∷ word HashLike 0 1 ∷ ident 1 2 ∷ word ForLike 2 3 ∷ line_end ∷ ident 3 4 ∷ sign Semi Maybe 5
    ∷ []) (75 ∷ 128 ∷ 77 ∷ 81 ∷ 8 ∷ []) "\\8\\#~pragma~a~for~b~;" (codes "\\8\\#\\&{pragma} \\|a\\5\\&{for}\\6\n\\|b;")
    -- `#define int long`, then `a;`
    ∷ part (hash_line 0 ∷ word DefineLike 0 1 ∷ word RawInt 1 2 ∷ word RawInt 2 3 ∷ line_end ∷ ident 3 4
    ∷ sign Semi Maybe 5 ∷ []) (135 ∷ 75 ∷ 89 ∷ 89 ∷ 27 ∷ 77 ∷ 81 ∷ 8 ∷ []) "\\8\\#~define~int~long~a~;"
    (codes "\\8\\#\\&{define} \\&{int} \\&{long}\\6\n\\|a;")
    -- `#define P , int a`, then `b;`
    ∷ part (hash_line 0 ∷ word DefineLike 0 1 ∷ ident 1 2 ∷ sign Comma Math 3 ∷ word RawInt 2 4 ∷ ident 3 5 ∷ line_end
    ∷ ident 4 6 ∷ sign Semi Maybe 7 ∷ []) (74 ∷ 89 ∷ 29 ∷ 33 ∷ 137 ∷ 77 ∷ 81 ∷ 8 ∷ []) "\\8\\#~define~P~,~int~a~b~;"
    (codes "\\8\\#\\&{define} \\|P\\5${},{}$ \\&{int} \\|a\\6\n\\|b;")
    -- `#define L (`, then `a;`
    ∷ part (hash_line 0 ∷ word DefineLike 0 1 ∷ ident 1 2 ∷ sign Lpar Maybe 3 ∷ line_end ∷ ident 2 4 ∷ sign Semi Maybe 5
    ∷ []) (74 ∷ 147 ∷ 76 ∷ 81 ∷ 8 ∷ []) "\\8\\#~define~L~(~a~;" (codes "\\8\\#\\&{define} \\|L\\5(\\6\n\\|a;")
    ∷ [])
unfolding log normal productions
lines = (refl, refl)
