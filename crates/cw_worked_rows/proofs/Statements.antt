-- Worked statements: labels, conditions, loops, and what stands before them.
use Rattle.cw_worked_rows.proofs.Terms.{[], ◌∷◌, ◌++◌, codes, refl, Exp, Math, Maybe, AttrHead, Binop, CaseLike, Colon}
use Rattle.cw_worked_rows.proofs.Terms.{DoLike, ElseLike, ForLike, HashLike, IfLike, Lbrace, Lpar, RawInt, Rbrace, Rpar}
use Rattle.cw_worked_rows.proofs.Terms.{Semi}
use Rattle.cw_table.specs.{Productions.productions, Normal.normal, Normal.log}
use Rattle.cw_worked_rows.proofs.Worked.{sign, ident, word, section_name, tex_box, invisible_semicolon, no_break}
use Rattle.cw_worked_rows.proofs.Worked.{hash_line, line_end, macro_head, AreWorked, part}

statements : AreWorked (
    -- `[[fallthrough]];`
    part (sign AttrHead Maybe 0 ∷ ident 0 1 ∷ sign Rpar Maybe 2 ∷ sign Rpar Maybe 3 ∷ sign Semi Maybe 4 ∷ [])
    (114 ∷ 8 ∷ []) "[[~fallthrough~]~]~;" (codes "[[\\\\{fallthrough}]];")
    -- `if ((int))b;`
    ∷ part (word IfLike 0 0 ∷ sign Lpar Maybe 1 ∷ sign Lpar Maybe 2 ∷ word RawInt 1 3 ∷ sign Rpar Maybe 4
    ∷ sign Rpar Maybe 5 ∷ ident 2 6 ∷ sign Semi Maybe 7 ∷ [])
    (89 ∷ 14 ∷ 14 ∷ 53 ∷ 8 ∷ 60 ∷ 55 ∷ []) "if~(~(~int~)~)~b~;" (codes "\\&{if} ((\\&{int}))\\1\\5\\|b;\\2")
    -- `loop {a;}`, where `loop` is formatted as `while` is
    ∷ part (word ForLike 0 0 ∷ sign Lbrace Math 1 ∷ ident 1 2 ∷ sign Semi Maybe 3 ∷ sign Rbrace Math 4 ∷ [])
    (54 ∷ 8 ∷ 50 ∷ 56 ∷ []) "loop~\\{~a~;~\\}" (codes "\\&{loop}\\5${}\\{\\1{}$\\6\n\\|a;\\6\n\\4${}\\}\\2{}$")
    -- `if(a)while(b)c; else if(d)e;`
    ∷ part (word IfLike 0 0 ∷ sign Lpar Maybe 1 ∷ ident 1 2 ∷ sign Rpar Maybe 3 ∷ word ForLike 2 4 ∷ sign Lpar Maybe 5
    ∷ ident 3 6 ∷ sign Rpar Maybe 7 ∷ ident 4 8 ∷ sign Semi Maybe 9 ∷ word ElseLike 5 10 ∷ word IfLike 0 11
    ∷ sign Lpar Maybe 12 ∷ ident 6 13 ∷ sign Rpar Maybe 14 ∷ ident 7 15 ∷ sign Semi Maybe 16 ∷ [])
    (12 ∷ 53 ∷ 12 ∷ 65 ∷ 8 ∷ 55 ∷ 58 ∷ 12 ∷ 53 ∷ 8 ∷ 60 ∷ 55 ∷ []) "if~(~a~)~while~(~b~)~c~;~else~if~(~d~)~e~;"
    (codes "\\&{if} (\\|a)\\1\\6\n\\&{while} (\\|b)\\1\\5\\|c;\\2\\2\\6\n"
    ++ codes "\\&{else} \\&{if} (\\|d)\\1\\5\\|e;\\2")
    -- `if(a)for(;;)b; else c;`
    ∷ part (word IfLike 0 0 ∷ sign Lpar Maybe 1 ∷ ident 1 2 ∷ sign Rpar Maybe 3 ∷ word ForLike 2 4 ∷ sign Lpar Maybe 5
    ∷ sign Semi Maybe 6 ∷ sign Semi Maybe 7 ∷ sign Rpar Maybe 8 ∷ ident 3 9 ∷ sign Semi Maybe 10 ∷ word ElseLike 4 11
    ∷ ident 5 12 ∷ sign Semi Maybe 13 ∷ []) (12 ∷ 53 ∷ 73 ∷ 16 ∷ 73 ∷ 16 ∷ 13 ∷ 65 ∷ 8 ∷ 55 ∷ 59 ∷ 8 ∷ 55 ∷ [])
    "if~(~a~)~for~(~;~;~)~b~;~else~c~;"
    (codes "\\&{if} (\\|a)\\1\\6\n\\&{for} ( ; ; \\,)\\1\\5\\|b;\\2\\2\\6\n\\&{else}\\1\\5\\|c;\\2")
    -- `if(a)each(b){c;}`
    ∷ part (word IfLike 0 0 ∷ sign Lpar Maybe 1 ∷ ident 1 2 ∷ sign Rpar Maybe 3 ∷ ident 2 4 ∷ sign Lpar Maybe 5
    ∷ ident 3 6 ∷ sign Rpar Maybe 7 ∷ sign Lbrace Math 8 ∷ ident 4 9 ∷ sign Semi Maybe 10 ∷ sign Rbrace Math 11 ∷ [])
    (12 ∷ 53 ∷ 12 ∷ 11 ∷ 4 ∷ 8 ∷ 50 ∷ 47 ∷ 60 ∷ 55 ∷ []) "if~(~a~)~each~(~b~)~\\{~c~;~\\}"
    (codes "\\&{if} (\\|a)\\1\\5\\1\\1\\\\{each}(\\|b)\\2\\2\\6\n"
    ++ codes "${}\\{\\1{}$\\6\n\\|c;\\6\n\\4${}\\}\\2{}$\\2")
    -- `do {@<x@>} while(a);`
    ∷ part (word DoLike 0 0 ∷ sign Lbrace Math 1 ∷ section_name 2 ∷ sign Rbrace Math 3 ∷ word ForLike 1 4
    ∷ sign Lpar Maybe 5 ∷ ident 2 6 ∷ sign Rpar Maybe 7 ∷ sign Semi Maybe 8 ∷ []) (80 ∷ 51 ∷ 12 ∷ 65 ∷ 64 ∷ [])
    "do~\\{~\\X1:x\\X~\\}~while~(~a~)~;" (codes "\\&{do}\\5${}\\{\\X1:x\\X\\}{}$\\5\\&{while} (\\|a);")
    -- `while((int))b;`
    ∷ part (word ForLike 0 0 ∷ sign Lpar Maybe 1 ∷ sign Lpar Maybe 2 ∷ word RawInt 1 3 ∷ sign Rpar Maybe 4
    ∷ sign Rpar Maybe 5 ∷ ident 2 6 ∷ sign Semi Maybe 7 ∷ [])
    (89 ∷ 14 ∷ 14 ∷ 65 ∷ 8 ∷ 55 ∷ []) "while~(~(~int~)~)~b~;" (codes "\\&{while} ((\\&{int}))\\1\\5\\|b;\\2")
    -- `if(a){@<x@>}`
    ∷ part (word IfLike 0 0 ∷ sign Lpar Maybe 1 ∷ ident 1 2 ∷ sign Rpar Maybe 3 ∷ sign Lbrace Math 4 ∷ section_name 5
    ∷ sign Rbrace Math 6 ∷ []) (12 ∷ 53 ∷ 57 ∷ 80 ∷ 51 ∷ 63 ∷ 56 ∷ []) "if~(~a~)~\\{~\\X1:x\\X~\\}"
    (codes "\\&{if} (\\|a)\\5${}\\{\\X1:x\\X\\}{}$")
    -- `@d m do {a;} while(0)`
    ∷ part (macro_head 0 0 ∷ word DoLike 1 2 ∷ sign Lbrace Math 3 ∷ ident 2 4 ∷ sign Semi Maybe 5 ∷ sign Rbrace Math 6
    ∷ word ForLike 3 7 ∷ sign Lpar Maybe 8 ∷ sign Exp Maybe 9 ∷ sign Rpar Maybe 10 ∷ []) (8 ∷ 50 ∷ 12 ∷ 65 ∷ 100 ∷ [])
    "\\D~m~do~\\{~a~;~\\}~while~(~\\T{0}~)"
    (codes "\\4\\D$\\|m$\\5\\&{do}\\5${}\\{\\1{}$\\6\n\\|a;\\6\n\\4${}\\}\\2{}$\\5\\&{while} (\\T{0})")
    -- `each(a) if(b)c;`
    ∷ part (ident 0 0 ∷ sign Lpar Maybe 1 ∷ ident 1 2 ∷ sign Rpar Maybe 3 ∷ word IfLike 2 4 ∷ sign Lpar Maybe 5
    ∷ ident 3 6 ∷ sign Rpar Maybe 7 ∷ ident 4 8 ∷ sign Semi Maybe 9 ∷ []) (12 ∷ 11 ∷ 12 ∷ 53 ∷ 8 ∷ 60 ∷ 55 ∷ 105 ∷ [])
    "each~(~a~)~if~(~b~)~c~;" (codes "\\\\{each}(\\|a)\\6\n\\&{if} (\\|b)\\1\\5\\|c;\\2")
    -- `@t\4@>@<x@>@;`
    ∷ part (tex_box 0 ∷ section_name 1 ∷ invisible_semicolon ∷ [])
    (112 ∷ 79 ∷ []) "\\hbox{\\4}~\\X1:x\\X" (codes "\\hbox{\\4}\\X1:x\\X")
    -- `[[likely]] b();`
    ∷ part (sign AttrHead Maybe 0 ∷ ident 0 1 ∷ sign Rpar Maybe 2 ∷ sign Rpar Maybe 3 ∷ ident 1 4 ∷ sign Lpar Maybe 5
    ∷ sign Rpar Maybe 6 ∷ sign Semi Maybe 7 ∷ [])
    (114 ∷ 117 ∷ 13 ∷ 11 ∷ 8 ∷ []) "[[~likely~]~]~b~(~)~;" (codes "[[\\\\{likely}]] \\|b(\\,);")
    -- `{a;} | {b;}`
    ∷ part (sign Lbrace Math 0 ∷ ident 0 1 ∷ sign Semi Maybe 2 ∷ sign Rbrace Math 3 ∷ sign Binop Math 4
    ∷ sign Lbrace Math 5 ∷ ident 1 6 ∷ sign Semi Maybe 7 ∷ sign Rbrace Math 8 ∷ []) (8 ∷ 50 ∷ 122 ∷ 8 ∷ 50 ∷ 72 ∷ [])
    "\\{~a~;~\\}~\\OR~\\{~b~;~\\}" (codes "${}\\{\\1{}$\\6\n\\|a;\\6\n\\4${}\\}\\2{}$\\6\n${}\\OR{}$\\6\n"
    ++ codes "${}\\{\\1{}$\\6\n\\|b;\\6\n\\4${}\\}\\2{}$")
    -- `a:b;`
    ∷ part (ident 0 0 ∷ sign Colon Maybe 1 ∷ ident 1 2 ∷ sign Semi Maybe 3 ∷ [])
    (9 ∷ 8 ∷ 70 ∷ []) "a~:~b~;" (codes "\\4\\|a:\\5\\|b;")
    -- `if (x) FOO(y) else BAR(z);`
    ∷ part (word IfLike 0 0 ∷ sign Lpar Maybe 1 ∷ ident 1 2 ∷ sign Rpar Maybe 3 ∷ ident 2 4 ∷ sign Lpar Maybe 5
    ∷ ident 3 6 ∷ sign Rpar Maybe 7 ∷ word ElseLike 4 8 ∷ ident 5 9 ∷ sign Lpar Maybe 10 ∷ ident 6 11
    ∷ sign Rpar Maybe 12 ∷ sign Semi Maybe 13 ∷ []) (12 ∷ 53 ∷ 12 ∷ 11 ∷ 98 ∷ 59 ∷ 12 ∷ 11 ∷ 8 ∷ 55 ∷ [])
    "if~(~x~)~FOO~(~y~)~else~BAR~(~z~)~;"
    (codes "\\&{if} (\\|x)\\1\\5\\.{FOO}(\\|y)\\2\\6\n\\&{else}\\1\\5\\.{BAR}(\\|z);\\2")
    -- `@t\4@>if(a)b;`
    ∷ part (tex_box 0 ∷ word IfLike 0 1 ∷ sign Lpar Maybe 2 ∷ ident 1 3 ∷ sign Rpar Maybe 4 ∷ ident 2 5
    ∷ sign Semi Maybe 6 ∷ []) (113 ∷ 142 ∷ 12 ∷ 53 ∷ 8 ∷ 60 ∷ 55 ∷ 105 ∷ []) "\\hbox{\\4}~if~(~a~)~b~;"
    (codes "\\hbox{\\4}\\6\n\\&{if} (\\|a)\\1\\5\\|b;\\2")
    -- `@<x@>@;@+break;`
    ∷ part (section_name 0 ∷ invisible_semicolon ∷ no_break ∷ word CaseLike 0 1 ∷ sign Semi Maybe 2 ∷ [])
    (79 ∷ 1 ∷ 66 ∷ 72 ∷ []) "\\X1:x\\X~break~;" (codes "\\X1:x\\X\\5\\&{break};")
    -- `f(){a;}`
    ∷ part (ident 0 0 ∷ sign Lpar Maybe 1 ∷ sign Rpar Maybe 2 ∷ sign Lbrace Math 3 ∷ ident 1 4 ∷ sign Semi Maybe 5
    ∷ sign Rbrace Math 6 ∷ []) (13 ∷ 11 ∷ 4 ∷ 8 ∷ 50 ∷ 47 ∷ []) "f~(~)~\\{~a~;~\\}"
    (codes "\\1\\1\\|f(\\,)\\2\\2\\6\n${}\\{\\1{}$\\6\n\\|a;\\6\n\\4${}\\}\\2{}$")
    -- `if(a)b;`
    ∷ part (word IfLike 0 0 ∷ sign Lpar Maybe 1 ∷ ident 1 2 ∷ sign Rpar Maybe 3 ∷ ident 2 4 ∷ sign Semi Maybe 5 ∷ [])
    (12 ∷ 53 ∷ 8 ∷ 60 ∷ 55 ∷ []) "if~(~a~)~b~;" (codes "\\&{if} (\\|a)\\1\\5\\|b;\\2")
    -- `while(a)b;`
    ∷ part (word ForLike 0 0 ∷ sign Lpar Maybe 1 ∷ ident 1 2 ∷ sign Rpar Maybe 3 ∷ ident 2 4 ∷ sign Semi Maybe 5 ∷ [])
    (12 ∷ 65 ∷ 8 ∷ 55 ∷ []) "while~(~a~)~b~;" (codes "\\&{while} (\\|a)\\1\\5\\|b;\\2")
    -- `@d begin if(x){a;`
    ∷ part (macro_head 0 0 ∷ word IfLike 1 2 ∷ sign Lpar Maybe 3 ∷ ident 2 4 ∷ sign Rpar Maybe 5 ∷ sign Lbrace Math 6
    ∷ ident 3 7 ∷ sign Semi Maybe 8 ∷ []) (12 ∷ 53 ∷ 57 ∷ 8 ∷ 134 ∷ 63 ∷ 56 ∷ []) "\\D~begin~if~(~x~)~\\{~a~;"
    (codes "\\4\\D$\\\\{begin}$\\6\n\\&{if} (\\|x)\\5${}\\{\\1{}$\\6\n\\|a;\\2")
    -- `}`, then `#endif`, then `a;`
    ∷ part (sign Rbrace Math 0 ∷ hash_line 1 ∷ word HashLike 0 2 ∷ line_end ∷ ident 1 3 ∷ sign Semi Maybe 4 ∷ [])
    (75 ∷ 76 ∷ 1 ∷ 8 ∷ 138 ∷ []) "\\}~\\8\\#~endif~a~;" (codes "$\\}{}$\\6\n\\8\\#\\&{endif}\\6\n\\|a;")
    ∷ [])
unfolding log normal productions
statements = (refl, refl)
