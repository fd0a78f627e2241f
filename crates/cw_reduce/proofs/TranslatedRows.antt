-- Worked rows of translation: the counts, the productions, the visible tokens and the bytes of some C texts.
use Rattle.std.proofs.Common.{if◌then◌else◌}
use Rattle.cw_reduce.proofs.Terms.{Option, MathMode, ◌≡◌, ℕ, false, List, [], ◌∷◌, map, codes, get_or, length, eqb}
use Rattle.cw_reduce.proofs.Terms.{refl, Some, None, is_some, Text, CPart, Definition, inner_mode as InnerMode, Answer}
use Rattle.cw_reduce.proofs.Terms.{tokens_of, Entry, Item, SourceItem, IdentItem, ReservedItem, SignItem, Open, Close}
use Rattle.cw_reduce.proofs.Terms.{flat, trimmed_items, struck, reads, scraps_in, productions_in, logs_in}
use Rattle.cw_reduce.proofs.Terms.{parts_of_name, Ended, shown as shown_numbers, Ident as ident_kind, built_in_words}
use Rattle.cw_base.specs.declared.category.Cat.TheVariants as cat
use Rattle.cw_trees.specs.Printing.{Printable, printed, sign_bytes, ident_bytes, reserved_bytes}
use Rattle.cw_trees.specs.declared.Control.TheVariants as control
use Rattle.cw_table.specs.Normal.{normal, log, count}
use Rattle.cw_table.specs.NormalWalk.{positions}
use Rattle.cw_table.specs.WalkCounts.{looks}
use Rattle.cw_table.specs.Productions.{productions}
use Rattle.cw_translator.specs.Translating.{translated, NameTexts, unnamed}
use Prim.Native.String.{String}
use Rattle.cw_base.specs.Flags.{start_flags}
use Rattle.cw_names.proofs.WordPlaces.{own, word}

-- ## Texts

abbrev c_answers : String → List Answer
c_answers text = tokens_of (codes text) 0 (length (codes text)) CPart

abbrev definition_answers : String → List Answer
definition_answers text = tokens_of (codes text) 0 (length (codes text)) Definition

abbrev ended : NameTexts → List Answer → Ended
ended named answers = translated start_flags named answers built_in_words []

abbrev in_c_part : String → Ended
in_c_part text = ended unnamed (c_answers text)

abbrev in_bars : String → Ended
in_bars text = ended unnamed (tokens_of (codes text) 0 (length (codes text)) InnerMode)

abbrev in_definition : String → Ended
in_definition text = ended unnamed (definition_answers text)

-- a name at this place alone, with these inner texts
abbrev named_at : ℕ → List (List Answer) → NameTexts
named_at place texts number = if eqb number place then Some texts else None

abbrev name_at_three : NameTexts
name_at_three = named_at 3 (tokens_of (codes "A |x+1| b") 3 6 InnerMode ∷ [])

abbrev name_at_zero : NameTexts
name_at_zero = named_at 0 (tokens_of (codes "A |x| b") 3 4 InnerMode ∷ [])

-- ## What is printed

-- the bytes of a source token, by its number: these, or its first byte
abbrev bytes_at : List ℕ → List (ℕ × String) → ℕ → List ℕ
bytes_at text [] number = get_or text number 0 ∷ []
bytes_at text (pair ∷ pairs) number = if eqb pair.0 number then codes pair.1 else bytes_at text pairs number

abbrev text_of : List Entry → ℕ → List ℕ
text_of names name = (get_or names name (record { kind = ident_kind; text = []; category = cat.Exp })).text

abbrev item_bytes : List ℕ → List (ℕ × String) → List Entry → Item → List ℕ
item_bytes text texts names (SourceItem n) = bytes_at text texts n
item_bytes text texts names (IdentItem name n) = ident_bytes (text_of names name)
item_bytes text texts names (ReservedItem name n) = reserved_bytes (text_of names name)
item_bytes text texts names (SignItem control) = sign_bytes control
item_bytes text texts names Open = codes "\\PB{"
item_bytes text texts names Close = codes "}"

abbrev printable : List ℕ → List (ℕ × String) → List Entry → Item → Printable
printable text texts names item = record { item = item; bytes = item_bytes text texts names item }

abbrev items : Ended → List Item
items t = trimmed_items (flat t.tree)

abbrev bytes_of : List ℕ → List (ℕ × String) → Ended → List ℕ
bytes_of text texts t = printed false (map (printable text texts t.known.names) (items t))

-- what is found of texts, and what is wanted
abbrev Rows : Type 0
Rows = List (List ℕ × List ℕ)

-- Of a text: what it comes to, by its answers, the source tokens in it that aren't printed as their first byte, and
-- what is printed of it.
abbrev row : NameTexts → (String → List Answer) → String → List (ℕ × String) → String → List ℕ × List ℕ
row named answers text texts printed = (bytes_of (codes text) texts (ended named (answers text)), codes printed)

abbrev c_row : String → List (ℕ × String) → String → List ℕ × List ℕ
c_row = row unnamed c_answers

abbrev definition_row : String → List (ℕ × String) → String → List ℕ × List ℕ
definition_row = row unnamed definition_answers

abbrev counts : Ended → List ℕ
counts t = scraps_in t.known.ended ∷ productions_in start_flags t.known.ended ∷ []

-- Of `) } ;` two scraps are left, a tag is in bold, and `a;@+break;` stands in one line. A parenthesis behind a blank
-- begins no parameters, and a number is no second name. Then a section name in a text, one at its head, one with two
-- inner texts, and the numbers of scraps and productions.
abbrev rows : Rows
rows = c_row "@c int a=b+c, *d;" ((8, "\\K") ∷ []) "\\&{int} \\|a${}\\K\\|b+\\|c,{}$ ${}{*}\\|d;$" ∷ c_row
    "@c if(a)b; /* c */ else d;" ((11, "\\C{") ∷ (13, " c ") ∷ [])
    "\\&{if} (\\|a)\\1\\5\\|b;\\C{ c }\\2\\6\n\\&{else}\\1\\5\\|d;\\2" ∷ c_row "@c a; /* b |x /* c |y| */| */"
    ((6, "\\C{") ∷ (8, " b ") ∷ (14, "\\C{") ∷ (16, " c ") ∷ []) "\\|a;\\C{ b \\PB{\\|x\\C{ c \\PB{\\|y} }} }" ∷ c_row
    "@c ) } ; @;" ((5, "\\}") ∷ []) ") $\\}{}$\\6\n;" ∷ c_row "@c @[int@]=x; @]" ((10, "\\K") ∷ []) "$\\&{int}\\K\\|x;$"
    ∷ c_row "@c x=a?b:c;" ((4, "\\K") ∷ (6, "\\?") ∷ []) "$\\|x\\K\\|a\\?\\|b:\\|c;$" ∷ c_row
    "@c struct s p={.x=1,.y=2};" ((13, "\\K") ∷ (14, "\\{") ∷ (17, "\\K") ∷ (18, "\\T{1}") ∷ (22, "\\K") ∷ (
      23,
      "\\T{2}",
    ) ∷ (24, "\\}") ∷ []) "\\&{struct} \\&{s} \\|p${}\\K\\{{.}\\|x\\K\\T{1},\\39{.}\\|y\\K\\T{2}\\};$" ∷ c_row
    "@c x=(int){1};" ((4, "\\K") ∷ (10, "\\{") ∷ (11, "\\T{1}") ∷ (12, "\\}") ∷ []) "$\\|x\\K(\\&{int})\\{\\T{1}\\};$"
    ∷ c_row "@c _Generic(x,default:2);" ((22, "\\T{2}") ∷ []) "\\&{\\_Generic} ${}(\\|x,\\39{}$\\&{default}: \\T{2});"
    ∷ c_row "@c a.b;" [] "$\\|a.\\|b;$" ∷ c_row "@c a;@+break;" [] "\\|a;\\5\\&{break};" ∷ definition_row "@d n 3"
    ((0, "\\D") ∷ (5, "\\T{3}") ∷ []) "\\4\\D$\\|n$\\5\\T{3}" ∷ definition_row "@d n(a, b)a+b"
    ((0, "\\D") ∷ []) "\\4\\D$\\|n(\\|a,\\|b)$\\5$\\|a+\\|b$" ∷ definition_row "@d n(a+b" ((0, "\\D") ∷ [])
    "\\4\\D$\\|n(\\|a$\\5${+}\\|b$" ∷ definition_row "@d 3" ((0, "\\D") ∷ (3, "\\T{3}") ∷ []) "\\4\\D\\5\\T{3}"
    ∷ definition_row "@d f (a)" ((0, "\\D") ∷ []) "\\4\\D$\\|f$\\5(\\|a)" ∷ definition_row "@f foo int"
    ((0, "\\F") ∷ []) "\\4\\F\\\\{foo}\\5\\&{int}" ∷ definition_row "@f x 5" ((0, "\\F") ∷ (5, "\\T{5}") ∷ [])
    "\\4\\F\\|x\\5\\T{5}" ∷ definition_row "@s foo int" [] "" ∷ row name_at_three c_answers "@c @<A |x+1| b@>;"
    ((3, "\\X1:A ") ∷ (4, "+") ∷ (5, "\\T{1}") ∷ []) "\\X1:A \\PB{$\\|x+\\T{1}$};" ∷ row name_at_zero c_answers
    "@<A |x| b@> = y;" ((0, "\\X1:A ") ∷ (12, "${}\\E{}$") ∷ []) "\\X1:A \\PB{\\|x}${}\\E{}$\\6\n\\|y;" ∷ row
    (named_at 3 (parts_of_name (codes "A |x| b |y=1| c"))) c_answers "@c @<A |x| b |y=1| c@>;"
    ((3, "\\X1:A ") ∷ (10, "\\K") ∷ (11, "\\T{1}") ∷ []) "\\X1:A \\PB{\\|x}\\PB{$\\|y\\K\\T{1}$};" ∷ (
      counts
          (in_c_part "@c int a=b+c, *d;"),
      10 ∷ 10 ∷ [],
    ) ∷ (counts (in_c_part "@c a; /* b |x /* c |y| */| */"), 6 ∷ 3 ∷ [])
    ∷ (counts (in_c_part "@c a; /* |b| */"), 4 ∷ 2 ∷ []) ∷ (counts (in_bars "a"), 1 ∷ 0 ∷ []) ∷ (
      counts
          (ended name_at_three (c_answers "@c @<A |x+1| b@>;")),
      5 ∷ 2 ∷ [],
    ) ∷ []

found : map (λ row. row.0) rows ≡ map (λ row. row.1) rows
unfolding translated normal log count positions looks productions
found = refl

-- A macro of TeX, or a box, is in math, and an expression where none stands beside it. Dots, attributes and the signs
-- of two bytes have rows of their own.
abbrev logged : List (String × List ℕ)
logged = ("@c struct s p={.x=1,.y=2};", 43 ∷ 29 ∷ 33 ∷ 95 ∷ 6 ∷ 95 ∷ 7 ∷ 6 ∷ 51 ∷ 34 ∷ 37 ∷ [])
    ∷ ("@c x=(int){1};", 89 ∷ 14 ∷ 94 ∷ 6 ∷ 8 ∷ []) ∷ ("@c _Generic(x,default:2);", 15 ∷ 67 ∷ 96 ∷ 12 ∷ 26 ∷ 8 ∷ [])
    ∷ ("@c a.b;", 97 ∷ 6 ∷ 8 ∷ []) ∷ ("@c i=i+1;", 6 ∷ 6 ∷ 8 ∷ []) ∷ ("@c a=NULL;", 142 ∷ 6 ∷ 8 ∷ []) ∷ (
      "@c a=@t$b$@>;",
      113 ∷ 142 ∷ 6 ∷ 8 ∷ [],
    ) ∷ ("@c f(int a,...);", 89 ∷ 29 ∷ 33 ∷ 15 ∷ 111 ∷ 14 ∷ 11 ∷ 8 ∷ []) ∷ (
      "@c [[a]] int b;",
      114 ∷ 117
          ∷ 89 ∷ 29 ∷ 33 ∷ 37 ∷ [],
    ) ∷ ("@c alignas(8) int b;", 12 ∷ 115 ∷ 117 ∷ 89 ∷ 29 ∷ 33 ∷ 37 ∷ []) ∷ (
      "@c typeof(a) b;",
      12 ∷ 118 ∷ 29 ∷ 33 ∷ 37 ∷ [],
    ) ∷ ("@c std::x;", 6 ∷ 8 ∷ []) ∷ ("@c a=b?:c;", 6 ∷ 6 ∷ 8 ∷ []) ∷ []

logs : map (λ row. map (λ log. map (λ p. p.number) log) (logs_in start_flags (in_c_part row.0).known.ended)) logged
    ≡ map (λ row. row.1 ∷ []) logged
unfolding translated normal log count positions looks productions
logs = refl

-- ## What is shown, in trees that are read from text to text

-- Comments and inner texts are shown. A name without a pair makes no leaf, and a silent definition shows nothing.
abbrev numbered : List (NameTexts × List Answer × List ℕ)
numbered = (unnamed, c_answers "@c int a=b+c, *d;", 3 ∷ 7 ∷ 8 ∷ 9 ∷ 10 ∷ 11 ∷ 12 ∷ 14 ∷ 15 ∷ 16 ∷ [])
    ∷ (unnamed, c_answers "@c a; /* b |x /* c |y| */| */", 3 ∷ 4 ∷ 6 ∷ 8 ∷ 12 ∷ 14 ∷ 16 ∷ 20 ∷ 22 ∷ 26 ∷ []) ∷ (
      unnamed,
      definition_answers "@f foo int",
      0 ∷ 3 ∷ 7 ∷ [],
    ) ∷ (unnamed, definition_answers "@f TeX NULL", 0 ∷ 3 ∷ 7 ∷ [])
    ∷ (unnamed, definition_answers "@d n(a, b)a+b", 0 ∷ 3 ∷ 4 ∷ 5 ∷ 6 ∷ 8 ∷ 9 ∷ 10 ∷ 11 ∷ 12 ∷ [])
    ∷ (unnamed, definition_answers "@d n(a, b, ...)a+b", 0 ∷ 3 ∷ 4 ∷ 5 ∷ 6 ∷ 8 ∷ 9 ∷ 11 ∷ 14 ∷ 15 ∷ 16 ∷ 17 ∷ [])
    ∷ (unnamed, definition_answers "@d n(a+b", 0 ∷ 3 ∷ 4 ∷ 5 ∷ 6 ∷ 7 ∷ [])
    ∷ (unnamed, definition_answers "@s foo int", []) ∷ (name_at_three, c_answers "@c @<A |x+1| b@>;", 3 ∷ 16 ∷ [])
    ∷ (name_at_three, c_answers "@c a; @<B@>;", 3 ∷ 4 ∷ 11 ∷ []) ∷ (
      name_at_zero,
      c_answers "@<A |x| b@> = y;",
      0 ∷ 12
          ∷ 14 ∷ 15 ∷ [],
    ) ∷ (name_at_zero, c_answers "@<A |x| b@> = y+1;", 0 ∷ 12 ∷ 14 ∷ 15 ∷ 16 ∷ 17 ∷ []) ∷ []

abbrev numbers_in : NameTexts → List Answer → List (List ℕ) × Option MathMode
numbers_in named answers = (
  struck (ended named answers).tree ∷ shown_numbers (λ n. is_some (named n)) answers ∷ [],
  reads (ended named answers).tree Text,
)

numbers : map (λ row. numbers_in row.0 row.1) numbered ≡ map (λ row. (row.2 ∷ row.2 ∷ [], Some Text)) numbered
unfolding translated normal log count positions looks productions
numbers = refl

-- a part that a section code cuts
cut_part : map (λ answers. shown_numbers (λ number. false) answers) (parts_of_name (codes "A |x /* y @* z|"))
    ≡ (3 ∷ 5 ∷ 7 ∷ []) ∷ []
cut_part = refl

-- A macro of TeX, as `NULL`, is a reserved word. In the head of a format definition it has dollars of its own; in that
-- of a macro it stands between those of the head.
word_items : map items (in_bars "NULL" ∷ in_definition "@f x NULL" ∷ in_definition "@d NULL 0" ∷ [])
    ≡ (SignItem control.Dollar ∷ ReservedItem (word "NULL") 0 ∷ SignItem control.Dollar ∷ []) ∷ (SignItem control.Backup
    ∷ SourceItem 0 ∷ IdentItem (own 0) 3 ∷ SignItem control.OptionalBreak ∷ SignItem control.Dollar
    ∷ ReservedItem (word "NULL") 5
    ∷ SignItem control.Dollar ∷ []) ∷ (SignItem control.Backup ∷ SourceItem 0 ∷ SignItem control.Dollar
    ∷ ReservedItem (word "NULL") 3 ∷ SignItem control.Dollar ∷ SignItem control.OptionalBreak ∷ SignItem control.Blank
    ∷ SourceItem 8 ∷ []) ∷ []
unfolding translated normal log count positions looks productions
word_items = refl
