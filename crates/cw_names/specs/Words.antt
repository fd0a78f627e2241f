-- The words that are known from the start.
use Rattle.std.specs.Prelude.{◌≡◌, ℕ, nat_eq, List, [], ◌∷◌, ◌++◌, codes, map, Option, Some, None, if◌then◌else◌}
use Rattle.cw_base.specs.declared.category.Cat.{Cat}
use Rattle.cw_base.specs.declared.category.Cat.TheVariants.{RawInt, IntLike, ConstLike, StructLike, CaseLike, ForLike}
use Rattle.cw_base.specs.declared.category.Cat.TheVariants.{DoLike, IfLike, ElseLike, HashLike, DefineLike, SizeofLike}
use Rattle.cw_base.specs.declared.category.Cat.TheVariants.{TypedefLike, TypeofLike, AlignasLike}
use Rattle.cw_base.specs.declared.category.Cat.TheVariants.{TexLike, Exp}
use Rattle.cw_names.specs.declared.entry.EntryKind.{EntryKind}
use Rattle.cw_names.specs.declared.entry.EntryKind.TheVariants.{Ident}
use Rattle.cw_names.specs.Names.{Entry}
use Rattle.std.specs.Cmp.Lexicographic.{pointwise}

-- words with the category that all of them have
abbrev pub words_with : Cat → List (List ℕ) → List Entry
words_with category words = map (λ word. record { kind = Ident; text = word; category = category }) words

-- The reserved words of C.
abbrev pub c_words : List Entry
c_words =
    words_with RawInt (codes "char" ∷ codes "double" ∷ codes "float" ∷ codes "int" ∷ codes "long" ∷ codes "short"
    ∷ codes "signed" ∷ codes "unsigned" ∷ codes "void" ∷ codes "FILE" ∷ codes "size_t" ∷ codes "_Bool"
    ∷ codes "bool" ∷ codes "char8_t" ∷ codes "char16_t" ∷ codes "char32_t" ∷ codes "clock_t" ∷ codes "div_t"
    ∷ codes "fpos_t" ∷ codes "int8_t" ∷ codes "int16_t" ∷ codes "int32_t" ∷ codes "int64_t" ∷ codes "intmax_t"
    ∷ codes "intptr_t" ∷ codes "jmp_buf" ∷ codes "ldiv_t" ∷ codes "off_t" ∷ codes "ptrdiff_t" ∷ codes "sig_atomic_t"
    ∷ codes "ssize_t" ∷ codes "time_t" ∷ codes "uint8_t" ∷ codes "uint16_t" ∷ codes "uint32_t" ∷ codes "uint64_t"
    ∷ codes "uintmax_t" ∷ codes "uintptr_t" ∷ codes "va_list" ∷ codes "wchar_t" ∷ codes "wint_t"
    ∷ codes "_Complex" ∷ []) ++
    words_with IntLike (codes "auto" ∷ codes "extern" ∷ codes "register" ∷ codes "static" ∷ codes "inline"
    ∷ codes "constexpr" ∷ codes "thread_local" ∷ codes "_Thread_local" ∷ codes "_Noreturn" ∷ []) ++
    words_with ConstLike (codes "const" ∷ codes "volatile" ∷ codes "restrict" ∷ []) ++
    words_with StructLike (codes "struct" ∷ codes "union" ∷ codes "enum" ∷ []) ++
    words_with CaseLike (codes "break" ∷ codes "case" ∷ codes "continue" ∷ codes "default" ∷ codes "goto"
    ∷ codes "return" ∷ []) ++
    words_with ForLike (codes "for" ∷ codes "switch" ∷ codes "while" ∷ []) ++
    words_with DoLike (codes "do" ∷ []) ++
    words_with IfLike (codes "if" ∷ []) ++
    words_with ElseLike (codes "else" ∷ []) ++
    words_with SizeofLike (codes "sizeof" ∷ codes "_Generic" ∷ codes "alignof" ∷ codes "_Alignof" ∷ codes "asm"
    ∷ codes "static_assert" ∷ codes "_Static_assert" ∷ []) ++
    words_with TypedefLike (codes "typedef" ∷ []) ++
    words_with TypeofLike (codes "typeof" ∷ codes "typeof_unqual" ∷ codes "_BitInt" ∷ codes "_Atomic" ∷ []) ++
    words_with AlignasLike (codes "alignas" ∷ codes "_Alignas" ∷ codes "__attribute__" ∷ codes "_Pragma" ∷ []) ++
    words_with TexLike (codes "TeX" ∷ codes "NULL" ∷ [])

-- The words that are reserved in a `#` line only.
abbrev pub hash_line_words : List (List ℕ)
hash_line_words =
    codes "elif" ∷ codes "elifdef" ∷ codes "elifndef" ∷ codes "embed" ∷ codes "error" ∷ codes "ifdef"
    ∷ codes "ifndef" ∷ codes "include" ∷ codes "line" ∷ codes "pragma" ∷ codes "undef" ∷ codes "warning"
    ∷ codes "endif" ∷ codes "define" ∷ codes "defined" ∷ []

-- The built-in words, with which the names begin. Those of `#` lines are ordinary identifiers elsewhere.
abbrev pub built_in_words : List Entry
built_in_words = c_words ++ words_with Exp hash_line_words

-- What entries are found by, without their categories.
abbrev pub words_of : List Entry → List (EntryKind × List ℕ)
words_of entries = map (λ entry. (entry.kind, entry.text)) entries

-- The built-in words stand first, in their order, whatever categories they have now.
unfoldable pub BeginsWithWords : List Entry → Type 0
BeginsWithWords entries = (later : List (EntryKind × List ℕ)) × (words_of entries ≡ words_of built_in_words ++ later)

-- the category of the first of these words that is the word
abbrev pub category_among : List Entry → List ℕ → Option Cat
category_among [] word = None
category_among (entry ∷ entries) word = if pointwise nat_eq word entry.text then Some entry.category else category_among
    entries word

-- The words that are reserved directly behind the `#` of a `#` line, with their categories there. The `define` of a
-- macro with parameters has another.
abbrev pub directive_words : List Entry
directive_words =
    words_with HashLike (codes "elif" ∷ codes "elifdef" ∷ codes "elifndef" ∷ codes "else" ∷ codes "embed"
    ∷ codes "endif" ∷ codes "error" ∷ codes "if" ∷ codes "ifdef" ∷ codes "ifndef" ∷ codes "include" ∷ codes "line"
    ∷ codes "pragma" ∷ codes "undef" ∷ codes "warning" ∷ []) ++
    words_with DefineLike (codes "define" ∷ [])

-- The category that a word has directly behind the `#` of a `#` line, whatever it has elsewhere.
abbrev pub directive_category : List ℕ → Option Cat
directive_category word = category_among directive_words word

-- The category that a word has anywhere in a `#` line, whatever it has elsewhere.
abbrev pub hash_line_category : List ℕ → Option Cat
hash_line_category word = category_among (words_with SizeofLike (codes "defined" ∷ [])) word
