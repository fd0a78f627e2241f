-- TeX text and limbo without an `@`, and TeX text without a bar: what they print, and where it stands in the TeX file.
--
-- All bytes are printed in their order. Only line ends come or go: the last line is ended where it isn't, and a line's
-- end with which limbo begins is dropped where other bytes stand before it on its line.
use Rattle.std.specs.Prelude.{◌≡◌, ◌≢◌, ℕ, ◌+◌, ◌==◌, Bool, true, false, not, All, List, [], ◌∷◌, ◌++◌, if◌then◌else◌}
use Rattle.std.specs.Prelude.{Some, codes, slice_get, take}
use Rattle.cw_base.specs.declared.flags.Flags.{Flags}
use Rattle.cw_base.specs.declared.span.Span.{Span}
use Rattle.cw_base.specs.Bytes.{newline}
use Rattle.cw_base.specs.Web.{MergedLine, text_of}
use Rattle.cw_rules.specs.Bytes.{at_sign}
use Rattle.cw_base.specs.Text.{bar}
use Rattle.cw_lex.specs.Lexing.{last_after}
use Rattle.cw_names.specs.Names.{Entry}
use Rattle.cw_weave.specs.Sections.{sections_done}
use Rattle.cw_phase1.specs.Book.{book}
use Rattle.cw_phase1.specs.declared.book.Book.{Book}
use Rattle.cw_phase1.specs.declared.sections.Section.{Section}
use Rattle.cw_press.specs.Done.{as_it_is}
use Rattle.cw_press.specs.Beside.{is_nothing, beside_in}
use Rattle.cw_texpart.specs.Heads.{head}
use Rattle.cw_press.specs.Inks.{bytes_of, end_if, ends_empty_line}
use Rattle.cw_texpart.specs.Limbo.{limbo_bytes, printed_limbo}
use Rattle.cw_press.specs.Texts.{Setting, setting}
use Rattle.cw_texpart.specs.TexParts.{tex_done}
use Rattle.cw_texts.specs.TexPieces.{TexPiece, Copied, InnerText, Cited, tex_pieces_of}
use Rattle.cw_weave.specs.TexFile.{tex_file}
use Rattle.cw_laws.specs.Files.{HaveShortLines, written_of}

-- this byte isn't among the bytes
abbrev pub HasNo : ℕ → List ℕ → Type 0
HasNo byte bytes = All (λ b. b ≢ byte) bytes

-- The bytes, and a line's end where their last line has none.
abbrev pub last_line_ended : List ℕ → List ℕ
last_line_ended bytes = bytes ++ end_if (not (last_after newline bytes == newline))

-- The bytes without a line's end with which they begin.
abbrev pub behind_line_end : List ℕ → List ℕ
behind_line_end [] = []
behind_line_end (byte ∷ bytes) = if byte == newline then bytes else byte ∷ bytes

-- The bytes of a span: a line's end with which they begin is one of them where its line of the web is empty.
abbrev pub kept_bytes : List ℕ → Span → List ℕ
kept_bytes text part =
    if ends_empty_line text part.start then bytes_of text part else behind_line_end (bytes_of text part)

-- a piece that is no C text
abbrev pub is_copied : TexPiece → Bool
is_copied (Copied token) = true
is_copied (InnerText part) = false
is_copied (Cited part) = false

-- The TeX part of a section has no `@` and no bar, and no code stands beside its number.
pub record IsPlain (s : Setting) (section : Section) : Type 0 where
  pub no_code : HasNo at_sign (bytes_of s.text section.tex)
  pub no_bar : HasNo bar (bytes_of s.text section.tex)
  pub alone : is_nothing (beside_in s section) ≡ true

-- the head of a section and all bytes of its TeX part, the last line ended
abbrev pub plain_tex : Setting → Section → List ℕ
plain_tex s section =
    last_line_ended (head s.flags.ranged s.text s.section section ++ bytes_of s.text section.tex)

-- all bytes of the limbo of a book, the last line ended
abbrev pub plain_limbo : List ℕ → Book → List ℕ
plain_limbo text b = last_line_ended (kept_bytes text b.outline.limbo)

-- ## Where they stand in the TeX file

abbrev pub first_line : List ℕ
first_line = codes "\\input cwebmac\n"

-- what stands in the TeX file before the section behind this many others
abbrev pub before_section : List ℕ → Flags → Book → ℕ → List ℕ
before_section text flags b n =
    limbo_bytes text b.outline.limbo
    ++ (sections_done (setting text flags 0 b) 1 (take n b.outline.sections) b.names).out

-- A file begins with some bytes, and with others directly behind them.
pub record BeginsWith (before bytes file : List ℕ) : Type 0 where
  pub rest : List ℕ
  pub is : file ≡ before ++ (bytes ++ rest)

-- ## The law

-- So limbo without an `@` is printed. TeX text without an `@` or a bar is printed directly behind the head of its
-- section, where no code stands beside its number, and no C text is in it: none is translated, and the names stay what
-- they are.
pub record PlainTextIsKept : Type 0 where
  pub limbo : (text : List ℕ) (part : Span) → HasNo at_sign (bytes_of text part)
      → printed_limbo text part ≡ last_line_ended (kept_bytes text part)
  -- The limbo of a web begins with the web, so a line's end with which it begins is kept too.
  pub limbo_of_web : (lines : List MergedLine)
      → kept_bytes (text_of lines) (book lines).outline.limbo ≡ bytes_of (text_of lines) (book lines).outline.limbo
  pub no_c_text : (text : List ℕ) (part : Span) → HasNo at_sign (bytes_of text part) → HasNo bar (bytes_of text part)
      → All (λ piece. is_copied piece ≡ true) (tex_pieces_of text part)
  pub tex : (s : Setting) (section : Section) (names : List Entry) → IsPlain s section
      → tex_done s section names ≡ as_it_is (plain_tex s section) names
  -- In the TeX file of a book they stand in their places: limbo behind the first line, and the TeX part of each section
  -- behind the sections before it.
  pub limbo_in_file : (text : List ℕ) (flags : Flags) (b : Book) → HasNo at_sign (bytes_of text b.outline.limbo)
      → BeginsWith first_line (plain_limbo text b) (tex_file text flags b).out
  pub tex_in_file : (text : List ℕ) (flags : Flags) (b : Book) (n : ℕ) (section : Section)
      → slice_get b.outline.sections n ≡ Some section → IsPlain (setting text flags (n + 1) b) section
      → BeginsWith (before_section text flags b n) (plain_tex (setting text flags (n + 1) b) section)
      (tex_file text flags b).out
  -- Where none of their lines has more than 80 bytes, they are written so too, behind what is written of what stands
  -- before them.
  pub limbo_written : (text : List ℕ) (flags : Flags) (b : Book) → HasNo at_sign (bytes_of text b.outline.limbo)
      → HaveShortLines (plain_limbo text b)
      → BeginsWith first_line (plain_limbo text b) (written_of (tex_file text flags b).out)
  pub tex_written : (text : List ℕ) (flags : Flags) (b : Book) (n : ℕ) (section : Section)
      → slice_get b.outline.sections n ≡ Some section → IsPlain (setting text flags (n + 1) b) section
      → HaveShortLines (plain_tex (setting text flags (n + 1) b) section)
      → BeginsWith (written_of (before_section text flags b n)) (plain_tex (setting text flags (n + 1) b) section)
      (written_of (tex_file text flags b).out)
