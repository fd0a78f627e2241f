-- A worked web with its pieces, worked C parts with their tokens, and worked limbo.
use Rattle.std.proofs.Common.{◌≡◌, ℕ, true, false, List, [], ◌∷◌, codes, length, refl, arith}
use Rattle.cw_base.specs.declared.span.Span.{Span}
use Rattle.cw_base.specs.Web.{MergedLine, text_of}
use Rattle.cw_rules.specs.declared.tokens.Mode.{Mode}
use Rattle.cw_rules.specs.declared.tokens.Mode.TheVariants as modes
use Rattle.cw_rules.specs.declared.signs.Sign.TheVariants as signs
use Rattle.cw_rules.specs.declared.tokens.TokKind.{TokKind}
use Rattle.cw_rules.specs.declared.tokens.TokKind.TheVariants as kinds
use Rattle.cw_rules.specs.Answers.{Answer, Token, Begin, Finish, Note, Seen}
use Rattle.cw_lex.specs.Lexing.{tokens_of}
use Rattle.cw_lex.specs.Openings.{tokens_in}
use Rattle.cw_phase1.specs.Book.{book}
use Rattle.cw_phase1.specs.Sections.{span}
use Rattle.cw_texpart.specs.Limbo.{printed_limbo}
use Rattle.cw_rules.specs.Bytes.{at_sign, begins}
use Rattle.cw_laws.specs.Ends.{before_end, before_single, closed_size, control_size, ends_control, ends_name}
use Rattle.cw_laws.specs.Ends.{ends_piece, is_double_at, is_pair}
use Rattle.cw_laws.specs.NotePlaces.{NotesLie}
use Rattle.cw_laws.specs.Pieces.{book_pieces, piece_bytes, pieces_with}
use Rattle.cw_laws.specs.TexText.{kept_bytes, last_line_ended}

abbrev line : List ℕ → ℕ → MergedLine
line text n = record { text = text; place = record { file = 0; line = n }; changed = false }

abbrev web : List MergedLine
web = line (codes "Limbo.") 1 ∷ line (codes "@*1  One.") 2 ∷ line (codes "@d a 1") 3 ∷ line (codes "@c x;") 4 ∷ line
    (codes "@  Two. @<Read@>= y;") 5 ∷ []

abbrev pieces : List Span
pieces = book_pieces (book web).outline.limbo (book web).outline.sections

the_pieces : pieces ≡ span 0 7 ∷ span 7 12 ∷ span 12 17 ∷ span 17 24 ∷ span 24 30 ∷ span 30 33 ∷ span 33 38 ∷ span 38 38
    ∷ span 38 51 ∷ []
the_pieces = refl

the_bytes : piece_bytes (text_of web) pieces ≡ text_of web
the_bytes = refl

a_code_once : pieces_with 8 pieces ≡ 1
a_code_once = refl

-- a comment without an end, of which the note tells where it begins
a_note_lies : NotesLie 0 5 (tokens_of (codes "a /*b") 0 5 modes.CPart)
a_note_lies = (omega arith, omega arith, tt)

abbrev kinds_of : List Seen → List TokKind
kinds_of [] = []
kinds_of (t ∷ tokens) = t.kind ∷ kinds_of tokens

abbrev kinds_in : List ℕ → List TokKind
kinds_in text = kinds_of (tokens_in (tokens_of text 0 (length text) modes.CPart))

the_longest : kinds_in (codes "a1+++b")
    ≡ kinds.Identifier ∷ kinds.Sign signs.PlusPlus ∷ kinds.Sign signs.Plus ∷ kinds.Identifier ∷ []
the_longest = refl

-- In a `#` line a backslash before the line's end is passed over, and elsewhere it is a token.
a_hash_line : kinds_in (35 ∷ 120 ∷ 92 ∷ 10 ∷ 121 ∷ 10 ∷ [])
    ≡ kinds.HashLine ∷ kinds.Identifier ∷ kinds.Identifier ∷ kinds.HashLineEnd ∷ []
a_hash_line = refl

another_line : kinds_in (120 ∷ 92 ∷ 10 ∷ 121 ∷ 10 ∷ []) ≡ kinds.Identifier ∷ kinds.OtherByte ∷ kinds.Identifier ∷ []
another_line = refl

-- a string with a quote behind a backslash
a_string : kinds_in (34 ∷ 92 ∷ 34 ∷ 34 ∷ 97 ∷ []) ≡ kinds.Quoted ∷ kinds.Identifier ∷ []
a_string = refl

-- `@@` is a byte of a control text, also before `>`.
a_control_text : control_size (codes "a@@>b@>c") ≡ 5
a_control_text = refl

a_control_line : control_size (codes "a@\nb@>") ≡ 2
a_control_line = refl

a_single_at : before_single ends_control is_double_at (codes "a@,b@>") ≡ 1
a_single_at = refl

abbrev spans_of : List Seen → List Span
spans_of [] = []
spans_of (t ∷ tokens) = t.span ∷ spans_of tokens

abbrev spans_in : List ℕ → List Span
spans_in text = spans_of (tokens_in (tokens_of text 0 (length text) modes.CPart))

the_control_texts : spans_in (codes "@^a@@>b@>c@.d\ne") ≡ span 0 9 ∷ span 9 10 ∷ span 10 13 ∷ span 14 15 ∷ []
the_control_texts = refl

-- A section name goes on over a line's end, and `@@` are two bytes of it.
a_name : closed_size ends_name (begins at_sign) (codes "a\nb@@>c@>d") ≡ 9
a_name = refl

a_cut_name : closed_size ends_name (begins at_sign) (codes "ab@ c@>") ≡ 2
a_cut_name = refl

-- The string of `@'` ends with its quote, of which one is behind a backslash.
a_quote : spans_in (codes "@'\\''a") ≡ span 0 5 ∷ span 5 6 ∷ []
a_quote = refl

-- In TeX text `@t` is dropped with its control text, and in limbo without.
abbrev dropped_in : Mode → List Span
dropped_in mode = spans_of (tokens_in (tokens_of (codes "@ta@>b") 0 6 mode))

a_dropped_text : dropped_in modes.TexText ≡ span 0 5 ∷ span 5 6 ∷ []
a_dropped_text = refl

a_dropped_code : dropped_in modes.Limbo ≡ span 0 2 ∷ span 2 3 ∷ span 3 5 ∷ span 5 6 ∷ []
a_dropped_code = refl

-- A backslash takes the star along, and a bar begins an inner text.
a_piece : before_end (ends_piece true true) (is_pair true) (codes "a\\*/b|c|*/") ≡ 5
a_piece = refl

abbrev ends_of : List Answer → List Span
ends_of [] = []
ends_of (Token t ∷ answers) = ends_of answers
ends_of (Begin t ∷ answers) = ends_of answers
ends_of (Finish t ∷ answers) = t.span ∷ ends_of answers
ends_of (Note kind place ∷ answers) = ends_of answers

abbrev ends_in : List ℕ → List Span
ends_in text = ends_of (tokens_of text 0 (length text) modes.CPart)

a_long_comment : ends_in (codes "/*\\*/*/a") ≡ span 5 7 ∷ []
a_long_comment = refl

-- the same bytes in an inner text are signs
an_inner_text : ends_in (codes "/*|*/|*/a") ≡ span 5 6 ∷ span 6 8 ∷ []
an_inner_text = refl

a_short_comment : ends_in (codes "//a*/\nb") ≡ span 5 5 ∷ []
a_short_comment = refl

a_comment_without_end : ends_in (codes "/*a") ≡ span 3 3 ∷ []
a_comment_without_end = refl

-- A line's end cuts off an inner text of a short comment, and then ends that; in a long one it cuts off nothing.
a_cut_inner_text : ends_in (codes "//|a\n") ≡ span 4 4 ∷ span 4 4 ∷ []
a_cut_inner_text = refl

an_inner_line : ends_in (codes "/*|a\n|*/") ≡ span 5 6 ∷ span 6 8 ∷ []
an_inner_line = refl

-- In limbo a bar and a backslash are bytes as others. An empty line stays, and the last line is ended.
a_limbo : printed_limbo (codes "a|b\n\n\\c") (span 0 7) ≡ codes "a|b\n\n\\c\n"
a_limbo = refl

-- Its first line's end is dropped where other bytes stand before it on its line.
no_first_end : printed_limbo (codes "a\nb") (span 1 3) ≡ codes "b\n"
no_first_end = refl

the_kept : last_line_ended (kept_bytes (codes "a\nb") (span 1 3)) ≡ codes "b\n"
the_kept = refl
