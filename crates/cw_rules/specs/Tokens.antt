-- The tokens of a web: one rule for each class of token, and one for each kind of text in which tokens stand.
--
-- Each rule says what begins at a place: which answers it gives, how many bytes belong to it, and where the text goes
-- on. `place` is the number of the byte, `byte` the byte itself, and `bytes` are the bytes behind it. `here` is the
-- place with what is known of it.
use Rattle.std.specs.Prelude.{ℕ, ◌+◌, ◌-◌, Bool, true, false, ◌&&◌, ◌||◌, not, ◌==◌, nat_lt, List, [], ◌∷◌, ◌++◌, codes}
use Rattle.std.specs.Prelude.{drop, take, length, slice_index, if◌then◌else◌}
use Rattle.std.specs.Option.{option_map_or}
use Rattle.cw_base.specs.declared.notes.NoteKind.{NoteKind}
use Rattle.cw_base.specs.declared.notes.NoteKind.TheVariants as notes
use Rattle.cw_rules.specs.declared.bodies.Body.TheVariants as bodies
use Rattle.cw_rules.specs.declared.bodies.Inside.{Inside}
use Rattle.cw_rules.specs.declared.bodies.Extent.{Extent}
use Rattle.cw_rules.specs.declared.classes.Class.TheVariants as classes
use Rattle.cw_rules.specs.declared.codes.Code.{Code}
use Rattle.cw_rules.specs.declared.codes.Code.TheVariants as at
use Rattle.cw_rules.specs.declared.codes.Effect.{Effect}
use Rattle.cw_rules.specs.declared.codes.Effect.TheVariants as effects
use Rattle.cw_rules.specs.declared.parts.Behind.TheVariants.{Hash, Include, Other}
use Rattle.cw_rules.specs.declared.parts.Part.{Part}
use Rattle.cw_rules.specs.declared.parts.Part.TheVariants as parts
use Rattle.cw_rules.specs.declared.parts.Opened.{Opened}
use Rattle.cw_rules.specs.declared.parts.Start.{Start}
use Rattle.cw_rules.specs.declared.parts.Start.TheVariants as start
use Rattle.cw_rules.specs.declared.signs.Sign.{Sign}
use Rattle.cw_rules.specs.declared.signs.Sign.TheVariants as signs
use Rattle.cw_rules.specs.declared.tokens.Directive.{Directive}
use Rattle.cw_rules.specs.declared.tokens.Directive.TheVariants.{No, Word, Macro}
use Rattle.cw_rules.specs.declared.tokens.TokKind.{TokKind}
use Rattle.cw_rules.specs.declared.tokens.TokKind.TheVariants as kinds
use Rattle.cw_base.specs.Bytes.{newline, backslash}
use Rattle.cw_rules.specs.Bytes.{hash, apostrophe, left_paren, right_paren, star, comma, slash, less, greater, equals}
use Rattle.cw_rules.specs.Bytes.{at_sign, run, begins, begins_by, begins_with, is_letter, is_mark, is_in}
use Rattle.cw_base.specs.Conditions.{list_if}
use Rattle.cw_base.specs.Text.{bar}
use Rattle.cw_rules.specs.Signs.{all_signs, longest, spelling}
use Rattle.cw_rules.specs.Constants.{constant}
use Rattle.cw_rules.specs.Prefixes.{prefix_size}
use Rattle.cw_rules.specs.Codes.{code_at, begins_section, has_control_text, effect_in_limbo, effect_in_tex, effect_in_c}
use Rattle.cw_rules.specs.Codes.{effect_in_definition, effect_at_begin}
use Rattle.cw_rules.specs.Bodies.{at_start, extent, noted, ended, one_note, note_unless, all_notes}
use Rattle.cw_rules.specs.Names.{is_void}
use Rattle.cw_rules.specs.Answers.{Answer, Token, Begin, Finish, Note, Where, Spot, Cut, ScanStep, before, note_answers}
use Rattle.cw_rules.specs.Answers.{token_of, cut_token, plain, dropped}

-- ## Tokens, by their classes

-- An identifier is a letter, then letters and digits. So each byte of it is of the class Word.
abbrev pub identifier : List ℕ → Cut
identifier bytes = plain kinds.Identifier (run classes.Word bytes)

-- A string goes from a quote, the last of its first `opening` bytes, to the same byte.
abbrev pub string_of : TokKind → ℕ → Inside → List ℕ → Cut
string_of kind opening i bytes = record {
  kind = kind;
  directive = No;
  size = opening + (extent i bytes).size;
  notes = all_notes notes.StringUnended i bytes;
}

abbrev pub string : TokKind → ℕ → ℕ → ℕ → List ℕ → Cut
string kind opening quote place bytes =
    string_of kind opening (at_start (bodies.Quoted quote) (place + opening)) (drop opening bytes)

-- An include name goes from `<` to the first `>` of the line.
abbrev pub closes_on_line : List ℕ → Bool
closes_on_line bytes = begins greater (drop (run classes.IncludeName bytes) bytes)

abbrev pub include_name : ℕ → List ℕ → Cut
include_name place bytes = record {
  kind = kinds.IncludeName;
  directive = No;
  size = 1 + (run classes.IncludeName (drop 1 bytes) + 1);
  notes = noted (at_start bodies.IncludeName (place + 1)) (drop 1 bytes);
}

-- A control text goes to `@>` on its line.
abbrev pub control_text_of : Code → Inside → List ℕ → Cut
control_text_of code i bytes = record {
  kind = kinds.Code code;
  directive = No;
  size = 2 + (extent i bytes).size;
  notes = all_notes notes.ControlTextUnended i bytes;
}

abbrev pub control_text : Code → ℕ → List ℕ → Cut
control_text code place bytes = control_text_of code (at_start bodies.ControlText (place + 2)) (drop 2 bytes)

-- A section name goes to `@>`, perhaps on a later line.
abbrev pub section_name_of : Code → ℕ → Inside → List ℕ → Cut
section_name_of code place i bytes = record {
  kind = kinds.Code code;
  directive = No;
  size = 2 + (extent i bytes).size;
  notes = one_note (note_unless (extent i bytes).closed notes.NameUnended place) ++
      (one_note (note_unless (not (is_void (take (extent i bytes).inner_size bytes))) notes.NameEmpty place)
      ++ noted i bytes);
}

abbrev pub section_name : Code → ℕ → List ℕ → Cut
section_name code place bytes = section_name_of code place (at_start bodies.SectionName (place + 2)) (drop 2 bytes)

-- Any other code is the `@` and the byte behind it, where one is there.
abbrev pub alone_size : List ℕ → ℕ
alone_size (byte ∷ []) = 1
alone_size bytes = 2

-- A code with its name, string or control text.
abbrev pub is_name : Code → Bool
is_name at.SectionName = true
is_name at.FileName = true
is_name code = false

abbrev pub is_quote : Code → Bool
is_quote at.Quote = true
is_quote code = false

abbrev pub control_or_plain : Code → ℕ → List ℕ → Cut
control_or_plain code place bytes =
    if has_control_text code then control_text code place bytes else plain (kinds.Code code) (alone_size bytes)

abbrev pub code_token : Code → ℕ → List ℕ → Cut
code_token code place bytes =
    if is_name code then section_name code place bytes
    else if is_quote code then string (kinds.Code code) 2 apostrophe place bytes
    else control_or_plain code place bytes

-- A code that may not stand here is dropped with its control text.
abbrev pub dropped_code : NoteKind → Code → ℕ → List ℕ → Cut
dropped_code note code place bytes = dropped note place (control_or_plain code place bytes)

-- A section code has its depth with it, a star or digits, and the blanks behind it on its line.
abbrev pub depth_size : List ℕ → ℕ
depth_size bytes = if begins star bytes then 1 else run classes.Digit bytes

abbrev pub section_code : List ℕ → Cut
section_code bytes =
    if begins star (drop 1 bytes)
    then (let size = 2 + depth_size (drop 2 bytes) in
    plain (kinds.Code at.StarredSection) (size + run classes.Blank (drop size bytes)))
    else plain (kinds.Code at.Section) (1 + run classes.Blank (drop 1 bytes))

-- The sign behind the name that begins a C part, and whether it stands there, after blanks of the line.
abbrev pub head_sign_size : List ℕ → ℕ
head_sign_size bytes =
    if begins_with (codes "==") bytes || begins_with (codes "+=") bytes then 2
    else if begins equals bytes then 1 else 0

abbrev pub is_signed : List ℕ → Bool
is_signed bytes = nat_lt 0 (head_sign_size (drop (run classes.Blank bytes) bytes))

abbrev pub is_head_by : Extent → List ℕ → Bool
is_head_by e bytes = e.closed && is_signed (drop e.size bytes)

abbrev pub is_head : ℕ → List ℕ → Bool
is_head place bytes = is_head_by (extent (at_start bodies.SectionName (place + 2)) (drop 2 bytes)) (drop 2 bytes)

-- ## What holds of a place

-- C text goes on in a part, or in the innermost comment.
abbrev pub is_code_part : Part → Bool
is_code_part parts.Begin = true
is_code_part (parts.Plain hash_line behind) = true
is_code_part parts.Definition = true
is_code_part parts.TexInner = true
is_code_part parts.Inner = true
is_code_part part = false

abbrev pub is_code : Part → List Opened → Bool
is_code part [] = is_code_part part
is_code part (c ∷ comments) = c.inner

-- the sign behind the name that begins a C part is wanted
abbrev pub is_head_part : Part → List Opened → Bool
is_head_part parts.Head [] = true
is_head_part part comments = false

abbrev pub is_tex_inner : Part → Bool
is_tex_inner parts.TexInner = true
is_tex_inner part = false

abbrev pub in_hash_line : Part → Bool
in_hash_line (parts.Plain hash_line behind) = hash_line
in_hash_line part = false

abbrev pub behind_include : Part → Bool
behind_include (parts.Plain hash_line Include) = true
behind_include part = false

abbrev pub behind_hash : Part → Bool
behind_hash (parts.Plain hash_line Hash) = true
behind_hash part = false

-- the part behind a token of C text
abbrev pub passed : Part → Part
passed parts.Begin = parts.Plain false Other
passed (parts.Plain hash_line behind) = parts.Plain hash_line Other
passed part = part

-- The depth of C text in which no comment is open: inner C text of TeX text, and that of a section name, have depth 1.
abbrev pub first_depth : Part → ℕ
first_depth parts.TexInner = 1
first_depth parts.Inner = 1
first_depth part = 0

-- inner C text would reach a depth above 20 here, in the text of a comment
abbrev pub is_deep : Part → List Opened → Bool
is_deep part comments = nat_lt 20 (first_depth part + length comments)

-- A bar ends C text in a comment and in TeX text.
abbrev pub ends_at_bar : Part → List Opened → Bool
ends_at_bar parts.TexInner comments = true
ends_at_bar part [] = false
ends_at_bar part (c ∷ comments) = true

-- the same place in another part
abbrev pub moved : Where → Part → Where
moved w part = record { part = part; comments = w.comments }

-- C text begins or ends in the innermost comment
abbrev pub with_inner : Opened → Bool → Opened
with_inner c inner = record c { inner = inner }

-- a token, and where the text goes on
abbrev pub one : Bool → Where → ℕ → List ℕ → Cut → ScanStep
one hash_line next place bytes cut = record {
  answers = Token (cut_token hash_line cut place bytes) ∷ note_answers cut.notes;
  more = cut.size - 1;
  next = next;
}

-- a byte that gives no answer
abbrev pub skipped_byte : Where → ScanStep
skipped_byte w = record { answers = []; more = 0; next = w }

-- ## Ends

-- A comment ends at a place by the bytes there, of this size. The note on missing braces is about the byte at `about`.
abbrev pub comment_kind : Bool → TokKind
comment_kind true = kinds.LongComment
comment_kind false = kinds.ShortComment

abbrev pub missing_brace : Opened → ℕ → List Answer
missing_brace c about = note_answers (one_note (note_unless (c.braces == 0) notes.MissingBrace about))

abbrev pub comment_end : Bool → Opened → ℕ → ℕ → List ℕ → List Answer
comment_end hash_line c place size bytes =
    Finish (token_of hash_line (comment_kind c.long) place size bytes) ∷ missing_brace c place

-- Inner C text, and a comment, that end without bytes of their own.
abbrev pub inner_cut : Bool → ℕ → ℕ → List Answer
inner_cut hash_line place about = Finish (token_of hash_line kinds.InnerText place 0 []) ∷ Note notes.BarMissing about
    ∷ []

abbrev pub comment_cut : Bool → Opened → ℕ → ℕ → List Answer
comment_cut hash_line c place about =
    Finish (token_of hash_line (comment_kind c.long) place 0 []) ∷ Note notes.CommentUnended c.start
    ∷ missing_brace c about

-- All that is open ends at a section code or at the end of the text. Its notes are about the byte at `about`.
abbrev pub part_cut : Part → ℕ → ℕ → List Answer
part_cut parts.TexInner place about = inner_cut false place about
part_cut (parts.MacroName code) place about = Note notes.ImproperMacro code ∷ []
part_cut (parts.MacroParen code) place about = Note notes.ImproperMacro code ∷ []
part_cut (parts.Parameters code) place about = Note notes.ImproperMacro code ∷ []
part_cut (parts.FormatName code second limbo) place about = Note notes.ImproperFormat code ∷ []
part_cut part place about = []

abbrev pub inner_or_none : Bool → Bool → ℕ → ℕ → List Answer
inner_or_none inner hash_line place about = list_if inner (inner_cut hash_line place about)

abbrev pub all_cut : Part → List Opened → ℕ → ℕ → List Answer
all_cut part [] place about = part_cut part place about
all_cut part (c ∷ comments) place about =
    inner_or_none c.inner (in_hash_line part) place about ++
    (comment_cut (in_hash_line part) c place about ++ all_cut part comments place about)

abbrev pub section : Where → ℕ → List ℕ → ScanStep
section w place bytes =
    before (all_cut w.part w.comments place place)
    (one false (record { part = parts.Tex; comments = [] }) place (at_sign ∷ bytes) (section_code (at_sign ∷ bytes)))

-- A line's end in C text ends the short comments around it, up to the innermost long one. Where no comment is left it
-- ends a `#` line, unless a backslash stands before it. Else it is white space. A comment is one token of the text
-- around it, so behind one that ends here the word `include` in it lets nothing follow.
abbrev pub part_line_end : Part → ℕ → ℕ → ScanStep
part_line_end part last place =
    if in_hash_line part && not (last == backslash)
    then one true (record { part = parts.Plain false Other; comments = [] }) place (newline ∷ [])
    (plain kinds.HashLineEnd 1)
    else skipped_byte (record { part = part; comments = [] })

abbrev pub line_end : Part → List Opened → ℕ → ℕ → ScanStep
line_end part [] last place = part_line_end part last place
line_end part (c ∷ comments) last place =
    if c.long then skipped_byte (record { part = part; comments = c ∷ comments })
    else before (inner_cut (in_hash_line part) place place ++ comment_end (in_hash_line part) c place 0 [])
    (line_end (passed part) comments last place)

-- ## C text

-- What begins at a byte of C text, by the order of the manual's list. A string with a prefix begins with a letter.
abbrev pub start_of : Bool → ℕ → List ℕ → Start
start_of bar_ends byte bytes =
    if nat_lt 0 (prefix_size (byte ∷ bytes))
    then start.Quoted (slice_index (byte ∷ bytes) (prefix_size (byte ∷ bytes)))
    else if is_letter byte then start.Identifier
    else if nat_lt 0 (constant (byte ∷ bytes)) then start.Constant
    else if is_mark byte then start.Quoted byte
    else if byte == slash && begins star bytes then start.LongComment
    else if byte == slash && begins slash bytes then start.ShortComment
    else if byte == at_sign then start.Code (code_at bytes)
    else if byte == bar && (bar_ends && not (begins bar bytes)) then start.EndOfInner
    else option_map_or start.Sign (longest all_signs (byte ∷ bytes)) start.OtherByte

-- In a `#` line the word `include` lets an include name follow.
abbrev pub is_include : List ℕ → Bool
is_include bytes = begins_with (codes "include") bytes && run classes.Word bytes == 7

abbrev pub behind_word : Part → List ℕ → Part
behind_word part bytes = if in_hash_line part && is_include bytes then parts.Plain true Include else passed part

-- Directly behind the `#` of a `#` line a word is one of a directive. It is the `define` of a macro with parameters
-- where white space, an identifier and directly `(` follow. White space is blanks, and a backslash with the line end
-- behind it. `last` is the byte before.
abbrev pub is_line_space : ℕ → ℕ → List ℕ → Bool
is_line_space last byte bytes = is_in classes.Blank byte
    || (byte == backslash && begins newline bytes || byte == newline && last == backslash)

abbrev pub behind_space : ℕ → List ℕ → List ℕ
behind_space last [] = []
behind_space last (byte ∷ bytes) = if is_line_space last byte bytes then behind_space byte bytes else byte ∷ bytes

abbrev pub is_define : List ℕ → Bool
is_define bytes = begins_with (codes "define") bytes && run classes.Word bytes == 6

abbrev pub begins_parameters : List ℕ → Bool
begins_parameters bytes = begins_by is_letter bytes && begins left_paren (drop (run classes.Word bytes) bytes)

abbrev pub has_parameters : List ℕ → Bool
has_parameters bytes = begins_parameters (behind_space 0 bytes)

abbrev pub defines_macro : List ℕ → Bool
defines_macro bytes = is_define bytes && has_parameters (drop 6 bytes)

abbrev pub directive_at : Part → List ℕ → Directive
directive_at part bytes = if behind_hash part then (if defines_macro bytes then Macro else Word) else No

abbrev pub word : Directive → List ℕ → Cut
word directive bytes = record (identifier bytes) { directive = directive }

-- A comment begins.
abbrev pub comment_begin : Bool → Where → ℕ → List ℕ → ScanStep
comment_begin long w place bytes = record {
  answers = Begin (token_of (in_hash_line w.part) (comment_kind long) place 2 bytes) ∷ [];
  more = 1;
  next = record {
    part = passed w.part;
    comments = record { start = place; long = long; braces = 0; inner = false }
        ∷ w.comments;
  };
}

-- Inner C text begins in TeX text or in a comment, and ends.
abbrev pub inner_begin : Bool → Where → ℕ → List ℕ → ScanStep
inner_begin hash_line next place bytes = record {
  answers = Begin (token_of hash_line kinds.InnerText place 1 bytes) ∷ [];
  more = 0;
  next = next;
}

abbrev pub behind_inner : Part → List Opened → Where
behind_inner part [] = record { part = parts.Tex; comments = [] }
behind_inner part (c ∷ comments) = record { part = passed part; comments = with_inner c false ∷ comments }

abbrev pub inner_end : Where → ℕ → List ℕ → ScanStep
inner_end w place bytes = record {
  answers = Finish (token_of (in_hash_line w.part) kinds.InnerText place 1 bytes) ∷ [];
  more = 0;
  next = behind_inner w.part w.comments;
}

-- A code of C text. Definitions and C parts begin in a definition's text, and its own code or name begins a C part.
abbrev pub effect_in : Part → List Opened → Code → Effect
effect_in parts.Definition [] code = effect_in_definition code
effect_in parts.Begin [] code = effect_at_begin code
effect_in part comments code = effect_in_c code

abbrev pub may_head : Part → List Opened → Bool
may_head parts.Definition [] = true
may_head parts.Begin [] = true
may_head part comments = false

abbrev pub code_by : Effect → Code → Where → ℕ → List ℕ → ScanStep
code_by effects.Stands code w place bytes =
    one (in_hash_line w.part)
    (if is_name code && (may_head w.part w.comments && is_head place bytes) then moved w parts.Head else moved w
    (passed w.part))
    place bytes (code_token code place bytes)
code_by (effects.Drops note) code w place bytes =
    one (in_hash_line w.part) (moved w (passed w.part)) place bytes (dropped_code note code place bytes)
code_by effects.Defines code w place bytes = one false (moved w (parts.MacroName place)) place bytes
    (plain (kinds.Code code) 2)
code_by effects.Formats code w place bytes = one false (moved w (parts.FormatName place false false)) place bytes
    (plain (kinds.Code code) 2)
code_by effects.BeginsC code w place bytes = one false (moved w (parts.Plain false Other)) place bytes
    (plain (kinds.Code code) 2)

-- The token that begins at a byte of C text.
abbrev pub in_code : Start → Where → ℕ → List ℕ → ScanStep
in_code start.Identifier w place bytes = one (in_hash_line w.part) (moved w (behind_word w.part bytes)) place bytes
    (word (directive_at w.part bytes) bytes)
in_code start.Constant w place bytes = one (in_hash_line w.part) (moved w (passed w.part)) place bytes
    (plain kinds.Constant (constant bytes))
in_code (start.Quoted quote) w place bytes = one (in_hash_line w.part) (moved w (passed w.part)) place bytes
    (string kinds.Quoted (prefix_size bytes + 1) quote place bytes)
in_code start.LongComment w place bytes = comment_begin true w place bytes
in_code start.ShortComment w place bytes = comment_begin false w place bytes
in_code (start.Code code) w place bytes = code_by (effect_in w.part w.comments code) code w place bytes
in_code start.EndOfInner w place bytes = inner_end w place bytes
in_code (start.Sign sign) w place bytes = one (in_hash_line w.part) (moved w (passed w.part)) place bytes
    (plain (kinds.Sign sign) (length (spelling sign)))
in_code start.OtherByte w place bytes = one (in_hash_line w.part) (moved w (passed w.part)) place bytes
    (plain kinds.OtherByte 1)

-- A `#` begins a `#` line as the first byte of its line that isn't blank, in a C part and outside its comments.
abbrev pub takes_hash_line : Part → List Opened → Bool
takes_hash_line parts.Begin [] = true
takes_hash_line (parts.Plain hash_line behind) [] = not hash_line
takes_hash_line part comments = false

-- White space is skipped: blanks, and in a `#` line a backslash at a line's end.
abbrev pub is_space : Part → ℕ → List ℕ → Bool
is_space part byte bytes = is_in classes.Blank byte
    || (in_hash_line part && (byte == backslash && begins newline bytes))

abbrev pub code_text : Spot → ℕ → List ℕ → ScanStep
code_text here byte bytes =
    let w = here.stands in
    if byte == newline then line_end w.part w.comments here.last here.place
    else if is_space w.part byte bytes then skipped_byte w
    else if byte == hash && (takes_hash_line w.part w.comments && here.fresh)
    then one true (moved w (parts.Plain true Hash)) here.place (byte ∷ bytes) (plain kinds.HashLine 1)
    else if byte == less && (behind_include w.part && closes_on_line bytes)
    then one (in_hash_line w.part) (moved w (passed w.part)) here.place (byte ∷ bytes)
    (include_name here.place (byte ∷ bytes))
    else in_code (start_of (ends_at_bar w.part w.comments) byte bytes) w here.place (byte ∷ bytes)

-- ## The text of a comment

-- A piece of it, in which so many braces are open behind the one before.
abbrev pub piece_start : Part → List Opened → Opened → ℕ → Inside
piece_start part comments c place = record {
  body = bodies.Piece c.long (is_deep part (c ∷ comments));
  braces = c.braces;
  place = place;
  before = 0;
  along = false;
}

abbrev pub piece : Part → List Opened → Opened → ℕ → List ℕ → ScanStep
piece part comments c place bytes =
    let i = piece_start part comments c place in
    one (in_hash_line part)
    (record { part = part; comments = record c { braces = (ended i bytes).braces } ∷ comments })
    place bytes (record { kind = kinds.Text; directive = No; size = (extent i bytes).size; notes = noted i bytes })

abbrev pub comment_closed : Part → Opened → List Opened → ℕ → List ℕ → ScanStep
comment_closed part c comments place bytes = record {
  answers = comment_end (in_hash_line part) c place 2 bytes;
  more = 1;
  next = record { part = part; comments = comments };
}

-- The innermost comment that is open, and those around it.
abbrev pub comment_text : Opened → List Opened → Spot → ℕ → List ℕ → ScanStep
comment_text c comments here byte bytes =
    let part = here.stands.part in
    if c.long && (byte == star && begins slash bytes) then comment_closed part c comments here.place (byte ∷ bytes)
    else if not c.long && byte == newline
    then before (comment_end (in_hash_line part) c here.place 0 []) (line_end part comments here.last here.place)
    else if byte == bar && not (is_deep part (c ∷ comments))
    then inner_begin (in_hash_line part) (record { part = part; comments = with_inner c true ∷ comments }) here.place
    (byte ∷ bytes)
    else piece part comments c here.place (byte ∷ bytes)

-- ## Limbo, TeX text, and the heads of definitions and C parts

abbrev pub limbo_by : Effect → Code → Where → ℕ → List ℕ → ScanStep
limbo_by effects.Stands code w place bytes = one false w place bytes (code_token code place bytes)
limbo_by effects.Formats code w place bytes = one false (moved w (parts.FormatName place false true)) place bytes
    (plain (kinds.Code code) 2)
limbo_by (effects.Drops note) code w place bytes =
    one false w place bytes (dropped note place (plain (kinds.Code code) (alone_size bytes)))
limbo_by effect code w place bytes = skipped_byte w

abbrev pub limbo_text : Where → ℕ → ℕ → List ℕ → ScanStep
limbo_text w place byte bytes =
    if byte == at_sign then limbo_by (effect_in_limbo (code_at bytes)) (code_at bytes) w place (byte ∷ bytes)
    else one false w place (byte ∷ bytes) (plain kinds.Text (run classes.LimboText (byte ∷ bytes)))

abbrev pub tex_by : Effect → Code → Where → ℕ → List ℕ → ScanStep
tex_by effects.Stands code w place bytes =
    one false (if is_name code && is_head place bytes then moved w parts.Head else w) place bytes
    (code_token code place bytes)
tex_by (effects.Drops note) code w place bytes = one false w place bytes (dropped_code note code place bytes)
tex_by effects.Defines code w place bytes = one false (moved w (parts.MacroName place)) place bytes
    (plain (kinds.Code code) 2)
tex_by effects.Formats code w place bytes = one false (moved w (parts.FormatName place false false)) place bytes
    (plain (kinds.Code code) 2)
tex_by effects.BeginsC code w place bytes = one false (moved w (parts.Plain false Other)) place bytes
    (plain (kinds.Code code) 2)

abbrev pub tex_text : Where → ℕ → ℕ → List ℕ → ScanStep
tex_text w place byte bytes =
    if byte == at_sign then tex_by (effect_in_tex (code_at bytes)) (code_at bytes) w place (byte ∷ bytes)
    else if byte == bar then inner_begin false (moved w parts.TexInner) place (byte ∷ bytes)
    else one false w place (byte ∷ bytes) (plain kinds.Text (run classes.TexText (byte ∷ bytes)))

-- The head of a C part: its name has been read, and blanks and its sign follow.
abbrev pub head_text : Where → ℕ → ℕ → List ℕ → ScanStep
head_text w place byte bytes =
    if is_in classes.Blank byte then skipped_byte w
    else one false (moved w (parts.Plain false Other)) place (byte ∷ bytes)
    (plain kinds.HeadSign (if begins equals bytes then 2 else 1))

-- White space may stand before what the head of a definition wants. Where something else follows, the head is improper,
-- and all from here on is no part of it.
abbrev pub behind_white : List ℕ → List ℕ
behind_white bytes = drop (run classes.White bytes) bytes

abbrev pub name_follows : List ℕ → Bool
name_follows bytes = begins_by is_letter (behind_white bytes)

-- The name of a macro, directly behind which a `(` opens its parameters.
abbrev pub macro_name : ℕ → Where → ℕ → ℕ → List ℕ → ScanStep
macro_name code w place byte bytes =
    if is_in classes.White byte then skipped_byte w
    else one false
    (if begins left_paren (drop (run classes.Word (byte ∷ bytes)) (byte ∷ bytes)) then moved w (parts.MacroParen code)
    else moved w parts.Definition)
    place (byte ∷ bytes) (identifier (byte ∷ bytes))

-- Its parameters: identifiers, commas and `...` in any order, up to `)`.
abbrev pub is_parameter : List ℕ → Bool
is_parameter bytes =
    begins_by is_letter bytes || (begins comma bytes || (begins right_paren bytes || begins_with (codes "...") bytes))

abbrev pub parameter_follows : List ℕ → Bool
parameter_follows bytes = is_parameter (behind_white bytes)

abbrev pub parameter : Where → ℕ → ℕ → List ℕ → ScanStep
parameter w place byte bytes =
    if is_in classes.White byte then skipped_byte w
    else if is_letter byte then one false w place (byte ∷ bytes) (identifier (byte ∷ bytes))
    else if byte == comma then one false w place (byte ∷ bytes) (plain (kinds.Sign signs.Comma) 1)
    else if byte == right_paren then one false (moved w parts.Definition) place (byte ∷ bytes)
    (plain (kinds.Sign signs.RightParen) 1)
    else one false w place (byte ∷ bytes) (plain (kinds.Sign signs.Ellipsis) 3)

-- The two names of a format definition. Behind them, in limbo, limbo goes on.
abbrev pub behind_format : Bool → Where → Where
behind_format limbo w = moved w (if limbo then parts.Limbo else parts.Definition)

abbrev pub format_name : ℕ → Bool → Bool → Where → ℕ → ℕ → List ℕ → ScanStep
format_name code second limbo w place byte bytes =
    if is_in classes.White byte then skipped_byte w
    else one false (if second then behind_format limbo w else moved w (parts.FormatName code true limbo)) place
    (byte ∷ bytes) (identifier (byte ∷ bytes))

-- An improper head ends before this place, in limbo or in a section.
abbrev pub behind_head : Bool → Spot → ℕ → List ℕ → ScanStep
behind_head true here byte bytes = limbo_text (moved here.stands parts.Limbo) here.place byte bytes
behind_head false here byte bytes = code_text (record here { stands = moved here.stands parts.Definition }) byte bytes

abbrev pub part_text : Part → Spot → ℕ → List ℕ → ScanStep
part_text parts.Limbo here byte bytes = limbo_text here.stands here.place byte bytes
part_text parts.Tex here byte bytes = tex_text here.stands here.place byte bytes
part_text parts.Head here byte bytes = head_text here.stands here.place byte bytes
part_text (parts.MacroName code) here byte bytes =
    if name_follows (byte ∷ bytes) then macro_name code here.stands here.place byte bytes
    else before (Note notes.ImproperMacro code ∷ []) (behind_head false here byte bytes)
part_text (parts.MacroParen code) here byte bytes =
    one false (moved here.stands (parts.Parameters code)) here.place (byte ∷ bytes)
    (plain (kinds.Sign signs.LeftParen) 1)
part_text (parts.Parameters code) here byte bytes =
    if parameter_follows (byte ∷ bytes) then parameter here.stands here.place byte bytes
    else before (Note notes.ImproperMacro code ∷ []) (behind_head false here byte bytes)
part_text (parts.FormatName code second limbo) here byte bytes =
    if name_follows (byte ∷ bytes) then format_name code second limbo here.stands here.place byte bytes
    else before (Note notes.ImproperFormat code ∷ []) (behind_head limbo here byte bytes)
part_text part here byte bytes = code_text here byte bytes

-- ## Any text

-- These comments are open, the innermost first.
abbrev pub in_text : List Opened → Spot → ℕ → List ℕ → ScanStep
in_text [] here byte bytes = part_text here.stands.part here byte bytes
in_text (c ∷ comments) here byte bytes =
    if c.inner then code_text here byte bytes else comment_text c comments here byte bytes

-- What begins at a place. A section code ends all that is open.
abbrev pub found : Spot → ℕ → List ℕ → ScanStep
found here byte bytes =
    if byte == at_sign && begins_section bytes then section here.stands here.place bytes
    else in_text here.stands.comments here byte bytes
