-- The insides of strings, include names, control texts, section names and pieces of comments. Each goes on byte by byte
-- until it stops; some bytes take the next one along, and some have a note.
use Rattle.std.specs.Prelude.{ℕ, ◌+◌, ◌-◌, Bool, false, ◌&&◌, ◌||◌, not, ◌==◌, List, [], ◌∷◌, ◌++◌, Option, Some, None}
use Rattle.std.specs.Prelude.{codes, drop, length, if◌then◌else◌}
use Rattle.cw_base.specs.declared.notes.NoteKind.{NoteKind}
use Rattle.cw_base.specs.declared.notes.NoteKind.TheVariants.{AtInString, CodeInControlText, CodeInName, AtInComment}
use Rattle.cw_base.specs.declared.notes.NoteKind.TheVariants.{ExtraBrace, TooDeep}
use Rattle.cw_rules.specs.declared.bodies.Body.{Body}
use Rattle.cw_rules.specs.declared.bodies.Body.TheVariants.{Quoted, IncludeName, ControlText, SectionName, Piece}
use Rattle.cw_rules.specs.declared.bodies.Inside.{Inside}
use Rattle.cw_rules.specs.declared.bodies.NoteAt.{NoteAt}
use Rattle.cw_rules.specs.declared.bodies.Extent.{Extent}
use Rattle.cw_base.specs.Bytes.{newline, backslash}
use Rattle.cw_rules.specs.Bytes.{star, slash, greater, at_sign, left_brace, right_brace}
use Rattle.cw_base.specs.Text.{bar}
use Rattle.cw_rules.specs.Bytes.{begins, begins_with}
use Rattle.cw_rules.specs.Codes.{begins_section}

-- It stops before the byte, which follows the byte `before` and has the bytes behind it.
--   string: before its quote, and before a line's end behind which no backslash stands
--   include name: before `>`
--   control text: before `@>` and before the line's end
--   section name: before `@>` and before a section code
--   piece: before the comment's end, a section code and a bar that begins inner C text
abbrev pub stops : Body → ℕ → ℕ → List ℕ → Bool
stops (Quoted quote) before byte bytes = byte == quote || (byte == newline && not (before == backslash))
stops IncludeName before byte bytes = byte == greater
stops ControlText before byte bytes = byte == newline || (byte == at_sign && begins greater bytes)
stops SectionName before byte bytes = byte == at_sign && (begins greater bytes || begins_section bytes)
stops (Piece long deep) before byte bytes =
    (if long then byte == star && begins slash bytes else byte == newline) ||
    ((byte == at_sign && begins_section bytes) || (byte == bar && not deep))

-- The byte takes the next one along. A backslash in a comment takes no `@` along, and in a short one no line's end.
abbrev pub takes_next : Body → ℕ → List ℕ → Bool
takes_next (Quoted quote) byte bytes = byte == backslash || (byte == at_sign && begins at_sign bytes)
takes_next IncludeName byte bytes = byte == at_sign && begins at_sign bytes
takes_next ControlText byte bytes = byte == at_sign && begins at_sign bytes
takes_next SectionName byte bytes = byte == at_sign
takes_next (Piece long deep) byte bytes =
    (byte == backslash && not (begins at_sign bytes || (not long && begins newline bytes))) ||
    (byte == at_sign && begins at_sign bytes)

-- a single `@`, which no other follows
abbrev pub is_single : ℕ → List ℕ → Bool
is_single byte bytes = byte == at_sign && not (begins at_sign bytes)

-- The note on the byte, before which so many braces are open.
abbrev pub note_on : Body → ℕ → ℕ → List ℕ → Option NoteKind
note_on (Quoted quote) braces byte bytes = if is_single byte bytes then Some AtInString else None
note_on IncludeName braces byte bytes = if is_single byte bytes then Some AtInString else None
note_on ControlText braces byte bytes = if is_single byte bytes then Some CodeInControlText else None
note_on SectionName braces byte bytes = if is_single byte bytes then Some CodeInName else None
note_on (Piece long deep) braces byte bytes =
    if is_single byte bytes then Some AtInComment
    else if byte == right_brace && braces == 0 then Some ExtraBrace
    else if byte == bar then Some TooDeep else None

-- How many braces are open behind the byte. A `}` without its `{` closes none.
abbrev pub braces_after : ℕ → ℕ → ℕ
braces_after braces byte =
    if byte == left_brace then braces + 1 else if byte == right_brace then braces - 1 else braces

-- One byte on. What is taken along opens and closes no brace, takes nothing along and has no note.
abbrev pub stepped : Inside → ℕ → List ℕ → Inside
stepped i byte bytes = record {
  body = i.body;
  braces = if i.along then i.braces else braces_after i.braces byte;
  place = i.place + 1;
  before = byte;
  along = not i.along && takes_next i.body byte bytes;
}

abbrev pub goes_on : Inside → List ℕ → Bool
goes_on i [] = false
goes_on i (byte ∷ bytes) = i.along || not (stops i.body i.before byte bytes)

-- A byte for which no body has a rule, but a string for its quote, and one for which this body has none.
abbrev pub is_plain : ℕ → Bool
is_plain byte =
    not (byte == newline || byte == star || byte == greater || byte == at_sign || byte == backslash
    || byte == left_brace ||
    byte == bar || byte == right_brace)

abbrev pub is_idle : Body → ℕ → Bool
is_idle (Quoted quote) byte = is_plain byte && not (byte == quote)
is_idle body byte = is_plain byte

-- where it stops
abbrev pub ended : Inside → List ℕ → Inside
ended i [] = i
ended i (byte ∷ bytes) = if goes_on i (byte ∷ bytes) then ended (stepped i byte bytes) bytes else i

abbrev pub note_here : Inside → ℕ → List ℕ → Option NoteKind
note_here i byte bytes = if i.along then None else note_on i.body i.braces byte bytes

abbrev pub with_note : Option NoteKind → ℕ → List NoteAt → List NoteAt
with_note None place notes = notes
with_note (Some kind) place notes = record { kind = kind; place = place } ∷ notes

-- its notes, up to where it stops
abbrev pub noted : Inside → List ℕ → List NoteAt
noted i [] = []
noted i (byte ∷ bytes) =
    if goes_on i (byte ∷ bytes) then with_note (note_here i byte bytes) i.place (noted (stepped i byte bytes) bytes)
    else []

-- the beginning of a body
abbrev pub at_start : Body → ℕ → Inside
at_start body place = record { body = body; braces = 0; place = place; before = 0; along = false }

-- what closes it
abbrev pub closing_bytes : Body → List ℕ
closing_bytes (Quoted quote) = quote ∷ []
closing_bytes IncludeName = codes ">"
closing_bytes ControlText = codes "@>"
closing_bytes SectionName = codes "@>"
closing_bytes (Piece long deep) = []

-- Where a body that isn't closed stopped: at the byte that comes then, else at the last byte of all.
abbrev pub stop_at : ℕ → List ℕ → ℕ
stop_at place [] = place - 1
stop_at place (byte ∷ bytes) = place

-- How far a body goes: its size without and with what closes it, whether that stands there, and where it stopped.
abbrev pub extent_of : Inside → List ℕ → ℕ → Extent
extent_of i bytes size = record {
  inner_size = size;
  size = if begins_with (closing_bytes i.body) (drop size bytes) then size + length (closing_bytes i.body) else size;
  closed = begins_with (closing_bytes i.body) (drop size bytes);
  stop = stop_at (i.place + size) (drop size bytes);
}

abbrev pub extent : Inside → List ℕ → Extent
extent i bytes = extent_of i bytes ((ended i bytes).place - i.place)

-- a note where something doesn't hold
abbrev pub note_unless : Bool → NoteKind → ℕ → Option NoteAt
note_unless holds note place = if holds then None else Some (record { kind = note; place = place })

abbrev pub one_note : Option NoteAt → List NoteAt
one_note None = []
one_note (Some n) = n ∷ []

abbrev pub and_last : List NoteAt → Option NoteAt → List NoteAt
and_last notes None = notes
and_last notes (Some n) = notes ++ n ∷ []

-- its notes, with one more where it isn't closed
abbrev pub all_notes : NoteKind → Inside → List ℕ → List NoteAt
all_notes lost i bytes = and_last (noted i bytes) (note_unless (extent i bytes).closed lost (extent i bytes).stop)
