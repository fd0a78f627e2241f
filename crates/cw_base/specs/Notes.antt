-- How grave each note is, and its fixed words.
use Rattle.std.specs.Prelude.{ℕ, List, codes}
use Rattle.cw_base.specs.declared.notes.Grade.{Grade}
use Rattle.cw_base.specs.declared.notes.Grade.TheVariants.{Harmless, Error}
use Rattle.cw_base.specs.declared.notes.NoteKind.{NoteKind}
use Rattle.cw_base.specs.declared.notes.NoteKind.TheVariants.{IncludeMissing, IncludeUnnamed, IncludeTooDeep}
use Rattle.cw_base.specs.declared.notes.NoteKind.TheVariants.{NoMatchingX, NoMatchingY, NoMatchingZ, NoOldLine}
use Rattle.cw_base.specs.declared.notes.NoteKind.TheVariants.{EndedBeforeY, EndedBeforeZ, LinesDiffer, WebEnded}
use Rattle.cw_base.specs.declared.notes.NoteKind.TheVariants.{ChangeUnmatched, UnknownCode, CodeInLimbo, CodeInTexText}
use Rattle.cw_base.specs.declared.notes.NoteKind.TheVariants.{CodeInCText, AtInString, StringUnended}
use Rattle.cw_base.specs.declared.notes.NoteKind.TheVariants.{ControlTextUnended, CodeInControlText, NameUnended}
use Rattle.cw_base.specs.declared.notes.NoteKind.TheVariants.{CodeInName, NameEmpty, AmbiguousPrefix, NameConflict}
use Rattle.cw_base.specs.declared.notes.NoteKind.TheVariants.{CommentUnended, AtInComment, ExtraBrace, MissingBrace}
use Rattle.cw_base.specs.declared.notes.NoteKind.TheVariants.{BarMissing, TooDeep, ImproperMacro, ImproperFormat}
use Rattle.cw_base.specs.declared.notes.NoteKind.TheVariants.{EqualsMissing, NameIncomplete, NeverDefined, NeverUsed}
use Rattle.cw_base.specs.declared.notes.NoteKind.TheVariants.{LineBroken}

abbrev pub grade_of : NoteKind → Grade
grade_of EqualsMissing = Harmless
grade_of NeverDefined = Harmless
grade_of NeverUsed = Harmless
grade_of LineBroken = Harmless
grade_of _ = Error

abbrev pub message_of : NoteKind → List ℕ
message_of IncludeMissing = codes "Cannot open include file"
message_of IncludeUnnamed = codes "Include file name not given"
message_of IncludeTooDeep = codes "Too many nested includes"
message_of NoMatchingX = codes "Where is the matching @x?"
message_of NoMatchingY = codes "Where is the matching @y?"
message_of NoMatchingZ = codes "Where is the matching @z?"
message_of NoOldLine = codes "No old line in this change"
message_of EndedBeforeY = codes "Change file ended before @y"
message_of EndedBeforeZ = codes "Change file ended before @z"
message_of LinesDiffer = codes "of the preceding lines did not match"
message_of WebEnded = codes "Web ended during a change"
message_of ChangeUnmatched = codes "Change did not match"
message_of UnknownCode = codes "Unknown control code"
message_of CodeInLimbo = codes "Double @ should be used in limbo"
message_of CodeInTexText = codes "You can't do that in TeX text"
message_of CodeInCText = codes "You can't do that in C text"
message_of AtInString = codes "Double @ should be used in strings"
message_of StringUnended = codes "String didn't end"
message_of ControlTextUnended = codes "Control text didn't end"
message_of CodeInControlText = codes "Control codes are forbidden in control text"
message_of NameUnended = codes "Section name didn't end"
message_of CodeInName = codes "Control codes are forbidden in section name"
message_of NameEmpty = codes "Section name is empty"
message_of AmbiguousPrefix = codes "Ambiguous prefix"
message_of NameConflict = codes "Name conflicts with another"
message_of CommentUnended = codes "Comment didn't end"
message_of AtInComment = codes "Illegal use of @ in comment"
message_of ExtraBrace = codes "Extra } in comment"
message_of MissingBrace = codes "Missing } in comment"
message_of BarMissing = codes "Missing | after C text"
message_of TooDeep = codes "C text is nested too deeply"
message_of ImproperMacro = codes "Improper macro definition"
message_of ImproperFormat = codes "Improper format definition"
message_of EqualsMissing = codes "Is an = missing behind this section name?"
message_of NameIncomplete = codes "Incomplete name"
message_of NeverDefined = codes "Never defined"
message_of NeverUsed = codes "Never used"
message_of LineBroken = codes "Line had to be broken"
