-- Which section names are kept, and what is noted of them.
use Rattle.std.specs.Prelude.{ℕ, Bool, true, false, List, [], ◌∷◌, Option, Some, None, if◌then◌else◌, option_map}
use Rattle.std.specs.Option.{option_and_then}
use Rattle.cw_base.specs.declared.notes.NoteKind.{NoteKind}
use Rattle.cw_base.specs.declared.notes.NoteKind.TheVariants as notes
use Rattle.cw_rules.specs.Answers.{Seen, Answer, Token, Begin, Finish, Note}
use Rattle.cw_secnames.specs.declared.kinds.Entered.{Entered}
use Rattle.cw_secnames.specs.declared.kinds.Entered.TheVariants.{Known, New, Ambiguous, Conflict}
use Rattle.cw_secnames.specs.Kept.{SecName, Entering, enter, enter_prefix}
use Rattle.cw_secnames.specs.declared.kinds.SecId.{SecId}
use Rattle.cw_phase1.specs.Texts.{Naming, Void, Full, Prefix, naming}

abbrev pub entering : Naming → List SecName → Option Entering
entering Void kept = None
entering (Full kind text) kept = Some (enter kind text kept)
entering (Prefix text) kept = Some (enter_prefix text kept)

-- what a token enters: a section name that isn't ignored
abbrev pub enters : Seen → List SecName → Option Entering
enters token kept = entering (naming token.kind token.text) kept

-- The name that the book uses: the earliest one of the answer.
abbrev pub kept_id : Entered → SecId
kept_id (Known k) = k
kept_id (New k) = k
kept_id (Ambiguous k next) = k
kept_id (Conflict k) = k

-- the name that is kept for a token
abbrev pub entered_name : Seen → List SecName → Option SecId
entered_name token kept = option_map (λ e. kept_id e.answer) (enters token kept)

-- the names that are kept behind a token
abbrev pub kept_by : Option Entering → List SecName → List SecName
kept_by None kept = kept
kept_by (Some e) kept = e.kept

abbrev pub kept_behind : Seen → List SecName → List SecName
kept_behind token kept = kept_by (enters token kept) kept

-- the names that are kept behind all answers
abbrev pub kept_after : List SecName → List Answer → List SecName
kept_after kept [] = kept
kept_after kept (Token token ∷ answers) = kept_after (kept_behind token kept) answers
kept_after kept (Begin token ∷ answers) = kept_after kept answers
kept_after kept (Finish token ∷ answers) = kept_after kept answers
kept_after kept (Note kind place ∷ answers) = kept_after kept answers

-- ## Notes

abbrev pub note_on_name : Entered → ℕ → Option Answer
note_on_name (Known k) place = None
note_on_name (New k) place = None
note_on_name (Ambiguous k next) place = Some (Note notes.AmbiguousPrefix place)
note_on_name (Conflict k) place = Some (Note notes.NameConflict place)

-- the note on what a token stands for
abbrev pub note_of : Seen → List SecName → Option Answer
note_of token kept = option_and_then (λ e. note_on_name e.answer token.span.start) (enters token kept)

-- A note on what a name stands for comes behind the note that it didn't end, and before those on its codes.
abbrev pub is_unended : NoteKind → Bool
is_unended notes.NameUnended = true
is_unended kind = false

abbrev pub behind_end : Answer → List Answer → List Answer
behind_end note [] = note ∷ []
behind_end note (Token token ∷ answers) = note ∷ Token token ∷ answers
behind_end note (Begin token ∷ answers) = note ∷ Begin token ∷ answers
behind_end note (Finish token ∷ answers) = note ∷ Finish token ∷ answers
behind_end note (Note kind place ∷ answers) =
    if is_unended kind then Note kind place ∷ note ∷ answers else note ∷ Note kind place ∷ answers

abbrev pub note_behind_end : Option Answer → List Answer → List Answer
note_behind_end None answers = answers
note_behind_end (Some note) answers = behind_end note answers

-- The answers of the scanner with the notes on section names among them.
abbrev pub noted_from : List SecName → List Answer → List Answer
noted_from kept [] = []
noted_from kept (Token token ∷ answers) =
    Token token ∷ note_behind_end (note_of token kept) (noted_from (kept_behind token kept) answers)
noted_from kept (Begin token ∷ answers) = Begin token ∷ noted_from kept answers
noted_from kept (Finish token ∷ answers) = Finish token ∷ noted_from kept answers
noted_from kept (Note kind place ∷ answers) = Note kind place ∷ noted_from kept answers

-- what entering a name answers
abbrev pub answer_of : Option Entering → Option Entered
answer_of None = None
answer_of (Some e) = Some e.answer
