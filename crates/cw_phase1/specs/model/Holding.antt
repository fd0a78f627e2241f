-- What is held behind the answers that came, and what one answer more does to it.
use Rattle.std.specs.Prelude.{ℕ, ◌++◌, Bool, true, false, List, [], ◌∷◌, Option, Some, None, if◌then◌else◌}
use Rattle.cw_base.specs.declared.notes.Note.{Note as NoteRecord}
use Rattle.cw_base.specs.declared.notes.NoteKind.{NoteKind}
use Rattle.cw_base.specs.Web.{MergedLine}
use Rattle.cw_lex.specs.Limbo.{is_name_kind}
use Rattle.cw_rules.specs.Answers.{Seen, seen, Answer, Token, Begin, Finish, Note, is_head_sign}
use Rattle.cw_rules.specs.declared.codes.Code.TheVariants as at
use Rattle.cw_rules.specs.declared.tokens.TokKind.{TokKind}
use Rattle.cw_rules.specs.declared.tokens.TokKind.TheVariants as kinds
use Rattle.cw_secnames.specs.Kept.{SecName}
use Rattle.cw_secnames.specs.declared.kinds.SecId.{SecId}
use Rattle.cw_phase1.specs.declared.roles.Standing.{Standing}
use Rattle.cw_phase1.specs.declared.pass_state.PassState.{PassState}
use Rattle.cw_phase1.specs.declared.pass_state.Waiting.{Waiting as WaitingToken}
use Rattle.cw_phase1.specs.declared.pass_state.Remark.{Remark}
use Rattle.cw_phase1.specs.declared.token_lists.TokenLists.{TokenLists}
use Rattle.cw_phase1.specs.Roles.{Placement, Step, name_step, token_step, behind_begin, placed_by}
use Rattle.cw_phase1.specs.Entering.{entered_name, kept_behind, note_of, is_unended}
use Rattle.cw_phase1.specs.Notes.{scanned_note}
use Rattle.cw_phase1.specs.model.Telling.{told_step, told_all}

-- A section name that came last, but for its notes, waits: whether it heads a C part shows behind its notes.
pub record Waiting : Type 0 where
  pub token : Seen
  pub name : Option SecId

pub record Pass : Type 0 where
  pub standing : Standing
  pub waiting : Option Waiting

-- A note on the name that came last waits too: it comes behind the note that the name didn't end.
pub record HeldState : Type 0 where
  pub pass : Pass
  pub kept : List SecName
  pub told : TokenLists
  pub remark : Option Answer
  pub notes : List NoteRecord

-- ## How it lies in memory

abbrev pub waiting_of : Option WaitingToken → Option Waiting
waiting_of None = None
waiting_of (Some w) = Some (record { token = seen w.token; name = w.name })

abbrev pub remark_of : Option Remark → Option Answer
remark_of None = None
remark_of (Some r) = Some (Note r.kind r.place)

abbrev pub held_of : PassState → HeldState
held_of h = record {
  pass = record { standing = h.standing; waiting = waiting_of h.waiting };
  kept = h.kept;
  told = h.told;
  remark = remark_of h.remark;
  notes = h.notes;
}

-- ## A name that waits

abbrev pub settled_placed : Bool → Option Waiting → Standing → List Placement
settled_placed headed None s = []
settled_placed headed (Some w) s = placed_by w.token w.name (name_step headed s) ∷ []

abbrev pub settled_standing : Bool → Option Waiting → Standing → Standing
settled_standing headed None s = s
settled_standing headed (Some w) s = (name_step headed s).next

-- The name that waits is settled: the sign of a head stands behind it, or something else.
abbrev pub settled : List MergedLine → Bool → HeldState → HeldState
settled lines headed h = record h {
  pass = record { standing = settled_standing headed h.pass.waiting h.pass.standing; waiting = None };
  told = told_all lines (settled_placed headed h.pass.waiting h.pass.standing) h.told;
}

-- ## Notes

abbrev pub remark_notes : List MergedLine → Option Answer → List NoteRecord
remark_notes lines None = []
remark_notes lines (Some note) = scanned_note lines note

abbrev pub remark_put : List MergedLine → HeldState → HeldState
remark_put lines h = record h { remark = None; notes = h.notes ++ remark_notes lines h.remark }

abbrev pub notes_by : Option Answer → List MergedLine → NoteKind → ℕ → List NoteRecord
notes_by None lines kind place = scanned_note lines (Note kind place)
notes_by (Some note) lines kind place =
    if is_unended kind then scanned_note lines (Note kind place) ++ scanned_note lines note
    else scanned_note lines note ++ scanned_note lines (Note kind place)

abbrev pub noted_held : List MergedLine → NoteKind → ℕ → HeldState → HeldState
noted_held lines kind place h = record h { remark = None; notes = h.notes ++ notes_by h.remark lines kind place }

-- ## Tokens

-- Such a token tells nothing of words and names where no head is open, and heads nothing.
abbrev pub is_silent : TokKind → Bool
is_silent kinds.Identifier = false
is_silent (kinds.Code code) = false
is_silent kinds.HeadSign = false
is_silent kind = true

-- A name is entered, and waits.
abbrev pub name_held : Seen → HeldState → HeldState
name_held t h = record h {
  pass = record {
    standing = behind_begin h.pass.standing;
    waiting = Some (record { token = t; name = entered_name t h.kept });
  };
  kept = kept_behind t h.kept;
  remark = note_of t h.kept;
}

abbrev pub plain_by : Step → List MergedLine → Seen → HeldState → HeldState
plain_by step lines t h = record h {
  pass = record { standing = step.next; waiting = None };
  told = told_step lines (placed_by t None step) h.told;
}

abbrev pub plain_held : List MergedLine → Seen → HeldState → HeldState
plain_held lines t h = plain_by (token_step t.kind false h.pass.standing t.span) lines t h

abbrev pub token_held_by : Bool → List MergedLine → Seen → HeldState → HeldState
token_held_by named lines t h = if named then name_held t h else plain_held lines t h

abbrev pub token_held : List MergedLine → Seen → HeldState → HeldState
token_held lines t h = token_held_by (is_name_kind t.kind) lines t h

abbrev pub begun_held : HeldState → HeldState
begun_held h = record h { pass = record h.pass { standing = behind_begin h.pass.standing } }

-- what all but a token and a note leaves
abbrev pub ended_held : List MergedLine → HeldState → HeldState
ended_held lines h = settled lines false (remark_put lines h)

-- One answer more. All but a note put the note that waits out, and settle the name.
abbrev pub held_step : List MergedLine → Answer → HeldState → HeldState
held_step lines (Token t) h = token_held lines t (settled lines (is_head_sign t.kind) (remark_put lines h))
held_step lines (Begin t) h = begun_held (ended_held lines h)
held_step lines (Finish t) h = ended_held lines h
held_step lines (Note kind place) h = noted_held lines kind place h
