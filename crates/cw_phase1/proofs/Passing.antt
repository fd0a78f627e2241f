-- The tokens that one answer settles, and those that are still to come.
use Rattle.cw_phase1.proofs.Terms.{◌≡◌, ℕ, Bool, true, false, List, [], ◌∷◌, ◌++◌, Option, Some, None, refl}
use Rattle.cw_phase1.proofs.Terms.{append_assoc, if◌then◌else◌, arith, MergedLine, Expectation, TokKind, Seen, Answer}
use Rattle.cw_phase1.proofs.Terms.{Note, has_sign, Span, NoteKind, SecName, Standing, TokenLists, Void, naming_by}
use Rattle.cw_phase1.proofs.Terms.{scanned_note, enters, kept_after, is_unended, note_behind_end, noted_from, Placement}
use Rattle.cw_phase1.proofs.Terms.{name_step, token_step, token_step_by, behind_begin, placed_by, placed_from}
use Rattle.cw_phase1.proofs.Terms.{told_step, told_all, is_name_kind, Waiting, HeldState, settled, remark_put}
use Rattle.cw_phase1.proofs.Terms.{held_step}
use Rattle.cw_base.specs.declared.notes.Note.{Note as NoteRecord}
use Rattle.std.specs.List.{flat_map}

-- The tokens that are settled from here on, where these answers are still to come.
abbrev pub coming_by : Option Waiting → Standing → List SecName → List Answer → List Placement
coming_by None s kept answers = placed_from s kept answers
coming_by (Some w) s kept answers = placed_by w.token w.name (name_step (has_sign answers) s) ∷ placed_from
    (name_step (has_sign answers) s).next kept answers

abbrev pub coming : HeldState → List Answer → List Placement
coming h answers = coming_by h.pass.waiting h.pass.standing h.kept answers

-- What is told in the end.
abbrev pub lists_at_end : List MergedLine → HeldState → List Answer → TokenLists
lists_at_end lines h answers = told_all lines (coming h answers) h.told

-- Only names look at what stands behind them.
free-step : (kind : TokKind) (o : Option Expectation) (headed : Bool) (s : Standing) → is_name_kind kind ≡ false
    → token_step_by o kind headed s ≡ token_step_by o kind false s
free-step kind o headed s h = grind arith

pub name-free : (kind : TokKind) (headed : Bool) (s : Standing) (span : Span) → is_name_kind kind ≡ true
    → token_step kind headed s span ≡ name_step headed (behind_begin s)
name-free kind headed s span h = grind arith

-- Only names are entered.
pub void-by : (void : Bool) (kind : TokKind) (text : List ℕ) → is_name_kind kind ≡ false
    → naming_by void kind text ≡ Void
void-by void kind text h = grind arith

pub enters-nothing : (t : Seen) (kept : List SecName) → is_name_kind t.kind ≡ false → enters t kept ≡ None
enters-nothing t kept h = grind (arith, void-by)

told-append : (lines : List MergedLine) (ps qs : List Placement) (t : TokenLists) → told_all lines (ps ++ qs) t
    ≡ told_all lines qs (told_all lines ps t)
told-append lines [] qs t = refl
told-append lines (p ∷ ps) qs t = told-append lines ps qs (told_step lines p t)

pub settle-told : (lines : List MergedLine) (h : HeldState) (answers : List Answer)
    → lists_at_end lines h answers ≡ lists_at_end lines (settled lines (has_sign answers) (remark_put lines h)) answers
settle-told lines h answers = grind (arith, told-append)

-- What is told in the end stays the same with each answer.
pub told-passes : (lines : List MergedLine) (answer : Answer) (h : HeldState) (answers : List Answer)
    → lists_at_end lines h (answer ∷ answers) ≡ lists_at_end lines (held_step lines answer h) answers
told-passes lines answer h answers = grind (arith, settle-told, name-free, free-step, enters-nothing)

-- ## Names that are kept

abbrev pub names_at_end : HeldState → List Answer → List SecName
names_at_end h answers = kept_after h.kept answers

pub kept-passes : (lines : List MergedLine) (answer : Answer) (h : HeldState) (answers : List Answer)
    → names_at_end h (answer ∷ answers) ≡ names_at_end (held_step lines answer h) answers
kept-passes lines answer h answers = grind (arith, enters-nothing)

-- ## Notes

abbrev pub notes_at_end : List MergedLine → HeldState → List Answer → List NoteRecord
notes_at_end lines h answers =
    h.notes ++ flat_map (scanned_note lines) (note_behind_end h.remark (noted_from h.kept answers))

note-by : (b : Bool) (lines : List MergedLine) (note : Answer) (kind : NoteKind) (place : ℕ) (answers : List Answer)
    → is_unended kind ≡ b → flat_map (scanned_note lines) (if b then Note kind place ∷ note ∷ answers else note ∷ Note
    kind place
    ∷ answers) ≡ (if b then scanned_note lines (Note kind place) ++ scanned_note lines note else scanned_note lines note
    ++ scanned_note lines (Note kind place)) ++ flat_map (scanned_note lines) answers
note-by b lines note kind place answers e = grind (arith, append_assoc)

pub notes-pass : (lines : List MergedLine) (answer : Answer) (h : HeldState) (answers : List Answer)
    → notes_at_end lines h (answer ∷ answers) ≡ notes_at_end lines (held_step lines answer h) answers
notes-pass lines answer h answers = grind (arith, append_assoc, enters-nothing, note-by)
