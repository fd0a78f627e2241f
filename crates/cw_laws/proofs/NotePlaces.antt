-- Each note is about a byte of what was scanned: of the token that begins, or of what is open.
use Rattle.std.proofs.Common.{◌≡◌, ℕ, zero, suc, ◌+◌, ◌-◌, ◌<◌, ◌≤◌, Bool, true, false, ◌&&◌, not, ◌==◌, List, [], ◌∷◌}
use Rattle.std.proofs.Common.{◌++◌, length, drop, take, refl, sym, ap, ◌∙◌, arith, length-drop}
use Rattle.std.proofs.{lemmas.List.length-take, lemmas.Bool.Decides.nat_tests}
use Rattle.cw_base.specs.{declared.notes.NoteKind.NoteKind, Bytes.newline, Bytes.backslash}
use Rattle.cw_rules.specs.declared.{codes.Code.Code, codes.Effect.Effect, parts.Part.Part, tokens.Mode.Mode}
use Rattle.cw_rules.specs.{declared.parts.Opened.Opened, Bodies.note_unless, Bodies.one_note, Bodies.noted}
use Rattle.cw_rules.specs.{Bytes.at_sign, Prefixes.prefix_size, model.Apart.in_text_apart, model.Apart.found_apart}
use Rattle.cw_rules.specs.Answers.{Answer, Note, Where, Cut, ScanStep, before, plain}
use Rattle.cw_rules.specs.Codes.{code_at, begins_section, effect_in_limbo, effect_in_tex}
use Rattle.cw_rules.proofs.{StringPrefixes.prefix-below, Choices.if-both}
use Rattle.cw_rules.specs.Tokens.{in_hash_line, moved, passed, one, skipped_byte, missing_brace, comment_end, inner_cut}
use Rattle.cw_rules.specs.Tokens.{comment_cut, part_cut, inner_or_none, all_cut, section, section_code, line_end}
use Rattle.cw_rules.specs.Tokens.{is_include, behind_inner, effect_in, string, code_token, dropped_code, piece_start}
use Rattle.cw_lex.specs.Lexing.{still_fresh, answers, fresh_at, last_at, beginning, tokens_of}
use Rattle.cw_rules.proofs.Rules.{BeginsPart, CPart, IsPassed, IncludeName, Prefixed, Quoted, Standing, Dropping}
use Rattle.cw_rules.proofs.Rules.{CodeRule, LineEnd, Space, HashLine, Word, Passed, Heading, Beginning, Comment}
use Rattle.cw_rules.proofs.Rules.{InnerEnd, CommentRule, Closed, EndedLine, InnerBegin, Piece, LimboRule, LimboCode}
use Rattle.cw_rules.proofs.Rules.{LimboFormat, LimboDropped, LimboText, PartRule, OfCode, OfLimbo, TexCode, TexHeading}
use Rattle.cw_rules.proofs.Rules.{TexDropped, TexBeginning, TexInner, White, HeadWord, BeforeParameters, OfParameters}
use Rattle.cw_rules.proofs.Rules.{FirstOfFormat, Opening, ParameterSign, Closes, Improper, ImproperMacro}
use Rattle.cw_rules.proofs.Rules.{ImproperInLimbo, within, code-rule, comment-rule, part-rule}
use Rattle.cw_laws.specs.NotePlaces.{NotesLie, NotesLieInTheirText}
use Rattle.cw_laws.proofs.CutNotes.{NotedIn, answers-lie, one-in, noted-in, string-in, include-in, code-token-in}
use Rattle.cw_laws.proofs.CutNotes.{dropped-in, section-in}
use Rattle.cw_base.specs.declared.notes.NoteKind.TheVariants as notes
use Rattle.cw_rules.specs.declared.codes.Code.TheVariants as at
use Rattle.cw_rules.specs.declared.codes.Effect.TheVariants as effects
use Rattle.cw_rules.specs.declared.parts.Behind.TheVariants as behinds
use Rattle.cw_rules.specs.declared.parts.Part.TheVariants as parts
use Rattle.cw_rules.specs.declared.tokens.Mode.TheVariants as modes
use Rattle.cw_rules.specs.declared.tokens.TokKind.TheVariants as kinds

append-lie : (low high : ℕ) (xs ys : List Answer) → NotesLie low high xs → NotesLie low high ys
    → NotesLie low high (xs ++ ys)
append-lie low high [] ys h g = g
append-lie low high (Note kind place ∷ xs) ys h g = (h.0, h.1, append-lie low high xs ys h.2 g)
append-lie low high (_ ∷ xs) ys h g = append-lie low high xs ys h g

wider-lie : (low high last : ℕ) (xs : List Answer) → high ≤ last → NotesLie low high xs → NotesLie low last xs
wider-lie low high last [] w h = tt
wider-lie low high last (Note kind place ∷ xs) w h = (h.0, omega (arith, h.1, w), wider-lie low high last xs w h.2)
wider-lie low high last (_ ∷ xs) w h = wider-lie low high last xs w h

-- ## What is open

-- What is open in a part began between two places.
abbrev PartOpen : ℕ → ℕ → Part → Type 0
PartOpen low place parts.TexInner = low < place
PartOpen low place (parts.MacroName code) = (low ≤ code) × (code < place)
PartOpen low place (parts.MacroParen code) = (low ≤ code) × (code < place)
PartOpen low place (parts.Parameters code) = (low ≤ code) × (code < place)
PartOpen low place (parts.FormatName code second limbo) = (low ≤ code) × (code < place)
PartOpen low place part = Unit {0}

abbrev CommentsOpen : ℕ → ℕ → List Opened → Type 0
CommentsOpen low place [] = Unit {0}
CommentsOpen low place (c ∷ comments) = (low ≤ c.start) × (c.start < place) × CommentsOpen low place comments

abbrev Open : ℕ → ℕ → Where → Type 0
Open low place w = PartOpen low place w.part × CommentsOpen low place w.comments

part-later : (low place : ℕ) (part : Part) → PartOpen low place part → PartOpen low (place + 1) part
part-later low place parts.TexInner h = omega (arith, h)
part-later low place (parts.MacroName code) h = (h.0, omega (arith, h.1))
part-later low place (parts.MacroParen code) h = (h.0, omega (arith, h.1))
part-later low place (parts.Parameters code) h = (h.0, omega (arith, h.1))
part-later low place (parts.FormatName code second limbo) h = (h.0, omega (arith, h.1))
part-later low place _ h = tt

comments-later : (low place : ℕ) (comments : List Opened) → CommentsOpen low place comments
    → CommentsOpen low (place + 1) comments
comments-later low place [] h = tt
comments-later low place (c ∷ comments) h = (h.0, omega (arith, h.1), comments-later low place comments h.2)

later : (low place : ℕ) (w : Where) → Open low place w → Open low (place + 1) w
later low place w h = (part-later low place w.part h.0, comments-later low place w.comments h.1)

passed-open : (low place : ℕ) (part : Part) → PartOpen low place part → PartOpen low place (passed part)
passed-open low place (parts.MacroName code) h = h
passed-open low place (parts.MacroParen code) h = h
passed-open low place (parts.Parameters code) h = h
passed-open low place (parts.FormatName code second limbo) h = h
passed-open low place parts.TexInner h = h
passed-open low place _ h = tt

-- ## Rules

-- The notes of what begins at a place lie in the text, and so does what is open behind it.
record Lies (low place left : ℕ) (f : ScanStep) : Type 0 where
  notes : NotesLie low (place + left) f.answers
  next : Open low (place + 1) f.next

one-lies : (low place left : ℕ) (hash_line : Bool) (next : Where) (bytes : List ℕ) (cut : Cut) → NotedIn low
    (place + left) cut.notes → Open low (place + 1) next → Lies low place left (one hash_line next place bytes cut)
one-lies low place left hash_line next bytes cut n o =
    record { notes = answers-lie low (place + left) cut.notes n; next = o }

before-lies : (low place left : ℕ) (xs : List Answer) (f : ScanStep) → NotesLie low (place + left) xs
    → Lies low place left f → Lies low place left (before xs f)
before-lies low place left xs f h g =
    record { notes = append-lie low (place + left) xs f.answers h g.notes; next = g.next }

skipped-lies : (low place left : ℕ) (w : Where) → Open low (place + 1) w → Lies low place left (skipped_byte w)
skipped-lies low place left w o = record { notes = tt; next = o }

-- ## Ends

missing-lie : (low high : ℕ) (c : Opened) (about : ℕ) → low ≤ about → about < high
    → NotesLie low high (missing_brace c about)
missing-lie low high c about l h = answers-lie low high (one_note (note_unless
    (c.braces == 0) notes.MissingBrace about)) (one-in (c.braces == 0) notes.MissingBrace low high about l h)

inner-lie : (low high : ℕ) (inner hash_line : Bool) (place about : ℕ) → low ≤ about → about < high
    → NotesLie low high (inner_or_none inner hash_line place about)
inner-lie low high true hash_line place about l h = (l, h, tt)
inner-lie low high false hash_line place about l h = tt

part-cut-lie : (low high reach : ℕ) (part : Part) (place about : ℕ) → PartOpen low reach part → reach ≤ high
    → (low < reach → (low ≤ about) × (about < high)) → NotesLie low high (part_cut part place about)
part-cut-lie low high reach parts.TexInner place about h g a = ((a h).0, (a h).1, tt)
part-cut-lie low high reach (parts.MacroName code) place about h g a = (h.0, omega (arith, h.1, g), tt)
part-cut-lie low high reach (parts.MacroParen code) place about h g a = (h.0, omega (arith, h.1, g), tt)
part-cut-lie low high reach (parts.Parameters code) place about h g a = (h.0, omega (arith, h.1, g), tt)
part-cut-lie low high reach (parts.FormatName code second limbo) place about h g a = (h.0, omega (arith, h.1, g), tt)
part-cut-lie low high reach _ place about h g a = tt

all-cut-lie : (low high reach : ℕ) (part : Part) (comments : List Opened) (place about : ℕ) → PartOpen low reach part
    → CommentsOpen low reach comments → reach ≤ high → (low < reach → (low ≤ about) × (about < high))
    → NotesLie low high (all_cut part comments place about)
all-cut-lie low high reach part [] place about p o g a = part-cut-lie low high reach part place about p g a
all-cut-lie low high reach part (c ∷ comments) place about p o g a =
    let some = a (omega (arith, o.0, o.1)) in
    append-lie low high (inner_or_none c.inner (in_hash_line part) place about)
    (comment_cut (in_hash_line part) c place about ++ all_cut part comments place about) (inner-lie low high c.inner
    (in_hash_line part) place about some.0 some.1) (append-lie low high (comment_cut (in_hash_line part) c place about)
    (all_cut part comments place about) (o.0, omega (arith, o.1, g), missing-lie low high c about some.0 some.1)
    (all-cut-lie low high reach part comments place about p o.2 g a))

section-lies : (low place left : ℕ) (w : Where) (bytes : List ℕ) → low ≤ place → 0 < left → Open low (place + 1) w
    → Lies low place left (section w place bytes)
section-lies low place left w bytes l some o = before-lies low place left (all_cut w.part w.comments place place) _
    (all-cut-lie low (place + left) (place + 1) w.part w.comments place place o.0 o.1 (omega (arith, some))
    (λ h. (l, omega (arith, some)))) (one-lies low place left false (record { part = parts.Tex; comments = [] })
    (at_sign ∷ bytes) (section_code (at_sign ∷ bytes)) (section-in low (place + left) (at_sign ∷ bytes)) (tt, tt))

line-end-lies : (low place left : ℕ) (part : Part) (comments : List Opened) (last : ℕ) → low ≤ place → 0 < left
    → PartOpen low (place + 1) part → CommentsOpen low (place + 1) comments
    → Lies low place left (line_end part comments last place)
line-end-lies low place left part [] last l some p o = if-both (Lies low place left)
    (in_hash_line part && not (last == backslash)) _ _ (λ h. one-lies low place left true
    (record { part = parts.Plain false behinds.Other; comments = [] }) (newline ∷ []) (plain kinds.HashLineEnd 1) tt
    (tt, tt))
    (λ h. skipped-lies low place left (record { part = part; comments = [] }) (p, tt))
line-end-lies low place left part (c ∷ comments) last l some p o =
    let hash_line = in_hash_line part in
    if-both (Lies low place left) c.long _ _ (λ h. skipped-lies low place left
    (record { part = part; comments = c ∷ comments }) (p, o)) (λ h. before-lies low place left
    (inner_cut hash_line place place ++ comment_end hash_line c place 0 []) (line_end (passed part) comments last place)
    (l, omega (arith, some), missing-lie low (place + left) c place l (omega (arith, some)))
    (line-end-lies low place left (passed part) comments last l some (passed-open low (place + 1) part p) o.2))

-- ## C text

moved-open : (low place : ℕ) (w : Where) (part : Part) → PartOpen low place part → Open low place w
    → Open low place (moved w part)
moved-open low place w part p o = (p, o.1)

passed-on : (low place : ℕ) (w : Where) → Open low place w → Open low place (moved w (passed w.part))
passed-on low place w o = (passed-open low place w.part o.0, o.1)

known-in : (part : Part) (comments : List Opened) (code : Code) → effect_in part comments code ≡ effects.Stands
    → code ≡ at.Unknown → ⊥
known-in part comments code e u = grind (arith, nat_tests)

module _ (low place byte : ℕ) (bytes : List ℕ) (l : low ≤ place) where
  abbrev LiesHere : ScanStep → Type 0
  LiesHere f = Lies low place (length (byte ∷ bytes)) f

  abbrev InHere : Cut → Type 0
  InHere cut = NotedIn low (place + length (byte ∷ bytes)) cut.notes

  one-here : (hash_line : Bool) (next : Where) (cut : Cut) → InHere cut → Open low (place + 1) next
      → LiesHere (one hash_line next place (byte ∷ bytes) cut)
  one-here hash_line next cut n o = one-lies low place (length (byte ∷ bytes)) hash_line next (byte ∷ bytes) cut n o

  begun-open : (effect : Effect) (part : Part) → BeginsPart place effect part → PartOpen low (place + 1) part
  begun-open _ _ CPart = tt
  begun-open _ _ _ = (l, omega arith)

token-in : (low place byte : ℕ) (bytes : List ℕ) → low ≤ place → (code_at bytes ≡ at.Unknown → ⊥)
    → NotedIn low (place + length (byte ∷ bytes)) (code_token (code_at bytes) place (byte ∷ bytes)).notes
token-in low place byte [] l known = absurd (known refl)
token-in low place byte (next ∷ bytes) l known = code-token-in low (code_at (next ∷ bytes)) place byte next bytes l

drop-in : (low place byte : ℕ) (bytes : List ℕ) (note : NoteKind) → low ≤ place
    → NotedIn low (place + length (byte ∷ bytes)) (dropped_code note (code_at bytes) place (byte ∷ bytes)).notes
drop-in low place byte [] note l = (l, omega arith, tt)
drop-in low place byte (next ∷ bytes) note l = dropped-in low note (code_at (next ∷ bytes)) place byte next bytes l

quoted-in : (low place byte quote : ℕ) (bytes : List ℕ) → low ≤ place → NotedIn low (place + length (byte ∷ bytes))
    (string kinds.Quoted (prefix_size (byte ∷ bytes) + 1) quote place (byte ∷ bytes)).notes
quoted-in low place byte quote bytes l = string-in low kinds.Quoted (prefix_size (byte ∷ bytes) + 1) quote place
    (byte ∷ bytes) l (omega arith) (omega (arith, prefix-below byte bytes))

passed-in : (low place byte : ℕ) (bytes : List ℕ) → low ≤ place → (w : Where) (fresh : Bool) (cut : Cut)
    → IsPassed w fresh place byte bytes cut → NotedIn low (place + length (byte ∷ bytes)) cut.notes
passed-in low place byte bytes l w fresh _ (IncludeName h behind closes) = include-in low place byte bytes l
passed-in low place byte bytes l w fresh _ (Prefixed h) = quoted-in low place byte _ bytes l
passed-in low place byte bytes l w fresh _ (Quoted letter h) = quoted-in low place byte byte bytes l
passed-in low place byte bytes l w fresh _ (Standing at e) =
    token-in low place byte bytes l (known-in w.part w.comments (code_at bytes) e)
passed-in low place byte bytes l w fresh _ (Dropping note at e) = drop-in low place byte bytes note l
passed-in low place byte bytes l w fresh _ _ = tt

code-lies : (low place byte : ℕ) (bytes : List ℕ) → low ≤ place → (w : Where) (fresh : Bool) (last : ℕ) → Open low
    (place + 1) w → (f : ScanStep) → CodeRule w fresh last place byte bytes f → Lies low place (length (byte ∷ bytes)) f
code-lies low place byte bytes l w fresh last o _ (LineEnd h) =
    line-end-lies low place (length (byte ∷ bytes)) w.part w.comments last l (omega arith) o.0 o.1
code-lies low place byte bytes l w fresh last o _ (Space line h) = record { notes = tt; next = o }
code-lies low place byte bytes l w fresh last o _ (HashLine h takes first) = record { notes = tt; next = (tt, o.1) }
code-lies low place byte bytes l w fresh last o _ (Word bare h) = record {
  notes = tt;
  next = (
    if-both (PartOpen low (place + 1)) (in_hash_line w.part && is_include (byte ∷ bytes)) (parts.Plain true
        behinds.Include)
        (passed w.part) (λ h. tt) (λ h. passed-open low (place + 1) w.part o.0),
    o.1,
  );
}
code-lies low place byte bytes l w fresh last o _ (Passed cut p) = one-here low place byte bytes l (in_hash_line w.part)
    (moved w (passed w.part)) cut (passed-in low place byte bytes l w fresh cut p) (passed-on low (place + 1) w o)
code-lies low place byte bytes l w fresh last o _ (Heading at e name may headed) = one-here low place byte bytes l
    (in_hash_line w.part) (moved w parts.Head) (code_token (code_at bytes) place (byte ∷ bytes))
    (token-in low place byte bytes l (known-in w.part w.comments (code_at bytes) e)) (tt, o.1)
code-lies low place byte bytes l w fresh last o _ (Beginning effect part at e begun) =
    record { notes = tt; next = (begun-open low place byte bytes l effect part begun, o.1) }
code-lies low place byte bytes l w fresh last o _ (Comment long h) =
    record { notes = tt; next = (passed-open low (place + 1) w.part o.0, (l, omega arith, o.1)) }
code-lies low place byte bytes l w fresh last o _ (InnerEnd h ends) =
    record { notes = tt; next = behind w.part w.comments o.0 o.1 }
  where
    behind : (part : Part) (comments : List Opened) → PartOpen low (place + 1) part
        → CommentsOpen low (place + 1) comments → Open low (place + 1) (behind_inner part comments)
    behind part comments p o = grind (arith, nat_tests, passed-open)

-- ## Comments, limbo, TeX text and heads

comment-lies : (low place byte : ℕ) (bytes : List ℕ) → low ≤ place → (part : Part) (c : Opened)
    (comments : List Opened) (last : ℕ) → PartOpen low (place + 1) part → CommentsOpen low (place + 1) (c ∷ comments)
    → (f : ScanStep) → CommentRule part c comments last place byte bytes f → Lies low place (length (byte ∷ bytes)) f
comment-lies low place byte bytes l part c comments last p o _ (Closed long h) =
    record { notes = missing-lie low (place + length (byte ∷ bytes)) c place l (omega arith); next = (p, o.2) }
comment-lies low place byte bytes l part c comments last p o _ (EndedLine short h) =
    let left = length (byte ∷ bytes) in
    before-lies low place left (comment_end (in_hash_line part) c place 0 []) (line_end part comments last place)
    (missing-lie low (place + left) c place l (omega arith))
    (line-end-lies low place left part comments last l (omega arith) p o.2)
comment-lies low place byte bytes l part c comments last p o _ (InnerBegin h deep) =
    record { notes = tt; next = (p, o) }
comment-lies low place byte bytes l part c comments last p o _ (Piece closes line opens) =
    let i = piece_start part comments c place in
    record {
      notes = answers-lie low (place + length (byte ∷ bytes)) (noted i (byte ∷ bytes))
          (noted-in low i (byte ∷ bytes) l);
      next = (p, o);
    }

limbo-lies : (low place byte : ℕ) (bytes : List ℕ) → low ≤ place → (f : ScanStep) → LimboRule place byte bytes f
    → Lies low place (length (byte ∷ bytes)) f
limbo-lies low place byte bytes l _ (LimboCode at e) = one-here low place byte bytes l false (within parts.Limbo)
    (code_token (code_at bytes) place (byte ∷ bytes)) (token-in low place byte bytes l
    (λ u. let wrong : effects.Drops notes.CodeInLimbo ≡ effects.Stands = ap effect_in_limbo (sym u) ∙ e in cc)) (tt, tt)
limbo-lies low place byte bytes l _ (LimboFormat at e) = record { notes = tt; next = ((l, omega arith), tt) }
limbo-lies low place byte bytes l _ (LimboDropped note at e) = record { notes = (l, omega arith, tt); next = (tt, tt) }
limbo-lies low place byte bytes l _ (LimboText h) = record { notes = tt; next = (tt, tt) }

part-lies : (low place byte : ℕ) (bytes : List ℕ) → low ≤ place → (fresh : Bool) (last : ℕ) (part : Part)
    → PartOpen low (place + 1) part → (f : ScanStep) → PartRule fresh last place byte bytes part f
    → Lies low place (length (byte ∷ bytes)) f
part-lies low place byte bytes l fresh last _ p _ (OfCode part f is r) =
    code-lies low place byte bytes l (within part) fresh last (p, tt) f r
part-lies low place byte bytes l fresh last _ p _ (OfLimbo f r) = limbo-lies low place byte bytes l f r
part-lies low place byte bytes l fresh last _ p _ (TexCode at e) = one-here low place byte bytes l false
    (within parts.Tex) (code_token (code_at bytes) place (byte ∷ bytes)) (token-in low place byte bytes l
    (λ u. let wrong : effects.Drops notes.UnknownCode ≡ effects.Stands = ap effect_in_tex (sym u) ∙ e in cc)) (tt, tt)
part-lies low place byte bytes l fresh last _ p _ (TexHeading at e name headed) = one-here low place byte bytes l false
    (within parts.Head) (code_token (code_at bytes) place (byte ∷ bytes)) (token-in low place byte bytes l
    (λ u. let wrong : effects.Drops notes.UnknownCode ≡ effects.Stands = ap effect_in_tex (sym u) ∙ e in cc)) (tt, tt)
part-lies low place byte bytes l fresh last _ p _ (TexDropped note at e) = one-here low place byte bytes l false (within
    parts.Tex) (dropped_code note (code_at bytes) place (byte ∷ bytes)) (drop-in low place byte bytes note l) (tt, tt)
part-lies low place byte bytes l fresh last _ p _ (TexBeginning effect part at e begun) =
    record { notes = tt; next = (begun-open low place byte bytes l effect part begun, tt) }
part-lies low place byte bytes l fresh last _ p _ (TexInner h) = record { notes = tt; next = (omega (arith, l), tt) }
part-lies low place byte bytes l fresh last _ p _ (White part h wanted) = record { notes = tt; next = (p, tt) }
part-lies low place byte bytes l fresh last _ p _ (HeadWord _ _ h (BeforeParameters code k)) =
    record { notes = tt; next = (p, tt) }
part-lies low place byte bytes l fresh last _ p _ (HeadWord _ _ h (OfParameters code)) =
    record { notes = tt; next = (p, tt) }
part-lies low place byte bytes l fresh last _ p _ (HeadWord _ _ h (FirstOfFormat code limbo)) =
    record { notes = tt; next = (p, tt) }
part-lies low place byte bytes l fresh last _ p _ (HeadWord _ _ h _) = record { notes = tt; next = (tt, tt) }
part-lies low place byte bytes l fresh last _ p _ (Opening code) = record { notes = tt; next = (p, tt) }
part-lies low place byte bytes l fresh last _ p _ (ParameterSign _ _ _ (Closes h)) =
    record { notes = tt; next = (tt, tt) }
part-lies low place byte bytes l fresh last _ p _ (ParameterSign _ _ _ _) = record { notes = tt; next = (p, tt) }
part-lies low place byte bytes l fresh last _ p _ (Improper _ kind _ f (ImproperMacro code) r) =
    before-lies low place (length (byte ∷ bytes)) (Note kind code ∷ []) f (p.0, omega (arith, p.1), tt)
    (code-lies low place byte bytes l (within parts.Definition) fresh last (tt, tt) f r)
part-lies low place byte bytes l fresh last _ p _ (Improper _ kind code f _ r) =
    before-lies low place (length (byte ∷ bytes)) (Note kind code ∷ []) f (p.0, omega (arith, p.1), tt)
    (code-lies low place byte bytes l (within parts.Definition) fresh last (tt, tt) f r)
part-lies low place byte bytes l fresh last _ p _ (ImproperInLimbo code second f r) =
    before-lies low place (length (byte ∷ bytes)) (Note notes.ImproperFormat code ∷ []) f (p.0, omega (arith, p.1), tt)
    (limbo-lies low place byte bytes l f r)
part-lies low place byte bytes l fresh last _ p _ _ = record { notes = tt; next = (tt, tt) }

in-text-lies : (low place : ℕ) (part : Part) (comments : List Opened) (fresh : Bool) (last byte : ℕ) (bytes : List ℕ)
    → low ≤ place → PartOpen low (place + 1) part → CommentsOpen low (place + 1) comments
    → Lies low place (length (byte ∷ bytes)) (in_text_apart part comments fresh last place byte bytes)
in-text-lies low place part [] fresh last byte bytes l p o =
    part-lies low place byte bytes l fresh last part p _ (part-rule fresh last place byte bytes part)
in-text-lies low place part (c ∷ comments) fresh last byte bytes l p o =
    let w : Where = record { part = part; comments = c ∷ comments } in
    if-both (Lies low place (length (byte ∷ bytes))) c.inner _ _
    (λ h. code-lies low place byte bytes l w fresh last (p, o) _ (code-rule w fresh last place byte bytes)) (λ h.
    comment-lies low place byte bytes l part c comments last p o _ (comment-rule part c comments last place byte bytes))

found-lies : (low place : ℕ) (w : Where) (fresh : Bool) (last byte : ℕ) (bytes : List ℕ) → low ≤ place
    → Open low (place + 1) w → Lies low place (length (byte ∷ bytes)) (found_apart w fresh last place byte bytes)
found-lies low place w fresh last byte bytes l o = if-both (Lies low place (length (byte ∷ bytes)))
    (byte == at_sign && begins_section bytes) _ _ (λ h. section-lies low place (length (byte ∷ bytes)) w bytes l
    (omega arith) o) (λ h. in-text-lies low place w.part w.comments fresh last byte bytes l o.0 o.1)

all-lie : (low : ℕ) (bytes : List ℕ) (w : Where) (fresh : Bool) (last place taken : ℕ) → low ≤ place
    → Open low place w → NotesLie low (place + length bytes) (answers bytes w fresh last place taken)
all-lie low [] w fresh last place taken l o = all-cut-lie low (place + 0) place w.part w.comments place
    (place - 1) o.0 o.1 (omega arith) (λ h. (omega (arith, h), omega (arith, h)))
all-lie low (byte ∷ bytes) w fresh last place zero l o =
    let f = found_apart w fresh last place byte bytes in
    let lies = found-lies low place w fresh last byte bytes l (later low place w o) in
    append-lie low (place + length (byte ∷ bytes)) f.answers (answers bytes f.next (still_fresh fresh byte) byte
    (place + 1) f.more) lies.notes (wider-lie low ((place + 1) + length bytes) (place + length (byte ∷ bytes))
    (answers bytes f.next (still_fresh fresh byte) byte (place + 1) f.more) (omega arith)
    (all-lie low bytes f.next (still_fresh fresh byte) byte (place + 1) f.more (omega (arith, l)) lies.next))
all-lie low (byte ∷ bytes) w fresh last place (suc taken) l o = wider-lie low ((place + 1) + length bytes)
    (place + length (byte ∷ bytes)) (answers bytes w (still_fresh fresh byte) byte (place + 1) taken) (omega arith)
    (all-lie low bytes w (still_fresh fresh byte) byte (place + 1) taken (omega (arith, l)) (later low place w o))

begins-open : (low place : ℕ) (mode : Mode) → Open low place (beginning mode)
begins-open low place modes.Limbo = (tt, tt)
begins-open low place _ = (tt, tt)

pub notes-lie : NotesLieInTheirText
notes-lie text start end mode order within =
    let cut = take end text in
    wider-lie start (start + length (drop start cut)) end (tokens_of text start end mode)
    (omega (arith, order, length-drop start cut, length-take end text)) (all-lie start (drop start cut) (beginning mode)
    (fresh_at cut start) (last_at cut start) start 0 (omega arith) (begins-open start start mode))
