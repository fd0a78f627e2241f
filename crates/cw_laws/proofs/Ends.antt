-- Each text of a code, comment and inner text goes up to its end.
use Rattle.std.proofs.Common.{◌≡◌, ℕ, zero, suc, ◌+◌, ◌-◌, Bool, true, false, ◌&&◌, not, ◌==◌, List, [], ◌∷◌, ◌++◌}
use Rattle.std.proofs.Common.{if◌then◌else◌, drop, refl, sym, ap, subst, ◌∙◌, arith, append_assoc, inl, inr, length}
use Rattle.std.proofs.{lemmas.Bool.eqb-true, lemmas.List.append-nil, lemmas.Bool.Decides.nat_tests}
use Rattle.cw_base.specs.{declared.notes.NoteKind.NoteKind, Text.bar, Bytes.newline}
use Rattle.cw_base.proofs.TestLaws.{both-left}
use Rattle.cw_rules.specs.declared.{bodies.NoteAt.NoteAt, codes.Effect.Effect, parts.Part.Part, parts.Opened.Opened}
use Rattle.cw_rules.specs.declared.{signs.Sign.Sign, tokens.Mode.Mode, tokens.TokKind.TokKind}
use Rattle.cw_rules.specs.Answers.{Answer, Where, Cut, ScanStep, before, note_answers, plain, dropped}
use Rattle.cw_rules.specs.Bodies.{note_unless, one_note, noted, ended, extent}
use Rattle.cw_rules.specs.Bytes.{slash, star, at_sign, equals, run, begins}
use Rattle.cw_rules.specs.{Codes.code_at, Codes.begins_section, Codes.is_section, Signs.spelling}
use Rattle.cw_rules.specs.Tokens.{in_hash_line, takes_hash_line, is_deep, ends_at_bar, moved, passed, one, line_end}
use Rattle.cw_rules.specs.Tokens.{skipped_byte, comment_kind, all_cut, comment_end, part_cut, section, inner_cut}
use Rattle.cw_rules.specs.Tokens.{behind_word, comment_begin, inner_end, inner_begin, identifier, directive_at, word}
use Rattle.cw_rules.specs.Tokens.{piece_start, code_token, is_code_part, dropped_code, alone_size}
use Rattle.cw_rules.specs.model.Apart.{comment_text_apart, in_text_apart, found_apart}
use Rattle.cw_rules.proofs.{Choices.if-both, Rules.code-rule, Rules.comment-rule, Rules.part-rule}
use Rattle.cw_rules.proofs.Rules.{BeginsPart, Macro, IsPassed, Standing, Dropping, CodeRule, LineEnd, Space, HashLine}
use Rattle.cw_rules.proofs.Rules.{Word, Passed, Heading, Beginning, Comment, InnerEnd, CommentRule, Closed, EndedLine}
use Rattle.cw_rules.proofs.Rules.{InnerBegin, Piece, LimboRule, LimboCode, LimboFormat, LimboDropped, LimboText}
use Rattle.cw_rules.proofs.Rules.{IsImproper, ImproperMacro, IsHeadWord, LastOfMacro, IsHeadSign, CommaStands, PartRule}
use Rattle.cw_rules.proofs.Rules.{OfCode, OfLimbo, TexCode, TexHeading, TexDropped, TexBeginning, TexInner, TexText}
use Rattle.cw_rules.proofs.Rules.{Blank, HeadSign, White, HeadWord, Opening, ParameterSign, Improper, ImproperInLimbo}
use Rattle.cw_lex.{specs.Lexing.still_fresh, specs.Lexing.answers, proofs.Covering.drop-on}
use Rattle.cw_laws.specs.Ends.{BeginsCode, begins_two, IsPieceIn, EndsAt, BeginsAt, CutsAll, is_in_short, AllEnd}
use Rattle.cw_laws.specs.Ends.{TextsGoToTheirEnds}
use Rattle.cw_laws.proofs.{Insides.piece-whole, StillOpen.beginning-stands}
use Rattle.cw_laws.proofs.StillOpen.{base, limbo_part, Agrees, Like, like-passed, like-hash, like-word, IsOrdinary}
use Rattle.cw_laws.proofs.StillOpen.{like-ordinary, agrees-like, with_inner_text, InComment, Around, Fits, fits}
use Rattle.cw_laws.proofs.StillOpen.{around-like, not-limbo, Stands, InCode, code-like, code-stands, deep-in}
use Rattle.cw_laws.proofs.EndCodes.{not-both, IsWhole, IsBare, Suits, suits, tex-suits, SuitsLimbo, limbo-suits}
use Rattle.cw_laws.proofs.EndCodes.{may-ordinary, code-whole, dropped-whole, limbo-dropped-whole}
use Rattle.cw_rules.specs.declared.classes.Class.TheVariants as classes
use Rattle.cw_rules.specs.declared.parts.Behind.TheVariants as behinds
use Rattle.cw_rules.specs.declared.parts.Part.TheVariants as parts
use Rattle.cw_rules.specs.declared.signs.Sign.TheVariants as signs
use Rattle.cw_rules.specs.declared.tokens.Directive.TheVariants as directives
use Rattle.cw_rules.specs.declared.tokens.TokKind.TheVariants as kinds

-- a place outside comments
abbrev bare : Part → Where
bare part = record { part = part; comments = [] }

bare-like : (part other : Part) (mode : Mode) (opened : List TokKind) → Like part other
    → Stands (bare part) mode opened → Stands (bare other) mode opened
bare-like part other mode opened l s = grind (arith, nat_tests, agrees-like)

bare-code : (part : Part) (mode : Mode) (opened : List TokKind) → limbo_part part ≡ false
    → Stands (bare part) mode opened → InCode (bare part) mode opened
bare-code part mode opened h s = record { around = (s.fit, h); agrees = s.agrees }

-- a token of which nothing is said
abbrev IsQuiet : Cut → Type 0
IsQuiet cut = (mode : Mode) (opened : List TokKind) (bytes : List ℕ) → IsWhole mode opened bytes cut

module _ (text : List ℕ) where
  -- ## Notes

  notes-end : (mode : Mode) (opened : List TokKind) (ns : List NoteAt) (later : List Answer)
      → AllEnd text mode opened later → AllEnd text mode opened (note_answers ns ++ later)
  notes-end mode opened [] later h = h
  notes-end mode opened (n ∷ ns) later h = notes-end mode opened ns later h

  notes-between : (mode : Mode) (opened : List TokKind) (ns : List NoteAt) (ys later : List Answer)
      → AllEnd text mode opened (ys ++ later) → AllEnd text mode opened ((note_answers ns ++ ys) ++ later)
  notes-between mode opened [] ys later h = h
  notes-between mode opened (n ∷ ns) ys later h = notes-between mode opened ns ys later h

  abbrev missing : Opened → ℕ → List NoteAt
  missing c place = one_note (note_unless (c.braces == 0) NoteKind.MissingBrace place)

  -- What begins at a place goes to its end, if what follows does.
  abbrev Goes : Mode → List TokKind → ScanStep → Type 0
  Goes mode opened f = (later : List Answer) → ((after : Mode) (next : List TokKind) → Stands f.next after next → AllEnd
      text after next later) → AllEnd text mode opened (f.answers ++ later)

  same-size : (place size : ℕ) → size ≡ (place + size) - place
  same-size place size = omega arith

  skip-goes : (mode : Mode) (opened : List TokKind) (w : Where) → Stands w mode opened
      → Goes mode opened (skipped_byte w)
  skip-goes mode opened w s later rest = rest mode opened s

  -- a token behind which the same is open
  one-goes : (mode : Mode) (opened : List TokKind) (hash_line : Bool) (next : Where) (place : ℕ) (bytes : List ℕ)
      (cut : Cut) → Stands next mode opened → IsWhole mode opened (drop place text) cut
      → Goes mode opened (one hash_line next place bytes cut)
  one-goes mode opened hash_line next place bytes cut s w later rest =
      grind (arith, nat_tests, same-size, not-both, notes-end)

  whole-here : (mode : Mode) (opened : List TokKind) (place : ℕ) (bytes : List ℕ) (cut : Cut)
      → drop place text ≡ bytes → IsWhole mode opened bytes cut → IsWhole mode opened (drop place text) cut
  whole-here mode opened place bytes cut here w = subst (λ l. IsWhole mode opened l cut) (sym here) w

  -- ## Ends

  part-cut : (part : Part) (place about : ℕ) (mode : Mode) (opened : List TokKind) (later : List Answer)
      → CutsAll (drop place text) → opened ≡ base part → AllEnd text mode [] later
      → AllEnd text mode opened (part_cut part place about ++ later)
  part-cut parts.TexInner place about mode opened later h is rest = subst (λ o. AllEnd text mode o
      (part_cut parts.TexInner place about ++ later)) (sym is) (refl, inr (inl h, (omega arith, inl refl)), rest)
  part-cut (parts.MacroName code) place about mode opened later h is rest =
      subst (λ o. AllEnd text mode o later) (sym is) rest
  part-cut (parts.MacroParen code) place about mode opened later h is rest =
      subst (λ o. AllEnd text mode o later) (sym is) rest
  part-cut (parts.Parameters code) place about mode opened later h is rest =
      subst (λ o. AllEnd text mode o later) (sym is) rest
  part-cut (parts.FormatName code second limbo) place about mode opened later h is rest =
      subst (λ o. AllEnd text mode o later) (sym is) rest
  part-cut _ place about mode opened later h is rest = subst (λ o. AllEnd text mode o later) (sym is) rest

  all-cut : (part : Part) (cs : List Opened) (place about : ℕ) (mode : Mode) (opened : List TokKind)
      (later : List Answer) → CutsAll (drop place text) → Fits part cs opened → AllEnd text mode [] later
      → AllEnd text mode opened (all_cut part cs place about ++ later)
  all-cut part [] place about mode opened later h f rest = part-cut part place about mode opened later h f rest
  all-cut part (c ∷ cs) place about mode opened later h f rest =
      grind (arith, all-cut part cs place about mode f.rest later h (fits part cs f.rest f.around) rest)

  section-goes : (w : Where) (place : ℕ) (bytes : List ℕ) (mode : Mode) (opened : List TokKind)
      → CutsAll (drop place text) → Stands w mode opened → Goes mode opened (section w place bytes)
  section-goes w place bytes mode opened h s later rest = grind (arith, nat_tests, append_assoc, all-cut, if-both)

  -- the bytes at a line's end
  short-ends : (place : ℕ) (long : Bool) (around : List TokKind) (bytes : List ℕ) (more : List Answer) → drop place text
      ≡ newline ∷ bytes → long ≡ false → EndsAt (comment_kind long) around (drop place text) ((place + 0) - place) more
  short-ends place true around bytes more here h = absurd cc
  short-ends place false around bytes more here h = inl (ap (begins newline) here, omega arith)

  line-end-goes : (part : Part) (cs : List Opened) (last place : ℕ) (bytes : List ℕ) (mode : Mode)
      (opened : List TokKind) → drop place text ≡ newline ∷ bytes → Agrees part mode → Around part cs opened
      → Goes mode opened (line_end part cs last place)
  line-end-goes part [] last place bytes mode opened here a f =
      grind (arith, nat_tests, if-both, one-goes, bare-like, like-hash, both-left, skip-goes)
  line-end-goes part (c ∷ cs) last place bytes mode opened here a f =
      let hash_line = in_hash_line part in
      let more = line_end (passed part) cs last place in
      let ends : ScanStep = before (inner_cut hash_line place place ++ comment_end hash_line c place 0 []) more in
      if-both (Goes mode opened) c.long _ ends (λ h. skip-goes mode opened (record { part = part; comments = c ∷ cs })
      (record { fit = fits part (c ∷ cs) opened f; agrees = a }))
      (λ h. subst (λ o. Goes mode o ends) (sym f.whole) (λ later rest. (
        refl,
        inr (
          inr (λ j. begins newline (here j) && is_in_short (comment_kind (h j) ∷ f.rest)),
          (omega arith, inl refl),
        ),
        (
          refl,
          short-ends place c.long f.rest bytes _ here h,
          notes-between mode f.rest (missing c place) more.answers later
              (line-end-goes (passed part) cs last place bytes mode f.rest here (agrees-like part (passed part) mode
              (like-passed part) a) (around-like part (passed part) cs f.rest (like-passed part) f.around) later rest),
        ),
      )))

  -- ## C text

  -- a token of C text, behind which a like part goes on
  moved-goes : (w : Where) (other : Part) (hash_line : Bool) (place : ℕ) (bytes : List ℕ) (cut : Cut) (mode : Mode)
      (opened : List TokKind) → Like w.part other → InCode w mode opened → IsQuiet cut
      → Goes mode opened (one hash_line (moved w other) place bytes cut)
  moved-goes w other hash_line place bytes cut mode opened l c q = one-goes mode opened hash_line
      (moved w other) place bytes cut (code-like w other mode opened l c) (q mode opened (drop place text))

  -- a code of two bytes, behind which a like part goes on
  begins-code : (place byte : ℕ) (bytes : List ℕ) → drop place text ≡ byte ∷ bytes → (byte == at_sign) ≡ true
      → BeginsCode (code_at bytes) (drop place text)
  begins-code place byte bytes here at = (ap (begins at_sign) here ∙ at, ap (λ l. code_at (drop 1 l)) here)

  bare-goes : (w : Where) (other : Part) (place byte : ℕ) (bytes : List ℕ) (mode : Mode) (opened : List TokKind)
      → drop place text ≡ byte ∷ bytes → (byte == at_sign) ≡ true → Like w.part other → InCode w mode opened
      → IsBare (code_at bytes)
      → Goes mode opened (one false (moved w other) place (byte ∷ bytes) (plain (kinds.Code (code_at bytes)) 2))
  bare-goes w other place byte bytes mode opened here at l c q = one-goes mode opened false (moved w other) place
      (byte ∷ bytes) (plain (kinds.Code (code_at bytes)) 2) (code-like w other mode opened l c)
      (q mode opened (drop place text) (begins-code place byte bytes here at))

  begun-goes : (w : Where) (place byte : ℕ) (bytes : List ℕ) (mode : Mode) (opened : List TokKind)
      → drop place text ≡ byte ∷ bytes → (byte == at_sign) ≡ true → InCode w mode opened → (effect : Effect)
      (part : Part) → BeginsPart place effect part → Suits effect w.part (code_at bytes)
      → Goes mode opened (one false (moved w part) place (byte ∷ bytes) (plain (kinds.Code (code_at bytes)) 2))
  begun-goes w place byte bytes mode opened here at c _ part Macro h = bare-goes w _ place byte bytes mode opened here
      at (like-ordinary w.part _ h.0 (record { base = refl; limbo = refl; inner = refl })) c h.1
  begun-goes w place byte bytes mode opened here at c _ part _ h = bare-goes w _ place byte bytes mode opened here at
      (like-ordinary w.part _ h.0 (record { base = refl; limbo = refl; inner = refl })) c h.1

  begins-here : (long : Bool) (place : ℕ) (mode : Mode) (opened : List TokKind)
      → begins_two slash (if long then star else slash) (drop place text) ≡ true
      → BeginsAt mode opened (comment_kind long) (drop place text) ((place + 2) - place)
  begins-here true place mode opened h = (h, omega arith)
  begins-here false place mode opened h = (h, omega arith)

  begin-goes : (long : Bool) (w : Where) (place : ℕ) (bytes : List ℕ) (mode : Mode) (opened : List TokKind)
      → begins_two slash (if long then star else slash) (drop place text) ≡ true → InCode w mode opened
      → Goes mode opened (comment_begin long w place bytes)
  begin-goes long w place bytes mode opened h c later rest =
      grind (arith, nat_tests, begins-here, around-like, like-passed, agrees-like)

  inner-end-goes : (part : Part) (cs : List Opened) (place : ℕ) (bytes : List ℕ) (mode : Mode)
      (opened : List TokKind) → begins bar (drop place text) ≡ true → ends_at_bar part cs ≡ true
      → InCode (record { part = part; comments = cs }) mode opened
      → Goes mode opened (inner_end (record { part = part; comments = cs }) place bytes)
  inner-end-goes parts.TexInner [] place bytes mode opened b e c = grind (arith, nat_tests)
  inner-end-goes part (o ∷ cs) place bytes mode opened b e c =
      grind (arith, nat_tests, around-like, like-passed, agrees-like)
  inner-end-goes _ [] place bytes mode opened b e c = absurd cc

  -- no code but a section code begins a section
  unsectioned : (byte : ℕ) (bytes : List ℕ) → (byte == at_sign && begins_section bytes) ≡ false
      → (byte == at_sign) ≡ true → is_section (code_at bytes) ≡ false
  unsectioned byte bytes other at = sym (ap (λ t. t && begins_section bytes) at) ∙ other

  standing-whole : (place byte : ℕ) (bytes : List ℕ) (mode : Mode) (opened : List TokKind)
      → drop place text ≡ byte ∷ bytes → (byte == at_sign && begins_section bytes) ≡ false → (byte == at_sign) ≡ true
      → IsWhole mode opened (drop place text) (code_token (code_at bytes) place (byte ∷ bytes))
  standing-whole place byte bytes mode opened here other at = whole-here mode opened place (byte ∷ bytes) _ here
      (code-whole mode opened place byte bytes at (unsectioned byte bytes other at))

  passed-whole : (w : Where) (fresh : Bool) (place byte : ℕ) (bytes : List ℕ) (mode : Mode) (opened : List TokKind)
      → drop place text ≡ byte ∷ bytes → (byte == at_sign && begins_section bytes) ≡ false → InCode w mode opened
      → (cut : Cut) → IsPassed w fresh place byte bytes cut → IsWhole mode opened (drop place text) cut
  passed-whole w fresh place byte bytes mode opened here other c _ (Standing at e) =
      standing-whole place byte bytes mode opened here other at
  passed-whole w fresh place byte bytes mode opened here other c _ (Dropping note at e) = whole-here mode opened place
      (byte ∷ bytes) _ here (dropped-whole mode opened note place byte bytes at (sym c.agrees.limbo
      ∙ not-limbo w.part w.comments opened c.around))
  passed-whole w fresh place byte bytes mode opened here other c _ _ = record { goes = λ later. tt; section = refl }

  code-goes : (w : Where) (fresh : Bool) (last place byte : ℕ) (bytes : List ℕ) (mode : Mode) (opened : List TokKind)
      → drop place text ≡ byte ∷ bytes → (byte == at_sign && begins_section bytes) ≡ false → InCode w mode opened
      → (f : ScanStep) → CodeRule w fresh last place byte bytes f → Goes mode opened f
  code-goes w fresh last place byte bytes mode opened here other c _ (LineEnd h) = line-end-goes w.part w.comments last
      place bytes mode opened (here ∙ ap (λ b. b ∷ bytes) (eqb-true byte newline h)) c.agrees c.around
  code-goes w fresh last place byte bytes mode opened here other c _ (Space line h) =
      skip-goes mode opened w (code-stands w mode opened c)
  code-goes w fresh last place byte bytes mode opened here other c _ (HashLine h takes first) =
      moved-goes w (parts.Plain true behinds.Hash) true place (byte ∷ bytes) (plain kinds.HashLine 1) mode opened
      (like-ordinary w.part (parts.Plain true behinds.Hash) (takes-ordinary w.part w.comments takes)
      (record { base = refl; limbo = refl; inner = refl })) c (λ m o b. record { goes = λ later. tt; section = refl })
    where
      takes-ordinary : (part : Part) (cs : List Opened) → takes_hash_line part cs ≡ true → IsOrdinary part
      takes-ordinary part cs h = grind (arith, nat_tests, base)
  code-goes w fresh last place byte bytes mode opened here other c _ (Word bare h) = moved-goes w (behind_word w.part
      (byte ∷ bytes)) (in_hash_line w.part) place (byte ∷ bytes)
      (word (directive_at w.part (byte ∷ bytes)) (byte ∷ bytes)) mode opened
      (like-word w.part (byte ∷ bytes)) c (λ m o b. record { goes = λ later. tt; section = refl })
  code-goes w fresh last place byte bytes mode opened here other c _ (Passed cut p) = one-goes mode opened
      (in_hash_line w.part) (moved w (passed w.part)) place (byte ∷ bytes) cut (code-like w (passed w.part) mode opened
      (like-passed w.part) c) (passed-whole w fresh place byte bytes mode opened here other c cut p)
  code-goes w fresh last place byte bytes mode opened here other c _ (Heading at e name may headed) = one-goes mode
      opened (in_hash_line w.part) (moved w parts.Head) place (byte ∷ bytes) (code_token (code_at bytes) place
      (byte ∷ bytes)) (code-like w parts.Head mode opened (like-ordinary w.part parts.Head
      (may-ordinary w.part w.comments may) (record { base = refl; limbo = refl; inner = refl })) c)
      (standing-whole place byte bytes mode opened here other at)
  code-goes w fresh last place byte bytes mode opened here other c _ (Beginning effect part at e begun) =
      begun-goes w place byte bytes mode opened here at c effect part begun
      (subst (λ effect. Suits effect w.part (code_at bytes)) e (suits w.part w.comments (code_at bytes)))
  code-goes w fresh last place byte bytes mode opened here other c _ (Comment long h) = begin-goes long w place
      (byte ∷ bytes) mode opened (ap (begins_two slash (if long then star else slash)) here ∙ h) c
  code-goes w fresh last place byte bytes mode opened here other c _ (InnerEnd h ends) =
      inner-end-goes w.part w.comments place (byte ∷ bytes) mode opened (ap (begins bar) here ∙ h) ends c

  -- ## The text of a comment

  long-ends : (place : ℕ) (long : Bool) (around : List TokKind) (byte : ℕ) (bytes : List ℕ) (more : List Answer)
      → drop place text ≡ byte ∷ bytes → (long && (byte == star && begins slash bytes)) ≡ true
      → EndsAt (comment_kind long) around (drop place text) ((place + 2) - place) more
  long-ends place true around byte bytes more here h = inl (ap (begins_two star slash) here ∙ h, omega arith)
  long-ends place false around byte bytes more here h = absurd cc

  comment-goes : (part : Part) (c : Opened) (cs : List Opened) (last place byte : ℕ) (bytes : List ℕ)
      (mode : Mode) (opened : List TokKind) → drop place text ≡ byte ∷ bytes → Agrees part mode
      → (i : InComment c false (Around part cs) opened) → (f : ScanStep)
      → CommentRule part c cs last place byte bytes f → Goes mode (comment_kind c.long ∷ i.rest) f
  comment-goes part c cs last place byte bytes mode opened here a i _ (Closed long h) = λ later rest. (
    refl,
    long-ends place c.long i.rest byte bytes _ here (λ j. long j && h j),
    notes-end mode i.rest (missing c place) later
        (rest mode i.rest (record { fit = fits part cs i.rest i.around; agrees = a })),
  )
  comment-goes part c cs last place byte bytes mode opened here a i _ (EndedLine short h) =
      let more = line_end part cs last place in
      let line = here ∙ ap (λ b. b ∷ bytes) (eqb-true byte newline h) in
      λ later rest. (
        refl,
        short-ends place c.long i.rest bytes _ line short,
        notes-between mode i.rest (missing c place) more.answers later
            (line-end-goes part cs last place bytes mode i.rest line a i.around later rest),
      )
  comment-goes part c cs last place byte bytes mode opened here a i _ (InnerBegin h deep) = λ later rest. (
    (
      ap (begins bar) here ∙ h,
      omega arith,
      deep-in part c cs mode i.rest a i.around ∙ ap not deep,
    ),
    rest mode (kinds.InnerText ∷ comment_kind c.long ∷ i.rest)
        (record { fit = record { rest = i.rest; is = refl; whole = refl; around = i.around }; agrees = a }),
  )
  comment-goes part c cs last place byte bytes mode opened here a i _ (Piece closes line opens) =
      let deep = is_deep part (c ∷ cs) in
      let start = piece_start part cs c place in
      let size = (extent start (byte ∷ bytes)).size in
      one-goes mode (comment_kind c.long ∷ i.rest) (in_hash_line part)
      (record { part = part; comments = record c { braces = (ended start (byte ∷ bytes)).braces } ∷ cs }) place
      (byte ∷ bytes) (record {
        kind = kinds.Text;
        directive = directives.No;
        size = size;
        notes = noted start (byte ∷
            bytes);
      }) (record {
        fit = record {
          rest = i.rest;
          is = refl;
          whole = ap (λ b. with_inner_text b (comment_kind c.long ∷ i.rest)) (sym i.is);
          around = i.around;
        };
        agrees = a;
      }) (record {
        goes = λ later. subst (λ l. IsPieceIn mode (comment_kind c.long ∷ i.rest) l size) (sym here) (piece-whole mode
            c.long deep c.braces place (byte ∷ bytes) i.rest (deep-in part c cs mode i.rest a i.around));
        section = refl;
      })

  -- ## Limbo, TeX text and heads

  -- a piece of limbo or of TeX text
  text-goes : (part : Part) (place : ℕ) (bytes : List ℕ) (mode : Mode) (opened : List TokKind) → base part ≡ []
      → drop place text ≡ bytes → Stands (bare part) mode opened → Goes mode opened (one false (bare part) place bytes
      (plain kinds.Text (run (if limbo_part part then classes.LimboText else classes.TexText) bytes)))
  text-goes part place bytes mode opened none here s = grind (arith, nat_tests, limbo_part, one-goes)

  limbo-goes : (place byte : ℕ) (bytes : List ℕ) (mode : Mode) (opened : List TokKind)
      → drop place text ≡ byte ∷ bytes → (byte == at_sign && begins_section bytes) ≡ false
      → Stands (bare parts.Limbo) mode opened → (f : ScanStep) → LimboRule place byte bytes f → Goes mode opened f
  limbo-goes place byte bytes mode opened here other s _ (LimboCode at e) = one-goes mode opened false
      (bare parts.Limbo) place (byte ∷ bytes) (code_token (code_at bytes) place (byte ∷ bytes)) s
      (standing-whole place byte bytes mode opened here other at)
  limbo-goes place byte bytes mode opened here other s _ (LimboFormat at e) = one-goes mode opened false
      (bare (parts.FormatName place false true)) place (byte ∷ bytes) (plain (kinds.Code (code_at bytes)) 2)
      (bare-like parts.Limbo (parts.FormatName place false true) mode opened
      (record { base = refl; limbo = refl; inner = refl }) s) (subst (λ effect. SuitsLimbo effect (code_at bytes)) e
      (limbo-suits (code_at bytes)) mode opened (drop place text) (begins-code place byte bytes here at))
  limbo-goes place byte bytes mode opened here other s _ (LimboDropped note at e) = one-goes mode opened false
      (bare parts.Limbo) place (byte ∷ bytes) (dropped note place
      (plain (kinds.Code (code_at bytes)) (alone_size (byte ∷ bytes)))) s (whole-here mode opened place
      (byte ∷ bytes) _ here (limbo-dropped-whole mode opened note place byte bytes at (sym s.agrees.limbo)))
  limbo-goes place byte bytes mode opened here other s _ (LimboText h) =
      text-goes parts.Limbo place (byte ∷ bytes) mode opened refl here s

  -- an identifier behind which a head goes on in some part
  word-goes : (next : Where) (place : ℕ) (bytes : List ℕ) (mode : Mode) (opened : List TokKind)
      → Stands next mode opened → Goes mode opened (one false next place bytes (identifier bytes))
  word-goes next place bytes mode opened s = one-goes mode opened false next place bytes (identifier bytes) s
      (record { goes = λ later. tt; section = refl })

  like-begun : (place : ℕ) (bytes : List ℕ) (effect : Effect) (part : Part) → BeginsPart place effect part
      → Suits effect parts.Tex (code_at bytes) → Like parts.Tex part × IsBare (code_at bytes)
  like-begun place bytes _ _ Macro h = (record { base = refl; limbo = refl; inner = refl }, h.1)
  like-begun place bytes _ _ _ h = (record { base = refl; limbo = refl; inner = refl }, h.1)

  like-head : (bytes : List ℕ) (part next : Part) → IsHeadWord bytes part next → Like part next
  like-head bytes _ _ (LastOfMacro code) = record { base = refl; limbo = refl; inner = refl }
  like-head bytes _ _ _ = record { base = refl; limbo = refl; inner = refl }

  like-sign : (code byte : ℕ) (bytes : List ℕ) (sign : Sign) (next : Part) → IsHeadSign code byte bytes sign next
      → Like (parts.Parameters code) next
  like-sign code byte bytes _ _ (CommaStands h) = record { base = refl; limbo = refl; inner = refl }
  like-sign code byte bytes _ _ _ = record { base = refl; limbo = refl; inner = refl }

  like-improper : (part : Part) (kind : NoteKind) (code : ℕ) → IsImproper part kind code → Like part parts.Definition
  like-improper _ _ _ (ImproperMacro code) = record { base = refl; limbo = refl; inner = refl }
  like-improper _ _ _ _ = record { base = refl; limbo = refl; inner = refl }

  no-limbo : (part : Part) → is_code_part part ≡ true → limbo_part part ≡ false
  no-limbo part h = grind (arith, nat_tests, limbo_part)

  bar-goes : (place byte : ℕ) (bytes : List ℕ) (mode : Mode) (opened : List TokKind) → drop place text ≡ byte ∷ bytes
      → (byte == bar) ≡ true → Stands (bare parts.Tex) mode opened
      → Goes mode opened (inner_begin false (bare parts.TexInner) place (byte ∷ bytes))
  bar-goes place byte bytes mode opened here h s = grind (arith, nat_tests)

  part-goes : (fresh : Bool) (last place byte : ℕ) (bytes : List ℕ) (mode : Mode) (opened : List TokKind)
      → drop place text ≡ byte ∷ bytes → (byte == at_sign && begins_section bytes) ≡ false → (part : Part)
      → Stands (bare part) mode opened → (f : ScanStep) → PartRule fresh last place byte bytes part f
      → Goes mode opened f
  part-goes fresh last place byte bytes mode opened here other _ s _ (OfCode part f is r) = code-goes (bare part) fresh
      last place byte bytes mode opened here other (bare-code part mode opened (no-limbo part is) s) f r
  part-goes fresh last place byte bytes mode opened here other _ s _ (OfLimbo f r) =
      limbo-goes place byte bytes mode opened here other s f r
  part-goes fresh last place byte bytes mode opened here other _ s _ (TexCode at e) = one-goes mode opened false
      (bare parts.Tex) place (byte ∷ bytes) (code_token (code_at bytes) place (byte ∷ bytes)) s
      (standing-whole place byte bytes mode opened here other at)
  part-goes fresh last place byte bytes mode opened here other _ s _ (TexHeading at e name headed) = one-goes mode
      opened false (bare parts.Head) place (byte ∷ bytes) (code_token (code_at bytes) place (byte ∷ bytes))
      (bare-like parts.Tex parts.Head mode opened (record { base = refl; limbo = refl; inner = refl }) s)
      (standing-whole place byte bytes mode opened here other at)
  part-goes fresh last place byte bytes mode opened here other _ s _ (TexDropped note at e) = one-goes mode opened false
      (bare parts.Tex) place (byte ∷ bytes) (dropped_code note (code_at bytes) place (byte ∷ bytes)) s (whole-here mode
      opened place (byte ∷ bytes) _ here (dropped-whole mode opened note place byte bytes at (sym s.agrees.limbo)))
  part-goes fresh last place byte bytes mode opened here other _ s _ (TexBeginning effect part at e begun) =
      let h = like-begun place bytes effect part begun
      (subst (λ effect. Suits effect parts.Tex (code_at bytes)) e (tex-suits (code_at bytes))) in
      one-goes mode opened false (bare part) place (byte ∷ bytes) (plain (kinds.Code (code_at bytes)) 2) (bare-like
      parts.Tex part mode opened h.0 s) (h.1 mode opened (drop place text) (begins-code place byte bytes here at))
  part-goes fresh last place byte bytes mode opened here other _ s _ (TexInner h) =
      bar-goes place byte bytes mode opened here h s
  part-goes fresh last place byte bytes mode opened here other _ s _ (TexText at h) =
      text-goes parts.Tex place (byte ∷ bytes) mode opened refl here s
  part-goes fresh last place byte bytes mode opened here other _ s _ (Blank h) =
      skip-goes mode opened (bare parts.Head) s
  part-goes fresh last place byte bytes mode opened here other _ s _ (HeadSign h) = one-goes mode opened false (bare
      (parts.Plain false behinds.Other)) place (byte ∷ bytes) (plain kinds.HeadSign (if begins equals bytes then 2 else
      1))
      (bare-like parts.Head (parts.Plain false behinds.Other) mode opened
      (record { base = refl; limbo = refl; inner = refl }) s) (record { goes = λ later. tt; section = refl })
  part-goes fresh last place byte bytes mode opened here other _ s _ (White part h wanted) =
      skip-goes mode opened (bare part) s
  part-goes fresh last place byte bytes mode opened here other _ s _ (HeadWord part next h k) = word-goes (bare next)
      place (byte ∷ bytes) mode opened (bare-like part next mode opened (like-head (byte ∷ bytes) part next k) s)
  part-goes fresh last place byte bytes mode opened here other _ s _ (Opening code) = one-goes mode opened false
      (bare (parts.Parameters code)) place (byte ∷ bytes) (plain (kinds.Sign signs.LeftParen) 1)
      (bare-like (parts.MacroParen code) (parts.Parameters code) mode opened
      (record { base = refl; limbo = refl; inner = refl }) s) (record { goes = λ later. tt; section = refl })
  part-goes fresh last place byte bytes mode opened here other _ s _ (ParameterSign code sign next k) = one-goes mode
      opened false (bare next) place (byte ∷ bytes) (plain (kinds.Sign sign) (length (spelling sign)))
      (bare-like (parts.Parameters code) next mode opened (like-sign code byte bytes sign next k) s)
      (record { goes = λ later. tt; section = refl })
  part-goes fresh last place byte bytes mode opened here other _ s _ (Improper part kind code f i r) = code-goes
      (bare parts.Definition) fresh last place byte bytes mode opened here other (bare-code parts.Definition mode opened
      refl (bare-like part parts.Definition mode opened (like-improper part kind code i) s)) f r
  part-goes fresh last place byte bytes mode opened here other _ s _ (ImproperInLimbo code second f r) = limbo-goes
      place byte bytes mode opened here other (bare-like (parts.FormatName code second true) parts.Limbo mode opened
      (record { base = refl; limbo = refl; inner = refl }) s) f r

  in-text-goes : (part : Part) (comments : List Opened) (fresh : Bool) (last place byte : ℕ) (bytes : List ℕ)
      (mode : Mode) (opened : List TokKind) → drop place text ≡ byte ∷ bytes → (byte == at_sign && begins_section bytes)
      ≡ false → Stands (record { part = part; comments = comments }) mode opened
      → Goes mode opened (in_text_apart part comments fresh last place byte bytes)
  in-text-goes part [] fresh last place byte bytes mode opened here other s = part-goes fresh last place byte bytes mode
      opened here other part s _ (part-rule fresh last place byte bytes part)
  in-text-goes part (c ∷ cs) fresh last place byte bytes mode opened here other s =
      let w : Where = record { part = part; comments = c ∷ cs } in
      if-both (Goes mode opened) c.inner _ _ (λ h. code-goes w fresh last place byte bytes mode opened here other
      (record { around = so true h; agrees = s.agrees }) _ (code-rule w fresh last place byte bytes)) (λ h. subst (λ o.
      Goes mode o (comment_text_apart part c cs last place byte bytes)) (sym (so false h).whole) (comment-goes part c cs
      last place byte bytes mode opened here s.agrees (so false h) _ (comment-rule part c cs last place byte bytes)))
    where
      so : (inner : Bool) → c.inner ≡ inner → InComment c inner (Around part cs) opened
      so inner h = grind (arith, nat_tests, with_inner_text)

  all-go : (bytes : List ℕ) (w : Where) (fresh : Bool) (last place taken : ℕ) (mode : Mode) (opened : List TokKind)
      → drop place text ≡ bytes → Stands w mode opened
      → AllEnd text mode opened (answers bytes w fresh last place taken)
  all-go [] w fresh last place taken mode opened here s = subst (AllEnd text mode opened) (append-nil (all_cut w.part
      w.comments place (place - 1))) (all-cut w.part w.comments place (place - 1) mode opened [] (inl here) s.fit refl)
  all-go (byte ∷ bytes) w fresh last place zero mode opened here s =
      let g = found_apart w fresh last place byte bytes in
      if-both (Goes mode opened) (byte == at_sign && begins_section bytes) (section w place bytes)
      (in_text_apart w.part w.comments fresh last place byte bytes) (λ h. section-goes w place bytes mode opened
      (inr (ap (λ l. begins at_sign l && begins_section (drop 1 l)) here ∙ h)) s)
      (λ h. in-text-goes w.part w.comments fresh last place byte bytes mode opened here h s)
      (answers bytes g.next (still_fresh fresh byte) byte (place + 1) g.more) (λ after next k. all-go bytes g.next
      (still_fresh fresh byte) byte (place + 1) g.more after next (drop-on text place byte bytes here) k)
  all-go (byte ∷ bytes) w fresh last place (suc taken) mode opened here s =
      all-go bytes w (still_fresh fresh byte) byte (place + 1) taken mode opened (drop-on text place byte bytes here) s

pub texts-go-to-their-ends : TextsGoToTheirEnds
texts-go-to-their-ends text start end mode = grind (arith, nat_tests, all-go, beginning-stands)
