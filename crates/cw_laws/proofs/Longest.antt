-- Each token is the longest that begins at its place.
use Rattle.std.proofs.Common.{◌≡◌, ℕ, zero, suc, ◌+◌, ◌-◌, ◌<◌, Bool, true, false, ◌&&◌, ◌||◌, not, ◌==◌, nat_lt, List}
use Rattle.std.proofs.Common.{[], ◌∷◌, ◌++◌, Some, None, if◌then◌else◌, length, slice_index, drop, take, refl, sym, ap}
use Rattle.std.proofs.Common.{subst, ◌∙◌, arith}
use Rattle.std.proofs.{lemmas.Bool.eqb-true, lemmas.Bool.Decides.nat_tests}
use Rattle.cw_base.proofs.TestLaws.{both-failed, both-left, both-right, not-both, not-true, other-one}
use Rattle.cw_rules.specs.declared.{bodies.NoteAt.NoteAt, codes.Code.Code, parts.Part.Part, parts.Opened.Opened}
use Rattle.cw_rules.specs.declared.{signs.Sign.Sign, tokens.TokKind.TokKind}
use Rattle.cw_rules.specs.Answers.{Answer, Token, Finish, Note, Where, Cut, ScanStep, note_answers, plain}
use Rattle.cw_base.specs.{Bytes.newline, Bytes.backslash, declared.notes.NoteKind.NoteKind}
use Rattle.cw_rules.specs.Bytes.{apostrophe, slash, star, at_sign, hash, comma, equals, plus, left_paren, right_paren}
use Rattle.cw_rules.specs.Bytes.{begins, begins_by, begins_with, is_letter, is_in, run}
use Rattle.cw_rules.specs.Codes.{is_section, code_at, begins_section, has_control_text}
use Rattle.cw_rules.specs.{Constants.constant, Prefixes.prefix_size, Signs.all_signs, Signs.longest, Signs.spelling}
use Rattle.cw_rules.specs.{Tokens.head_sign_size, Tokens.is_parameter, model.Apart.in_text_apart}
use Rattle.cw_rules.specs.{model.Apart.found_apart}
use Rattle.cw_rules.specs.Tokens.{in_hash_line, moved, passed, one, comment_end, inner_cut, all_cut, section, is_quote}
use Rattle.cw_rules.specs.Tokens.{section_code, section_name, string, control_text, alone_size, control_or_plain}
use Rattle.cw_rules.specs.Tokens.{line_end, code_token, is_name, include_name, piece_start, word, directive_at}
use Rattle.cw_rules.specs.Tokens.{behind_word}
use Rattle.cw_rules.specs.Bodies.{one_note, note_unless, noted}
use Rattle.cw_rules.proofs.{Choices.if-both, Taking.AreBare, Taking.bare-all-cut, StringPrefixes.no-prefix}
use Rattle.cw_rules.proofs.Rules.{IsAlone, IsPassed, IncludeName, Prefixed, Quoted, Constant, Standing, Dropping}
use Rattle.cw_rules.proofs.Rules.{OfSign, Other, CodeRule, LineEnd, HashLine, Word, Passed, Heading, Beginning}
use Rattle.cw_rules.proofs.Rules.{CommentRule, Closed, EndedLine, InnerBegin, Piece, LimboRule, LimboCode, LimboFormat}
use Rattle.cw_rules.proofs.Rules.{PartRule, OfCode, OfLimbo, TexCode, TexHeading, TexDropped, TexBeginning, TexText}
use Rattle.cw_rules.proofs.Rules.{HeadSign, HeadWord, Opening, ParameterSign, CommaStands, Closes, Dots, Improper}
use Rattle.cw_rules.proofs.Rules.{ImproperInLimbo, within, code-rule, comment-rule, part-rule}
use Rattle.cw_lex.specs.Lexing.{still_fresh, answers, fresh_after, last_after, fresh_at, last_at, beginning}
use Rattle.cw_laws.specs.Longest.{NoneIsLonger, begins_comment, IsSign, IsOtherByte, IsIncludeName, IsLongest}
use Rattle.cw_laws.specs.{Longest.AreLongest, Longest.TokensAreLongest, Strings.IsString}
use Rattle.cw_lex.proofs.{Covering.drop-on, Walk.fresh-more, Walk.last-more}
use Rattle.cw_laws.proofs.{CParts.c-parts, Strings.prefixed-is, Strings.unprefixed-is}
use Rattle.cw_laws.proofs.LongestSigns.{dots-are, longest-most, sign-is, size_of}
use Rattle.cw_laws.proofs.SectionBytes.{section-is, starred-is}
use Rattle.cw_laws.proofs.Wanted.{Wants, WantsIn, sign-here, parameter-here, found-goes, beginning-wants}
use Rattle.cw_rules.specs.declared.classes.Class.TheVariants as classes
use Rattle.cw_rules.specs.declared.codes.Code.TheVariants as at
use Rattle.cw_rules.specs.declared.parts.Behind.TheVariants as behinds
use Rattle.cw_rules.specs.declared.parts.Part.TheVariants as parts
use Rattle.cw_rules.specs.declared.signs.Sign.TheVariants as signs
use Rattle.cw_rules.specs.declared.tokens.Directive.{Directive}
use Rattle.cw_rules.specs.declared.tokens.Directive.TheVariants.{No}
use Rattle.cw_rules.specs.declared.tokens.TokKind.TheVariants as kinds

-- ## Small tests

none-below : (n : ℕ) → nat_lt 0 n ≡ false → n ≡ 0
none-below n h = grind arith

no-space : (line blank along : Bool) → line ≡ false → (blank || along) ≡ false → ((line || blank) || along) ≡ false
no-space true blank along e h = absurd cc
no-space false blank along e h = h

no-comment : (first long short : Bool) → (first && long) ≡ false → (first && short) ≡ false
    → (first && (long || short)) ≡ false
no-comment true true short h g = h
no-comment true false short h g = g
no-comment false long short h g = refl

other-is : (w : Where) (fresh : Bool) (byte : ℕ) (bytes : List ℕ) → IsAlone w fresh byte bytes
    → longest all_signs (byte ∷ bytes) ≡ None → IsOtherByte (in_hash_line w.part) (byte ∷ bytes) 1
other-is w fresh byte bytes b e = record {
  whole = refl;
  no_space = no-space (byte == newline) (is_in classes.Blank byte) _ b.line b.space;
  no_letter = b.letter;
  no_constant = none-below (constant (byte ∷ bytes)) b.constant;
  no_mark = b.mark;
  no_code = b.code;
  no_sign = subst (λ o. NoneIsLonger all_signs (byte ∷ bytes) (size_of o)) e (longest-most all_signs (byte ∷ bytes));
}

-- ## The sign of a head

equals-first : (bytes : List ℕ) → begins_with (equals ∷ []) bytes ≡ begins equals bytes
equals-first [] = refl
equals-first (b ∷ bs) = by (b == equals)
  where
    by : (t : Bool) → (t && true) ≡ t
    by t = grind (arith, nat_tests)

-- by whether `=` and `+` stand first and `=` behind
abbrev size_by : (first second third : Bool) → ℕ
size_by first second third = if (first && third) || (second && third) then 2 else (if first then 1 else 0)

head-sign : (byte : ℕ) (bytes : List ℕ) → nat_lt 0 (head_sign_size (byte ∷ bytes)) ≡ true → (0 <
    (if begins equals bytes then 2 else 1)) × ((if begins equals bytes then 2 else 1) ≡ head_sign_size (byte ∷ bytes))
head-sign byte bytes h =
    let some = by (byte == equals) (byte == plus) (begins equals bytes) (sym (ap (nat_lt 0) size) ∙ h) in
    (some.0, some.1 ∙ sym size)
  where
    size : head_sign_size (byte ∷ bytes) ≡ size_by (byte == equals) (byte == plus) (begins equals bytes)
    size = ap (λ t. size_by (byte == equals) (byte == plus) t) (equals-first bytes)

    by : (first second third : Bool) → nat_lt 0 (size_by first second third) ≡ true
        → (0 < (if third then 2 else 1)) × ((if third then 2 else 1) ≡ size_by first second third)
    by first second third h = grind (arith, nat_tests)

-- ## Lists of answers

append-longest : (text : List ℕ) (xs ys : List Answer) → AreLongest text xs → AreLongest text ys
    → AreLongest text (xs ++ ys)
append-longest text [] ys h g = g
append-longest text (Token t ∷ xs) ys h g = (h.0, append-longest text xs ys h.1 g)
append-longest text (_ ∷ xs) ys h g = append-longest text xs ys h g

bare-longest : (text : List ℕ) (place : ℕ) (xs : List Answer) → AreBare place xs → AreLongest text xs
bare-longest text place [] h = tt
bare-longest text place (Finish t ∷ xs) h = bare-longest text place xs h.3
bare-longest text place (Note kind about ∷ xs) h = bare-longest text place xs h
bare-longest text place (_ ∷ xs) h = absurd h

noted-longest : (text : List ℕ) (ns : List NoteAt) → AreLongest text (note_answers ns)
noted-longest text [] = tt
noted-longest text (n ∷ ns) = noted-longest text ns

module _ (text : List ℕ) where
  abbrev Longest : ScanStep → Type 0
  Longest f = AreLongest text f.answers

  abbrev Says : Bool → ℕ → ℕ → TokKind → Type 0
  Says hash_line place size kind = IsLongest hash_line (take place text) (drop place text) size kind

  -- a place of the text, and what the rules know of it
  record At (fresh : Bool) (last place byte : ℕ) (bytes : List ℕ) : Type 0 where
    here : drop place text ≡ byte ∷ bytes
    freshly : fresh_at text place ≡ fresh
    behind : last_at text place ≡ last
    plain : (byte == at_sign && begins_section bytes) ≡ false

  one-longest : (hash_line : Bool) (next : Where) (place : ℕ) (bytes : List ℕ) (cut : Cut)
      → Says hash_line place cut.size cut.kind → Longest (one hash_line next place bytes cut)
  one-longest hash_line next place bytes cut h = (
    subst (λ n. Says hash_line place n cut.kind) (size cut.size) h,
    noted-longest text cut.notes,
  )
    where
      size : (n : ℕ) → n ≡ (place + n) - place
      size n = omega arith

  abbrev missing : Opened → ℕ → List NoteAt
  missing c place = one_note (note_unless (c.braces == 0) NoteKind.MissingBrace place)

  line-end-longest : (part : Part) (comments : List Opened) (last place : ℕ) → begins newline (drop place text) ≡ true
      → last_at text place ≡ last → Longest (line_end part comments last place)
  line-end-longest part [] last place here behind = if-both Longest (in_hash_line part && not (last == backslash)) _ _
      (λ h. one-longest true (record { part = parts.Plain false behinds.Other; comments = [] }) place (newline ∷ [])
      (plain kinds.HashLineEnd 1) (
        here,
        refl,
        ap (λ n. n == backslash) behind
            ∙ not-true (last == backslash) (both-right (in_hash_line part) (not (last == backslash)) h),
      )) (λ h. tt)
  line-end-longest part (c ∷ comments) last place here behind =
      let hash_line = in_hash_line part in
      if-both Longest c.long _ _ (λ h. tt) (λ h. append-longest text (inner_cut hash_line place place ++ comment_end
      hash_line c place 0 []) (line_end (passed part) comments last place).answers
      (noted-longest text (missing c place)) (line-end-longest (passed part) comments last place here behind))

  -- ## C text

  -- a code that is no section code
  token-here : (hash_line : Bool) (c : Code) (place : ℕ) (bytes : List ℕ) → is_section c ≡ false
      → Says hash_line place (code_token c place bytes).size (code_token c place bytes).kind
  token-here hash_line c place bytes q =
      let P : Cut → Type 0 = λ c. Says hash_line place c.size c.kind in
      if-both P (is_name c) (section_name c place bytes) _ (λ k s. not-both (is_section c) s q)
      (λ k. if-both P (is_quote c) (string (kinds.Code c) 2 apostrophe place bytes) (control_or_plain c place bytes)
      (λ k s. not-both (is_section c) s q) (λ k. if-both P (has_control_text c) (control_text c place bytes) (plain
      (kinds.Code c) (alone_size bytes)) (λ k s. not-both (is_section c) s q) (λ k s. not-both (is_section c) s q)))

  word-longest : (hash_line : Bool) (d : Directive) (next : Where) (place byte : ℕ) (bytes : List ℕ)
      → drop place text ≡ byte ∷ bytes
      → is_letter byte ≡ true → Longest (one hash_line next place (byte ∷ bytes) (word d (byte ∷ bytes)))
  word-longest hash_line d next place byte bytes here h = one-longest hash_line next place (byte ∷ bytes)
      (word d (byte ∷ bytes)) (ap (begins_by is_letter) here ∙ h, ap (run classes.Word) (sym here))

  sign-here-is : (sign : Sign) (place byte wanted : ℕ) (bytes : List ℕ) → drop place text ≡ byte ∷ bytes
      → (byte == wanted) ≡ true → longest all_signs (wanted ∷ bytes) ≡ Some sign → constant (wanted ∷ bytes) ≡ 0
      → begins_comment (wanted ∷ bytes) ≡ false → IsSign sign (drop place text) (length (spelling sign))
  sign-here-is sign place byte wanted bytes here h e c d = subst (λ l. IsSign sign l (length (spelling sign)))
      (sym (here ∙ ap (λ b. b ∷ bytes) (eqb-true byte wanted h))) (sign-is (wanted ∷ bytes) sign e c d)

  -- a code at a place, which is no section code
  code-here : (hash_line : Bool) (next : Where) (fresh : Bool) (last place byte : ℕ) (bytes : List ℕ)
      → At fresh last place byte bytes → (byte == at_sign) ≡ true
      → Longest (one hash_line next place (byte ∷ bytes) (code_token (code_at bytes) place (byte ∷ bytes)))
  code-here hash_line next fresh last place byte bytes here at = one-longest hash_line next place (byte ∷ bytes)
      (code_token (code_at bytes) place (byte ∷ bytes)) (token-here hash_line (code_at bytes) place (byte ∷ bytes)
      (both-failed (byte == at_sign) (begins_section bytes) here.plain at))

  begins-here : (fresh : Bool) (last place byte : ℕ) (bytes : List ℕ) → At fresh last place byte bytes
      → (byte == at_sign) ≡ true → (next : Where)
      → Longest (one false next place (byte ∷ bytes) (plain (kinds.Code (code_at bytes)) 2))
  begins-here fresh last place byte bytes here at next = (
    λ s. not-both (is_section (code_at bytes)) s (both-failed (byte == at_sign) (begins_section bytes) here.plain at),
    tt,
  )

  passed-longest : (w : Where) (fresh : Bool) (last place byte : ℕ) (bytes : List ℕ) → At fresh last place byte bytes
      → (cut : Cut) → IsPassed w fresh place byte bytes cut → Says (in_hash_line w.part) place cut.size cut.kind
  passed-longest w fresh last place byte bytes here _ (IncludeName h behind closes) = subst (λ l. IsIncludeName l
      (include_name place (byte ∷ bytes)).size) (sym here.here) (record { opened = h; closed = closes; whole = refl })
  passed-longest w fresh last place byte bytes here _ (Prefixed h) = subst
      (λ l. IsString l (string kinds.Quoted (prefix_size (byte ∷ bytes) + 1) (slice_index (byte ∷ bytes)
      (prefix_size (byte ∷ bytes))) place (byte ∷ bytes)).size) (sym here.here) (prefixed-is place byte bytes h)
  passed-longest w fresh last place byte bytes here _ (Quoted letter h) =
      subst (λ l. IsString l (string kinds.Quoted (prefix_size (byte ∷ bytes) + 1) byte place (byte ∷ bytes)).size)
      (sym here.here) (unprefixed-is place byte bytes (no-prefix byte bytes letter) h)
  passed-longest w fresh last place byte bytes here _ (Constant h) = ap constant (sym here.here)
  passed-longest w fresh last place byte bytes here _ (Standing at e) = token-here (in_hash_line w.part)
      (code_at bytes) place (byte ∷ bytes) (both-failed (byte == at_sign) (begins_section bytes) here.plain at)
  passed-longest w fresh last place byte bytes here _ (Dropping note at e) = tt
  passed-longest w fresh last place byte bytes here _ (OfSign sign e b) = subst (λ l. IsSign sign l (length
      (spelling sign))) (sym here.here) (sign-is (byte ∷ bytes) sign e (none-below (constant (byte ∷ bytes)) b.constant)
      (no-comment (byte == slash) (begins star bytes) (begins slash bytes) b.long b.short))
  passed-longest w fresh last place byte bytes here _ (Other e b) =
      subst (λ l. IsOtherByte (in_hash_line w.part) l 1) (sym here.here) (other-is w fresh byte bytes b e)

  code-longest : (w : Where) (fresh : Bool) (last place byte : ℕ) (bytes : List ℕ) → At fresh last place byte bytes
      → (f : ScanStep) → CodeRule w fresh last place byte bytes f → Longest f
  code-longest w fresh last place byte bytes here _ (LineEnd h) =
      line-end-longest w.part w.comments last place (ap (begins newline) here.here ∙ h) here.behind
  code-longest w fresh last place byte bytes here _ (HashLine h takes first) =
      one-longest true (moved w (parts.Plain true behinds.Hash)) place (byte ∷ bytes) (plain kinds.HashLine 1)
      (ap (begins hash) here.here ∙ h, refl, here.freshly ∙ first)
  code-longest w fresh last place byte bytes here _ (Word bare h) =
      word-longest (in_hash_line w.part) (directive_at w.part (byte ∷ bytes)) (moved w (behind_word w.part (byte ∷
      bytes))) place byte bytes here.here h
  code-longest w fresh last place byte bytes here _ (Passed cut p) = one-longest (in_hash_line w.part)
      (moved w (passed w.part)) place (byte ∷ bytes) cut (passed-longest w fresh last place byte bytes here cut p)
  code-longest w fresh last place byte bytes here _ (Heading at e name may headed) =
      code-here (in_hash_line w.part) (moved w parts.Head) fresh last place byte bytes here at
  code-longest w fresh last place byte bytes here _ (Beginning effect part at e begun) =
      begins-here fresh last place byte bytes here at (moved w part)
  code-longest w fresh last place byte bytes here _ _ = tt

  -- ## Comments, limbo, TeX text and heads

  comment-longest : (part : Part) (c : Opened) (comments : List Opened) (fresh : Bool) (last place byte : ℕ)
      (bytes : List ℕ) → At fresh last place byte bytes → (f : ScanStep)
      → CommentRule part c comments last place byte bytes f → Longest f
  comment-longest part c comments fresh last place byte bytes here _ (Closed long h) =
      noted-longest text (missing c place)
  comment-longest part c comments fresh last place byte bytes here _ (EndedLine short h) = append-longest text
      (comment_end (in_hash_line part) c place 0 []) (line_end part comments last place).answers (noted-longest text
      (missing c place)) (line-end-longest part comments last place (ap (begins newline) here.here ∙ h) here.behind)
  comment-longest part c comments fresh last place byte bytes here _ (InnerBegin h deep) = tt
  comment-longest part c comments fresh last place byte bytes here _ (Piece closes line opens) =
      (tt, noted-longest text (noted (piece_start part comments c place) (byte ∷ bytes)))

  limbo-longest : (fresh : Bool) (last place byte : ℕ) (bytes : List ℕ) → At fresh last place byte bytes
      → (f : ScanStep) → LimboRule place byte bytes f → Longest f
  limbo-longest fresh last place byte bytes here _ (LimboCode at e) =
      code-here false (within parts.Limbo) fresh last place byte bytes here at
  limbo-longest fresh last place byte bytes here _ (LimboFormat at e) =
      begins-here fresh last place byte bytes here at (within parts.Limbo)
  limbo-longest fresh last place byte bytes here _ _ = (tt, tt)

  dots-here : (place byte : ℕ) (bytes : List ℕ) → drop place text ≡ byte ∷ bytes → is_letter byte ≡ false
      → (byte == comma) ≡ false → (byte == right_paren) ≡ false → is_parameter (byte ∷ bytes) ≡ true
      → IsSign signs.Ellipsis (drop place text) 3
  dots-here place byte bytes here letter none more h = subst (λ l. IsSign signs.Ellipsis l 3) (sym here)
      (dots-are (byte ∷ bytes) (other-one (byte == right_paren) _
      (other-one (byte == comma) _ (other-one (is_letter byte) _ h letter) none) more))

  part-longest : (fresh : Bool) (last place byte : ℕ) (bytes : List ℕ) → At fresh last place byte bytes → (part : Part)
      → Wants part (byte ∷ bytes) → (f : ScanStep) → PartRule fresh last place byte bytes part f → Longest f
  part-longest fresh last place byte bytes here _ p _ (OfCode part f is r) =
      code-longest (within part) fresh last place byte bytes here f r
  part-longest fresh last place byte bytes here _ p _ (OfLimbo f r) = limbo-longest fresh last place byte bytes here f r
  part-longest fresh last place byte bytes here _ p _ (TexCode at e) =
      code-here false (within parts.Tex) fresh last place byte bytes here at
  part-longest fresh last place byte bytes here _ p _ (TexHeading at e name headed) =
      code-here false (within parts.Head) fresh last place byte bytes here at
  part-longest fresh last place byte bytes here _ p _ (TexDropped note at e) =
      (tt, noted-longest text (control_or_plain (code_at bytes) place (byte ∷ bytes)).notes)
  part-longest fresh last place byte bytes here _ p _ (TexBeginning effect part at e begun) =
      begins-here fresh last place byte bytes here at (within part)
  part-longest fresh last place byte bytes here _ p _ (TexText at h) = (tt, tt)
  part-longest fresh last place byte bytes here _ p _ (HeadSign h) =
      let size = if begins equals bytes then 2 else 1 in
      one-longest false (within (parts.Plain false behinds.Other)) place (byte ∷ bytes) (plain kinds.HeadSign size)
      (subst
      (λ l. (0 < size) × (size ≡ head_sign_size l)) (sym here.here) (head-sign byte bytes (sign-here byte bytes h p)))
  part-longest fresh last place byte bytes here _ p _ (HeadWord part next h k) =
      word-longest false No (within next) place byte bytes here.here h
  part-longest fresh last place byte bytes here _ p _ (Opening code) =
      one-longest false (within (parts.Parameters code)) place (byte ∷ bytes) (plain (kinds.Sign signs.LeftParen) 1)
      (sign-here-is signs.LeftParen place byte left_paren bytes here.here p refl refl refl)
  part-longest fresh last place byte bytes here _ p _ (ParameterSign code _ _ (CommaStands h)) =
      one-longest false (within (parts.Parameters code)) place (byte ∷ bytes) (plain (kinds.Sign signs.Comma) 1)
      (sign-here-is signs.Comma place byte comma bytes here.here h refl refl refl)
  part-longest fresh last place byte bytes here _ p _ (ParameterSign code _ _ (Closes h)) =
      one-longest false (within parts.Definition) place (byte ∷ bytes) (plain (kinds.Sign signs.RightParen) 1)
      (sign-here-is signs.RightParen place byte right_paren bytes here.here h refl refl refl)
  part-longest fresh last place byte bytes here _ p _ (ParameterSign code _ _ (Dots white letter none more follows)) =
      one-longest false (within (parts.Parameters code)) place (byte ∷ bytes) (plain (kinds.Sign signs.Ellipsis) 3)
      (dots-here place byte bytes here.here letter none more (parameter-here byte bytes white follows))
  part-longest fresh last place byte bytes here _ p _ (Improper part kind code f is r) =
      code-longest (within parts.Definition) fresh last place byte bytes here f r
  part-longest fresh last place byte bytes here _ p _ (ImproperInLimbo code second f r) =
      limbo-longest fresh last place byte bytes here f r
  part-longest fresh last place byte bytes here _ p _ _ = tt

  in-text-longest : (part : Part) (comments : List Opened) (fresh : Bool) (last place byte : ℕ) (bytes : List ℕ)
      → At fresh last place byte bytes → WantsIn part comments (byte ∷ bytes)
      → Longest (in_text_apart part comments fresh last place byte bytes)
  in-text-longest part [] fresh last place byte bytes here p =
      part-longest fresh last place byte bytes here part p _ (part-rule fresh last place byte bytes part)
  in-text-longest part (c ∷ comments) fresh last place byte bytes here p =
      let w : Where = record { part = part; comments = c ∷ comments } in
      if-both Longest c.inner _ _ (λ h. code-longest w fresh last place byte bytes here _
      (code-rule w fresh last place byte bytes)) (λ h. comment-longest part c comments fresh last place byte bytes here
      _ (comment-rule part c comments last place byte bytes))

  section-longest : (w : Where) (place byte : ℕ) (bytes : List ℕ) → drop place text ≡ byte ∷ bytes
      → (byte == at_sign && begins_section bytes) ≡ true → Longest (section w place bytes)
  section-longest w place byte bytes here h =
      let code = section_code (at_sign ∷ bytes) in
      let P : Cut → Type 0 = λ c. c.size ≡ (section_code (drop place text)).size → Says false place c.size c.kind in
      append-longest text (all_cut w.part w.comments place place) _ (bare-longest text place
      (all_cut w.part w.comments place place) (bare-all-cut w.part w.comments place place)) (one-longest false w place
      (at_sign ∷ bytes) code (if-both P (begins star bytes) _ _ (λ k. says at.StarredSection (starred-is bytes k) _)
      (λ k. says at.Section (section-is bytes (both-right (byte == at_sign) (begins_section bytes) h) k) _) size))
    where
      shown : drop place text ≡ at_sign ∷ bytes
      shown = here ∙ ap (λ b. b ∷ bytes) (eqb-true byte at_sign (both-left (byte == at_sign) (begins_section bytes) h))

      size : (section_code (at_sign ∷ bytes)).size ≡ (section_code (drop place text)).size
      size = ap (λ l. (section_code l).size) (sym shown)

      says : (c : Code) → code_at bytes ≡ c → (n : ℕ) → n ≡ (section_code (drop place text)).size
          → Says false place n (kinds.Code c)
      says c e n size s = grind (arith, nat_tests, shown, size)

  -- what the byte at a place says of the next one
  abbrev Known : Bool → ℕ → ℕ → Type 0
  Known fresh last place = (fresh_at text place ≡ fresh) × (last_at text place ≡ last)

  known-on : (fresh : Bool) (last place byte : ℕ) (bytes : List ℕ) → drop place text ≡ byte ∷ bytes
      → Known fresh last place → Known (still_fresh fresh byte) byte (place + 1)
  known-on fresh last place byte bytes here k = (
    sym (fresh-more true text place 1) ∙ ap (λ l. fresh_after (fresh_at text place) (take 1 l)) here
        ∙ ap (λ f. still_fresh f byte) k.0,
    sym (last-more 0 text place 1) ∙ ap (λ l. last_after (last_at text place) (take 1 l)) here,
  )

  all-longest : (bytes : List ℕ) (w : Where) (fresh : Bool) (last place taken : ℕ) → drop place text ≡ bytes
      → Known fresh last place → WantsIn w.part w.comments (drop taken bytes)
      → AreLongest text (answers bytes w fresh last place taken)
  all-longest [] w fresh last place taken here k p = bare-longest text place
      (all_cut w.part w.comments place (place - 1)) (bare-all-cut w.part w.comments place (place - 1))
  all-longest (byte ∷ bytes) w fresh last place zero here k p =
      let f = found_apart w fresh last place byte bytes in
      append-longest text f.answers (answers bytes f.next (still_fresh fresh byte) byte (place + 1) f.more)
      (if-both Longest (byte == at_sign && begins_section bytes) _ _ (λ h. section-longest w place byte bytes here h)
      (λ h. in-text-longest w.part w.comments fresh last place byte bytes
      (record { here = here; freshly = k.0; behind = k.1; plain = h }) p))
      (all-longest bytes f.next (still_fresh fresh byte) byte (place + 1) f.more (drop-on text place byte bytes here)
      (known-on fresh last place byte bytes here k) (found-goes w fresh last place byte bytes p))
  all-longest (byte ∷ bytes) w fresh last place (suc taken) here k p = all-longest bytes w (still_fresh fresh byte) byte
      (place + 1) taken (drop-on text place byte bytes here) (known-on fresh last place byte bytes here k) p

pub tokens-are-longest : TokensAreLongest
tokens-are-longest = record {
  tokens = λ text start end mode. let cut = take end text in
      all-longest cut (drop start cut) (beginning mode) (fresh_at cut start) (last_at cut start) start 0 refl
      (refl, refl) (beginning-wants mode (drop start cut));
  c_parts = c-parts;
}
