-- A text ends before the code with which a section or another part begins, and goes on from there as that part.
use Rattle.std.proofs.Common.{◌≡◌, ℕ, zero, suc, ◌+◌, ◌-◌, ◌<◌, ◌≤◌, Bool, true, false, ◌&&◌, ◌==◌, List, [], ◌∷◌, ◌++◌}
use Rattle.std.proofs.Common.{Option, Some, length, slice_index, take, drop, refl, sym, ap, subst, ◌∙◌, arith}
use Rattle.std.proofs.Common.{append_assoc, length-drop, inl, inr}
use Rattle.std.specs.Prelude.{if◌then◌else◌}
use Rattle.std.proofs.{lemmas.Bool.eqb-true, lemmas.Bool.Decides.nat_tests}
use Rattle.std.proofs.lemmas.List.{drop-drop, take-take, take_all, drop_all}
use Rattle.cw_base.proofs.TestLaws.{both-left, both-right, not-both}
use Rattle.cw_rules.specs.declared.{codes.Code.Code, tokens.Mode.Mode, tokens.TokKind.TokKind}
use Rattle.cw_rules.specs.Answers.{Answer, Token, Finish, Note, Seen, Where, Cut, ScanStep, note_answers, cut_token}
use Rattle.cw_rules.specs.{Answers.has_sign, Answers.is_head_sign, Bytes.at_sign, Bytes.greater, Bytes.begins}
use Rattle.cw_rules.specs.{Codes.code_at, Codes.is_section, Codes.begins_section, Tokens.all_cut, Tokens.section}
use Rattle.cw_rules.specs.{Tokens.section_code, model.Apart.in_text_apart, model.Apart.found_apart}
use Rattle.cw_lex.specs.{model.Coming.found_at, Lexing.answers_at, Nested.is_section_kind, Nested.begins_section_in}
use Rattle.cw_lex.specs.Lexing.{beginning, still_fresh, joined, answers, fresh_after, last_after, fresh_at, last_at}
use Rattle.cw_lex.specs.Openings.{tokens_in, named, opened_by, is_limbo_mode, EndsBefore}
use Rattle.cw_rules.proofs.{Ahead.drop-same, Ahead.take-same, Choices.if-both, RulesAhead.found-local, Taking.AreBare}
use Rattle.cw_rules.proofs.{Taking.AreNotes, Taking.bare-all-cut, Taking.found-takes, Runs.drop-here, Within.found-fits}
use Rattle.cw_rules.proofs.CodeStarts.{kind_code, code_in, is_opener, is_limbo, is_head_where, in-text-tells}
use Rattle.cw_rules.proofs.CodeTwins.{Twin, Opens, Named, OpensAt, OpensBy, beginning_of, found-twin}
use Rattle.cw_lex.proofs.{Covering.drop-part, FirstTokens.no-token-bare, FirstTokens.begun}
use Rattle.cw_lex.proofs.Walk.{fresh-more, last-more, answers-at}
use Rattle.cw_lex.proofs.FirstTokens.{bare-tokens, bare-code, notes-sign, head-is, tail-is, token-is, Split, split}
use Rattle.cw_rules.specs.declared.parts.Part.TheVariants as parts
use Rattle.cw_rules.specs.declared.tokens.Mode.TheVariants as modes
use Rattle.cw_rules.specs.declared.tokens.TokKind.TheVariants as kinds

-- ## What begins at a place

abbrev tex : Where
tex = record { part = parts.Tex; comments = [] }

-- where a code with which a part begins is told
record Opening (w : Where) (place byte : ℕ) (bytes : List ℕ) (f : ScanStep) : Type 0 where
  byte-is : byte ≡ 64
  opener : is_opener (code_at bytes) ≡ true
  same : is_section (code_in f.answers) ≡ false → code_at bytes ≡ code_in f.answers
  behind : is_section (code_in f.answers) ≡ true → f ≡ section w place bytes

pub section-opens : (c : Code) → is_section c ≡ true → is_opener c ≡ true
section-opens c h = grind arith

-- what a section code is as a token
record IsCode (cut : Cut) : Type 0 where
  code : is_section (kind_code cut.kind) ≡ true
  sign : is_head_sign cut.kind ≡ false
  notes : cut.notes ≡ []

section-code-is : (bytes : List ℕ) → IsCode (section_code bytes)
section-code-is bytes = grind (arith, nat_tests, if-both)

section-found : (w : Where) (place : ℕ) (bytes : List ℕ) → is_section (code_in (section w place bytes).answers) ≡ true
section-found w place bytes = grind (arith, nat_tests, bare-code, bare-all-cut, section-code-is)

opening : (w : Where) (fresh : Bool) (last place byte : ℕ) (bytes : List ℕ) → is_opener (code_in (found_apart w fresh
    last place byte bytes).answers) ≡ true → Opening w place byte bytes (found_apart w fresh last place byte bytes)
opening w fresh last place byte bytes o = by (byte == at_sign && begins_section bytes) refl
  where
    f : ScanStep
    f = found_apart w fresh last place byte bytes

    by : (t : Bool) → (byte == at_sign && begins_section bytes) ≡ t → Opening w place byte bytes f
    by true e =
        let is-section : f ≡ section w place bytes = grind (arith, nat_tests) in
        record {
          byte-is = eqb-true byte at_sign (both-left (byte == at_sign) (begins_section bytes) e);
          opener = section-opens (code_at bytes) (both-right (byte == at_sign) (begins_section bytes) e);
          same = λ h. not-both _ (section-found w place bytes) (ap (λ (f : ScanStep). is_section (code_in f.answers))
              (sym is-section) ∙ h);
          behind = λ h. is-section;
        }
    by false e =
        let g = in_text_apart w.part w.comments fresh last place byte bytes in
        let plain : f ≡ g = ap (λ t. if t then section w place bytes else g) e in
        let told = (in-text-tells w.part w.comments fresh last place byte bytes).code
        (ap (λ (f : ScanStep). is_opener (code_in f.answers)) (sym plain) ∙ o) in
        let same : code_at bytes ≡ code_in f.answers = told.1 ∙ ap (λ (f : ScanStep). code_in f.answers) (sym plain) in
        let none : begins_section bytes ≡ false = ap (λ b. b == at_sign && begins_section bytes) (sym told.0) ∙ e in
        record {
          byte-is = told.0;
          opener = ap is_opener same ∙ o;
          same = λ h. same;
          behind = λ h. not-both _ h (ap is_section (sym same) ∙ none);
        }

limbo-stays : (w : Where) (fresh : Bool) (last place byte : ℕ) (bytes : List ℕ) → is_limbo w.part ≡ false
    → is_limbo (found_apart w fresh last place byte bytes).next.part ≡ false
limbo-stays w fresh last place byte bytes h = if-both (λ (f : ScanStep). is_limbo f.next.part
    ≡ false) (byte == at_sign &&
    begins_section bytes) (section w place bytes) (in_text_apart w.part w.comments fresh last place byte bytes)
    (λ e. refl) (λ e. (in-text-tells w.part w.comments fresh last place byte bytes).limbo h)

opener-code : (more : List ℕ) → is_opener (code_at more) ≡ true → begins greater more ≡ false
opener-code more h = grind (arith, nat_tests, is_opener, eqb-true)

-- ## The sign behind a name

bare-sign : (place : ℕ) (xs ys : List Answer) → AreBare place xs → has_sign ys ≡ false → has_sign (xs ++ ys) ≡ false
bare-sign place [] ys h k = k
bare-sign place (Finish t ∷ xs) ys h k = refl
bare-sign place (Note kind about ∷ xs) ys h k = bare-sign place xs ys h k
bare-sign _ _ _ h _ = absurd h

section-sign : (w : Where) (place : ℕ) (bytes : List ℕ) (rest : List Answer)
    → has_sign ((section w place bytes).answers ++ rest) ≡ false
section-sign w place bytes rest = grind (arith, nat_tests, append_assoc, bare-sign, bare-all-cut, section-code-is)

-- The sign comes only where it is wanted.
signless : (bytes : List ℕ) (w : Where) (fresh : Bool) (last place taken : ℕ) → is_head_where w ≡ false
    → has_sign (answers bytes w fresh last place taken) ≡ false
signless [] w fresh last place taken h =
    let cut = all_cut w.part w.comments place (place - 1) in
    ap has_sign (sym (append-none cut)) ∙ bare-sign place cut [] (bare-all-cut w.part w.comments place (place - 1)) refl
  where
    append-none : (xs : List Answer) → xs ++ [] ≡ xs
    append-none [] = refl
    append-none (x ∷ xs) = ap (λ l. x ∷ l) (append-none xs)
signless (byte ∷ bytes) w fresh last place zero h =
    let f = found_apart w fresh last place byte bytes in
    let rest = answers bytes f.next (still_fresh fresh byte) byte (place + 1) f.more in
    by (byte == at_sign && begins_section bytes) refl (λ k. signless bytes f.next (still_fresh fresh byte) byte
    (place + 1) f.more k)
  where
    by : (t : Bool) → (byte == at_sign && begins_section bytes) ≡ t → (is_head_where (found_apart w fresh last place
        byte bytes).next ≡ false → has_sign (answers bytes (found_apart w fresh last place byte bytes).next
        (still_fresh fresh byte) byte (place + 1) (found_apart w fresh last place byte bytes).more) ≡ false) → has_sign
        ((found_apart w fresh last place byte bytes).answers ++ answers bytes (found_apart w fresh last place byte
        bytes).next (still_fresh fresh byte) byte (place + 1) (found_apart w fresh last place byte bytes).more) ≡ false
    by true e rec =
        let f = found_apart w fresh last place byte bytes in
        let rest = answers bytes f.next (still_fresh fresh byte) byte (place + 1) f.more in
        ap (λ t. has_sign ((if t then section w place bytes else in_text_apart w.part w.comments fresh last place byte
        bytes).answers ++ rest)) e ∙ section-sign w place bytes rest
    by false e rec =
        let f = found_apart w fresh last place byte bytes in
        let g = in_text_apart w.part w.comments fresh last place byte bytes in
        let rest = answers bytes f.next (still_fresh fresh byte) byte (place + 1) f.more in
        let plain : f ≡ g = ap (λ t. if t then section w place bytes else g) e in
        ap (λ (f : ScanStep). has_sign (f.answers ++ rest)) plain
        ∙ (in-text-tells w.part w.comments fresh last place byte bytes).sign h rest
        (λ k. rec (ap (λ (f : ScanStep). is_head_where f.next) plain ∙ k))
signless (byte ∷ bytes) w fresh last place (suc taken) h = signless bytes w (still_fresh fresh byte) byte (place + 1)
    taken h

-- ## Section codes

pub bare-uncut : (place : ℕ) (xs : List Answer) → AreBare place xs → begins_section_in xs ≡ false
bare-uncut place [] h = refl
bare-uncut place (Finish t ∷ xs) h = bare-uncut place xs h.3
bare-uncut place (Note kind about ∷ xs) h = bare-uncut place xs h
bare-uncut _ _ h = absurd h

bare-codes : (place : ℕ) (xs ys : List Answer) → AreBare place xs → begins_section_in (xs ++ ys) ≡ begins_section_in ys
bare-codes place [] ys h = refl
bare-codes place (Finish t ∷ xs) ys h = bare-codes place xs ys h.3
bare-codes place (Note kind about ∷ xs) ys h = bare-codes place xs ys h
bare-codes _ _ _ h = absurd h

section-kind-code : (c : Code) → is_section_kind (kinds.Code c) ≡ is_section c
section-kind-code c = grind arith

pub section-kind-is : (k : TokKind) → is_section_kind k ≡ is_section (kind_code k)
section-kind-is k = grind (arith, section-kind-code)

-- a section code cuts
pub section-cuts : (w : Where) (place : ℕ) (bytes : List ℕ) (rest : List Answer)
    → begins_section_in ((section w place bytes).answers ++ rest) ≡ true
section-cuts w place bytes rest =
    grind (arith, nat_tests, append_assoc, bare-codes, bare-all-cut, section-kind-is, section-code-is)

pub uncut-right : (xs ys : List Answer) → begins_section_in (xs ++ ys) ≡ false → begins_section_in ys ≡ false
uncut-right [] ys h = h
uncut-right (x ∷ xs) ys h = grind (arith, nat_tests, uncut-right xs ys)

-- ## Up to a token

-- The text before the token at which a part begins, and what begins there.
record Stop (bytes : List ℕ) (w : Where) (fresh : Bool) (last place taken : ℕ) (xs : List Answer) (t : Seen)
    (ys : List Answer) : Type 0 where
  inside : List ℕ
  byte : ℕ
  behind : List ℕ
  end : ℕ
  next : Where
  front : List Answer
  notes : List Answer
  split : bytes ≡ inside ++ byte ∷ behind
  reach : taken ≤ length inside
  end-is : end ≡ place + length inside
  starts : t.span.start ≡ end
  body : List Answer
  cut : List Answer
  alone : answers inside w fresh last place taken ≡ body ++ cut
  whole : xs ≡ body ++ front
  cut-tokens : tokens_in cut ≡ []
  bare : AreBare end front
  limbo : is_limbo w.part ≡ false → is_limbo next.part ≡ false
  found-is : (found_apart next (fresh_after fresh inside) (last_after last inside) end byte behind).answers
      ≡ front ++ Token t ∷ notes
  ends : t.span.end ≡ (end + 1) + (found_apart next (fresh_after fresh inside) (last_after last inside) end byte
      behind).more
  only : AreNotes notes
  rest : ys ≡ notes ++ answers behind (found_apart next (fresh_after fresh inside) (last_after last inside) end byte
      behind).next (still_fresh (fresh_after fresh inside) byte) byte (end + 1)
      (found_apart next (fresh_after fresh inside) (last_after last inside) end byte behind).more
  opening : Opening next end byte behind (found_apart next (fresh_after fresh inside) (last_after last inside) end byte
      behind)

further : (bytes : List ℕ) (w : Where) (fresh : Bool) (last place taken byte : ℕ) (xs : List Answer) (t : Seen)
    (ys : List Answer) → Stop bytes w (still_fresh fresh byte) byte (place + 1) taken xs t ys
    → Stop (byte ∷ bytes) w fresh last place (suc taken) xs t ys
further bytes w fresh last place taken byte xs t ys s = record {
  inside = byte ∷ s.inside;
  byte = s.byte;
  behind = s.behind;
  end = s.end;
  next = s.next;
  front = s.front;
  notes = s.notes;
  split = ap (λ l. byte ∷ l) s.split;
  reach = omega (arith, s.reach);
  end-is = omega (arith, s.end-is);
  starts = s.starts;
  body = s.body;
  cut = s.cut;
  alone = s.alone;
  whole = s.whole;
  cut-tokens = s.cut-tokens;
  bare = s.bare;
  limbo = s.limbo;
  found-is = s.found-is;
  ends = s.ends;
  only = s.only;
  rest = s.rest;
  opening = s.opening;
}

-- behind what begins at a byte
past : (bytes : List ℕ) (w : Where) (fresh : Bool) (last place byte : ℕ) (xs zs : List Answer) (t : Seen)
    (ys : List Answer) → xs ≡ (found_apart w fresh last place byte bytes).answers ++ zs
    → Stop bytes (found_apart w fresh last place byte bytes).next (still_fresh fresh byte) byte (place + 1)
    (found_apart w fresh last place byte bytes).more zs t ys → Stop (byte ∷ bytes) w fresh last place 0 xs t ys
past bytes w fresh last place byte xs zs t ys e s =
    let f = found_apart w fresh last place byte bytes in
    let g = found_apart w fresh last place byte s.inside in
    let cut : bytes ≡ s.inside ++ 64 ∷ s.behind = s.split ∙ ap (λ b. s.inside ++ b ∷ s.behind) s.opening.byte-is in
    let fits : (found_apart w fresh last place byte (s.inside ++ 64 ∷ s.behind)).more ≤ length s.inside =
    omega (arith, s.reach, ap (λ l. (found_apart w fresh last place byte l).more) cut) in
    let same : f ≡ g = ap (found_apart w fresh last place byte) cut
    ∙ (found-local s.behind (opener-code s.behind s.opening.opener) w fresh last place byte s.inside).same fits in
    record {
      inside = byte ∷ s.inside;
      byte = s.byte;
      behind = s.behind;
      end = s.end;
      next = s.next;
      front = s.front;
      notes = s.notes;
      split = ap (λ l. byte ∷ l) s.split;
      reach = omega arith;
      end-is = omega (arith, s.end-is);
      starts = s.starts;
      body = f.answers ++ s.body;
      cut = s.cut;
      alone = ap (λ (h : ScanStep). h.answers ++ answers s.inside h.next (still_fresh fresh byte) byte
          (place + 1) h.more)
          (sym same) ∙ ap (λ l. f.answers ++ l) s.alone ∙ sym (append_assoc f.answers s.body s.cut);
      whole = e ∙ ap (λ l. f.answers ++ l) s.whole ∙ sym (append_assoc f.answers s.body s.front);
      cut-tokens = s.cut-tokens;
      bare = s.bare;
      limbo = λ h. s.limbo (limbo-stays w fresh last place byte bytes h);
      found-is = s.found-is;
      ends = s.ends;
      only = s.only;
      rest = s.rest;
      opening = s.opening;
    }

-- the token begins here
here : (bytes : List ℕ) (w : Where) (fresh : Bool) (last place byte : ℕ) (xs : List Answer) (t : Seen) (ys zs : List
    Answer) → is_opener (kind_code t.kind) ≡ true → (found_apart w fresh last place byte bytes).answers ≡ xs
    ++ Token t ∷ zs → ys ≡ zs ++ answers bytes (found_apart w fresh last place byte bytes).next (still_fresh fresh byte)
    byte (place + 1) (found_apart w fresh last place byte bytes).more → Stop (byte ∷ bytes) w fresh last place 0 xs t ys
here bytes w fresh last place byte xs t ys zs o e r =
    let f = found_apart w fresh last place byte bytes in
    let takes = found-takes w fresh last place byte bytes in
    let b = begun place (byte ∷ bytes) f.more takes.first takes.rest xs t zs takes.bare takes.whole (sym takes.split
    ∙ e) in
    let code : code_in f.answers ≡ kind_code t.kind = ap code_in e ∙ bare-code place xs (Token t ∷ zs) b.bare in
    record {
      inside = [];
      byte = byte;
      behind = bytes;
      end = place;
      next = w;
      front = xs;
      notes = zs;
      split = refl;
      reach = omega arith;
      end-is = omega arith;
      starts = b.whole.from;
      body = [];
      cut = all_cut w.part w.comments place (place - 1);
      alone = refl;
      whole = refl;
      cut-tokens = bare-tokens place (all_cut w.part w.comments place (place - 1))
          (bare-all-cut w.part w.comments place (place - 1));
      bare = b.bare;
      limbo = λ h. h;
      found-is = e;
      ends = b.whole.to;
      only = b.notes;
      rest = r;
      opening = opening w fresh last place byte bytes (ap is_opener code ∙ o);
    }

walk : (bytes : List ℕ) (w : Where) (fresh : Bool) (last place taken : ℕ) (xs : List Answer) (t : Seen)
    (ys : List Answer) → is_opener (kind_code t.kind) ≡ true
    → answers bytes w fresh last place taken ≡ xs ++ Token t ∷ ys → Stop bytes w fresh last place taken xs t ys
walk [] w fresh last place taken xs t ys o e = grind (arith, no-token-bare, bare-all-cut)
walk (byte ∷ bytes) w fresh last place zero xs t ys o e =
    let f = found_apart w fresh last place byte bytes in
    by (split f.answers (answers bytes f.next (still_fresh fresh byte) byte (place + 1) f.more) xs t ys e)
    (λ zs g. walk bytes f.next (still_fresh fresh byte) byte (place + 1) f.more zs t ys o g)
  where
    by : Split (found_apart w fresh last place byte bytes).answers (answers bytes (found_apart w fresh last place byte
        bytes).next (still_fresh fresh byte) byte (place + 1) (found_apart w fresh last place byte bytes).more) xs t ys
        → ((zs : List Answer) → answers bytes (found_apart w fresh last place byte bytes).next (still_fresh fresh byte)
        byte (place + 1) (found_apart w fresh last place byte bytes).more ≡ zs ++ Token t ∷ ys → Stop bytes
        (found_apart w fresh last place byte bytes).next (still_fresh fresh byte) byte (place + 1)
        (found_apart w fresh last place byte bytes).more zs t ys) → Stop (byte ∷ bytes) w fresh last place 0 xs t ys
    by (inl s) rec = past bytes w fresh last place byte xs s.0 t ys s.1 (rec s.0 s.2)
    by (inr s) rec = here bytes w fresh last place byte xs t ys s.0 o s.1 s.2
walk (byte ∷ bytes) w fresh last place (suc taken) xs t ys o e = further bytes w fresh last place taken byte xs t ys
    (walk bytes w (still_fresh fresh byte) byte (place + 1) taken xs t ys o e)

-- ## In a text

cancel : (xs ys zs : List Answer) → xs ++ ys ≡ xs ++ zs → ys ≡ zs
cancel [] ys zs e = e
cancel (x ∷ xs) ys zs e = cancel xs ys zs (tail-is x x (xs ++ ys) (xs ++ zs) e)

first-is : (a b : ℕ) (ls bs : List ℕ) → a ∷ ls ≡ b ∷ bs → a ≡ b
first-is a b ls bs e = cc

rest-is : (a b : ℕ) (ls bs : List ℕ) → a ∷ ls ≡ b ∷ bs → ls ≡ bs
rest-is a b ls bs e = cc

-- the first token of two lists that are the same
record SameToken (s t : Seen) (ms ns : List Answer) : Type 0 where
  token : s ≡ t
  behind : ms ≡ ns

same-token : (p q : ℕ) (xs ys : List Answer) (s t : Seen) (ms ns : List Answer) → AreBare p xs → AreBare q ys
    → xs ++ Token s ∷ ms ≡ ys ++ Token t ∷ ns → SameToken s t ms ns
same-token p q [] [] s t ms ns h g e = grind (arith, nat_tests, token-is, head-is, tail-is)
same-token p q (x ∷ xs) (y ∷ ys) s t ms ns h g e = same-token p q xs ys s t ms ns (rest p x xs h) (rest q y ys g)
    (tail-is x y (xs ++ Token s ∷ ms) (ys ++ Token t ∷ ns) e)
  where
    rest : (p : ℕ) (x : Answer) (xs : List Answer) → AreBare p (x ∷ xs) → AreBare p xs
    rest p x xs g = grind (arith, nat_tests)
same-token p q _ _ s t ms ns h g e = grind (arith, nat_tests, no-token-bare, head-is)

notes-bare : (p : ℕ) (xs : List Answer) → AreNotes xs → AreBare p xs
notes-bare p [] h = tt
notes-bare p (Note kind about ∷ xs) h = notes-bare p xs h
notes-bare _ _ h = absurd h

abbrev StopIn : List ℕ → ℕ → Mode → List Answer → Seen → List Answer → Type 0
StopIn text start mode xs t ys = Stop (drop start text) (beginning mode) (fresh_at text start) (last_at text start)
    start 0 xs t ys

module _ (text : List ℕ) (start : ℕ) (mode : Mode) (xs : List Answer) (t : Seen) (ys : List Answer)
    (s : StopIn text start mode xs t ys) where
  order : start ≤ s.end
  order = omega (arith, s.end-is)

  size : s.end - start ≡ length s.inside
  size = omega (arith, s.end-is)

  part : drop start (take s.end text) ≡ s.inside
  part = grind (arith, nat_tests, drop-part, order, size, take-same, take_all)

  at-end : drop s.end text ≡ s.byte ∷ s.behind
  at-end =
      let n = length s.inside in
      ap (λ k. drop k text) s.end-is ∙ sym (drop-drop n start text) ∙ ap (drop n) s.split ∙ drop-same n s.inside
      (s.byte ∷ s.behind) (omega arith) ∙ ap (λ l. l ++ s.byte ∷ s.behind) (drop_all n s.inside (omega arith))

  begun-same : take start (take s.end text) ≡ take start text
  begun-same = take-take start s.end text order

  ends-before : EndsBefore text start mode xs t
  ends-before = grind (arith, nat_tests, order, part, begun-same, bare-tokens)

  fresh-end : fresh_after (fresh_at text start) s.inside ≡ fresh_at text s.end
  fresh-end = grind (arith, part, drop-part, order, fresh-more)

  last-end : last_after (last_at text start) s.inside ≡ last_at text s.end
  last-end = grind (arith, part, drop-part, order, last-more)

  -- what begins at the end, where the scan of the whole stands there
  abbrev stopped : ScanStep
  stopped = found_apart s.next (fresh_after (fresh_at text start) s.inside)
      (last_after (last_at text start) s.inside) s.end s.byte s.behind

  -- the answers at the end, where the scan stands otherwise
  answers-end : (w : Where) → answers_at text w s.end ≡ joined (found_apart w (fresh_after (fresh_at text start)
      s.inside) (last_after (last_at text start) s.inside) s.end s.byte s.behind) (λ next size. answers s.behind next
      (still_fresh (fresh_after (fresh_at text start) s.inside) s.byte) s.byte (s.end + 1) size)
  answers-end w = λ i. answers (at-end i) w (sym fresh-end i) (sym last-end i) s.end 0

  within : s.end < length text
  within = omega (arith, length-drop s.end text, ap length at-end)

  byte-here : slice_index text s.end ≡ s.byte
  byte-here = grind (arith, nat_tests, first-is, drop-here, within, at-end)

  behind-here : drop (s.end + 1) text ≡ s.behind
  behind-here = grind (arith, nat_tests, rest-is, drop-here, within, at-end)

  found-here : found_at text s.next s.end ≡ stopped
  found-here = λ i. found_apart s.next (sym fresh-end i) (sym last-end i) s.end (byte-here i) (behind-here i)

  -- what follows the token, where the text is scanned from its end on
  rest-end : answers s.behind stopped.next (still_fresh (fresh_after (fresh_at text start) s.inside) s.byte) s.byte
      (s.end + 1) stopped.more ≡ answers_at text stopped.next t.span.end
  rest-end =
      let fits = found-fits s.next (fresh_after (fresh_at text start) s.inside)
      (last_after (last_at text start) s.inside) s.end s.byte s.behind in
      let left : t.span.end ≤ length text = omega (
        arith,
        s.ends,
        fits.more,
        length-drop s.end text,
        ap length at-end,
      ) in
      cancel stopped.answers _ _ (sym (answers-end s.next)
      ∙ answers-at text s.next s.end stopped t.span.end within found-here s.ends left)

  code-here : code_in stopped.answers ≡ kind_code t.kind
  code-here = ap code_in s.found-is ∙ bare-code s.end s.front (Token t ∷ s.notes) s.bare

-- ## At section codes

pub ends-at-sections : (text : List ℕ) (start : ℕ) (mode : Mode) (xs : List Answer) (t : Seen) (ys : List Answer)
    → answers_at text (beginning mode) start ≡ xs ++ Token t ∷ ys → is_section_kind t.kind ≡ true
    → EndsBefore text start mode xs t × (ys ≡ answers_at text (beginning modes.TexText) t.span.end)
ends-at-sections text start mode xs t ys e k =
    let section-is : is_section (kind_code t.kind) ≡ true = sym (section-kind-is t.kind) ∙ k in
    let s = walk (drop start text) (beginning mode) (fresh_at text start) (last_at text start) start 0 xs t ys
    (section-opens (kind_code t.kind) section-is) e in
    let f = stopped text start mode xs t ys s in
    let is : f ≡ section s.next s.end s.behind = s.opening.behind (ap is_section (code-here text start mode xs t ys s)
    ∙ section-is) in
    let code = section_code (64 ∷ s.behind) in
    let cut = all_cut s.next.part s.next.comments s.end s.end in
    let alone = ap note_answers (section-code-is (64 ∷ s.behind)).notes in
    let same = same-token s.end s.end cut s.front (cut_token false code s.end (64 ∷ s.behind)) t
    (note_answers code.notes) s.notes (bare-all-cut s.next.part s.next.comments s.end s.end) s.bare
    (ap (λ (f : ScanStep). f.answers) (sym is) ∙ s.found-is) in
    let none : s.notes ≡ [] = sym same.behind ∙ alone in (
      ends-before text start mode xs t ys s,
      s.rest ∙ ap (λ l. l ++ answers s.behind f.next
          (still_fresh (fresh_after (fresh_at text start) s.inside) s.byte) s.byte (s.end + 1) f.more) none
          ∙ rest-end text start mode xs t ys s ∙ ap (λ (f : ScanStep). answers_at text f.next t.span.end) is,
    )

-- ## At the beginnings of other parts

abbrev SignBy : Opens → Bool → Type 0
SignBy Named headed = headed ≡ true
SignBy o headed = Unit {0}

-- which part begins at a token
record PartAt (opened : Mode) (k : TokKind) (headed : Bool) : Type 0 where
  by : Opens
  code : OpensAt by (kind_code k)
  begins : beginning opened ≡ beginning_of by
  sign : SignBy by headed
  opener : is_opener (kind_code k) ≡ true
  plain : is_section (kind_code k) ≡ false

mode-is : (a b : Mode) → ◌≡◌ {A = Option Mode} (Some a) (Some b) → a ≡ b
mode-is a b e = cc

opened-name : (c : Code) (headed : Bool) (opened : Mode) → OpensAt Named c → is_opener c ≡ true → is_section c ≡ false
    → named headed ≡ Some opened → PartAt opened (kinds.Code c) headed
opened-name c headed opened n o p e = grind (arith, nat_tests, mode-is)

opened-code : (c : Code) (headed : Bool) (opened : Mode) → opened_by (kinds.Code c) headed ≡ Some opened
    → PartAt opened (kinds.Code c) headed
opened-code c headed opened e = grind (arith, nat_tests, mode-is, opened-name)

opened-so : (k : TokKind) (headed : Bool) (opened : Mode) → opened_by k headed ≡ Some opened → PartAt opened k headed
opened-so k headed opened e = grind (arith, opened-code)

limbo-mode : (mode : Mode) → is_limbo_mode mode ≡ false → is_limbo (beginning mode).part ≡ false
limbo-mode mode h = grind arith

-- The sign stands behind a name only where it is wanted.
wanted-sign : (bytes : List ℕ) (w : Where) (fresh : Bool) (last place taken : ℕ) (notes : List Answer) → AreNotes notes
    → has_sign (notes ++ answers bytes w fresh last place taken) ≡ true → is_head_where w ≡ true
wanted-sign bytes w fresh last place taken notes n h =
    grind (arith, nat_tests, is_head_where, not-both, notes-sign, signless)

opens-by : (o : Opens) (f : ScanStep) (headed : Bool) → OpensAt o (code_in f.answers) → SignBy o headed
    → (headed ≡ true → is_head_where f.next ≡ true) → OpensBy o f
opens-by o f headed c s h = grind arith

pub ends-at-openings : (text : List ℕ) (start : ℕ) (mode opened : Mode) (xs : List Answer) (t : Seen) (ys : List Answer)
    → is_limbo_mode mode ≡ false → answers_at text (beginning mode) start ≡ xs ++ Token t ∷ ys
    → opened_by t.kind (has_sign ys) ≡ Some opened → EndsBefore text start mode xs t
    × (Token t ∷ ys ≡ answers_at text (beginning opened) t.span.start)
ends-at-openings text start mode opened xs t ys l e k =
    let so = opened-so t.kind (has_sign ys) opened k in
    let s = walk (drop start text) (beginning mode) (fresh_at text start) (last_at text start) start 0 xs t ys so.opener
    e in
    let f = stopped text start mode xs t ys s in
    let fresh = fresh_after (fresh_at text start) s.inside in
    let last = last_after (last_at text start) s.inside in
    let code = code-here text start mode xs t ys s in
    let there : code_at s.behind ≡ code_in f.answers = s.opening.same (ap is_section code ∙ so.plain) in
    let head = λ (h : has_sign ys ≡ true). wanted-sign s.behind f.next (still_fresh fresh s.byte) s.byte (s.end + 1)
    f.more s.notes s.only (ap has_sign (sym s.rest) ∙ h) in
    let twin : Twin f (found_apart (beginning_of so.by) fresh last s.end s.byte s.behind) = subst
    (λ b. OpensBy so.by (found_apart s.next fresh last s.end b s.behind) → Twin
    (found_apart s.next fresh last s.end b s.behind) (found_apart (beginning_of so.by) fresh last s.end b s.behind))
    (sym s.opening.byte-is) (found-twin so.by s.next fresh last s.end s.behind (s.limbo (limbo-mode mode l))
    (ap is_section (there ∙ code) ∙ so.plain) (subst (OpensAt so.by) (sym (there ∙ code)) so.code))
    (opens-by so.by f (has_sign ys) (subst (OpensAt so.by) (sym code) so.code) so.sign head) in
    let g = found_apart (beginning_of so.by) fresh last s.end s.byte s.behind in
    let same = same-token s.end s.end twin.notes s.front twin.token t twin.behind s.notes
    (notes-bare s.end twin.notes twin.only) s.bare
    (ap (λ l. twin.notes ++ l) (sym twin.first) ∙ ap (λ (f : ScanStep). f.answers) (sym twin.same) ∙ s.found-is) in
    let rest : Where → ℕ → List Answer = λ next size. answers s.behind next (still_fresh fresh s.byte) s.byte
    (s.end + 1) size in (
      ends-before text start mode xs t ys s,
      ap (λ l. Token t ∷ l) (s.rest ∙ ap (λ (f : ScanStep). s.notes ++ rest f.next f.more) twin.same)
          ∙ (λ i. (Token (sym same.token i) ∷ sym same.behind i) ++ rest g.next g.more)
          ∙ ap (λ l. l ++ rest g.next g.more) (sym twin.first) ∙ sym (answers-end text start mode xs t ys s
          (beginning_of so.by)) ∙ (λ i. answers_at text (sym so.begins i) (sym s.starts i)),
    )
