-- Between the bytes of answers stands only white space, and a backslash only in a `#` line.
use Rattle.std.proofs.Common.{◌≡◌, ℕ, zero, suc, ◌+◌, ◌-◌, ◌≤◌, Bool, true, false, ◌&&◌, ◌||◌, ◌==◌, List, [], ◌∷◌}
use Rattle.std.proofs.Common.{◌++◌, Option, Some, None, length, take, drop, refl, sym, ap, subst, ◌∙◌, arith}
use Rattle.std.proofs.Common.{append_assoc, length-drop, append-nil}
use Rattle.std.proofs.lemmas.Bool.{cases_lt, eqb-true}
use Rattle.std.proofs.{lemmas.List.length-take, lemmas.Bool.Decides.nat_tests}
use Rattle.cw_base.proofs.TestLaws.{both, not-both}
use Rattle.cw_rules.specs.declared.{tokens.Mode.Mode, tokens.TokKind.TokKind}
use Rattle.cw_rules.specs.Answers.{Answer, Token, Begin, Finish, Note, Where, ScanStep}
use Rattle.cw_rules.specs.{Bytes.at_sign, Codes.is_section, Codes.begins_section, Order.begins_space, Order.AreWithin}
use Rattle.cw_rules.specs.{Tokens.all_cut, Tokens.in_hash_line, Tokens.section, model.Apart.in_text_apart}
use Rattle.cw_rules.specs.{model.Apart.found_apart}
use Rattle.cw_rules.proofs.{Choices.if-both, CodeStarts.code_in, Within.found-fits}
use Rattle.cw_rules.proofs.Taking.{AreBare, AreNotes, TakesAll, Takes, bare-all-cut, found-takes}
use Rattle.cw_lex.specs.Lexing.{still_fresh, answers, fresh_at, last_at, beginning, tokens_of}
use Rattle.cw_lex.specs.Nested.{is_section_kind}
use Rattle.cw_lex.proofs.Covering.{drop-part, begins-take, drop-on}
use Rattle.cw_lex.proofs.{TokensWithin.tokens-within, Openings.section-kind-is}
use Rattle.cw_laws.specs.WhiteSpace.{hash_line_by, hash_line_behind, begins_space_in, IsSpaceIn, LeavesSpace}
use Rattle.cw_laws.{specs.WhiteSpace.BackslashesContinueHashLines, proofs.SectionCodes.no-section}
use Rattle.cw_laws.proofs.HashLines.{kind_in, line_with, in-text-lined, has_start, found-starts}

-- ## What begins at a place

abbrev line_after : Bool → Option TokKind → Bool
line_after line None = line
line_after line (Some kind) = hash_line_behind line kind

abbrev IsNoSection : Option TokKind → Type 0
IsNoSection None = Unit {0}
IsNoSection (Some kind) = is_section_kind kind ≡ false

no-section-in : (xs : List Answer) → is_section (code_in xs) ≡ false → IsNoSection (kind_in xs)
no-section-in [] h = tt
no-section-in (Token t ∷ xs) h = section-kind-is t.kind ∙ h
no-section-in (Begin t ∷ xs) h = no-section-in xs h
no-section-in (Finish t ∷ xs) h = no-section-in xs h
no-section-in (Note kind place ∷ xs) h = no-section-in xs h

line-grows : (a line : Bool) (kind : TokKind) → (a ≡ true → line ≡ true) → hash_line_by a kind ≡ true
    → hash_line_by line kind ≡ true
line-grows a line kind h e = grind (arith, nat_tests)

after-grows : (a line : Bool) (o : Option TokKind) → (a ≡ true → line ≡ true) → IsNoSection o → line_with a o ≡ true
    → line_after line o ≡ true
after-grows a line o h s e = grind (arith, nat_tests, line-grows)

found-line : (w : Where) (fresh : Bool) (last place byte : ℕ) (bytes : List ℕ) (line : Bool)
    → (in_hash_line w.part ≡ true → line ≡ true) → in_hash_line (found_apart w fresh last place byte bytes).next.part
    ≡ true → line_after line (kind_in (found_apart w fresh last place byte bytes).answers) ≡ true
found-line w fresh last place byte bytes line h =
    let g = in_text_apart w.part w.comments fresh last place byte bytes in
    if-both (λ (f : ScanStep). in_hash_line f.next.part ≡ true → line_after line (kind_in f.answers) ≡ true)
    (byte == at_sign && begins_section bytes) (section w place bytes) g (λ k e. absurd cc)
    (λ k e. after-grows (in_hash_line w.part) line (kind_in g.answers) h (no-section-in g.answers
    (no-section w fresh last place byte bytes k)) (in-text-lined w.part w.comments fresh last place byte bytes e))

space-by : (white slash next line : Bool) → (white || (slash && next)) ≡ true → (slash ≡ true → line ≡ true)
    → (white || (line && (slash && next))) ≡ true
space-by white slash next line h k = grind (arith, nat_tests, both)

found-space : (w : Where) (fresh : Bool) (last place byte : ℕ) (bytes : List ℕ) (line : Bool)
    → (in_hash_line w.part ≡ true → line ≡ true) → has_start (found_apart w fresh last place byte bytes).answers ≡ false
    → begins_space (byte ∷ bytes) ≡ true → begins_space_in line (byte ∷ bytes) ≡ true
found-space w fresh last place byte bytes line h none space =
    grind (arith, nat_tests, space-by, eqb-true, found-starts, not-both)

-- ## Answers one behind another

bare-kind : (place : ℕ) (xs ys : List Answer) → AreBare place xs → kind_in (xs ++ ys) ≡ kind_in ys
bare-kind place [] ys h = refl
bare-kind place (Finish t ∷ xs) ys h = bare-kind place xs ys h.3
bare-kind place (Note kind about ∷ xs) ys h = bare-kind place xs ys h
bare-kind _ _ _ h = absurd h

bare-start : (place : ℕ) (xs ys : List Answer) → AreBare place xs → has_start (xs ++ ys) ≡ has_start ys
bare-start place [] ys h = refl
bare-start place (Finish t ∷ xs) ys h = bare-start place xs ys h.3
bare-start place (Note kind about ∷ xs) ys h = bare-start place xs ys h
bare-start _ _ _ h = absurd h

notes-kind : (xs : List Answer) → AreNotes xs → kind_in xs ≡ None
notes-kind [] h = refl
notes-kind (Note kind about ∷ xs) h = notes-kind xs h
notes-kind _ h = absurd h

no-space : (text : List ℕ) (line : Bool) (from place : ℕ) → from ≡ place → IsSpaceIn text line from place
no-space text line from place e p low high = absurd (omega arith)

more-space : (text : List ℕ) (line : Bool) (from to end : ℕ) → to ≡ end → IsSpaceIn text line from to
    → IsSpaceIn text line from end
more-space text line from to end e s p low high = s p low (omega arith)

space-on : (text : List ℕ) (line : Bool) (from place : ℕ) → IsSpaceIn text line from place
    → begins_space_in line (drop place text) ≡ true → IsSpaceIn text line from (place + 1)
space-on text line from place s h p low high = grind (arith, nat_tests, cases_lt)

bare-leaves : (text : List ℕ) (line : Bool) (from place end : ℕ) (xs ys : List Answer) → AreBare place xs → from ≤ place
    → IsSpaceIn text line from place → ((low : ℕ) → low ≤ place → IsSpaceIn text line low place → LeavesSpace text line
    low end ys) → LeavesSpace text line from end (xs ++ ys)
bare-leaves text line from place end [] ys h low space rest = rest from low space
bare-leaves text line from place end (Finish t ∷ xs) ys h low space rest = (
  more-space text line from place t.span.start (sym h.0) space,
  bare-leaves text line t.span.end place end xs ys h.3 (omega (arith, h.1))
      (no-space text line t.span.end place h.1) rest,
)
bare-leaves text line from place end (Note kind about ∷ xs) ys h low space rest =
    bare-leaves text line from place end xs ys h low space rest
bare-leaves _ _ _ _ _ _ _ h _ _ _ = absurd h

notes-leave : (text : List ℕ) (line : Bool) (from end : ℕ) (xs ys : List Answer) → AreNotes xs
    → LeavesSpace text line from end ys → LeavesSpace text line from end (xs ++ ys)
notes-leave text line from end [] ys h c = c
notes-leave text line from end (Note kind about ∷ xs) ys h c = notes-leave text line from end xs ys h c
notes-leave _ _ _ _ _ _ h _ = absurd h

whole-leaves : (text : List ℕ) (line : Bool) (from place more end : ℕ) (bytes : List ℕ) (xs ys : List Answer)
    → TakesAll place bytes more xs → (has_start xs ≡ false → begins_space bytes ≡ true → begins_space_in line
    (drop place text) ≡ true) → from ≤ place → IsSpaceIn text line from place
    → ((low : ℕ) → low ≤ (place + 1) + more → IsSpaceIn text (line_after line (kind_in xs)) low ((place + 1) + more)
    → LeavesSpace text (line_after line (kind_in xs)) low end ys) → LeavesSpace text line from end (xs ++ ys)
whole-leaves text line from place more end bytes [] ys h s low space rest =
    let e : place + 1 ≡ (place + 1) + more = omega (arith, h.0) in
    rest from (omega (arith, low)) (more-space text line from (place + 1) ((place + 1) + more) e
    (space-on text line from place space (s refl h.1)))
whole-leaves text line from place more end bytes (Token t ∷ xs) ys h s low space rest = (
  more-space text line from place t.span.start (sym h.0.from) space,
  notes-leave text (hash_line_behind line t.kind) t.span.end end xs ys h.1 (rest t.span.end (omega (arith, h.0.to))
      (no-space text (hash_line_behind line t.kind) t.span.end ((place + 1) + more) h.0.to)),
)
whole-leaves text line from place more end bytes (Begin t ∷ xs) ys h s low space rest = (
  more-space text line from place t.span.start (sym h.0.from) space,
  notes-leave text line t.span.end end xs ys h.1
      (subst (λ o. LeavesSpace text (line_after line o) t.span.end end ys) (notes-kind xs h.1) (rest t.span.end
      (omega (arith, h.0.to)) (no-space text (line_after line (kind_in xs)) t.span.end ((place + 1) + more) h.0.to))),
)
whole-leaves text line from place more end bytes (Finish t ∷ xs) ys h s low space rest = (
  more-space text line from place t.span.start (sym h.0.from) space,
  notes-leave text line t.span.end end xs ys h.1
      (subst (λ o. LeavesSpace text (line_after line o) t.span.end end ys) (notes-kind xs h.1) (rest t.span.end
      (omega (arith, h.0.to)) (no-space text (line_after line (kind_in xs)) t.span.end ((place + 1) + more) h.0.to))),
)
whole-leaves text line from place more end bytes (Note kind about ∷ xs) ys h s low space rest = absurd h

found-leaves : (text : List ℕ) (line : Bool) (from place end : ℕ) (bytes : List ℕ) (f : ScanStep) (ys : List Answer)
    → Takes place bytes f → (has_start f.answers ≡ false → begins_space bytes ≡ true → begins_space_in line
    (drop place text) ≡ true) → from ≤ place → IsSpaceIn text line from place → ((low : ℕ) → low ≤ (place + 1) + f.more
    → IsSpaceIn text (line_after line (kind_in f.answers)) low ((place + 1) + f.more) → LeavesSpace text
    (line_after line (kind_in f.answers)) low end ys) → LeavesSpace text line from end (f.answers ++ ys)
found-leaves text line from place end bytes f ys t s low space rest =
    let kind : kind_in f.answers ≡ kind_in t.rest = ap kind_in t.split ∙ bare-kind place t.first t.rest t.bare in
    let start : has_start f.answers ≡ has_start t.rest = grind (arith, nat_tests, has_start, bare-start) in
    let onward : (low : ℕ) → low ≤ (place + 1) + f.more → IsSpaceIn text (line_after line (kind_in t.rest)) low ((place
    + 1) + f.more) → LeavesSpace text (line_after line (kind_in t.rest)) low end ys = grind (arith, nat_tests) in
    subst (LeavesSpace text line from end) (sym (ap (λ l. l ++ ys) t.split ∙ append_assoc t.first t.rest ys))
    (bare-leaves text line from place end t.first (t.rest ++ ys) t.bare low space (λ low least space. whole-leaves text
    line low place f.more end bytes t.rest ys t.whole (λ k. s (start ∙ k)) least space onward))

-- ## All answers

answers-leave : (text bytes : List ℕ) (w : Where) (fresh : Bool) (last place taken from : ℕ) (line : Bool)
    → drop place text ≡ bytes → place + length bytes ≡ length text → taken ≤ length bytes → from ≤ place + taken
    → IsSpaceIn text line from (place + taken) → (in_hash_line w.part ≡ true → line ≡ true)
    → LeavesSpace text line from (length text) (answers bytes w fresh last place taken)
answers-leave text [] w fresh last place taken from line here size t low space h =
    let e : place + taken ≡ place = omega (arith, t) in
    let cut = all_cut w.part w.comments place (place - 1) in
    subst (LeavesSpace text line from (length text)) (append-nil cut)
    (bare-leaves text line from place (length text) cut [] (bare-all-cut w.part w.comments place (place - 1))
    (omega (arith, low, t)) (more-space text line from (place + taken) place e space)
    (λ low least space. more-space text line low place (length text) (omega (arith, size)) space))
answers-leave text (byte ∷ bytes) w fresh last place zero from line here size t low space h =
    let f = found_apart w fresh last place byte bytes in
    let fits = found-fits w fresh last place byte bytes in
    let e : place + 0 ≡ place = omega arith in
    found-leaves text line from place (length text) (byte ∷ bytes) f _ (found-takes w fresh last place byte bytes) (λ n
    s. subst (λ l. begins_space_in line l ≡ true) (sym here) (found-space w fresh last place byte bytes line h n s))
    (omega (arith, low)) (more-space text line from (place + 0) place e space)
    (λ low least space. answers-leave text bytes f.next (still_fresh fresh byte) byte (place + 1) f.more low
    (line_after line (kind_in f.answers)) (drop-on text place byte bytes here) (omega (arith, size))
    (omega (arith, fits.more)) least space (found-line w fresh last place byte bytes line h))
answers-leave text (byte ∷ bytes) w fresh last place (suc taken) from line here size t low space h =
    let e : place + suc taken ≡ (place + 1) + taken = omega arith in
    answers-leave text bytes w (still_fresh fresh byte) byte (place + 1) taken from line
    (drop-on text place byte bytes here) (omega (arith, size)) (omega (arith, t)) (omega (arith, low))
    (more-space text line from (place + suc taken) ((place + 1) + taken) e space) h

-- ## A part of a text

space-take : (line : Bool) (n : ℕ) (bytes : List ℕ) → begins_space_in line (take n bytes) ≡ true
    → begins_space_in line bytes ≡ true
space-take line zero bytes h = absurd cc
space-take line (suc n) [] h = h
space-take line (suc n) (b ∷ bytes) h = grind (arith, nat_tests, begins-take)

part-space : (text : List ℕ) (line : Bool) (end from to : ℕ) → to ≤ end → IsSpaceIn (take end text) line from to
    → IsSpaceIn text line from to
part-space text line end from to h s p low high = grind (arith, nat_tests, space-take, drop-part)

part-leaves : (text : List ℕ) (line : Bool) (start end from : ℕ) (xs : List Answer) → AreWithin start end xs
    → LeavesSpace (take end text) line from end xs → LeavesSpace text line from end xs
part-leaves text line start end from [] a c = part-space text line end from end (omega arith) c
part-leaves text line start end from (Token t ∷ xs) a c = (
  part-space text line end from t.span.start (omega (arith, a.0.1, a.0.2)) c.0,
  part-leaves text (hash_line_behind line t.kind) start end t.span.end xs a.1 c.1,
)
part-leaves text line start end from (Begin t ∷ xs) a c = (
  part-space text line end from t.span.start (omega (arith, a.0.1, a.0.2)) c.0,
  part-leaves text line start end t.span.end xs a.1 c.1,
)
part-leaves text line start end from (Finish t ∷ xs) a c = (
  part-space text line end from t.span.start (omega (arith, a.0.1, a.0.2)) c.0,
  part-leaves text line start end t.span.end xs a.1 c.1,
)
part-leaves text line start end from (Note kind about ∷ xs) a c = part-leaves text line start end from xs a c

begins-outside : (mode : Mode) → in_hash_line (beginning mode).part ≡ true → false ≡ true
begins-outside mode e = grind (arith, nat_tests)

pub backslashes-continue : BackslashesContinueHashLines
backslashes-continue text start end mode order within =
    let cut = take end text in
    let size : length cut ≡ end = omega (arith, within, length-take end text) in
    let e : start + 0 ≡ start = omega arith in
    part-leaves text false start end start (tokens_of text start end mode)
    (tokens-within text start end mode order within) (subst (λ n. LeavesSpace cut false start n
    (tokens_of text start end mode)) size (answers-leave cut (drop start cut) (beginning mode) (fresh_at cut start)
    (last_at cut start) start 0 start false refl (omega (arith, order, size, length-drop start cut)) (omega arith)
    (omega arith) (no-space cut false start (start + 0) (sym e)) (begins-outside mode)))
