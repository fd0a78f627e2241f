-- The answers cover the bytes that are scanned, whatever the text.
use Rattle.std.proofs.Common.{◌≡◌, ℕ, zero, suc, ◌+◌, ◌-◌, ◌≤◌, Bool, true, List, [], ◌∷◌, ◌++◌, length, take, drop}
use Rattle.std.proofs.Common.{refl, sym, ap, subst, ◌∙◌, arith, append_assoc, length-drop, append-nil}
use Rattle.std.specs.Prelude.{slice_range}
use Rattle.std.proofs.{lemmas.Bool.cases_lt, lemmas.Bool.Decides.nat_tests, lemmas.Grind.common_steps}
use Rattle.std.proofs.lemmas.List.{drop-drop, length-take, drop-take, take-take}
use Rattle.cw_rules.specs.{declared.tokens.Mode.Mode, Bytes.begins, Tokens.all_cut, model.Apart.found_apart}
use Rattle.cw_rules.specs.Answers.{Answer, Token, Begin, Finish, Note, Seen, Where, ScanStep}
use Rattle.cw_lex.specs.Lexing.{still_fresh, answers, fresh_at, last_at, beginning, tokens_of}
use Rattle.cw_rules.specs.Order.{begins_space, IsSpace, Stands, Covers}
use Rattle.cw_rules.proofs.Taking.{AreBare, AreNotes, IsWhole, TakesAll, Takes, bare-all-cut, found-takes}
use Rattle.cw_rules.proofs.Within.{found-fits}

-- white space up to a place that a token without bytes has
no-space : (text : List ℕ) (place from : ℕ) → from ≡ place → IsSpace text from place
no-space text place from e p low high = absurd (omega arith)

more-space : (text : List ℕ) (from to end : ℕ) → to ≡ end → IsSpace text from to → IsSpace text from end
more-space text from to end e s p low high = s p low (omega arith)

-- one byte more
space-on : (text : List ℕ) (from place : ℕ) → IsSpace text from place → begins_space (drop place text) ≡ true
    → IsSpace text from (place + 1)
space-on text from place s h p low high = grind (arith, nat_tests, cases_lt)

-- ## What one place gives

-- answers without bytes, where a text is covered up to a place
bare-covers : (text : List ℕ) (from place end : ℕ) (xs ys : List Answer) → AreBare place xs → from ≤ place
    → IsSpace text from place
    → ((low : ℕ) → low ≤ place → IsSpace text low place → Covers text low end ys) → Covers text from end (xs ++ ys)
bare-covers text from place end [] ys h low space rest = rest from low space
bare-covers text from place end (Finish t ∷ xs) ys h low space rest = grind (
  arith,
  bare-covers text t.span.end place end xs ys h.3 (omega (arith, h.1)) (no-space text place t.span.end h.1) rest,
)
bare-covers text from place end (Note kind about ∷ xs) ys h low space rest =
    bare-covers text from place end xs ys h low space rest
bare-covers text from place end (_ ∷ xs) ys h low space rest = absurd h

notes-cover : (text : List ℕ) (from end : ℕ) (xs ys : List Answer) → AreNotes xs → Covers text from end ys
    → Covers text from end (xs ++ ys)
notes-cover text from end [] ys h c = c
notes-cover text from end (Note kind about ∷ xs) ys h c = notes-cover text from end xs ys h c
notes-cover _ _ _ _ _ h _ = absurd h

whole-stands : (text : List ℕ) (from place more : ℕ) (bytes : List ℕ) (t : Seen) → drop place text ≡ bytes
    → from ≤ place → IsSpace text from place → IsWhole place bytes more t → Stands text from t
whole-stands text from place more bytes t here low space w =
    let size : suc more ≡ t.span.end - t.span.start = omega (arith, w.from, w.to) in
    record {
      order = omega (arith, w.from);
      span = omega (arith, w.from, w.to);
      slice = w.slice ∙ (λ i. take (size i) (sym here i))
          ∙ ap (λ p. take (t.span.end - t.span.start) (drop p text)) (sym w.from);
      space = more-space text from place t.span.start (sym w.from) space;
    }

whole-covers : (text : List ℕ) (from place more end : ℕ) (bytes : List ℕ) (xs ys : List Answer) → TakesAll place bytes
    more xs → drop place text ≡ bytes → from ≤ place → IsSpace text from place → ((low : ℕ) → low ≤ (place + 1) + more
    → IsSpace text low ((place + 1) + more) → Covers text low end ys) → Covers text from end (xs ++ ys)
whole-covers text from place more end bytes xs ys h here low space rest =
    grind (arith, nat_tests, more-space, space-on, whole-stands, notes-cover, no-space)

found-covers : (text : List ℕ) (from place end : ℕ) (bytes : List ℕ) (f : ScanStep) (ys : List Answer)
    → Takes place bytes
    f → drop place text ≡ bytes → from ≤ place → IsSpace text from place → ((low : ℕ) → low ≤ (place + 1) + f.more
    → IsSpace text low ((place + 1) + f.more) → Covers text low end ys) → Covers text from end (f.answers ++ ys)
found-covers text from place end bytes f ys t here low space rest =
    grind (arith, nat_tests, append_assoc, bare-covers, whole-covers)

-- ## All answers

pub drop-on : (text : List ℕ) (place byte : ℕ) (bytes : List ℕ) → drop place text ≡ byte ∷ bytes → drop (place + 1) text
    ≡ bytes
drop-on text place byte bytes h = sym (drop-drop 1 place text) ∙ ap (drop 1) h

answers-cover : (text bytes : List ℕ) (w : Where) (fresh : Bool) (last place taken from : ℕ) → drop place text ≡ bytes
    → place + length bytes ≡ length text → taken ≤ length bytes → from ≤ place + taken
    → IsSpace text from (place + taken) → Covers text from (length text) (answers bytes w fresh last place taken)
answers-cover text [] w fresh last place taken from here size t low space =
    let e : place + taken ≡ place = omega arith in
    let P : List Answer → Type 0 = Covers text from (length text) in
    subst P (append-nil (all_cut w.part w.comments place (place - 1))) (bare-covers text from place (length text)
    (all_cut w.part w.comments place (place - 1)) [] (bare-all-cut w.part w.comments place (place - 1)) (omega arith)
    (more-space text from (place + taken) place e space)
    (λ low least space. (omega arith, more-space text low place (length text) (omega arith) space)))
answers-cover text (byte ∷ bytes) w fresh last place zero from here size t low space =
    let f = found_apart w fresh last place byte bytes in
    let fits = found-fits w fresh last place byte bytes in
    let e : place + 0 ≡ place = omega arith in
    found-covers text from place (length text) (byte ∷ bytes) f _ (found-takes w fresh last place byte bytes) here
    (omega arith) (more-space text from (place + 0) place e space)
    (λ low least space. answers-cover text bytes f.next (still_fresh fresh byte) byte (place + 1) f.more low
    (drop-on text place byte bytes here) (omega (arith, size)) (omega (arith, fits.more)) least space)
answers-cover text (byte ∷ bytes) w fresh last place (suc taken) from here size t low space =
    let e : place + suc taken ≡ (place + 1) + taken = omega arith in
    answers-cover text bytes w (still_fresh fresh byte) byte (place + 1) taken from (drop-on text place byte bytes here)
    (omega (arith, size)) (omega (arith, t)) (omega (arith, low))
    (more-space text from (place + suc taken) ((place + 1) + taken) e space)

-- ## A part of a text

-- answers that cover a text end no earlier than they begin
pub covers-le : (text : List ℕ) (from end : ℕ) (xs : List Answer) → Covers text from end xs → from ≤ end
covers-le text from end [] c = c.0
covers-le text from end (Token t ∷ xs) c = omega (arith, c.0.order, c.0.span, covers-le text t.span.end end xs c.2)
covers-le text from end (Begin t ∷ xs) c = omega (arith, c.0.order, c.0.span, covers-le text t.span.end end xs c.1)
covers-le text from end (Finish t ∷ xs) c = omega (arith, c.0.order, c.0.span, covers-le text t.span.end end xs c.1)
covers-le text from end (Note kind about ∷ xs) c = covers-le text from end xs c

pub begins-take : (wanted n : ℕ) (bytes : List ℕ) → begins wanted (take n bytes) ≡ true → begins wanted bytes ≡ true
begins-take wanted zero bytes h = absurd cc
begins-take wanted (suc n) [] h = h
begins-take wanted (suc n) (b ∷ bytes) h = h

space-take : (n : ℕ) (bytes : List ℕ) → begins_space (take n bytes) ≡ true → begins_space bytes ≡ true
space-take n bytes h = grind (arith, nat_tests, begins-take)

pub drop-part : (text : List ℕ) (end p : ℕ) → p ≤ end → drop p (take end text) ≡ take (end - p) (drop p text)
drop-part text end p h = grind (arith, nat_tests, common_steps, drop-take p (end - p) text, drop-take)

part-space : (text : List ℕ) (end from to : ℕ) → to ≤ end → IsSpace (take end text) from to → IsSpace text from to
part-space text end from to h s p low high = grind (arith, nat_tests, space-take, drop-part)

part-slice : (text : List ℕ) (end from to : ℕ) → from ≤ to → to ≤ end → slice_range (take end text) from to
    ≡ slice_range text from to
part-slice text end from to h g = grind (arith, nat_tests, drop-part, take-take)

part-stands : (text : List ℕ) (end from : ℕ) (t : Seen) → t.span.end ≤ end → Stands (take end text) from t
    → Stands text from t
part-stands text end from t h s = grind (
  arith,
  part-slice text end t.span.start t.span.end s.span h,
  part-space text end from t.span.start (omega (arith, s.span, h)) s.space,
)

part-covers : (text : List ℕ) (end from : ℕ) (xs : List Answer) → Covers (take end text) from end xs
    → Covers text from end xs
part-covers text end from [] c = (c.0, part-space text end from end (omega arith) c.1)
part-covers text end from (Token t ∷ xs) c = (
  part-stands text end from t (covers-le (take end text) t.span.end end xs c.2) c.0,
  c.1,
  part-covers text end t.span.end xs c.2,
)
part-covers text end from (Begin t ∷ xs) c = (
  part-stands text end from t (covers-le (take end text) t.span.end end xs c.1) c.0,
  part-covers text end t.span.end xs c.1,
)
part-covers text end from (Finish t ∷ xs) c = (
  part-stands text end from t (covers-le (take end text) t.span.end end xs c.1) c.0,
  part-covers text end t.span.end xs c.1,
)
part-covers text end from (Note kind about ∷ xs) c = part-covers text end from xs c

pub tokens-cover : (text : List ℕ) (from end : ℕ) (mode : Mode) → from ≤ end → end ≤ length text
    → Covers text from end (tokens_of text from end mode)
tokens-cover text from end mode order within =
    let cut = take end text in
    let size : length cut ≡ end = omega (arith, length-take end text) in
    let e : from + 0 ≡ from = omega arith in
    part-covers text end from (tokens_of text from end mode) (subst (λ n. Covers cut from n (tokens_of text from end
    mode)) size (answers-cover cut (drop from cut) (beginning mode) (fresh_at cut from) (last_at cut from) from 0 from
    refl (omega (arith, length-drop from cut)) (omega arith) (omega arith) (no-space cut (from + 0) from (sym e))))
