-- Inner C text of TeX text that a bar closes has the answers of its bytes scanned by themselves.
use Rattle.std.proofs.Common.{◌≡◌, ℕ, zero, suc, ◌+◌, ◌-◌, ◌≤◌, Bool, true, false, ◌==◌, List, [], ◌∷◌, ◌++◌, Option}
use Rattle.std.proofs.Common.{Some, None, length, take, drop, refl, sym, ap, ◌∙◌, arith, append_assoc, ◌⊎◌, inl, inr}
use Rattle.std.specs.Prelude.{if◌then◌else◌}
use Rattle.std.proofs.{lemmas.Bool.eqb-true, lemmas.Bool.Decides.nat_tests, lemmas.Grind.common_steps}
use Rattle.std.proofs.lemmas.List.{drop-drop, drop_all, take-take, take_all}
use Rattle.cw_rules.specs.{declared.parts.Opened.Opened, Bytes.begins, Tokens.is_tex_inner, model.Apart.found_apart}
use Rattle.cw_base.specs.Text.{bar}
use Rattle.cw_rules.specs.Answers.{Answer, Begin, Finish, Where, ScanStep, token_of}
use Rattle.cw_lex.specs.Lexing.{still_fresh, joined, answers, fresh_after, last_after, fresh_at, last_at, answers_at}
use Rattle.cw_lex.specs.{Lexing.beginning, Lexing.tokens_of, Parts.closing_bar, Parts.closing_bar_from}
use Rattle.cw_rules.proofs.{Choices.if-both, Choices.and-none, Ahead.drop-same, Ahead.take-same}
use Rattle.cw_lex.proofs.{Walk.fresh-more, Walk.last-more, Covering.drop-part, PartScans.begins-byte}
use Rattle.cw_rules.proofs.InnerTwins.{tex_inner, alone, found-twin}
use Rattle.cw_rules.specs.declared.parts.Part.TheVariants as parts
use Rattle.cw_rules.specs.declared.tokens.Mode.TheVariants as modes
use Rattle.cw_rules.specs.declared.tokens.TokKind.TheVariants as kinds

-- ## Where the bar stands

-- the bytes before a closing bar and behind it
record Closed (bytes : List ℕ) (place taken end : ℕ) : Type 0 where
  inside : List ℕ
  behind : List ℕ
  split : bytes ≡ inside ++ 124 ∷ behind
  place-is : end ≡ place + length inside
  short : taken ≤ length inside

closed-further : (byte : ℕ) (bytes : List ℕ) (place taken end : ℕ) → Closed bytes (place + 1) taken end
    → Closed (byte ∷ bytes) place (suc taken) end
closed-further byte bytes place taken end c = record {
  inside = byte ∷ c.inside;
  behind = c.behind;
  split = ap (λ l. byte ∷ l) c.split;
  place-is = omega (arith, c.place-is);
  short = omega (arith, c.short);
}

closed : (bytes : List ℕ) (w : Where) (fresh : Bool) (last place taken end : ℕ)
    → closing_bar bytes w fresh last place taken ≡ Some end → Closed bytes place taken end
closed [] w fresh last place taken end h = absurd cc
closed (byte ∷ bytes) w fresh last place zero end h =
    let f = found_apart w fresh last place byte bytes in
    by (is_tex_inner f.next.part) (byte == bar) refl refl (λ g. closed bytes f.next (still_fresh fresh byte) byte
    (place + 1) f.more end g)
  where
    some-is : (a b : ℕ) → ◌≡◌ {A = Option ℕ} (Some a) (Some b) → a ≡ b
    some-is a b e = cc

    by : (inner is_bar : Bool) → is_tex_inner (found_apart w fresh last place byte bytes).next.part ≡ inner
        → (byte == bar) ≡ is_bar → (closing_bar bytes (found_apart w fresh last place byte bytes).next
        (still_fresh fresh byte) byte (place + 1) (found_apart w fresh last place byte bytes).more ≡ Some end → Closed
        bytes (place + 1) (found_apart w fresh last place byte bytes).more end) → Closed (byte ∷ bytes) place zero end
    by true is_bar e b rec =
        let f = found_apart w fresh last place byte bytes in
        let on = sym (ap (λ t. if t then closing_bar bytes f.next (still_fresh fresh byte) byte (place + 1) f.more else
        (if byte == bar then Some place else None)) e) ∙ h in
        let c = closed-further byte bytes place f.more end (rec on) in
        record { inside = c.inside; behind = c.behind; split = c.split; place-is = c.place-is; short = omega arith }
    by false true e b rec =
        let f = found_apart w fresh last place byte bytes in
        let here = sym (λ i. if e i then closing_bar bytes f.next (still_fresh fresh byte) byte (place + 1) f.more else
        (if b i then Some place else None)) ∙ h in
        let same : place ≡ end = some-is place end here in
        record {
          inside = [];
          behind = bytes;
          split = ap (λ x. x ∷ bytes) (eqb-true byte bar b);
          place-is = omega (arith, same);
          short = omega arith;
        }
    by false false e b rec =
        let f = found_apart w fresh last place byte bytes in
        let none : ◌≡◌ {A = Option ℕ} None (Some end) = grind (arith, nat_tests) in
        absurd cc
closed (byte ∷ bytes) w fresh last place (suc taken) end h =
    closed-further byte bytes place taken end (closed bytes w (still_fresh fresh byte) byte (place + 1) taken end h)

-- ## What the bar makes

-- what a bar that closes inner C text makes
abbrev closing : ℕ → List ℕ → ScanStep
closing place more = record {
  answers = Finish (token_of false kinds.InnerText place 1 (124 ∷ more)) ∷ [];
  more = 0;
  next = record { part = parts.Tex; comments = [] };
}

record Closes (place : ℕ) (more : List ℕ) (f : ScanStep) : Type 0 where
  is : is_tex_inner f.next.part ≡ false → f ≡ closing place more

record Stays (f : ScanStep) : Type 0 where
  is : is_tex_inner f.next.part ≡ true

bar-closes : (fresh : Bool) (last place : ℕ) (more : List ℕ)
    → Closes place more (found_apart (tex_inner []) fresh last place 124 more)
bar-closes fresh last place more = grind (arith, nat_tests, tex_inner)

-- in a comment a bar ends no inner C text of TeX text
bar-stays : (c : Opened) (cs : List Opened) (fresh : Bool) (last place : ℕ) (more : List ℕ)
    → Stays (found_apart (tex_inner (c ∷ cs)) fresh last place 124 more)
bar-stays c cs fresh last place more = grind (arith, nat_tests, if-both, and-none, tex_inner)

-- ## The scan up to the bar

-- the answers from a closing bar on
abbrev from_bar : List ℕ → Bool → ℕ → List Answer
from_bar more fresh place = Finish (token_of false kinds.InnerText place 1 (124 ∷ more)) ∷ answers more
    (record { part = parts.Tex; comments = [] }) (still_fresh fresh 124) 124 (place + 1) 0

-- the scan goes on in inner C text of TeX text, or its bar stands here
goes-on : (byte : ℕ) (bytes : List ℕ) (cs : List Opened) (fresh : Bool) (last place end : ℕ) (f : ScanStep)
    → found_apart (tex_inner cs) fresh last place byte bytes ≡ f → closing_bar (byte ∷ bytes) (tex_inner cs) fresh last
    place 0 ≡ Some end → ((is_tex_inner f.next.part ≡ true) × (closing_bar bytes f.next (still_fresh fresh byte) byte
    (place + 1) f.more ≡ Some end)) ⊎ ((is_tex_inner f.next.part ≡ false) × (place ≡ end))
goes-on byte bytes cs fresh last place end f is h = grind arith

-- no bar closes before the place from which the scan goes on
not-before : (bytes : List ℕ) (w : Where) (fresh : Bool) (last place taken end : ℕ)
    → closing_bar bytes w fresh last (place + 1) taken ≡ Some end → place ≡ end → ⊥
not-before bytes w fresh last place taken end h e =
    omega (arith, (closed bytes w fresh last (place + 1) taken end h).place-is, e)

scans : (more bs : List ℕ) (cs : List Opened) (fresh : Bool) (last place taken : ℕ)
    → closing_bar (bs ++ 124 ∷ more) (tex_inner cs) fresh last place taken ≡ Some (place + length bs)
    → answers (bs ++ 124 ∷ more) (tex_inner cs) fresh last place taken ≡ answers bs (alone cs) fresh last place taken
    ++ from_bar more (fresh_after fresh bs) (place + length bs)
scans more [] [] fresh last place zero h =
    let f = found_apart (tex_inner []) fresh last place 124 more in
    by (goes-on 124 more [] fresh last place (place + 0) f refl h)
  where
    by : ((is_tex_inner (found_apart (tex_inner []) fresh last place 124 more).next.part ≡ true) × (closing_bar more
        (found_apart (tex_inner []) fresh last place 124 more).next (still_fresh fresh 124) 124 (place + 1)
        (found_apart (tex_inner []) fresh last place 124 more).more ≡ Some (place + 0))) ⊎ ((is_tex_inner
        (found_apart (tex_inner []) fresh last place 124 more).next.part ≡ false) × (place ≡ place + 0)) → answers
        (124 ∷ more) (tex_inner []) fresh last place 0 ≡ from_bar more fresh (place + 0)
    by (inl on) = absurd (not-before more _ _ _ place _ (place + 0) on.1 (omega arith))
    by (inr e) = ap (λ (f : ScanStep). joined f (λ next size. answers more next (still_fresh fresh 124) 124
        (place + 1) size)) ((bar-closes fresh last place more).is e.0) ∙ ap (from_bar more fresh) e.1
scans more [] (c ∷ cs) fresh last place zero h =
    let f = found_apart (tex_inner (c ∷ cs)) fresh last place 124 more in
    absurd (not-before more f.next (still_fresh fresh 124) 124 place f.more (place + 0)
    (sym (ap (λ t. if t then closing_bar more f.next (still_fresh fresh 124) 124 (place + 1) f.more else Some place)
    (bar-stays c cs fresh last place more).is) ∙ h) (omega arith))
scans more [] cs fresh last place (suc taken) h = grind (arith, not-before, tex_inner)
scans more (byte ∷ bs) cs fresh last place zero h =
    let f = found_apart (tex_inner cs) fresh last place byte (bs ++ 124 ∷ more) in
    by f refl (goes-on byte (bs ++ 124 ∷ more) cs fresh last place (place + suc (length bs)) f refl h)
    (λ cs taken g. scans more bs cs (still_fresh fresh byte) byte (place + 1) taken g)
  where
    by : (f : ScanStep) → found_apart (tex_inner cs) fresh last place byte (bs ++ 124 ∷ more) ≡ f
        → ((is_tex_inner f.next.part ≡ true) × (closing_bar (bs ++ 124 ∷ more) f.next (still_fresh fresh byte) byte
        (place + 1) f.more ≡ Some (place + suc (length bs)))) ⊎ ((is_tex_inner f.next.part ≡ false)
        × (place ≡ place + suc (length bs))) → ((cs : List Opened) (taken : ℕ) → closing_bar (bs ++ 124 ∷ more)
        (tex_inner cs) (still_fresh fresh byte) byte (place + 1) taken ≡ Some ((place + 1) + length bs) → answers
        (bs ++ 124 ∷ more) (tex_inner cs) (still_fresh fresh byte) byte (place + 1) taken ≡ answers bs (alone cs)
        (still_fresh fresh byte) byte (place + 1) taken ++ from_bar more (fresh_after (still_fresh fresh byte) bs)
        ((place + 1) + length bs)) → joined (found_apart (tex_inner cs) fresh last place byte (bs ++ 124 ∷ more))
        (λ next size. answers (bs ++ 124 ∷ more) next (still_fresh fresh byte) byte (place + 1) size) ≡ joined
        (found_apart (alone cs) fresh last place byte bs) (λ next size. answers bs next (still_fresh fresh byte) byte
        (place + 1) size) ++ from_bar more (fresh_after (still_fresh fresh byte) bs) (place + suc (length bs))
    by f is (inr e) rec = absurd (omega (arith, e.1))
    by f is (inl on) rec =
        let g = found_apart (alone cs) fresh last place byte bs in
        let c = closed (bs ++ 124 ∷ more) f.next (still_fresh fresh byte) byte (place + 1) f.more
        (place + suc (length bs)) on.1 in
        let fits : f.more ≤ length bs = omega (arith, c.place-is, c.short) in
        let twin = found-twin more cs fresh last place byte bs f is fits on.0 in
        let to : place + suc (length bs) ≡ (place + 1) + length bs = omega arith in
        let rest = rec g.next.comments g.more (sym
        (ap (λ (f : ScanStep). closing_bar (bs ++ 124 ∷ more) f.next (still_fresh fresh byte) byte (place + 1) f.more)
        twin.0) ∙ on.1 ∙ ap (λ n. Some n) to) in
        let here : alone g.next.comments ≡ g.next = (λ i. record { part = sym twin.1 i; comments = g.next.comments }) in
        let behind = from_bar more (fresh_after (still_fresh fresh byte) bs) ((place + 1) + length bs) in
        ap (λ (f : ScanStep). joined f (λ next size. answers (bs ++ 124 ∷ more) next (still_fresh fresh byte) byte
        (place + 1) size)) (is ∙ twin.0)
        ∙ ap (λ l. g.answers ++ l) (rest ∙ ap (λ (w : Where). answers bs w (still_fresh fresh byte) byte (place + 1)
        g.more ++ behind) here)
        ∙ sym (append_assoc g.answers (answers bs g.next (still_fresh fresh byte) byte (place + 1) g.more) behind)
        ∙ ap (λ n. (g.answers ++ answers bs g.next (still_fresh fresh byte) byte (place + 1) g.more)
        ++ from_bar more (fresh_after (still_fresh fresh byte) bs) n) (sym to)
scans more (byte ∷ bs) cs fresh last place (suc taken) h =
    let to : place + suc (length bs) ≡ (place + 1) + length bs = omega arith in
    scans more bs cs (still_fresh fresh byte) byte (place + 1) taken (h ∙ ap (λ n. Some n) to)
    ∙ ap (λ n. answers bs (alone cs) (still_fresh fresh byte) byte (place + 1) taken
    ++ from_bar more (fresh_after (still_fresh fresh byte) bs) n) (sym to)

-- ## Inner C text in its text

-- what the byte at a place says behind it
fresh-behind : (text more : List ℕ) (place byte : ℕ) → drop place text ≡ byte ∷ more
    → still_fresh (fresh_at text place) byte ≡ fresh_at text (place + 1)
fresh-behind text more place byte h = grind (arith, nat_tests, common_steps, fresh-more true text place 1, fresh-more)

last-behind : (text more : List ℕ) (place byte : ℕ) → drop place text ≡ byte ∷ more → byte ≡ last_at text (place + 1)
last-behind text more place byte h = grind (arith, nat_tests, common_steps, last-more 0 text place 1, last-more)

-- inner C text behind its first bar
behind-bar : (text : List ℕ) (start end : ℕ) → closing_bar_from text start ≡ Some end
    → answers_at text (tex_inner []) start ≡ tokens_of text start end modes.Inner ++
    Finish (token_of false kinds.InnerText end 1 (drop end text)) ∷ answers_at text (beginning modes.TexText) (end + 1)
behind-bar text start end h =
    let c = closed (drop start text) (tex_inner []) (fresh_at text start) (last_at text start) start 0 end h in
    let bs = c.inside in
    let n = length bs in
    let order : start ≤ end = omega (arith, c.place-is) in
    let size : end - start ≡ n = omega (arith, c.place-is) in
    let part : drop start (take end text) ≡ bs = grind (arith, nat_tests, drop-part, take-same, take_all) in
    let place : start + n ≡ end = omega (arith, c.place-is) in
    let at-end : drop end text ≡ 124 ∷ c.behind = ap (λ k. drop k text) (sym place) ∙ sym (drop-drop n start text)
    ∙ ap (drop n) c.split ∙ drop-same n bs (124 ∷ c.behind) (omega arith)
    ∙ ap (λ l. l ++ 124 ∷ c.behind) (drop_all n bs (omega arith)) in
    let begun : take start (take end text) ≡ take start text = take-take start end text order in
    let fresh-end : fresh_after (fresh_at text start) bs ≡ fresh_at text end = grind (
      arith,
      nat_tests,
      drop-part,
      fresh-more,
    ) in
    let rest : drop (end + 1) text ≡ c.behind = sym (drop-drop 1 end text) ∙ ap (drop 1) at-end in
    (λ i. answers (c.split i) (tex_inner []) (fresh_at text start) (last_at text start) start 0)
    ∙ scans c.behind bs [] (fresh_at text start) (last_at text start) start 0 (ap (λ l. closing_bar l (tex_inner [])
    (fresh_at text start) (last_at text start) start 0) (sym c.split) ∙ h ∙ ap (λ n. Some n) c.place-is)
    ∙ (λ i. answers (sym part i) (alone []) (fresh_after true (sym begun i)) (last_after 0 (sym begun i)) start 0
    ++ from_bar c.behind (fresh-end i) (sym c.place-is i)) ∙ (λ i. tokens_of text start end modes.Inner ++ Finish
    (token_of false kinds.InnerText end 1 (sym at-end i)) ∷ answers (sym rest i) (beginning modes.TexText)
    (fresh-behind text c.behind end 124 at-end i) (last-behind text c.behind end 124 at-end i) (end + 1) 0)

pub inner-ends-at-bar : (text : List ℕ) (start end : ℕ) → begins bar (drop start text) ≡ true
    → closing_bar_from text (start + 1) ≡ Some end → answers_at text (beginning modes.TexText) start ≡ Begin
    (token_of false kinds.InnerText start 1 (drop start text)) ∷ (tokens_of text (start + 1) end modes.Inner ++ Finish
    (token_of false kinds.InnerText end 1 (drop end text)) ∷ answers_at text (beginning modes.TexText) (end + 1))
inner-ends-at-bar text start end b h = grind (arith, begins-byte, tex_inner, fresh-behind, last-behind, behind-bar)
