-- The scan of a part is the scan of the whole there.
use Rattle.std.proofs.Common.{◌≡◌, ℕ, zero, suc, ◌+◌, ◌-◌, ◌<◌, ◌≤◌, Bool, true, false, List, [], ◌∷◌, ◌++◌, Some}
use Rattle.std.proofs.Common.{length, take, drop, sym, ap, subst, ◌∙◌, arith, append_assoc, length-drop}
use Rattle.std.proofs.{lemmas.Bool.eqb-true, lemmas.Bool.Decides.nat_tests, lemmas.Grind.common_steps}
use Rattle.std.proofs.lemmas.List.{drop-drop, length-take, take-take, take-append-drop, take_all}
use Rattle.cw_base.proofs.TestLaws.{both-left, both-right}
use Rattle.cw_rules.specs.{declared.tokens.Mode.Mode, Bytes.at_sign, Bytes.greater, Bytes.begins, Codes.begins_section}
use Rattle.cw_rules.specs.{Answers.Answer, Answers.Where, Tokens.all_cut, Tokens.section, model.Apart.found_apart}
use Rattle.cw_lex.specs.Lexing.{still_fresh, answers, fresh_after, last_after, fresh_at, last_at, answers_at, beginning}
use Rattle.cw_lex.specs.Lexing.{tokens_of}
use Rattle.cw_lex.specs.Parts.{stand, stands_at, answers_to, part_answers, is_section_at, IsCodeAt}
use Rattle.cw_lex.proofs.{Walk.fresh-more, Walk.last-more, Covering.drop-part}
use Rattle.cw_rules.proofs.RulesAhead.{found-local}
use Rattle.cw_rules.specs.declared.parts.Part.TheVariants as parts
use Rattle.cw_rules.specs.declared.tokens.Mode.TheVariants as modes

stand-taken : (n : ℕ) (bytes : List ℕ) (w : Where) (fresh : Bool) (last place taken : ℕ) (next : Where)
    → stand n bytes w fresh last place taken ≡ Some next → taken ≤ n
stand-taken zero bytes w fresh last place (suc taken) next h = absurd cc
stand-taken (suc n) [] w fresh last place taken next h = absurd cc
stand-taken (suc n) (byte ∷ bytes) w fresh last place (suc taken) next h =
    omega (arith, stand-taken n bytes w (still_fresh fresh byte) byte (place + 1) taken next h)
stand-taken _ _ _ _ _ _ _ _ _ = omega arith

-- what stands behind a part, where the scan stands so at its end
abbrev Behind : ℕ → List ℕ → Where → Bool → ℕ → ℕ → List Answer → Type 0
Behind about more w fresh last place ys = answers (64 ∷ more) w fresh last place 0
    ≡ all_cut w.part w.comments place about ++ ys

scans : (about : ℕ) (more : List ℕ) (code : begins greater more ≡ false) (ys : List Answer) (bs : List ℕ) (w : Where)
    (fresh : Bool) (last place taken : ℕ) (next : Where) → stand (length bs) (bs ++ 64 ∷ more) w fresh last place taken
    ≡ Some next → Behind about more next (fresh_after fresh bs) (last_after last bs) (place + length bs) ys
    → answers (bs ++ 64 ∷ more) w fresh last place taken ≡ answers_to about bs w fresh last place taken ++ ys
scans about more code ys [] w fresh last place zero next h b = grind (arith, nat_tests)
scans about more code ys [] w fresh last place (suc taken) next h b = absurd cc
scans about more code ys (byte ∷ bs) w fresh last place zero next h b =
    let f = found_apart w fresh last place byte (bs ++ 64 ∷ more) in
    let fits : f.more ≤ length bs = stand-taken (length bs) (bs ++ 64 ∷ more) f.next (still_fresh fresh byte) byte
    (place + 1) f.more next h in
    let e = (found-local more code w fresh last place byte bs).same fits in
    let p : place + suc (length bs) ≡ (place + 1) + length bs = omega arith in
    let rest = scans about more code ys bs f.next (still_fresh fresh byte) byte (place + 1) f.more next h (subst
    (λ place. Behind about more next (fresh_after (still_fresh fresh byte) bs) (last_after byte bs) place ys) p b) in
    ap (λ l. f.answers ++ l) rest ∙ sym
    (append_assoc f.answers (answers_to about bs f.next (still_fresh fresh byte) byte (place + 1) f.more) ys) ∙ (λ i.
    ((e i).answers ++ answers_to about bs (e i).next (still_fresh fresh byte) byte (place + 1) (e i).more) ++ ys)
scans about more code ys (byte ∷ bs) w fresh last place (suc taken) next h b =
    let p : place + suc (length bs) ≡ (place + 1) + length bs = omega arith in
    scans about more code ys bs w (still_fresh fresh byte) byte (place + 1) taken next h (subst
    (λ place. Behind about more next (fresh_after (still_fresh fresh byte) bs) (last_after byte bs) place ys) p b)

-- ## What stands at an end

pub begins-byte : (wanted : ℕ) (text : List ℕ) (place : ℕ) → begins wanted (drop place text) ≡ true → drop place text
    ≡ wanted ∷ drop (place + 1) text
begins-byte wanted text place h = grind (arith, nat_tests, common_steps, drop-drop 1 place text, eqb-true, drop-drop)

section-code : (more : List ℕ) → begins_section more ≡ true → begins greater more ≡ false
section-code more h = grind (arith, nat_tests, eqb-true)

section-behind : (more : List ℕ) (w : Where) (fresh : Bool) (last place : ℕ) → begins_section more ≡ true → Behind place
    more w fresh last place (answers (64 ∷ more) (record { part = parts.Tex; comments = [] }) fresh last place 0)
section-behind more w fresh last place h = grind (arith, nat_tests, append_assoc)

-- ## Parts of a text

pub cut-here : (text : List ℕ) (start end : ℕ) → start ≤ end → drop start text
    ≡ drop start (take end text) ++ drop end text
cut-here text start end h =
    let n = end - start in
    let e : n + start ≡ end = omega arith in
    sym (take-append-drop n (drop start text)) ∙ (λ i. sym (drop-part text end start h) i ++ drop-drop n start text i)
    ∙ ap (λ k. drop start (take end text) ++ drop k text) (omega arith)

-- a part, behind which these answers come
part-law : (text : List ℕ) (start end : ℕ) (mode : Mode) (next : Where) (ys : List Answer) → start ≤ end
    → stands_at text (beginning mode) start end ≡ Some next → begins at_sign (drop end text) ≡ true → begins greater
    (drop (end + 1) text) ≡ false → Behind end (drop (end + 1) text) next (fresh_at text end) (last_at text end) end ys
    → answers_at text (beginning mode) start ≡ part_answers text start end mode end ++ ys
part-law text start end mode next ys order stands at code behind =
    let cut = take end text in
    let bs = drop start cut in
    let more = drop (end + 1) text in
    let here = begins-byte at_sign text end at in
    let split : drop start text ≡ bs ++ 64 ∷ more = cut-here text start end order ∙ ap (λ l. bs ++ l) here in
    let within : end < length text = omega (arith, length-drop end text, ap length here) in
    let size : length bs ≡ end - start = omega (arith, length-drop start cut, length-take end text) in
    let begun : take start cut ≡ take start text = take-take start end text order in
    let fresh : fresh_at cut start ≡ fresh_at text start = ap (fresh_after true) begun in
    let last : last_at cut start ≡ last_at text start = ap (last_after 0) begun in
    let to : start + (end - start) ≡ end = omega arith in
    let fresh-end : fresh_after (fresh_at cut start) bs ≡ fresh_at text end = grind (
      arith,
      nat_tests,
      drop-part,
      fresh-more,
    ) in
    let last-end : last_after (last_at cut start) bs ≡ last_at text end = grind (arith, nat_tests, drop-part, last-more)
    in
    let place : start + length bs ≡ end = omega arith in
    let b = subst (λ p. Behind end more next (fresh_after (fresh_at cut start) bs) (last_after (last_at cut start) bs) p
    ys) (sym place) (subst (λ l. Behind end more next (fresh_after (fresh_at cut start) bs) l end ys) (sym last-end)
    (subst (λ f. Behind end more next f (last_at text end) end ys) (sym fresh-end) behind)) in
    (λ i. answers (split i) (beginning mode) (sym fresh i) (sym last i) start 0)
    ∙ scans end more code ys bs (beginning mode) (fresh_at cut start) (last_at cut start) start 0 next
    ((λ i. stand (size i) (sym split i) (beginning mode) (fresh i) (last i) start 0) ∙ stands) b

pub ends-at-section : (text : List ℕ) (start end : ℕ) (mode : Mode) (w : Where) → start ≤ end
    → stands_at text (beginning mode) start end ≡ Some w → is_section_at text end ≡ true → answers_at text
    (beginning mode) start ≡ part_answers text start end mode end ++ answers_at text (beginning modes.TexText) end
ends-at-section text start end mode w order stands section =
    let at = both-left (begins at_sign (drop end text)) (begins_section (drop (end + 1) text)) section in
    let code = both-right (begins at_sign (drop end text)) (begins_section (drop (end + 1) text)) section in
    part-law text start end mode w _ order stands at (section-code (drop (end + 1) text) code)
    (section-behind (drop (end + 1) text) w (fresh_at text end) (last_at text end) end code)
    ∙ ap (λ l. part_answers text start end mode end ++ answers l (beginning modes.TexText) (fresh_at text end)
    (last_at text end) end 0) (sym (begins-byte at_sign text end at))

pub ends-at-code : (text : List ℕ) (start end : ℕ) (mode : Mode) (w : Where) → start ≤ end
    → stands_at text (beginning mode) start end ≡ Some w → IsCodeAt text end → all_cut w.part w.comments end end ≡ []
    → answers_at text (beginning mode) start ≡ part_answers text start end mode end ++ answers_at text w end
ends-at-code text start end mode w order stands code none = grind (arith, part-law, begins-byte)

pub ends-with-text : (text : List ℕ) (start : ℕ) (mode : Mode) → answers_at text (beginning mode) start
    ≡ tokens_of text start (length text) mode
ends-with-text text start mode = grind (arith, nat_tests, take_all)

to-end : (about : ℕ) (bytes : List ℕ) (w : Where) (fresh : Bool) (last place taken : ℕ) → about ≡ (place + length bytes)
    - 1 → answers bytes w fresh last place taken ≡ answers_to about bytes w fresh last place taken
to-end about [] w fresh last place taken h = ap (all_cut w.part w.comments place) (omega (arith, h))
to-end about (byte ∷ bytes) w fresh last place zero h =
    let f = found_apart w fresh last place byte bytes in
    ap (λ l. f.answers ++ l) (to-end about bytes f.next (still_fresh fresh byte) byte (place + 1) f.more
    (omega (arith, h)))
to-end about (byte ∷ bytes) w fresh last place (suc taken) h =
    to-end about bytes w (still_fresh fresh byte) byte (place + 1) taken (omega (arith, h))

pub answered : (text : List ℕ) (start end : ℕ) (mode : Mode) → start ≤ end → end ≤ length text
    → tokens_of text start end mode ≡ part_answers text start end mode (end - 1)
answered text start end mode order within = grind (arith, nat_tests, to-end, length-drop, length-take)
