-- Each section code among the answers is the one that the bytes at its place make.
use Rattle.std.proofs.Common.{◌≡◌, ℕ, zero, suc, ◌+◌, Bool, true, false, ◌&&◌, ◌==◌, List, [], ◌∷◌, ◌++◌, drop, refl}
use Rattle.std.proofs.Common.{sym, ap, subst, ◌∙◌, arith}
use Rattle.std.specs.Prelude.{if◌then◌else◌}
use Rattle.std.proofs.{lemmas.Bool.eqb-true, lemmas.Bool.Decides.nat_tests}
use Rattle.cw_base.proofs.TestLaws.{both-left, both, not-both}
use Rattle.cw_rules.specs.{declared.bodies.NoteAt.NoteAt, Bytes.at_sign, Bytes.begins, Codes.is_section}
use Rattle.cw_rules.specs.{Codes.begins_section, model.Apart.in_text_apart, model.Apart.found_apart}
use Rattle.cw_rules.specs.Answers.{Answer, Token, Begin, Finish, Note, Seen, Where, ScanStep, note_answers, cut_token}
use Rattle.cw_rules.specs.Tokens.{all_cut, section, section_code}
use Rattle.cw_rules.proofs.{Choices.if-both, CodeStarts.code_in, CodeStarts.in-text-tells}
use Rattle.cw_rules.proofs.Taking.{AreBare, AreNotes, TakesAll, Takes, bare-all-cut, found-takes}
use Rattle.cw_lex.specs.{Lexing.answers, Lexing.still_fresh, Nested.is_section_kind, Parts.is_section_at}
use Rattle.cw_lex.proofs.{FirstTokens.bare-code, Openings.section-opens, Openings.section-kind-is, Covering.drop-on}

-- A token is the section code at its place.
pub record IsCodeAt (text : List ℕ) (t : Seen) : Type 0 where
  pub stands : is_section_at text t.span.start ≡ true
  pub kind : t.kind ≡ (section_code (drop t.span.start text)).kind
  pub size : t.span.end ≡ t.span.start + (section_code (drop t.span.start text)).size

-- So is each token that is a section code.
abbrev pub AreCoded : List ℕ → List Answer → Type 0
AreCoded text [] = Unit {0}
AreCoded text (Token t ∷ answers) = (is_section_kind t.kind ≡ true → IsCodeAt text t) × AreCoded text answers
AreCoded text (Begin t ∷ answers) = AreCoded text answers
AreCoded text (Finish t ∷ answers) = AreCoded text answers
AreCoded text (Note kind place ∷ answers) = AreCoded text answers

append-coded : (text : List ℕ) (xs ys : List Answer) → AreCoded text xs → AreCoded text ys → AreCoded text (xs ++ ys)
append-coded text [] ys h g = g
append-coded text (Token t ∷ xs) ys h g = (h.0, append-coded text xs ys h.1 g)
append-coded text (_ ∷ xs) ys h g = append-coded text xs ys h g

bare-coded : (text : List ℕ) (place : ℕ) (xs : List Answer) → AreBare place xs → AreCoded text xs
bare-coded text place [] h = tt
bare-coded text place (Finish t ∷ xs) h = bare-coded text place xs h.3
bare-coded text place (Note kind about ∷ xs) h = bare-coded text place xs h
bare-coded _ _ _ h = absurd h

notes-coded : (text : List ℕ) (xs : List Answer) → AreNotes xs → AreCoded text xs
notes-coded text [] h = tt
notes-coded text (Note kind about ∷ xs) h = notes-coded text xs h
notes-coded _ _ h = absurd h

noted-coded : (text : List ℕ) (notes : List NoteAt) → AreCoded text (note_answers notes)
noted-coded text [] = tt
noted-coded text (n ∷ notes) = noted-coded text notes

-- ## A section code

section-coded : (text : List ℕ) (w : Where) (place byte : ℕ) (bytes : List ℕ) → drop place text ≡ byte ∷ bytes
    → (byte == at_sign && begins_section bytes) ≡ true → AreCoded text (section w place bytes).answers
section-coded text w place byte bytes here h =
    let cut = section_code (at_sign ∷ bytes) in
    let byte-is : byte ≡ at_sign = eqb-true byte at_sign (both-left (byte == at_sign) (begins_section bytes) h) in
    let shown : drop place text ≡ at_sign ∷ bytes = here ∙ ap (λ b. b ∷ bytes) byte-is in
    append-coded text (all_cut w.part w.comments place place)
    (Token (cut_token false cut place (at_sign ∷ bytes)) ∷ note_answers cut.notes)
    (bare-coded text place (all_cut w.part w.comments place place) (bare-all-cut w.part w.comments place place)) (
      λ k. record {
        stands = (λ i. begins at_sign (here i) && begins_section (drop-on text place byte bytes here i)) ∙ h;
        kind = ap (λ l. (section_code l).kind) (sym shown);
        size = ap (λ l. place + (section_code l).size) (sym shown);
      },
      noted-coded text cut.notes,
    )

-- ## No other token

-- answers that take bytes and are no section code
taking-coded : (text : List ℕ) (place : ℕ) (bytes : List ℕ) (more : ℕ) (xs : List Answer)
    → is_section (code_in xs) ≡ false → TakesAll place bytes more xs → AreCoded text xs
taking-coded text place bytes more xs h t = grind (arith, nat_tests, not-both, section-kind-is, notes-coded)

pub no-section : (w : Where) (fresh : Bool) (last place byte : ℕ) (bytes : List ℕ) → (byte == at_sign && begins_section
    bytes) ≡ false → is_section (code_in (in_text_apart w.part w.comments fresh last place byte bytes).answers) ≡ false
no-section w fresh last place byte bytes h =
    by (is_section (code_in (in_text_apart w.part w.comments fresh last place byte bytes).answers)) refl
  where
    by : (b : Bool) → is_section (code_in (in_text_apart w.part w.comments fresh last place byte bytes).answers) ≡ b
        → is_section (code_in (in_text_apart w.part w.comments fresh last place byte bytes).answers) ≡ false
    by false e = e
    by true e =
        let g = in_text_apart w.part w.comments fresh last place byte bytes in
        let told = (in-text-tells w.part w.comments fresh last place byte bytes).code
        (section-opens (code_in g.answers) e) in
        not-both (byte == at_sign && begins_section bytes)
        (both (byte == at_sign) (begins_section bytes) (ap (λ b. b == at_sign) told.0) (ap is_section told.1 ∙ e)) h

plain-coded : (text : List ℕ) (w : Where) (fresh : Bool) (last place byte : ℕ) (bytes : List ℕ) → (byte == at_sign &&
    begins_section bytes) ≡ false → AreCoded text (in_text_apart w.part w.comments fresh last place byte bytes).answers
plain-coded text w fresh last place byte bytes h =
    let g = in_text_apart w.part w.comments fresh last place byte bytes in
    let plain : found_apart w fresh last place byte bytes ≡ g = ap (λ t. if t then section w place bytes else g) h in
    let t : Takes place (byte ∷ bytes) g = grind (arith, nat_tests, found-takes) in
    let code : code_in g.answers ≡ code_in t.rest = ap code_in t.split ∙ bare-code place t.first t.rest t.bare in
    subst (AreCoded text) (sym t.split)
    (append-coded text t.first t.rest (bare-coded text place t.first t.bare) (taking-coded text place
    (byte ∷ bytes) g.more t.rest (ap is_section (sym code) ∙ no-section w fresh last place byte bytes h) t.whole))

-- ## All answers

pub coded : (text bytes : List ℕ) (w : Where) (fresh : Bool) (last place taken : ℕ) → drop place text ≡ bytes
    → AreCoded text (answers bytes w fresh last place taken)
coded text [] w fresh last place taken here = grind (arith, nat_tests, bare-coded, bare-all-cut)
coded text (byte ∷ bytes) w fresh last place zero here =
    let f = found_apart w fresh last place byte bytes in
    append-coded text f.answers (answers bytes f.next (still_fresh fresh byte) byte (place + 1) f.more)
    (if-both (λ (f : ScanStep). AreCoded text f.answers) (byte == at_sign && begins_section bytes)
    (section w place bytes) (in_text_apart w.part w.comments fresh last place byte bytes)
    (section-coded text w place byte bytes here) (plain-coded text w fresh last place byte bytes))
    (coded text bytes f.next (still_fresh fresh byte) byte (place + 1) f.more (drop-on text place byte bytes here))
coded text (byte ∷ bytes) w fresh last place (suc taken) here =
    coded text bytes w (still_fresh fresh byte) byte (place + 1) taken (drop-on text place byte bytes here)
