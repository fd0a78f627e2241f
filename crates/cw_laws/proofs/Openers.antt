-- Each code with which definitions or a C part begin is the one that stands at its place.
use Rattle.std.proofs.Common.{◌≡◌, ℕ, zero, suc, ◌+◌, Bool, true, false, ◌&&◌, ◌||◌, ◌==◌, List, [], ◌∷◌, ◌++◌, drop}
use Rattle.std.proofs.Common.{Some, if◌then◌else◌, sym, ap, subst, ◌∙◌, arith}
use Rattle.std.proofs.lemmas.Bool.Decides.{nat_tests}
use Rattle.cw_base.proofs.TestLaws.{not-both}
use Rattle.cw_rules.specs.declared.bodies.NoteAt.{NoteAt}
use Rattle.cw_rules.specs.declared.codes.Code.{Code}
use Rattle.cw_rules.specs.declared.tokens.Mode.TheVariants as modes
use Rattle.cw_rules.specs.declared.tokens.TokKind.{TokKind}
use Rattle.cw_rules.specs.Answers.{Answer, Token, Begin, Finish, Note, Seen, Where, ScanStep, note_answers}
use Rattle.cw_rules.specs.Bytes.{at_sign, begins}
use Rattle.cw_rules.specs.Codes.{code_at, begins_section}
use Rattle.cw_rules.specs.Tokens.{section, section_code}
use Rattle.cw_rules.specs.model.Apart.{in_text_apart, found_apart}
use Rattle.cw_rules.proofs.Choices.{if-both}
use Rattle.cw_rules.proofs.CodeStarts.{kind_code, code_in, is_opener, in-text-tells}
use Rattle.cw_rules.proofs.Taking.{AreBare, AreNotes, TakesAll, Takes, bare-all-cut, found-takes}
use Rattle.cw_lex.specs.Lexing.{answers, still_fresh}
use Rattle.cw_lex.specs.Openings.{opened_by}
use Rattle.cw_lex.proofs.FirstTokens.{bare-code}
use Rattle.cw_laws.specs.Pieces.{opens_definitions, opens_c_part}
use Rattle.cw_lex.proofs.Covering.{drop-on}

-- The code of a token stands at its place.
pub record CodeStands (text : List ℕ) (t : Seen) : Type 0 where
  pub sign : begins at_sign (drop t.span.start text) ≡ true
  pub code : code_at (drop (t.span.start + 1) text) ≡ kind_code t.kind

-- the codes with which a part begins
abbrev pub opens_part : Code → Bool
opens_part code = opens_definitions code || opens_c_part code

abbrev pub AreOpeners : List ℕ → List Answer → Type 0
AreOpeners text [] = Unit {0}
AreOpeners text (Token t ∷ answers) =
    (opens_part (kind_code t.kind) ≡ true → CodeStands text t) × AreOpeners text answers
AreOpeners text (Begin t ∷ answers) = AreOpeners text answers
AreOpeners text (Finish t ∷ answers) = AreOpeners text answers
AreOpeners text (Note kind place ∷ answers) = AreOpeners text answers

append-openers : (text : List ℕ) (xs ys : List Answer) → AreOpeners text xs → AreOpeners text ys
    → AreOpeners text (xs ++ ys)
append-openers text [] ys h g = g
append-openers text (Token t ∷ xs) ys h g = (h.0, append-openers text xs ys h.1 g)
append-openers text (Begin t ∷ xs) ys h g = append-openers text xs ys h g
append-openers text (Finish t ∷ xs) ys h g = append-openers text xs ys h g
append-openers text (Note kind place ∷ xs) ys h g = append-openers text xs ys h g

bare-openers : (text : List ℕ) (place : ℕ) (xs : List Answer) → AreBare place xs → AreOpeners text xs
bare-openers text place [] h = tt
bare-openers text place (Finish t ∷ xs) h = bare-openers text place xs h.3
bare-openers text place (Note kind about ∷ xs) h = bare-openers text place xs h
bare-openers _ _ _ h = absurd h

notes-openers : (text : List ℕ) (xs : List Answer) → AreNotes xs → AreOpeners text xs
notes-openers text [] h = tt
notes-openers text (Note kind about ∷ xs) h = notes-openers text xs h
notes-openers _ _ h = absurd h

noted-openers : (text : List ℕ) (ns : List NoteAt) → AreOpeners text (note_answers ns)
noted-openers text [] = tt
noted-openers text (n ∷ ns) = noted-openers text ns

-- ## What begins at a place

section-opens-none : (bytes : List ℕ) → opens_part (kind_code (section_code bytes).kind) ≡ false
section-opens-none bytes = grind (arith, nat_tests, if-both, kind_code)

section-openers : (text : List ℕ) (w : Where) (place : ℕ) (bytes : List ℕ)
    → AreOpeners text (section w place bytes).answers
section-openers text w place bytes =
    grind (arith, nat_tests, append-openers, bare-openers, bare-all-cut, not-both, section-opens-none, noted-openers)

part-opens : (c : Code) → opens_part c ≡ true → is_opener c ≡ true
part-opens c h = grind (arith, nat_tests)

taking-openers : (text : List ℕ) (place byte : ℕ) (bytes : List ℕ) (more : ℕ) (xs : List Answer)
    → drop place text ≡ byte ∷ bytes → (is_opener (code_in xs) ≡ true → (byte ≡ 64) × (code_at bytes ≡ code_in xs))
    → TakesAll place (byte ∷ bytes) more xs → AreOpeners text xs
taking-openers text place byte bytes more [] here told t = tt
taking-openers text place byte bytes more (Token x ∷ xs) here told t = (
  λ k. let is = told (part-opens (kind_code x.kind) k) in
      record {
        sign = ap (λ p. begins at_sign (drop p text)) t.0.from ∙ ap (begins at_sign) here ∙ ap (λ b. b == at_sign) is.0;
        code = ap (λ p. code_at (drop (p + 1) text)) t.0.from ∙ ap code_at (drop-on text place byte bytes here) ∙ is.1;
      },
  notes-openers text xs t.1,
)
taking-openers text place byte bytes more (Begin x ∷ xs) here told t = notes-openers text xs t.1
taking-openers text place byte bytes more (Finish x ∷ xs) here told t = notes-openers text xs t.1
taking-openers text place byte bytes more (Note kind about ∷ xs) here told t = absurd t

plain-openers : (text : List ℕ) (w : Where) (fresh : Bool) (last place byte : ℕ) (bytes : List ℕ)
    → drop place text ≡ byte ∷ bytes → (byte == at_sign && begins_section bytes) ≡ false
    → AreOpeners text (in_text_apart w.part w.comments fresh last place byte bytes).answers
plain-openers text w fresh last place byte bytes here h =
    let g = in_text_apart w.part w.comments fresh last place byte bytes in
    let plain : found_apart w fresh last place byte bytes ≡ g = ap (λ t. if t then section w place bytes else g) h in
    let t : Takes place (byte ∷ bytes) g = subst (Takes place (byte ∷ bytes)) plain
    (found-takes w fresh last place byte bytes) in
    let code : code_in g.answers ≡ code_in t.rest = ap code_in t.split ∙ bare-code place t.first t.rest t.bare in
    subst (AreOpeners text) (sym t.split) (append-openers text t.first t.rest (bare-openers text place t.first t.bare)
    (taking-openers text place byte bytes g.more t.rest here (subst (λ c. is_opener c ≡ true → (byte ≡ 64)
    × (code_at bytes ≡ c)) code (in-text-tells w.part w.comments fresh last place byte bytes).code) t.whole))

pub openers : (text bytes : List ℕ) (w : Where) (fresh : Bool) (last place taken : ℕ) → drop place text ≡ bytes
    → AreOpeners text (answers bytes w fresh last place taken)
openers text [] w fresh last place taken here = grind (arith, nat_tests, bare-openers, bare-all-cut)
openers text (byte ∷ bytes) w fresh last place zero here =
    let f = found_apart w fresh last place byte bytes in
    append-openers text f.answers (answers bytes f.next (still_fresh fresh byte) byte (place + 1) f.more)
    (if-both (λ (f : ScanStep). AreOpeners text f.answers) (byte == at_sign && begins_section bytes)
    (section w place bytes) (in_text_apart w.part w.comments fresh last place byte bytes)
    (λ h. section-openers text w place bytes) (plain-openers text w fresh last place byte bytes here))
    (openers text bytes f.next (still_fresh fresh byte) byte (place + 1) f.more (drop-on text place byte bytes here))
openers text (byte ∷ bytes) w fresh last place (suc taken) here =
    openers text bytes w (still_fresh fresh byte) byte (place + 1) taken (drop-on text place byte bytes here)

-- ## The codes of the parts

pub definition-code : (kind : TokKind) (headed : Bool) → opened_by kind headed ≡ Some modes.Definition
    → (opens_part (kind_code kind) ≡ true) × (opens_definitions (kind_code kind) ≡ true)
definition-code kind headed e = grind (arith, nat_tests)

pub program-code : (kind : TokKind) (headed : Bool) → opened_by kind headed ≡ Some modes.CPart
    → (opens_part (kind_code kind) ≡ true) × (opens_c_part (kind_code kind) ≡ true)
program-code kind headed e = grind (arith, nat_tests)
