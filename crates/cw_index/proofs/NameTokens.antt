-- Each section name among the answers of a text stands where the bytes begin one.
use Rattle.cw_index.proofs.Terms.{◌≡◌, ℕ, zero, suc, ◌+◌, ◌-◌, Bool, true, false, ◌&&◌, ◌==◌, List, [], ◌∷◌, ◌++◌}
use Rattle.cw_index.proofs.Terms.{length, drop, refl, sym, ap, subst, ◌∙◌, arith, append_assoc, append-nil}
use Rattle.cw_index.proofs.Terms.{if◌then◌else◌, take_all, Code, TokKind, Answer, Token, Begin, Finish, Note, Where}
use Rattle.cw_index.proofs.Terms.{ScanStep, code_of, code_at, is_section, begins_section, still_fresh, answers}
use Rattle.cw_index.proofs.Terms.{tokens_of, is_name_kind, name-plain, drop-on, all_cut, is_name, section, section_code}
use Rattle.cw_index.proofs.Terms.{found_apart, in_text_apart, not-both}
use Rattle.cw_rules.specs.{declared.tokens.Mode.Mode, Bytes.at_sign}
use Rattle.cw_lex.proofs.FirstTokens.{bare-code}
use Rattle.cw_rules.proofs.Choices.{if-both}
use Rattle.cw_rules.proofs.CodeStarts.{kind_code, code_in, is_opener, in-text-tells}
use Rattle.cw_rules.proofs.Taking.{AreBare, AreNotes, TakesAll, bare-all-cut, found-takes}

-- A section name begins at a place of a text.
pub record BeginsName (text : List ℕ) (place : ℕ) : Type 0 where
  pub next : ℕ
  pub behind : List ℕ
  pub here : drop place text ≡ 64 ∷ next ∷ behind
  pub name : is_name (code_of next) ≡ true

-- Where answers have a section name, it begins.
abbrev pub HaveNames : List ℕ → List Answer → Type 0
HaveNames text [] = Unit {0}
HaveNames text (Token t ∷ answers) =
    (is_name_kind t.kind ≡ true → BeginsName text t.span.start) × HaveNames text answers
HaveNames text (Begin t ∷ answers) = HaveNames text answers
HaveNames text (Finish t ∷ answers) = HaveNames text answers
HaveNames text (Note kind place ∷ answers) = HaveNames text answers

-- ## What begins at a place

name-opens : (c : Code) → is_name c ≡ true → is_opener c ≡ true
name-opens c h = grind arith

kind-name : (k : TokKind) → is_name_kind k ≡ true → is_name (kind_code k) ≡ true
kind-name k h = grind arith

section-kind : (bytes : List ℕ) → is_section (kind_code (section_code bytes).kind) ≡ true
section-kind bytes = grind (arith, if-both, kind_code)

section-found : (w : Where) (place : ℕ) (bytes : List ℕ) → is_section (code_in (section w place bytes).answers) ≡ true
section-found w place bytes = grind (arith, bare-code, bare-all-cut, section-kind)

-- The first byte is that of codes, and the others tell this code.
abbrev TellsCode : ℕ → List ℕ → Code → Type 0
TellsCode byte bytes c = (byte ≡ 64) × (code_at bytes ≡ c)

found-tells : (w : Where) (fresh : Bool) (last place byte : ℕ) (bytes : List ℕ) (c : Code)
    → code_in (found_apart w fresh last place byte bytes).answers ≡ c → is_name c ≡ true → TellsCode byte bytes c
found-tells w fresh last place byte bytes c is n = by (byte == at_sign && begins_section bytes) refl
  where
    coded : ScanStep
    coded = section w place bytes

    other : ScanStep
    other = in_text_apart w.part w.comments fresh last place byte bytes

    by : (t : Bool) → (byte == at_sign && begins_section bytes) ≡ t → TellsCode byte bytes c
    by true e =
        let f : found_apart w fresh last place byte bytes ≡ coded = ap (λ t. if t then coded else other) e in
        not-both _ (ap (λ (f : ScanStep). is_section (code_in f.answers)) f ∙ section-found w place bytes)
        (ap is_section is ∙ name-plain c n)
    by false e =
        let f : found_apart w fresh last place byte bytes ≡ other = ap (λ t. if t then coded else other) e in
        let same : code_in other.answers ≡ c = ap (λ (f : ScanStep). code_in f.answers) (sym f) ∙ is in
        let opens : is_opener (code_in other.answers) ≡ true = ap is_opener same ∙ name-opens c n in
        let told = (in-text-tells w.part w.comments fresh last place byte bytes).code opens in
        (told.0, told.1 ∙ same)

name-begins : (text : List ℕ) (place byte : ℕ) (bytes : List ℕ) (c : Code)
    → drop place text ≡ byte ∷ bytes → is_name c ≡ true → TellsCode byte bytes c → BeginsName text place
name-begins text place byte [] c here n told = absurd (let w : false ≡ true = ap is_name told.1 ∙ n in cc)
name-begins text place byte (d ∷ bs) c here n told = grind arith

-- ## All answers

bare-names : (text : List ℕ) (place : ℕ) (xs ys : List Answer) → AreBare place xs → HaveNames text ys
    → HaveNames text (xs ++ ys)
bare-names text place [] ys h g = g
bare-names text place (Finish t ∷ xs) ys h g = bare-names text place xs ys h.3 g
bare-names text place (Note kind about ∷ xs) ys h g = bare-names text place xs ys h g
bare-names _ _ _ _ h _ = absurd h

notes-names : (text : List ℕ) (xs ys : List Answer) → AreNotes xs → HaveNames text ys → HaveNames text (xs ++ ys)
notes-names text [] ys h g = g
notes-names text (Note kind about ∷ xs) ys h g = notes-names text xs ys h g
notes-names _ _ _ h _ = absurd h

-- what takes the bytes at a place
taken-names : (text : List ℕ) (place byte : ℕ) (bytes : List ℕ) (more : ℕ) (xs ys : List Answer)
    → drop place text ≡ byte ∷ bytes → TakesAll place (byte ∷ bytes) more xs → ((c : Code) → code_in xs ≡ c → is_name c
    ≡ true → TellsCode byte bytes c) → HaveNames text ys → HaveNames text (xs ++ ys)
taken-names text place byte bytes more [] ys here h told g = g
taken-names text place byte bytes more (Token t ∷ xs) ys here h told g = (
  λ k. let n = kind-name t.kind k in let begun = name-begins text place byte bytes (kind_code t.kind) here n
      (told (kind_code t.kind) refl n) in subst (BeginsName text) (sym h.0.from) begun,
  notes-names text xs ys h.1 g,
)
taken-names text place byte bytes more (Begin t ∷ xs) ys here h told g = notes-names text xs ys h.1 g
taken-names text place byte bytes more (Finish t ∷ xs) ys here h told g = notes-names text xs ys h.1 g
taken-names text place byte bytes more (Note kind about ∷ xs) ys here h told g = absurd h

found-names : (text : List ℕ) (w : Where) (fresh : Bool) (last place byte : ℕ) (bytes : List ℕ) (ys : List Answer)
    → drop place text ≡ byte ∷ bytes → HaveNames text ys
    → HaveNames text ((found_apart w fresh last place byte bytes).answers ++ ys)
found-names text w fresh last place byte bytes ys here g =
    let f = found_apart w fresh last place byte bytes in
    let t = found-takes w fresh last place byte bytes in
    let code : code_in f.answers ≡ code_in t.rest = ap code_in t.split ∙ bare-code place t.first t.rest t.bare in
    subst (HaveNames text) (sym (ap (λ l. l ++ ys) t.split ∙ append_assoc t.first t.rest ys))
    (bare-names text place t.first (t.rest ++ ys) t.bare (taken-names text place byte bytes f.more t.rest ys here
    t.whole (λ c is n. found-tells w fresh last place byte bytes c (code ∙ is) n) g))

answers-names : (text bytes : List ℕ) (w : Where) (fresh : Bool) (last place taken : ℕ) → drop place text ≡ bytes
    → HaveNames text (answers bytes w fresh last place taken)
answers-names text [] w fresh last place taken here =
    let cut : List Answer = all_cut w.part w.comments place (place - 1) in
    subst (HaveNames text) (append-nil cut)
    (bare-names text place cut [] (bare-all-cut w.part w.comments place (place - 1)) tt)
answers-names text (byte ∷ bytes) w fresh last place zero here =
    let f = found_apart w fresh last place byte bytes in
    found-names text w fresh last place byte bytes _ here (answers-names text bytes f.next (still_fresh fresh byte) byte
    (place + 1) f.more (drop-on text place byte bytes here))
answers-names text (byte ∷ bytes) w fresh last place (suc taken) here =
    answers-names text bytes w (still_fresh fresh byte) byte (place + 1) taken (drop-on text place byte bytes here)

-- the answers over a text from a place on
pub text-names : (text : List ℕ) (place : ℕ) (mode : Mode) → HaveNames text (tokens_of text place (length text) mode)
text-names text place mode = grind (arith, take_all, answers-names)
