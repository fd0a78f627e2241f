-- The first token of a list of answers at which a part of a section ends.
use Rattle.cw_phase1.proofs.Terms.{arith, ◌≡◌, ℕ, Bool, true, false, not, ◌||◌, List, [], ◌∷◌, ◌++◌, Option, Some, None}
use Rattle.cw_phase1.proofs.Terms.{append-nil, refl, sym, ap, subst, ◌∙◌, ◌⊎◌, inl, inr, if◌then◌else◌, list_any}
use Rattle.cw_phase1.proofs.Terms.{one-failed-left, one-failed-right, Span, Code, Expectation, Mode, TokKind, Answer}
use Rattle.cw_phase1.proofs.Terms.{Token, Begin, Finish, Note, Seen, has_sign, is_section_kind, is_section_answer}
use Rattle.cw_phase1.proofs.Terms.{begins_section_in, tokens_of, is_some, SecName, Part, Standing, entered_name}
use Rattle.cw_phase1.proofs.Terms.{kept_behind, Placement, Step, defining, name_step, token_step, word_role, head_role}
use Rattle.cw_phase1.proofs.Terms.{behind_begin, placed_by, placed_from, is_section_code, is_tex, first_start}
use Rattle.cw_rules.proofs.Choices.{or-false}
use Rattle.cw_lex.specs.Openings.{named, opened_by, tokens_in, opens_part_before, opens_part_in, EndsBefore}
use Rattle.cw_rules.specs.declared.codes.Code.TheVariants as at
use Rattle.cw_rules.specs.declared.tokens.Mode.TheVariants as modes
use Rattle.cw_rules.specs.declared.tokens.TokKind.TheVariants as kinds
use Rattle.cw_phase1.specs.declared.roles.Part.TheVariants as parts

-- ## The role and the part of a token

-- A section code has its role, and nothing else has it.
word-role : (wanted : Expectation) → is_section_code (word_role wanted) ≡ false
word-role wanted = grind arith

head-word : (wanted : Expectation) (kind : TokKind) → is_section_code (head_role wanted kind) ≡ false
head-word wanted kind = grind (arith, word-role)

name-role : (headed : Bool) (s : Standing) → is_section_code (name_step headed s).role ≡ false
name-role headed s = grind arith

-- what a token does to the part that the text stands in
abbrev pub part_of : Option Mode → Part → Part
part_of (Some modes.Definition) part = defining part
part_of (Some modes.CPart) part = parts.Program
part_of opened part = part

abbrev part_behind : Bool → Option Mode → Part → Part
part_behind true opened part = parts.Tex
part_behind false opened part = part_of opened part

name-part : (headed : Bool) (s : Standing) → (name_step headed s).next.part ≡ part_of (named headed) s.part
name-part headed s = grind arith

record IsTold (kind : TokKind) (headed : Bool) (part : Part) (step : Step) : Type 0 where
  role : is_section_code step.role ≡ is_section_kind kind
  part-is : step.next.part ≡ part_behind (is_section_kind kind) (opened_by kind headed) part

told : (kind : TokKind) (headed : Bool) (s : Standing) (span : Span)
    → IsTold kind headed s.part (token_step kind headed s span)
told kind headed s span = grind (arith, name-role, name-part, head-word)

-- ## What ends a part

-- A section code ends it, or the beginning of definitions or of a C part; any other token leaves the part that the text
-- stands in.
pub data Ending : Type 0 where
  AtSection : Ending
  AtDefinitions : Ending
  AtCPart : Ending
  Nowhere : Ending

abbrev pub EndsBy : TokKind → Bool → Ending → Type 0
EndsBy kind headed AtSection = is_section_kind kind ≡ true
EndsBy kind headed AtDefinitions = (is_section_kind kind ≡ false) × (opened_by kind headed ≡ Some modes.Definition)
EndsBy kind headed AtCPart = (is_section_kind kind ≡ false) × (opened_by kind headed ≡ Some modes.CPart)
EndsBy kind headed Nowhere = (is_section_kind kind ≡ false) × (opened_by kind headed ≡ None)

pub record EndsSo (kind : TokKind) (headed : Bool) : Type 0 where
  pub how : Ending
  pub so : EndsBy kind headed how

code-so : (code : Code) (headed : Bool) → EndsSo (kinds.Code code) headed
code-so at.Section headed = record { how = AtSection; so = refl }
code-so at.StarredSection headed = record { how = AtSection; so = refl }
code-so at.Define headed = record { how = AtDefinitions; so = (refl, refl) }
code-so at.Format headed = record { how = AtDefinitions; so = (refl, refl) }
code-so at.SilentFormat headed = record { how = AtDefinitions; so = (refl, refl) }
code-so at.Program headed = record { how = AtCPart; so = (refl, refl) }
code-so at.SectionName true = record { how = AtCPart; so = (refl, refl) }
code-so at.SectionName false = record { how = Nowhere; so = (refl, refl) }
code-so at.FileName true = record { how = AtCPart; so = (refl, refl) }
code-so at.FileName false = record { how = Nowhere; so = (refl, refl) }
code-so _ headed = record { how = Nowhere; so = (refl, refl) }

pub ends-so : (kind : TokKind) (headed : Bool) → EndsSo kind headed
ends-so (kinds.Code code) headed = code-so code headed
ends-so _ headed = record { how = Nowhere; so = (refl, refl) }

-- the role and the part of the token at an ending
pub section-role : (s : Standing) (t : Seen) (answers : List Answer) → is_section_kind t.kind ≡ true
    → is_section_code (token_step t.kind (has_sign answers) s t.span).role ≡ true
section-role s t answers h = (told t.kind (has_sign answers) s t.span).role ∙ h

pub plain-role : (s : Standing) (t : Seen) (answers : List Answer) → is_section_kind t.kind ≡ false
    → is_section_code (token_step t.kind (has_sign answers) s t.span).role ≡ false
plain-role s t answers h = (told t.kind (has_sign answers) s t.span).role ∙ h

pub plain-part : (s : Standing) (t : Seen) (answers : List Answer) (o : Option Mode) → is_section_kind t.kind ≡ false
    → opened_by t.kind (has_sign answers) ≡ o → (token_step t.kind (has_sign answers) s t.span).next.part
    ≡ part_of o s.part
plain-part s t answers o h e = (told t.kind (has_sign answers) s t.span).part-is ∙ (λ i. part_behind (h i) (e i) s.part)

pub section-part : (s : Standing) (t : Seen) (answers : List Answer) → is_section_kind t.kind ≡ true
    → (token_step t.kind (has_sign answers) s t.span).next.part ≡ parts.Tex
section-part s t answers h = grind (arith, told)

-- ## Lists

pub first-none : (test : Placement → Bool) (size : ℕ) (ps : List Placement) → list_any test ps ≡ false
    → first_start test size ps ≡ size
first-none test size [] h = refl
first-none test size (p ∷ ps) h = ap (λ (t : Bool). if t then p.token.span.start else first_start test size ps)
    (one-failed-left _ (list_any test ps) h) ∙ first-none test size ps (one-failed-right (test p) (list_any test ps) h)

pub first-behind : (test : Placement → Bool) (size : ℕ) (front ps : List Placement) → list_any test front ≡ false
    → first_start test size (front ++ ps) ≡ first_start test size ps
first-behind test size [] ps h = refl
first-behind test size (p ∷ front) ps h = ap (λ (t : Bool). if t then p.token.span.start else first_start test size
    (front ++ ps)) (one-failed-left (test p) (list_any test front) h)
    ∙ first-behind test size front ps (one-failed-right (test p) (list_any test front) h)

pub none-stricter : (test other : Placement → Bool) (ps : List Placement) → ((p : Placement) → other p ≡ true → test p
    ≡ true)
    → list_any test ps ≡ false → list_any other ps ≡ false
none-stricter test other [] f h = refl
none-stricter test other (p ∷ ps) f h =
    or-false (other p) _ (grind arith) (none-stricter test other ps f (one-failed-right (test p) (list_any test ps) h))

-- section codes by the tokens
abbrev is_code_token : Seen → Bool
is_code_token t = is_section_kind t.kind

code-tokens : (answers : List Answer) → begins_section_in answers ≡ list_any is_code_token (tokens_in answers)
code-tokens [] = refl
code-tokens (Token t ∷ answers) = ap (λ b. is_section_kind t.kind || b) (code-tokens answers)
code-tokens (Begin t ∷ answers) = code-tokens answers
code-tokens (Finish t ∷ answers) = code-tokens answers
code-tokens (Note kind place ∷ answers) = code-tokens answers

tokens-append : (xs ys : List Answer) → tokens_in (xs ++ ys) ≡ tokens_in xs ++ tokens_in ys
tokens-append [] ys = refl
tokens-append (Token t ∷ xs) ys = ap (λ l. t ∷ l) (tokens-append xs ys)
tokens-append (Begin t ∷ xs) ys = tokens-append xs ys
tokens-append (Finish t ∷ xs) ys = tokens-append xs ys
tokens-append (Note kind place ∷ xs) ys = tokens-append xs ys

-- A text that ends before a token has no section code where none comes before the token.
pub uncut-before : (text : List ℕ) (start : ℕ) (mode : Mode) (answers : List Answer) (t : Seen)
    → EndsBefore text start mode answers t → begins_section_in answers ≡ false
    → begins_section_in (tokens_of text start t.span.start mode) ≡ false
uncut-before text start mode answers t e h = grind (arith, code-tokens, tokens-append)

-- The sign of a head stands behind a name within the text, or not at all.
no-sign : (xs : List Answer) → tokens_in xs ≡ [] → has_sign (xs ++ []) ≡ false
no-sign (Token t ∷ xs) h = absurd cc
no-sign (Note kind place ∷ xs) h = no-sign xs h
no-sign _ _ = refl

sign-inside : (xs cut rest more : List Answer) → tokens_in cut ≡ [] → has_sign ((xs ++ cut) ++ []) ≡ true
    → has_sign ((xs ++ rest) ++ more) ≡ true
sign-inside [] cut rest more n h = absurd (let k : true ≡ false = sym h ∙ no-sign cut n in cc)
sign-inside (Token t ∷ xs) cut rest more n h = h
sign-inside (Begin t ∷ xs) cut rest more n h = absurd cc
sign-inside (Finish t ∷ xs) cut rest more n h = absurd cc
sign-inside (Note kind place ∷ xs) cut rest more n h = sign-inside xs cut rest more n h

unsigned-code : (code : Code) (headed : Bool) → is_some (opened_by (kinds.Code code) headed) ≡ false
    → is_some (opened_by (kinds.Code code) false) ≡ false
unsigned-code code headed h = grind arith

unsigned : (kind : TokKind) (headed : Bool) → is_some (opened_by kind headed) ≡ false → is_some (opened_by kind false)
    ≡ false
unsigned kind headed h = grind (arith, unsigned-code)

bare-opens : (cut : List Answer) → tokens_in cut ≡ [] → opens_part_before [] cut ≡ false
bare-opens [] h = refl
bare-opens (Token t ∷ cut) h = absurd cc
bare-opens (Begin t ∷ cut) h = bare-opens cut h
bare-opens (Finish t ∷ cut) h = bare-opens cut h
bare-opens (Note kind place ∷ cut) h = bare-opens cut h

opens-alone : (xs cut rest more : List Answer) → tokens_in cut ≡ [] → opens_part_before more (xs ++ rest) ≡ false
    → opens_part_before [] (xs ++ cut) ≡ false
opens-alone [] cut rest more n h = bare-opens cut n
opens-alone (Token t ∷ xs) cut rest more n h =
    let later = one-failed-right _ _ h in
    or-false _ _ (one-failed-left _ _ h) (or-false _ _ (grind (arith, unsigned, sign-inside, one-failed-left))
    (opens-alone xs cut rest more n (one-failed-right _ _ later)))
opens-alone (Begin t ∷ xs) cut rest more n h = opens-alone xs cut rest more n h
opens-alone (Finish t ∷ xs) cut rest more n h = opens-alone xs cut rest more n h
opens-alone (Note kind place ∷ xs) cut rest more n h = opens-alone xs cut rest more n h

-- No other part begins in a text that ends before a token, where none begins before the token.
pub alone-before : (text : List ℕ) (start : ℕ) (mode : Mode) (answers : List Answer) (t : Seen) (more : List Answer)
    → EndsBefore text start mode answers t → opens_part_before more answers ≡ false
    → opens_part_in (tokens_of text start t.span.start mode) ≡ false
alone-before text start mode answers t more e h = grind (arith, opens-alone)

-- ## The first token at which a part ends

-- A part goes on in the parts that are good for it, up to a section code.
module _ (good : Part → Bool) where
  abbrev pub ends : Placement → Bool
  ends p = is_section_code p.role || not (good p.part)

  abbrev pub token_placed : Standing → List SecName → Seen → List Answer → Placement
  token_placed s kept t answers = placed_by t (entered_name t kept) (token_step t.kind (has_sign answers) s t.span)

  -- a token behind which the part is good
  pub record KeepsToken (kind : TokKind) (opened : Option Mode) : Type 0 where
    pub part : Part
    pub stays : good (part_of opened part) ≡ true
    pub plain : is_section_kind kind ≡ false

  abbrev pub Keeps : List Answer → List Answer → Type 0
  Keeps more [] = Unit {0}
  Keeps more (Token t ∷ answers) = KeepsToken t.kind (opened_by t.kind (has_sign (answers ++ more)))
      × Keeps more answers
  Keeps more (Begin t ∷ answers) = Keeps more answers
  Keeps more (Finish t ∷ answers) = Keeps more answers
  Keeps more (Note kind place ∷ answers) = Keeps more answers

  pub record Ended (s : Standing) (kept : List SecName) (answers : List Answer) : Type 0 where
    pub none : list_any ends (placed_from s kept answers) ≡ false
    pub uncut : begins_section_in answers ≡ false
    pub keeps : Keeps [] answers

  pub record Stopped (s : Standing) (kept : List SecName) (answers : List Answer) : Type 0 where
    pub before : List Answer
    pub token : Seen
    pub behind : List Answer
    pub standing : Standing
    pub names : List SecName
    pub front : List Placement
    pub split : answers ≡ before ++ Token token ∷ behind
    pub placed : placed_from s kept answers ≡ front ++ placed_from standing names (Token token ∷ behind)
    pub none : list_any ends front ≡ false
    pub uncut : begins_section_in before ≡ false
    pub keeps : Keeps (Token token ∷ behind) before
    pub part : good standing.part ≡ true
    pub passes : ends (token_placed standing names token behind) ≡ true

  -- answers that tell no token
  ended-by : (s next : Standing) (kept : List SecName) (a : Answer) (answers : List Answer) → placed_from s kept
      (a ∷ answers) ≡ placed_from next kept answers → begins_section_in (a ∷ answers) ≡ begins_section_in answers
      → Ended next kept answers ⊎ Stopped next kept answers → begins_section_in (a ∷ []) ≡ false → ((more xs : List
      Answer) → Keeps more xs → Keeps more (a ∷ xs)) → Ended s kept (a ∷ answers) ⊎ Stopped s kept (a ∷ answers)
  ended-by s next kept a answers p u (inl e) n k = grind arith
  ended-by s next kept a answers p u (inr r) n k = inr (record {
    before = a ∷ r.before;
    token = r.token;
    behind = r.behind;
    standing = r.standing;
    names = r.names;
    front = r.front;
    split = ap (λ l. a ∷ l) r.split;
    placed = p ∙ r.placed;
    none = r.none;
    uncut = or-false _ (begins_section_in r.before) (one-failed-left (is_section_answer a) false n) r.uncut;
    keeps = k (Token r.token ∷ r.behind) r.before r.keeps;
    part = r.part;
    passes = r.passes;
  })

  token-by : (b : Bool) (s : Standing) (kept : List SecName) (t : Seen) (answers : List Answer) → good s.part ≡ true
      → ends (token_placed s kept t answers) ≡ b → (good (token_placed s kept t answers).part ≡ true → Ended
      (token_step t.kind (has_sign answers) s t.span).next (kept_behind t kept) answers ⊎ Stopped
      (token_step t.kind (has_sign answers) s t.span).next (kept_behind t kept) answers)
      → Ended s kept (Token t ∷ answers) ⊎ Stopped s kept (Token t ∷ answers)
  token-by true s kept t answers g e rest = inr (record {
    before = [];
    token = t;
    behind = answers;
    standing = s;
    names = kept;
    front = [];
    split = refl;
    placed = refl;
    none = refl;
    uncut = refl;
    keeps = tt;
    part = g;
    passes = e;
  })
  token-by false s kept t answers g e rest =
      let p = token_placed s kept t answers in
      let code = sym (told _ _ s _).role ∙ one-failed-left _ _ e in
      let stays = not-false _ (one-failed-right _ _ e) in
      let part = plain-part s t answers _ code refl in
      by code (record { part = s.part; stays = ap good (sym part) ∙ stays; plain = code }) (rest stays)
    where
      not-false : (a : Bool) → not a ≡ false → a ≡ true
      not-false true h = refl
      not-false false h = absurd cc

      by : is_section_kind t.kind ≡ false → KeepsToken t.kind (opened_by t.kind (has_sign answers))
          → Ended (token_step t.kind (has_sign answers) s t.span).next (kept_behind t kept) answers
          ⊎ Stopped (token_step t.kind (has_sign answers) s t.span).next (kept_behind t kept) answers
          → Ended s kept (Token t ∷ answers) ⊎ Stopped s kept (Token t ∷ answers)
      by code keeps (inl d) = inl (grind (arith, or-false, append-nil))
      by code keeps (inr r) = inr (record {
        before = Token t ∷ r.before;
        token = r.token;
        behind = r.behind;
        standing = r.standing;
        names = r.names;
        front = token_placed s kept t answers ∷ r.front;
        split = ap (λ l. Token t ∷ l) r.split;
        placed = ap (λ l. token_placed s kept t answers ∷ l) r.placed;
        none = or-false (ends (token_placed s kept t answers)) (list_any ends r.front) e r.none;
        uncut = or-false (is_section_kind t.kind) (begins_section_in r.before) code r.uncut;
        keeps = (subst (λ l. KeepsToken t.kind (opened_by t.kind (has_sign l))) r.split keeps, r.keeps);
        part = r.part;
        passes = r.passes;
      })

  pub stop : (s : Standing) (kept : List SecName) (answers : List Answer) → good s.part ≡ true
      → Ended s kept answers ⊎ Stopped s kept answers
  stop s kept [] g = inl (record { none = refl; uncut = refl; keeps = tt })
  stop s kept (Token t ∷ answers) g = token-by (ends (token_placed s kept t answers)) s kept t answers g refl
      (λ h. stop (token_step t.kind (has_sign answers) s t.span).next (kept_behind t kept) answers h)
  stop s kept (Begin t ∷ answers) g = ended-by s (behind_begin s) kept (Begin t) answers refl refl
      (stop (behind_begin s) kept answers g) refl (λ more xs k. k)
  stop s kept (Finish t ∷ answers) g = ended-by s s kept (Finish t) answers refl refl (stop s kept answers g) refl
      (λ more xs k. k)
  stop s kept (Note kind place ∷ answers) g = ended-by s s kept (Note kind place) answers refl refl
      (stop s kept answers g) refl (λ more xs k. k)

-- the first token that passes a test, where one that stops does
pub first-token : (good : Part → Bool) (test : Placement → Bool) (size : ℕ) (s : Standing) (kept : List SecName)
    (t : Seen)
    (answers : List Answer) → test (token_placed good s kept t answers) ≡ true
    → first_start test size (placed_from s kept (Token t ∷ answers)) ≡ t.span.start
first-token good test size s kept t answers h = grind (arith)

-- ## TeX text

pub tex-opens : (more answers : List Answer) → Keeps is_tex more answers → opens_part_before more answers ≡ false
tex-opens more [] k = refl
tex-opens more (Token t ∷ answers) k = grind (arith, tex-opens more answers k.1, ends-so, or-false)
tex-opens more (Begin t ∷ answers) k = tex-opens more answers k
tex-opens more (Finish t ∷ answers) k = tex-opens more answers k
tex-opens more (Note kind place ∷ answers) k = tex-opens more answers k
