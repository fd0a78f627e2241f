-- Where a head is read, what it wants stands there: a `(` directly behind a macro's name, and a sign behind the name
-- that begins a C part.
use Rattle.std.proofs.Common.{◌≡◌, ℕ, suc, ◌+◌, ◌-◌, Bool, true, false, ◌&&◌, not, ◌==◌, nat_lt, List, [], ◌∷◌}
use Rattle.std.proofs.Common.{if◌then◌else◌, drop, sym, ap, ◌∙◌, arith}
use Rattle.std.proofs.{lemmas.List.drop-drop, lemmas.Bool.Decides.nat_tests}
use Rattle.cw_base.{proofs.TestLaws.both-right, specs.Bytes.backslash}
use Rattle.cw_rules.specs.declared.{codes.Code.Code, codes.Effect.Effect, parts.Part.Part, tokens.Mode.Mode}
use Rattle.cw_rules.specs.{declared.parts.Opened.Opened, Answers.Where, Answers.ScanStep}
use Rattle.cw_rules.specs.{Bodies.at_start, Bodies.extent}
use Rattle.cw_rules.specs.{Codes.begins_section, Codes.code_at, Tokens.is_code_part}
use Rattle.cw_rules.specs.model.Apart.{in_text_apart, found_apart}
use Rattle.cw_rules.specs.Bytes.{at_sign, apostrophe, left_paren, begins, begins_by, is_in, is_letter, run}
use Rattle.cw_rules.specs.Tokens.{behind_inner, code_token, control_or_plain, head_sign_size, in_hash_line, is_head}
use Rattle.cw_rules.specs.Tokens.{is_include, is_name, is_quote, is_signed, line_end, may_head, name_follows}
use Rattle.cw_rules.specs.Tokens.{parameter_follows, passed, section_name, string, is_parameter, behind_word, inner_end}
use Rattle.cw_rules.proofs.{Choices.if-both, Rules.within, Rules.code-rule, Rules.comment-rule, Rules.part-rule}
use Rattle.cw_rules.proofs.Rules.{BeginsPart, Macro, CodeRule, LineEnd, Space, HashLine, Word, Passed, Heading}
use Rattle.cw_rules.proofs.Rules.{Beginning, Comment, InnerEnd, CommentRule, Closed, EndedLine, LimboRule, LimboText}
use Rattle.cw_rules.proofs.Rules.{PartRule, OfCode, OfLimbo, TexHeading, TexBeginning, Blank, White, MacroWanted}
use Rattle.cw_rules.proofs.Rules.{HeadWord, BeforeParameters, ParameterSign, CommaStands, Improper, ImproperInLimbo}
use Rattle.cw_lex.specs.Lexing.{beginning}
use Rattle.cw_rules.specs.declared.bodies.Body.TheVariants as bodies
use Rattle.cw_rules.specs.declared.classes.Class.TheVariants as classes
use Rattle.cw_rules.specs.declared.parts.Behind.TheVariants as behinds
use Rattle.cw_rules.specs.declared.parts.Part.TheVariants as parts
use Rattle.cw_rules.specs.declared.tokens.Mode.TheVariants as modes
use Rattle.cw_rules.specs.declared.tokens.TokKind.TheVariants as kinds

abbrev pub Wants : Part → List ℕ → Type 0
Wants parts.Head bytes = is_signed bytes ≡ true
Wants (parts.MacroParen code) bytes = begins left_paren bytes ≡ true
Wants part bytes = Unit {0}

-- a part in which nothing is wanted
abbrev IsFree : Part → Type 0
IsFree parts.Head = ⊥
IsFree (parts.MacroParen code) = ⊥
IsFree part = Unit {0}

abbrev pub WantsIn : Part → List Opened → List ℕ → Type 0
WantsIn part [] bytes = Wants part bytes
WantsIn part (c ∷ comments) bytes = IsFree part

free-wants : (part : Part) (bytes : List ℕ) → IsFree part → Wants part bytes
free-wants parts.Head bytes h = absurd h
free-wants (parts.MacroParen code) bytes h = absurd h
free-wants _ bytes h = tt

free-wants-in : (part : Part) (comments : List Opened) (bytes : List ℕ) → IsFree part → WantsIn part comments bytes
free-wants-in part [] bytes h = free-wants part bytes h
free-wants-in part (c ∷ comments) bytes h = h

-- What is wanted behind what begins at a place stands there.
abbrev pub Goes : List ℕ → ScanStep → Type 0
Goes bytes f = WantsIn f.next.part f.next.comments (drop f.more bytes)

free-goes : (bytes : List ℕ) (f : ScanStep) → IsFree f.next.part → Goes bytes f
free-goes bytes f h = free-wants-in f.next.part f.next.comments (drop f.more bytes) h

abbrev Frees : ScanStep → Type 0
Frees f = IsFree f.next.part

passed-free : (part : Part) → IsFree part → IsFree (passed part)
passed-free parts.Begin h = tt
passed-free (parts.Plain hash_line behind) h = tt
passed-free _ h = h

line-end-free : (part : Part) (comments : List Opened) (last place : ℕ) → IsFree part
    → Frees (line_end part comments last place)
line-end-free part [] last place p = if-both Frees (in_hash_line part && not (last == backslash)) _ _ (λ h. tt) (λ h. p)
line-end-free part (c ∷ comments) last place p =
    if-both Frees c.long _ _ (λ h. p) (λ h. line-end-free (passed part) comments last place (passed-free part p))

-- ## C text

name-size : (code : Code) (place : ℕ) (bytes : List ℕ) → is_name code ≡ true
    → (code_token code place bytes).size ≡ 2 + (extent (at_start bodies.SectionName (place + 2)) (drop 2 bytes)).size
name-size code place bytes h = ap (λ t. (if t then section_name code place bytes else (if is_quote code then string
    (kinds.Code code) 2 apostrophe place bytes else control_or_plain code place bytes)).size) h

-- behind the name that begins a C part stands its sign
sign-behind : (code : Code) (place byte : ℕ) (bytes : List ℕ) → is_name code ≡ true → is_head place (byte ∷ bytes)
    ≡ true → is_signed (drop ((code_token code place (byte ∷ bytes)).size - 1) bytes) ≡ true
sign-behind code place byte bytes named h =
    let e = extent (at_start bodies.SectionName (place + 2)) (drop 1 bytes) in
    let more : (code_token code place (byte ∷ bytes)).size - 1 ≡ 1 + e.size = grind (arith, nat_tests, name-size) in
    ap (λ n. is_signed (drop n bytes)) more ∙ ap is_signed (sym (drop-drop e.size 1 bytes))
    ∙ both-right e.closed (is_signed (drop e.size (drop 1 bytes))) h

head-wants : (part : Part) (comments : List Opened) (bytes : List ℕ) → may_head part comments ≡ true
    → is_signed bytes ≡ true → WantsIn parts.Head comments bytes
head-wants part comments bytes m h = grind (arith, nat_tests)

begun-free : (place : ℕ) (effect : Effect) (part : Part) → BeginsPart place effect part → IsFree part
begun-free place _ _ Macro = tt
begun-free place _ _ _ = tt

code-goes : (w : Where) (fresh : Bool) (last place byte : ℕ) (bytes : List ℕ) → IsFree w.part → (f : ScanStep)
    → CodeRule w fresh last place byte bytes f → Goes bytes f
code-goes w fresh last place byte bytes p _ (LineEnd h) =
    free-goes bytes (line_end w.part w.comments last place) (line-end-free w.part w.comments last place p)
code-goes w fresh last place byte bytes p _ (Space line h) = free-wants-in w.part w.comments bytes p
code-goes w fresh last place byte bytes p _ (HashLine h takes first) =
    free-wants-in (parts.Plain true behinds.Hash) w.comments bytes tt
code-goes w fresh last place byte bytes p _ (Word bare h) = free-wants-in (behind_word w.part (byte ∷ bytes)) w.comments
    (drop (run classes.Word (byte ∷ bytes) - 1) bytes) (if-both IsFree (in_hash_line w.part && is_include
    (byte ∷ bytes)) (parts.Plain true behinds.Include) (passed w.part) (λ h. tt) (λ h. passed-free w.part p))
code-goes w fresh last place byte bytes p _ (Passed cut k) =
    free-wants-in (passed w.part) w.comments (drop (cut.size - 1) bytes) (passed-free w.part p)
code-goes w fresh last place byte bytes p _ (Heading at e name may headed) =
    head-wants w.part w.comments _ may (sign-behind (code_at bytes) place byte bytes name headed)
code-goes w fresh last place byte bytes p _ (Beginning effect part at e begun) =
    free-wants-in part w.comments (drop 1 bytes) (begun-free place effect part begun)
code-goes w fresh last place byte bytes p _ (Comment long h) = passed-free w.part p
code-goes w fresh last place byte bytes p _ (InnerEnd h ends) =
    free-goes bytes (inner_end w place (byte ∷ bytes)) (behind w.part w.comments p)
  where
    behind : (part : Part) (comments : List Opened) → IsFree part → IsFree (behind_inner part comments).part
    behind part comments p = grind (arith, nat_tests, passed-free)

comment-goes : (part : Part) (c : Opened) (comments : List Opened) (last place byte : ℕ) (bytes : List ℕ)
    → IsFree part → (f : ScanStep) → CommentRule part c comments last place byte bytes f → Goes bytes f
comment-goes part c comments last place byte bytes p _ (Closed long h) = free-wants-in part comments (drop 1 bytes) p
comment-goes part c comments last place byte bytes p _ (EndedLine short h) =
    free-goes bytes (line_end part comments last place) (line-end-free part comments last place p)
comment-goes part c comments last place byte bytes p _ _ = p

limbo-goes : (place byte : ℕ) (bytes : List ℕ) (f : ScanStep) → LimboRule place byte bytes f → Goes bytes f
limbo-goes place byte bytes _ (LimboText h) = tt
limbo-goes place byte bytes _ _ = tt

-- a blank before the sign
blank-before : (byte : ℕ) (bytes : List ℕ) → is_in classes.Blank byte ≡ true → is_signed (byte ∷ bytes) ≡ true
    → is_signed bytes ≡ true
blank-before byte bytes h signed =
    let more : 1 + run classes.Blank bytes ≡ suc (run classes.Blank bytes) = omega arith in
    sym (ap (λ t. nat_lt 0 (head_sign_size (drop (if t then 1 + run classes.Blank bytes else 0) (byte ∷ bytes)))) h
    ∙ ap (λ n. nat_lt 0 (head_sign_size (drop n (byte ∷ bytes)))) more) ∙ signed

-- no blank before it
pub sign-here : (byte : ℕ) (bytes : List ℕ) → is_in classes.Blank byte ≡ false → is_signed (byte ∷ bytes) ≡ true
    → nat_lt 0 (head_sign_size (byte ∷ bytes)) ≡ true
sign-here byte bytes h signed = grind (arith, nat_tests)

-- a letter where a head wants one
pub letter-here : (byte : ℕ) (bytes : List ℕ) → is_in classes.White byte ≡ false → name_follows (byte ∷ bytes) ≡ true
    → is_letter byte ≡ true
letter-here byte bytes h follows = sym
    (ap (λ t. begins_by is_letter (drop (if t then 1 + run classes.White bytes else 0) (byte ∷ bytes))) h) ∙ follows

-- what may stand among the parameters of a macro, where it is wanted
pub parameter-here : (byte : ℕ) (bytes : List ℕ) → is_in classes.White byte ≡ false
    → parameter_follows (byte ∷ bytes) ≡ true → is_parameter (byte ∷ bytes) ≡ true
parameter-here byte bytes h follows =
    sym (ap (λ t. is_parameter (drop (if t then 1 + run classes.White bytes else 0) (byte ∷ bytes))) h) ∙ follows

word-behind : (byte : ℕ) (bytes : List ℕ) → is_letter byte ≡ true
    → drop (run classes.Word (byte ∷ bytes) - 1) bytes ≡ drop (run classes.Word (byte ∷ bytes)) (byte ∷ bytes)
word-behind byte bytes h =
    let some : run classes.Word (byte ∷ bytes) ≡ suc (run classes.Word bytes) = grind (arith, nat_tests) in
    let less : run classes.Word (byte ∷ bytes) - 1 ≡ run classes.Word bytes = omega arith in
    ap (λ n. drop n bytes) less ∙ sym (ap (λ n. drop n (byte ∷ bytes)) some)

code-free : (part : Part) → is_code_part part ≡ true → IsFree part
code-free parts.Head h = absurd cc
code-free (parts.MacroParen code) h = absurd cc
code-free _ h = tt

part-goes : (fresh : Bool) (last place byte : ℕ) (bytes : List ℕ) (part : Part) → Wants part (byte ∷ bytes)
    → (f : ScanStep) → PartRule fresh last place byte bytes part f → Goes bytes f
part-goes fresh last place byte bytes _ p _ (OfCode part f is r) =
    code-goes (within part) fresh last place byte bytes (code-free part is) f r
part-goes fresh last place byte bytes _ p _ (OfLimbo f r) = limbo-goes place byte bytes f r
part-goes fresh last place byte bytes _ p _ (TexHeading at e name headed) =
    sign-behind (code_at bytes) place byte bytes name headed
part-goes fresh last place byte bytes _ p _ (TexBeginning effect part at e begun) =
    free-wants part (drop 1 bytes) (begun-free place effect part begun)
part-goes fresh last place byte bytes _ p _ (Blank h) = blank-before byte bytes h p
part-goes fresh last place byte bytes _ p _ (White _ h (MacroWanted code follows)) = tt
part-goes fresh last place byte bytes _ p _ (White _ h _) = tt
part-goes fresh last place byte bytes _ p _ (HeadWord _ _ h (BeforeParameters code k)) =
    ap (begins left_paren) (word-behind byte bytes h) ∙ k
part-goes fresh last place byte bytes _ p _ (HeadWord _ _ h _) = tt
part-goes fresh last place byte bytes _ p _ (ParameterSign _ _ _ (CommaStands h)) = tt
part-goes fresh last place byte bytes _ p _ (ParameterSign _ _ _ _) = tt
part-goes fresh last place byte bytes _ p _ (Improper part kind code f is r) =
    code-goes (within parts.Definition) fresh last place byte bytes tt f r
part-goes fresh last place byte bytes _ p _ (ImproperInLimbo code second f r) = limbo-goes place byte bytes f r
part-goes fresh last place byte bytes _ p _ _ = tt

in-text-goes : (part : Part) (comments : List Opened) (fresh : Bool) (last place byte : ℕ) (bytes : List ℕ)
    → WantsIn part comments (byte ∷ bytes) → Goes bytes (in_text_apart part comments fresh last place byte bytes)
in-text-goes part [] fresh last place byte bytes p =
    part-goes fresh last place byte bytes part p _ (part-rule fresh last place byte bytes part)
in-text-goes part (c ∷ comments) fresh last place byte bytes p =
    let w : Where = record { part = part; comments = c ∷ comments } in
    if-both (Goes bytes) c.inner _ _
    (λ h. code-goes w fresh last place byte bytes p _ (code-rule w fresh last place byte bytes))
    (λ h. comment-goes part c comments last place byte bytes p _ (comment-rule part c comments last place byte bytes))

pub found-goes : (w : Where) (fresh : Bool) (last place byte : ℕ) (bytes : List ℕ)
    → WantsIn w.part w.comments (byte ∷ bytes) → Goes bytes (found_apart w fresh last place byte bytes)
found-goes w fresh last place byte bytes p = if-both (Goes bytes) (byte == at_sign && begins_section bytes) _ _
    (λ h. tt) (λ h. in-text-goes w.part w.comments fresh last place byte bytes p)

pub beginning-wants : (mode : Mode) (bytes : List ℕ) → WantsIn (beginning mode).part (beginning mode).comments bytes
beginning-wants modes.Limbo bytes = tt
beginning-wants modes.TexText bytes = tt
beginning-wants modes.CPart bytes = tt
beginning-wants modes.Definition bytes = tt
beginning-wants modes.Inner bytes = tt
