-- A `#` line goes on behind what begins at a place only as its tokens say, and a backslash is passed over only in one.
use Rattle.std.proofs.Common.{arith, ◌≡◌, ℕ, Bool, true, false, ◌==◌, List, [], ◌∷◌, ◌++◌, Option, Some, None, refl}
use Rattle.std.proofs.Common.{sym, ap, ◌∙◌, ◌⊎◌}
use Rattle.std.proofs.lemmas.Bool.Decides.{nat_tests}
use Rattle.cw_base.proofs.TestLaws.{both-left, both-right, not-both}
use Rattle.cw_base.specs.declared.{notes.NoteKind.NoteKind, notes.NoteKind.TheVariants.MissingBrace}
use Rattle.cw_rules.specs.declared.{bodies.NoteAt.NoteAt, codes.Code.Code, codes.Effect.Effect, parts.Part.Part}
use Rattle.cw_rules.specs.declared.{parts.Opened.Opened, tokens.TokKind.TokKind}
use Rattle.cw_rules.specs.Answers.{Answer, Token, Begin, Finish, Note, Where, Cut, ScanStep, note_answers}
use Rattle.cw_rules.specs.{Bodies.note_unless, Bodies.one_note, Codes.code_at}
use Rattle.cw_rules.specs.Tokens.{in_hash_line, passed, line_end, code_by, code_token}
use Rattle.cw_rules.specs.model.Apart.{code_text_apart, comment_text_apart, part_text_apart, in_text_apart, found_apart}
use Rattle.cw_rules.proofs.{Choices.if-both, Rules.within, Rules.code-rule, Rules.comment-rule, Rules.part-rule}
use Rattle.cw_rules.proofs.Rules.{BeginsPart, Macro, IsPassed, Standing, CodeRule, LineEnd, Space, HashLine, Word}
use Rattle.cw_rules.proofs.Rules.{Passed, Heading, Beginning, Comment, InnerEnd, CommentRule, Closed, EndedLine}
use Rattle.cw_rules.proofs.Rules.{LimboRule, LimboText, PartRule, OfCode, OfLimbo, TexBeginning, White, HeadWord}
use Rattle.cw_rules.proofs.Rules.{LastOfMacro, ParameterSign, CommaStands, Improper, ImproperMacro, ImproperInLimbo}
use Rattle.cw_laws.specs.WhiteSpace.{hash_line_by}
use Rattle.cw_rules.specs.declared.codes.Effect.TheVariants as effects
use Rattle.cw_rules.specs.declared.parts.Part.TheVariants as parts

-- ## A `#` line behind what begins at a place

-- the kind of the first token among answers
abbrev pub kind_in : List Answer → Option TokKind
kind_in [] = None
kind_in (Token t ∷ answers) = Some t.kind
kind_in (Begin t ∷ answers) = kind_in answers
kind_in (Finish t ∷ answers) = kind_in answers
kind_in (Note kind place ∷ answers) = kind_in answers

abbrev pub line_with : Bool → Option TokKind → Bool
line_with line None = line
line_with line (Some kind) = hash_line_by line kind

-- If a `#` line goes on behind what begins at a place, its tokens say so.
abbrev Lined : Bool → ScanStep → Type 0
Lined line f = in_hash_line f.next.part ≡ true → line_with line (kind_in f.answers) ≡ true

passed-same : (part : Part) → in_hash_line (passed part) ≡ in_hash_line part
passed-same part = grind (arith, nat_tests)

passed-line : (part : Part) → in_hash_line (passed part) ≡ true → in_hash_line part ≡ true
passed-line part e = sym (passed-same part) ∙ e

kind-behind : (ns : List NoteAt) (ys : List Answer) → kind_in (note_answers ns ++ ys) ≡ kind_in ys
kind-behind [] ys = refl
kind-behind (n ∷ ns) ys = kind-behind ns ys

kind-none : (ns : List NoteAt) → kind_in (note_answers ns) ≡ None
kind-none [] = refl
kind-none (n ∷ ns) = kind-none ns

-- a kind with which no `#` line begins or ends
abbrev IsPlain : TokKind → Type 0
IsPlain kind = (line : Bool) → hash_line_by line kind ≡ line

line-end-lined : (part : Part) (comments : List Opened) (last place : ℕ)
    → Lined (in_hash_line part) (line_end part comments last place)
line-end-lined part [] last place = grind (arith, nat_tests, if-both)
line-end-lined part (c ∷ comments) last place =
    let rest = line_end (passed part) comments last place in
    let missing = one_note (note_unless (c.braces == 0) NoteKind.MissingBrace place) in
    if-both (Lined (in_hash_line part)) c.long _ _ (λ h e. e) (λ h e. (λ i. line_with (sym (passed-same part) i)
    (kind-behind missing rest.answers i)) ∙ line-end-lined (passed part) comments last place e)

-- ## What begins at a place

code-token-plain : (code : Code) (place : ℕ) (bytes : List ℕ) → IsPlain (code_token code place bytes).kind
code-token-plain code place bytes = grind (arith, nat_tests, if-both)

passed-plain : (w : Where) (fresh : Bool) (place byte : ℕ) (bytes : List ℕ) (cut : Cut)
    → IsPassed w fresh place byte bytes cut → IsPlain cut.kind
passed-plain w fresh place byte bytes _ (Standing at e) = code-token-plain (code_at bytes) place (byte ∷ bytes)
passed-plain w fresh place byte bytes _ _ = λ line. refl

begun-outside : (place : ℕ) (effect : Effect) (part : Part) → BeginsPart place effect part → in_hash_line part ≡ false
begun-outside place _ _ Macro = refl
begun-outside place _ _ _ = refl

code-lined : (w : Where) (fresh : Bool) (last place byte : ℕ) (bytes : List ℕ) (f : ScanStep)
    → CodeRule w fresh last place byte bytes f → Lined (in_hash_line w.part) f
code-lined w fresh last place byte bytes _ (LineEnd h) = line-end-lined w.part w.comments last place
code-lined w fresh last place byte bytes _ (Space line h) = λ e. e
code-lined w fresh last place byte bytes _ (HashLine h takes first) = λ e. refl
code-lined w fresh last place byte bytes _ (Word bare h) = grind (arith, nat_tests, both-left, passed-line)
code-lined w fresh last place byte bytes _ (Passed cut p) =
    λ e. passed-plain w fresh place byte bytes cut p (in_hash_line w.part) ∙ passed-line w.part e
code-lined w fresh last place byte bytes _ (Heading at e name may headed) = λ e. absurd cc
code-lined w fresh last place byte bytes _ (Beginning effect part at e begun) =
    λ e. not-both (in_hash_line part) e (begun-outside place effect part begun)
code-lined w fresh last place byte bytes _ (Comment long h) = λ e. passed-line w.part e
code-lined w fresh last place byte bytes _ (InnerEnd h ends) = grind (arith, nat_tests, passed-line)

comment-lined : (part : Part) (c : Opened) (comments : List Opened) (last place byte : ℕ) (bytes : List ℕ)
    (f : ScanStep)
    → CommentRule part c comments last place byte bytes f → Lined (in_hash_line part) f
comment-lined part c comments last place byte bytes _ (Closed long h) =
    λ e. ap (line_with (in_hash_line part)) (kind-none (one_note (note_unless (c.braces == 0) MissingBrace place))) ∙ e
comment-lined part c comments last place byte bytes _ (EndedLine short h) = λ e. ap (line_with (in_hash_line part))
    (kind-behind (one_note (note_unless (c.braces == 0) MissingBrace place))
    (line_end part comments last place).answers) ∙ line-end-lined part comments last place e
comment-lined part c comments last place byte bytes _ _ = λ e. e

limbo-lined : (place byte : ℕ) (bytes : List ℕ) (f : ScanStep) → LimboRule place byte bytes f → Lined false f
limbo-lined place byte bytes _ (LimboText h) = λ e. absurd cc
limbo-lined place byte bytes _ _ = λ e. absurd cc

part-lined : (fresh : Bool) (last place byte : ℕ) (bytes : List ℕ) (part : Part) (f : ScanStep)
    → PartRule fresh last place byte bytes part f → Lined (in_hash_line part) f
part-lined fresh last place byte bytes _ _ (OfCode part f is r) =
    code-lined (within part) fresh last place byte bytes f r
part-lined fresh last place byte bytes _ _ (OfLimbo f r) = limbo-lined place byte bytes f r
part-lined fresh last place byte bytes _ _ (TexBeginning effect part at e begun) =
    λ e. not-both (in_hash_line part) e (begun-outside place effect part begun)
part-lined fresh last place byte bytes _ _ (White part h wanted) = λ e. e
part-lined fresh last place byte bytes _ _ (HeadWord _ _ h (LastOfMacro code)) = λ e. absurd cc
part-lined fresh last place byte bytes _ _ (HeadWord _ _ h _) = λ e. absurd cc
part-lined fresh last place byte bytes _ _ (ParameterSign _ _ _ (CommaStands h)) = λ e. absurd cc
part-lined fresh last place byte bytes _ _ (ParameterSign _ _ _ _) = λ e. absurd cc
part-lined fresh last place byte bytes _ _ (Improper _ _ _ f (ImproperMacro code) r) =
    code-lined (within parts.Definition) fresh last place byte bytes f r
part-lined fresh last place byte bytes _ _ (Improper _ _ _ f _ r) =
    code-lined (within parts.Definition) fresh last place byte bytes f r
part-lined fresh last place byte bytes _ _ (ImproperInLimbo code second f r) = limbo-lined place byte bytes f r
part-lined fresh last place byte bytes _ _ _ = λ e. absurd cc

pub in-text-lined : (part : Part) (comments : List Opened) (fresh : Bool) (last place byte : ℕ) (bytes : List ℕ)
    → Lined (in_hash_line part) (in_text_apart part comments fresh last place byte bytes)
in-text-lined part [] fresh last place byte bytes =
    part-lined fresh last place byte bytes part _ (part-rule fresh last place byte bytes part)
in-text-lined part (c ∷ comments) fresh last place byte bytes =
    let w : Where = record { part = part; comments = c ∷ comments } in
    if-both (Lined (in_hash_line part)) c.inner _ _
    (λ h. code-lined w fresh last place byte bytes _ (code-rule w fresh last place byte bytes))
    (λ h. comment-lined part c comments last place byte bytes _ (comment-rule part c comments last place byte bytes))

-- ## A backslash

-- a token or a comment begins among answers
abbrev pub has_start : List Answer → Bool
has_start [] = false
has_start (Token t ∷ answers) = true
has_start (Begin t ∷ answers) = true
has_start (Finish t ∷ answers) = has_start answers
has_start (Note kind place ∷ answers) = has_start answers

-- A backslash is a token or begins one, or a `#` line goes on.
abbrev pub Starts : Bool → ScanStep → Type 0
Starts line f = (has_start f.answers ≡ true) ⊎ (line ≡ true)

code-by-starts : (effect : Effect) (code : Code) (w : Where) (place : ℕ) (bytes : List ℕ)
    → has_start (code_by effect code w place bytes).answers ≡ true
code-by-starts effects.Stands code w place bytes = refl
code-by-starts (effects.Drops note) code w place bytes = refl
code-by-starts effects.Defines code w place bytes = refl
code-by-starts effects.Formats code w place bytes = refl
code-by-starts effects.BeginsC code w place bytes = refl

code-text-starts : (w : Where) (fresh : Bool) (last place : ℕ) (bytes : List ℕ)
    → Starts (in_hash_line w.part) (code_text_apart w fresh last place 92 bytes)
code-text-starts w fresh last place bytes = grind (arith, nat_tests, if-both, both-left)

comment-text-starts : (part : Part) (c : Opened) (comments : List Opened) (last place : ℕ) (bytes : List ℕ)
    → Starts (in_hash_line part) (comment_text_apart part c comments last place 92 bytes)
comment-text-starts part c comments last place bytes = grind (arith, nat_tests, if-both, both-right)

part-text-starts : (part : Part) (fresh : Bool) (last place : ℕ) (bytes : List ℕ)
    → Starts (in_hash_line part) (part_text_apart part (within part) fresh last place 92 bytes)
part-text-starts part fresh last place bytes = grind (arith, nat_tests, code-text-starts)

pub found-starts : (w : Where) (fresh : Bool) (last place : ℕ) (bytes : List ℕ)
    → Starts (in_hash_line w.part) (found_apart w fresh last place 92 bytes)
found-starts w fresh last place bytes = by w.part w.comments
  where
    by : (part : Part) (comments : List Opened)
        → Starts (in_hash_line part) (in_text_apart part comments fresh last place 92 bytes)
    by part comments = grind (arith, nat_tests, part-text-starts, if-both, code-text-starts, comment-text-starts)
