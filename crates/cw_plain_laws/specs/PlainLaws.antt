-- Plain text of a C part that is scanned again.
use Rattle.std.specs.Prelude.{◌≡◌, ℕ, Bool, true, false, not, List, [], ◌∷◌, length, map}
use Rattle.cw_base.specs.declared.flags.Flags.{Flags}
use Rattle.cw_base.specs.declared.span.Span.{Span}
use Rattle.cw_lex.specs.Lexing.{tokens_of}
use Rattle.cw_names.specs.Names.{Entry}
use Rattle.cw_plain.specs.Plain.{plain_tree}
use Rattle.cw_plain_laws.specs.OwnLaws.{text_source, text_tree}
use Rattle.cw_rules.specs.Answers.{Answer, Token, Begin, Finish, Note, Seen}
use Rattle.cw_rules.specs.declared.codes.Code.TheVariants as codes
use Rattle.cw_rules.specs.declared.signs.Sign.{Sign}
use Rattle.cw_rules.specs.declared.signs.Sign.TheVariants as signs
use Rattle.cw_rules.specs.declared.tokens.Mode.TheVariants.{CPart}
use Rattle.cw_rules.specs.declared.tokens.TokKind.{TokKind}
use Rattle.cw_rules.specs.declared.tokens.TokKind.TheVariants as kinds
use Rattle.cw_secnames.specs.Kept.{SecName}
use Rattle.cw_secnames.specs.Uses.{NameUse}

-- a token, and an answer, but for where they stand
abbrev pub unplaced : Seen → Seen
unplaced token = record {
  kind = token.kind;
  text = token.text;
  span = record { start = 0; «end» = 0 };
  hash_line = token.hash_line;
  directive = token.directive;
}

abbrev pub unplaced_answer : Answer → Answer
unplaced_answer (Token token) = Token (unplaced token)
unplaced_answer (Begin token) = Begin (unplaced token)
unplaced_answer (Finish token) = Finish (unplaced token)
unplaced_answer (Note kind place) = Note kind 0

abbrev pub all_unplaced : List Answer → List Answer
all_unplaced answers = map unplaced_answer answers

-- the tokens of a whole text that is a C part
abbrev pub part_tokens : List ℕ → List Answer
part_tokens text = tokens_of text 0 (length text) CPart

abbrev pub is_hash : Sign → Bool
is_hash signs.Hash = true
is_hash _ = false

-- identifiers, constants, strings (those of `@'` too) and all signs but `#`
abbrev pub is_simple : TokKind → Bool
is_simple kinds.Identifier = true
is_simple kinds.Constant = true
is_simple kinds.Quoted = true
is_simple (kinds.Code codes.Quote) = true
is_simple (kinds.Sign sign) = not (is_hash sign)
is_simple kind = false

-- such tokens alone, without a note
abbrev pub AreSimpleTokens : List Answer → Type 0
AreSimpleTokens [] = Unit {0}
AreSimpleTokens (Token token ∷ answers) = (is_simple token.kind ≡ true) × AreSimpleTokens answers
AreSimpleTokens (answer ∷ answers) = ⊥

-- the code `@c` or `@p`, with which a C part begins that has no name
abbrev pub is_program : TokKind → Bool
is_program (kinds.Code codes.Program) = true
is_program kind = false

-- A C part whose code comes first and has these answers behind it.
abbrev pub BeginsBefore : List Answer → List Answer → Type 0
BeginsBefore rest [] = ⊥
BeginsBefore rest (Token token ∷ answers) = (is_program token.kind ≡ true) × (answers ≡ rest)
BeginsBefore rest (answer ∷ answers) = ⊥

-- Plain text of a C part that has only such tokens behind its code is scanned as these tokens, one behind another and
-- without a note.
abbrev pub PlainScansAgain : Type 0
PlainScansAgain = (flags : Flags) (kept : List SecName) (uses : List NameUse) (text : List ℕ) (span : Span)
    (names : List Entry) (marks : List ℕ) (rest : List Answer)
    → BeginsBefore rest (tokens_of text span.start span.«end» CPart) → AreSimpleTokens rest
    → all_unplaced (part_tokens (plain_tree (text_source kept uses text span CPart)
    (text_tree flags kept uses text span CPart names marks))) ≡ all_unplaced rest
