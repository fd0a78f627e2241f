-- The answers over a text, in which section names have the answers of their inner texts.
use Rattle.std.specs.Prelude.{Bool, true, false, List, [], ◌∷◌, ◌++◌, Option, Some, None}
use Rattle.cw_rules.specs.declared.tokens.Directive.TheVariants.{No}
use Rattle.cw_rules.specs.Answers.{Answer, Token, Begin, Finish, Note, Seen}
use Rattle.cw_lex.specs.Limbo.{is_name_kind}
use Rattle.cw_lex.specs.Nested.{is_section_kind}
use Rattle.cw_rules.specs.declared.codes.Code.TheVariants as code
use Rattle.cw_rules.specs.declared.tokens.Lexed.{Lexed}
use Rattle.cw_rules.specs.declared.tokens.Lexed.TheVariants as lexed
use Rattle.cw_rules.specs.declared.tokens.TokKind.{TokKind}
use Rattle.cw_rules.specs.declared.tokens.TokKind.TheVariants as kind
use Rattle.cw_translator.specs.Translating.{NameTexts}

-- An inner text of a name begins and ends like one of a comment.
abbrev pub text_token : Seen
text_token = record {
  kind = kind.InnerText;
  text = [];
  span = record { start = 0; «end» = 0 };
  hash_line = false;
  directive = No;
}

abbrev pub text_answers : List Answer → List Answer
text_answers text = Begin text_token ∷ (text ++ Finish text_token ∷ [])

abbrev pub texts_answers : List (List Answer) → List Answer
texts_answers [] = []
texts_answers (text ∷ texts) = text_answers text ++ texts_answers texts

abbrev pub held_answers : List (List Answer) → List Answer
held_answers texts = texts_answers texts ++ Finish text_token ∷ []

-- A name begins with its token, and ends like a comment. One that stands for nothing is a token alone.
abbrev pub name_answers : Option (List (List Answer)) → Seen → List Answer
name_answers None token = Token token ∷ []
name_answers (Some texts) token = Begin token ∷ held_answers texts

abbrev pub token_answers : NameTexts → TokKind → Seen → List Answer
token_answers named (kind.Code code.SectionName) token = name_answers (named token.span.start) token
token_answers named (kind.Code code.FileName) token = name_answers (named token.span.start) token
token_answers named k token = Token token ∷ []

abbrev pub with_texts : NameTexts → List Answer → List Answer
with_texts named [] = []
with_texts named (Token token ∷ answers) = token_answers named token.kind token ++ with_texts named answers
with_texts named (Begin token ∷ answers) = Begin token ∷ with_texts named answers
with_texts named (Finish token ∷ answers) = Finish token ∷ with_texts named answers
with_texts named (Note note place ∷ answers) = Note note place ∷ with_texts named answers

-- Whether an answer ends a C text: none is left, or it is a section code.
abbrev pub ends_text : Lexed → Bool
ends_text lexed.End = true
ends_text (lexed.Token token) = is_section_kind token.kind
ends_text _ = false

abbrev pub is_name_answer : Lexed → Bool
is_name_answer (lexed.Token token) = is_name_kind token.kind
is_name_answer _ = false
