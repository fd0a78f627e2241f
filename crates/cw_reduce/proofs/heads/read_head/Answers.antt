-- The code of a definition, or a section name, begins a head; before any other answer there is none.
use Rattle.cw_reduce.proofs.Terms.{◌≡◌, List, [], ◌++◌, inl, refl, sym, ap, ◌∙◌, Answer, Gives, Lexed, Tok, Headed}
use Rattle.cw_reduce.proofs.Terms.{without_notes, answers_in, with_names, empty-line, keeps-itself}
use Rattle.cw_rules.specs.declared.tokens.Lexed.TheVariants as lexed
use Rattle.cw_reduce.proofs.HeadMakes.{headless-other, name-token, no-head, none-token, sign-by, sign-words}
use Rattle.cw_reduce.proofs.HeadMakes.{token-headed}
use Rattle.cw_reduce.proofs.heads.read_head.Goals as goal

token-gives : (first : Lexed) (t : Tok) (rest : List Answer) → first ≡ lexed.Token t
    → Gives (without_notes (answers_in first ++ rest)) (lexed.Token t) rest
token-gives first t rest e = ap (λ l. without_notes (answers_in l ++ rest)) e

pub returns-in_default : goal.returns-in_default
returns-in_default c =
    let coming = c.args.reader.now.coming in
    let all = answers_in c.args.first ++ coming in
    record {
      head = no-head all coming c.headless.result c.headless.ensures.head c.headless.ensures.name
          c.headless.ensures.next c.requires.gives c.requires.nested c.requires.start
          (headless-other all coming c.args.first c.requires.gives c.in_default.not-Token) c.requires.idle;
      all = inl refl;
    }

pub returns-then-is_definition-clause-head : goal.returns-then-is_definition-clause-head
returns-then-is_definition-clause-head c =
    rw (token-headed (answers_in c.args.first ++ c.args.reader.now.coming) c.args.reader.now.coming c.in-Token.token
    (token-gives _ _ _ c.in-Token.is) c.requires.nested) c.definition_head.ensures.head

pub returns-then-is_section_name-clause-head : goal.returns-then-is_section_name-clause-head
returns-then-is_section_name-clause-head c =
    let named = name-token (answers_in c.args.first ++ c.args.reader.now.coming) c.args.reader.now.coming
    c.in-Token.token (token-gives _ _ _ c.in-Token.is) c.requires.nested
    (sym c.is_section_name.ensures ∙ c.if-is_section_name.true) in
    let is = ap (λ (x : Headed). x.head) named ∙ c.read_sign.ensures.head in
    record {
      made = λ flags names known. rw is (sign-by flags names c.args.store.now.lists (with_names c.args.names.now known)
          c.read_sign.result.head c.read_sign.ensures.line);
      spelt = rw is (sign-words c.read_sign.result.head c.args.names.now);
      rest = c.read_sign.ensures.rest ∙ ap (λ x. x.rest) (sym named);
      nested = c.read_sign.ensures.nested;
      start = c.read_sign.ensures.start;
      sound = rw c.read_sign.ensures.line (empty-line c.args.store.now c.args.names.now c.requires.idle);
      keeps = rw c.read_sign.ensures.line (keeps-itself c.args.store.now.lists []);
      idle = c.requires.idle;
      no_names = tt;
      no_lists = tt;
    }

pub returns-clause-head : goal.returns-clause-head
returns-clause-head c =
    let coming = c.args.reader.now.coming in
    let all = answers_in c.args.first ++ coming in
    no-head all coming c.headless-2.result c.headless-2.ensures.head c.headless-2.ensures.name c.headless-2.ensures.next
    c.requires.gives c.requires.nested c.requires.start (none-token all coming c.in-Token.token
    (token-gives _ _ _ c.in-Token.is) c.requires.nested (sym c.is_definition.ensures ∙ c.if-is_definition.false)
    (sym c.is_section_name.ensures ∙ c.if-is_section_name.false)) c.requires.idle
