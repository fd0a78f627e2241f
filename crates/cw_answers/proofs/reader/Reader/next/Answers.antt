-- An answer comes, and it is kept behind those before it where all are kept.
use Rattle.cw_answers.proofs.Terms.{subst, ap, ◌++◌, arith, common_steps, Begin, Finish, Token, seen, Stays, all_of}
use Rattle.cw_answers.proofs.Terms.{answers_at}
use Rattle.cw_answers.proofs.Reading.{note-reading, note-stays, token-reading}
use Rattle.cw_answers.proofs.reader.Reader.next.Goals as goal

pub invariant_of-self : goal.invariant_of-self
invariant_of-self c = token-reading c.self.inside.text.now c.self.inside.room c.push.new.self _
    (Token (seen c.in-Token.token)) c.self.inside.lexer c.next.new.self c.in-Token.ensures c.of.ensures.within
    c.push.ensures c.self.invariant

pub invariant_of-self-in-Begin : goal.invariant_of-self-in-Begin
invariant_of-self-in-Begin c = token-reading c.self.inside.text.now c.self.inside.room c.push-in-Begin.new.self _
    (Begin (seen c.in-Begin.token)) c.self.inside.lexer c.next.new.self c.in-Begin.ensures c.of-in-Begin.ensures.within
    c.push-in-Begin.ensures c.self.invariant

pub invariant_of-self-in-Finish : goal.invariant_of-self-in-Finish
invariant_of-self-in-Finish c = token-reading c.self.inside.text.now c.self.inside.room c.push-in-Finish.new.self _
    (Finish (seen c.in-Finish.token)) c.self.inside.lexer c.next.new.self c.in-Finish.ensures
    c.of-in-Finish.ensures.within c.push-in-Finish.ensures c.self.invariant

pub invariant_of-self-in-Note : goal.invariant_of-self-in-Note
invariant_of-self-in-Note c = note-reading c.self.inside.text.now c.self.inside.room c.push_note.new.self c.in-Note.kind
    c.in-Note.place c.self.inside.lexer c.next.new.self c.in-Note.ensures c.push_note.ensures c.self.invariant

pub returns-in-Note-clause-all : goal.returns-in-Note-clause-all
returns-in-Note-clause-all c = subst (λ old. Stays old (all_of c.push_note.new.self.whole
    (answers_at c.self.inside.text.now c.push_note.new.self.items.items ++ c.next.new.self)))
    (ap (λ r. r.all) c.self.view_is) (note-stays c.self.inside.text.now c.self.inside.room c.push_note.new.self
    c.in-Note.kind c.in-Note.place c.self.inside.lexer c.next.new.self c.in-Note.ensures c.push_note.ensures)

pub returns-in-Begin-clause-all : goal.returns-in-Begin-clause-all
returns-in-Begin-clause-all c = grind (arith, common_steps)
