-- The answers of the scan are nested, and stand in the text; what the tree shows, and how it is read, are laws.
use Rattle.cw_reduce.proofs.Terms.{◌∙◌, arith, ap, tokens_of, marked_names, struck, texts_in, tokens-within}
use Rattle.cw_reduce.proofs.Terms.{is_some, Result, IsNested, Translated, Translator, HasEnded, shown}
use Rattle.std.proofs.Common.{IfOk}
use Rattle.std.proofs.lemmas.Result.{IfOk-weaker}
use Rattle.cw_reduce.proofs.HeadsShown.{stands-in-text, translated-shown}
use Rattle.cw_reduce.proofs.ReadSteps.{within-starts}
use Rattle.cw_translator.proofs.Terms.{◌≡◌, ℕ, List, Flags, Memory, Answer, Entry, MarkList, unfolded, Token}
use Rattle.cw_translator.specs.Translating.{translated, NameTexts}
use Rattle.cw_reduce.proofs.translating.translate_recorded.Goals as goal
use Rattle.cw_lex.proofs.Nesting.{c-texts-nested}

pub translate_read-requires-clause-nested : goal.translate_read-requires-clause-nested
translate_read-requires-clause-nested g c = rw c.over-reader.ensures (c-texts-nested c.args.text.now c.args.span.start
    c.args.span.end c.args.mode c.requires.c_text.c_mode c.requires.c_text.uncut)

pub translate_read-requires-clause-start : goal.translate_read-requires-clause-start
translate_read-requires-clause-start g c = rw c.over-reader.ensures (within-starts 4294967296 c.args.span.start
    c.args.span.end (tokens_of c.args.text.now c.args.span.start c.args.span.end c.args.mode)
    (omega (arith, c.requires.c_text.within, c.requires.c_text.short)) (tokens-within c.args.text.now c.args.span.start
    c.args.span.end c.args.mode c.requires.c_text.order c.requires.c_text.within))

pub returns-clause-text : goal.returns-clause-text
returns-clause-text g c = rw c.over-reader.ensures at c.translate_read.ensures.text

list-shown : (flags : Flags) (named : NameTexts) (answers : List Answer) (names : List Entry) (marks : List ℕ)
    (t : Translator) (steps : ℕ) (lists : List (List Token)) (names' : List Entry) (marks' : MarkList) (steps' : ℕ)
    (result : Result Translated Memory) → IsNested answers → IfOk result
    (λ done. HasEnded flags t steps lists names' marks' done steps' (translated flags named answers names marks))
    → IfOk result (λ done. struck (unfolded lists done.list.index) ≡ shown (λ n. is_some (named n)) answers)
list-shown flags named answers names marks t steps lists names' marks' steps' result nested =
    IfOk-weaker result _ _ (λ done is. ap struck is.tree ∙ translated-shown flags named answers names marks nested)

pub returns-clause-shown : goal.returns-clause-shown
returns-clause-shown g c = list-shown c.args.context.now.flags.now (texts_in c.args.context.now)
    (tokens_of c.args.text.now c.args.span.start c.args.span.end c.args.mode) c.args.work.now.names.now (marked_names
    c.args.work.now.marks.now) _ _ _ _ _ _ c.translate_read.result (c-texts-nested c.args.text.now c.args.span.start
    c.args.span.end c.args.mode c.requires.c_text.c_mode c.requires.c_text.uncut) (returns-clause-text g c).text

pub returns-clause-mode : goal.returns-clause-mode
returns-clause-mode g c = IfOk-weaker c.translate_read.result _ _ (λ done is. rw is.tree
    (stands-in-text c.args.context.now.flags.now (texts_in c.args.context.now)
    (tokens_of c.args.text.now c.args.span.start c.args.span.end c.args.mode) c.args.work.now.names.now
    (marked_names c.args.work.now.marks.now))) (returns-clause-text g c).text
