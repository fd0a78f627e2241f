-- The answers of the scan are nested and stand in the text, and the list of the text's tree is one of the store.
use Rattle.cw_press.proofs.Terms.{◌≡◌, ◌∙◌, ℕ, false, List, ap, arith, map, rules, sym, subst, common_steps, tokens_of}
use Rattle.cw_press.proofs.Terms.{Answer, lasting, NotesFirst, underlined, NameId, name_texts, translated, on-err}
use Rattle.cw_lex.specs.Nested.{IsNested, begins_section_in}
use Rattle.cw_lex.proofs.{Nesting.c-texts-nested, TokensWithin.tokens-within}
use Rattle.cw_translator.specs.Opening.{StartsBelow}
use Rattle.cw_reduce.proofs.ReadSteps.{within-starts}
use Rattle.cw_scraps.specs.Marking.{MarkList, marked_names}
use Rattle.cw_press.specs.model.Printing.{text_printed}
use Rattle.cw_press.proofs.TextLaws.{kept-tokens, none-noted}
use Rattle.cw_press.proofs.texts.translate_into.Goals as goal

pub translate_read-requires-clause-nested : goal.translate_read-requires-clause-nested
translate_read-requires-clause-nested g c = subst IsNested (sym c.restart.ensures.coming) (c-texts-nested
    c.args.c.text.now c.args.c.span.start c.args.c.span.end c.args.c.mode c.requires.c_text c.requires.uncut)

pub translate_read-requires-clause-start : goal.translate_read-requires-clause-start
translate_read-requires-clause-start g c = subst (StartsBelow 4294967296) (sym c.restart.ensures.coming)
    (within-starts 4294967296 c.args.c.span.start c.args.c.span.end (tokens_of c.args.c.text.now c.args.c.span.start
    c.args.c.span.end c.args.c.mode) (omega (arith, c.requires.within, c.requires.short)) (tokens-within
    c.args.c.text.now c.args.c.span.start c.args.c.span.end c.args.c.mode c.requires.order c.requires.within))

pub returns-clause-kept : goal.returns-clause-kept
returns-clause-kept g c =
    let same = kept-tokens _ _ _ _ c.restart.ensures.all c.in_ok-done.ensures.read.all c.in_ok-rooms.ensures.answers in
    record {
      answers_are = same;
      uncut = subst (λ (answers : List Answer). begins_section_in answers ≡ false) (sym same) c.requires.uncut;
      there = let e = c.in_ok-done.ensures.text.root.there 0 (omega arith) in search (e, rules);
    }

pub returns-in_err-make_room-clause-noted : goal.returns-in_err-make_room-clause-noted
returns-in_err-make_room-clause-noted g c = on-err _ _ (none-noted _ _)

pub returns-in_err-done-clause-noted : goal.returns-in_err-done-clause-noted
returns-in_err-done-clause-noted g c = on-err _ _ (none-noted _ _)

pub returns-in_err-rooms-clause-noted : goal.returns-in_err-rooms-clause-noted
returns-in_err-rooms-clause-noted g c = on-err _ _ (none-noted _ _)

pub returns-in_err-note_marks-clause-noted : goal.returns-in_err-note_marks-clause-noted
returns-in_err-note_marks-clause-noted g c =
    let named = name_texts c.args.book.now.sec_names c.args.book.now.name_uses in
    let marks : marked_names c.translate_read.new.work.marks.now ≡ (text_printed c.args.c
    (lasting c.args.book.now) c.args.book.now.names).marks = c.in_ok-done.ensures.text.text.marks_are
    ∙ (ap (λ (answers : List Answer). (translated c.args.c.flags.now named answers c.args.book.now.names
    (marked_names c.new_in-marks.result)).known.marks) c.restart.ensures.coming ∙ ap (λ (ids : List NameId).
    (translated c.args.c.flags.now named (tokens_of c.args.c.text.now c.args.c.span.start c.args.c.span.end
    c.args.c.mode) c.args.book.now.names (map (λ id. id.index) ids)).known.marks) c.new_in-marks.ensures) in
    let same : c.marks-2-1.given.0 ≡ c.translate_read.new.work.marks.now = first_of
    (search rules, grind (arith, common_steps)) in
    on-err _ _ (subst (λ (ms : List ℕ). NotesFirst (underlined c.args.c.section ms) c.args.book.now.xrefs
    c.note_marks.new.xrefs) (ap (λ (m : MarkList). marked_names m) same ∙ marks) c.in_err-note_marks.ensures.err)
