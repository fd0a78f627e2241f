-- The answers of the scan are nested and stand in the text, and the list of the text's tree is one of the store.
use Rattle.std.proofs.Common.{arith, rules, sym, subst}
use Rattle.cw_lex.specs.Lexing.{tokens_of}
use Rattle.cw_lex.specs.Nested.{IsNested}
use Rattle.cw_lex.proofs.Nesting.{c-texts-nested}
use Rattle.cw_lex.proofs.TokensWithin.{tokens-within}
use Rattle.cw_translator.specs.Opening.{StartsBelow}
use Rattle.cw_reduce.proofs.ReadSteps.{within-starts}
use Rattle.cw_each.proofs.rooms.Rooms.translate.Goals as goal

pub translate_read-requires-clause-nested : goal.translate_read-requires-clause-nested
translate_read-requires-clause-nested g c =
    subst IsNested (sym c.restart.ensures.coming)
    (c-texts-nested c.args.text.now c.args.part.span.start c.args.part.span.end c.args.part.mode
    c.requires.whole.c_mode c.requires.whole.uncut)

pub translate_read-requires-clause-start : goal.translate_read-requires-clause-start
translate_read-requires-clause-start g c =
    subst (StartsBelow 4294967296) (sym c.restart.ensures.coming)
    (within-starts 4294967296 c.args.part.span.start c.args.part.span.end
    (tokens_of c.args.text.now c.args.part.span.start c.args.part.span.end c.args.part.mode)
    (omega (arith, c.requires.whole.within, c.requires.whole.short))
    (tokens-within c.args.text.now c.args.part.span.start c.args.part.span.end c.args.part.mode c.requires.whole.order
    c.requires.whole.within))

pub returns-clause-list : goal.returns-clause-list
returns-clause-list g c =
    let there = c.in_ok-done.ensures.text.root.there 0 (omega arith) in search (there, rules)
