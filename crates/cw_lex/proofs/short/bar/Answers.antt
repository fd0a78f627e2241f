-- A bar that ends inner C text stands before no other bar; else the longest sign that fits is a short token.
use Rattle.std.proofs.Common.{◌∷◌, not, ◌&&◌, sym, ap, ◌∙◌, arith}
use Rattle.cw_rules.specs.{Bytes.begins, Signs.all_signs, Signs.longest, Tokens.ends_at_bar}
use Rattle.cw_lex.proofs.ShortTokens.{inner-ends, bar-short}
use Rattle.cw_lex.proofs.short.bar.Goals as goal

pub returns-then-ends_inner : goal.returns-then-ends_inner
returns-then-ends_inner c = grind (arith, inner-ends)

pub returns-in-Some : goal.returns-in-Some
returns-in-Some c =
    let s = c.args.state.now in
    let text = c.args.text.now in
    bar-short text s.part s.comments s.at c.size.result c.in-Some.sign c.requires.calm c.requires.bar
    (ap (λ bytes. ends_at_bar s.part s.comments && not (begins 124 bytes)) (sym c.from-rest.ensures.value)
    ∙ (sym c.ends_inner.ensures ∙ c.if-ends_inner.false)) ((λ i. longest all_signs
    (c.requires.bar i ∷ sym c.from-rest.ensures.value i)) ∙ sym c.in-Some.ensures.value) c.size.ensures.some
    c.size.ensures.value (omega (arith, c.in-Some.ensures.within, c.size.ensures.value, c.from-rest.ensures.length))
