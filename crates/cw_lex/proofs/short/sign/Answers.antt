-- The longest sign that fits is a short token where its first byte begins nothing else.
use Rattle.std.proofs.Common.{◌∷◌, slice_index, ap, sym, ◌∙◌, arith}
use Rattle.cw_lex.{specs.model.Short.is_alone, proofs.ShortTokens.sign-short}
use Rattle.cw_rules.specs.Signs.{all_signs, longest}
use Rattle.cw_lex.proofs.short.sign.Goals as goal

pub returns-in-Some : goal.returns-in-Some
returns-in-Some c =
    let s = c.args.state.now in
    let text = c.args.text.now in
    sign-short text s.part s.comments s.at c.size.result c.in-Some.sign c.requires.calm c.requires.place
    c.requires.letter c.requires.digit (ap (is_alone (slice_index text s.at)) (sym c.from-rest.ensures.value)
    ∙ (sym c.is_alone.ensures ∙ c.if-not-is_alone.false)) (ap (λ bytes. longest all_signs
    (slice_index text s.at ∷ bytes)) (sym c.from-rest.ensures.value) ∙ sym c.in-Some.ensures.value) c.size.ensures.some
    c.size.ensures.value (omega (arith, c.in-Some.ensures.within, c.size.ensures.value, c.from-rest.ensures.length))
