-- A macro of TeX, an identifier or a reserved word, by the category.
use Rattle.cw_mini.proofs.Terms.{◌≡◌, ◌∙◌, List, ℕ, ◌++◌, Some, ap, sym, option_map, slice_get, on_ok_weaker, Cat}
use Rattle.cw_mini.proofs.Terms.{is_tex_like, Entry}
use Rattle.cw_table.specs.Sound.{is_exp}
use Rattle.cw_index.specs.WordLaws.{ident-word, reserved-word, tex-word}
use Rattle.cw_mini.proofs.names.append_word.Goals as goal

category-is : (names : List Entry) (name : ℕ) (entry : Entry) (category : Cat) → slice_get names name ≡ Some entry
    → option_map (λ (e : Entry). e.category) (slice_get names name) ≡ Some category → entry.category ≡ category
category-is names name entry category there is = cc

pub returns-then-is_tex_like : goal.returns-then-is_tex_like
returns-then-is_tex_like c =
    λ entry there. let same : entry.category ≡ c.category-category.result = category-is c.args.names.now c.args.id.index
    entry c.category-category.result there c.category-category.ensures.value in on_ok_weaker c.append_formula.result
    (λ e. e ∙ ap (λ (l : List ℕ). c.args.line.now ++ l) (tex-word c.args.names.now c.args.id.index entry there
    (ap is_tex_like same ∙ sym c.is_tex_like.ensures ∙ c.if-is_tex_like.true))) c.append_formula.ensures

pub returns-then-is_exp : goal.returns-then-is_exp
returns-then-is_exp c = λ entry there.
    let same : entry.category ≡ c.category-category.result = category-is c.args.names.now c.args.id.index entry
    c.category-category.result there c.category-category.ensures.value in
    on_ok_weaker c.append_item.result (λ e. e ∙ ap (λ (l : List ℕ). c.args.line.now ++ l)
    (ident-word c.args.names.now c.args.id.index entry there (ap is_tex_like same ∙ sym c.is_tex_like.ensures
    ∙ c.if-is_tex_like.false) (ap is_exp same ∙ sym c.is_exp.ensures ∙ c.if-is_exp.true))) c.append_item.ensures

pub returns : goal.returns
returns c = λ entry there.
    let same : entry.category ≡ c.category-category.result = category-is c.args.names.now c.args.id.index entry
    c.category-category.result there c.category-category.ensures.value in
    on_ok_weaker c.append_item-2.result (λ e. e ∙ ap (λ (l : List ℕ). c.args.line.now ++ l)
    (reserved-word c.args.names.now c.args.id.index entry there (ap is_tex_like same ∙ sym c.is_tex_like.ensures
    ∙ c.if-is_tex_like.false) (ap is_exp same ∙ sym c.is_exp.ensures ∙ c.if-is_exp.false))) c.append_item-2.ensures
