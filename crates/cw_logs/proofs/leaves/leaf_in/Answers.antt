-- A line without a category's name, with other things than names, or whose kind asks for others is no leaf line.
use Rattle.cw_logs.proofs.Terms.{◌≡◌, ◌∷◌, ◌∙◌, false, None, MatchOption, sym, subst, rules, cat_text, fits_kind}
use Rattle.cw_logs.proofs.Terms.{letter, HasLeaf, NoLeaf, AreNames}
use Rattle.cw_logs.proofs.{LineKinds.leaf-of, LineKinds.leaf-unfit, Telling.cat-injective, Telling.letter-injective}
use Rattle.cw_logs.proofs.leaves.leaf_in.Goals as goal

pub returns-in_err-cat : goal.returns-in_err-cat
returns-in_err-cat c =
    let none : c.from_residual-in_err-cat.result ≡ None = search rules in
    let line : c.args.line.now ≡ c.in_ok-byte.byte.now ∷ c.in_ok-byte.behind.now = search rules in
    let behind : c.in_ok-byte.behind.now ≡ c.in_ok-blank.blank.now ∷ c.in_ok-blank.words.now = search rules in
    let blank : c.in_ok-blank.blank.now ≡ 32 = search rules in
    subst (λ r. MatchOption r (NoLeaf c.args.line.now) (λ l. HasLeaf c.args.line.now l))
    (sym none) (λ said fine is. c.in_err-cat.ensures said.cat fine.real
    (leaf-of c.args.line.now c.in_ok-byte.behind.now _ _ _ _ _ line behind blank c.cut_word-cut.ensures said is).cat)

pub returns-in_err-count : goal.returns-in_err-count
returns-in_err-count c =
    let none : c.from_residual-in_err-count.result ≡ None = search rules in
    let line : c.args.line.now ≡ c.in_ok-byte.byte.now ∷ c.in_ok-byte.behind.now = search rules in
    let behind : c.in_ok-byte.behind.now ≡ c.in_ok-blank.blank.now ∷ c.in_ok-blank.words.now = search rules in
    let blank : c.in_ok-blank.blank.now ≡ 32 = search rules in
    subst (λ r. MatchOption r (NoLeaf c.args.line.now) (λ l. HasLeaf c.args.line.now l))
    (sym none) (λ said fine is. c.in_err-count.ensures said.names
    fine.names (leaf-of _ _ _ _ _ c.in_ok-byte.byte.now _ line behind blank c.cut_word-cut.ensures said is).names)

pub returns-then-not-fits : goal.returns-then-not-fits
returns-then-not-fits c =
    let line : c.args.line.now ≡ c.in_ok-byte.byte.now ∷ c.in_ok-byte.behind.now = search rules in
    let behind : c.in_ok-byte.behind.now ≡ c.in_ok-blank.blank.now ∷ c.in_ok-blank.words.now = search rules in
    let blank : c.in_ok-blank.blank.now ≡ 32 = search rules in
    let kind : c.in_ok-byte.byte.now ≡ letter c.in_ok-kind.kind = search rules in
    let cat : c.cut_word-cut.result.word.now ≡ cat_text c.in_ok-cat.cat = search rules in
    let names : AreNames c.cut_word-cut.result.rest.now c.in_ok-count.count = search rules in
    let unfit : fits_kind c.in_ok-kind.kind c.in_ok-cat.cat c.in_ok-count.count ≡ false = search rules in
    λ said fine is. let parts = leaf-of _ _ _ _ _ _ c.in_ok-blank.blank.now
    line behind blank c.cut_word-cut.ensures said is in leaf-unfit c.in_ok-kind.kind c.in_ok-cat.cat _ _ said names
    (letter-injective _ _ (sym kind ∙ parts.letter)) (cat-injective _ _ (sym cat ∙ parts.cat)) parts.names fine unfit
