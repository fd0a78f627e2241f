-- An identifier has the category of its name. A macro of TeX is in math, every other identifier in either mode.
use Rattle.cw_scraps.proofs.Terms.{◌≡◌, Option, Some, List, [], ◌∷◌, ◌++◌, ap, length, option_map, ◌∙◌, option_to_list}
use Rattle.cw_scraps.proofs.Terms.{Token}
use Rattle.cw_scraps.proofs.LeafForms.{macro-has, plain-has}
use Rattle.cw_scraps.proofs.leaves.word_leaf.Goals as goal

-- the list that was built is last
word-last : (word : Token) (old begun built new : List (List Token)) (first last : Option (List Token))
    → first ≡ Some [] → last ≡ option_map (λ tokens. tokens ++ word ∷ []) first → begun ≡ old → built ≡ begun
    → new ≡ built ++ option_to_list last → new ≡ old ++ (word ∷ []) ∷ []
word-last word old begun built new first last f l b d n =
    let is : last ≡ Some (word ∷ []) =
    l ∙ ap (λ (o : Option (List Token)). option_map (λ tokens. tokens ++ word ∷ []) o) f in
    n ∙ (ap (λ (ls : List (List Token)). ls ++ option_to_list last) (d ∙ b)
    ∙ ap (λ (o : Option (List Token)). old ++ option_to_list o) is)

pub returns-in-TexLike-clause-form : goal.returns-in-TexLike-clause-form
returns-in-TexLike-clause-form c = macro-has c.args.cat c.args.name c.args.number c.token_of_word.result c.ended.result
    c.args.store.now.lists c.ended.new.store.lists c.token_of_word.ensures.tokens (c.ended.ensures.list
    ∙ ap length (c.push.ensures.lists ∙ c.begin.ensures.lists)) (word-last c.token_of_word.result c.args.store.now.lists
    c.begin.new.self.lists c.push.new.self.lists c.ended.new.store.lists c.begin.new.self.building
    c.push.new.self.building c.begin.ensures.building c.push.ensures.building c.begin.ensures.lists c.push.ensures.lists
    c.ended.ensures.lists) c.in-TexLike.is c.ended.ensures.cat c.ended.ensures.left c.ended.ensures.right

pub returns-in_default-clause-form : goal.returns-in_default-clause-form
returns-in_default-clause-form c = plain-has c.args.cat c.args.name c.args.number c.token_of_word.result
    c.ended-in_default.result c.args.store.now.lists c.ended-in_default.new.store.lists c.token_of_word.ensures.tokens
    (c.ended-in_default.ensures.list ∙ ap length (c.push.ensures.lists ∙ c.begin.ensures.lists))
    (word-last c.token_of_word.result c.args.store.now.lists c.begin.new.self.lists c.push.new.self.lists
    c.ended-in_default.new.store.lists c.begin.new.self.building c.push.new.self.building c.begin.ensures.building
    c.push.ensures.building c.begin.ensures.lists c.push.ensures.lists c.ended-in_default.ensures.lists)
    c.in_default.not-TexLike c.ended-in_default.ensures.cat c.ended-in_default.ensures.left
    c.ended-in_default.ensures.right
