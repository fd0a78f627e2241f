-- The names that a reduction leaves.
use Rattle.std.proofs.Common.{arith}
use Rattle.cw_translator.proofs.Terms.{◌≡◌, List, [], ◌∷◌, drop, refl, ap, Flags, Entry, normal, productions, State}
use Rattle.cw_translator.proofs.Terms.{categories, words_of, Retypes, with_categories}
use Rattle.cw_table.specs.Reaching.{IsAfter}

-- names are their words with their categories
with-categories-is : (new old : List Entry) → words_of new ≡ words_of old → new ≡ with_categories (categories new) old
with-categories-is [] [] e = refl
with-categories-is [] (o ∷ old) e = absurd (cc e)
with-categories-is (n ∷ new) [] e = absurd (cc e)
with-categories-is (n ∷ new) (o ∷ old) e = grind (arith, with-categories-is new old (ap (drop 1) e))

pub retypes : (flags : Flags) (old now : State) (names new : List Entry) → IsAfter productions flags old now → now.cats
    ≡ categories new → words_of new ≡ words_of names → Retypes flags old names new
retypes flags old now names new after cats words = grind (arith, with-categories-is, with_categories)

pub retyped-names : (flags : Flags) (old now : State) (names new : List Entry) → now ≡ normal productions flags old
    → now.cats ≡ categories new → words_of new ≡ words_of names
    → new ≡ with_categories (normal productions flags old).cats names
retyped-names flags old now names new is cats words = grind (arith, with-categories-is, with_categories)
