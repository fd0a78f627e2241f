-- Worked texts: what plain text has of their tokens, and what a scan of it gives.
use Rattle.cw_plain_laws.proofs.Terms.{◌≡◌, ◌==◌, ℕ, List, [], ◌∷◌, Option, Some, None, codes, cond, drop, refl, Own}
use Rattle.cw_plain_laws.proofs.Terms.{PlainSource, plain_inks, own_ink, own_inks, AreSimpleTokens, BeginsBefore}
use Rattle.cw_plain_laws.proofs.Terms.{all_unplaced, part_tokens, Answer, SourceItem, IdentItem, SignItem, Open, Close}
use Rattle.cw_plain_laws.proofs.Terms.{Break, Cancel, CommentEnd, NameEnd, NameText}

abbrev over : List ℕ → (ℕ → Option (List ℕ)) → PlainSource
over text titles = record { answers = part_tokens text; titles = titles }

-- ## Its tokens

no_titles : ℕ → Option (List ℕ)
no_titles number = None

name_at_three : ℕ → Option (List ℕ)
name_at_three number = cond (number == 3) (Some (codes "a |b| c")) None

-- a comment and the inner text in it, without its end and the bars
comment : own_inks (plain_inks (over (codes "@c a;/* b |x+y| */") no_titles) (IdentItem 0 3 ∷ SourceItem 4 ∷ SignItem
    Cancel ∷ SourceItem 5 ∷ SourceItem 7 ∷ Open ∷ IdentItem 1 11 ∷ SourceItem 12 ∷ IdentItem 2 13 ∷ Close ∷ SourceItem
    15 ∷ SignItem CommentEnd ∷ SignItem Break ∷ [])) ≡ Own 3 (codes "a") ∷ Own 4 (codes ";") ∷ Own 5 (codes "/*") ∷ Own
    7 (codes " b ") ∷ Own 11 (codes "x") ∷ Own 12 (codes "+") ∷ Own 13 (codes "y") ∷ Own 15 (codes " ") ∷ []
comment = refl

-- a section name, without the inner text in it
name : own_inks (plain_inks (over (codes "@c @<a |b| c@>;") name_at_three) (SourceItem 3 ∷ Open ∷ IdentItem 0 0 ∷ Close
    ∷ SignItem NameText ∷ SignItem NameEnd ∷ SourceItem 14 ∷ [])) ≡ Own 3 (codes "<a |b| c>") ∷ Own 14 (codes ";") ∷ []
unfolding name_at_three
name = refl

-- each is what its token prints
name_ink : own_ink (over (codes "@c @<a |b| c@>;") name_at_three) 3 ≡ Own 3 (codes "<a |b| c>")
unfolding name_at_three
name_ink = refl

-- ## A scan of it

abbrev simple_text : List ℕ
simple_text = codes "@c if(a)b=c\"x\"+@'y'-1;"

abbrev simple_tokens : List Answer
simple_tokens = drop 1 (part_tokens simple_text)

begins : BeginsBefore simple_tokens (part_tokens simple_text)
begins = (refl, refl {a = simple_tokens})

simple : AreSimpleTokens simple_tokens
simple = (refl, (refl, (refl, (refl, (refl, (refl, (refl, (refl, (refl, (refl, (refl, (refl, (refl, tt)))))))))))))

again : all_unplaced (part_tokens (codes "if (a) b=c\"x\"+@'y'-1;")) ≡ all_unplaced simple_tokens
again = refl

-- constants with digits apart, strings with a prefix, and signs of modern C
abbrev modern_tokens : List Answer
modern_tokens = drop 1 (part_tokens (codes "@c x=0b1'0+0x1.8p-3 ?: L 'y'-u8\"z\"[ [a]]:: b;"))

modern : all_unplaced (part_tokens (codes "x=0b1'0+0x1.8p-3?:L 'y'-u8\"z\"[ [a]]::b;")) ≡ all_unplaced modern_tokens
modern = refl
