-- Worked plain texts: flat lists as the productions leave them, laid out over the tokens of their texts.
use Rattle.cw_plain.proofs.Terms.{◌≡◌, ℕ, refl, List, [], ◌∷◌, Option, Some, None, codes, length, cond, ◌==◌}
use Rattle.cw_plain.proofs.Terms.{SourceItem, IdentItem, ReservedItem, SignItem, Open, Close, PlainSource, plain}
use Rattle.cw_rules.specs.declared.tokens.Mode.TheVariants.{CPart}
use Rattle.cw_trees.specs.declared.Control.TheVariants.{Blank, OptionalBreak, Break, BigBreak, Cancel, Wall, Indent}
use Rattle.cw_trees.specs.declared.Control.TheVariants.{Outdent, Backup, ToMath, ToText, CommentEnd, NameText, NameEnd}
use Rattle.cw_lex.specs.Lexing.{tokens_of}

abbrev no_titles : ℕ → Option (List ℕ)
no_titles number = None

abbrev one_title : ℕ → List ℕ → ℕ → Option (List ℕ)
one_title place title number = cond (number == place) (Some title) None

abbrev over : List ℕ → (ℕ → Option (List ℕ)) → PlainSource
over text titles = record { answers = tokens_of text 0 (length text) CPart; titles = titles }

two_names : plain (over (codes "@c a b;") no_titles) (IdentItem 0 3 ∷ IdentItem 1 5 ∷ SourceItem 6 ∷ []) ≡ codes "a b;"
two_names = refl

if_else : plain (over (codes "@c if(a)b;else c;") no_titles) (SignItem Break ∷ SignItem Break ∷ ReservedItem 0 3
    ∷ SignItem Blank ∷ SourceItem 5 ∷ IdentItem 1 6 ∷ SourceItem 7 ∷ SignItem Indent ∷ SignItem OptionalBreak
    ∷ SignItem Wall ∷ SignItem Cancel ∷ IdentItem 2 8 ∷ SourceItem 9 ∷ SignItem Outdent ∷ SignItem Break
    ∷ ReservedItem 3 10 ∷ SignItem Indent ∷ SignItem OptionalBreak ∷ SignItem Wall ∷ SignItem Cancel ∷ IdentItem 4 15
    ∷ SourceItem 16 ∷ SignItem Outdent ∷ SignItem Break ∷ []) ≡ codes "if (a) b;\nelse c;"
if_else = refl

levels : plain (over (codes "@c {a;case b:c;}") no_titles) (SignItem Break ∷ SignItem ToMath ∷ SourceItem 3 ∷ SignItem
    Indent ∷ SignItem ToText ∷ SignItem Break ∷ IdentItem 0 4 ∷ SourceItem 5 ∷ SignItem Break ∷ SignItem Break
    ∷ SignItem Backup ∷ ReservedItem 1 6 ∷ SignItem Blank ∷ IdentItem 2 11 ∷ SourceItem 12 ∷ SignItem OptionalBreak
    ∷ IdentItem 3 13 ∷ SourceItem 14 ∷ SignItem BigBreak ∷ SignItem Backup ∷ SignItem ToMath ∷ SourceItem 15 ∷ SignItem
    ToText ∷ SignItem Outdent ∷ SignItem Break ∷ []) ≡ codes "{\n  a;\ncase b: c;\n\n}"
levels = refl

comment : plain (over (codes "@c a;/* b |x+y| */") no_titles) (IdentItem 0 3 ∷ SourceItem 4 ∷ SignItem Cancel
    ∷ SourceItem 5 ∷ SourceItem 7 ∷ Open ∷ IdentItem 1 11 ∷ SignItem ToMath ∷ SourceItem 12 ∷ IdentItem 2 13 ∷ Close
    ∷ SourceItem 15 ∷ SignItem CommentEnd ∷ SignItem Break ∷ []) ≡ codes "a;/* b |x+y| */"
comment = refl

-- a short comment that ends with a bar is one token with it
short_comments : plain (over (codes "@c //|y|\n// z\nb") no_titles) (SignItem Cancel ∷ SourceItem 3 ∷ Open ∷ IdentItem 0
    6 ∷ Close ∷ SignItem CommentEnd ∷ SignItem Break ∷ SignItem Cancel ∷ SourceItem 9 ∷ SourceItem 11 ∷ SignItem
    CommentEnd ∷ SignItem Break ∷ IdentItem 1 14 ∷ []) ≡ codes "//|y| // z\nb"
short_comments = refl

named_part : plain (over (codes "@<A |i| b@>=\nc;") (one_title 0 (codes "A |i| b")))
    (SourceItem 0 ∷ Open ∷ IdentItem 0 3 ∷ Close ∷ SignItem NameText ∷ SignItem NameEnd ∷ SourceItem 11 ∷ SignItem Break
    ∷ IdentItem 1 13 ∷ SourceItem 14 ∷ []) ≡ codes "<A |i| b>=\nc;"
named_part = refl

-- ## What a blank keeps apart

brackets : plain (over (codes "@c a[ [b]];") no_titles) (IdentItem 0 3 ∷ SourceItem 4 ∷ SourceItem 6 ∷ IdentItem 1 7
    ∷ SourceItem 8 ∷ SourceItem 9 ∷ SourceItem 10 ∷ []) ≡ codes "a[ [b]];"
brackets = refl

name_and_string : plain (over (codes "@c L \"x\";") no_titles)
    (IdentItem 0 3 ∷ SignItem ToMath ∷ SourceItem 5 ∷ SignItem ToText ∷ SourceItem 8 ∷ []) ≡ codes "L \"x\";"
name_and_string = refl

constant_and_string : plain (over (codes "@c 1 '2';") no_titles) (SourceItem 3 ∷ SourceItem 5 ∷ SourceItem 8 ∷ [])
    ≡ codes "1 '2';"
constant_and_string = refl

question_and_colons : plain (over (codes "@c a ? ::b:c;") no_titles) (IdentItem 0 3 ∷ SourceItem 5 ∷ SourceItem 7
    ∷ IdentItem 1 9 ∷ SourceItem 10 ∷ IdentItem 2 11 ∷ SourceItem 12 ∷ []) ≡ codes "a? ::b:c;"
question_and_colons = refl

prefix : plain (over (codes "@c x=u8\"y\";") no_titles)
    (IdentItem 0 3 ∷ SourceItem 4 ∷ SourceItem 5 ∷ SourceItem 10 ∷ []) ≡ codes "x=u8\"y\";"
prefix = refl
