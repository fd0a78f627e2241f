-- Worked leaf lines, and the logs that they tell.
use Rattle.cw_leaves.proofs.Terms.{◌≡◌, ℕ, List, [], ◌∷◌, codes, refl, Ident as ident_kind, Entry, Reserved, Tree}
use Rattle.cw_leaves.proofs.Terms.{Empty, Then, Inner, Scrap, Production, Line, leaf_line, log_of_lines}
use Rattle.cw_base.specs.{declared.category.Cat.Cat, declared.mode.MathMode.TheVariants.Maybe, Flags.start_flags}
use Rattle.cw_trees.specs.Tree.{Ident}
use Rattle.cw_table.specs.Productions.{productions}
use Rattle.cw_leaves.specs.Sights.{seen_log}
use Rattle.cw_base.specs.declared.category.Cat.TheVariants as cats
use Rattle.cw_leaves.specs.declared.kinds.LeafKind.TheVariants as leaf

abbrev item : ℕ → ℕ → Production
item number place = record { number = number; place = place }

abbrev sign : Cat → Line
sign cat = record { kind = leaf.S; cat = cat; names = [] }

abbrev bare : List ℕ → Line
bare name = record { kind = leaf.B; cat = cats.Exp; names = name ∷ [] }

-- ## Lines

abbrev names : List Entry
names = record { kind = ident_kind; text = codes "a"; category = cats.Exp } ∷ record
    { kind = ident_kind; text = codes "case"; category = cats.CaseLike } ∷ record
    { kind = ident_kind; text = codes "b"; category = cats.Exp } ∷ []

abbrev scrap : Cat → Tree → Scrap
scrap cat tree = record { cat = cat; tree = tree; left = Maybe; right = Maybe }

-- one identifier, and one in an inner text beside it
a-bare-leaf : leaf_line names (scrap cats.Exp (Then (Ident 0 1) Empty)) ≡ bare (codes "a")
a-bare-leaf = refl

-- what stands behind a word like `case` isn't told
a-case-like-leaf : leaf_line names (scrap cats.Dead (Then (Ident 0 1) (Then (Reserved 1 2 cats.CaseLike)
    (Then (Ident 2 3) Empty)))) ≡ record { kind = leaf.C; cat = cats.Dead; names = codes "a" ∷ [] }
a-case-like-leaf = refl

-- a name that is a macro of TeX has a category of its own, and no name of it is told
a-macro-of-tex : leaf_line names (scrap cats.TexLike (Then (Reserved 0 1 cats.TexLike) Empty)) ≡ sign cats.TexLike
a-macro-of-tex = refl

-- identifiers of inner texts are not told
an-inner-text : leaf_line names (scrap cats.Insert (Inner (Then (Ident 0 1) Empty) Empty)) ≡ sign cats.Insert
an-inner-text = refl

-- ## Logs

-- `i=i+1;`
a-sum : log_of_lines productions start_flags (bare (codes "i") ∷ sign cats.Binop ∷ bare (codes "i") ∷ sign cats.Ubinop
    ∷ sign cats.Exp ∷ sign cats.Semi ∷ []) ≡ item 6 0 ∷ item 6 0 ∷ item 8 0 ∷ []
unfolding productions seen_log
a-sum = refl

-- `typedef struct foo{int x;} bar; bar y;`: the second `bar` is a type as soon as the first is reserved
a-reserved-name : log_of_lines productions start_flags (sign cats.TypedefLike ∷ sign cats.StructLike
    ∷ bare (codes "foo") ∷ sign cats.Lbrace ∷ sign cats.RawInt ∷ bare (codes "x") ∷ sign cats.Semi ∷ sign cats.Rbrace
    ∷ bare (codes "bar") ∷ sign cats.Semi ∷ bare (codes "bar") ∷ bare (codes "y") ∷ sign cats.Semi ∷ [])
    ≡ item 42 1 ∷ item 89 2 ∷ item 29 2 ∷ item 33 2 ∷ item 37 2 ∷ item 44 1 ∷ item 83 0 ∷ item 84 0 ∷ item 86 0
    ∷ item 89 1 ∷ item 29 1 ∷ item 33 1 ∷ item 37 1 ∷ item 38 0 ∷ []
unfolding productions seen_log
a-reserved-name = refl

-- `[[a]] int b;`
an-attribute : log_of_lines productions start_flags (sign cats.AttrHead ∷ bare (codes "a") ∷ sign cats.Rpar
    ∷ sign cats.Rpar ∷ sign cats.RawInt ∷ bare (codes "b") ∷ sign cats.Semi ∷ [])
    ≡ item 114 0 ∷ item 117 0 ∷ item 89 0 ∷ item 29 0 ∷ item 33 0 ∷ item 37 0 ∷ []
unfolding productions seen_log
an-attribute = refl
