-- The text of worked blocks.
use Rattle.cw_logs.proofs.Terms.{◌≡◌, List, ℕ, [], ◌∷◌, codes, refl, Cat, Production, Line, Block, log_lines}
use Rattle.cw_logs.proofs.Terms.{log_text}
use Rattle.std.specs.Fmt.{digits}
use Rattle.cw_base.specs.declared.category.Cat.TheVariants as cats
use Rattle.cw_leaves.specs.declared.kinds.LeafKind.TheVariants as leaf

abbrev item : ℕ → ℕ → Production
item number place = record { number = number; place = place }

abbrev sign : Cat → Line
sign cat = record { kind = leaf.S; cat = cat; names = [] }

abbrev bare : List ℕ → Line
bare name = record { kind = leaf.B; cat = cats.Exp; names = name ∷ [] }

-- `i=i+1;`
abbrev sum : Block
sum = record {
  leaves = bare (codes "i") ∷ sign cats.Binop ∷ bare (codes "i") ∷ sign cats.Ubinop ∷ sign cats.Exp ∷ sign cats.Semi ∷
      [];
  items = item 6 0 ∷ item 6 0 ∷ item 8 0 ∷ [];
}

sum-lines : log_lines (sum ∷ []) ≡ codes "text 6" ∷ codes "b exp i" ∷ codes "s binop" ∷ codes "b exp i"
    ∷ codes "s ubinop" ∷ codes "s exp" ∷ codes "s semi" ∷ codes "P6 0" ∷ codes "P6 0" ∷ codes "P8 0" ∷ codes "end" ∷ []
unfolding digits
sum-lines = refl

-- an empty text, and the head of a macro with a word like `case`
abbrev head : Block
head = record {
  leaves = record { kind = leaf.C; cat = cats.Dead; names = codes "f" ∷ [] }
      ∷ record { kind = leaf.I; cat = cats.Dead; names = codes "g" ∷ codes "x" ∷ [] } ∷ [];
  items = [];
}

head-text : log_text (record { leaves = []; items = [] } ∷ head ∷ [])
    ≡ codes "text 0\nend\ntext 2\nc dead f\ni dead g x\nend\n"
unfolding digits
head-text = refl

-- the last row of the table, and a category that is of names alone
abbrev last : Block
last = record { leaves = sign cats.TexLike ∷ sign cats.Attr ∷ []; items = item 148 16777215 ∷ [] }

last-text : log_text (last ∷ []) ≡ codes "text 2\ns tex_like\ns attr\nP148 16777215\nend\n"
unfolding digits
last-text = refl
