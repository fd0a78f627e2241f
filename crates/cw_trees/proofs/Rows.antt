-- Worked rows: small trees, joined, laid flat and printed.
use Rattle.std.proofs.Common.{◌≡◌, ℕ, false, [], ◌∷◌, ◌++◌, map, codes, refl}
use Rattle.cw_base.specs.declared.category.Cat.TheVariants.{Exp, Stmt, RawInt, CaseLike}
use Rattle.cw_base.specs.declared.mode.MathMode.TheVariants.{Text, Math, Maybe}
use Rattle.cw_trees.specs.declared.Control.TheVariants.{Blank, OptionalBreak, Break, Cancel, Backup, Wall, Indent}
use Rattle.cw_trees.specs.declared.Control.TheVariants.{Outdent, ToText, Dollar, Inserted, CommentEnd}
use Rattle.cw_trees.specs.Tree.{Source, Ident, Reserved, Sign, Tree, Empty, Then, Sub, Inner, Found, Stopped}
use Rattle.cw_trees.specs.Tree.{first_ident, reserve_first}
use Rattle.cw_trees.specs.Joining.{Whole, Mark, join, whole}
use Rattle.cw_trees.specs.Flat.{Item, SourceItem, IdentItem, SignItem, Open, Close, trimmed_items, struck}
use Rattle.cw_trees.specs.Printing.{Printable, printed, ident_bytes, sign_bytes}

abbrev name : ℕ → ℕ → Tree
name n number = Then (Ident n number) Empty

-- `a = b` is in math, and followed by a break and `c` it ends in text
equation_is_math : join Exp (Whole (name 0 0) Maybe Maybe ∷ Whole (Then (Source 1 Math) Empty) Math Math
    ∷ Whole (name 1 2) Maybe Maybe ∷ []) ≡ record {
      cat = Exp;
      tree =
          Sub (name 0 0) (Sub (Then (Source 1 Math) Empty) (Sub (name 1 2) Empty));
      left = Math;
      right = Math;
    }
equation_is_math = refl

toggle_before_break : join Stmt (Whole (name 0 0) Math Math ∷ Mark Break ∷ Whole (name 1 2) Maybe Maybe ∷ [])
    ≡ record {
      cat = Stmt;
      tree = Sub (name 0 0) (Then (Sign ToText) (Then (Sign Break) (Sub (name 1 2) Empty)));
      left = Math;
      right = Text;
    }
toggle_before_break = refl

blank_and_dollars : whole (record { cat = Exp; tree = name 0 0; left = Math; right = Text }
    ∷ record { cat = Exp; tree = name 1 2; left = Maybe; right = Maybe } ∷ [])
    ≡ Then (Sign Dollar) (Sub (name 0 0) (Then (Sign Blank) (Sub (name 1 2) Empty)))
blank_and_dollars = refl

-- the first identifier, in front of which `case` and an inserted mark stand in the way
passes_reserved : first_ident (Then (Reserved 5 0 RawInt) (Sub (name 7 1) (name 8 2))) ≡ Found 7
passes_reserved = refl

stops_at_case : first_ident (Then (Reserved 5 0 CaseLike) (name 7 1)) ≡ Stopped
stops_at_case = refl

stops_at_inserted : first_ident (Sub (Then (Sign Inserted) Empty) (name 7 1)) ≡ Stopped
stops_at_inserted = refl

passes_inner_text : first_ident (Inner (name 6 0) (name 7 1)) ≡ Found 7
passes_inner_text = refl

reserves_one : reserve_first (Sub (Then (Source 0 Maybe) (name 7 1)) (name 7 2))
    ≡ Sub (Then (Source 0 Maybe) (Then (Reserved 7 1 RawInt) Empty)) (name 7 2)
reserves_one = refl

-- trimming: both ends of each text, and no gap between
trims_both_ends : trimmed_items (SignItem Break ∷ SignItem Indent ∷ IdentItem 0 0 ∷ SignItem Break ∷ SourceItem 1
    ∷ SignItem Wall ∷ SignItem Blank ∷ []) ≡ SignItem Indent ∷ IdentItem 0 0 ∷ SignItem Break ∷ SourceItem 1
    ∷ SignItem Wall ∷ []
trims_both_ends = refl

trims_inner_text : trimmed_items (SourceItem 0 ∷ Open ∷ SignItem Blank ∷ IdentItem 0 0 ∷ SignItem Break ∷ Close
    ∷ SignItem Blank ∷ SignItem CommentEnd ∷ []) ≡ SourceItem 0 ∷ Open ∷ IdentItem 0 0 ∷ Close ∷ SignItem Blank
    ∷ SignItem CommentEnd ∷ []
trims_inner_text = refl

-- printing: the strongest break of a run, its indents before and its backup after; walls part runs
abbrev shown : Item → Printable
shown (SignItem control) = record { item = SignItem control; bytes = sign_bytes control }
shown (IdentItem n number) = record { item = IdentItem n number; bytes = ident_bytes (codes "x") }
shown item = record { item = item; bytes = codes "+" }

prints_strongest : printed false (map shown (IdentItem 0 0 ∷ SignItem Blank ∷ SignItem Outdent ∷ SignItem Break
    ∷ SignItem Backup ∷ SourceItem 1 ∷ [])) ≡ codes "\\|x\\2\\6\n\\4+"
prints_strongest = refl

prints_walls : printed false (map shown (SignItem Blank ∷ SignItem Wall ∷ SignItem Cancel ∷ SignItem Break
    ∷ SignItem Indent ∷ [])) ≡ codes " \\1"
prints_walls = refl

prints_inner : printed false (map shown (SourceItem 1 ∷ Open ∷ IdentItem 0 0 ∷ SignItem Break ∷ SignItem Indent
    ∷ IdentItem 0 0 ∷ Close ∷ SignItem OptionalBreak ∷ [])) ≡ codes "++\\|x \\|x+\\5"
prints_inner = refl

prints_names : ident_bytes (codes "a_b") ++ (ident_bytes (codes "N$") ++ ident_bytes (codes "_"))
    ≡ codes "\\\\{a\\_b}\\.{N\\$}\\|\\_"
prints_names = refl

strikes_comment : struck (Then (Source 0 Text) (Inner (name 0 3) (Then (Sign CommentEnd) Empty))) ≡ 0 ∷ 3 ∷ []
strikes_comment = refl
