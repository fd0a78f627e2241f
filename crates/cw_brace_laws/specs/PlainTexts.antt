-- Texts whose operators hold no text whatever productions do.
use Rattle.std.specs.Prelude.{◌≡◌, Bool, true, false}
use Rattle.std.specs.List.{list_all}
use Rattle.cw_base.specs.declared.category.Cat.{Cat}
use Rattle.cw_base.specs.declared.category.Cat.TheVariants.{AlignasLike, Attr, AttrHead, Insert, Lproc, Question}
use Rattle.cw_table.specs.Rewriting.{State}

-- Not a comment or a layout code, the beginning of a `#` line, a question mark, or a part of an attribute: no text
-- comes into an operator but by one of these.
abbrev pub is_plain : Cat → Bool
is_plain Insert = false
is_plain Lproc = false
is_plain Question = false
is_plain AlignasLike = false
is_plain AttrHead = false
is_plain Attr = false
is_plain _ = true

-- a text of such scraps alone
abbrev pub IsPlainText : State → Type 0
IsPlainText state = list_all (λ scrap. is_plain scrap.cat) state.scraps ≡ true
