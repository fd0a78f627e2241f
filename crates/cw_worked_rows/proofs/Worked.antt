-- Of what worked texts are made, and what of them is shown.
use Rattle.cw_worked_rows.proofs.Terms.{◌≡◌, ℕ, suc, ◌==◌, Bool, true, false, List, [], ◌∷◌, codes, map, get_or}
use Rattle.cw_worked_rows.proofs.Terms.{replicate, Text, Math, Maybe, start_flags}
use Rattle.cw_base.specs.{declared.category.Cat.Cat, declared.mode.MathMode.MathMode}
use Rattle.cw_trees.specs.declared.Control.TheVariants.{Backup, Break, Cancel, CommentEnd, Dollar, NameEnd}
use Rattle.cw_trees.specs.declared.Control.TheVariants.{OptionalBreak, Wall}
use Rattle.cw_trees.specs.Tree.{Tree, Source, Ident, Reserved, Sign, Empty, Then}
use Rattle.cw_trees.specs.Joining.{Scrap, whole}
use Rattle.cw_trees.specs.Flat.{Item, SourceItem, IdentItem, ReservedItem, SignItem, flat, trimmed_items}
use Rattle.cw_trees.specs.Printing.{Printable, printed, sign_bytes, ident_bytes, reserved_bytes}
use Rattle.cw_table.specs.{Rewriting.State, Normal.Production, Normal.log, Normal.normal, Productions.productions}
use Prim.Native.String.{String}
use Rattle.cw_base.specs.declared.category.Cat.TheVariants as cat

-- Leaves. A number is the position of a token in the list of what the tokens print, and so is a name in the names.
abbrev scrap : Cat → MathMode → Tree → Scrap
scrap c mode tree = record { cat = c; tree = tree; left = mode; right = mode }

abbrev pub sign : Cat → MathMode → ℕ → Scrap
sign c mode n = scrap c mode (Then (Source n mode) Empty)

abbrev pub ident : ℕ → ℕ → Scrap
ident name n = scrap cat.Exp Maybe (Then (Ident name n) Empty)

abbrev pub word : Cat → ℕ → ℕ → Scrap
word c name n = scrap c Maybe (Then (Reserved name n c) Empty)

-- a name that prints as a macro of TeX
abbrev pub tex_macro : ℕ → ℕ → Scrap
tex_macro name n = scrap cat.TexLike Math (Then (Reserved name n cat.TexLike) Empty)

abbrev pub section_name : ℕ → Scrap
section_name n = scrap cat.SectionScrap Maybe (Then (Source n Maybe) (Then (Sign NameEnd) Empty))

-- codes: `@t`, `@;` and `@+`
abbrev pub tex_box : ℕ → Scrap
tex_box n = sign cat.Box Maybe n

abbrev pub invisible_semicolon : Scrap
invisible_semicolon = scrap cat.Semi Maybe Empty

abbrev pub no_break : Scrap
no_break = scrap cat.Insert Text (Then (Sign Cancel) (Then (Sign Wall) (Then (Sign OptionalBreak) (Then (Sign Wall)
    (Then (Sign Cancel) Empty)))))

-- a comment: its opening, and behind it its text
abbrev pub comment : ℕ → Scrap
comment n = scrap cat.Insert Text (Then (Sign Cancel) (Then (Source n Text) (Then (Source (suc n) Text)
    (Then (Sign CommentEnd) (Then (Sign Break) Empty)))))

-- the beginning of a `#` line, and its end
abbrev pub hash_line : ℕ → Scrap
hash_line n = scrap cat.Lproc Text (Then (Sign Break) (Then (Source n Text) Empty))

abbrev pub line_end : Scrap
line_end = scrap cat.Rproc Text (Then (Sign Break) Empty)

-- the head of a macro's definition: its code, and behind it the macro's name
abbrev pub macro_head : ℕ → ℕ → Scrap
macro_head name n = scrap cat.Dead Text (Then (Sign Backup) (Then (Source n Text) (Then (Sign Dollar)
    (Then (Ident name (suc n)) (Then (Sign Dollar) (Then (Sign OptionalBreak) Empty))))))

-- a text before its productions, none of whose names has a category of its own yet
abbrev pub start : List Scrap → State
start scraps = record { scraps = scraps; marks = []; cats = replicate 9 cat.Exp }

abbrev pub numbers : List Production → List ℕ
numbers ps = map (λ p. p.number) ps

-- what an item prints, where the bytes of the tokens are given by their numbers
abbrev pub shown : List (List ℕ) → Item → Printable
shown texts (SourceItem n) = record { item = SourceItem n; bytes = get_or texts n [] }
shown texts (IdentItem name n) = record { item = IdentItem name n; bytes = ident_bytes (get_or texts n []) }
shown texts (ReservedItem name n) = record { item = ReservedItem name n; bytes = reserved_bytes (get_or texts n []) }
shown texts (SignItem control) = record { item = SignItem control; bytes = sign_bytes control }
shown texts item = record { item = item; bytes = [] }

-- ## Tables of worked texts

-- texts that are written in one, with `~` between them
abbrev parted_at : Bool → ℕ → List (List ℕ) → List (List ℕ)
parted_at false byte (text ∷ texts) = (byte ∷ text) ∷ texts
parted_at _ byte texts = [] ∷ texts

abbrev parted : List ℕ → List (List ℕ)
parted [] = [] ∷ []
parted (byte ∷ bytes) = parted_at (byte == 126) byte (parted bytes)

-- a text as a part or as inner C text, the numbers of its productions, the bytes of its tokens, and what it prints
pub record Worked : Type 0 where
  pub is_inner : Bool
  pub scraps : List Scrap
  pub steps : List ℕ
  pub tokens : String
  pub bytes : List ℕ

abbrev pub part : List Scrap → List ℕ → String → List ℕ → Worked
part scraps steps tokens bytes =
    record { is_inner = false; scraps = scraps; steps = steps; tokens = tokens; bytes = bytes }

abbrev pub inner : List Scrap → List ℕ → String → List ℕ → Worked
inner scraps steps tokens bytes =
    record { is_inner = true; scraps = scraps; steps = steps; tokens = tokens; bytes = bytes }

abbrev bytes_of : Worked → State → List ℕ
bytes_of w state =
    printed w.is_inner (map (shown (parted (codes w.tokens))) (trimmed_items (flat (whole state.scraps))))

abbrev logs : List Worked → List (List ℕ)
logs ws = map (λ w. numbers (log productions start_flags (start w.scraps))) ws

abbrev prints : List Worked → List (List ℕ)
prints ws = map (λ w. bytes_of w (normal productions start_flags (start w.scraps))) ws

abbrev pub AreWorked : List Worked → Type 0
AreWorked ws = (logs ws ≡ map (λ w. w.steps) ws) × (prints ws ≡ map (λ w. w.bytes) ws)
