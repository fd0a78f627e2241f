-- The leaf line of a scrap.
use Rattle.std.specs.Prelude.{◌≡◌, ℕ, Bool, true, false, ◌&&◌, nat_eq, slice_get, Option, Some, None, List, [], ◌∷◌}
use Rattle.std.specs.Prelude.{map, All}
use Rattle.std.specs.Cmp.Lexicographic.{pointwise}
use Rattle.cw_base.specs.declared.category.Cat.{Cat}
use Rattle.cw_base.specs.declared.flags.Flags.{Flags}
use Rattle.cw_names.specs.declared.entry.EntryKind.{EntryKind}
use Rattle.cw_names.specs.declared.entry.EntryKind.TheVariants.{Ident as ident_kind}
use Rattle.cw_names.specs.Names.{Entry, same_kind}
use Rattle.cw_trees.specs.declared.Control.TheVariants.{Inserted}
use Rattle.cw_trees.specs.Tree.{Leaf, Source, Ident, Reserved, Sign, Tree, Empty, Then, Sub, Inner, Search, Found}
use Rattle.cw_trees.specs.Tree.{Nothing, search_word, bare_name}
use Rattle.cw_trees.specs.Joining.{Scrap}
use Rattle.cw_table.specs.declared.types.Row.{Row}
use Rattle.cw_table.specs.Normal.{Production}
use Rattle.cw_leaves.specs.declared.kinds.LeafKind.{LeafKind}
use Rattle.cw_leaves.specs.declared.kinds.LeafKind.TheVariants as leaf
use Rattle.cw_leaves.specs.Sights.{Utterance, silence, followed, told_by, Sight, seen_log}

-- ## The identifiers of a leaf

-- Its unreserved identifiers in order, outside inner texts, up to the first word like `case`.
abbrev pub said_by : Leaf → Search
said_by (Source number mode) = Nothing
said_by (Ident name number) = Found name
said_by (Reserved name number cat) = search_word cat
said_by (Sign control) = Nothing

abbrev pub said : Tree → Utterance ℕ
said Empty = silence
said (Then leaf rest) = followed (told_by (said_by leaf)) (said rest)
said (Sub tree rest) = followed (said tree) (said rest)
said (Inner tree rest) = said rest

-- ## The line

-- Its names stand in it with their texts.
pub record Line : Type 0 where
  pub kind : LeafKind
  pub cat : Cat
  pub names : List (List ℕ)

abbrev pub kind_by : Option ℕ → Bool → List ℕ → LeafKind
kind_by (Some name) stops names = leaf.B
kind_by None true names = leaf.C
kind_by None false (name ∷ names) = leaf.I
kind_by None false [] = leaf.S

abbrev pub text_by : Option Entry → List ℕ
text_by None = []
text_by (Some entry) = entry.text

abbrev pub text_at : List Entry → ℕ → List ℕ
text_at names name = text_by (slice_get names name)

abbrev pub leaf_line : List Entry → Scrap → Line
leaf_line names scrap = record {
  kind = kind_by (bare_name scrap.tree) (said scrap.tree).stops (said scrap.tree).names;
  cat = scrap.cat;
  names = map (text_at names) (said scrap.tree).names;
}

-- ## What it tells of the productions

-- A name by its entry, so that names of two lists can be compared.
pub data EntryName : Type 0 where
  Entered : (kind : EntryKind) → (text : List ℕ) → EntryName
  Unknown : (name : ℕ) → EntryName

abbrev pub called_by : ℕ → Option Entry → EntryName
called_by name None = Unknown name
called_by name (Some entry) = Entered entry.kind entry.text

abbrev pub called : List Entry → ℕ → EntryName
called names name = called_by name (slice_get names name)

abbrev pub same_called : EntryName → EntryName → Bool
same_called (Entered kind text) (Entered other other_text) = same_kind kind other && pointwise nat_eq text other_text
same_called (Unknown name) (Unknown other) = nat_eq name other
same_called (Entered kind text) (Unknown other) = false
same_called (Unknown name) (Entered kind text) = false

-- what productions see of a scrap that has this line
abbrev pub first_called : List (List ℕ) → Option EntryName
first_called [] = None
first_called (text ∷ texts) = Some (Entered ident_kind text)

abbrev pub bare_in : LeafKind → List (List ℕ) → Option EntryName
bare_in leaf.B texts = first_called texts
bare_in leaf.C texts = None
bare_in leaf.I texts = None
bare_in leaf.S texts = None

abbrev pub stops_in : LeafKind → Bool
stops_in leaf.B = false
stops_in leaf.C = true
stops_in leaf.I = false
stops_in leaf.S = false

abbrev pub line_sight : Line → Sight EntryName
line_sight line = record {
  cat = line.cat;
  bare = bare_in line.kind line.names;
  heard = record { names = map (Entered ident_kind) line.names; stops = stops_in line.kind };
}

-- the log of all scraps that have these leaf lines
abbrev pub log_of_lines : List Row → Flags → List Line → List Production
log_of_lines rows flags lines = seen_log same_called rows flags (map line_sight lines)

-- ## The scraps of which it tells all

abbrev pub IsClear : Leaf → Type 0
IsClear (Source number mode) = Unit {0}
IsClear (Ident name number) = Unit {0}
IsClear (Reserved name number cat) = Unit {0}
IsClear (Sign Inserted) = ⊥
IsClear (Sign control) = Unit {0}

-- The mark Inserted stands in it in inner texts alone.
abbrev pub HasNoMark : Tree → Type 0
HasNoMark Empty = Unit {0}
HasNoMark (Then leaf rest) = IsClear leaf × HasNoMark rest
HasNoMark (Sub tree rest) = HasNoMark tree × HasNoMark rest
HasNoMark (Inner tree rest) = HasNoMark rest

abbrev pub IsIdentEntry : Option Entry → Type 0
IsIdentEntry None = ⊥
IsIdentEntry (Some entry) = entry.kind ≡ ident_kind

-- and its names are identifiers among the entries
pub record IsTold (names : List Entry) (scrap : Scrap) : Type 0 where
  pub unmarked : HasNoMark scrap.tree
  pub idents : All (λ name. IsIdentEntry (slice_get names name)) (said scrap.tree).names
