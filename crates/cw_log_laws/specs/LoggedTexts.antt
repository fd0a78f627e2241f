-- The logs of the C texts of a book: each may stand in a log, and is what its own leaf lines tell.
use Rattle.std.specs.Prelude.{◌≡◌, ◌≢◌, ℕ, ◌<◌, ◌≤◌, ◌^◌, Option, Some, None, List, length, slice_get, All}
use Rattle.cw_base.specs.declared.category.Cat.TheVariants.{End}
use Rattle.cw_base.specs.declared.flags.Flags.{Flags}
use Rattle.cw_base.specs.declared.span.Span.{Span}
use Rattle.cw_names.specs.Names.{Entry, AreDistinct}
use Rattle.cw_table.specs.Productions.{productions}
use Rattle.cw_leaves.specs.LeafLines.{log_of_lines}
use Rattle.cw_logs.specs.Appending.{block_of}
use Rattle.cw_logs.specs.LogText.{Block, IsFineBlock}
use Rattle.cw_texts.specs.declared.text_list.TextRef.{TextRef}
use Rattle.cw_translator.specs.Recording.{logged}
use Rattle.cw_each.specs.EachText.{TextSource, text_ended}

-- ## Names

-- A name keeps its place, its kind and its text; its category may be another.
abbrev pub IsKept : Option Entry → Option Entry → Type 0
IsKept None later = Unit {0}
IsKept (Some entry) None = ⊥
IsKept (Some entry) (Some later) = (later.kind ≡ entry.kind) × (later.text ≡ entry.text)

-- The same names, and perhaps more behind them.
abbrev pub IsLater : List Entry → List Entry → Type 0
IsLater names later = (k : ℕ) → IsKept (slice_get names k) (slice_get later k)

-- Names as those of a book are: no two are alike, and each has a category.
pub record AreNames (names : List Entry) : Type 0 where
  pub apart : AreDistinct names
  pub real : All (λ entry. entry.category ≢ End) names

-- ## Blocks

-- A block may stand in a log, and its productions are those that follow from its leaf lines.
pub record IsRightBlock (flags : Flags) (b : Block) : Type 0 where
  pub fine : IsFineBlock b
  pub right : b.items ≡ log_of_lines productions flags b.leaves

-- ## Texts

-- A text ends before 2^24, and doesn't begin with the first byte, since a section code or a bar stands before it.
pub record IsInside (span : Span) : Type 0 where
  pub behind : 0 < span.start
  pub within : span.«end» ≤ 2 ^ 24

abbrev pub HasShortNames : TextSource → Type 0
HasShortNames s = All (λ name. length name.text ≤ 2 ^ 24) s.sec_names

-- The names behind a text are names again, and later ones.
abbrev pub TextsKeepNames : Type 0
TextsKeepNames = (s : TextSource) (ref : TextRef) (names : List Entry) → HasShortNames s → AreNames names
    → AreNames (text_ended s ref names).known.names × IsLater names (text_ended s ref names).known.names

-- Each text whose reduction ends in it has a right block, spelled with any later names.
abbrev pub TextsAreLogged : Type 0
TextsAreLogged = (s : TextSource) (ref : TextRef) (names later : List Entry) → IsInside ref.span → HasShortNames s
    → AreNames names → AreDistinct later → IsLater (text_ended s ref names).known.names later
    → All (λ state. IsRightBlock s.flags (block_of later (logged s.flags state))) (text_ended s ref names).known.ended
