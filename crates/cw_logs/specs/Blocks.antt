-- The first block of a log, as it is read; its identifiers are added to a list of names.
use Rattle.std.specs.Prelude.{◌≡◌, ℕ, ◌<◌, List, [], ◌∷◌, ◌++◌, length, slice_get, All}
use Rattle.std.specs.List.{flat_map}
use Rattle.cw_base.specs.Text.{pieces_of}
use Rattle.cw_names.specs.declared.entry.EntryKind.TheVariants.{Ident}
use Rattle.cw_names.specs.Names.{Entry, with_entry}
use Rattle.cw_leaves.specs.declared.lines.NameList.{NameList}
use Rattle.cw_leaves.specs.LeafLines.{Line, IsIdentEntry}
use Rattle.cw_leaves.specs.Spelling.{AreKnown}
use Rattle.cw_logs.specs.declared.blocks.ReadBlock.{ReadBlock}
use Rattle.cw_logs.specs.Appending.{block_of}
use Rattle.cw_logs.specs.LogReading.{IsLog}
use Rattle.cw_logs.specs.LogText.{block_lines, IsFineBlock}

-- The entries with these identifiers.
abbrev pub with_idents : List (List ℕ) → List Entry → List Entry
with_idents [] entries = entries
with_idents (text ∷ texts) entries = with_idents texts (with_entry Ident text entries)

-- Some identifiers are added, and nothing else.
pub record IsExtended (old new : List Entry) : Type 0 where
  pub added : List (List ℕ)
  pub is : new ≡ with_idents added old

-- The names are identifiers of the list.
abbrev pub AreIdents : List Entry → NameList → Type 0
AreIdents names ids = All (λ id. IsIdentEntry (slice_get names id.index)) ids

abbrev pub names_in : List Line → List (List ℕ)
names_in lines = flat_map (λ line. line.names) lines

-- ## A block

-- A log begins with this block, and the rest is a log too. The block's identifiers are added to the old names.
pub record HasBlock (old new : List Entry) (log : List ℕ) (read : ReadBlock) : Type 0 where
  pub known : AreKnown new read.log
  pub idents : All (λ leaf. AreIdents new leaf.names) read.log.leaves
  pub added : new ≡ with_idents (names_in (block_of new read.log).leaves) old
  pub fine : IsFineBlock (block_of new read.log)
  pub is : pieces_of log ≡ block_lines (block_of new read.log) ++ pieces_of read.rest.now
  pub later : IsLog (pieces_of read.rest.now)
  pub shorter : length read.rest.now < length log
