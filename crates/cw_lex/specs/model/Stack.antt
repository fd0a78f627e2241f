-- The open comments in their rows.
use Rattle.std.specs.Prelude.{◌≡◌, ℕ, zero, suc, false, List, [], ◌∷◌, length, slice_index_or, slice_set}
use Rattle.cw_rules.specs.declared.parts.Opened.{Opened}
use Rattle.cw_lex.specs.declared.comments.Rows.{Rows}

-- each row has its places
pub record IsWhole (r : Rows) : Type 0 where
  pub starts : length r.starts ≡ 21
  pub braces : length r.braces ≡ 21
  pub long : length r.long ≡ 21
  pub inner : length r.inner ≡ 21

abbrev pub opened_at : Rows → ℕ → Opened
opened_at r n = record {
  start = slice_index_or r.starts n 0;
  long = slice_index_or r.long n false;
  braces = slice_index_or r.braces n 0;
  inner = slice_index_or r.inner n false;
}

abbrev pub with_opened : Rows → ℕ → Opened → Rows
with_opened r n c = record {
  starts = slice_set r.starts n c.start;
  braces = slice_set r.braces n c.braces;
  long = slice_set r.long n c.long;
  inner = slice_set r.inner n c.inner;
}

abbrev pub innermost : Rows → ℕ → List Opened
innermost rows zero = []
innermost rows (suc n) = opened_at rows n ∷ innermost rows n
