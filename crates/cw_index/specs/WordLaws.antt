-- What a name prints in the index, from what it prints in C text.
use Rattle.std.specs.Prelude.{◌≡◌, ℕ, Bool, true, false, List, [], Option, Some, option_map, slice_get, unwrap_or}
use Rattle.std.specs.Prelude.{if◌then◌else◌}
use Rattle.std.proofs.Common.{ap, sym, ◌∙◌}
use Rattle.cw_base.specs.declared.category.Cat.TheVariants.{Exp}
use Rattle.cw_join.specs.Tokens.{is_tex_like, macro_bytes, word_at}
use Rattle.cw_names.specs.Names.{Entry}
use Rattle.cw_table.specs.Sound.{is_exp}
use Rattle.cw_trees.specs.Printing.{ident_bytes, reserved_bytes}
use Rattle.cw_index.specs.Index.{formula, word_bytes}

module _ (names : List Entry) (name : ℕ) (entry : Entry) (there : slice_get names name ≡ Some entry) where
  abbrev text_in : Option Entry → List ℕ
  text_in found = unwrap_or (option_map (λ entry. entry.text) found) []

  abbrev word_in : (List ℕ → List ℕ) → Option Entry → List ℕ
  word_in plain found =
      if is_tex_like (unwrap_or (option_map (λ entry. entry.category) found) Exp) then macro_bytes (text_in found)
      else plain (text_in found)

  word-by : (plain : List ℕ → List ℕ) (tex_like : Bool) → is_tex_like entry.category ≡ tex_like
      → word_at plain names name ≡ (if tex_like then macro_bytes entry.text else plain entry.text)
  word-by plain tex_like is =
      ap (word_in plain) there ∙ ap (λ (t : Bool). if t then macro_bytes entry.text else plain entry.text) is

  abbrev bytes_by : Bool → Bool → List ℕ
  bytes_by tex_like exp =
      if tex_like then formula (macro_bytes entry.text)
      else if exp then ident_bytes entry.text else reserved_bytes entry.text

  pub tex-word : is_tex_like entry.category ≡ true
      → formula (word_at reserved_bytes names name) ≡ word_bytes entry.category entry.text
  tex-word is =
      ap formula (word-by reserved_bytes true is)
      ∙ sym (ap (λ (t : Bool). bytes_by t (is_exp entry.category)) is)

  pub ident-word : is_tex_like entry.category ≡ false → is_exp entry.category ≡ true
      → word_at ident_bytes names name ≡ word_bytes entry.category entry.text
  ident-word is exp = word-by ident_bytes false is ∙ sym (λ i. bytes_by (is i) (exp i))

  pub reserved-word : is_tex_like entry.category ≡ false → is_exp entry.category ≡ false
      → word_at reserved_bytes names name ≡ word_bytes entry.category entry.text
  reserved-word is exp = word-by reserved_bytes false is ∙ sym (λ i. bytes_by (is i) (exp i))
