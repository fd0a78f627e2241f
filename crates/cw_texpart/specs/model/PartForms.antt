-- What a section and its TeX part are printed from, as calls are given them.
use Rattle.std.specs.Prelude.{ℕ, List}
use Rattle.cw_base.specs.declared.flags.Flags.{Flags}
use Rattle.cw_press.specs.Texts.{Lasting, Setting}

-- the web's text, the number of the section, and the flags
pub record TexSetting : Type 0 where
  pub text : List ℕ
  pub section : ℕ
  pub flags : Flags

abbrev pub tex_setting : TexSetting → Lasting → Setting
tex_setting t book = record { text = t.text; flags = t.flags; book = book; section = t.section }
