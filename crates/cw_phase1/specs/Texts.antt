-- The texts of section names, as their tokens have them.
use Rattle.std.specs.Prelude.{ℕ, ◌-◌, Bool, ◌==◌, List, [], ◌∷◌, length, drop, take, codes, nat_eq, if◌then◌else◌}
use Rattle.std.specs.List.{ends_with}
use Rattle.cw_base.specs.Bytes.{space}
use Rattle.cw_rules.specs.declared.codes.Code.TheVariants as at
use Rattle.cw_rules.specs.declared.tokens.TokKind.{TokKind}
use Rattle.cw_rules.specs.declared.tokens.TokKind.TheVariants as kinds
use Rattle.cw_rules.specs.Names.{is_void, uncoded}
use Rattle.cw_rules.specs.Bytes.{is_in}
use Rattle.cw_rules.specs.declared.classes.Class.TheVariants.{White}
use Rattle.cw_secnames.specs.declared.kinds.SecKind.{SecKind}
use Rattle.cw_secnames.specs.declared.kinds.SecKind.TheVariants.{Named, File}

-- White space is reduced to single blanks and dropped at both ends.
abbrev pub blank_before : List ℕ → List ℕ
blank_before [] = []
blank_before (byte ∷ bytes) = if byte == space then byte ∷ bytes else space ∷ byte ∷ bytes

abbrev pub single_blanks : List ℕ → List ℕ
single_blanks [] = []
single_blanks (byte ∷ bytes) =
    if is_in White byte then blank_before (single_blanks bytes) else byte ∷ single_blanks bytes

abbrev pub without_first_blank : List ℕ → List ℕ
without_first_blank [] = []
without_first_blank (byte ∷ bytes) = if byte == space then bytes else byte ∷ bytes

abbrev pub reduced : List ℕ → List ℕ
reduced bytes = without_first_blank (single_blanks bytes)

-- What a section name says: nothing, as an empty name and `...`, which are ignored; a full name; or a prefix.
pub data Naming : Type 0 where
  Void : Naming
  Full : (kind : SecKind) → (text : List ℕ) → Naming
  Prefix : (text : List ℕ) → Naming

abbrev pub dots : List ℕ
dots = codes "..."

abbrev pub named_text : List ℕ → Naming
named_text text = if ends_with nat_eq text dots then Prefix (take (length text - 3) text) else Full Named text

abbrev pub unless_void : Bool → Naming → Naming
unless_void void name = if void then Void else name

-- The name of a token of this kind with this reduced text, unless it is ignored; any other token names nothing.
abbrev pub naming_by : Bool → TokKind → List ℕ → Naming
naming_by void (kinds.Code at.SectionName) text = unless_void void (named_text text)
naming_by void (kinds.Code at.FileName) text = unless_void void (Full File text)
naming_by void kind text = Void

abbrev pub name_text : List ℕ → List ℕ
name_text token = reduced (uncoded (drop 2 token))

abbrev pub naming : TokKind → List ℕ → Naming
naming kind token = naming_by (is_void (drop 2 token)) kind (name_text token)
