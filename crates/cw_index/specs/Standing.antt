-- The section names that are listed, in their order.
use Rattle.std.specs.Prelude.{ℕ, ◌||◌, Bool, true, false, List, [], ◌∷◌, Option, Some, None, map, slice_get}
use Rattle.std.specs.List.{flat_map}
use Rattle.std.specs.declared.cmp.Ordering.{Ordering}
use Rattle.std.specs.Ordering.{nat_cmp, on, then_cmp}
use Rattle.std.specs.Cmp.Lexicographic.{slice_cmp}
use Rattle.cw_base.specs.Conditions.{list_if}
use Rattle.cw_secnames.specs.Kept.{SecName, id}
use Rattle.cw_secnames.specs.Uses.{NameUse}
use Rattle.cw_secnames.specs.declared.kinds.SecKind.{SecKind}
use Rattle.cw_secnames.specs.declared.kinds.SecKind.TheVariants.{Named, File}
use Rattle.cw_index.specs.Sorted.{sorted}
use Rattle.cw_index.specs.declared.standing.Listed.{Listed}

-- A section name that stands in the web: its kind and its text, which order it, and which of the kept names it is, and
-- where it stands.
pub record StandingName : Type 0 where
  pub kind : SecKind
  pub text : List ℕ
  pub listed : Listed

-- Names are sorted by the bytes of their texts. Of equal texts that of `@<` comes first.
abbrev pub kind_place : SecKind → ℕ
kind_place Named = 0
kind_place File = 1

abbrev pub stand_cmp : StandingName → StandingName → Ordering
stand_cmp = then_cmp (on (λ s. s.text) (slice_cmp nat_cmp)) (on (λ s. s.kind) (on kind_place nat_cmp))

-- A name to which no section refers is left out.
abbrev pub has_any : List ℕ → Bool
has_any [] = false
has_any (n ∷ numbers) = true

abbrev pub has_reference : SecName → Bool
has_reference n = has_any n.defined || (has_any n.used || has_any n.cited)

abbrev pub kept_stand : Option SecName → Listed → List StandingName
kept_stand None listed = []
kept_stand (Some n) listed = list_if (has_reference n) (record { kind = n.kind; text = n.text; listed = listed } ∷ [])

-- the name for which a section name stands, at the place of this one
abbrev pub stand_at : List SecName → NameUse → List StandingName
stand_at kept u = kept_stand (slice_get kept u.name) (record { id = id u.name; place = u.place })

-- Of the section names in a web each is listed once, at the first place where it stands.
abbrev pub named_stands : List SecName → List NameUse → List StandingName
named_stands kept uses = flat_map (stand_at kept) uses

abbrev pub listed_names : List SecName → List NameUse → List Listed
listed_names kept uses = map (λ s. s.listed) (sorted stand_cmp (named_stands kept uses))
