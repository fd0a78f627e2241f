-- For which names the section names in a web stand, and how their sections refer to them.
use Rattle.std.specs.Prelude.{ℕ, List, [], ◌∷◌, Option, Some, None}
use Rattle.std.specs.List.{flat_map}
use Rattle.cw_secnames.specs.declared.kinds.SecId.{SecId}
use Rattle.cw_secnames.specs.Kept.{SecName}
use Rattle.cw_secnames.specs.References.{Reference, referred}
use Rattle.cw_secnames.specs.Uses.{NameUse}
use Rattle.cw_phase1.specs.declared.roles.Role.{Role}
use Rattle.cw_phase1.specs.declared.roles.Role.TheVariants as roles
use Rattle.cw_phase1.specs.Roles.{Placement}

-- the place of a name's first byte, and the name that is kept for it
abbrev pub use_by : Option SecId → ℕ → List NameUse
use_by None place = []
use_by (Some name) place = record { place = place; name = name.index } ∷ []

abbrev pub use_of : Placement → List NameUse
use_of p = use_by p.name p.token.span.start

abbrev pub uses_of : List Placement → List NameUse
uses_of ps = flat_map use_of ps

-- how a section refers to a name
abbrev pub reference_by : Role → Option SecId → ℕ → List Reference
reference_by (roles.Name how) (Some name) section = record { name = name.index; how = how; section = section } ∷ []
reference_by role name section = []

abbrev pub references_of : List Placement → List Reference
references_of ps = flat_map (λ p. reference_by p.role p.name p.section) ps

-- the kept names with their references
abbrev pub section_names : List SecName → List Placement → List SecName
section_names kept ps = referred (references_of ps) 0 kept
