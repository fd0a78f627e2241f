-- The sections that came, and what one token more does to them.
use Rattle.std.specs.Prelude.{ℕ, ◌++◌, Bool, true, false, List, [], ◌∷◌, Option, Some, None, unwrap_or}
use Rattle.cw_base.specs.Web.{MergedLine}
use Rattle.cw_rules.specs.Answers.{Seen}
use Rattle.cw_secnames.specs.declared.kinds.SecId.{SecId}
use Rattle.cw_phase1.specs.declared.sections.Section.{Section}
use Rattle.cw_phase1.specs.declared.sections.Sections.{Sections}
use Rattle.cw_phase1.specs.declared.sections.Open.{Open}
use Rattle.cw_phase1.specs.Places.{holds_changed}
use Rattle.cw_phase1.specs.Roles.{Placement}
use Rattle.cw_phase1.specs.Sections.{span, is_starred, depth_of, is_section_code, ends_tex, ends_definitions}

-- the first place that passes a test, where it didn't come before
abbrev pub or_here : Option ℕ → Bool → ℕ → Option ℕ
or_here (Some first) passes place = Some first
or_here None true place = Some place
or_here None false place = None

-- the name of the token that ends the definitions, where they didn't end before
abbrev pub name_here : Option ℕ → Bool → Option SecId → Option SecId → Option SecId
name_here None true before here = here
name_here None false before here = before
name_here (Some first) passes before here = before

abbrev pub opened : Seen → Open
opened head = record {
  starred = is_starred head.kind;
  depth = depth_of head;
  start = head.span.start;
  behind = head.span.«end»;
  tex_end = None;
  definitions_end = None;
  name = None;
}

abbrev pub with_token : Placement → Open → Open
with_token p o = record o {
  tex_end = or_here o.tex_end (ends_tex p) p.token.span.start;
  definitions_end = or_here o.definitions_end (ends_definitions p) p.token.span.start;
  name = name_here o.definitions_end (ends_definitions p) o.name p.name;
}

-- The open section closes at a place.
abbrev pub closed_at : List MergedLine → ℕ → Open → Section
closed_at lines end o = record {
  starred = o.starred;
  depth = o.depth;
  tex = span o.behind (unwrap_or o.tex_end end);
  definitions = span (unwrap_or o.tex_end end) (unwrap_or o.definitions_end end);
  c_part = span (unwrap_or o.definitions_end end) end;
  name = o.name;
  changed = holds_changed lines 0 o.start end;
}

-- the sections, where the one that is open closes at a place
abbrev pub closing_by : Option Open → List MergedLine → ℕ → List Section → List Section
closing_by None lines end closed = closed
closing_by (Some o) lines end closed = closed ++ closed_at lines end o ∷ []

abbrev pub closing : List MergedLine → ℕ → Sections → List Section
closing lines end s = closing_by s.open_one lines end s.closed

abbrev pub open_with : Option Open → Placement → Option Open
open_with None p = None
open_with (Some o) p = Some (with_token p o)

abbrev pub section_told_by : Bool → List MergedLine → Placement → Sections → Sections
section_told_by true lines p s = record {
  closed = closing lines p.token.span.start s;
  open_one = Some (opened p.token);
  limbo_end = or_here s.limbo_end true p.token.span.start;
}
section_told_by false lines p s = record s { open_one = open_with s.open_one p }

abbrev pub section_told : List MergedLine → Placement → Sections → Sections
section_told lines p s = section_told_by (is_section_code p.role) lines p s
