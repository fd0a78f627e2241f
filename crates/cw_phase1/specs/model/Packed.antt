-- How the sections lie in memory.
use Rattle.std.specs.Prelude.{ℕ, Option}
use Rattle.std.specs.Option.{option_map}
use Rattle.cw_base.specs.declared.span.Span.{Span}
use Rattle.cw_secnames.specs.declared.kinds.SecId.{SecId}
use Rattle.cw_secnames.specs.Kept.{id}
use Rattle.cw_phase1.specs.declared.packed.PackedSection.{PackedSection}
use Rattle.cw_phase1.specs.declared.packed.RowDepth.{RowDepth}
use Rattle.cw_phase1.specs.declared.packed.RowDepth.TheVariants as rows
use Rattle.cw_phase1.specs.declared.packed.ShortSpan.{ShortSpan}
use Rattle.cw_phase1.specs.declared.packed.Whole.{Whole}
use Rattle.cw_phase1.specs.declared.sections.Depth.{Depth}
use Rattle.cw_phase1.specs.declared.sections.Depth.TheVariants.{Minus, Zero, Digits}
use Rattle.cw_phase1.specs.declared.sections.Section.{Section}

abbrev pub span_of : ShortSpan → Span
span_of s = record { start = s.start; «end» = s.«end» }

abbrev pub unpacked_depth : RowDepth → Depth
unpacked_depth rows.Minus = Minus
unpacked_depth rows.Zero = Zero
unpacked_depth (rows.Digits s) = Digits (span_of s)

abbrev pub name_of : Option ℕ → Option SecId
name_of name = option_map id name

abbrev pub unpacked : PackedSection → Section
unpacked r = record {
  starred = r.starred;
  depth = unpacked_depth r.depth;
  tex = record { start = r.start; «end» = r.tex_end };
  definitions = record { start = r.tex_end; «end» = r.definitions_end };
  c_part = record { start = r.definitions_end; «end» = r.«end» };
  name = name_of r.name;
  changed = r.changed;
}

-- the section whose parts lie one behind the other
abbrev pub whole_section : Whole → Section
whole_section w = record {
  starred = w.starred;
  depth = w.depth;
  tex = record { start = w.start; «end» = w.tex_end };
  definitions = record { start = w.tex_end; «end» = w.definitions_end };
  c_part = record { start = w.definitions_end; «end» = w.«end» };
  name = w.name;
  changed = w.changed;
}
