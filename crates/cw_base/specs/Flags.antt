-- The flags with which every run starts.
use Rattle.std.specs.Prelude.{true, false}
use Rattle.cw_base.specs.declared.flags.Flags.{Flags}

abbrev pub start_flags : Flags
start_flags = record {
  banner = true;
  progress = true;
  happy = true;
  force = true;
  wrap = true;
  indent = true;
  separate = true;
  index = true;
  stats = false;
  keep = false;
  ranged = false;
}
