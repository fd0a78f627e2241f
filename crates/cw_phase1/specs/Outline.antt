-- Limbo, the sections and the notes of a web.
use Rattle.std.specs.Prelude.{List}
use Rattle.cw_base.specs.declared.notes.Note.{Note}
use Rattle.cw_base.specs.declared.span.Span.{Span}
use Rattle.cw_phase1.specs.declared.sections.Section.{Section}

pub record OutlineState : Type 0 where
  pub limbo : Span
  pub sections : List Section
  pub notes : List Note
