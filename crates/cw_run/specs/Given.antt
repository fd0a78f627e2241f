-- What a tool is given: the book of a web, with all that the first phase promises of it.
use Rattle.std.specs.Prelude.{◌≡◌, ◌<◌, ◌≤◌, List, All, IfSome, length}
use Rattle.cw_base.specs.Web.{MergedLine, text_of}
use Rattle.cw_phase1.specs.Book.{book}
use Rattle.cw_phase1.specs.Sound.{IsNamedBy, LiesIn, RefersUpTo}
use Rattle.cw_phase1.specs.declared.book.Book.{Book}

pub record IsBookOf (lines : List MergedLine) (b : Book) : Type 0 where
  pub same : b ≡ book lines
  pub references : All (RefersUpTo (length b.outline.sections)) b.sec_names
  pub texts : All (λ n. length n.text ≤ length (text_of lines)) b.sec_names
  pub use_ids : All (λ u. u.name < length b.sec_names) b.name_uses
  pub section_names : All (IsNamedBy b.name_uses) b.outline.sections
  pub section_ids : All (λ s. IfSome s.name (λ id. id.index < length b.sec_names)) b.outline.sections
  pub spans : All (LiesIn (length (text_of lines))) b.outline.sections
  pub limbo_span : b.outline.limbo.«end» ≤ length (text_of lines)
