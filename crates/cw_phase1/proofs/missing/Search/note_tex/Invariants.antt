-- The notes so far, with those on the name that waits and on those of the answers that are left, are those of the whole
-- TeX part; and each answer leaves one less to come.
use Rattle.cw_phase1.proofs.Terms.{◌≡◌, ◌++◌, length, IfSome, text_of, tokens_of, AreWithin, LiesWithin, missing_among}
use Rattle.cw_phase1.proofs.Terms.{missing_of, name_before, outer_names}
use Rattle.cw_rules.specs.declared.tokens.Mode.TheVariants.{TexText}
use Rattle.cw_phase1.proofs.missing.Search.note_tex.Given as goal

abbrev pub invariant-answers : goal.invariant-answers
invariant-answers l = record {
  notes : l.notes ++ missing_of l.self.web.now.lines l.self.uses.now l.self.names.now l.tex (name_before l.name l.lexer
      ++ outer_names l.depth l.lexer) ≡ l.fn.notes ++ missing_among l.self.web.now.lines l.self.uses.now
      l.self.names.now l.tex 0 (tokens_of (text_of l.self.web.now.lines) l.tex.start l.tex.«end» TexText);
  within : AreWithin l.tex.start l.tex.«end» l.lexer;
  lies : IfSome l.name (LiesWithin l.tex.start l.tex.«end»);
}

abbrev pub decreases-answers : goal.decreases-answers
decreases-answers l = length l.lexer
