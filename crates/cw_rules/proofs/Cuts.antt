-- Codes that are cut, by their rules.
use Rattle.std.proofs.Common.{◌≡◌, ℕ, ◌+◌, true, List, None, Some, drop, add_assoc, arith}
use Rattle.std.proofs.{lemmas.List.drop-drop, lemmas.Bool.Decides.nat_tests}
use Rattle.cw_base.specs.declared.notes.NoteKind.{NoteKind}
use Rattle.cw_rules.specs.declared.bodies.Body.TheVariants as bodies
use Rattle.cw_rules.specs.declared.{codes.Code.Code, cuttings.Cutting.Cutting}
use Rattle.cw_rules.specs.declared.tokens.TokKind.TheVariants as kinds
use Rattle.cw_rules.specs.{Bodies.at_start, Codes.has_control_text, Answers.Cut, Answers.dropped}
use Rattle.cw_rules.specs.Tokens.{control_text_of, section_name_of, control_or_plain, code_token, is_name}
use Rattle.cw_rules.specs.model.Cuttings.{bytes_at, cut_of}

-- the bytes behind the first two
pub drop-two : (text : List ℕ) (place : ℕ) → drop 2 (bytes_at text place) ≡ drop (place + 2) text
drop-two text place = grind (arith, nat_tests, drop-drop 1 (place + 1) text, add_assoc place 1 1)

pub control-cut : (text : List ℕ) (code : Code) (at : ℕ) (cut : Cut) → has_control_text code ≡ true
    → cut ≡ control_text_of code (at_start bodies.ControlText (at + 2)) (drop (at + 2) text)
    → cut ≡ control_or_plain code at (bytes_at text at)
control-cut text code at cut h e = grind (arith, nat_tests, drop-two)

pub name-cut : (text : List ℕ) (code : Code) (at : ℕ) (cut : Cut) → is_name code ≡ true → cut ≡ section_name_of code at
    (at_start bodies.SectionName (at + 2)) (drop (at + 2) text) → cut ≡ code_token code at (bytes_at text at)
name-cut text code at cut h e = grind (arith, nat_tests, drop-two)

-- a token that is dropped
pub dropped-cut : (text : List ℕ) (cut : Cutting) (note : NoteKind) (at : ℕ) (expected : Cut) → cut.pending.first ≡ None
    → cut_of text cut ≡ expected
    → cut_of text (record {
      kind = kinds.Dropped;
      size = cut.size;
      pending = record cut.pending { first = Some (record { kind = note; place = at }) };
    }) ≡ dropped note at expected
dropped-cut text cut note at expected h e = grind (arith, nat_tests)
