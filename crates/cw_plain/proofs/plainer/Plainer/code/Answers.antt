-- What a code prints is laid as a word.
use Rattle.cw_plain.proofs.Terms.{◌≡◌, ℕ, List, [], ◌++◌, refl, sym, ap, ◌∙◌, Code, PlacedPiece, Stand, Word, placed}
use Rattle.cw_plain.proofs.Terms.{token_placed, titles, Walked}
use Rattle.cw_rules.specs.ControlTexts.{text_behind_code}
use Rattle.cw_plain.proofs.MakingLaws.{laid-makes, other-code}
use Rattle.cw_rules.specs.declared.tokens.TokKind.TheVariants as kinds
use Rattle.cw_plain.proofs.plainer.Plainer.code.Goals as goal

abbrev code_in : ℕ → Code → List ℕ → Walked → PlacedPiece
code_in number code text w =
    token_placed number (titles w.reads.kept w.reads.uses number) (kinds.Code code) text w.walk.stand

pub returns-in_ok-put_code_text-in-Verbatim-clause-makes : goal.returns-in_ok-put_code_text-in-Verbatim-clause-makes
returns-in_ok-put_code_text-in-Verbatim-clause-makes c =
    let stand : Stand = record { name = c.self.inside.name; comments = c.self.inside.comments } in
    let word : c.as_slice.result.now ≡ text_behind_code c.args.text.now = cc (
      ap (λ (bytes : List ℕ). bytes ++ text_behind_code c.args.text.now) c.new_in-word.ensures,
      c.in_ok-put_code_text-in-Verbatim.ensures,
      c.as_slice.ensures,
    ) in
    laid-makes _ _ (code_in c.args.number c.args.code c.args.text.now) (Word c.args.number c.as_slice.result.now) stand
    _ _ _ _ _ c.self.view_is (c.word-in-Verbatim.ensures c.args.number) (ap (λ (bytes : List ℕ). placed
    (Word c.args.number bytes) stand) word ∙ ap (λ k. token_placed c.args.number (titles c.self.inside.names.kept.now
    c.self.inside.names.uses.now c.args.number) (kinds.Code k) c.args.text.now stand) (sym c.in-Verbatim.is)) refl

pub returns-in-Quote-clause-makes : goal.returns-in-Quote-clause-makes
returns-in-Quote-clause-makes c =
    let inside = c.self-in-Quote.inside in
    let stand : Stand = record { name = inside.name; comments = inside.comments } in
    laid-makes _ _ (code_in c.args.number c.args.code c.args.text.now)
    (Word c.args.number c.args.text.now) stand _ _ _ _ _ c.self-in-Quote.view_is (c.word-in-Quote.ensures c.args.number)
    (ap (λ k. token_placed c.args.number (titles inside.names.kept.now inside.names.uses.now c.args.number)
    (kinds.Code k) c.args.text.now stand) (sym c.in-Quote.is)) refl

pub returns-in_default : goal.returns-in_default
returns-in_default c =
    let inside = c.self-in_default.inside in
    let stand : Stand = record { name = inside.name; comments = inside.comments } in
    record {
      reads = ap (λ (w : Walked). w.reads) c.self-in_default.view_is;
      makes = laid-makes _ _ (code_in c.args.number c.args.code c.args.text.now) (Word c.args.number []) stand _ _ _ _ _
          c.self-in_default.view_is (c.word-in_default.ensures c.args.number) (other-code c.args.number
          (titles inside.names.kept.now inside.names.uses.now c.args.number) c.args.code c.args.text.now stand
          c.in_default.not-SectionName c.in_default.not-FileName c.in_default.not-Verbatim c.in_default.not-Quote) refl;
    }
