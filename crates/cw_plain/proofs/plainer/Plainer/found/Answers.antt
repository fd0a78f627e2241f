-- What a token prints is laid.
use Rattle.cw_plain.proofs.Terms.{ℕ, Bool, true, false, List, codes, refl, sym, ap, Answer, TokKind, Laying}
use Rattle.cw_plain.proofs.Terms.{PlacedPiece, Stand, Word, in_comment, token_placed, titles, Walked}
use Rattle.cw_secnames.specs.{Kept.SecName, Uses.NameUse}
use Rattle.cw_plain.proofs.MakingLaws.{laid-makes, other-token}
use Rattle.cw_plain.proofs.plainer.Plainer.found.Goals as goal

abbrev token_in : ℕ → TokKind → List ℕ → Walked → PlacedPiece
token_in number kind text w = token_placed number (titles w.reads.kept w.reads.uses number) kind text w.walk.stand

-- a walk with these comments open
abbrev walk_at : List Answer → List SecName → List NameUse → ℕ → List Bool → Laying → Walked
walk_at answers kept uses name comments laying = record {
  reads = record { answers = answers; kept = kept; uses = uses };
  walk = record { stand = record { name = name; comments = comments }; laying = laying };
}

pub returns-in_ok-begin-in-LongComment-clause-makes : goal.returns-in_ok-begin-in-LongComment-clause-makes
returns-in_ok-begin-in-LongComment-clause-makes c =
    let inside = c.self.inside in
    let stand : Stand = record { name = inside.name; comments = inside.comments } in
    laid-makes _ _ (token_in c.args.number c.args.token.kind c.args.token.text.now) (Word c.args.number (codes "/*"))
    (in_comment true stand) _ _ _ _ _ c.self.view_is (c.word.ensures c.args.number) (ap (λ k. token_placed c.args.number
    (titles inside.names.kept.now inside.names.uses.now c.args.number) k c.args.token.text.now stand)
    (sym c.in-LongComment.is)) (ap (λ (comments : List Bool). walk_at inside.finder inside.names.kept.now
    inside.names.uses.now inside.name comments c.word.new.self) (sym c.in_ok-begin-in-LongComment.ensures))

pub returns-in_ok-begin-in-ShortComment-clause-makes : goal.returns-in_ok-begin-in-ShortComment-clause-makes
returns-in_ok-begin-in-ShortComment-clause-makes c =
    let inside = c.self-in-ShortComment.inside in
    let stand : Stand = record { name = inside.name; comments = inside.comments } in
    laid-makes _ _ (token_in c.args.number c.args.token.kind c.args.token.text.now) (Word c.args.number (codes "//"))
    (in_comment false stand) _ _ _ _ _ c.self-in-ShortComment.view_is (c.word-in-ShortComment.ensures c.args.number)
    (ap (λ k. token_placed c.args.number (titles inside.names.kept.now inside.names.uses.now c.args.number) k
    c.args.token.text.now stand) (sym c.in-ShortComment.is))
    (ap (λ (comments : List Bool). walk_at inside.finder inside.names.kept.now inside.names.uses.now inside.name
    comments c.word-in-ShortComment.new.self) (sym c.in_ok-begin-in-ShortComment.ensures))

pub returns-in_default : goal.returns-in_default
returns-in_default c =
    let inside = c.self-in_default.inside in
    let stand : Stand = record { name = inside.name; comments = inside.comments } in
    record {
      reads = ap (λ (w : Walked). w.reads) c.self-in_default.view_is;
      makes = laid-makes _ _ (token_in c.args.number c.args.token.kind c.args.token.text.now) (Word c.args.number
          c.args.token.text.now) stand _ _ _ _ _ c.self-in_default.view_is (c.word-in_default.ensures c.args.number)
          (other-token c.args.number (titles inside.names.kept.now inside.names.uses.now c.args.number)
          c.args.token.kind c.args.token.text.now stand c.in_default.not-LongComment c.in_default.not-ShortComment
          c.in_default.not-Text c.in_default.not-HeadSign c.in_default.not-Code) refl;
    }
