-- One piece goes behind another.
use Rattle.cw_texpart.proofs.Terms.{◌≡◌, ◌≤◌, ◌∙◌, Bool, sym, ap, subst, All, List, length, arith, rules, All-head}
use Rattle.cw_texpart.proofs.Terms.{All-tail, Result, same-sheet, same-then, can-after, puts-bytes, PutError, Entry}
use Rattle.cw_texpart.proofs.Terms.{AreNamesOf, Counts, reprinted, end_if, holds_bytes, inked, TexSetting, tex_setting}
use Rattle.cw_texpart.proofs.Terms.{piece_is, IsWholePiece, piece_done, TexPiece, tex_pieces_of, Lasting, Press, Weaves}
use Rattle.cw_texpart.proofs.Terms.{ended, gave}
use Rattle.cw_texpart.proofs.WeavingLaws.{weaving-as, weaving-begun, weaving-counts, weaving-end-refused, weaving-ended}
use Rattle.cw_texpart.proofs.WeavingLaws.{weaving-next, weaving-refused, weaving-stopped}
use Rattle.cw_texpart.proofs.tex_parts.put_pieces.Goals as goal

-- the same of what stays of a book and of what is fixed
moved : {t t' : TexSetting} (holds : Bool) (piece : TexPiece) (names : List Entry) {l l' : Lasting} {old new : Press}
    {result : Result Counts PutError} → t ≡ t' → l ≡ l'
    → Weaves (tex_setting t l) (reprinted (inked holds) (piece_done (tex_setting t l) piece names)) old new result
    → Weaves (tex_setting t' l') (reprinted (inked holds) (piece_done (tex_setting t' l') piece names)) old new result
moved holds piece names fixed same woven = rw (← fixed, ← same) woven

pub all-init : goal.all-init
all-init g c =
    let begun : c.over-pieces.result ≡ tex_pieces_of c.args.t.now.text c.args.part =
    c.over-pieces.ensures ∙ ap (λ (s : TexSetting). tex_pieces_of s.text c.args.part) c.t.view_is in
    record {
      woven = weaving-counts c.none-counts.ensures.scraps c.none-counts.ensures.productions
          (weaving-as (sym begun) (weaving-begun _ _ _));
      same = search rules;
      sheet = same-sheet _;
      whole = subst (All (IsWholePiece c.args.t.now.text)) (sym begun) c.requires.whole;
    }

pub returns-in_err-next-clause-weaves : goal.returns-in_err-next-clause-weaves
returns-in_err-next-clause-weaves g c = weaving-refused c.all.invariant.woven c.from_residual.ensures.1

pub put_piece-requires : goal.put_piece-requires
put_piece-requires g c = record {
  can = can-after c.requires.can c.all.invariant.woven.put;
  short = subst (λ (s : TexSetting). length s.text ≤ 16777216) (sym c.all.invariant.same) c.requires.short;
  whole = subst (λ (s : TexSetting). IsWholePiece s.text (piece_is c.in-Some.piece)) (sym c.all.invariant.same)
      (All-head (IsWholePiece c.args.t.now.text) _ _ (subst (All (IsWholePiece c.args.t.now.text))
      (gave _ _ c.in_ok-next.next c.in-Some.piece c.in_ok-next.ensures c.in-Some.is) c.all.invariant.whole));
  kept = subst (λ (l : Lasting). AreNamesOf l.sec_names l.name_uses) (sym c.all.invariant.woven.same) c.requires.kept;
}

pub returns-in_err-more-in-Some-clause-weaves : goal.returns-in_err-more-in-Some-clause-weaves
returns-in_err-more-in-Some-clause-weaves g c = weaving-stopped
    (weaving-as (gave _ _ c.in_ok-next.next c.in-Some.piece c.in_ok-next.ensures c.in-Some.is) c.all.invariant.woven)
    (moved (holds_bytes c.all.sheet.line.now) (piece_is c.in-Some.piece) c.all.book.names c.all.invariant.same
    c.all.invariant.woven.same c.in_err-more-in-Some.ensures.woven) c.from_residual-in_err-more-in-Some.ensures.1

pub returns-in_err-counts-in-Some-clause-weaves : goal.returns-in_err-counts-in-Some-clause-weaves
returns-in_err-counts-in-Some-clause-weaves g c = weaving-refused (weaving-next
    (weaving-as (gave _ _ c.in_ok-next.next c.in-Some.piece c.in_ok-next.ensures c.in-Some.is) c.all.invariant.woven)
    (moved (holds_bytes c.all.sheet.line.now) (piece_is c.in-Some.piece) c.all.book.names c.all.invariant.same
    c.all.invariant.woven.same c.in_ok-more-in-Some.ensures.woven)) c.from_residual-in_err-counts-in-Some.ensures.1

pub all-preserved : goal.all-preserved
all-preserved g c = record {
  woven = weaving-counts c.in_ok-counts-in-Some.ensures.scraps c.in_ok-counts-in-Some.ensures.productions (weaving-next
      (weaving-as (gave _ _ c.in_ok-next.next c.in-Some.piece c.in_ok-next.ensures c.in-Some.is) c.all.invariant.woven)
      (moved (holds_bytes c.all.sheet.line.now) (piece_is c.in-Some.piece) c.all.book.names c.all.invariant.same
      c.all.invariant.woven.same c.in_ok-more-in-Some.ensures.woven));
  same = c.in_ok-more-in-Some.ensures.same ∙ c.all.invariant.same;
  sheet = same-then c.all.invariant.sheet c.in_ok-more-in-Some.ensures.sheet;
  whole = All-tail (IsWholePiece c.args.t.now.text) _ _ (subst (All (IsWholePiece c.args.t.now.text))
      (gave _ _ c.in_ok-next.next c.in-Some.piece c.in_ok-next.ensures c.in-Some.is) c.all.invariant.whole);
}

pub all-smaller : goal.all-smaller
all-smaller g c = omega (
  arith,
  ap length (gave _ _ c.in_ok-next.next c.in-Some.piece c.in_ok-next.ensures c.in-Some.is),
)

pub end_line_if-requires : goal.end_line_if-requires
end_line_if-requires g c = record { can = can-after c.requires.can c.all.invariant.woven.put }

pub returns-in_err-end_line_if-in-None-clause-weaves : goal.returns-in_err-end_line_if-in-None-clause-weaves
returns-in_err-end_line_if-in-None-clause-weaves g c = weaving-end-refused (weaving-as (ended _ _ c.in_ok-next.next
    c.in_ok-next.ensures c.in-None.is) c.all.invariant.woven) (puts-bytes (ap end_if c.holds_bytes-holds.ensures)
    c.in_err-end_line_if-in-None.ensures.puts) c.from_residual-in_err-end_line_if-in-None.ensures.1

pub returns-in-None-clause-weaves : goal.returns-in-None-clause-weaves
returns-in-None-clause-weaves g c =
    weaving-ended (weaving-as (ended _ _ c.in_ok-next.next c.in_ok-next.ensures c.in-None.is) c.all.invariant.woven)
    (puts-bytes (ap end_if c.holds_bytes-holds.ensures) c.in_ok-end_line_if-in-None.ensures.puts)
