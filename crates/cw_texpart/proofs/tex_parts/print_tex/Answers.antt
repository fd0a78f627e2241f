-- The TeX part stands behind its head, where no code stands beside the number.
use Rattle.cw_texpart.proofs.Terms.{◌≡◌, Bool, true, false, ap, sym, ◌∙◌, Ok, append-nil, can-after, puts-bytes}
use Rattle.cw_texpart.proofs.Terms.{puts-none, puts-then, is_nothing, reprinted, head, laid, holds_bytes, pieces_done}
use Rattle.cw_texpart.proofs.Terms.{head_and_tex, tex_pieces_of, lasting}
use Rattle.cw_press.specs.model.PartForms.{part_setting}
use Rattle.cw_texpart.proofs.LayingLaws.{holds-put}
use Rattle.cw_texpart.proofs.WeavingLaws.{head-holds, head-refused}
use Rattle.cw_press.proofs.WeavingLaws.{weaves-put, weaves-as, weaves-behind}
use Rattle.cw_texpart.proofs.tex_parts.print_tex.Goals as goal

pub returns-in_err-put_head-clause-weaves : goal.returns-in_err-put_head-clause-weaves
returns-in_err-put_head-clause-weaves g c = head-refused c.args.section (is_nothing c.args.p.beside)
    (head c.args.p.flags.now.ranged c.args.p.text.now c.args.p.section c.args.section) c.in_err-put_head.ensures.puts
    c.from_residual.ensures.1

pub put_pieces-requires-clause-can : goal.put_pieces-requires-clause-can
put_pieces-requires-clause-can g c = can-after c.requires.can c.in_ok-put_head.ensures.puts

pub returns-then-is_nothing-clause-weaves : goal.returns-then-is_nothing-clause-weaves
returns-then-is_nothing-clause-weaves g c =
    let s = part_setting c.args.p (lasting c.args.book.now) in
    let front = head c.args.p.flags.now.ranged c.args.p.text.now c.args.p.section c.args.section in
    let put = c.in_ok-put_head.ensures.puts in
    let none : true ≡ is_nothing c.args.p.beside = sym c.if-is_nothing.true ∙ c.is_nothing.ensures in
    weaves-as (ap (λ (goes : Bool). head_and_tex goes front s c.args.section c.args.book.now.names) none) (weaves-behind
    put (weaves-as (ap (λ (holds : Bool). reprinted (laid holds) (pieces_done s (tex_pieces_of c.args.p.text.now
    c.args.section.tex) c.args.book.now.names)) (holds-put put ∙ head-holds (holds_bytes c.args.sheet.now.line.now)
    c.args.p.flags.now.ranged c.args.p.text.now c.args.p.section c.args.section)) c.put_pieces.ensures.weaves))

pub returns-clause-weaves : goal.returns-clause-weaves
returns-clause-weaves g c =
    let s = part_setting c.args.p (lasting c.args.book.now) in
    let front = head c.args.p.flags.now.ranged c.args.p.text.now c.args.p.section c.args.section in
    let put = c.in_ok-put_head.ensures.puts in
    let none : false ≡ is_nothing c.args.p.beside = sym c.if-is_nothing.false ∙ c.is_nothing.ensures in
    weaves-as (ap (λ (goes : Bool). head_and_tex goes front s c.args.section c.args.book.now.names) none)
    (weaves-put front (Ok c.none.result) (puts-bytes (append-nil front) (puts-then put (puts-none _ _ _)))
    c.none.ensures.scraps c.none.ensures.productions)
