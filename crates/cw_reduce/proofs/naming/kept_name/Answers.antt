-- A section name begins, its inner texts are read, and it ends: these are the answers that it stands for.
use Rattle.cw_reduce.proofs.Terms.{[], ◌∷◌, refl, Finish, parts_by_kind, held_answers, text_token, texts_answers}
use Rattle.cw_reduce.proofs.Terms.{progress_over, advancing-last, advancing-next, advancing-stopped, advances-unread}
use Rattle.cw_reduce.proofs.NameSteps.{held-begun}
use Rattle.cw_reduce.proofs.naming.kept_name.Goals as goal
use Rattle.cw_translator.specs.Reading.{with_held}

pub texts_by_kind-requires-clause-translating : goal.texts_by_kind-requires-clause-translating
texts_by_kind-requires-clause-translating g c = (held-begun {told = g.R.Watch.told} c.args.context.now.flags.now
    c.args.holder {work = c.args.work.now} c.requires.translating c.in_ok-hold.ensures.begins []).reads.translating

pub returns-in_err-hold : goal.returns-in_err-hold
returns-in_err-hold g c = advances-unread c.args.context.now.flags.now
    (held_answers (parts_by_kind c.args.kind c.args.text.now)) (with_held c.args.holder
    (progress_over c.args.work.now c.args.translator.now)) c.from_residual.ensures.1 refl c.requires.translating.idle

pub returns-in_err-texts_by_kind : goal.returns-in_err-texts_by_kind
returns-in_err-texts_by_kind g c = advancing-stopped (texts_answers (parts_by_kind c.args.kind c.args.text.now))
    (Finish text_token ∷ []) (held-begun c.args.context.now.flags.now c.args.holder c.requires.translating
    c.in_ok-hold.ensures.begins (held_answers (parts_by_kind c.args.kind c.args.text.now))) refl
    c.in_err-texts_by_kind.ensures c.from_residual-in_err-texts_by_kind.ensures.1

pub returns : goal.returns
returns g c = advancing-last (advancing-next (texts_answers (parts_by_kind c.args.kind c.args.text.now))
    (Finish text_token ∷ []) (held-begun c.args.context.now.flags.now c.args.holder c.requires.translating
    c.in_ok-hold.ensures.begins (held_answers (parts_by_kind c.args.kind c.args.text.now))) refl
    c.in_ok-texts_by_kind.ensures) (c.finish.ensures text_token)
