-- A macro of TeX, an identifier or a reserved word, by the category.
use Rattle.cw_index.proofs.Terms.{sym, ◌∙◌, slice_get_within, prints-bytes, entry_of}
use Rattle.cw_index.specs.WordLaws.{ident-word, reserved-word, tex-word}
use Rattle.cw_index.proofs.index.put_word.Goals as goal

pub put_formula-requires-clause-name : goal.put_formula-requires-clause-name
put_formula-requires-clause-name g c =
    slice_get_within c.args.names.now c.args.heading.now.id.index (entry_of c.args.heading.now) c.requires.name

pub returns-then-is_tex_like : goal.returns-then-is_tex_like
returns-then-is_tex_like g c = prints-bytes (tex-word c.args.names.now c.args.heading.now.id.index (entry_of
    c.args.heading.now) c.requires.name (sym c.is_tex_like.ensures ∙ c.if-is_tex_like.true)) c.put_formula.ensures

pub put_ident_of-requires-clause-named : goal.put_ident_of-requires-clause-named
put_ident_of-requires-clause-named g c =
    slice_get_within c.args.names.now c.args.heading.now.id.index (entry_of c.args.heading.now) c.requires.name

pub returns-then-is_exp : goal.returns-then-is_exp
returns-then-is_exp g c = prints-bytes
    (ident-word c.args.names.now c.args.heading.now.id.index (entry_of c.args.heading.now) c.requires.name
    (sym c.is_tex_like.ensures ∙ c.if-is_tex_like.false) (sym c.is_exp.ensures ∙ c.if-is_exp.true))
    c.put_ident_of.ensures

pub put_reserved_of-requires-clause-named : goal.put_reserved_of-requires-clause-named
put_reserved_of-requires-clause-named g c =
    slice_get_within c.args.names.now c.args.heading.now.id.index (entry_of c.args.heading.now) c.requires.name

pub returns : goal.returns
returns g c = prints-bytes (reserved-word c.args.names.now c.args.heading.now.id.index
    (entry_of c.args.heading.now) c.requires.name (sym c.is_tex_like.ensures ∙ c.if-is_tex_like.false)
    (sym c.is_exp.ensures ∙ c.if-is_exp.false)) c.put_reserved_of.ensures
