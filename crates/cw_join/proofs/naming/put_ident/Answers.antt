-- A long name stands in braces behind the macro of its font.
use Rattle.cw_join.proofs.Terms.{List, ℕ, ◌++◌, codes, sym, ap, ◌∙◌, arith, name_bytes, prints-bytes}
use Rattle.cw_join.proofs.NameLaws.{ident-long}
use Rattle.cw_join.proofs.naming.put_ident.Goals as goal

pub returns-then-name-le-LONGEST : goal.returns-then-name-le-LONGEST
returns-then-name-le-LONGEST g c = prints-bytes (c.as_slice.ensures.value ∙ c.short_ident.ensures) c.put_all.ensures

pub returns : goal.returns
returns g c = prints-bytes (ap (λ (l : List ℕ). l ++ name_bytes c.args.name.now ++ codes "}") c.font.ensures
    ∙ sym (ident-long c.args.name.now (λ one. omega arith))) c.put_word.ensures
