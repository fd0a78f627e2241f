-- The table of the built-in words gives their entries, in order, and no others.
use Rattle.cw_names.proofs.Terms.{◌≡◌, not, map, sym, ap, subst, ◌∙◌, list_all, Entry, entry_of, is_end, built_in_words}
use Rattle.cw_names.proofs.Terms.{BeginsWithWords}
use Rattle.cw_names.proofs.{Ends.of-view, First.words-first}
use Rattle.cw_names.proofs.names.Names.with_words.Goals as goal

pub returns : goal.returns
returns c = c.in_ok-categories.ensures

pub invariant_of-result : goal.invariant_of-result
invariant_of-result c =
    let entries = c.in_ok-categories.categories.entries in
    let view : map entry_of entries ≡ built_in_words = c.in_ok-categories.ensures in
    record {
      real = of-view entries ∙ ap (list_all (λ (entry : Entry). not (is_end entry.category))) view;
      words = subst BeginsWithWords (sym view) words-first;
    }
