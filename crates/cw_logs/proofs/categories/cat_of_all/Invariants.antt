-- No category before this one has the name.
use Rattle.cw_logs.proofs.Terms.{◌≢◌, ℕ, ◌<◌, get_or, End, all_cats, cat_text}
use Rattle.cw_logs.proofs.categories.cat_of_all.Given as goal

abbrev pub invariant-loop-cat : goal.invariant-loop-cat
invariant-loop-cat l = (i : ℕ) → i < l.cat-index → l.name ≢ cat_text (get_or all_cats i End)
