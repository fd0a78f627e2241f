-- Each name of a book's section list, scanned by itself, is whole.
use Rattle.cw_index.proofs.WholeNames.{names-whole}
use Rattle.cw_index.proofs.laws.whole_names_law.Goals as goal

pub returns : goal.returns
returns c = names-whole
