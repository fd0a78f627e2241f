-- Small indexes are of the index, since the book is the same.
use Rattle.cw_laws.proofs.LeftBooks.{small-indexes}
use Rattle.cw_laws.proofs.left.mini_book_law.Goals as goal

pub returns : goal.returns
returns c = small-indexes c.left_law.ensures.woven c.mini_law.ensures
