-- The pieces of a book are all of its web.
use Rattle.cw_laws.proofs.WholeBooks.{books-are-whole}
use Rattle.cw_laws.proofs.book.book_law.Goals as goal

pub returns : goal.returns
returns c = books-are-whole
