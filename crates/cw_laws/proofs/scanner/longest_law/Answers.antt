-- Each token is the longest that begins at its place.
use Rattle.cw_laws.proofs.Longest.{tokens-are-longest}
use Rattle.cw_laws.proofs.scanner.longest_law.Goals as goal

pub returns : goal.returns
returns c = tokens-are-longest
