-- The texts of a book keep their names, and are logged.
use Rattle.cw_log_laws.proofs.RightTexts.{texts-keep-names, texts-logged}
use Rattle.cw_log_laws.proofs.laws.logged_law.Goals as goal

pub returns-clause-names : goal.returns-clause-names
returns-clause-names c = texts-keep-names

pub returns-clause-texts : goal.returns-clause-texts
returns-clause-texts c = texts-logged
