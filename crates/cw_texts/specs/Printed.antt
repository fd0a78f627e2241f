-- Whether the C part of a section is printed.
use Rattle.std.specs.Prelude.{ℕ, Bool, true, false, ◌||◌, is_some, List, [], if◌then◌else◌}
use Rattle.std.specs.List.{list_any}
use Rattle.cw_rules.specs.declared.tokens.Directive.TheVariants.{No}
use Rattle.cw_rules.specs.Answers.{Answer, Token, Begin, Finish, Note}
use Rattle.cw_rules.specs.declared.tokens.Mode.TheVariants.{CPart}
use Rattle.cw_rules.specs.declared.tokens.TokKind.{TokKind}
use Rattle.cw_rules.specs.declared.tokens.TokKind.TheVariants as kinds
use Rattle.cw_lex.specs.Limbo.{is_name_kind}
use Rattle.cw_phase1.specs.declared.sections.Section.{Section}
use Rattle.cw_scraps.specs.Leaves.{token_form}
use Rattle.cw_secnames.specs.Uses.{NameUse, name_at}
use Rattle.cw_texts.specs.Definitions.{begun_by}
use Rattle.cw_texts.specs.Scans.{scanned}

-- the book has a name for the section name at a place
abbrev pub is_kept : List NameUse → ℕ → Bool
is_kept uses place = is_some (name_at place uses)

-- A section name makes a scrap where the book has a name for it, and another token where it has a form. Codes of
-- definitions don't stand in a C part; they would begin a head.
abbrev pub token_makes : List NameUse → TokKind → ℕ → Bool
token_makes uses kind place =
    if is_name_kind kind then is_kept uses place
    else is_some (begun_by kind place) || is_some (token_form kind [] false No 0 [])

-- A comment makes one, whatever stands in it.
abbrev pub group_makes : TokKind → Bool
group_makes kinds.LongComment = true
group_makes kinds.ShortComment = true
group_makes kind = false

abbrev pub makes_scrap : List NameUse → Answer → Bool
makes_scrap uses (Token token) = token_makes uses token.kind token.span.start
makes_scrap uses (Begin token) = group_makes token.kind
makes_scrap uses (Finish token) = false
makes_scrap uses (Note note place) = false

-- some of these answers makes a scrap
abbrev pub has_scrap : List NameUse → List Answer → Bool
has_scrap uses answers = list_any (makes_scrap uses) answers

-- The C part is printed where it is named or has a scrap.
abbrev pub is_printed : List ℕ → List NameUse → Section → Bool
is_printed text uses section = is_some section.name || has_scrap uses (scanned CPart text section.c_part)
