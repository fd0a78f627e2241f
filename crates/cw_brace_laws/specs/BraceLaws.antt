-- The laws of braces.
use Rattle.std.specs.Prelude.{◌≡◌, ℕ, Bool, true, IfSome, List, ◌++◌, take, drop, All}
use Rattle.cw_rules.specs.declared.tokens.Directive.{Directive}
use Rattle.cw_base.specs.declared.flags.Flags.{Flags}
use Rattle.cw_table.specs.Braces.{row_is_braced}
use Rattle.cw_table.specs.Fitting.{row_fits}
use Rattle.cw_table.specs.Normal.{normal}
use Rattle.cw_table.specs.Productions.{productions}
use Rattle.cw_table.specs.Rewriting.{State, cats_of, rewrite_from}
use Rattle.cw_table.specs.Sound.{row_is_sound}
use Rattle.cw_table.specs.declared.types.Row.{Row}
use Rattle.cw_names.specs.Names.{Entry}
use Rattle.cw_rules.specs.Answers.{Answer}
use Rattle.cw_rules.specs.declared.tokens.TokKind.{TokKind}
use Rattle.cw_scraps.specs.Leaves.{token_form}
use Rattle.cw_translator.specs.Translating.{NameTexts, leaf_scrap, translated}
use Rattle.cw_trees.specs.Joining.{Scrap, whole}
use Rattle.cw_brace_laws.specs.Bracing.{IsBraced, IsBracedScrap}
use Rattle.cw_brace_laws.specs.Operators.{HasCleanOperators, PutsCleanOperators}
use Rattle.cw_brace_laws.specs.PlainTexts.{IsPlainText}
use Rattle.cw_brace_laws.specs.Printed.{PrintsBraced}
use Rattle.cw_trees.specs.Tree.{Tree}

-- the scrap of a token that makes one
abbrev pub LeavesAreBraced : Type 0
LeavesAreBraced = (kind : TokKind) (text : List ℕ) (hash_line : Bool) (d : Directive) (number : ℕ) (names : List Entry)
    → IfSome (token_form kind text hash_line d number names) (λ form. IsBracedScrap (leaf_scrap form))

-- One production, of a row that keeps the law of rows, keeps the braces of all scraps.
abbrev pub ProductionsKeepBraces : Type 0
ProductionsKeepBraces = (flags : Flags) (row : Row) (place : ℕ) (scraps : List Scrap)
    → row_is_sound row ≡ true → row_is_braced row ≡ true → row_fits row (cats_of (drop place scraps)) ≡ true
    → PutsCleanOperators flags row (drop place scraps) → All IsBracedScrap scraps
    → All IsBracedScrap (take place scraps ++ rewrite_from flags row (drop place scraps))

-- All productions together keep them, and so the tree is braced to which the scraps that are left are joined.
abbrev pub ReductionsAreBraced : Type 0
ReductionsAreBraced = (flags : Flags) (state : State) → HasCleanOperators flags state
    → All IsBracedScrap state.scraps → IsBraced (whole (normal productions flags state).scraps)

-- So is the tree of a translation, where the operators of all texts that were reduced on the way hold no text.
abbrev pub TranslationsAreBraced : Type 0
TranslationsAreBraced = (flags : Flags) (named : NameTexts) (answers : List Answer) (names : List Entry)
    (marks : List ℕ) → All (HasCleanOperators flags) (translated flags named answers names marks).known.ended
    → IsBraced (translated flags named answers names marks).tree

-- What a braced tree prints is braced.
abbrev pub TreesPrintBraced : Type 0
TreesPrintBraced = (tree : Tree) → IsBraced tree → PrintsBraced tree

-- So is what a translation prints.
abbrev pub TranslationsPrintBraced : Type 0
TranslationsPrintBraced = (flags : Flags) (named : NameTexts) (answers : List Answer) (names : List Entry)
    (marks : List ℕ) → All (HasCleanOperators flags) (translated flags named answers names marks).known.ended
    → PrintsBraced (translated flags named answers names marks).tree

-- What a translation of plain texts prints is braced, with no premise on productions.
abbrev pub PlainTextsPrintBraced : Type 0
PlainTextsPrintBraced = (flags : Flags) (named : NameTexts) (answers : List Answer) (names : List Entry)
    (marks : List ℕ) → All IsPlainText (translated flags named answers names marks).known.ended
    → PrintsBraced (translated flags named answers names marks).tree
