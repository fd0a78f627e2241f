-- What holds of every translation.
use Rattle.std.specs.Prelude.{◌≡◌, ◌≤◌, ℕ, List, Some, is_some}
use Rattle.cw_base.specs.declared.flags.Flags.{Flags}
use Rattle.cw_base.specs.declared.mode.MathMode.TheVariants.{Text}
use Rattle.cw_rules.specs.Answers.{Answer}
use Rattle.cw_lex.specs.Nested.{IsNested}
use Rattle.cw_names.specs.Names.{Entry}
use Rattle.cw_trees.specs.Flat.{struck}
use Rattle.cw_trees.specs.Joining.{reads}
use Rattle.cw_trees.specs.Tree.{Tree, Empty, Then, Sub, Inner}
use Rattle.cw_translator.specs.Counting.{limit_in, ticks_in}
use Rattle.cw_translator.specs.Translating.{NameTexts, translated}
use Rattle.cw_reduce.specs.Visible.{shown}

-- Each token of a text that is shown stands in the tree of its translation once and in order, and no other does.
abbrev pub ShowsEachToken : Type 0
ShowsEachToken = (flags : Flags) (named : NameTexts) (answers : List Answer) (names : List Entry) (marks : List ℕ)
    → IsNested answers → struck (translated flags named answers names marks).tree
    ≡ shown (λ number. is_some (named number)) answers

-- Read from text, each inner text in a tree ends in text.
abbrev pub InnersRead : Tree → Type 0
InnersRead Empty = Unit {0}
InnersRead (Then leaf rest) = InnersRead rest
InnersRead (Sub tree rest) = InnersRead tree × InnersRead rest
InnersRead (Inner tree rest) = (reads tree Text ≡ Some Text) × InnersRead tree × InnersRead rest

-- Read from text, a tree ends in text, and so does each inner text in it.
pub record ReadsInText (tree : Tree) : Type 0 where
  pub whole : reads tree Text ≡ Some Text
  pub inner : InnersRead tree

abbrev pub StandsInText : Type 0
StandsInText = (flags : Flags) (named : NameTexts) (answers : List Answer) (names : List Entry) (marks : List ℕ)
    → ReadsInText (translated flags named answers names marks).tree

-- The steps of a translation are at most the limit of its texts.
abbrev pub StaysWithinLimit : Type 0
StaysWithinLimit = (flags : Flags) (named : NameTexts) (answers : List Answer) (names : List Entry) (marks : List ℕ)
    → ticks_in flags (translated flags named answers names marks).known.ended
    ≤ limit_in flags (translated flags named answers names marks).known.ended
