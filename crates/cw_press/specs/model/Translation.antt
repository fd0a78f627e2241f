-- What contracts see of a C text that is translated and not yet printed.
use Rattle.std.specs.Prelude.{◌≡◌, ℕ, ◌+◌, ◌<◌, ◌≤◌, false, List, ◌++◌, Result, Ok, Err, IfOk, OnOk}
use Rattle.cw_base.specs.declared.memory.Memory.{Memory}
use Rattle.cw_lex.specs.Lexing.{tokens_of}
use Rattle.cw_lex.specs.Nested.{begins_section_in}
use Rattle.cw_rules.specs.Answers.{Answer}
use Rattle.cw_press.specs.declared.texts.CText.{CText}
use Rattle.cw_phase1.specs.declared.book.Book.{Book}
use Rattle.cw_translator.specs.Counting.{limit_in, productions_in, scraps_in, ticks_in}
use Rattle.cw_tokens.specs.Shapes.{unfolded}
use Rattle.cw_tokens.specs.declared.token.Token.{Token}
use Rattle.cw_trees.specs.Tree.{Tree}
use Rattle.cw_press.specs.declared.counts.Counts.{Counts}
use Rattle.cw_press.specs.declared.texts.StoredText.{StoredText}
use Rattle.cw_press.specs.Done.{Done}
use Rattle.cw_press.specs.Texts.{Setting, lasting}
use Rattle.cw_press.specs.Weaving.{underlined}

-- the text, its list among lists of tokens, and what was counted
pub record TranslatedState : Type 0 where
  pub text : CText
  pub lists : List (List Token)
  pub root : ℕ
  pub counts : Counts

abbrev pub tree_of : TranslatedState → Tree
tree_of text = unfolded text.lists text.root

-- a text that is translated into a store, with the lists there
abbrev pub in_store : CText → List (List Token) → StoredText → TranslatedState
in_store c lists done = record { text = c; lists = lists; root = done.list.index; counts = done.counts }

abbrev pub stored : CText → List (List Token) → Result StoredText Memory → Result TranslatedState Memory
stored c lists (Ok done) = Ok (in_store c lists done)
stored c lists (Err error) = Err error

-- A text can be printed from what is kept of it: these are the answers of its scan, no section code cuts it, and its
-- list is one of so many.
pub record IsKept (c : CText) (answers : List Answer) (list count : ℕ) : Type 0 where
  pub answers_are : answers ≡ tokens_of c.text.now c.span.start c.span.«end» c.mode
  pub uncut : begins_section_in answers ≡ false
  pub there : list < count

-- The call translated this piece and printed nothing of it: it left its names, added its marks to the occurrences and
-- counted its C texts. Where it was refused, the names may have other categories.
pub record Translates (s : Setting) (d : Done ℕ) (old new : Book) (before after : ℕ)
    (result : Result TranslatedState Memory) : Type 0 where
  pub names : OnOk result (new.names ≡ d.names)
  pub occurrences : OnOk result (new.xrefs ≡ old.xrefs ++ underlined s.section d.marks)
  pub same : lasting new ≡ lasting old
  pub scraps : IfOk result (λ text. text.counts.scraps ≡ scraps_in d.ended)
  pub productions : IfOk result (λ text. text.counts.productions ≡ productions_in s.flags d.ended)
  pub steps_are : OnOk result (after ≡ before + ticks_in s.flags d.ended)
  pub bound : after ≤ before + limit_in s.flags d.ended
