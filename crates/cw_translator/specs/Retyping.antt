-- The names as a translation leaves them that ends for want of memory.
use Rattle.std.specs.Prelude.{◌≡◌, List, [], ◌∷◌, ◌++◌}
use Rattle.cw_base.specs.declared.flags.Flags.{Flags}
use Rattle.cw_rules.specs.Answers.{Answer, Seen, Finish}
use Rattle.cw_names.specs.Names.{Entry}
use Rattle.cw_trees.specs.Joining.{Scrap}
use Rattle.cw_table.specs.Productions.{productions}
use Rattle.cw_table.specs.Reaching.{IsAfter}
use Rattle.cw_table.specs.Rewriting.{State}
use Rattle.cw_translator.specs.Reading.{Frame, CText, Progress, after_answer, last_scraps}
use Rattle.cw_translator.specs.Translating.{Known, state_in, with_categories}

-- names with the categories that they have after some of the productions
pub record Retypes (flags : Flags) (old : State) (names new : List Entry) : Type 0 where
  pub state : State
  pub reached : IsAfter productions flags old state
  pub is : new ≡ with_categories state.cats names

-- after some of the productions in a text of these scraps
abbrev pub RetypesIn : Flags → List Scrap → Known → List Entry → Type 0
RetypesIn flags scraps known new = Retypes flags (state_in scraps known) known.names new

-- The names of a translation that has come so far and goes over these answers: those before or after an answer, or
-- those after some productions in a text that ends there. In a text that is still open no production is done.
pub data NamesOnTheWay (flags : Flags) : List Answer → Progress → List Entry → Type 0 where
  here : (answers : List Answer) (p : Progress) → NamesOnTheWay flags answers p p.known.names
  at_finish : (token : Seen) (answers : List Answer) (p : Progress) (scraps : List Scrap) (outer : List Frame)
      (new : List Entry) → p.frames ≡ CText scraps ∷ outer → RetypesIn flags scraps p.known new
      → NamesOnTheWay flags (Finish token ∷ answers) p new
  at_end : (p : Progress) (new : List Entry) → RetypesIn flags (last_scraps p.frames) p.known new
      → NamesOnTheWay flags [] p new
  later : (answer : Answer) (answers : List Answer) (p : Progress) (new : List Entry)
      → NamesOnTheWay flags answers (after_answer flags answer p) new → NamesOnTheWay flags (answer ∷ answers) p new

-- the same for one that goes over these answers and others
abbrev pub NamesAmong : Flags → List Answer → Progress → List Entry → Type 0
NamesAmong flags answers p new = (later : List Answer) → NamesOnTheWay flags (answers ++ later) p new
