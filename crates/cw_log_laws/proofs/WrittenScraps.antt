-- Scraps of which leaf lines tell all: their trees, their leaf lines, and the blocks of states that have such scraps.
use Rattle.cw_log_laws.proofs.Terms.{◌≡◌, ◌≢◌, ℕ, ◌≤◌, Bool, true, false, Option, Some, None, List, [], ◌∷◌, length}
use Rattle.cw_log_laws.proofs.Terms.{map, slice_get, refl, sym, ap, subst, arith, eq-eqb, All, list_all, lt-ltb}
use Rattle.cw_log_laws.proofs.Terms.{length-map, All-append, All-head, All-map, All-nil, All-tail, All-weaker, both}
use Rattle.cw_log_laws.proofs.Terms.{Cat, End, Flags, may_be_bare, Ident as ident_kind, Entry, AreDistinct, Scrap}
use Rattle.cw_log_laws.proofs.Terms.{Source, Reserved, Sign, Tree, Empty, Then, Sub, Inner, bare_name, search_word}
use Rattle.cw_log_laws.proofs.Terms.{Production, is_fine, fine_with, log, productions, State, block_of, Block}
use Rattle.cw_log_laws.proofs.Terms.{IsFineLine, fits_kind, greatest, is_identifier, logged, IsKept, IsLater}
use Rattle.cw_log_laws.proofs.Terms.{IsRightBlock}
use Rattle.cw_trees.specs.{declared.Control.Control, declared.Control.TheVariants.Inserted, Tree.Leaf, Tree.Ident}
use Rattle.cw_table.specs.Sound.{is_exp}
use Rattle.cw_leaves.specs.LeafLines.{HasNoMark, IsClear, IsIdentEntry, IsTold, kind_by, leaf_line, said, said_by}
use Rattle.cw_leaves.specs.LeafLines.{text_at, text_by}
use Rattle.cw_leaves.specs.Sights.{Utterance, behind, told_by}
use Rattle.cw_leaves.specs.Spelling.{id_of, item_of, line_of, production_of, spelled}
use Rattle.cw_leaves.proofs.LineFacts.{lines-have-log}
use Rattle.cw_log_laws.proofs.FineItems.{log-fine}

-- ## Words among the names

abbrev pub IsWordEntry : Option Entry → Type 0
IsWordEntry None = ⊥
IsWordEntry (Some entry) = (entry.kind ≡ ident_kind) × (is_identifier entry.text ≡ true)

abbrev pub IsWord : List Entry → ℕ → Type 0
IsWord names name = IsWordEntry (slice_get names name)

word-kept : (o p : Option Entry) → IsKept o p → IsWordEntry o → IsWordEntry p
word-kept o p k h = grind arith

word-ident : (o : Option Entry) → IsWordEntry o → IsIdentEntry o
word-ident o h = grind arith

word-text : (o : Option Entry) → IsWordEntry o → is_identifier (text_by o) ≡ true
word-text o h = grind arith

-- ## Trees

-- Outside inner texts stand no mark Inserted and no identifiers but words.
abbrev pub IsWrittenLeaf : List Entry → Leaf → Type 0
IsWrittenLeaf names (Source number mode) = Unit {0}
IsWrittenLeaf names (Ident name number) = IsWord names name
IsWrittenLeaf names (Reserved name number cat) = Unit {0}
IsWrittenLeaf names (Sign Inserted) = ⊥
IsWrittenLeaf names (Sign control) = Unit {0}

abbrev pub IsWritten : List Entry → Tree → Type 0
IsWritten names Empty = Unit {0}
IsWritten names (Then leaf rest) = IsWrittenLeaf names leaf × IsWritten names rest
IsWritten names (Sub tree rest) = IsWritten names tree × IsWritten names rest
IsWritten names (Inner tree rest) = IsWritten names rest

sign-later : (names later : List Entry) (c : Control) → IsWrittenLeaf names (Sign c) → IsWrittenLeaf later (Sign c)
sign-later names later c h = grind arith

leaf-later : (names later : List Entry) → IsLater names later → (leaf : Leaf) → IsWrittenLeaf names leaf
    → IsWrittenLeaf later leaf
leaf-later names later l leaf h = grind (arith, word-kept, slice_get, sign-later)

pub written-later : (names later : List Entry) → IsLater names later → (tree : Tree) → IsWritten names tree
    → IsWritten later tree
written-later names later l Empty h = tt
written-later names later l (Then leaf rest) h = grind (arith, written-later names later l rest h.1, leaf-later)
written-later names later l (Sub tree rest) h =
    (written-later names later l tree h.0, written-later names later l rest h.1)
written-later names later l (Inner tree rest) h = written-later names later l rest h

sign-clear : (names : List Entry) (c : Control) → IsWrittenLeaf names (Sign c) → IsClear (Sign c)
sign-clear names c h = grind arith

leaf-clear : (names : List Entry) (leaf : Leaf) → IsWrittenLeaf names leaf → IsClear leaf
leaf-clear names leaf h = grind (arith, sign-clear)

unmarked : (names : List Entry) (tree : Tree) → IsWritten names tree → HasNoMark tree
unmarked names Empty h = tt
unmarked names (Then leaf rest) h = (leaf-clear names leaf h.0, unmarked names rest h.1)
unmarked names (Sub tree rest) h = (unmarked names tree h.0, unmarked names rest h.1)
unmarked names (Inner tree rest) h = unmarked names rest h

-- what is said of words
module _ (names : List Entry) where
  abbrev Words : List ℕ → Type 0
  Words ns = All (IsWord names) ns

  behind-words : (ns : List ℕ) (stops : Bool) (rest : Utterance ℕ) → Words ns → Words rest.names
      → Words (behind ns stops rest).names
  behind-words ns true rest h g = h
  behind-words ns false rest h g = All-append (IsWord names) ns rest.names h g

  search-words : (c : Cat) → Words (told_by (search_word c)).names
  search-words c = grind arith

  leaf-words : (leaf : Leaf) → IsWrittenLeaf names leaf → Words (told_by (said_by leaf)).names
  leaf-words leaf h = grind (arith, search-words)

  said-words : (tree : Tree) → IsWritten names tree → Words (said tree).names
  said-words Empty h = All-nil (IsWord names)
  said-words (Then leaf rest) h = grind (arith, said-words rest h.1, behind-words, leaf-words)
  said-words (Sub tree rest) h = grind (arith, said-words tree h.0, said-words rest h.1, behind-words)
  said-words (Inner tree rest) h = said-words rest h

-- ## Scraps

abbrev pub BareIsExp : Option ℕ → Cat → Type 0
BareIsExp None c = Unit {0}
BareIsExp (Some name) c = is_exp c ≡ true

pub record IsLogged (names : List Entry) (scrap : Scrap) : Type 0 where
  pub written : IsWritten names scrap.tree
  pub real : scrap.cat ≢ End
  pub bare : BareIsExp (bare_name scrap.tree) scrap.cat

pub logged-later : (names later : List Entry) → IsLater names later → (scrap : Scrap) → IsLogged names scrap
    → IsLogged later scrap
logged-later names later l scrap h = grind (arith, written-later)

told : (names : List Entry) (scrap : Scrap) → IsLogged names scrap → IsTold names scrap
told names scrap h = grind (arith, unmarked, slice_get, word-ident, said-words)

exp-bare : (c : Cat) → is_exp c ≡ true → may_be_bare c ≡ true
exp-bare c h = grind arith

fine-by : (b : Option ℕ) (c : Cat) → BareIsExp b c → fine_with c b ≡ true
fine-by b c h = grind (arith, exp-bare)

scraps-fine : (names : List Entry) (scraps : List Scrap) → All (IsLogged names) scraps → list_all is_fine scraps ≡ true
scraps-fine names [] all = refl
scraps-fine names (s ∷ scraps) all = both (is_fine s) _ (fine-by (bare_name s.tree) s.cat
    (All-head (IsLogged names) s scraps all).bare) (scraps-fine names scraps (All-tail (IsLogged names) s scraps all))

-- ## Leaf lines

-- one identifier says one name
bare-one : (t : Tree) (n : ℕ) → bare_name t ≡ Some n → length (said t).names ≡ 1
bare-one t n e = grind arith

kind-fits : (b : Option ℕ) (c : Cat) (ns : List ℕ) (stops : Bool) (count : ℕ) → count ≡ length ns → BareIsExp b c
    → ((n : ℕ) → b ≡ Some n → length ns ≡ 1) → fits_kind (kind_by b stops ns) c count ≡ true
kind-fits b c ns stops count e bare one = grind (arith, both, eq-eqb, lt-ltb)

line-fine : (names : List Entry) (scrap : Scrap) → IsLogged names scrap → IsFineLine (leaf_line names scrap)
line-fine names scrap h = record {
  kind = kind-fits (bare_name scrap.tree) scrap.cat (said scrap.tree).names (said scrap.tree).stops
      (length (map (text_at names) (said scrap.tree).names)) (length-map (said scrap.tree).names (text_at names)) h.bare
      (λ n e. bare-one scrap.tree n e);
  real = h.real;
  names = All-map (λ (text : List ℕ). is_identifier text ≡ true) (text_at names) (said scrap.tree).names
      (All-weaker (IsWord names) (λ n. is_identifier (text_at names n) ≡ true) (λ n w. word-text (slice_get names n) w)
      (said scrap.tree).names (said-words names scrap.tree h.written));
}

lines-fine : (names : List Entry) (scraps : List Scrap) → All (IsLogged names) scraps
    → All IsFineLine (map (leaf_line names) scraps)
lines-fine names scraps all = All-map IsFineLine (leaf_line names) scraps
    (All-weaker (IsLogged names) (λ s. IsFineLine (leaf_line names s)) (λ s h. line-fine names s h) scraps all)

-- ## What is told is the leaf lines and the log

texts-said : (names : List Entry) (ns : List ℕ)
    → map (λ id. text_at names id.index) (map id_of ns) ≡ map (text_at names) ns
texts-said names [] = refl
texts-said names (n ∷ ns) = ap (λ ts. text_at names n ∷ ts) (texts-said names ns)

line-said : (names : List Entry) (scrap : Scrap) → spelled names (line_of scrap) ≡ leaf_line names scrap
line-said names scrap = grind (arith, texts-said)

lines-said : (names : List Entry) (scraps : List Scrap)
    → map (spelled names) (map line_of scraps) ≡ map (leaf_line names) scraps
lines-said names [] = refl
lines-said names (s ∷ scraps) = grind (arith, lines-said names scraps, line-said)

items-said : (ps : List Production) → map production_of (map item_of ps) ≡ ps
items-said [] = refl
items-said (p ∷ ps) = ap (λ qs. p ∷ qs) (items-said ps)

-- ## States

pub record IsFineState (names : List Entry) (state : State) : Type 0 where
  pub scraps : All (IsLogged names) state.scraps
  pub few : length state.scraps ≤ greatest

pub state-later : (names later : List Entry) → IsLater names later → (state : State) → IsFineState names state
    → IsFineState later state
state-later names later l state h = record {
  scraps = All-weaker (IsLogged names) (IsLogged later) (λ s g. logged-later names later l s g) state.scraps h.scraps;
  few = h.few;
}

-- its leaf lines and its productions
abbrev pub block_told : Flags → List Entry → State → Block
block_told flags names state =
    record { leaves = map (leaf_line names) state.scraps; items = log productions flags state }

pub told-right : (flags : Flags) (names : List Entry) (state : State) → AreDistinct names → IsFineState names state
    → IsRightBlock flags (block_told flags names state)
told-right flags names state distinct h = record {
  fine = record {
    few = omega (arith, length-map state.scraps (leaf_line names), h.few);
    leaves = lines-fine names state.scraps h.scraps;
    items = log-fine flags greatest (omega arith) state (scraps-fine names state.scraps h.scraps) h.few;
  };
  right = lines-have-log productions flags names state distinct
      (All-weaker (IsLogged names) (IsTold names) (λ s g. told names s g) state.scraps h.scraps);
}

block-said : (flags : Flags) (names : List Entry) (state : State)
    → block_of names (logged flags state) ≡ block_told flags names state
block-said flags names state = grind (arith, lines-said, items-said)

-- the same as it is recorded
pub block-right : (flags : Flags) (names : List Entry) (state : State) → AreDistinct names → IsFineState names state
    → IsRightBlock flags (block_of names (logged flags state))
block-right flags names state distinct h =
    subst (IsRightBlock flags) (sym (block-said flags names state)) (told-right flags names state distinct h)
