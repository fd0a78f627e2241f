-- What is open while a C text is read, over the store in which its translation is built.
use Rattle.std.specs.Prelude.{◌≡◌, ℕ, ◌+◌, ◌*◌, ◌<◌, ◌≤◌, true, List, [], ◌∷◌, ◌++◌, length, map, All, None}
use Rattle.std.specs.List.{list_all}
use Rattle.cw_rules.specs.Answers.{Answer, Token, Begin, Finish, Note, seen}
use Rattle.cw_rules.specs.declared.tokens.Lexed.{Lexed}
use Rattle.cw_rules.specs.declared.tokens.Lexed.TheVariants as lexed
use Rattle.cw_base.specs.declared.flags.Flags.{Flags}
use Rattle.cw_names.specs.Names.{Entry}
use Rattle.cw_trees.specs.Joining.{Scrap, scrap_agrees}
use Rattle.cw_table.specs.Normal.{is_fine}
use Rattle.cw_table.specs.Rewriting.{State}
use Rattle.cw_tokens.specs.declared.token.Token.{Token as StoredToken}
use Rattle.cw_tokens.specs.Shapes.{unfolded}
use Rattle.cw_tokens.specs.Stored.{StoredLists}
use Rattle.cw_scraps.specs.Lines.{scraps_of, roots_of, AreRoots, IsNamedBelow}
use Rattle.cw_scraps.specs.Marking.{MarkList, marked_names}
use Rattle.cw_translator.specs.declared.nesting.Open.{Open}
use Rattle.cw_translator.specs.declared.nesting.Open.TheVariants.{CText, Comment}
use Rattle.cw_translator.specs.declared.translator.Translated.{Translated}
use Rattle.cw_translator.specs.declared.translator.Translator.{Translator}
use Rattle.cw_translator.specs.Commenting.{part_seen, inner_lists}
use Rattle.cw_translator.specs.Counting.{scraps_in, productions_in, ticks_in}
use Rattle.cw_translator.specs.Reading.{Frame, Progress}
use Rattle.cw_translator.specs.Reading.{CText as CTextFrame, Comment as CommentFrame}
use Rattle.cw_translator.specs.Translating.{CommentItem, Piece, InnerText, Ended}

-- a translation that has read nothing, and one that has read a leaf alone
abbrev pub of_nothing : Translator
of_nothing = record { nesting = CText [] ∷ []; scraps = 0; productions = 0 }

-- what is open, with the trees of its lists
abbrev pub frame_of : List (List StoredToken) → Open → Frame
frame_of lists (CText line) = CTextFrame (scraps_of lists line)
frame_of lists (Comment held_by parts) = CommentFrame held_by (map (part_seen lists) parts)

abbrev pub frames_of : List (List StoredToken) → List Open → List Frame
frames_of lists all = map (frame_of lists) all

-- its lists, the outermost first
abbrev pub open_roots : Open → List ℕ
open_roots (CText line) = roots_of line
open_roots (Comment held_by parts) = inner_lists parts

abbrev pub all_roots : List Open → List ℕ
all_roots [] = []
all_roots (inner ∷ outer) = all_roots outer ++ open_roots inner

-- The scraps of open C texts are as in a sound line, and the names in the inner texts of open comments are names.
abbrev pub IsNamedItem : ℕ → CommentItem → Type 0
IsNamedItem count (Piece number) = Unit {0}
IsNamedItem count (InnerText tree) = IsNamedBelow count tree

pub record AreSoundScraps (count : ℕ) (scraps : List Scrap) : Type 0 where
  pub named : All (λ scrap. IsNamedBelow count scrap.tree) scraps
  pub modes : All scrap_agrees scraps
  pub fine : list_all is_fine scraps ≡ true

abbrev pub IsSoundFrame : ℕ → Frame → Type 0
IsSoundFrame count (CTextFrame scraps) = AreSoundScraps count scraps
IsSoundFrame count (CommentFrame held_by items) = All (IsNamedItem count) items

-- The lists of all that is open are distinct lists of the store, to which no list refers, and no list is being built.
pub record IsTranslating (store : StoredLists) (names : List Entry) (t : Translator) : Type 0 where
  pub idle : store.building ≡ None
  pub roots : AreRoots store.lists (all_roots t.nesting)
  pub sound : All (IsSoundFrame (length names)) (frames_of store.lists t.nesting)
  pub light : t.productions ≤ 8 * t.scraps

-- one answer of the scanner, and none where all is answered
abbrev pub answers_in : Lexed → List Answer
answers_in (lexed.Token token) = Token (seen token) ∷ []
answers_in (lexed.Begin token) = Begin (seen token) ∷ []
answers_in (lexed.Finish token) = Finish (seen token) ∷ []
answers_in (lexed.Note note place) = Note note place ∷ []
answers_in lexed.End = []

-- the first bytes of tokens and comments stand before a place
abbrev pub StartsBelow : ℕ → List Answer → Type 0
StartsBelow limit [] = Unit {0}
StartsBelow limit (Token token ∷ answers) = (token.span.start < limit) × StartsBelow limit answers
StartsBelow limit (Begin token ∷ answers) = (token.span.start < limit) × StartsBelow limit answers
StartsBelow limit (Finish token ∷ answers) = StartsBelow limit answers
StartsBelow limit (Note note place ∷ answers) = StartsBelow limit answers

-- how far a translation has come, where these texts have ended
abbrev pub progress_of : List (List StoredToken) → List Entry → MarkList → Translator → List State → Progress
progress_of lists names marks t ended = record {
  frames = frames_of lists t.nesting;
  known = record { names = names; marks = marked_names marks; ended = ended };
}

-- A translation has come from where it stood to `p`: this is open and known now, and the texts that ended since were
-- counted.
pub record HasCome (flags : Flags) (t : Translator) (steps : ℕ) (lists : List (List StoredToken)) (names : List Entry)
    (marks : MarkList) (t' : Translator) (steps' : ℕ) (p : Progress) : Type 0 where
  pub is : progress_of lists names marks t' p.known.ended ≡ p
  pub scraps : t'.scraps ≡ t.scraps + scraps_in p.known.ended
  pub productions_are : t'.productions ≡ t.productions + productions_in flags p.known.ended
  pub steps_are : steps' ≡ steps + ticks_in flags p.known.ended

-- A translation has ended with this text: it counts what the text counts, behind what was counted before.
pub record HasEnded (flags : Flags) (t : Translator) (steps : ℕ) (lists : List (List StoredToken)) (names : List Entry)
    (marks : MarkList) (done : Translated) (steps' : ℕ) (text : Ended) : Type 0 where
  pub tree : unfolded lists done.list.index ≡ text.tree
  pub names_are : names ≡ text.known.names
  pub marks_are : marked_names marks ≡ text.known.marks
  pub scraps : done.scraps ≡ t.scraps + scraps_in text.known.ended
  pub productions_are : done.productions ≡ t.productions + productions_in flags text.known.ended
  pub steps_are : steps' ≡ steps + ticks_in flags text.known.ended
