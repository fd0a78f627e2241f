-- Calls that translate a whole C text: what they ask of it, and what they leave.
use Rattle.std.specs.Prelude.{◌≡◌, ℕ, ◌+◌, ◌*◌, ◌≤◌, ◌^◌, false, true, List, [], ◌∷◌, length, is_some}
use Rattle.cw_base.specs.declared.flags.Flags.{Flags}
use Rattle.cw_base.specs.declared.span.Span.{Span}
use Rattle.cw_lex.specs.Lexing.{tokens_of}
use Rattle.cw_lex.specs.Nested.{begins_section_in, is_c_mode}
use Rattle.cw_rules.specs.Answers.{Answer}
use Rattle.cw_rules.specs.declared.tokens.Mode.{Mode}
use Rattle.cw_names.specs.Names.{Entry}
use Rattle.cw_tokens.specs.declared.token.Token.{Token}
use Rattle.cw_tokens.specs.Shapes.{unfolded}
use Rattle.cw_scraps.specs.Changing.{Keeps}
use Rattle.cw_scraps.specs.Lines.{AreRoots, IsNamedBelow}
use Rattle.cw_scraps.specs.Marking.{MarkList, marked_names}
use Rattle.cw_translator.specs.declared.translator.Translated.{Translated}
use Rattle.cw_translator.specs.declared.work.Context.{Context}
use Rattle.cw_translator.specs.declared.work.Work.{Work}
use Rattle.cw_translator.specs.Counting.{productions_in, scraps_in, ticks_in}
use Rattle.cw_translator.specs.Translating.{Ended, NameTexts, translated}
use Rattle.cw_translator.specs.Working.{Target, texts_in}
use Rattle.cw_reduce.specs.Heading.{to_translation}
use Rattle.cw_reduce.specs.Visible.{shown}

-- A span that can be translated: it lies in its text, which is none of the longest, its mode is one of C text, and no
-- section code cuts it.
pub record IsCText (text : List ℕ) (span : Span) (mode : Mode) : Type 0 where
  pub order : span.start ≤ span.«end»
  pub within : span.«end» ≤ length text
  pub short : length text ≤ 2 ^ 24
  pub c_mode : is_c_mode mode ≡ true
  pub uncut : begins_section_in (tokens_of text span.start span.«end» mode) ≡ false

-- its translation, and the numbers of its tokens that are shown
abbrev pub translation_of : Flags → NameTexts → List ℕ → Span → Mode → List Entry → MarkList → Ended
translation_of flags named text span mode names marks =
    translated flags named (tokens_of text span.start span.«end» mode) names (marked_names marks)

abbrev pub shown_in_text : NameTexts → List ℕ → Span → Mode → List ℕ
shown_in_text named text span mode =
    shown (λ number. is_some (named number)) (tokens_of text span.start span.«end» mode)

-- the translation of the text of which these are the scanner's answers, over this
abbrev pub to_text : {L R : Type 0} → Context → List Answer → Work L R → Target
to_text context answers work = to_translation context.flags.now (texts_in context) answers work.names.now
    (marked_names work.marks.now)

-- A text has been translated: its tree, the names with their categories, the marks and the counts are those of its
-- translation, and there are at most eight productions for a scrap.
pub record IsTranslated (flags : Flags) (lists : List (List Token)) (names : List Entry) (marks : MarkList)
    (done : Translated) (steps steps' : ℕ) (text : Ended) : Type 0 where
  pub tree : unfolded lists done.list.index ≡ text.tree
  pub names_are : names ≡ text.known.names
  pub marks_are : marked_names marks ≡ text.known.marks
  pub scraps : done.scraps ≡ scraps_in text.known.ended
  pub productions_are : done.productions ≡ productions_in flags text.known.ended
  pub few : done.productions ≤ 8 * done.scraps
  pub steps_are : steps' ≡ steps + ticks_in flags text.known.ended

-- A list is one of the store to which no list refers, and the names in its tree are names. The lists that the store
-- held stay, and no new list refers to them.
pub record IsNewList (old new : List (List Token)) (count list : ℕ) : Type 0 where
  pub root : AreRoots new (list ∷ [])
  pub named : IsNamedBelow count (unfolded new list)
  pub others : Keeps old new [] (list ∷ [])
