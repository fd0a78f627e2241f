-- A text that begins with a token which makes a scrap. It has no head, and goes on behind that scrap; where no row fits
-- at it and no other comes, it is reduced already.
use Rattle.cw_reduce.proofs.Terms.{Bool, false, not, Result, Cat, productions-sound, Translated, HasEnded, of_leaf}
use Rattle.cw_reduce.proofs.Terms.{grown-none, recorded-one, NoteKind, Token, Gives, seen, Lexed, Tok, is_name_kind}
use Rattle.cw_reduce.proofs.Terms.{headed, nest, IsNested, Beginning, Translator, Work, answers_ahead, is_definition}
use Rattle.cw_reduce.proofs.Terms.{read_made, without_notes, with_texts, ends-as, headless, nil_from_length, first_of}
use Rattle.cw_reduce.proofs.Terms.{limit-one, productions-one, scraps-one, ticks-one}
use Rattle.cw_base.specs.declared.category.Cat.TheVariants.{End}
use Rattle.cw_table.specs.Productions.{productions}
use Rattle.cw_table.specs.Normal.{count, log}
use Rattle.cw_table.proofs.FirstLaws.{first-window}
use Rattle.cw_scraps.specs.Applying.{state_of}
use Rattle.cw_scraps.specs.declared.leaves.Leaf.{Leaf}
use Rattle.cw_translator.specs.Recording.{HasRecorded, begun_over, ended_now}
use Rattle.cw_translator.proofs.Retypings.{retypes, retyped-names}
use Rattle.cw_rewrite.proofs.WalkSteps.{WalkEnds, Walks, goes-on, walk-ends, walk-reaches, walk-starts}
use Rattle.cw_reduce.specs.declared.heads.HeadRead.TheVariants as read
use Rattle.cw_translator.specs.Reading.{after_token}
use Rattle.cw_translator.specs.Translating.{translated, NameTexts, begin, head_made}
use Rattle.cw_reduce.proofs.HeadMakes.{none-token}
use Rattle.cw_reduce.proofs.NameSteps.{headed-translated, headed-whole, no-name-token}
use Rattle.cw_reduce.proofs.Joined.{AllNested}
use Rattle.cw_reduce.specs.Heading.{NamesOfText, behind, behind_head, head_begun, in_head, to_translation}
use Rattle.cw_translator.proofs.Terms.{◌≡◌, ℕ, true, ◌+◌, ◌≤◌, None, List, [], ◌∷◌, refl, sym, ap, ◌∙◌, Option, arith}
use Rattle.cw_translator.proofs.Terms.{Flags, Memory, Entry, State, Token as StoredToken, unfolded, StoredLists, whole}
use Rattle.cw_translator.proofs.Terms.{WatchState, grown_by, entry_of, IsSoundLine, scraps_of, MarkList, limit_in}
use Rattle.cw_translator.proofs.Terms.{progress_of, Progress, all_ended, NamesOnTheWay, at_end, ◌++◌, Answer, Note}
use Rattle.cw_translator.proofs.Terms.{TokKind, MakesLeaf, answers_in, after_answers, here, later, EndsIn}
use Rattle.cw_translator.proofs.Terms.{progress_over, to_end, with_names, Known}

-- no row fits where none fits before the end
pub alone-none : (cat : Cat) (may : Bool) → (may ≡ false → (third fourth : Cat) → first_of productions
    (cat ∷ End ∷ third ∷ fourth ∷ []) ≡ None) → not may ≡ true → first_of productions (cat ∷ []) ≡ None
alone-none cat true none e = cc
alone-none cat false none e = sym (first-window productions (cat ∷ []) productions-sound) ∙ none refl End End

module _ (flags : Flags) (store : StoredLists) (names : List Entry) (marks : MarkList) (leaf : Leaf) (steps : ℕ)
    (sound : IsSoundLine store names (entry_of leaf ∷ [])) (none : first_of productions (leaf.cat ∷ []) ≡ None) where
  abbrev state : State
  state = state_of store.lists (entry_of leaf ∷ []) marks names

  abbrev here_now : Progress
  here_now = progress_of store.lists names marks (of_leaf leaf) []

  begins : Walks flags state state 0 0 steps steps
  begins = walk-starts flags state steps sound.fine

  ends : WalkEnds flags state state 0 steps (steps + 4)
  ends = walk-ends flags state state 1 0 steps (steps + 4)
      (goes-on flags state state 0 0 steps steps begins (omega arith) none).next (omega arith)

  pub alone-done : (lists : List (List StoredToken)) (done : Translated) (steps2 : ℕ) → unfolded lists done.list.index
      ≡ whole (scraps_of store.lists (entry_of leaf ∷ [])) → done.scraps ≡ 1 → done.productions ≡ 0 → steps2 ≡ steps + 4
      → HasEnded flags (of_leaf leaf) steps lists names marks done steps2 (all_ended flags here_now)
  alone-done lists done steps2 tree scraps none_done spent = record {
    tree = tree ∙ ap (λ (s : State). whole s.scraps) ends.normal;
    names_are = retyped-names flags state state names names ends.normal refl refl;
    marks_are = ap (λ (s : State). s.marks) ends.normal;
    scraps = omega (arith, scraps, scraps-one state);
    productions_are = omega (arith, none_done, ends.number, productions-one flags state);
    steps_are = omega (arith, spent, ends.ticked, ticks-one flags state);
  }

  alone-log : log productions flags state ≡ []
  unfolding count
  alone-log = nil_from_length (log productions flags state) (sym ends.number)

  pub alone-recorded : {T : Type 0} (result : Result T Memory) {before begun ended : Option WatchState}
      → begun ≡ begun_over (scraps_of store.lists (entry_of leaf ∷ [])) before → ended ≡ ended_now begun
      → HasRecorded flags (all_ended flags here_now).known.ended before ended result
  alone-recorded result {begun = begun} b e = grind (arith, recorded-one, grown_by, alone-log, grown-none)

  pub alone-fails : NamesOnTheWay flags [] here_now names
  alone-fails = at_end here_now names
      (retypes flags state state names names (walk-reaches flags state state 0 0 steps steps begins) refl refl)

  pub alone-spent : (steps2 : ℕ) → steps2 ≡ steps + 4
      → steps2 ≤ steps + limit_in flags (all_ended flags here_now).known.ended
  alone-spent steps2 spent = omega (arith, spent, limit-one flags state)

-- Such a token is no section name and no code of a definition.
no-definition : (k : TokKind) → MakesLeaf k → is_definition k ≡ false
no-definition k makes = grind arith

no-name : (k : TokKind) → MakesLeaf k → is_name_kind k ≡ false
no-name k makes = grind arith

module _ (flags : Flags) (named : NameTexts) (nested : AllNested named) (lists : List (List StoredToken))
    (names : List Entry) (marks : List ℕ) (token : Tok) (makes : MakesLeaf token.kind) (rest : List Answer)
    (well : IsNested (Token (seen token) ∷ rest)) where
  abbrev all : List Answer
  all = Token (seen token) ∷ rest

  abbrev first_progress : Progress
  first_progress = head_begun lists read.None (begin names marks)

  -- it has no head
  none : headed (nest all) ≡ headless (nest all)
  none = none-token all rest token refl well (no-definition token.kind makes) (no-name token.kind makes)

  rest-is : nest all ≡ (headed (nest all)).rest
  rest-is = ap (λ x. x.rest) (sym none)

  made : (f : Flags) (n : NameTexts) (known : Known) → head_made f n (headed (nest all)).head (with_names names known)
      ≡ read_made f n lists read.None (with_names names known)
  made f n known = ap (λ x. head_made f n x.head (with_names names known)) none

  answers-are : with_texts named all ≡ Token (seen token) ∷ with_texts named rest
  answers-are = grind (arith, with_texts, no-name-token, seen, no-name)

  module _ (q : Progress) (is : q ≡ after_token token.kind (seen token) first_progress) where
    comes-to : after_answers flags (with_texts named rest) q ≡ after_answers flags (with_texts named all) first_progress
    comes-to = rw (is, answers-are)

    first-text : all_ended flags (after_answers flags (with_texts named rest) q)
        ≡ translated flags named all names marks
    first-text = ap (all_ended flags) comes-to ∙ (headed-whole flags named nested lists read.None all (begin names
        marks) well ∙ headed-translated flags named nested lists read.None all all names names marks made rest-is)

    first-way : (new : List Entry) → NamesOnTheWay flags (with_texts named rest) q new
        → NamesOfText flags named all names marks new
    first-way new h = behind_head lists read.None all names rest-is (made flags named (begin names marks)) (behind
        (rw answers-are (later (Token (seen token)) (with_texts named rest) first_progress new (rw is at h))))

    pub first-ends : {L R : Type 0} {told : R → Option WatchState} {t : Translator} {work new : Work L R}
        {result : Result Translated Memory} → EndsIn told (to_end flags (with_texts named rest) q) t work new result
        → EndsIn told (to_translation flags named all names marks) t work new result
    first-ends r = ends-as first-text first-way r

  pub first-start : NamesOfText flags named all names marks names
  first-start = grind (arith, rest-is, made, here, with_texts)

-- What a text comes to depends on its nest alone.
pub same-text : (flags : Flags) (named : NameTexts) (old new : List Answer) (names : List Entry) (marks : List ℕ)
    → nest new ≡ nest old → translated flags named new names marks ≡ translated flags named old names marks
unfolding translated
same-text flags named old new names marks same = grind (arith, headed)

pub same-way : (flags : Flags) (named : NameTexts) (old new : List Answer) (names : List Entry) (marks : List ℕ)
    (entries : List Entry) → nest new ≡ nest old → NamesOfText flags named new names marks entries
    → NamesOfText flags named old names marks entries
same-way flags named old new names marks entries same (in_head h) = in_head (rw same at h)
same-way flags named old new names marks entries same (behind_head lists head rest spelt leaves makes h) =
    behind_head lists head rest spelt (rw same at leaves) (rw same at makes) h

-- The first answer that is no note gives the answers from it on.
no-note : (answers : List Answer) (note : NoteKind) (place : ℕ) (rest : List Answer) → without_notes answers
    ≡ Note note place ∷ rest → ⊥
no-note (Note n p ∷ answers) note place rest e = no-note answers note place rest e
no-note _ note place rest e = cc

pub gives-again : (answers rest : List Answer) (first : Lexed) → Gives (without_notes answers) first rest
    → Gives (without_notes (answers_in first ++ rest)) first rest
gives-again answers rest first g = grind (arith, no-note, without_notes)

-- ## A text that goes on

pub ahead-is : (b : Beginning) (next : Lexed) (rest : List Answer) → b.name ≡ None → b.next ≡ next
    → answers_ahead b ++ rest ≡ answers_in next ++ rest
ahead-is b next rest named is = rw (named, is)

pub leaf-as : {L R : Type 0} {told : R → Option WatchState} (flags : Flags) (named : NameTexts) (leaf : Leaf)
    {xs ys : List Answer} {t : Translator} {work new : Work L R} {result : Result Translated Memory} → t ≡ of_leaf leaf
    → xs ≡ ys → EndsIn told (to_end flags (with_texts named xs) (progress_over work t)) t work new result → EndsIn told
    (to_end flags (with_texts named ys) (progress_over work (of_leaf leaf))) (of_leaf leaf) work new result
leaf-as flags named leaf e same r = rw (e, same) at r

-- A text from its first answer on.
pub text-as : {L R : Type 0} {told : R → Option WatchState} (flags : Flags) (named : NameTexts) (old new : List Answer)
    (names : List Entry) (marks : List ℕ) {t : Translator} {work work' : Work L R} {result : Result Translated Memory}
    → nest new ≡ nest old → EndsIn told (to_translation flags named new names marks) t work work' result
    → EndsIn told (to_translation flags named old names marks) t work work' result
text-as flags named old new names marks same r = ends-as (same-text flags named old new names marks same)
    (λ entries. same-way flags named old new names marks entries same) r
