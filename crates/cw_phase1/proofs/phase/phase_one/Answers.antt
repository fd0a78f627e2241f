-- The book of what is held when all answers came is that of the whole list of answers.
use Rattle.cw_phase1.proofs.Terms.{◌≡◌, ◌<◌, ◌≤◌, ◌∙◌, ap, sym, subst, List, [], All, length, arith, text_of, Span}
use Rattle.cw_phase1.proofs.Terms.{All-nil, SecName, NameUse, Section, answers_of, book, kept_after, Placement}
use Rattle.cw_phase1.proofs.Terms.{at_limbo, placed, span, sections_of, IsNamedBy, LiesIn, RefersUpTo, unwrap_or}
use Rattle.cw_phase1.proofs.Terms.{with_references, references_of, section_names, TokenLists, ◌++◌}
use Rattle.cw_phase1.specs.{Missing.missing_equals, Notes.name_notes}
use Rattle.cw_phase1.proofs.{Outlines.all-sections, Outlines.all-limbo, Referred.all-referred, LimboRoles.all-rise}
use Rattle.cw_phase1.proofs.{LimboRoles.unnamed, NameSizes.all-short}
use Rattle.cw_phase1.proofs.WordLaws.{all-names, all-occurrences, all-uses, all-references}
use Rattle.cw_phase1.proofs.RoleLaws.{fits, numbered, all-refer, uses-below}
use Rattle.cw_phase1.proofs.SpanLaws.{follows, all-lie, all-named, limbo-lies, named-below}
use Rattle.cw_phase1.proofs.phase.phase_one.Goals as goal

kept : (c : goal.In_ok-book) → with_references c.in_ok-held.held.told.named.references c.in_ok-held.held.kept
    ≡ section_names (kept_after [] (answers_of c.args.web.now.lines)) (placed (answers_of c.args.web.now.lines))
kept c = (λ i. with_references ((ap (λ (t : TokenLists). t.named.references) c.in_ok-held.ensures.told
    ∙ all-references c.args.web.now.lines (placed (answers_of c.args.web.now.lines))) i) (c.in_ok-held.ensures.kept i))
    ∙ all-referred (references_of (placed (answers_of c.args.web.now.lines))) (answers_of c.args.web.now.lines)

sec_names-are : (c : goal.In_ok-book) → c.in_ok-book.book.sec_names ≡ (book c.args.web.now.lines).sec_names
sec_names-are c = c.in_ok-book.ensures.sec_names ∙ kept c

name_uses-are : (c : goal.In_ok-book) → c.in_ok-book.book.name_uses ≡ (book c.args.web.now.lines).name_uses
name_uses-are c = c.in_ok-book.ensures.name_uses ∙ (grind (arith, all-uses))

limbo-is : (c : goal.In_ok-book) → c.in_ok-book.book.outline.limbo ≡ (book c.args.web.now.lines).outline.limbo
limbo-is c = c.in_ok-book.ensures.limbo ∙ (ap (λ (t : TokenLists). span 0 (unwrap_or t.sections.limbo_end
    (length (text_of c.args.web.now.lines)))) c.in_ok-held.ensures.told ∙ ap (span 0) (grind (arith, all-limbo)))

sections-are : (c : goal.In_ok-book) → c.in_ok-book.book.outline.sections ≡ (book c.args.web.now.lines).outline.sections
sections-are c = c.in_ok-book.ensures.sections ∙ (grind (arith, all-sections))

notes-are : (c : goal.In_ok-book) → c.in_ok-book.book.outline.notes ≡ (book c.args.web.now.lines).outline.notes
notes-are c = c.in_ok-book.ensures.notes ∙ (λ i. c.in_ok-held.ensures.notes i ++ (missing_equals c.args.web.now.lines
    (name_uses-are c i) (sec_names-are c i) (sections-are c i) ++ name_notes (sec_names-are c i)))

pub make_book-requires-clause-lie : goal.make_book-requires-clause-lie
make_book-requires-clause-lie c = subst (λ (sections : List Section). All (LiesIn
    (length (text_of c.args.web.now.lines))) sections) (grind (arith, all-sections)) (all-lie c.args.web.now.lines
    0 (length (text_of c.args.web.now.lines)) (placed (answers_of c.args.web.now.lines)) (grind (arith, follows)))

pub returns-clause-book : goal.returns-clause-book
returns-clause-book c =
    grind (arith, all-names, all-occurrences, sec_names-are, name_uses-are, limbo-is, sections-are, notes-are)

-- ## What holds of every book

abbrev tokens : goal.In_ok-book → List Placement
tokens c = placed (answers_of c.args.web.now.lines)

pub returns-clause-references : goal.returns-clause-references
returns-clause-references c =
    subst (λ (sections : List Section). All (RefersUpTo (length sections)) c.in_ok-book.book.sec_names)
    (sym (sections-are c)) (subst (All (RefersUpTo _)) (sym (sec_names-are c)) (all-refer c.args.web.now.lines _
    _ (tokens c) (all-rise c.args.web.now.lines (length (text_of _)) _ (numbered _ [] (answers_of c.args.web.now.lines))
    (unnamed _ [] (answers_of c.args.web.now.lines) (c.limbo_law.ensures (text_of c.args.web.now.lines) 0 _)))))

pub returns-clause-use_ids : goal.returns-clause-use_ids
returns-clause-use_ids c = subst (λ n. All (λ (u : NameUse). u.name < n) c.in_ok-book.book.name_uses)
    (sym c.in_ok-book.ensures.count) (subst
    (λ (us : List NameUse). All (λ (u : NameUse). u.name < length c.in_ok-held.held.kept) us) (sym (name_uses-are c))
    (uses-below _ _ (fits _ [] (answers_of c.args.web.now.lines)) (grind (arith, all-references))))

pub returns-clause-section_names : goal.returns-clause-section_names
returns-clause-section_names c = subst (λ (sections : List Section). All (IsNamedBy c.in_ok-book.book.name_uses)
    sections) (sym (sections-are c)) (subst (λ (us : List NameUse). All (IsNamedBy us)
    (sections_of c.args.web.now.lines (length (text_of c.args.web.now.lines)) (tokens c))) (sym (name_uses-are c))
    (all-named c.args.web.now.lines [] 0 (length (text_of c.args.web.now.lines)) (tokens c) (All-nil
    (λ (u : NameUse). u.place < 0)) (grind (arith, follows)) (fits at_limbo [] (answers_of c.args.web.now.lines))))

pub returns-clause-section_ids : goal.returns-clause-section_ids
returns-clause-section_ids c = named-below _ _ _ (returns-clause-use_ids c) (returns-clause-section_names c)

pub returns-clause-spans : goal.returns-clause-spans
returns-clause-spans c = subst (λ (sections : List Section). All (LiesIn (length (text_of c.args.web.now.lines)))
    sections) (sym (sections-are c)) (all-lie c.args.web.now.lines 0 _ (tokens c) (grind (arith, follows)))

pub returns-clause-limbo_span : goal.returns-clause-limbo_span
returns-clause-limbo_span c = subst (λ (limbo : Span). limbo.«end» ≤ length (text_of c.args.web.now.lines))
    (sym (limbo-is c)) (limbo-lies 0 _ (tokens c) (grind (arith, follows)))

pub returns-clause-texts : goal.returns-clause-texts
returns-clause-texts c = subst (λ (names : List SecName). All (λ (n : SecName).
    length n.text ≤ length (text_of c.args.web.now.lines)) names) (sym (sec_names-are c)) (grind (arith, all-short))
