-- The plain text of a C part of simple tokens is scanned as these tokens.
use Rattle.cw_plain_laws.proofs.Terms.{◌≡◌, ℕ, true, false, List, [], ◌∷◌, Option, is_some, refl, sym, ap, subst, ◌∙◌}
use Rattle.cw_plain_laws.proofs.Terms.{c-texts-nested, tokens_of, Other, Run, Stretch, stretches, with_move, Piece}
use Rattle.cw_plain_laws.proofs.Terms.{Word, Part, Ending, Opening, Closing, Move, Nothing, PlainSource, found_placed}
use Rattle.cw_plain_laws.proofs.Terms.{number_placed, outside, pieces, token_placed, text_source, text_tree}
use Rattle.cw_plain_laws.proofs.Terms.{AreSimpleTokens, BeginsBefore, PlainScansAgain, is_program, is_simple}
use Rattle.cw_plain_laws.proofs.Terms.{all_unplaced, begins_section_in, is_section_kind, or-false, translated-shown}
use Rattle.cw_plain_laws.proofs.Terms.{Answer, Token, Begin, Finish, Note, Seen, CPart, TokKind, name_texts, flat}
use Rattle.cw_plain_laws.proofs.Terms.{trimmed_items, Control}
use Rattle.cw_plain_laws.proofs.{Again.IsAloneText, Again.alone_token, AloneTokens.AreAlone, AloneTokens.IsOutside}
use Rattle.cw_plain_laws.proofs.AloneTokens.{part-alone}
use Rattle.cw_plain_laws.proofs.{OwnInks.AreOwn, OwnInks.pieces-own, OwnInks.walked-owners, Simple.AreSimple}
use Rattle.cw_plain_laws.proofs.{Simple.all_words, SpacedLaws.plain-again, TranslatedWalks.text-walks, Walks.owners}
use Rattle.cw_plain_laws.proofs.BareTrees.{AreUnbarred, bare-pieces, part-bare, part-shown, starts_of}
use Rattle.cw_plain_laws.proofs.FoundTokens.{AllTokens, IsFound, tokens-found}
use Rattle.cw_rules.specs.declared.codes.Code.TheVariants as code
use Rattle.cw_rules.specs.declared.tokens.TokKind.TheVariants as kind

-- ## Pieces of simple tokens

-- The pieces are simple, and their words are the tokens.
record AreWords (ps : List Piece) (tokens : List Answer) : Type 0 where
  simple : AreSimple (stretches ps)
  words : all_words (stretches ps) simple ≡ all_unplaced tokens

move-simple : (c : Control) (ss : List Stretch) → AreSimple ss → AreSimple (with_move c ss)
move-simple c [] are = (tt, tt)
move-simple c (Run run ∷ ss) are = are
move-simple c (Other p ∷ ss) are = (tt, are)

move-words : (c : Control) (ss : List Stretch) (are : AreSimple ss)
    → all_words (with_move c ss) (move-simple c ss are) ≡ all_words ss are
unfolding move-simple
move-words c [] are = refl
move-words c (Run run ∷ ss) are = refl
move-words c (Other p ∷ ss) are = refl

simple-placed : (number : ℕ) (title : Option (List ℕ)) (k : TokKind) (text : List ℕ) → is_simple k ≡ true
    → (token_placed number title k text outside).piece ≡ Word number text
simple-placed number title kind.Identifier text is = refl
simple-placed number title kind.Constant text is = refl
simple-placed number title kind.Quoted text is = refl
simple-placed number title (kind.Code code.Quote) text is = refl
simple-placed number title (kind.Sign sign) text is = refl
simple-placed number title _ text is = absurd cc

number-word : (s : PlainSource) (t : Seen) → IsFound s.answers t → is_simple t.kind ≡ true
    → (number_placed s t.span.start outside).piece ≡ Word t.span.start t.text
number-word s t found is =
    let n = t.span.start in
    ap (λ o. (found_placed n (s.titles n) o outside).piece) found ∙ simple-placed n (s.titles n) t.kind t.text is

word-bytes : (n m : ℕ) (xs ys : List ℕ) → Word n xs ≡ Word m ys → xs ≡ ys
word-bytes n m xs ys e = cc

no-part : (n m : ℕ) (xs ys : List ℕ) → Part n xs ≡ Word m ys → ⊥
no-part n m xs ys e = cc

-- a word that is one token, before others
record WordFirst (n : ℕ) (k : TokKind) (bytes : List ℕ) (ss : List Stretch) (are : AreSimple ss) : Type 0 where
  simple : AreSimple (Other (Word n bytes) ∷ ss)
  words : all_words (Other (Word n bytes) ∷ ss) simple ≡ alone_token k bytes ∷ all_words ss are

simple-word : (n : ℕ) (k : TokKind) (bytes : List ℕ) (ss : List Stretch) (are : AreSimple ss) → IsAloneText k bytes
    → WordFirst n k bytes ss are
simple-word n k [] ss are alone = absurd alone
simple-word n k (b ∷ bytes) ss are alone = record { simple = ((k, alone), are); words = refl }

first-number : (n m : ℕ) (ns ms : List ℕ) → n ∷ ns ≡ m ∷ ms → (n ≡ m) × (ns ≡ ms)
first-number n m ns ms e = (cc, cc)

a-word : (s : PlainSource) (n : ℕ) (bytes : List ℕ) (ps : List Piece) (t : Seen) (answers : List Answer) → n
    ≡ t.span.start
    → Word n bytes ≡ (number_placed s n outside).piece → is_simple t.kind ≡ true → IsAloneText t.kind t.text
    → IsOutside t → IsFound s.answers t → AreWords ps answers → AreWords (Word n bytes ∷ ps) (Token t ∷ answers)
a-word s n bytes ps t answers e own is alone line found rest =
    let same : bytes ≡ t.text = word-bytes n t.span.start bytes t.text
    (own ∙ ap (λ m. (number_placed s m outside).piece) e ∙ number-word s t found is) in
    let w = simple-word n t.kind bytes (stretches ps) rest.simple (subst (IsAloneText t.kind) (sym same) alone) in
    record {
      simple = w.simple;
      words = w.words ∙ (λ i. Token (record {
        kind = t.kind;
        text = same i;
        span = record { start = 0; end = 0 };
        hash_line = sym line.0 i;
        directive = sym line.1 i;
      }) ∷ rest.words i);
    }

words-are : (s : PlainSource) (ps : List Piece) (answers : List Answer) → AreOwn s ps → AreUnbarred ps
    → owners ps ≡ starts_of answers → AreSimpleTokens answers → AreAlone answers
    → AllTokens (IsFound s.answers) answers → AreWords ps answers
words-are s [] [] own free numbers are alone found = record { simple = tt; words = refl }
words-are s [] (Token t ∷ answers) own free numbers are alone found = absurd cc
words-are s ps (Begin t ∷ answers) own free numbers are alone found = absurd are
words-are s ps (Finish t ∷ answers) own free numbers are alone found = absurd are
words-are s ps (Note kind place ∷ answers) own free numbers are alone found = absurd are
words-are s (Word n bytes ∷ ps) [] own free numbers are alone found = absurd cc
words-are s (Word n bytes ∷ ps) (Token t ∷ answers) own free numbers are alone found =
    let e = first-number n t.span.start (owners ps) (starts_of answers) numbers in
    a-word s n bytes ps t answers e.0 own.0 are.0 alone.0 alone.1 found.0
    (words-are s ps answers own.1 free.1 e.1 are.1 alone.2 found.1)
words-are s (Part n bytes ∷ ps) [] own free numbers are alone found = absurd cc
words-are s (Part n bytes ∷ ps) (Token t ∷ answers) own free numbers are alone found =
    let e = first-number n t.span.start (owners ps) (starts_of answers) numbers in
    absurd (no-part n t.span.start bytes t.text
    (own.0 ∙ ap (λ m. (number_placed s m outside).piece) e.0 ∙ number-word s t found.0 are.0))
words-are s (Ending bytes ∷ ps) answers own free numbers are alone found = absurd free.0
words-are s (Opening ∷ ps) answers own free numbers are alone found = absurd free.0
words-are s (Closing ∷ ps) answers own free numbers are alone found = absurd free.0
words-are s (Move c ∷ ps) answers own free numbers are alone found =
    let rest = words-are s ps answers own.1 free.1 numbers are alone found in
    record {
      simple = move-simple c (stretches ps) rest.simple;
      words = move-words c (stretches ps) rest.simple ∙ rest.words;
    }
words-are s (Nothing ∷ ps) answers own free numbers are alone found =
    let rest = words-are s ps answers own.1 free.1 numbers are alone found in
    record { simple = (tt, rest.simple); words = rest.words }

-- ## The whole part

rest-found : (P : Seen → Type 0) (answers rest : List Answer) → BeginsBefore rest answers → AllTokens P answers
    → AllTokens P rest
rest-found P [] rest begun all = absurd begun
rest-found P (Token t ∷ answers) rest begun all = subst (AllTokens P) begun.1 all.1
rest-found P (Begin t ∷ answers) rest begun all = absurd begun
rest-found P (Finish t ∷ answers) rest begun all = absurd begun
rest-found P (Note kind place ∷ answers) rest begun all = absurd begun

-- no section code stands in it
simple-no-section : (k : TokKind) → is_simple k ≡ true → is_section_kind k ≡ false
simple-no-section (kind.Code code.Section) e = absurd cc
simple-no-section (kind.Code code.StarredSection) e = absurd cc
simple-no-section (kind.Code code.Quote) e = refl
simple-no-section _ e = refl

program-no-section : (k : TokKind) → is_program k ≡ true → is_section_kind k ≡ false
program-no-section (kind.Code code.Program) e = refl
program-no-section _ e = absurd cc

simple-uncut : (answers : List Answer) → AreSimpleTokens answers → begins_section_in answers ≡ false
simple-uncut [] are = refl
simple-uncut (Token t ∷ answers) are = or-false (is_section_kind t.kind) (begins_section_in answers)
    (simple-no-section t.kind are.0) (simple-uncut answers are.1)
simple-uncut (Begin t ∷ answers) are = absurd are
simple-uncut (Finish t ∷ answers) are = absurd are
simple-uncut (Note kind place ∷ answers) are = absurd are

part-uncut : (answers rest : List Answer) → BeginsBefore rest answers → AreSimpleTokens rest
    → begins_section_in answers ≡ false
part-uncut [] rest begun are = absurd begun
part-uncut (Token t ∷ answers) rest begun are = or-false (is_section_kind t.kind) (begins_section_in answers)
    (program-no-section t.kind begun.0) (ap begins_section_in begun.1 ∙ simple-uncut rest are)
part-uncut (Begin t ∷ answers) rest begun are = absurd begun
part-uncut (Finish t ∷ answers) rest begun are = absurd begun
part-uncut (Note kind place ∷ answers) rest begun are = absurd begun

pub plain-scans-again : PlainScansAgain
plain-scans-again flags kept uses text span names marks rest begun are =
    let answers = tokens_of text span.start span.end CPart in
    let named = name_texts kept uses in
    let s = text_source kept uses text span CPart in
    let uncut = part-uncut answers rest begun are in
    let tree = text_tree flags kept uses text span CPart names marks in
    let ps = pieces s (trimmed_items (flat tree)) in
    let walks = text-walks flags kept uses text span CPart names marks refl uncut in
    let numbers : owners ps ≡ starts_of rest = walked-owners s tree walks
    ∙ translated-shown flags named answers names marks (c-texts-nested text span.start span.end CPart refl uncut)
    ∙ part-shown (λ number. is_some (named number)) answers rest begun are in
    let w = words-are s ps rest (pieces-own s (trimmed_items (flat tree)) outside) (bare-pieces s tree outside
    (part-bare flags named answers names marks rest begun are)) numbers are (part-alone text span.start span.end rest
    begun are) (rest-found (IsFound s.answers) answers rest begun (tokens-found text span.start span.end CPart)) in
    plain-again ps w.simple ∙ w.words
