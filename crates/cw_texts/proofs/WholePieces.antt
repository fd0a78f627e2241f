-- The C texts in a TeX part are whole.
use Rattle.cw_texts.proofs.Terms.{◌≡◌, ℕ, zero, suc, ◌+◌, ◌<◌, ◌≤◌, true, false, List, [], ◌∷◌, ◌++◌, Option, Some}
use Rattle.cw_texts.proofs.Terms.{None, All, length, take, refl, sym, ap, subst, ◌∙◌, arith, ◌⊎◌, inl, inr, drop_all}
use Rattle.cw_texts.proofs.Terms.{length-take, take-take, All-nil, All-cons, All-weaker, Span, TokKind, Answer, Token}
use Rattle.cw_texts.proofs.Terms.{Begin, Finish, Note, Seen, has_sign, answers, answers_at, beginning, fresh_at}
use Rattle.cw_texts.proofs.Terms.{last_at, tokens_of, is_some, TexPiece, Copied, InnerText, Cited, token_piece}
use Rattle.cw_texts.proofs.Terms.{tex_pieces, tex_pieces_of, IsWhole, IsWholePiece}
use Rattle.std.proofs.lemmas.Bool.{cases_lt}
use Rattle.cw_base.proofs.TestLaws.{one-failed-left, one-failed-right}
use Rattle.cw_rules.proofs.Choices.{or-false}
use Rattle.cw_lex.specs.Limbo.{is_name_kind}
use Rattle.cw_lex.specs.Nested.{Level, InCode, InComment, after_token, after_begin, after_finish, levels_after}
use Rattle.cw_lex.specs.Nested.{all_levels_after, is_section_kind, begins_section_in, CTextsAreNested}
use Rattle.cw_lex.specs.Openings.{opened_by, opens_part_before, opens_part_in}
use Rattle.cw_lex.specs.model.TexTexts.{tex_at, are_notes, GoesOn, HoldsInner, TexTextsGoOn}
use Rattle.cw_phase1.specs.Sections.{span}
use Rattle.cw_texts.specs.model.WholePieces.{PiecesAreWhole, TexPartsAreWhole}
use Rattle.cw_rules.specs.declared.tokens.Mode.TheVariants as modes
use Rattle.cw_rules.specs.declared.tokens.TokKind.TheVariants as kinds

-- ## Answers in which no part begins

token-rest : (more : List Answer) (t : Seen) (answers : List Answer) → opens_part_before more (Token t ∷ answers) ≡
    false → opens_part_before more answers ≡ false
token-rest more t answers h = one-failed-right (is_some (opened_by t.kind (has_sign (answers ++ more))))
    (opens_part_before more answers) (one-failed-right (is_section_kind t.kind) _ h)

opens-right : (more xs ys : List Answer) → opens_part_before more (xs ++ ys) ≡ false → opens_part_before more ys ≡ false
opens-right more [] ys h = h
opens-right more (Token t ∷ xs) ys h = opens-right more xs ys (token-rest more t (xs ++ ys) h)
opens-right more (Begin t ∷ xs) ys h = opens-right more xs ys h
opens-right more (Finish t ∷ xs) ys h = opens-right more xs ys h
opens-right more (Note kind place ∷ xs) ys h = opens-right more xs ys h

uncut-left : (more xs ys : List Answer) → opens_part_before more (xs ++ ys) ≡ false → begins_section_in xs ≡ false
uncut-left more [] ys h = refl
uncut-left more (Token t ∷ xs) ys h = or-false (is_section_kind t.kind) (begins_section_in xs)
    (one-failed-left (is_section_kind t.kind) _ h) (uncut-left more xs ys (token-rest more t (xs ++ ys) h))
uncut-left more (Begin t ∷ xs) ys h = uncut-left more xs ys h
uncut-left more (Finish t ∷ xs) ys h = uncut-left more xs ys h
uncut-left more (Note kind place ∷ xs) ys h = uncut-left more xs ys h

-- ## Pieces behind notes and behind nested answers

notes-pieces : (start : ℕ) (ns xs : List Answer) → are_notes ns ≡ true → tex_pieces zero start (ns ++ xs) ≡
    tex_pieces zero start xs
notes-pieces start [] xs h = refl
notes-pieces start (Token t ∷ ns) xs h = absurd cc
notes-pieces start (Begin t ∷ ns) xs h = absurd cc
notes-pieces start (Finish t ∷ ns) xs h = absurd cc
notes-pieces start (Note kind place ∷ ns) xs h = notes-pieces start ns xs h

no-pieces : (start : ℕ) (ns : List Answer) → are_notes ns ≡ true → tex_pieces zero start ns ≡ []
no-pieces start [] h = refl
no-pieces start (Token t ∷ ns) h = absurd cc
no-pieces start (Begin t ∷ ns) h = absurd cc
no-pieces start (Finish t ∷ ns) h = absurd cc
no-pieces start (Note kind place ∷ ns) h = no-pieces start ns h

-- the levels behind one answer, where there are levels before it
record Goes (a : Answer) (xs : List Answer) (ls ms : List Level) : Type 0 where
  next : List Level
  one : levels_after a ls ≡ Some next
  rest : all_levels_after xs next ≡ Some ms

goes : (a : Answer) (xs : List Answer) (ls ms : List Level) → all_levels_after (a ∷ xs) ls ≡ Some ms → Goes a xs ls ms
goes a xs ls ms h = by (levels_after a ls) refl
  where
    by : (o : Option (List Level)) → levels_after a ls ≡ o → Goes a xs ls ms
    by None e = absurd (let k : ◌≡◌ {A = Option (List Level)} None (Some ms) = sym
        (ap (λ (o : Option (List Level)). elim o [ None ↦ None | Some next ↦ all_levels_after xs next ]) e) ∙ h in cc)
    by (Some next) e = record {
      next = next;
      one = e;
      rest = sym (ap (λ (o : Option (List Level)). elim o [ None ↦ None | Some next ↦ all_levels_after xs next ]) e)
          ∙ h;
    }

some-is : (a b : List Level) → ◌≡◌ {A = Option (List Level)} (Some a) (Some b) → a ≡ b
some-is a b e = cc

none-not : (b : List Level) → ◌≡◌ {A = Option (List Level)} None (Some b) → ⊥
none-not b e = cc

token-same : (k : TokKind) (l : Level) (ls next : List Level) → after_token k (l ∷ ls) ≡ Some next → next ≡ l ∷ ls
token-same k l ls next e = grind arith

begin-more : (k : TokKind) (l : Level) (ls next : List Level) → after_begin k (l ∷ ls) ≡ Some next → (m : Level) ×
    (next ≡ m ∷ l ∷ ls)
begin-more kinds.InnerText InComment ls next e = (InCode, sym (some-is (InCode ∷ InComment ∷ ls) next e))
begin-more kinds.LongComment InCode ls next e = (InComment, sym (some-is (InComment ∷ InCode ∷ ls) next e))
begin-more kinds.ShortComment InCode ls next e = (InComment, sym (some-is (InComment ∷ InCode ∷ ls) next e))
begin-more _ _ _ next e = absurd (none-not next e)

finish-less : (l : Level) (ls next : List Level) → after_finish (l ∷ ls) ≡ Some next → ls ≡ next
finish-less l ls next e = grind arith

finish-two : (l : Level) (next : List Level) → after_finish (l ∷ []) ≡ Some next → ⊥
finish-two l next e = grind arith

nested-pieces : (start : ℕ) (xs ys : List Answer) (l : Level) (ls ms : List Level) → all_levels_after xs (l ∷ ls) ≡
    Some ms → tex_pieces (length (l ∷ ls)) start (xs ++ ys) ≡ tex_pieces (length ms) start ys
nested-pieces start [] ys l ls ms h = ap (λ (ls : List Level). tex_pieces (length ls) start ys) (some-is (l ∷ ls) ms h)
nested-pieces start (Token t ∷ xs) ys l ls ms h =
    let g = goes (Token t) xs (l ∷ ls) ms h in
    nested-pieces start xs ys l ls ms (ap (all_levels_after xs) (sym (token-same t.kind l ls g.next g.one)) ∙ g.rest)
nested-pieces start (Begin t ∷ xs) ys l ls ms h =
    let g = goes (Begin t) xs (l ∷ ls) ms h in
    let m = begin-more t.kind l ls g.next g.one in
    nested-pieces start xs ys m.0 (l ∷ ls) ms (ap (all_levels_after xs) (sym m.1) ∙ g.rest)
nested-pieces start (Finish t ∷ xs) ys l [] ms h = let g = goes (Finish t) xs (l ∷ []) ms h in absurd
    (finish-two l g.next g.one)
nested-pieces start (Finish t ∷ xs) ys l (m ∷ ls) ms h =
    let g = goes (Finish t) xs (l ∷ m ∷ ls) ms h in
    nested-pieces start xs ys m ls ms (ap (all_levels_after xs) (finish-less l (m ∷ ls) g.next g.one) ∙ g.rest)
nested-pieces start (Note kind place ∷ xs) ys l ls ms h = nested-pieces start xs ys l ls ms h

-- ## The pieces of a text

-- what a token makes
token-whole : (text : List ℕ) (k : TokKind) (t : Seen) → t.kind ≡ k → (is_name_kind k ≡ true → IsWhole text t.span) →
    IsWholePiece text (token_piece k t)
token-whole text k t e h = grind arith

module _ (steps : TexTextsGoOn) (nested : CTextsAreNested) (text : List ℕ) where
  abbrev AreWhole : ℕ → List Answer → Type 0
  AreWhole start answers = All (IsWholePiece text) (tex_pieces zero start answers)

  at-end : (place : ℕ) → length text ≤ place → tex_at text place ≡ []
  at-end place h = ap (λ l. answers l (beginning modes.TexText) (fresh_at text place) (last_at text place) place 0)
      (drop_all place text h)

  pieces : (n place start : ℕ) → length text ≤ place + n → opens_part_in (tex_at text place) ≡ false →
      AreWhole start (tex_at text place)
  pieces zero place start h q = subst (AreWhole start) (sym (at-end place (omega (arith, h))))
      (All-nil (IsWholePiece text))
  pieces (suc n) place start h q = by (cases_lt place (length text)) (λ next start k r. pieces n next start k r)
    where
      by : (place < length text) ⊎ (length text ≤ place) → ((next start : ℕ) → length text ≤ next + n → opens_part_in
          (tex_at text next) ≡ false → AreWhole start (tex_at text next)) → AreWhole start (tex_at text place)
      by (inr end) rec = subst (AreWhole start) (sym (at-end place end)) (All-nil (IsWholePiece text))
      by (inl within) rec = piece (steps text place within q)
        where
          piece : GoesOn text place ⊎ HoldsInner text place → AreWhole start (tex_at text place)
          piece (inl g) =
              let t = g.token in
              let quiet : opens_part_in (tex_at text t.span.«end») ≡
              false = opens-right [] g.notes (tex_at text t.span.«end») (token-rest [] t (g.notes ++
              tex_at text t.span.«end») (ap opens_part_in (sym g.answers) ∙ q)) in
              let rest : AreWhole start (g.notes ++ tex_at text t.span.«end») = subst (All (IsWholePiece text))
              (sym (notes-pieces start g.notes (tex_at text t.span.«end») g.only))
              (rec t.span.«end» start (omega (arith, h, g.some)) quiet) in
              subst (AreWhole start) (sym g.answers)
              (All-cons (IsWholePiece text) (token_piece t.kind t) (tex_pieces zero start (g.notes ++
              tex_at text t.span.«end»))
              (token-whole text t.kind t refl (λ k. record {
                order = omega (arith, g.starts, g.some);
                within = g.within;
                uncut = g.name k;
              })) rest)
          piece (inr g) =
              let from = g.token.span.«end» in
              let to = g.finish.span.start in
              let inside = tokens_of text from to modes.Inner in
              let quiet : opens_part_in (inside ++ Finish g.finish ∷ g.rest) ≡ false = ap opens_part_in (sym g.answers)
              ∙ q in
              let uncut = uncut-left [] inside (Finish g.finish ∷ g.rest) quiet in
              let behind : opens_part_in g.rest ≡ false = opens-right [] inside (Finish g.finish ∷ g.rest) quiet in
              let all : tex_pieces zero start (tex_at text place) ≡ InnerText (span from to) ∷
              tex_pieces zero from g.rest =
              ap (tex_pieces zero start) g.answers ∙ nested-pieces from inside (Finish g.finish ∷ g.rest) InCode []
              (InCode ∷ []) (nested text from to modes.Inner refl uncut) in
              subst (All (IsWholePiece text)) (sym all)
              (All-cons (IsWholePiece text) (InnerText (span from to)) (tex_pieces zero from g.rest)
              (record { order = g.order; within = g.within; uncut = uncut }) (rest from g.goes_on behind))
            where
              rest : (from : ℕ) → (are_notes g.rest ≡ true) ⊎ (g.rest ≡ tex_at text (g.finish.span.start + 1)) →
                  opens_part_in g.rest ≡ false → AreWhole from g.rest
              rest from (inl notes) behind = subst (All (IsWholePiece text)) (sym (no-pieces from g.rest notes))
                  (All-nil (IsWholePiece text))
              rest from (inr on) behind = subst (AreWhole from) (sym on) (rec (g.finish.span.start + 1) from
                  (omega (arith, h, g.begins, g.order)) (ap opens_part_in (sym on) ∙ behind))

-- a part of the text's beginning is a part of the text
in-text : (text : List ℕ) (end : ℕ) (part : Span) → end ≤ length text → IsWhole (take end text) part → IsWhole text part
in-text text end part l w =
    let size : length (take end text) ≡ end = omega (arith, length-take end text, l) in
    let fits : part.«end» ≤ end = omega (arith, w.within, size) in
    record {
      order = w.order;
      within = omega (arith, fits, l);
      uncut = ap (λ t. begins_section_in (answers_at t (beginning modes.Inner) part.start))
          (sym (take-take part.«end» end text fits)) ∙ w.uncut;
    }

piece-in-text : (text : List ℕ) (end : ℕ) (piece : TexPiece) → end ≤ length text → IsWholePiece (take end text) piece →
    IsWholePiece text piece
piece-in-text text end (Copied token) l w = tt
piece-in-text text end (InnerText part) l w = in-text text end part l w
piece-in-text text end (Cited part) l w = in-text text end part l w

pub pieces-whole : TexTextsGoOn → CTextsAreNested → PiecesAreWhole
pieces-whole steps nested text part order within quiet =
    let cut = take part.«end» text in
    All-weaker (IsWholePiece cut) (IsWholePiece text) (λ piece w. piece-in-text text part.«end» piece within w)
    (tex_pieces_of text part) (pieces steps nested cut (length cut) part.start zero (omega arith) quiet)

pub tex-parts-whole : TexTextsGoOn → CTextsAreNested → TexPartsAreWhole
tex-parts-whole steps nested text section w =
    let lies = w.lies in
    pieces-whole steps nested text section.tex lies.tex
    (omega (arith, lies.tex_ends, lies.definitions, lies.definitions_end, lies.c_part, lies.within)) w.tex_alone
