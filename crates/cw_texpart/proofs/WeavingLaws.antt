-- Pieces of a book are woven one after another.
use Rattle.cw_texpart.proofs.Terms.{◌≡◌, ℕ, ◌+◌, ◌≤◌, Bool, true, false, refl, sym, ap, ◌∙◌, subst, List, [], ◌∷◌, ◌++◌}
use Rattle.cw_texpart.proofs.Terms.{append_assoc, arith, Result, Ok, Err, IfOk, IsErrAnd, Option, Some, None}
use Rattle.cw_texpart.proofs.Terms.{append-nil, Span, DeskState, Inner, LineState, HasPut, Puts, puts-bytes}
use Rattle.cw_texpart.proofs.Terms.{puts-failing, puts-none, puts-stop, puts-then, puts-nothing, PutError, Memory}
use Rattle.cw_texpart.proofs.Terms.{Entry, Occurrence, Section, Counts, Done, joined_done, as_it_is, reprinted}
use Rattle.cw_texpart.proofs.Terms.{section_number, head, head_by, printed_depth, Ink, end_if, laid, prints, held}
use Rattle.cw_texpart.proofs.Terms.{held_behind, holds_bytes, inked, piece_is, piece_done, pieces_done, head_and_tex}
use Rattle.cw_texpart.proofs.Terms.{TexPiece, Setting, lasting, text_done, Press, Weaves, underlined}
use Rattle.std.specs.Option.{option_map, option_map_or}
use Rattle.cw_translator.specs.Counting.{limit_in, productions_in, scraps_in, ticks_in}
use Rattle.cw_texts.specs.declared.pieces.Piece.{Piece}
use Rattle.cw_press.proofs.WeavingLaws.{joined-joined, limit-append, productions-append, scraps-append, ticks-append}
use Rattle.cw_press.proofs.WeavingLaws.{underlined-append, underlined-none, weaves-as, weaves-put, weaves-refused}
use Rattle.cw_texpart.proofs.LayingLaws.{Inking, as-put, held_behind-append, inks-then, inked-prints, laid-append}
use Rattle.cw_texpart.proofs.LayingLaws.{lays-ended, lays-stopped}

-- bytes of a C text, as inks
pub weaves-printed : {s : Setting} {d : Done ℕ} {old new : Press} {result : Result Counts PutError} (holds : Bool)
    → Weaves s d old new result → Weaves s (reprinted (inked holds) (reprinted prints d)) old new result
weaves-printed {d = d} holds woven =
    weaves-as (ap (λ (out : List ℕ). reprinted (λ (old : List ℕ). out) d) (sym (inked-prints holds d.out))) woven

-- ## Pieces of a TeX part

-- the same piece
pub weaves-piece : {s : Setting} {old new : Press} {result : Result Counts PutError} {piece piece' : Piece}
    (holds : Bool) (names : List Entry) → piece ≡ piece'
    → Weaves s (reprinted (inked holds) (piece_done s (piece_is piece') names)) old new result
    → Weaves s (reprinted (inked holds) (piece_done s (piece_is piece) names)) old new result
weaves-piece {s = s} holds names is =
    weaves-as (ap (λ (p : Piece). reprinted (inked holds) (piece_done s (piece_is p) names)) (sym is))

-- Pieces were woven, and with those that are still to be woven they are all. So many scraps and productions were
-- counted.
pub record Weaving (s : Setting) (rest : List TexPiece) (all : Done Ink) (old new : Press)
    (scraps prods : ℕ) : Type 0 where
  pub done : Done Ink
  pub put : HasPut (inked (holds_bytes old.line) done.out) old.line new.line old.told new.told
  pub names : new.book.names ≡ done.names
  pub occurrences : new.book.xrefs ≡ old.book.xrefs ++ underlined s.section done.marks
  pub same : lasting new.book ≡ lasting old.book
  pub scraps_are : scraps ≡ scraps_in done.ended
  pub productions_are : prods ≡ productions_in s.flags done.ended
  pub steps_are : new.steps ≡ old.steps + ticks_in s.flags done.ended
  pub bound : new.steps ≤ old.steps + limit_in s.flags done.ended
  pub goes : joined_done done (pieces_done s rest done.names) ≡ all

pub weaving-begun : (s : Setting) (pieces : List TexPiece) (press : Press)
    → Weaving s pieces (pieces_done s pieces press.book.names) press press 0 0
weaving-begun s pieces press = record {
  done = as_it_is [] press.book.names;
  put = puts-none press.line press.told (tt {0});
  names = refl;
  occurrences = sym (append-nil press.book.xrefs)
      ∙ ap (λ (os : List Occurrence). press.book.xrefs ++ os) (sym (underlined-none s.section));
  same = refl;
  scraps_are = refl;
  productions_are = refl;
  steps_are = omega arith;
  bound = omega arith;
  goes = refl;
}

-- the same pieces, still to be woven
pub weaving-as : {s : Setting} {rest rest' : List TexPiece} {all : Done Ink} {old new : Press} {scraps prods : ℕ}
    → rest ≡ rest' → Weaving s rest all old new scraps prods → Weaving s rest' all old new scraps prods
weaving-as is w = rw (← is) w

-- the next piece, from the names that the pieces before it leave
abbrev next_piece : Setting → TexPiece → Press → Done Ink
next_piece s piece now = piece_done s piece now.book.names

piece-is : {s : Setting} {piece : TexPiece} {rest : List TexPiece} {all : Done Ink} {old mid : Press} {scraps prods : ℕ}
    (w : Weaving s (piece ∷ rest) all old mid scraps prods) → next_piece s piece mid ≡ piece_done s piece w.done.names
piece-is {s = s} {piece = piece} w = ap (piece_done s piece) w.names

goes-on : {s : Setting} {piece : TexPiece} {rest : List TexPiece} {all : Done Ink} {old mid : Press} {scraps prods : ℕ}
    (w : Weaving s (piece ∷ rest) all old mid scraps prods) → joined_done w.done
    (joined_done (next_piece s piece mid) (pieces_done s rest (next_piece s piece mid).names)) ≡ all
goes-on w = grind (arith, piece-is w)

pub weaving-next : {s : Setting} {piece : TexPiece} {rest : List TexPiece} {all : Done Ink} {old mid new : Press}
    {scraps prods : ℕ} {more : Counts} → Weaving s (piece ∷ rest) all old mid scraps prods
    → Weaves s (reprinted (inked (holds_bytes mid.line)) (piece_done s piece mid.book.names)) mid new (Ok more)
    → Weaving s rest all old new (scraps + more.scraps) (prods + more.productions)
weaving-next {s = s} {piece = piece} {rest = rest} {all = all} {old = old} {mid = mid} {new = new} {scraps = scraps}
    {prods = prods} {more = more} w woven =
    let d : Done Ink = next_piece s piece mid in
    record {
      done = joined_done w.done d;
      put = as-put (inks-then w.done.out d.out w.put woven.puts);
      names = woven.names;
      occurrences = woven.occurrences ∙ ap (λ (os : List Occurrence). os ++ underlined s.section d.marks) w.occurrences
          ∙ append_assoc old.book.xrefs (underlined s.section w.done.marks) (underlined s.section d.marks) ∙ ap
          (λ (os : List Occurrence). old.book.xrefs ++ os) (sym (underlined-append s.section w.done.marks d.marks));
      same = woven.same ∙ w.same;
      scraps_are = omega (arith, w.scraps_are, woven.scraps, (scraps-append w.done.ended d.ended));
      productions_are = omega (
        arith,
        w.productions_are,
        woven.productions,
        (productions-append s.flags w.done.ended d.ended),
      );
      steps_are = omega (arith, w.steps_are, woven.steps_are, (ticks-append s.flags w.done.ended d.ended));
      bound = omega (arith, w.bound, woven.bound, (limit-append s.flags w.done.ended d.ended));
      goes = joined-joined w.done d (pieces_done s rest d.names) ∙ goes-on w;
    }

-- A piece is refused.
pub weaving-stopped : {s : Setting} {piece : TexPiece} {rest : List TexPiece} {all : Done Ink} {old mid new : Press}
    {scraps prods : ℕ} {error : PutError} {result : Result Counts PutError}
    → Weaving s (piece ∷ rest) all old mid scraps prods
    → Weaves s (reprinted (inked (holds_bytes mid.line)) (piece_done s piece mid.book.names)) mid new (Err error)
    → IsErrAnd result (λ found. found ≡ error) → Weaves s (reprinted (laid (holds_bytes old.line)) all) old new result
weaving-stopped {s = s} {piece = piece} {rest = rest} {all = all} {old = old} {mid = mid} {new = new} w woven is =
    let d : Done Ink = next_piece s piece mid in
    let later : Done Ink = pieces_done s rest d.names in
    let inking : Inking (d.out ++ later.out) all.out old.line mid.line old.told mid.told = record
    { done = w.done.out; put = w.put; goes = ap (λ (a : Done Ink). a.out) (goes-on w) } in
    let ended : w.done.ended ++ (d.ended ++ later.ended) ≡ all.ended = ap (λ (a : Done Ink). a.ended) (goes-on w) in
    weaves-refused _ (lays-stopped d.out later.out inking woven.puts is) (woven.same ∙ w.same)
    (let a : mid.steps ≤ old.steps + limit_in s.flags w.done.ended = w.bound in let b : new.steps ≤ mid.steps + limit_in
    s.flags d.ended = woven.bound in let c : limit_in s.flags (w.done.ended ++ (d.ended ++ later.ended)) ≡ limit_in
    s.flags w.done.ended + limit_in s.flags (d.ended ++ later.ended) = limit-append s.flags w.done.ended
    (d.ended ++ later.ended) in let f : limit_in s.flags (d.ended ++ later.ended) ≡ limit_in s.flags d.ended + limit_in
    s.flags later.ended = limit-append s.flags d.ended later.ended in let e : limit_in s.flags (w.done.ended ++ (d.ended
    ++ later.ended)) ≡ limit_in s.flags all.ended = ap (limit_in s.flags) ended in omega (arith, a, b, c, e, f)) is

-- Memory is wanted between two pieces.
pub weaving-refused : {s : Setting} {rest : List TexPiece} {all : Done Ink} {old now : Press} {scraps prods : ℕ}
    {result : Result Counts PutError} → Weaving s rest all old now scraps prods
    → IsErrAnd result (λ found. found ≡ Memory) → Weaves s (reprinted (laid (holds_bytes old.line)) all) old now result
weaving-refused {s = s} {rest = rest} {all = all} {old = old} {now = now} w is =
    let later : Done Ink = pieces_done s rest w.done.names in
    let holds : Bool = holds_bytes old.line in
    weaves-refused Memory (puts-bytes (sym (laid-append holds w.done.out later.out) ∙ ap (λ (a : Done Ink). laid holds
    a.out) w.goes) (puts-then w.put (puts-nothing (laid (held holds w.done.out) later.out) now.line now.told is)))
    w.same (let a : now.steps ≤ old.steps + limit_in s.flags w.done.ended = w.bound in let c : limit_in s.flags
    (w.done.ended ++ later.ended) ≡ limit_in s.flags w.done.ended + limit_in s.flags later.ended = limit-append s.flags
    w.done.ended later.ended in let e : limit_in s.flags (w.done.ended ++ later.ended) ≡ limit_in s.flags all.ended = ap
    (limit_in s.flags) (ap (λ (a : Done Ink). a.ended) w.goes) in omega (arith, a, c, e)) is

-- All are woven, and their last line is ended where it holds bytes.
all-done : {s : Setting} {all : Done Ink} {old now : Press} {scraps prods : ℕ}
    (w : Weaving s [] all old now scraps prods) → w.done ≡ all
all-done w = (λ i. record {
  out = sym (append-nil w.done.out) i;
  names = w.done.names;
  marks = sym (append-nil w.done.marks) i;
  ended = sym (append-nil w.done.ended) i;
}) ∙ w.goes

inking-all : {s : Setting} {all : Done Ink} {old now : Press} {scraps prods : ℕ}
    → Weaving s [] all old now scraps prods → Inking [] all.out old.line now.line old.told now.told
inking-all w = record
    { done = w.done.out; put = w.put; goes = append-nil w.done.out ∙ ap (λ (a : Done Ink). a.out) (all-done w) }

pub weaving-ended : {T : Type 0} {s : Setting} {all : Done Ink} {old now : Press} {line : LineState} {told : DeskState}
    {counts : Counts} {value : T} → Weaving s [] all old now counts.scraps counts.productions → Puts {T = T} (end_if
    (holds_bytes now.line)) now.line line now.told told (Ok value) → Weaves s (reprinted (laid (holds_bytes old.line))
    all) old (record { book = now.book; line = line; told = told; steps = now.steps }) (Ok counts)
weaving-ended {s = s} {all = all} {old = old} {now = now} {line = line} {told = told} {counts = counts} w put =
    let d : w.done ≡ all = all-done w in
    record {
      puts = puts-bytes (append-nil _) (puts-then (lays-ended (inking-all w) put) (puts-none line told counts));
      names = w.names ∙ ap (λ (a : Done Ink). a.names) d;
      occurrences = w.occurrences ∙ ap (λ (a : Done Ink). old.book.xrefs ++ underlined s.section a.marks) d;
      same = w.same;
      scraps = w.scraps_are ∙ ap (λ (a : Done Ink). scraps_in a.ended) d;
      productions = w.productions_are ∙ ap (λ (a : Done Ink). productions_in s.flags a.ended) d;
      steps_are = w.steps_are ∙ ap (λ (a : Done Ink). old.steps + ticks_in s.flags a.ended) d;
      bound = subst (λ (a : Done Ink). now.steps ≤ old.steps + limit_in s.flags a.ended) d w.bound;
    }

pub weaving-end-refused : {T : Type 0} {s : Setting} {all : Done Ink} {old now : Press} {scraps prods : ℕ}
    {line : LineState} {told : DeskState} {error : PutError} {result : Result Counts PutError}
    → Weaving s [] all old now
    scraps prods → Puts {T = T} (end_if (holds_bytes now.line)) now.line line now.told told (Err error)
    → IsErrAnd result (λ found. found ≡ error) → Weaves s (reprinted (laid (holds_bytes old.line)) all) old
    (record { book = now.book; line = line; told = told; steps = now.steps }) result
weaving-end-refused {s = s} {all = all} {old = old} {now = now} w put is =
    weaves-refused _ (puts-bytes (append-nil _) (puts-stop [] (lays-ended (inking-all w) put) is)) w.same
    (subst (λ (a : Done Ink). now.steps ≤ old.steps + limit_in s.flags a.ended) (all-done w) w.bound) is

-- the same, with numbers that are equal
pub weaving-counts : {s : Setting} {rest : List TexPiece} {all : Done Ink} {old now : Press}
    {scraps prods scraps' prods' : ℕ} → scraps' ≡ scraps → prods' ≡ prods
    → Weaving s rest all old now scraps prods → Weaving s rest all old now scraps' prods'
weaving-counts a b w = rw (a, b) w

-- what is copied
pub weaves-plain : {s : Setting} (xs : List Ink) {old : Press} {line : LineState} {told : DeskState}
    (result : Result Counts PutError) → Puts (inked (holds_bytes old.line) xs) old.line line old.told told result
    → IfOk result (λ counts. counts.scraps ≡ 0) → IfOk result (λ counts. counts.productions ≡ 0)
    → Weaves s (reprinted (inked (holds_bytes old.line)) (as_it_is xs old.book.names)) old
    (record { book = old.book; line = line; told = told; steps = old.steps }) result
weaves-plain xs {old = old} result puts scraps prods =
    weaves-put (inked (holds_bytes old.line) xs) result puts scraps prods

-- a section name that is ignored, and one that isn't
pub ignored : {X : Type 0} (f : ℕ → X) (s : Setting) (inner : Bool) (part : Span) (names : List Entry) (name : Option ℕ)
    → None ≡ option_map f name → option_map_or (λ _. text_done s Inner inner part names) name (as_it_is [] names)
    ≡ as_it_is [] names
ignored f s inner part names name is = grind arith

pub cited : {X : Type 0} (f : ℕ → X) (id : X) (s : Setting) (inner : Bool) (part : Span) (names : List Entry)
    (name : Option ℕ) → Some id ≡ option_map f name
    → text_done s Inner inner part names ≡ option_map_or (λ _. text_done s Inner inner part names) name (as_it_is []
    names)
cited f id s inner part names name is = grind arith

-- ## Heads

head-by-holds : (starred holds : Bool) (depth number : List ℕ) → held_behind holds (head_by starred depth number) ≡ true
head-by-holds starred holds depth number = grind (arith, held_behind-append)

-- A head is refused, whatever would have stood behind it.
pub head-refused : {T : Type 0} {s : Setting} (section : Section) (goes : Bool) (front : List ℕ) {old : Press}
    {line : LineState} {told : DeskState} {error : PutError} {result : Result Counts PutError}
    → Puts {T = T} front old.line
    line old.told told (Err error) → IsErrAnd result (λ found. found ≡ error) → Weaves s (head_and_tex goes front s
    section old.book.names) old (record { book = old.book; line = line; told = told; steps = old.steps }) result
head-refused section true front puts is = weaves-refused _ (puts-stop _ puts is) refl (omega arith) is
head-refused section false front puts is = weaves-refused _ (puts-failing refl puts is) refl (omega arith) is

-- behind a head the line holds bytes
pub head-holds : (holds ranged : Bool) (text : List ℕ) (n : ℕ) (section : Section)
    → held_behind holds (head ranged text n section) ≡ true
head-holds holds ranged text n section =
    head-by-holds section.starred holds (printed_depth ranged text section.depth) (section_number n section.changed)
