-- The log of a web is written text by text.
use Rattle.cw_log.proofs.Terms.{◌≡◌, ℕ, zero, suc, ◌+◌, All, Some, Result, Ok, Err, List, [], ◌∷◌, ◌++◌, IsErrAnd, map}
use Rattle.cw_log.proofs.Terms.{take, slice_get, refl, sym, ◌∙◌, ap, subst, arith, append_assoc, flat_map}
use Rattle.cw_log.proofs.Terms.{flat_map-append, append-nil, take_all, Flags, EndedText, TextSource, text_ended}
use Rattle.cw_log.proofs.Terms.{TextLog, item_of, production_of, PutError, block_of, Block, block_lines, ended}
use Rattle.cw_log.proofs.Terms.{log_lines, log_text, Entry, WatchState as Recorded, Production, log, productions, State}
use Rattle.cw_log.proofs.Terms.{TextRef, HasRecorded, logged, blocks_from, state_block, text_blocks, block_bytes}
use Rattle.cw_log.proofs.Terms.{ended_by, recorded_of}
use Rattle.std.proofs.lemmas.List.Elements.{All-head, All-tail}
use Rattle.cw_base.specs.declared.event.Out.TheVariants.{Tex}
use Rattle.cw_desk.specs.{Journal.byte_events, State.DeskState}
use Rattle.cw_each.specs.EachForms.{IsWholeRef}
use Rattle.cw_lines.specs.{declared.put_error.PutError.TheVariants.Memory as no_memory, Writes.Adds, Writes.HasAdded}
use Rattle.cw_lines.specs.{laws.WritesLaws.adds-events, laws.WritesLaws.adds-none}
use Rattle.cw_run.specs.laws.PieceLaws.{piece-stop, piece-then, piece-wanting}
use Rattle.cw_texts.specs.Scans.{scanned}
use Rattle.cw_translator.specs.{NameParts.name_texts, Translating.translated}
use Rattle.cw_log.proofs.CheckLaws.{spelled-lines}

-- ## What is recorded of a text

-- all of its texts are, where it was translated
pub recorded-all : {T : Type 0} (flags : Flags) (states : List State) (before after : Recorded) (value : T)
    → before.ended ≡ [] → HasRecorded {T = T} flags states (Some before) (Some after) (Ok value)
    → after.ended ≡ map (logged flags) states
recorded-all flags states before after value none h =
    let e : Some after.ended ≡ Some (before.ended ++ map (logged flags) (take h.number states)) = h.is in
    let d : after.ended ≡ before.ended ++ map (logged flags) (take h.number states) = cc in
    d ∙ (ap (λ (texts : List TextLog). texts ++ map (logged flags) (take h.number states)) none
    ∙ ap (map (logged flags)) (take_all h.number states h.all))

-- the names that a translation leaves that begins without marks
pub text-names : (s : TextSource) (part : TextRef) (names after : List Entry) (marks : List ℕ) → marks ≡ []
    → after ≡ (translated s.flags (name_texts s.sec_names s.name_uses) (scanned part.mode s.text part.span) names
    marks).known.names → after ≡ (text_ended s part names).known.names
text-names s part names after marks none is = is ∙ ap (λ (m : List ℕ). (translated s.flags
    (name_texts s.sec_names s.name_uses) (scanned part.mode s.text part.span) names m).known.names) none

-- the texts that it tells
pub text-recorded : (s : TextSource) (part : TextRef) (names : List Entry) (after : List TextLog) (marks : List ℕ)
    → marks ≡ [] → after ≡ map (logged s.flags) (translated s.flags (name_texts s.sec_names s.name_uses)
    (scanned part.mode s.text part.span) names marks).known.ended → after ≡ recorded_of s (ended_by s part names)
text-recorded s part names after marks none is = is ∙ ap (λ (m : List ℕ). map (logged s.flags) (translated s.flags
    (name_texts s.sec_names s.name_uses) (scanned part.mode s.text part.span) names m).known.ended) none

-- ## Its bytes

items-again : (items : List Production) → map production_of (map item_of items) ≡ items
items-again [] = refl
items-again (p ∷ items) = ap (λ ps. p ∷ ps) (items-again items)

-- the block of what is recorded of a text
block-logged : (flags : Flags) (names : List Entry) (state : State)
    → block_of names (logged flags state) ≡ state_block flags names state
block-logged flags names state = ap
    (λ ls. record { leaves = ls; items = map production_of (map item_of (log productions flags state)) }) (spelled-lines
    names state.scraps) ∙ ap (λ ps. record { leaves = (state_block flags names state).leaves; items = ps })
    (items-again (log productions flags state))

text-of-both : (xs ys : List Block) → log_text (xs ++ ys) ≡ log_text xs ++ log_text ys
text-of-both xs ys = ap (flat_map ended) (flat_map-append block_lines xs ys)
    ∙ flat_map-append ended (log_lines xs) (log_lines ys)

states-bytes : (flags : Flags) (names : List Entry) (states : List State)
    → flat_map (block_bytes names) (map (logged flags) states) ≡ log_text (map (state_block flags names) states)
states-bytes flags names [] = refl
states-bytes flags names (state ∷ states) = ap (λ (bytes : List ℕ). block_bytes names (logged flags state) ++ bytes)
    (states-bytes flags names states) ∙ (ap (λ (b : Block). flat_map ended (block_lines b) ++ log_text
    (map (state_block flags names) states)) (block-logged flags names state) ∙ sym (flat_map-append ended
    (block_lines (state_block flags names state)) (log_lines (map (state_block flags names) states))))

-- the bytes of the blocks that are recorded
pub recorded-bytes : (s : TextSource) (t : EndedText)
    → flat_map (block_bytes t.ended.known.names) (recorded_of s t) ≡ log_text (text_blocks s.flags t)
recorded-bytes s t = states-bytes s.flags t.ended.known.names t.ended.known.ended

flat-more : {A : Type 0} (f : A → List ℕ) (xs : List A) (i : ℕ) (x : A) → slice_get xs i ≡ Some x
    → flat_map f (take (suc i) xs) ≡ flat_map f (take i xs) ++ f x
flat-more f [] zero x e = absurd cc
flat-more f [] (suc i) x e = absurd cc
flat-more f (y ∷ ys) zero x e = append-nil (f y) ∙ ap f (let d : y ≡ x = cc in d)
flat-more f (y ∷ ys) (suc i) x e = ap (λ bytes. f y ++ bytes) (flat-more f ys i x e)
    ∙ sym (append_assoc (f y) (flat_map f (take i ys)) (f x))

-- one block more is appended
pub bytes-more : (names : List Entry) (texts : List TextLog) (i : ℕ) (text : TextLog) (old new : List ℕ)
    → slice_get texts i ≡ Some text → old ≡ flat_map (block_bytes names) (take i texts)
    → new ≡ old ++ block_bytes names text → new ≡ flat_map (block_bytes names) (take (i + 1) texts)
bytes-more names texts i text old new there so_far is = is ∙ (ap (λ (bytes : List ℕ). bytes ++ block_bytes names text)
    so_far ∙ (sym (flat-more (block_bytes names) texts i text there)
    ∙ ap (λ n. flat_map (block_bytes names) (take n texts)) (let e : suc i ≡ i + 1 = omega arith in e)))

-- ## Text after text

abbrev pub texts_log : TextSource → List TextRef → List Entry → List ℕ
texts_log s texts names = log_text (blocks_from s texts names)

log-first : (s : TextSource) (text : TextRef) (texts : List TextRef) (names : List Entry) → texts_log s (text
    ∷ texts) names
    ≡ log_text (text_blocks s.flags (ended_by s text names)) ++ texts_log s texts (text_ended s text names).known.names
log-first s text texts names = text-of-both (text_blocks s.flags (ended_by s text names))
    (blocks_from s texts (text_ended s text names).known.names)

-- Blocks are written, and behind them come those of the texts that are left.
pub record Written (s : TextSource) (all coming : List TextRef) (names names' : List Entry) (before now : DeskState)
    : Type 0 where
  pub done : List ℕ
  pub added : HasAdded (byte_events Tex done) before now
  pub left : done ++ texts_log s coming names' ≡ texts_log s all names
  pub whole : All (IsWholeRef s.text) coming

pub none-written : (s : TextSource) (texts : List TextRef) (names : List Entry) (told : DeskState)
    → All (IsWholeRef s.text) texts → Written s texts texts names names told told
none-written s texts names told whole = record {
  done = [];
  added = adds-none told tt;
  left = refl;
  whole = whole;
}

module _ (s : TextSource) (all coming : List TextRef) (names names' : List Entry) (before now : DeskState)
    (w : Written s all coming names names' before now) where
  -- memory was wanting before a text was translated
  pub written-wanting : {U : Type 0} {result : Result U PutError} → IsErrAnd result (λ found. found ≡ no_memory)
      → Adds (byte_events Tex (texts_log s all names)) before now result
  written-wanting is = adds-events (ap (byte_events Tex) w.left)
      (piece-then Tex w.done (texts_log s coming names') w.added (piece-wanting Tex (texts_log s coming names') is))

  -- no text is left
  pub written-all : {U : Type 0} (value : U) → coming ≡ []
      → Adds {T = U} (byte_events Tex (texts_log s all names)) before now (Ok value)
  written-all value none = adds-events (ap (byte_events Tex) (sym (append-nil w.done)
      ∙ (ap (λ (rest : List TextRef). w.done ++ texts_log s rest names') (sym none) ∙ w.left)))
      (record { ok = w.added.ok; err = tt; same = w.added.same; fault = λ fault. cc })

-- ## The next text

-- the text of its blocks
abbrev pub text_log : TextSource → TextRef → List Entry → List ℕ
text_log s text names = log_text (text_blocks s.flags (ended_by s text names))

-- the names that it leaves
abbrev pub names_behind : TextSource → TextRef → List Entry → List Entry
names_behind s text names = (text_ended s text names).known.names

module _ (s : TextSource) (all coming coming' : List TextRef) (text : TextRef) (names names' : List Entry)
    (before now : DeskState) (w : Written s all coming names names' before now) (gives : coming ≡ text ∷ coming') where
  text-left : w.done ++ (text_log s text names' ++ texts_log s coming' (names_behind s text names'))
      ≡ texts_log s all names
  text-left = ap (λ (bytes : List ℕ). w.done ++ bytes) (sym (log-first s text coming' names'))
      ∙ (ap (λ (ts : List TextRef). w.done ++ texts_log s ts names') (sym gives) ∙ w.left)

  pub text-whole : IsWholeRef s.text text
  text-whole = All-head (IsWholeRef s.text) text coming' (subst (All (IsWholeRef s.text)) gives w.whole)

  -- its blocks are written
  pub written-more : {U : Type 0} {later : DeskState} {value : U} (names'' : List Entry) → names''
      ≡ names_behind s text names' → Adds {T = U} (byte_events Tex (text_log s text names')) now later (Ok value)
      → Written s all coming' names names'' before later
  written-more names'' same piece = record {
    done = w.done ++ text_log s text names';
    added = piece-then Tex w.done (text_log s text names') w.added
        (record { ok = piece.ok; err = tt; same = piece.same; fault = λ fault. cc });
    left = append_assoc w.done (text_log s text names') (texts_log s coming' names'')
        ∙ (ap (λ (ns : List Entry). w.done ++ (text_log s text names' ++ texts_log s coming' ns)) same ∙ text-left);
    whole = All-tail (IsWholeRef s.text) text coming' (subst (All (IsWholeRef s.text)) gives w.whole);
  }

  -- they are refused
  pub written-refused : {T U : Type 0} {later : DeskState} {error : PutError} {result : Result U PutError}
      → Adds {T = T} (byte_events Tex (text_log s text names')) now later (Err error)
      → IsErrAnd result (λ found. found ≡ error) → Adds (byte_events Tex (texts_log s all names)) before later result
  written-refused piece refused = adds-events (ap (byte_events Tex) text-left)
      (piece-then Tex w.done (text_log s text names' ++ texts_log s coming' (names_behind s text names')) w.added
      (piece-stop Tex (text_log s text names') (texts_log s coming' (names_behind s text names')) piece refused))
