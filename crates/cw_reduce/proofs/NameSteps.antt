-- A section name, its inner texts, a text with section names, and one with its head, one call after the other.
use Rattle.std.proofs.Common.{if◌then◌else◌}
use Rattle.cw_reduce.proofs.Terms.{◌^◌, Bool, false, nat_eq, Result, Ok, Span, Token, Gives, seen, is_name_kind}
use Rattle.cw_reduce.proofs.Terms.{tokens_of, until_section, Lexed, inner_mode, parts_at, IsNextPart, NameUse, name_at}
use Rattle.cw_reduce.proofs.Terms.{SecKind, Holder, Translator, Work, held_answers, is_name_answer, name_answers}
use Rattle.cw_reduce.proofs.Terms.{text_answers, text_token, texts_answers, token_answers, with_texts, begin-advances}
use Rattle.cw_reduce.proofs.Terms.{unchanged, recorded-none, Advancing, advancing-begun, advancing-next, advances-as}
use Rattle.cw_reduce.proofs.Terms.{advances-done, advances-none, keeps-itself, ListId, Dead, headed, nest, IsNested}
use Rattle.cw_reduce.proofs.Terms.{HeadRead, Translated, read_made, StartsBelow, ends-as, same-names, LineEntry}
use Rattle.std.proofs.lemmas.Option.{get_or_from_slice_get, slice_get_within}
use Rattle.std.specs.Option.{option_and_then}
use Rattle.cw_secnames.specs.Kept.{shown, SecName, id as id_of}
use Rattle.cw_translator.specs.declared.holders.Holder.TheVariants as holder
use Rattle.cw_translator.specs.declared.nesting.Open.TheVariants.{Comment, CText as OpenCText}
use Rattle.cw_translator.specs.Reading.{with_held, after_token, after_begin}
use Rattle.cw_translator.specs.model.Reading.{with_made}
use Rattle.cw_reduce.proofs.ReadSteps.{gives-is, starts-split}
use Rattle.cw_reduce.specs.declared.heads.HeadRead.TheVariants as read
use Rattle.cw_translator.specs.Translating.{translated, NameTexts, begin, head_made, texts_named}
use Rattle.cw_reduce.proofs.Joined.{AllNested, name-law, named-translation}
use Rattle.cw_reduce.specs.Heading.{NamesOfHead, NamesOfHeaded, in_name, behind, after_head, after_held, head_begun}
use Rattle.cw_reduce.specs.model.Heading.{headed_text, of_head, over_head, over_headed, to_headed}
use Rattle.cw_translator.proofs.Terms.{◌≡◌, ℕ, ◌+◌, ◌<◌, ◌≤◌, true, Option, Some, None, List, [], ◌∷◌, ◌++◌, length}
use Rattle.cw_translator.proofs.Terms.{map, option_map, refl, ap, ◌∙◌, add-zero, arith, All, slice_get, append-nil}
use Rattle.cw_translator.proofs.Terms.{All-head, All-tail, Flags, Memory, Answer, Seen, Begin, Finish, TokKind, Entry}
use Rattle.cw_translator.proofs.Terms.{all_roots, answers_in, frames_of, IsTranslating, Progress, after_answers}
use Rattle.cw_translator.proofs.Terms.{NamesAmong, later, WatchState, Advances, over, progress_over, append_assoc, ◌⊎◌}
use Rattle.cw_translator.proofs.Terms.{inl, inr, IfSome, Token as StoredToken, StoredLists, Text, IsSoundLine}
use Rattle.cw_translator.proofs.Terms.{scraps_of, marked_names, CText, all_ended, here, Known, sign_behind, with_names}
use Rattle.cw_translator.proofs.Terms.{EndsIn}
use Rattle.cw_secnames.specs.declared.kinds.SecId.{SecId}
use Rattle.cw_translator.specs.NameParts.{AreNamesOf, name_texts, parts_by_kind}

-- An inner text has begun.
pub text-begun : {L R : Type 0} {told : R → Option WatchState} (flags : Flags) (text : List Answer) {t t1 : Translator}
    {work
    : Work L R} → IsTranslating work.store.now work.names.now t → t1 ≡ record t { nesting = OpenCText [] ∷ t.nesting }
    → Advancing told flags (text_answers text) (text ++ Finish text_token ∷ []) (progress_over work t) t work t1 work
text-begun flags text is e = advancing-next (Begin text_token ∷ []) (text ++ Finish text_token ∷ []) (advancing-begun
    flags (text_answers text) is) refl (begin-advances {T = Unit {0}} flags text_token {result = Ok tt} is e)

-- The answers of parts, and the next of them.
abbrev pub part_answers : List ℕ → Span → List Answer
part_answers text span = until_section (tokens_of text span.start span.end inner_mode)

abbrev pub all_part_answers : List ℕ → List Span → List Answer
all_part_answers text spans = texts_answers (map (part_answers text) spans)

pub part-next : (text : List ℕ) (from : ℕ) (span : Span) → IsNextPart text from span → all_part_answers text
    (parts_at text from) ≡ text_answers (part_answers text span) ++ all_part_answers text (parts_at text (span.end + 1))
part-next text from span h = ap (all_part_answers text) h.parts

-- What holds inner texts has begun.
pub held-begun : {L R : Type 0} {told : R → Option WatchState} (flags : Flags) (held_by : Holder) {t t1 : Translator}
    {work : Work L R} → IsTranslating work.store.now work.names.now t
    → t1 ≡ record t { nesting = Comment held_by [] ∷ t.nesting } → (all : List Answer)
    → Advancing told flags all all (with_held held_by (progress_over work t)) t work t1 work
held-begun flags held_by {t = t} {work = work} is e all =
    grind (arith, append-nil, all_roots, frames_of, add-zero, keeps-itself, recorded-none, unchanged)

-- A section name by the pair of its place.
pub name-token : (named : NameTexts) (k : TokKind) (token : Seen) → is_name_kind k ≡ true → token_answers named k token
    ≡ name_answers (named token.span.start) token
name-token named k token h = grind arith

name-passes : (k : TokKind) (token : Seen) (p : Progress) → is_name_kind k ≡ true → after_token k token p ≡ p
name-passes k token p h = grind arith

name-begins : (k : TokKind) (number : ℕ) (p : Progress) → is_name_kind k ≡ true → after_begin k number p
    ≡ with_held (holder.Name number) p
name-begins k number p h = grind arith

none-at : (o : Option ℕ) → option_map id_of o ≡ None → o ≡ None
none-at o h = grind arith

some-at : (o : Option ℕ) (id : SecId) → option_map id_of o ≡ Some id → o ≡ Some id.index
some-at o id h = grind arith

texts-shown : (o : Option SecName) (k : SecKind) (text : List ℕ) → option_map (λ (n : SecName). n.kind) o ≡ Some k
    → option_map (λ (n : SecName). n.text) o ≡ Some text → option_map (λ name. parts_by_kind name.kind name.text) o
    ≡ Some (parts_by_kind k text)
texts-shown o k text a b = grind arith

pub among-at : (count : ℕ) (uses : List NameUse) (place k : ℕ) → All (λ (u : NameUse). u.name < count) uses
    → name_at place uses ≡ Some k → k < count
among-at count [] place k all h = absurd cc
among-at count (u ∷ uses) place k all h = by (nat_eq u.place place)
    (λ e. among-at count uses place k (All-tail (λ (v : NameUse). v.name < count) u uses all) e) h
  where
    by : (b : Bool) → (name_at place uses ≡ Some k → k < count)
        → ◌≡◌ {A = Option ℕ} (if b then Some u.name else name_at place uses) (Some k) → k < count
    by true next e =
        let same : u.name ≡ k = cc in
        rw same at (All-head (λ (v : NameUse). v.name < count) u uses all)
    by false next e = next e

module _ {kept : List SecName} {uses : List NameUse} {id : SecId} (names : AreNamesOf kept uses) (number : ℕ)
    (found : option_map id_of (name_at number uses) ≡ Some id) where
  paired : name_at number uses ≡ Some id.index
  paired = some-at (name_at number uses) id found

  pub paired-among : id.index < length kept
  paired-among = among-at (length kept) uses number id.index names.among paired

  module _ {text : List ℕ} (texts : shown (λ (n : SecName). n.text) id.index kept ≡ Some text) where
    pub paired-short : length text ≤ 2 ^ 24
    paired-short = found-short (slice_get kept id.index) refl texts
      where
        found-short : (o : Option SecName) → slice_get kept id.index ≡ o → option_map (λ (n : SecName). n.text) o
            ≡ Some text → length text ≤ 2 ^ 24
        found-short None e h = absurd cc
        found-short (Some name) e h =
            let same : name.text ≡ text = cc in
            rw (← same, ← get_or_from_slice_get kept id.index name name e)
            (names.short id.index name (slice_get_within kept id.index name e))

    pub texts-paired : {k : SecKind} → shown (λ (n : SecName). n.kind) id.index kept ≡ Some k
        → name_texts kept uses number ≡ Some (parts_by_kind k text)
    texts-paired {k = k} kinds =
        ap (λ o. option_and_then (λ k. option_map (λ name. parts_by_kind name.kind name.text) (slice_get kept k)) o)
        paired ∙ texts-shown (slice_get kept id.index) k text kinds texts

pub texts-unpaired : (kept : List SecName) (uses : List NameUse) (number : ℕ) → option_map id_of (name_at number uses)
    ≡ None → name_texts kept uses number ≡ None
texts-unpaired kept uses number found =
    ap (λ o. option_and_then (λ k. option_map (λ name. parts_by_kind name.kind name.text) (slice_get kept k)) o)
    (none-at (name_at number uses) found)

-- Without a pair it is passed over.
pub unpaired-advances : {L R T : Type 0} {told : R → Option WatchState} (flags : Flags) (kept : List SecName)
    (uses : List NameUse) (token : Seen) {t : Translator} {work : Work L R} {value : T} → is_name_kind token.kind ≡ true
    → option_map id_of (name_at token.span.start uses) ≡ None → IsTranslating work.store.now work.names.now t
    → Advances told (over flags (token_answers (name_texts kept uses) token.kind token) (progress_over work t)) t work t
    work (Ok value)
unpaired-advances flags kept uses token {t = t} {work = work} named found is =
    grind (arith, name-token, texts-unpaired, advances-done, name-passes, progress_over, advances-none)

-- With one it is what is kept of the name.
module _ {kept : List SecName} {uses : List NameUse} {id : SecId} (names : AreNamesOf kept uses) (token : Seen)
    (named : is_name_kind token.kind ≡ true) (found : option_map id_of (name_at token.span.start uses) ≡ Some id) where
  module _ {k : SecKind} {text : List ℕ} (kinds : shown (λ (n : SecName). n.kind) id.index kept ≡ Some k)
      (texts : shown (λ (n : SecName). n.text) id.index kept ≡ Some text) where
    answers-are : token_answers (name_texts kept uses) token.kind token
        ≡ Begin token ∷ held_answers (parts_by_kind k text)
    answers-are = grind (arith, name-token, name_answers, texts-paired)

    abbrev held_texts : List Answer
    held_texts = held_answers (parts_by_kind k text)

    then-held : (flags : Flags) (p : Progress) → after_answers flags held_texts (with_held (holder.Name
        token.span.start) p) ≡ after_answers flags (token_answers (name_texts kept uses) token.kind token) p
    then-held flags p = grind (arith, answers-are, after_answers, name-begins)

    paired-fails : (flags : Flags) (p : Progress) (entries : List Entry)
        → NamesAmong flags held_texts (with_held (holder.Name token.span.start) p) entries
        → NamesAmong flags (token_answers (name_texts kept uses) token.kind token) p entries
    paired-fails flags p entries h = grind (arith, answers-are, later, name-begins)

    pub paired-advances : {L R T : Type 0} {told : R → Option WatchState} (flags : Flags)
        (p : Progress) {t t' : Translator}
        {old new : Work L R} {result : Result T Memory} → Advances told
        (over flags held_texts (with_held (holder.Name token.span.start) p)) t old t' new result
        → Advances told (over flags (token_answers (name_texts kept uses) token.kind token) p) t old t' new result
    paired-advances flags p r = advances-as (then-held flags p) (λ entries. paired-fails flags p entries) r

pub with-texts-append : (named : NameTexts) (xs ys : List Answer) → with_texts named (xs ++ ys)
    ≡ with_texts named xs ++ with_texts named ys
with-texts-append named [] ys = refl
with-texts-append named (Token token ∷ xs) ys =
    grind (arith, with-texts-append named xs ys, append_assoc, token_answers, with_texts)
with-texts-append named (x ∷ xs) ys = ap (λ zs. x ∷ zs) (with-texts-append named xs ys)

pub with-texts-next : (named : NameTexts) (old new : List Answer) (answer : Lexed) → Gives old answer new
    → with_texts named old ≡ with_texts named (answers_in answer) ++ with_texts named new
with-texts-next named old new answer g = grind (arith, with_texts, gives-is, with-texts-append, answers_in)

-- An answer that is no section name stands for itself.
pub no-name-token : (named : NameTexts) (k : TokKind) (token : Seen) → is_name_kind k ≡ false
    → token_answers named k token ≡ Token token ∷ []
no-name-token named k token h = grind arith

pub no-name-answer : (named : NameTexts) (answer : Lexed) → is_name_answer answer ≡ false
    → answers_in answer ≡ with_texts named (answers_in answer)
no-name-answer named answer h = grind (arith, append-nil, token_answers, seen, no-name-token)

-- The whole text.
module _ (flags : Flags) (named : NameTexts) (nested : AllNested named) (lists : List (List StoredToken)) where
  held-made : (o : Option (List (List Answer))) (number sign : ℕ) (known : Known) → IfSome o (All IsNested)
      → after_held flags o (holder.Head number sign) (record { frames = CText [] ∷ []; known = known })
      ≡ with_made (CText [] ∷ []) (texts_named flags o Dead Text (sign_behind sign) number known)
  held-made None number sign known n = refl
  held-made (Some texts) number sign known n = name-law flags texts (holder.Head number sign) number (sign_behind sign)
      (record { frames = CText [] ∷ []; known = known }) (λ items. refl) n

  head-made : (head : HeadRead) (known : Known) → after_head flags named head (head_begun lists head known)
      ≡ with_made (CText [] ∷ []) (read_made flags named lists head known)
  head-made head known = grind (arith, held-made)

  pub headed-whole : (head : HeadRead) (rest : List Answer) (known : Known) → IsNested rest
      → all_ended flags (after_answers flags (with_texts named rest)
      (after_head flags named head (head_begun lists head known))) ≡ headed_text flags named lists head rest known
  headed-whole head rest known h = grind (arith, head-made, named-translation, read_made)

  pub headed-translated : (head : HeadRead) (rest answers : List Answer) (old new : List Entry) (marks : List ℕ)
      → ((f : Flags) (n : NameTexts) (known : Known) → head_made f n (headed (nest answers)).head (with_names old known)
      ≡ read_made f n lists head (with_names new known)) → nest rest ≡ (headed (nest answers)).rest
      → headed_text flags named lists head rest (begin new marks) ≡ translated flags named answers old marks
  unfolding translated
  headed-translated head rest answers old new marks makes leaves = rw (← makes flags named (begin old marks), leaves)

-- The answers behind a head: those read beyond it, and all others.
pub cut-first : (named : NameTexts) (a b c : List Answer) → with_texts named ((a ++ b) ++ c)
    ≡ with_texts named a ++ with_texts named (b ++ c)
cut-first named a b c = ap (with_texts named) (append_assoc a b c) ∙ with-texts-append named a (b ++ c)

pub starts-ahead : (limit : ℕ) (a b c : List Answer) → StartsBelow limit ((a ++ b) ++ c)
    → StartsBelow limit a × StartsBelow limit b × StartsBelow limit c
starts-ahead limit a b c h =
    let both = starts-split limit (a ++ b) c h in
    let first = starts-split limit a b both.0 in
    (first.0, first.1, both.1)

-- the first of them have been read
pub ahead-advancing : {L R T : Type 0} {told : R → Option WatchState} (flags : Flags) (named : NameTexts) (a b c : List
    Answer) {t t' : Translator} {old new : Work L R} {value : T} → IsTranslating old.store.now old.names.now t
    → Advances told (over flags (with_texts named a) (progress_over old t)) t old t' new (Ok value) → Advancing told
    flags (with_texts named ((a ++ b) ++ c)) (with_texts named (b ++ c)) (progress_over old t) t old t' new
ahead-advancing flags named a b c is r = grind (arith, advancing-next, with_texts, advancing-begun, cut-first)

pub headed-among : (flags : Flags) (named : NameTexts) (head : HeadRead) (rest : List Answer) (p : Progress)
    (new : List Entry) → NamesOfHead flags named head p new ⊎ NamesAmong flags (with_texts named rest)
    (after_head flags named head p) new → NamesOfHeaded flags named head rest p new
headed-among flags named head rest p new (inl h) = in_name h
headed-among flags named head rest p new (inr h) = behind (rw (append-nil (with_texts named rest)) at (h []))

-- A head that has a scrap of its own, or none, makes nothing more.
pub headless-advances : {L R T : Type 0} {told : R → Option WatchState} (flags : Flags) (named : NameTexts)
    (head : HeadRead)
    {t : Translator} {work : Work L R} {value : T} → ((list : ListId) × (head ≡ read.Dead list)) ⊎ (head ≡ read.None)
    → IsTranslating work.store.now work.names.now t
    → Advances told (over_head flags named head (progress_over work t)) t work t work (Ok value)
headless-advances flags named head h is = grind (arith, advances-done, advances-none)

-- A translation that begins with a head.
pub head-translating : (store : StoredLists) (names : List Entry) (t : Translator) (line : List LineEntry)
    → t ≡ record { nesting = OpenCText line ∷ []; scraps = 0; productions = 0 } → IsSoundLine store names line
    → IsTranslating store names t
head-translating store names t line e s = grind (arith, scraps_of)

-- What it comes to is the text with its head.
pub headed-as : {L R : Type 0} {told : R → Option WatchState} (flags : Flags) (named : NameTexts) → AllNested named
    → (head : HeadRead)
    (rest : List Answer) → IsNested rest → {t : Translator} {work new : Work L R} {result : Result Translated Memory}
    → t ≡ of_head head → EndsIn told (record {
      flags = flags;
      text = all_ended flags (over_headed flags named head rest (progress_over work t)).ends;
      leaves = (over_headed flags named head rest (progress_over work t)).leaves;
    }) t work new result
    → EndsIn told (to_headed flags named work.store.now.lists head rest
    (begin work.names.now (marked_names work.marks.now))) (of_head head) work new result
headed-as flags named nested head rest well {work = work} e r = grind (arith, ends-as, headed-whole, marked_names)

-- The names where it begins.
held-start : (flags : Flags) (named : NameTexts) (number sign : ℕ) (rest : List Answer) (p : Progress) (o : Option
    (List (List Answer))) → named number ≡ o → NamesOfHeaded flags named (read.Named number sign) rest p p.known.names
held-start flags named number sign rest p None e = behind (rw e (here (with_texts named rest) p))
held-start flags named number sign rest p (Some texts) e =
    in_name (rw e (same-names flags (held_answers texts) (with_held (holder.Head number sign) p)))

pub whole-start : (flags : Flags) (named : NameTexts) (head : HeadRead) (rest : List Answer) (p : Progress)
    → NamesOfHeaded flags named head rest p p.known.names
whole-start flags named head rest p = grind (arith, here, with_texts, held-start)
