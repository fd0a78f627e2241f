-- The file of plain texts, which is written text by text.
use Rattle.cw_plain.proofs.Terms.{◌≡◌, ℕ, List, [], ◌∷◌, ◌++◌, Result, Ok, Err, refl, sym, ap, subst, ◌∙◌, All}
use Rattle.cw_plain.proofs.Terms.{IsErrAnd, append-nil, append_assoc, flat_map-cons, Each, HasTranslated, IsWholeRef}
use Rattle.cw_plain.proofs.Terms.{NextText, unfolded, plain_tree, source_by}
use Rattle.std.proofs.lemmas.List.Elements.{All-tail}
use Rattle.cw_base.specs.declared.event.Out.TheVariants.{Tex}
use Rattle.cw_desk.specs.{Journal.byte_events, State.DeskState}
use Rattle.cw_each.specs.EachText.{EndedText, TextSource, each_text, text_ended}
use Rattle.cw_lines.specs.{Writes.Adds, Writes.HasAdded, laws.WritesLaws.adds-events, laws.WritesLaws.adds-none}
use Rattle.cw_lines.specs.{declared.put_error.PutError.PutError, declared.put_error.PutError.TheVariants.Memory}
use Rattle.cw_names.specs.Names.{Entry}
use Rattle.cw_texts.specs.declared.text_list.TextRef.{TextRef}
use Rattle.cw_run.specs.laws.PieceLaws.{piece-stop, piece-then, piece-wanting}
use Rattle.cw_translator.specs.NameParts.{AreNamesOf}
use Rattle.cw_plain.specs.File.{lines_by, text_lines, texts_lines}

-- These bytes are written, and behind them comes what is left of all.
pub record Written (old new : Each) (names names' : List Entry) (before now : DeskState) : Type 0 where
  pub done : List ℕ
  pub added : HasAdded (byte_events Tex done) before now
  pub left : done ++ texts_lines new.source new.coming names' ≡ texts_lines old.source old.coming names
  pub source : new.source ≡ old.source
  pub whole : All (IsWholeRef new.source.text) new.coming
  pub kept : AreNamesOf new.source.sec_names new.source.name_uses

pub written-none : (e : Each) (names : List Entry) (told : DeskState) → All (IsWholeRef e.source.text) e.coming
    → AreNamesOf e.source.sec_names e.source.name_uses → Written e e names names told told
written-none e names told whole kept = record {
  done = [];
  added = adds-none told tt;
  left = refl;
  source = refl;
  whole = whole;
  kept = kept;
}

-- ## The next text

abbrev ended_first : TextSource → TextRef → List Entry → EndedText
ended_first s text names = record { text = text; ended = text_ended s text names }

-- its lines
abbrev first_lines : TextSource → TextRef → List Entry → List ℕ
first_lines s text names = text_lines s (ended_first s text names)

-- the lines of the first text, and those of the others
lines-first : (s : TextSource) (text : TextRef) (texts : List TextRef) (names : List Entry) → texts_lines s (text
    ∷ texts)
    names ≡ first_lines s text names ++ texts_lines s texts (text_ended s text names).known.names
lines-first s text texts names = flat_map-cons (text_lines s) (ended_first s text names)
    (each_text s texts (text_ended s text names).known.names)

-- what is written of a text that was translated
abbrev pub lines_of : Each → NextText → List ℕ
lines_of e next = lines_by next.text.mode next.text.section (plain_tree
    (source_by e.answers e.source.sec_names e.source.name_uses) (unfolded e.lists next.translated.list.index))

module _ (old e new : Each) (next : NextText) (names names' names'' : List Entry) (before now : DeskState)
    (steps steps' : ℕ)
    (w : Written old e names names' before now) (same : new.source ≡ e.source)
    (has : HasTranslated e new next names' names'' steps steps') where
  -- A text that was translated has its lines.
  lines-translated : lines_of new next ≡ first_lines e.source next.text names'
  lines-translated = λ i. lines_by next.text.mode next.text.section (plain_tree
      (source_by (has.answers i) (same i).sec_names (same i).name_uses) (has.ended.tree i))

  -- behind them come those of the others
  lines-left : first_lines e.source next.text names' ++ texts_lines new.source new.coming names''
      ≡ texts_lines e.source e.coming names'
  lines-left = (λ i. first_lines e.source next.text names' ++ texts_lines (same i) new.coming (has.ended.names_are i))
      ∙ sym (lines-first e.source next.text new.coming names')
      ∙ ap (λ (texts : List TextRef). texts_lines e.source texts names') (sym has.coming)

  all-left : w.done ++ (first_lines e.source next.text names' ++ texts_lines new.source new.coming names'')
      ≡ texts_lines old.source old.coming names
  all-left = ap (λ (lines : List ℕ). w.done ++ lines) lines-left ∙ w.left

  -- its lines are written
  pub written-more : {U : Type 0} {later : DeskState} {value : U} → Adds {T = U} (byte_events Tex
      (lines_of new next)) now
      later (Ok value) → Written old new names names'' before later
  written-more {later = later} piece = record {
    done = w.done ++ first_lines e.source next.text names';
    added = piece-then Tex w.done (first_lines e.source next.text names') w.added
        (record { ok = (first-lines piece).ok; err = tt; same = piece.same; fault = λ fault. cc });
    left = append_assoc w.done (first_lines e.source next.text names') (texts_lines new.source new.coming names'')
        ∙ all-left;
    source = same ∙ w.source;
    whole = All-tail (IsWholeRef new.source.text) next.text new.coming
        (subst (λ (texts : List TextRef). All (IsWholeRef new.source.text) texts) has.coming
        (subst (λ (s : TextSource). All (IsWholeRef s.text) e.coming) (sym same) w.whole));
    kept = subst (λ (s : TextSource). AreNamesOf s.sec_names s.name_uses) (sym same) w.kept;
  }
    where
      first-lines : {V : Type 0} {a b : DeskState} {result : Result V PutError} → Adds (byte_events Tex
          (lines_of new next))
          a b result → Adds (byte_events Tex (first_lines e.source next.text names')) a b result
      first-lines adds = adds-events (ap (byte_events Tex) lines-translated) adds

  -- they are refused
  pub written-refused : {T U : Type 0} {later : DeskState} {error : PutError} {result : Result U PutError}
      → Adds {T = T}
      (byte_events Tex (lines_of new next)) now later (Err error) → IsErrAnd result (λ found. found ≡ error)
      → Adds (byte_events Tex (texts_lines old.source old.coming names)) before later result
  written-refused piece is = adds-events (ap (byte_events Tex) all-left) (piece-then Tex w.done
      (first_lines e.source next.text names' ++ texts_lines new.source new.coming names'') w.added
      (piece-stop Tex (first_lines e.source next.text names') (texts_lines new.source new.coming names'')
      (adds-events (ap (byte_events Tex) lines-translated) piece) is))

-- ## The end

-- no text is left
pub written-all : {U : Type 0} {old e : Each} {names names' : List Entry} {before now : DeskState} (value : U)
    → Written old e names names' before now → e.coming ≡ []
    → Adds {T = U} (byte_events Tex (texts_lines old.source old.coming names)) before now (Ok value)
written-all {old = old} {e = e} {names = names} {names' = names'} value w none = adds-events (ap (byte_events Tex) all)
    (record { ok = w.added.ok; err = tt; same = w.added.same; fault = λ fault. cc })
  where
    all : w.done ≡ texts_lines old.source old.coming names
    all = sym (append-nil w.done)
        ∙ ap (λ (texts : List TextRef). w.done ++ texts_lines e.source texts names') (sym none) ∙ w.left

-- memory was wanting before a text was translated
pub written-wanting : {U : Type 0} {old e : Each} {names names' : List Entry} {before now : DeskState}
    {result : Result U PutError} → Written old e names names' before now → IsErrAnd result (λ found. found ≡ Memory)
    → Adds (byte_events Tex (texts_lines old.source old.coming names)) before now result
written-wanting {e = e} {names' = names'} w is = adds-events (ap (byte_events Tex) w.left) (piece-then Tex w.done
    (texts_lines e.source e.coming names') w.added (piece-wanting Tex (texts_lines e.source e.coming names') is))
