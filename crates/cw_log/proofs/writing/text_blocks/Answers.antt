-- The names are those of the translation, and the bytes those of the text's blocks.
use Rattle.cw_log.proofs.Terms.{◌≡◌, ℕ, [], List, Result, Ok, Err, ap, map, subst, ◌∙◌, flat_map, IfOk, EndedText}
use Rattle.cw_log.proofs.Terms.{TextSource, text_ended, TextLog, log_text, Entry, text_blocks, LoggedTexts, block_bytes}
use Rattle.cw_log.proofs.Terms.{ended_by, recorded_of, source_of}
use Rattle.std.specs.Prelude.{OnOk}
use Rattle.cw_names.specs.declared.NameId.{NameId}
use Rattle.cw_scraps.specs.Marking.{marked_names}
use Rattle.cw_log.proofs.WritingLaws.{recorded-all, recorded-bytes, text-names, text-recorded}
use Rattle.cw_log.proofs.writing.text_blocks.Goals as goal

always : {T E : Type 0} (P : Type 0) (r : Result T E) → P → OnOk r P
always P (Ok x) p = p
always P (Err e) p = tt

pub returns-clause-names : goal.returns-clause-names
returns-clause-names g c =
    let none : marked_names c.new_in-marks.result ≡ [] = ap (map (λ (id : NameId). id.index)) c.new_in-marks.ensures in
    let same : c.translate_recorded.new.work.names.now ≡ (text_ended
    (source_of c.args.source.now) c.args.part c.args.work.now.names.now).known.names = text-names
    (source_of c.args.source.now) c.args.part c.args.work.now.names.now c.translate_recorded.new.work.names.now
    (marked_names c.new_in-marks.result) none c.in_ok-translate_recorded.ensures.text.text.names_are in
    always _ c.blocks_of.result same

pub returns-clause-text : goal.returns-clause-text
returns-clause-text g c =
    let s : TextSource = source_of c.args.source.now in
    let t : EndedText = ended_by s c.args.part c.args.work.now.names.now in
    let done = c.translate_recorded.new.work in
    let none : marked_names c.new_in-marks.result ≡ [] = ap (map (λ (id : NameId). id.index)) c.new_in-marks.ensures in
    let names : done.names.now ≡ t.ended.known.names = text-names s c.args.part c.args.work.now.names.now done.names.now
    (marked_names c.new_in-marks.result) none c.in_ok-translate_recorded.ensures.text.text.names_are in
    let texts : done.recorder.ended ≡ recorded_of s t = text-recorded s c.args.part c.args.work.now.names.now
    done.recorder.ended (marked_names c.new_in-marks.result) none (recorded-all _ _ _ _ _
    (ap (λ (l : LoggedTexts). l.ended) c.new_in-recorder.ensures) c.in_ok-translate_recorded.ensures.text.recorded) in
    let same : flat_map (block_bytes done.names.now) done.recorder.ended ≡ log_text (text_blocks s.flags t) = ap
    (λ (logs : List TextLog). flat_map (block_bytes done.names.now) logs) texts
    ∙ (ap (λ (ns : List Entry). flat_map (block_bytes ns) (recorded_of s t)) names ∙ recorded-bytes s t) in
    subst (λ (xs : List ℕ). IfOk c.blocks_of.result (λ bytes. bytes ≡ xs)) same c.blocks_of.ensures
