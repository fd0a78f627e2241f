-- The blocks of every web are right, and so its log is accepted.
use Rattle.cw_log_laws.proofs.Terms.{◌≤◌, ◌^◌, List, [], ◌∷◌, length, sym, subst, ap, ◌∙◌, arith, All, flat_map-cons}
use Rattle.cw_log_laws.proofs.Terms.{All-append, All-head, All-map, All-nil, All-tail, All-weaker, start_flags}
use Rattle.cw_log_laws.proofs.Terms.{MergedLine, text_of, Entry, book, texts_of, TextRef, EndedText, each_text}
use Rattle.cw_log_laws.proofs.Terms.{text_ended, check_file, AreNames, HasShortNames, IsInside, IsRightBlock}
use Rattle.cw_each.specs.EachText.{TextSource}
use Rattle.cw_log.specs.LogOfWeb.{blocks_from, log_blocks, state_block, text_blocks}
use Rattle.cw_log_laws.specs.WrittenLogs.{CommandsAccept, WrittenLogsAreAccepted}
use Rattle.cw_log_laws.proofs.{AcceptedLogs.right-accepted, BookNames.book-names, BookNames.book-short}
use Rattle.cw_log_laws.proofs.{InsideTexts.book-inside, LaterNames.later-same, RightTexts.text-fine}
use Rattle.cw_log_laws.proofs.{RightTexts.text-names, WrittenScraps.IsFineState, WrittenScraps.told-right}

module _ (s : TextSource) (short : HasShortNames s) where
  text-right : (ref : TextRef) (names : List Entry) → IsInside ref.span → AreNames names
      → All (IsRightBlock s.flags) (text_blocks s.flags (record { text = ref; ended = text_ended s ref names }))
  text-right ref names inside are =
      let known = (text_ended s ref names).known in
      All-map (IsRightBlock s.flags) (state_block s.flags known.names) known.ended
      (All-weaker (IsFineState known.names) (λ state. IsRightBlock s.flags (state_block s.flags known.names state))
      (λ state h. told-right s.flags known.names state (text-names s ref names short are).apart h) known.ended
      (text-fine s ref names short are known.names inside (later-same known.names)))

  each-right : (refs : List TextRef) (names : List Entry) → All (λ (ref : TextRef). IsInside ref.span) refs
      → AreNames names → All (IsRightBlock s.flags) (blocks_from s refs names)
  each-right [] names inside are = All-nil (IsRightBlock s.flags)
  each-right (ref ∷ refs) names inside are =
      let known = (text_ended s ref names).known in
      let first : EndedText = record { text = ref; ended = text_ended s ref names } in
      subst (All (IsRightBlock s.flags)) (sym (flat_map-cons (text_blocks s.flags) first (each_text s refs
      known.names))) (All-append (IsRightBlock s.flags) (text_blocks s.flags first) (blocks_from s refs known.names)
      (text-right ref names (All-head (λ (r : TextRef). IsInside r.span) ref refs inside) are) (each-right refs
      known.names (All-tail (λ (r : TextRef). IsInside r.span) ref refs inside) (text-names s ref names short are)))

book-right : (lines : List MergedLine) → length (text_of lines) ≤ 2 ^ 24
    → All (IsRightBlock start_flags) (log_blocks lines)
book-right lines short = grind (
  arith,
  each-right (record {
    text = text_of lines;
    flags = start_flags;
    sec_names = (book lines).sec_names;
    name_uses = (book lines).name_uses;
  }) (book-short lines short) (texts_of (text_of lines) (book lines).name_uses (book lines).outline.sections)
      (book lines).names (book-inside lines short) (book-names lines),
)

pub written-accepted : WrittenLogsAreAccepted
written-accepted lines word limit short = right-accepted (log_blocks lines) (book-right lines limit) short

pub commands-accept : CommandsAccept
commands-accept lines [] named limit short some e = absurd (omega (arith, some))
commands-accept lines (b ∷ bs) named limit short some e =
    ap (check_file (b ∷ bs)) e ∙ written-accepted lines (b ∷ bs) limit short
