-- A run over files that are there already keeps them all.
use Rattle.std.proofs.Common.{◌≡◌, ℕ, Bool, true, false, refl, sym, ap, subst, ◌∙◌, List, [], ◌∷◌, ◌++◌, Option, Some}
use Rattle.std.proofs.Common.{map, arith}
use Rattle.std.specs.List.{AllByRecursion, filter, flat_map, list_any}
use Rattle.std.proofs.lemmas.Cmp.{nat_list_eq_equiv}
use Rattle.std.proofs.lemmas.List.{append-nil}
use Rattle.std.proofs.lemmas.List.Elements.{filter-append}
use Rattle.std.proofs.lemmas.List.Folds.{list_any-append}
use Rattle.std.proofs.lemmas.Bool.Decides.{nat_tests}
use Rattle.std.proofs.lemmas.Grind.{common_steps}
use Rattle.std.specs.Prelude.{bytes_eq}
use Rattle.std.specs.Option.{option_map_or}
use Rattle.cw_base.specs.Conditions.{list_if}
use Rattle.cw_base.specs.Web.{WebState, text_of}
use Rattle.cw_base.specs.declared.event.Event.{Event}
use Rattle.cw_base.specs.declared.event.Event.TheVariants.{Byte, Drafted, Kept, Made, Replaced}
use Rattle.cw_base.specs.declared.event.Out.{Out}
use Rattle.cw_base.specs.declared.event.Out.TheVariants.{Term, Tex, Idx, Scn}
use Rattle.cw_base.specs.declared.flags.Flags.{Flags}
use Rattle.cw_base.specs.declared.notes.Note.{Note}
use Rattle.cw_desk.specs.Journal.{byte_events}
use Rattle.cw_desk.specs.Meaning.{NamedFiles}
use Rattle.cw_input.specs.declared.words.CommandLine.{CommandLine}
use Rattle.cw_phase1.specs.declared.book.Book.{Book}
use Rattle.cw_run.specs.Closing.{closing_by}
use Rattle.cw_run.specs.Emits.{Run}
use Rattle.cw_lines.specs.{Cut.cut, Line.line_events}
use Rattle.cw_run.specs.Files.{Broken, OutFile, broken_events, broken_in, file_events, settled_if}
use Rattle.cw_run.specs.Notes.{note_events}
use Rattle.cw_run.specs.Saying.{says, says_if}
use Rattle.cw_run.specs.Statistics.{statistics_if}
use Rattle.cw_run.specs.declared.statistics.Totals.{Totals}
use Rattle.cw_secnames.specs.Kept.{SecName}
use Rattle.cw_run.specs.Terminal.{banner_text, index_text, output_text}
use Rattle.cw_press.specs.Done.{Done}
use Rattle.cw_weave.specs.Statistics.{totals_of}
use Rattle.cw_weave.specs.TexFile.{left_by, tex_file}
use Rattle.cw_weave.specs.Woven.{end_of_run, index_events, index_files, index_of, index_out, list_out, book_of}
use Rattle.cw_weave.specs.Woven.{name_list, weave_book, with_banner, woven}
use Rattle.cw_laws.specs.Files.{AskFor, IsThere, KeepEach, files_of, is_of_file, kept_events, rewrites, written_of}

-- ## Events of the terminal

-- none of the events is of a file
record AreTold (events : List Event) : Type 0 where
  none : filter is_of_file events ≡ []

told-bytes : (bytes : List ℕ) → filter is_of_file (byte_events Term bytes) ≡ []
told-bytes [] = refl
told-bytes (byte ∷ bytes) = told-bytes bytes

told-says : (message : List ℕ) → AreTold (says message)
unfolding says
told-says message = record { none = told-bytes (message ++ 10 ∷ []) }

told-both : {first second : List Event} → AreTold first → AreTold second → AreTold (first ++ second)
told-both {first = first} {second = second} a b = grind (arith, nat_tests, filter-append)

told-if : (t : Bool) {events : List Event} → AreTold events → AreTold (list_if t events)
told-if t a = grind (arith, nat_tests)

told-each : {X : Type 0} (tell : X → List Event) → ((x : X) → AreTold (tell x)) → (xs : List X)
    → AreTold (flat_map tell xs)
told-each tell each [] = record { none = refl }
told-each tell each (x ∷ xs) = told-both (each x) (told-each tell each xs)

told-said : (t : Bool) (message : List ℕ) → AreTold (says_if t message)
told-said t message = told-if t (told-says message)

told-notes : (files : List (List ℕ)) (kept : List SecName) (notes : List Note) → AreTold (note_events files kept notes)
told-notes files kept notes = grind (arith, nat_tests, told-each, told-says)

told-broken : (bs : List Broken) → AreTold (flat_map broken_events bs)
told-broken bs = grind (arith, nat_tests, told-each, told-says)

told-statistics : (t : Bool) (totals : Totals) → AreTold (statistics_if t totals)
told-statistics t totals = grind (arith, nat_tests, told-if, told-both, told-says)

told-closing : (faulty any : Bool) (flags : Flags) → AreTold (closing_by faulty any flags)
told-closing faulty any flags = grind (arith, nat_tests, told-says, told-said)

-- ## Events of files

-- the bytes of an output are no bytes of the terminal
abbrev IsFile : Out → Type 0
IsFile out = (byte : ℕ) → is_of_file (Byte out byte) ≡ true

file-bytes : (out : Out) → IsFile out → (bytes : List ℕ)
    → filter is_of_file (byte_events out bytes) ≡ byte_events out bytes
file-bytes out file [] = refl
file-bytes out file (byte ∷ bytes) = grind (arith, nat_tests, file-bytes out file bytes)

kept-same : (f : OutFile) (old : Option (List ℕ)) → old ≡ Some (written_of f.bytes)
    → settled_if true (option_map_or (bytes_eq (written_of f.bytes)) old false) f.out ≡ Kept f.out ∷ []
kept-same f old is =
    ap (λ (old : Option (List ℕ)). settled_if true (option_map_or (bytes_eq (written_of f.bytes)) old false) f.out) is
    ∙ ap (λ (same : Bool). settled_if true same f.out) (nat_list_eq_equiv.refl (written_of f.bytes))

file-kept : (keep : Bool) (f : OutFile) (named : NamedFiles) → keep ≡ true → IsFile f.out → IsThere named f
    → filter is_of_file (file_events keep f named) ≡ kept_events f
file-kept false f named asked file is = absurd cc
file-kept true f named asked file is =
    let rest : filter is_of_file (Drafted f.out f.name ∷ (line_events f.out (cut f.bytes).lines ++ Kept f.out ∷ []))
    ≡ kept_events f = grind (arith, nat_tests, filter-append, file-bytes) in
    ap (λ (end : List Event). filter is_of_file (Drafted f.out f.name ∷ (line_events f.out (cut f.bytes).lines ++ end)))
    (kept-same f (named f.name) is) ∙ rest

-- What is told is left out, and what is done to files is left.
run-kept : {notes said end a b : List Event} (tex index : List Event) → AreTold notes → AreTold said
    → filter is_of_file tex ≡ a → filter is_of_file index ≡ b → AreTold end
    → filter is_of_file (notes ++ (((said ++ tex) ++ index) ++ end)) ≡ a ++ b
run-kept tex index n s t i e = simp (filter-append is_of_file, n.none, s.none, t, i, e.none, append-nil)

two-kept : {said a b : List Event} (first second : List Event) → AreTold said → filter is_of_file first ≡ a
    → filter is_of_file second ≡ b → filter is_of_file (said ++ (first ++ (second ++ []))) ≡ a ++ (b ++ [])
two-kept first second s f g = simp (filter-append is_of_file, s.none, f, g)

-- ## Nothing is rewritten

rewrites-filtered : (events : List Event) → list_any rewrites events ≡ list_any rewrites (filter is_of_file events)
rewrites-filtered [] = refl
rewrites-filtered (Made out name ∷ events) = refl
rewrites-filtered (Byte Term byte ∷ events) = rewrites-filtered events
rewrites-filtered (Byte Tex byte ∷ events) = rewrites-filtered events
rewrites-filtered (Byte Idx byte ∷ events) = rewrites-filtered events
rewrites-filtered (Byte Scn byte ∷ events) = rewrites-filtered events
rewrites-filtered (Drafted out name ∷ events) = rewrites-filtered events
rewrites-filtered (Kept out ∷ events) = rewrites-filtered events
rewrites-filtered (Replaced out ∷ events) = refl

bytes-rewrite : (out : Out) (bytes : List ℕ) (events : List Event)
    → list_any rewrites (byte_events out bytes ++ events) ≡ list_any rewrites events
bytes-rewrite out [] events = refl
bytes-rewrite out (byte ∷ bytes) events = bytes-rewrite out bytes events

kept-rewrite : (files : List OutFile) → list_any rewrites (flat_map kept_events files) ≡ false
kept-rewrite [] = refl
kept-rewrite (f ∷ files) = grind (arith, nat_tests, kept-rewrite files, list_any-append, bytes-rewrite)

keep-each : (files : List OutFile) (events : List Event) → filter is_of_file events ≡ flat_map kept_events files
    → KeepEach files events
keep-each files events is = grind (arith, nat_tests, rewrites-filtered, kept-rewrite)

-- ## Of the run

keeps-index : (t : Bool) (line : CommandLine) (text : List ℕ) (left : Book) (named : NamedFiles) → line.flags.keep
    ≡ true → AllByRecursion (IsThere named) (index_files t line text left) → filter is_of_file (index_events t
    line.flags (index_files t line text left) named) ≡ flat_map kept_events (index_files t line text left)
keeps-index false line text left named asked there = refl
keeps-index true line text left named asked there =
    let index : OutFile = index_out line.outputs (index_of left) in
    let names : OutFile = list_out line.outputs (name_list text line.flags left).out in
    two-kept (file_events line.flags.keep index named) (file_events line.flags.keep names named)
    (told-said line.flags.progress index_text) (file-kept line.flags.keep index named asked (λ byte. refl) there.0)
    (file-kept line.flags.keep names named asked (λ byte. refl) there.1.0)

told-end : (flags : Flags) (broken : List Broken) (totals : Totals) (notes : List Note)
    → AreTold (end_of_run flags broken totals notes).rest
told-end flags broken totals notes =
    grind (arith, nat_tests, told-both, told-said, told-broken, told-statistics, told-closing)

pub keeps : (line : CommandLine) (web : WebState) (b : Book) (named : NamedFiles) → line.flags.keep ≡ true
    → AllByRecursion (IsThere named) (files_of line (text_of web.lines) b)
    → KeepEach (files_of line (text_of web.lines) b) (weave_book line web b named).rest
keeps line web b named asked there =
    let text : List ℕ = text_of web.lines in
    let done : Done ℕ = tex_file text line.flags b in
    let left : Book = left_by text line.flags b done in
    let tex : OutFile = record { out = Tex; name = line.outputs.tex; bytes = done.out } in
    let index : List OutFile = index_files line.flags.index line text left in
    let notes : List Note = web.notes ++ b.outline.notes in
    let totals : Totals = totals_of line.flags b.outline.sections done in
    keep-each (files_of line text b) (weave_book line web b named).rest
    (run-kept (file_events line.flags.keep tex named) (index_events line.flags.index line.flags index named)
    (told-notes web.files b.sec_names notes) (told-said line.flags.progress output_text) (file-kept line.flags.keep tex
    named asked (λ byte. refl) there.0) (keeps-index line.flags.index line text left named asked there.1)
    (told-end line.flags (map broken_in (tex ∷ index)) totals notes))

-- ## Of the run from its words on

told-before : {told : List Event} (events : List Event) (files : List OutFile) → AreTold told → KeepEach files events
    → KeepEach files (told ++ events)
told-before {told = told} events files told-alone keep =
    grind (arith, nat_tests, common_steps, filter-append is_of_file told events, keep-each, filter-append)

run-is : (words : List (List ℕ)) (named : NamedFiles) (line : CommandLine) (web : WebState) → AskFor words named line
    web → woven words named ≡ with_banner line.flags (weave_book line web (book_of line.flags web) named)
run-is words named line web asked = grind (arith, nat_tests)

pub keeps-by-run : (words : List (List ℕ)) (named : NamedFiles) (line : CommandLine) (web : WebState)
    → AskFor words named line web → line.flags.keep ≡ true
    → AllByRecursion (IsThere named) (files_of line (text_of web.lines) (book_of line.flags web))
    → KeepEach (files_of line (text_of web.lines) (book_of line.flags web)) (woven words named).rest
keeps-by-run words named line web asked keep there =
    let b : Book = book_of line.flags web in
    let files : List OutFile = files_of line (text_of web.lines) b in
    subst (λ (run : Run). KeepEach files run.rest) (sym (run-is words named line web asked)) (told-before (weave_book
    line web b named).rest files (told-said line.flags.banner banner_text) (keeps line web b named keep there))
