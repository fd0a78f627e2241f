-- The run of the greeting by computation, over the one file that gives its answers.
use Rattle.std.specs.Prelude.{◌≡◌, ◌≢◌, ℕ, List, [], ◌∷◌, ◌++◌, Option, Some, drop, length}
use Rattle.std.specs.Cmp.Lexicographic.{slice_cmp, nat_list_cmp_total}
use Rattle.std.specs.FinMap.{find, from_entries, get, get-from_entries}
use Rattle.std.specs.Fmt.{digits}
use Rattle.std.specs.Ordering.{nat_cmp}
use Rattle.std.proofs.Common.{refl, sym, subst}
use Rattle.cw_base.specs.declared.event.Event.{Event}
use Rattle.cw_base.specs.declared.exit.Exit.{Exit}
use Rattle.cw_base.specs.declared.exit.Exit.TheVariants.{Clean, Errors, Fault, Memory}
use Rattle.cw_desk.specs.Answer.{Agree, text_of}
use Rattle.cw_desk.specs.Meaning.{Files, NamedFiles}
use Rattle.cw_input.specs.Merge.{new_lines, web_lines}
use Rattle.cw_lines.specs.Cut.{cut_behind, divide}
use Rattle.cw_run.specs.Program.{Outcome}
use Rattle.cw_run.specs.Emits.{Run}
use Rattle.cw_run.specs.Saying.{says}
use Rattle.cw_table.specs.Normal.{count, log, normal}
use Rattle.cw_table.specs.NormalWalk.{positions}
use Rattle.cw_table.specs.Productions.{productions}
use Rattle.cw_table.specs.WalkCounts.{looks}
use Rattle.cw_translator.specs.Translating.{translated}
use Rattle.cw_weave.specs.Woven.{woven}
use Rattle.cw_laws.specs.Greeting.{GreetingIsWoven, greeting, greeting_answers, greeting_events, greeting_name}
use Rattle.cw_laws.specs.Greeting.{greeting_words}

abbrev entries : List (List ℕ × List ℕ)
entries = (greeting_name, greeting) ∷ []

abbrev the_files : Files
the_files = from_entries entries

-- the one file, as a question
abbrev named : NamedFiles
named name = find (slice_cmp nat_cmp) name ((greeting_name, greeting) ∷ [])

asked : (name : List ℕ) → get the_files name ≡ named name
asked name = get-from_entries nat_list_cmp_total entries name

all-asked : (λ name. get the_files name) ≡ named
all-asked = λ i name. asked name i

-- What agreement says of a file that was opened and read at once, and then ended.
agrees-by : (found : Option (List ℕ)) → found ≡ Some greeting → ((Unit {0} × (found ≡ Some (text_of found))) × (text_of
    found ≡ greeting ++ drop (length greeting) (text_of found))) × (drop (length greeting) (text_of found) ≡ [])
agrees-by found is = subst (λ (f : Option (List ℕ)). ((Unit {0} × (f ≡ Some (text_of f)))
    × (text_of f ≡ greeting ++ drop (length greeting) (text_of f))) × (drop (length greeting) (text_of f) ≡ []))
    (sym is) (((tt, refl), refl), refl)

agree : Agree greeting_answers the_files
agree = agrees-by (get the_files greeting_name) (asked greeting_name)

is-woven : woven greeting_words named ≡ record { rest = greeting_events; exit = Clean }
unfolding digits cut_behind divide new_lines web_lines says translated normal log count positions looks productions
is-woven = refl

ends : (journal : List Event) (exit : Exit) → Outcome (record { rest = greeting_events; exit = Clean }) [] journal exit
    → exit ≢ Fault → exit ≢ Memory → (journal ≡ greeting_events) × (exit ≡ Clean)
ends journal Clean done fault memory = (done.0, refl)
ends journal Errors done fault memory = absurd cc
ends journal Fault done fault memory = absurd (fault refl)
ends journal Memory done fault memory = absurd (memory refl)

pub greeting-woven : GreetingIsWoven
greeting-woven journal exit done fault memory =
    let over : Outcome (woven greeting_words named) [] journal exit =
    subst (λ (n : NamedFiles). Outcome (woven greeting_words n) [] journal exit) all-asked (done the_files agree) in
    ends journal exit (subst (λ (run : Run). Outcome run [] journal exit) is-woven over) fault memory
