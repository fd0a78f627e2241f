-- A greeting is woven over real files: the answers that the system gives stand here, and what has to be printed and
-- written then, byte by byte.
use Rattle.std.specs.Prelude.{◌≡◌, ◌≢◌, ℕ, List, [], ◌∷◌, ◌++◌, codes}
use Rattle.std.specs.FinMap.{get}
use Rattle.cw_base.specs.declared.event.Event.{Event}
use Rattle.cw_base.specs.declared.event.Event.TheVariants.{Made}
use Rattle.cw_base.specs.declared.event.Out.TheVariants.{Tex, Idx, Scn}
use Rattle.cw_base.specs.declared.exit.Exit.{Exit}
use Rattle.cw_base.specs.declared.exit.Exit.TheVariants.{Clean, Fault, Memory}
use Rattle.cw_desk.specs.Answer.{Agree, Answer, Opened, Read, End}
use Rattle.cw_desk.specs.Journal.{byte_events}
use Rattle.cw_desk.specs.Meaning.{Files}
use Rattle.cw_run.specs.Program.{Outcome}
use Rattle.cw_run.specs.Saying.{says}
use Rattle.cw_weave.specs.Woven.{woven}

-- the words `foo`, and the bytes of `foo.w`
abbrev pub greeting_words : List (List ℕ)
greeting_words = codes "foo" ∷ []

abbrev pub greeting_name : List ℕ
greeting_name = codes "foo.w"

abbrev pub greeting : List ℕ
greeting = codes "% limbo\n@ Hello.\n"

-- What the system answers, the newest first: the web is opened, all its bytes come at once, and no more of them.
abbrev pub greeting_answers : List Answer
greeting_answers = End 0 ∷ Read 0 greeting ∷ Opened 0 greeting_name ∷ []

abbrev pub greeting_events : List Event
greeting_events =
    says (codes "This is CWEAVE (profile 4)") ++ says (codes "Writing the output file...")
    ++ Made Tex (codes "foo.tex")
    ∷ (byte_events Tex (codes "\\input cwebmac\n% limbo\n\\M{1}Hello.\n\\fi\n\n\\inx\n\\fin\n\\end\n")
    ++ says (codes "Writing the index...") ++ Made Idx (codes "foo.idx") ∷ (Made Scn (codes "foo.scn")
    ∷ (says (codes "Done.") ++ says (codes "(No errors were found.)"))))

-- Whatever was done over files that would have given these answers, as the clause of real files says it: where the run
-- ended, these are its events, and its status is that nothing was wrong.
abbrev pub GreetingIsWoven : Type 0
GreetingIsWoven =
    (journal : List Event) (exit : Exit)
    → ((files : Files) → Agree greeting_answers files
    → Outcome (woven greeting_words (get files)) [] journal exit)
    → exit ≢ Fault → exit ≢ Memory → (journal ≡ greeting_events) × (exit ≡ Clean)
