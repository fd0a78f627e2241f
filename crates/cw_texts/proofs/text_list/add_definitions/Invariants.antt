-- The definitions so far are added.
use Rattle.cw_texts.proofs.Terms.{◌≡◌, ◌++◌, length, not_silent, printed_definitions, definition_refs}
use Rattle.cw_texts.proofs.text_list.add_definitions.Given as goal

abbrev pub invariant-printed : goal.invariant-printed
invariant-printed l = l.list ++ definition_refs l.number
    (not_silent l.definitions) ≡ l.fn.list ++ definition_refs l.number (printed_definitions l.text l.fn.part)

abbrev pub decreases-printed : goal.decreases-printed
decreases-printed l = length (not_silent l.definitions)
