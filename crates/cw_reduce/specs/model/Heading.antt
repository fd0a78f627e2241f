-- The models beside `specs/Heading`.
use Rattle.std.specs.Prelude.{List, [], ◌∷◌, Option}
use Rattle.cw_base.specs.declared.flags.Flags.{Flags}
use Rattle.cw_rules.specs.Answers.{Answer}
use Rattle.cw_lex.specs.Nest.{nest}
use Rattle.cw_tokens.specs.declared.token.Token.{Token}
use Rattle.cw_reduce.specs.declared.heads.HeadRead.{HeadRead}
use Rattle.cw_translator.specs.declared.holders.Holder.{Holder}
use Rattle.cw_reduce.specs.HeadReading.{head_line, read_made}
use Rattle.cw_reduce.specs.Naming.{with_texts}
use Rattle.cw_translator.specs.Reading.{CText, Progress, after_answers}
use Rattle.cw_translator.specs.Translating.{Ended, Known, NameTexts, made_before, end_of}
use Rattle.cw_translator.specs.Translating.{leaf_of_name}
use Rattle.cw_translator.specs.Translating.{made}
use Rattle.cw_translator.specs.declared.nesting.Open.TheVariants as opens
use Rattle.cw_translator.specs.declared.translator.Translator.{Translator}
use Rattle.cw_translator.specs.Working.{Route, Target}
use Rattle.cw_reduce.specs.Heading.{NamesOfHead, NamesOfHeaded, NamesOfHeld, after_head, after_held, head_begun}

-- the translation of a text with this head and these answers behind it
abbrev pub headed_text : Flags → NameTexts → List (List Token) → HeadRead → List Answer → Known → Ended
headed_text flags named lists head rest known =
    end_of flags (made_before (read_made flags named lists head known)
    (made flags (leaf_of_name flags named) (nest rest)))

-- ## Routes and outcomes

abbrev pub over_held : Flags → Option (List (List Answer)) → Holder → Progress → Route
over_held flags texts held_by p = record {
  flags = flags;
  ends = after_held flags texts held_by p;
  leaves = λ new. NamesOfHeld flags texts held_by p new;
}

abbrev pub over_head : Flags → NameTexts → HeadRead → Progress → Route
over_head flags named head p = record {
  flags = flags;
  ends = after_head flags named head p;
  leaves = λ new. NamesOfHead flags named head p new;
}

abbrev pub over_headed : Flags → NameTexts → HeadRead → List Answer → Progress → Route
over_headed flags named head rest p = record {
  flags = flags;
  ends = after_answers flags (with_texts named rest) (after_head flags named head p);
  leaves = λ new. NamesOfHeaded flags named head rest p new;
}

-- a translation that begins with a head
abbrev pub of_head : HeadRead → Translator
of_head head = record { nesting = opens.CText (head_line head) ∷ []; scraps = 0; productions = 0 }

abbrev pub to_headed : Flags → NameTexts → List (List Token) → HeadRead → List Answer → Known → Target
to_headed flags named lists head rest known = record {
  flags = flags;
  text = headed_text flags named lists head rest known;
  leaves = λ new. NamesOfHeaded flags named head rest (head_begun lists head known) new;
}
