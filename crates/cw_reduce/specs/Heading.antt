-- A text with its head, where the head was read from the scanner's answers.
use Rattle.std.specs.Prelude.{◌≡◌, ℕ, List, [], ◌∷◌, Option, Some, None}
use Rattle.cw_base.specs.declared.flags.Flags.{Flags}
use Rattle.cw_rules.specs.Answers.{Answer}
use Rattle.cw_lex.specs.Heads.{headed}
use Rattle.cw_lex.specs.Nest.{nest}
use Rattle.cw_names.specs.Names.{Entry}
use Rattle.cw_tokens.specs.declared.token.Token.{Token}
use Rattle.cw_scraps.specs.Lines.{scraps_of}
use Rattle.cw_reduce.specs.declared.heads.HeadRead.{HeadRead}
use Rattle.cw_reduce.specs.declared.heads.HeadRead.TheVariants as read
use Rattle.cw_translator.specs.declared.holders.Holder.{Holder}
use Rattle.cw_translator.specs.declared.holders.Holder.TheVariants as holder
use Rattle.cw_reduce.specs.HeadReading.{NamesWithin, head_line, read_made, words_in}
use Rattle.cw_reduce.specs.Naming.{held_answers, with_texts}
use Rattle.cw_translator.specs.Reading.{CText, Progress, after_answers, with_held}
use Rattle.cw_translator.specs.Retyping.{NamesAmong, NamesOnTheWay}
use Rattle.cw_translator.specs.Translating.{Known, NameTexts, begin, head_made}
use Rattle.cw_translator.specs.Translating.{translated}
use Rattle.cw_translator.specs.Working.{Target}

-- The name at the head of a C part, with its inner texts.
abbrev pub after_held : Flags → Option (List (List Answer)) → Holder → Progress → Progress
after_held flags None held_by p = p
after_held flags (Some texts) held_by p = after_answers flags (held_answers texts) (with_held held_by p)

abbrev pub after_head : Flags → NameTexts → HeadRead → Progress → Progress
after_head flags named (read.Named number sign) p = after_held flags (named number) (holder.Head number sign) p
after_head flags named head p = p

abbrev pub NamesOfHeld : Flags → Option (List (List Answer)) → Holder → Progress → List Entry → Type 0
NamesOfHeld flags None held_by p new = ⊥
NamesOfHeld flags (Some texts) held_by p new = NamesAmong flags (held_answers texts) (with_held held_by p) new

abbrev pub NamesOfHead : Flags → NameTexts → HeadRead → Progress → List Entry → Type 0
NamesOfHead flags named (read.Named number sign) p new = NamesOfHeld flags (named number) (holder.Head number sign) p
    new
NamesOfHead flags named head p new = ⊥

-- a text with the scrap of its head begins
abbrev pub head_begun : List (List Token) → HeadRead → Known → Progress
head_begun lists head known = record { frames = CText (scraps_of lists (head_line head)) ∷ []; known = known }

-- The names as a translation leaves them that ends for want of memory behind this head: those in the inner texts of its
-- name, or those on the way over the answers behind it.
pub data NamesOfHeaded (flags : Flags) (named : NameTexts) (head : HeadRead) (rest : List Answer) (p : Progress)
    (new : List Entry) : Type 0 where
  in_name : NamesOfHead flags named head p new → NamesOfHeaded flags named head rest p new
  behind : NamesOnTheWay flags (with_texts named rest) (after_head flags named head p) new
      → NamesOfHeaded flags named head rest p new

-- The names as a translation leaves them that ends for want of memory: those behind some words of its head, or those on
-- the way behind the head, which has made what the definition says.
pub data NamesOfText (flags : Flags) (named : NameTexts) (answers : List Answer) (names : List Entry) (marks : List ℕ)
    (new : List Entry) : Type 0 where
  in_head : NamesWithin (words_in (headed (nest answers)).head) names new
      → NamesOfText flags named answers names marks new
  behind_head : (lists : List (List Token)) (head : HeadRead) (rest : List Answer) (spelt : List Entry) → nest rest
      ≡ (headed (nest answers)).rest
      → head_made flags named (headed (nest answers)).head (begin names marks)
      ≡ read_made flags named lists head (begin spelt marks)
      → NamesOfHeaded flags named head rest (head_begun lists head (begin spelt marks)) new
      → NamesOfText flags named answers names marks new

abbrev pub to_translation : Flags → NameTexts → List Answer → List Entry → List ℕ → Target
to_translation flags named answers names marks = record {
  flags = flags;
  text = translated flags named answers names marks;
  leaves = λ new. NamesOfText flags named answers names marks new;
}
