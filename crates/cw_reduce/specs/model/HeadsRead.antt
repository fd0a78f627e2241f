-- A call that reads the head with which a text begins.
use Rattle.std.specs.Prelude.{◌≡◌, ◌^◌, List, [], ◌++◌, None, Result, IfOk, OnOk, OnErr}
use Rattle.cw_base.specs.declared.flags.Flags.{Flags}
use Rattle.cw_base.specs.declared.memory.Memory.{Memory}
use Rattle.cw_rules.specs.Answers.{Answer}
use Rattle.cw_lex.specs.Heads.{Headed}
use Rattle.cw_lex.specs.Nest.{nest}
use Rattle.cw_lex.specs.Nested.{IsNested}
use Rattle.cw_names.specs.Names.{Entry}
use Rattle.cw_tokens.specs.Stored.{StoredLists}
use Rattle.cw_scraps.specs.Changing.{Keeps}
use Rattle.cw_scraps.specs.Lines.{IsSoundLine, roots_of}
use Rattle.cw_reduce.specs.declared.heads.Beginning.{Beginning}
use Rattle.cw_reduce.specs.HeadReading.{NamesWithin, head_line, read_made, words_in}
use Rattle.cw_reduce.specs.model.HeadReading.{answers_ahead}
use Rattle.cw_translator.specs.Opening.{StartsBelow}
use Rattle.cw_translator.specs.Translating.{Known, NameTexts, head_made, spelled, with_names}

-- A head was read, and these answers are still to come. What it makes is what the definition says, the names are those
-- behind its words, and the answers behind it are those of what the definition leaves. Its scrap is sound, and the
-- lists that the store held stay. Where the call was refused, the names are those behind some words, and no list is
-- new.
pub record HeadIsRead (h : Headed) (old : StoredLists) (names : List Entry) (new : StoredLists) (names' : List Entry)
    (coming : List Answer) (result : Result Beginning Memory) : Type 0 where
  pub made : IfOk result (λ begun. (flags : Flags) (named : NameTexts) (known : Known)
      → head_made flags named h.head (with_names names known)
      ≡ read_made flags named new.lists begun.head (with_names names' known))
  pub spelt : OnOk result (names' ≡ (spelled (words_in h.head) names).names)
  pub rest : IfOk result (λ begun. nest (answers_ahead begun ++ coming) ≡ h.rest)
  pub nested : IfOk result (λ begun. IsNested (answers_ahead begun ++ coming))
  pub start : IfOk result (λ begun. StartsBelow (2 ^ 32) (answers_ahead begun ++ coming))
  pub sound : IfOk result (λ begun. IsSoundLine new names' (head_line begun.head))
  pub keeps : IfOk result (λ begun. Keeps old.lists new.lists [] (roots_of (head_line begun.head)))
  pub idle : new.building ≡ None
  pub no_names : OnErr result (NamesWithin (words_in h.head) names names')
  pub no_lists : OnErr result (new.lists ≡ old.lists)
