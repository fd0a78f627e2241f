-- The plain text of a translation has the bytes of each token that is shown.
use Rattle.cw_plain_laws.proofs.Terms.{◌≡◌, ℕ, true, false, List, Option, is_some, subst, arith, Flags, c-texts-nested}
use Rattle.cw_plain_laws.proofs.Terms.{headed, without_head, tokens_of, IsWell, nest, IsNested, begins_section_in}
use Rattle.cw_plain_laws.proofs.Terms.{is_c_mode, Entry, PlainSource, PlainHasEachToken, own_ink, text_source}
use Rattle.cw_plain_laws.proofs.Terms.{text_tree, translated-shown, Answer, Mode}
use Rattle.cw_base.specs.declared.span.Span.{Span}
use Rattle.cw_lex.proofs.{HeadNests.head-leaves, Nests.nest-well}
use Rattle.cw_plain.specs.Titles.{text_kept}
use Rattle.cw_plain_laws.proofs.{MadeWalks.AreTitled, MadeWalks.headed-walks, OwnInks.walked-inks, Walks.Walks}
use Rattle.cw_plain_laws.proofs.FoundTokens.{AllTokens, IsFound, nest-all, tokens-found}
use Rattle.cw_secnames.specs.{Kept.SecName, Uses.NameUse}
use Rattle.cw_translator.specs.Translating.{NameTexts, begin, translated}
use Rattle.cw_translator.specs.NameParts.{parts_by_kind}
use Rattle.std.specs.List.{slice_get}
use Rattle.std.specs.Option.{option_and_then, option_map}

-- the names of a book have titles where they stand for something
kept-titled : (kept : List SecName) (o : Option ℕ) → is_some (text_kept kept o)
    ≡ is_some (option_and_then (λ k. option_map (λ name. parts_by_kind name.kind name.text) (slice_get kept k)) o)
kept-titled kept o = grind (arith, is_some)

pub translated-walks : (s : PlainSource) (flags : Flags) (named : NameTexts) (answers : List Answer)
    (names : List Entry)
    (marks : List ℕ) → AreTitled s named → IsNested answers → AllTokens (IsFound s.answers) answers
    → Walks s (translated flags named answers names marks).tree
unfolding translated
translated-walks s flags named answers names marks titled nested found =
    let behind = head-leaves answers nested in
    let well : IsWell false (headed (nest answers)).rest = subst (IsWell false) behind.1
    (nest-well (without_head answers) behind.0) in
    headed-walks s flags named (nest answers) (begin names marks) titled well
    (nest-all (IsFound s.answers) answers found)

pub text-walks : (flags : Flags) (kept : List SecName) (uses : List NameUse) (text : List ℕ) (span : Span)
    (mode : Mode) (names : List Entry) (marks : List ℕ) → is_c_mode mode ≡ true
    → begins_section_in (tokens_of text span.start span.end mode) ≡ false
    → Walks (text_source kept uses text span mode) (text_tree flags kept uses text span mode names marks)
text-walks flags kept uses text span mode names marks c_mode uncut =
    grind (arith, translated-walks, text_source, kept-titled, c-texts-nested, tokens-found)

pub plain-has-each : PlainHasEachToken
plain-has-each flags kept uses text span mode names marks is =
    grind (arith, text_source, walked-inks, text_tree, text-walks, own_ink, translated-shown, c-texts-nested)
