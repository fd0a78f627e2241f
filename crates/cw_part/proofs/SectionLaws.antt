-- Pieces of a section, in the setting of the section.
use Rattle.cw_part.proofs.Terms.{◌≡◌, ℕ, ◌+◌, refl, List, arith, Result, Flags, PutError, Entry, part_setting}
use Rattle.cw_part.proofs.Terms.{rest_done, IsWholeRest, Book, Section, Counts, Done, Lasting, Setting, setting, Press}
use Rattle.cw_part.proofs.Terms.{Weaves}
use Rattle.cw_press.specs.declared.section_at_hand.SectionAtHand.{SectionAtHand}
use Rattle.cw_press.proofs.WovenLaws.{AreSums, Weaving}

-- the same of what stays of a book
pub moved : (p : SectionAtHand) (d : Setting → Done ℕ) {l l' : Lasting} {old new : Press}
    {result : Result Counts PutError} → l ≡ l' → Weaves (part_setting p l) (d (part_setting p l)) old new result
    → Weaves (part_setting p l') (d (part_setting p l')) old new result
moved p d {old = old} {new = new} {result = result} same woven = grind arith

-- the same rest
pub weaving-as : {s : Setting} {rest rest' : List Entry → Done ℕ} {all : Done ℕ} {old now : Press} {counts : Counts}
    → rest ≡ rest' → Weaving s rest all old now counts → Weaving s rest' all old now counts
weaving-as {s = s} {all = all} {old = old} {now = now} {counts = counts} same w = grind arith

-- ## The section of a number, and the text of a web

pub whole-as : {text text' : List ℕ} {s s' : Section} → text ≡ text' → s ≡ s' → IsWholeRest text s
    → IsWholeRest text' s'
whole-as {text' = text'} {s = s} same is whole = grind arith

pub woven-as : (flags : Flags) (n : ℕ) (b : Book) {text text' : List ℕ} {s s' : Section} {old new : Press}
    {result : Result Counts PutError} → text ≡ text' → s ≡ s'
    → Weaves (setting text flags n b) (rest_done (setting text flags n b) s b.names) old new result
    → Weaves (setting text' flags n b) (rest_done (setting text' flags n b) s' b.names) old new result
woven-as flags n b same is woven = rw (← is, ← same) woven

-- ## Counts

-- the sums of counts
abbrev pub sum_of : Counts → Counts → Counts
sum_of a b = record { scraps = a.scraps + b.scraps; productions = a.productions + b.productions }

pub sums-are : (a b : Counts) → AreSums (sum_of a b) a b
sums-are a b = record { scraps = refl; productions = refl }
