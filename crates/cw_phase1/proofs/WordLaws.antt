-- The names, occurrences, uses and references that are told are those of the whole list.
use Rattle.cw_phase1.proofs.Terms.{◌≡◌, ℕ, zero, suc, ◌+◌, ◌<◌, ◌≤◌, Bool, true, false, List, [], ◌∷◌, ◌++◌, Some, None}
use Rattle.cw_phase1.proofs.Terms.{length, map, cond, not, eqb, refl, sym, arith, length-append, append_assoc, add-zero}
use Rattle.cw_phase1.proofs.Terms.{append-nil, map-append, bytes_decides, MergedLine, Cat, Exp, EntryKind, Ident}
use Rattle.cw_phase1.proofs.Terms.{built_in_words, Role, TokenLists, Placement, text_behind_code, KnownNames, Mention}
use Rattle.cw_phase1.proofs.Terms.{word, with_format, known_behind, known_after, mention_by, mentions_from, occurrence}
use Rattle.cw_phase1.proofs.Terms.{occurrences, uses_of, references_of, known_of, told_step, told_all, told_start}
use Rattle.cw_phase1.proofs.Terms.{NameId, Option}
use Rattle.std.proofs.lemmas.List.Folds.{position_or_len_push}
use Rattle.cw_phase1.proofs.NameLaws.{category-length}
use Rattle.cw_names.specs.Names as names
use Rattle.cw_phase1.specs.declared.roles.Role.TheVariants as roles

-- The name of this kind and text stands at a place.
record Stands (kind : EntryKind) (text : List ℕ) (n : ℕ) (entries : List names.Entry) : Type 0 where
  place : names.place_of kind text entries ≡ n
  below : n < length entries

category-place : (kind : EntryKind) (text : List ℕ) (place : ℕ) (category : Cat) (entries : List names.Entry)
    → names.place_of kind text (names.with_category place category entries) ≡ names.place_of kind text entries
category-place kind text place category [] = refl
category-place kind text zero category (e ∷ es) = refl
category-place kind text (suc place) category (e ∷ es) = grind (arith, category-place kind text place category es)

not-same : (a b : ℕ) → a < b → eqb a b ≡ false
not-same a b h = grind arith

entry-by : (t : Bool) (kind : EntryKind) (text : List ℕ) (n : ℕ) (e : names.Entry) (entries : List names.Entry)
    → Stands kind text n entries → Stands kind text n (cond t entries (entries ++ e ∷ []))
entry-by true kind text n e entries s = s
entry-by false kind text n e entries s = grind (arith, position_or_len_push, not-same, length-append)

with-entry : (kind : EntryKind) (text : List ℕ) (n : ℕ) (other : EntryKind) (word : List ℕ) (entries : List names.Entry)
    → Stands kind text n entries → Stands kind text n (names.with_entry other word entries)
with-entry kind text n other word entries s = entry-by _ kind text n _ entries s

format : (first : Option NameId) (kind : EntryKind) (text : List ℕ) (n : ℕ) (second : NameId)
    (entries : List names.Entry) → Stands kind text n entries → Stands kind text n (with_format first second entries)
format None kind text n second entries s = s
format (Some first) kind text n second entries s = grind (arith, category-place, category-length)

-- ## A name has its place from its first occurrence on

same-kind : (kind : EntryKind) → names.same_kind kind kind ≡ true
same-kind kind = grind arith

same-entry : (kind : EntryKind) (text : List ℕ) → names.is_entry kind text
    (record { kind = kind; text = text; category = Exp }) ≡ true
same-entry kind text = rw (same-kind kind, (bytes_decides text text).1 refl) refl

le-by : (t : Bool) (a b : ℕ) → a ≤ b → cond (not t) (1 + a) 0 ≤ suc b
le-by t a b h = grind arith

place-le : (kind : EntryKind) (text : List ℕ) (entries : List names.Entry)
    → names.place_of kind text entries ≤ length entries
place-le kind text [] = omega arith
place-le kind text (e ∷ es) = le-by (names.is_entry kind text e) _ _ (place-le kind text es)

entered : (kind : EntryKind) (text : List ℕ) (entries : List names.Entry)
    → Stands kind text (names.place_of kind text entries) (names.with_entry kind text entries)
entered kind text entries = grind (arith, place-le, position_or_len_push, same-entry, add-zero, length-append)

role-keeps : (kind : EntryKind) (text : List ℕ) (n : ℕ) (role : Role) (word : List ℕ) (k : KnownNames)
    → Stands kind text n k.names → Stands kind text n (known_behind role word k).names
role-keeps kind text n (roles.SecondName silent) word k s =
    format k.first kind text n _ _ (with-entry kind text n Ident word k.names s)
role-keeps kind text n (roles.Entry other) word k s = with-entry kind text n other (text_behind_code word) k.names s
role-keeps kind text n roles.SectionCode word k s = s
role-keeps kind text n roles.Underline word k s = s
role-keeps kind text n (roles.Name how) word k s = s
role-keeps kind text n roles.Plain word k s = s
role-keeps kind text n _ word k s = with-entry kind text n Ident word k.names s

keeps : (kind : EntryKind) (text : List ℕ) (n : ℕ) (ps : List Placement) (k : KnownNames)
    → Stands kind text n k.names → Stands kind text n (known_after ps k).names
keeps kind text n [] k s = s
keeps kind text n (p ∷ ps) k s = keeps kind text n ps _ (role-keeps kind text n p.role p.token.text k s)

one : (m : Mention) (entries : List names.Entry) (ps : List Placement) (k : KnownNames)
    → Stands m.kind m.text (names.place_of m.kind m.text entries) k.names
    → map (occurrence entries) (m ∷ []) ≡ map (occurrence (known_after ps k).names) (m ∷ [])
one m entries ps k s = grind (arith, keeps)

mentioned : (role : Role) (p : Placement) (waits : Bool) (ps : List Placement) (k : KnownNames)
    → map (occurrence k.names) (mention_by role p waits)
    ≡ map (occurrence (known_after ps (known_behind role p.token.text k)).names) (mention_by role p waits)
mentioned roles.MacroName p waits ps k = one (word p true) k.names ps _ (entered Ident p.token.text k.names)
mentioned roles.Parameter p waits ps k = one (word p waits) k.names ps _ (entered Ident p.token.text k.names)
mentioned roles.Word p waits ps k = one (word p waits) k.names ps _ (entered Ident p.token.text k.names)
mentioned (roles.FirstName false) p waits ps k = one (word p waits) k.names ps _ (entered Ident p.token.text k.names)
mentioned (roles.SecondName false) p waits ps k = one (word p _) k.names ps _ (format _ _ _ _ _ _ (entered _ _ _))
mentioned (roles.Entry kind) p waits ps k = one _ _ ps _ (entered kind _ _)
mentioned _ _ _ _ _ = refl

-- ## What is told in the end

names-told : (lines : List MergedLine) (ps : List Placement) (t : TokenLists)
    → (told_all lines ps t).words.names ≡ (known_after ps (known_of t.words)).names
names-told lines [] t = refl
names-told lines (p ∷ ps) t = names-told lines ps (told_step lines p t)

pub all-names : (lines : List MergedLine) (ps : List Placement) → (told_all lines ps told_start).words.names
    ≡ (known_after ps (record { first = None; names = built_in_words })).names
all-names lines ps = names-told lines ps told_start

xrefs-told : (lines : List MergedLine) (ps : List Placement) (t : TokenLists) → (told_all lines ps t).words.xrefs
    ≡ t.words.xrefs
    ++ map (occurrence (known_after ps (known_of t.words)).names) (mentions_from t.words.waits ps)
xrefs-told lines [] t = sym (append-nil t.words.xrefs)
xrefs-told lines (p ∷ ps) t =
    grind (arith, xrefs-told lines ps (told_step lines p t), mentioned, append_assoc, map-append)

pub all-occurrences : (lines : List MergedLine) (ps : List Placement)
    → (told_all lines ps told_start).words.xrefs
    ≡ occurrences ((known_after ps (record { first = None; names = built_in_words })).names) ps
all-occurrences lines ps = xrefs-told lines ps told_start

uses-told : (lines : List MergedLine) (ps : List Placement) (t : TokenLists) → (told_all lines ps t).named.uses
    ≡ t.named.uses ++ uses_of ps
uses-told lines [] t = sym (append-nil t.named.uses)
uses-told lines (p ∷ ps) t = grind (arith, uses-told lines ps (told_step lines p t), append_assoc)

pub all-uses : (lines : List MergedLine) (ps : List Placement) → (told_all lines ps told_start).named.uses ≡ uses_of ps
all-uses lines ps = uses-told lines ps told_start

references-told : (lines : List MergedLine) (ps : List Placement) (t : TokenLists)
    → (told_all lines ps t).named.references
    ≡ t.named.references ++ references_of ps
references-told lines [] t = sym (append-nil t.named.references)
references-told lines (p ∷ ps) t = grind (arith, references-told lines ps (told_step lines p t), append_assoc)

pub all-references : (lines : List MergedLine) (ps : List Placement) → (told_all lines ps told_start).named.references
    ≡ references_of ps
all-references lines ps = references-told lines ps told_start

-- A name is among the names from its first appearance on, and the names only grow.
pub entered-below : (kind : EntryKind) (text : List ℕ) (entries : List names.Entry)
    → names.place_of kind text entries < length (names.with_entry kind text entries)
entered-below kind text entries = (entered kind text entries).below

pub entry-grows : (kind : EntryKind) (text : List ℕ) (entries : List names.Entry)
    → length entries ≤ length (names.with_entry kind text entries)
entry-grows kind text entries = grind (arith, length-append)
