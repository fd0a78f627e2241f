-- The names of a section list are whole.
use Rattle.cw_index.proofs.Terms.{arith, ◌≡◌, ℕ, Bool, true, false, List, [], ◌∷◌, ◌++◌, All, Option, None, slice_get}
use Rattle.cw_index.proofs.Terms.{insert_key, All-append, All-head, All-map, All-nil, All-tail, All-insert_key, TokKind}
use Rattle.cw_index.proofs.Terms.{Answer, Token, Begin, Finish, Note, Seen, has_sign, is_name_kind, SecName, id}
use Rattle.cw_index.proofs.Terms.{NameUse, Listed, IsWholeName, sorted_on, StandingName, kept_stand, named_stands}
use Rattle.cw_index.proofs.Terms.{stand_at, stand_cmp}
use Rattle.cw_base.specs.Web.{text_of}
use Rattle.cw_phase1.specs.{declared.roles.Standing.Standing, Book.answers_of, Book.book, Entering.entered_name}
use Rattle.cw_phase1.specs.{Entering.kept_behind, Uses.use_by, Uses.uses_of}
use Rattle.cw_phase1.specs.Roles.{at_limbo, behind_begin, placed_from, token_step}
use Rattle.cw_phase1.proofs.Passing.{void-by}
use Rattle.cw_secnames.specs.declared.kinds.SecId.{SecId}
use Rattle.cw_index.specs.WholeNames.{NamesAreWhole}
use Rattle.cw_index.proofs.NameSpans.{begun-whole}
use Rattle.cw_index.proofs.NameTokens.{BeginsName, HaveNames, text-names}
use Rattle.cw_rules.specs.declared.tokens.Mode.TheVariants as modes
use Rattle.cw_base.specs.Conditions.{list_if}

-- ## Where the names of a book stand

abbrev NamesBegin : List ℕ → List NameUse → Type 0
NamesBegin text [] = Unit {0}
NamesBegin text (u ∷ uses) = BeginsName text u.place × NamesBegin text uses

unnamed : (t : Seen) (kept : List SecName) → is_name_kind t.kind ≡ false → entered_name t kept ≡ None
unnamed t kept h = grind (arith, void-by)

use-begins : (text : List ℕ) (name : Option SecId) (kind : TokKind) (place : ℕ) (uses : List NameUse)
    → (is_name_kind kind ≡ false → name ≡ None) → (is_name_kind kind ≡ true → BeginsName text place)
    → NamesBegin text uses → NamesBegin text (use_by name place ++ uses)
use-begins text name kind place uses none begins rest = grind arith

uses-begin : (text : List ℕ) (s : Standing) (kept : List SecName) (answers : List Answer) → HaveNames text answers
    → NamesBegin text (uses_of (placed_from s kept answers))
uses-begin text s kept [] h = tt
uses-begin text s kept (Token t ∷ answers) h =
    let next = (token_step t.kind (has_sign answers) s t.span).next in
    let kept_then = kept_behind t kept in
    use-begins text (entered_name t kept) t.kind t.span.start (uses_of (placed_from next kept_then answers))
    (unnamed t kept) h.0 (uses-begin text next kept_then answers h.1)
uses-begin text s kept (Begin t ∷ answers) h = uses-begin text (behind_begin s) kept answers h
uses-begin text s kept (Finish t ∷ answers) h = uses-begin text s kept answers h
uses-begin text s kept (Note kind place ∷ answers) h = uses-begin text s kept answers h

-- ## Those that are listed

abbrev Whole : List ℕ → StandingName → Type 0
Whole text s = IsWholeName text s.listed

by-reference : (text : List ℕ) (t : Bool) (n : SecName) (l : Listed) → IsWholeName text l
    → All (Whole text) (list_if t (record { kind = n.kind; text = n.text; listed = l } ∷ []))
by-reference text t n l whole = grind arith

by-kept : (text : List ℕ) (n : Option SecName) (l : Listed) → IsWholeName text l → All (Whole text) (kept_stand n l)
by-kept text n l whole = grind (arith, by-reference)

stands-whole : (text : List ℕ) (kept : List SecName) (uses : List NameUse) → NamesBegin text uses
    → All (Whole text) (named_stands kept uses)
stands-whole text kept [] h = All-nil (Whole text)
stands-whole text kept (u ∷ uses) h =
    let listed : Listed = record { id = id u.name; place = u.place } in
    All-append (Whole text) (stand_at kept u) (named_stands kept uses)
    (by-kept text (slice_get kept u.name) listed (begun-whole text u.place h.0)) (stands-whole text kept uses h.1)

sorted-whole : (text : List ℕ) (xs stands : List StandingName) → All (Whole text) stands → All (Whole text) xs
    → All (Whole text) (sorted_on stand_cmp stands xs)
sorted-whole text [] stands all more = all
sorted-whole text (x ∷ xs) stands all more = sorted-whole text xs (insert_key stand_cmp stands x) (All-insert_key
    stand_cmp x (Whole text) stands all (All-head (Whole text) x xs more)) (All-tail (Whole text) x xs more)

pub names-whole : NamesAreWhole
names-whole lines =
    let text = text_of lines in
    let kept = (book lines).sec_names in
    let uses = (book lines).name_uses in
    let begin : NamesBegin text uses = uses-begin text at_limbo [] (answers_of lines) (text-names text 0 modes.Limbo) in
    let stands = named_stands kept uses in
    All-map (IsWholeName text) (λ (s : StandingName). s.listed) (sorted_on stand_cmp [] stands)
    (sorted-whole text stands [] (All-nil (Whole text)) (stands-whole text kept uses begin))
