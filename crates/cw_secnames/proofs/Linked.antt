-- What tables have under a mark, with a link more.
use Rattle.std.proofs.Common.{◌≡◌, ◌≢◌, ℕ, zero, suc, ◌-◌, ◌<◌, ◌≤◌, ◌==◌, ◌⊎◌, Bool, true, List, [], ◌∷◌, ◌++◌, length}
use Rattle.std.proofs.Common.{get_or, set, refl, Option, Some, None, sym, subst, append_assoc, arith, eq-eqb}
use Rattle.std.proofs.Common.{length-append}
use Rattle.std.specs.Prelude.{slice_get}
use Rattle.std.proofs.lemmas.List.{get_or-set_same, get_or-set_other, length-set}
use Rattle.cw_base.proofs.TestLaws.{one-left, one-right}
use Rattle.cw_secnames.{specs.declared.tables.Link.Link, proofs.Marked.or-yes}
use Rattle.cw_secnames.specs.Marks.{is_one_of}
use Rattle.cw_secnames.specs.model.Marks.{at_link, back_from, row_of, sign_of, with_sign}

-- ## A link more in a table

at-link-more : (sign k : ℕ) (before more : ℕ → List ℕ) (found : Option Link)
    → ((place : ℕ) → is_one_of k (before place) ≡ true → is_one_of k (more place) ≡ true)
    → is_one_of k (at_link sign before found) ≡ true → is_one_of k (at_link sign more found) ≡ true
at-link-more sign k before more found f h = grind (arith, or-yes, one-left, one-right)

found-still : (links : List Link) (new : Link) (place sign k : ℕ) (before : ℕ → List ℕ) → is_one_of k
    (at_link sign before (slice_get links place)) ≡ true → slice_get (links ++ new ∷ []) place ≡ slice_get links place
found-still [] new place sign k before h = absurd (cc)
found-still (link ∷ links) new zero sign k before h = refl
found-still (link ∷ links) new (suc place) sign k before h = found-still links new place sign k before h

-- it hides none of those before it
back-more : (links : List Link) (new : Link) (count more sign place k : ℕ) → count ≤ more → is_one_of k
    (back_from links count sign place) ≡ true → is_one_of k (back_from (links ++ new ∷ []) more sign place) ≡ true
back-more links new zero more sign place k most h = absurd (cc)
back-more links new (suc count) zero sign place k most h = absurd (omega arith)
back-more links new (suc count) (suc more) sign place k most h = subst (λ found. is_one_of k
    (at_link sign (back_from (links ++ new ∷ []) more sign) found) ≡ true) (sym (found-still links new place sign k
    (back_from links count sign) h)) (at-link-more sign k (back_from links count sign) (back_from (links ++ new ∷ [])
    more sign) (slice_get links place) (λ at found. back-more links new count more sign at k (omega arith) found) h)

last-found : (links : List Link) (new : Link) → slice_get (links ++ new ∷ []) (length links) ≡ Some new
last-found [] new = refl
last-found (link ∷ links) new = last-found links new

size-more : (links : List Link) (new : Link) → length (links ++ new ∷ []) ≡ suc (length links)
size-more links new = omega (arith, length-append links (new ∷ []))

behind-sign : (b : Bool) (position k : ℕ) (before : List ℕ) → is_one_of k before ≡ true
    → is_one_of k (with_sign b position before) ≡ true
behind-sign b position k before h = grind (arith, one-right)

-- from the new link on
from-last : (links : List Link) (new : Link) (sign k : ℕ) → is_one_of k
    (with_sign (new.sign == sign) new.position (back_from (links ++ new ∷ []) (length links) sign new.before)) ≡ true
    → is_one_of k (back_from (links ++ new ∷ []) (length (links ++ new ∷ [])) sign (length links)) ≡ true
from-last links new sign k h = grind (arith, size-more, last-found)

either : (a b : ℕ) → (a ≡ b) ⊎ (a ≢ b)
either a b = grind arith

-- the positions under a mark, by the parts of a table
abbrev pub under : List ℕ → List Link → ℕ → List ℕ
under rows links mark = back_from links (length links) (sign_of mark) (get_or rows (row_of mark (length rows)) 65535)

-- the rows, of which one begins with the new link
abbrev pub begun : List ℕ → ℕ → List Link → List ℕ
begun rows row links = set rows row (length links)

under-more : (rows : List ℕ) (links : List Link) (new : Link) (row mark k : ℕ) → row < length rows → new.before
    ≡ get_or rows row 65535 → is_one_of k (under rows links mark) ≡ true → (row_of mark (length rows) ≡ row)
    ⊎ (row_of mark (length rows) ≢ row) → is_one_of k (back_from (links ++ new ∷ []) (length (links ++ new ∷ []))
    (sign_of mark) (get_or (begun rows row links) (row_of mark (length rows)) 65535)) ≡ true
under-more rows links new row mark k within before h g =
    grind (arith, get_or-set_same, from-last, behind-sign, back-more, get_or-set_other, size-more)

-- what a table has it has still
pub keeps-under : (rows : List ℕ) (links all : List Link) (new : Link) (row place mark k : ℕ) → row < length rows
    → all ≡ links ++ new ∷ [] → place ≡ length links → new.before ≡ get_or rows row 65535
    → is_one_of k (under rows links mark) ≡ true → is_one_of k (under (set rows row place) all mark) ≡ true
keeps-under rows links all new row place mark k within is at before h = grind (arith, length-set, under-more, either)

-- and it has the new position
pub has-under : (rows : List ℕ) (links all : List Link) (new : Link) (row place mark : ℕ) → row < length rows
    → all ≡ links ++ new ∷ [] → place ≡ length links → row ≡ row_of mark (length rows) → new.sign ≡ sign_of mark
    → is_one_of new.position (under (set rows row place) all mark) ≡ true
has-under rows links all new row place mark within is at same sign =
    grind (arith, get_or-set_same, length-set, from-last, eq-eqb, one-left)

-- ## The links of a row, one after another

with-rest : (b : Bool) (position : ℕ) (rest : List ℕ) → with_sign b position [] ++ rest ≡ with_sign b position rest
with-rest b position rest = grind arith

pub back-step : (links : List Link) (link : Link) (left sign place : ℕ) (before added : List ℕ) → 0 < left
    → slice_get links place ≡ Some link → added ≡ before ++ with_sign (link.sign == sign) link.position []
    → added ++ back_from links (left - 1) sign link.before ≡ before ++ back_from links left sign place
back-step links link left sign place before added some here is = grind (arith, append_assoc, with-rest)

nowhere : (links : List Link) (place : ℕ) → length links ≤ place → slice_get links place ≡ None
nowhere [] place far = refl
nowhere (link ∷ links) zero far = absurd (omega arith)
nowhere (link ∷ links) (suc place) far = nowhere links place (omega arith)

pub back-end : (links : List Link) (left sign place : ℕ) → length links ≤ place → back_from links left sign place ≡ []
back-end links left sign place far = grind (arith, nowhere)
