-- The section names that are kept: a list, in order of entry.
use Rattle.std.specs.Prelude.{ℕ, zero, suc, ◌+◌, ◌<◌, Bool, true, false, not, ◌&&◌, ◌||◌, nat_lt, List, [], ◌∷◌, ◌++◌}
use Rattle.std.specs.Prelude.{if◌then◌else◌, Option, Some, None, length, nat_eq}
use Rattle.std.specs.Cmp.Lexicographic.{pointwise}
use Rattle.std.specs.List.{position, starts_with, slice_get}
use Rattle.std.specs.Option.{option_map}
use Rattle.cw_secnames.specs.declared.kinds.SecKind.{SecKind}
use Rattle.cw_secnames.specs.declared.kinds.SecKind.TheVariants.{Named, File}
use Rattle.cw_secnames.specs.declared.kinds.SecId.{SecId}
use Rattle.cw_secnames.specs.declared.kinds.Entered.{Entered}
use Rattle.cw_secnames.specs.declared.kinds.Earliest.{Earliest}
use Rattle.cw_secnames.specs.declared.kinds.Earliest.TheVariants as earlies
use Rattle.cw_secnames.specs.declared.kinds.Entered.TheVariants.{Known, New, Ambiguous, Conflict}

-- A name. It is incomplete while only a prefix of it is known. Sections refer to it in three ways.
pub record SecName : Type 0 where
  pub kind : SecKind
  pub text : List ℕ
  pub complete : Bool
  pub defined : List ℕ
  pub used : List ℕ
  pub cited : List ℕ

abbrev pub same_name_kind : SecKind → SecKind → Bool
same_name_kind Named Named = true
same_name_kind File File = true
same_name_kind _ _ = false

-- One text begins another. It begins it properly where it is shorter.
abbrev pub is_beginning_of : List ℕ → List ℕ → Bool
is_beginning_of first text = starts_with nat_eq text first

abbrev pub begins_properly : List ℕ → List ℕ → Bool
begins_properly first text = nat_lt (length first) (length text) && is_beginning_of first text

-- What entering a name answers, and the names that are kept then.
pub record Entering : Type 0 where
  pub answer : Entered
  pub kept : List SecName

abbrev pub id : ℕ → SecId
id k = record { index = k }

-- a name to which nothing refers
abbrev pub unreferred : SecKind → List ℕ → Bool → SecName
unreferred kind text complete =
    record { kind = kind; text = text; complete = complete; defined = []; used = []; cited = [] }

-- The names with another text at a position.
abbrev pub with_text : ℕ → List ℕ → Bool → List SecName → List SecName
with_text k text complete [] = []
with_text zero text complete (n ∷ names) = record n { text = text; complete = complete } ∷ names
with_text (suc k) text complete (n ∷ names) = n ∷ with_text k text complete names

-- ## A full name

abbrev pub has_text : SecKind → List ℕ → SecName → Bool
has_text kind text n = n.complete && (same_name_kind kind n.kind && pointwise nat_eq text n.text)

abbrev pub grows_to : SecKind → List ℕ → SecName → Bool
grows_to kind text n = not n.complete && (same_name_kind kind n.kind && is_beginning_of n.text text)

abbrev pub conflicts_with : SecKind → List ℕ → SecName → Bool
conflicts_with kind text n = same_name_kind kind n.kind && (begins_properly n.text text || begins_properly text n.text)

-- The first case that holds: it is known; it completes the earliest name that begins it; it conflicts with the
-- earliest name that begins it or that it begins; it is new.
abbrev pub enter_by : Option ℕ → Option ℕ → Option ℕ → SecKind → List ℕ → List SecName → Entering
enter_by (Some k) growing conflict kind text kept = record { answer = Known (id k); kept = kept }
enter_by None (Some k) conflict kind text kept = record { answer = Known (id k); kept = with_text k text true kept }
enter_by None None (Some k) kind text kept = record { answer = Conflict (id k); kept = kept }
enter_by None None None kind text kept =
    record { answer = New (id (length kept)); kept = kept ++ unreferred kind text true ∷ [] }

abbrev pub enter : SecKind → List ℕ → List SecName → Entering
enter kind text kept =
    enter_by (position (has_text kind text) kept) (position (grows_to kind text) kept)
    (position (conflicts_with kind text) kept)
    kind text kept

-- ## A prefix

-- A candidate: a name that the prefix begins, or an incomplete one that begins the prefix.
abbrev pub is_candidate : List ℕ → SecName → Bool
is_candidate prefix n = same_name_kind Named n.kind
    && (is_beginning_of prefix n.text || (not n.complete && is_beginning_of n.text prefix))

-- A name that may grow to the prefix: an incomplete and shorter one.
abbrev pub grown : List ℕ → ℕ → List SecName → List SecName
grown prefix k [] = []
grown prefix zero (n ∷ names) =
    if not n.complete && nat_lt (length n.text) (length prefix) then record n { text = prefix } ∷ names else n ∷ names
grown prefix (suc k) (n ∷ names) = n ∷ grown prefix k names

-- the positions of the names that pass a test, from this one on
abbrev pub positions_from : ℕ → (SecName → Bool) → List SecName → List ℕ
positions_from k test [] = []
positions_from k test (n ∷ names) =
    if test n then k ∷ positions_from (k + 1) test names else positions_from (k + 1) test names

-- The two earliest of some names, where there are so many.
abbrev pub earliest : List ℕ → Earliest
earliest [] = earlies.Nobody
earliest (k ∷ []) = earlies.One k
earliest (k ∷ next ∷ later) = earlies.Several k next

-- By the candidates: none, one, or two and more.
abbrev pub enter_prefix_by : Earliest → List ℕ → List SecName → Entering
enter_prefix_by earlies.Nobody prefix kept =
    record { answer = New (id (length kept)); kept = kept ++ unreferred Named prefix false ∷ [] }
enter_prefix_by (earlies.One k) prefix kept = record { answer = Known (id k); kept = grown prefix k kept }
enter_prefix_by (earlies.Several k next) prefix kept = record { answer = Ambiguous (id k) (id next); kept = kept }

abbrev pub enter_prefix : List ℕ → List SecName → Entering
enter_prefix prefix kept = enter_prefix_by (earliest (positions_from 0 (is_candidate prefix) kept)) prefix kept

-- what a name that is kept has; an id of the list has a name
abbrev pub shown : {X : Type 0} → (SecName → X) → ℕ → List SecName → Option X
shown part k names = option_map part (slice_get names k)

-- The names of an answer are among so many.
abbrev pub AreKept : Entered → ℕ → Type 0
AreKept (Known k) count = k.index < count
AreKept (New k) count = k.index < count
AreKept (Ambiguous k next) count = (k.index < count) × (next.index < count)
AreKept (Conflict k) count = k.index < count
