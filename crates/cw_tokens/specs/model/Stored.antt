-- The models beside `specs/Stored`.
use Rattle.std.specs.Prelude.{◌≡◌, ℕ, zero, suc, ◌+◌, ◌-◌, ◌<◌, ◌≤◌, Bool, true, false, List, [], ◌∷◌, length}
use Rattle.std.specs.Prelude.{Option, Some, None, take, drop, set, slice_index_or, if◌then◌else◌}
use Rattle.cw_base.specs.model.Conditions.{one_if}
use Rattle.cw_tokens.specs.declared.token.Token.{Token}
use Rattle.cw_tokens.specs.declared.store.Link.{Link}
use Rattle.cw_tokens.specs.References.{refers}
use Rattle.cw_tokens.specs.Stored.{with_built}

-- the lists that end at these places, one behind another
abbrev pub cut : ℕ → List ℕ → List Token → List (List Token)
cut start [] tokens = []
cut start (e ∷ es) tokens = take (e - start) tokens ∷ cut e es (drop (e - start) tokens)

-- where the last list ends
abbrev pub last_end : ℕ → List ℕ → ℕ
last_end start [] = start
last_end start (e ∷ es) = last_end e es

-- where list i begins
abbrev pub start_of : ℕ → List ℕ → ℕ → ℕ
start_of start [] i = start
start_of start (e ∷ es) zero = start
start_of start (e ∷ es) (suc i) = start_of e es i

abbrev pub built : Bool → List ℕ → List Token → Option (List Token)
built building ends tokens = if building then Some (drop (last_end 0 ends) tokens) else None

abbrev pub IsAscending : ℕ → List ℕ → Type 0
IsAscending start [] = Unit {0}
IsAscending start (e ∷ es) = (start ≤ e) × IsAscending e es

abbrev pub no_link : Link
no_link = record { list = 0; place = 0 }

-- a list is linked to a place
abbrev pub linked : Option ℕ → Link → List Link → List Link
linked None up links = links
linked (Some x) up links = set links x up

-- each list but the roots is linked to the one token that refers to it
pub record IsLinked (lists : List (List Token)) (links : List Link) : Type 0 where
  pub earlier : (l p x : ℕ) → refers lists l p ≡ Some x → x < l
  pub up : (l p x : ℕ) → refers lists l p ≡ Some x → slice_index_or links x no_link ≡ record { list = l; place = p + 1 }

-- what the fields of a store keep, among them where the list that is being built begins; the rooms are the capacities
-- of its three vectors
pub record IsStored (building : Bool) (from : ℕ) (ends : List ℕ) (tokens : List Token) (links : List Link)
    (spare token_room end_room link_room : ℕ) : Type 0 where
  pub for_tokens : length tokens + spare ≤ token_room
  pub for_ends : length ends + one_if building + spare ≤ end_room
  pub for_links : length links + one_if building + spare ≤ link_room
  pub ascending : IsAscending 0 ends
  pub within : last_end 0 ends ≤ length tokens
  pub begun : building ≡ true → from ≡ last_end 0 ends
  pub all : building ≡ false → last_end 0 ends ≡ length tokens
  pub as_many : length links ≡ length ends
  pub linked : IsLinked (with_built (cut 0 ends tokens) (built building ends tokens)) links
