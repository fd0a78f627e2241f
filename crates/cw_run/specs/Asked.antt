-- What the words of a command line ask a tool for.
use Rattle.std.specs.Prelude.{ℕ, Bool, false, not, ◌&&◌, List, [], ◌∷◌, Option, Some, None, bytes_eq, codes}
use Rattle.std.specs.Prelude.{if◌then◌else◌}
use Rattle.cw_run.specs.declared.asked.Asked.{Asked as AskedWords}

-- a web and its change file, as they are read, and the file that is written
pub record Asked : Type 0 where
  pub web : List ℕ
  pub change : List ℕ
  pub out : List ℕ

-- what contracts see of it
abbrev pub asked_of : AskedWords → Asked
asked_of a = record { web = a.web.now; change = a.change.now; out = a.out.now }

-- The web and the file are named by words that aren't empty, nor `-`. As a change word `-` means none.
abbrev pub is_name : List ℕ → Bool
is_name [] = false
is_name (byte ∷ bytes) = not (bytes_eq (byte ∷ bytes) (codes "-"))

abbrev pub asked_for : List ℕ → List ℕ → List ℕ → Option Asked
asked_for web change out =
    if is_name web && is_name out then Some (record { web = web; change = change; out = out }) else None

-- There are three words, and none is an option.
abbrev pub asked : List (List ℕ) → Option Asked
asked (web ∷ change ∷ out ∷ []) = asked_for web change out
asked words = None
