-- Where the file of a name is looked for.
use Rattle.std.specs.Prelude.{ℕ, Bool, ◌||◌, ◌++◌, List, [], ◌∷◌, codes, map, nat_eq, ◌==◌, if◌then◌else◌}
use Rattle.std.specs.List.{starts_with}

-- A name from the root on, or from this folder or the one above it on, says where its file is.
abbrev pub says_where : List ℕ → Bool
says_where name =
    starts_with nat_eq name (codes "/")
    || (starts_with nat_eq name (codes "./") || starts_with nat_eq name (codes "../"))

-- the place of a name in a folder
abbrev pub place_in : List ℕ → List ℕ → List ℕ
place_in folder name = folder ++ (codes "/" ++ name)

abbrev pub places_in : List (List ℕ) → List ℕ → List (List ℕ)
places_in folders name = map (λ folder. place_in folder name) folders

-- ## The folders of a list

-- one folder more, unless nothing names it
abbrev pub with_folder : List ℕ → List (List ℕ) → List (List ℕ)
with_folder [] folders = folders
with_folder (byte ∷ bytes) folders = folders ++ (byte ∷ bytes) ∷ []

-- The folders so far, the bytes behind the last colon, and the rest of the list: a colon, byte 58, ends a folder.
abbrev pub folders_from : List (List ℕ) → List ℕ → List ℕ → List (List ℕ)
folders_from folders begun [] = with_folder begun folders
folders_from folders begun (byte ∷ rest) =
    if byte == 58
    then folders_from (with_folder begun folders) [] rest
    else folders_from folders (begun ++ byte ∷ []) rest

abbrev pub folders_of : List ℕ → List (List ℕ)
folders_of list = folders_from [] [] list

-- The places at which the file of a name is looked for that isn't at its own: in the folders of a list, in their order.
abbrev pub places_of : List ℕ → List ℕ → List (List ℕ)
places_of list name = if says_where name then [] else places_in (folders_of list) name
