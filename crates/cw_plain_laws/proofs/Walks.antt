-- Trees whose pieces have the bytes of their tokens.
use Rattle.cw_plain_laws.proofs.Terms.{◌≡◌, ℕ, Bool, List, [], ◌∷◌, ◌++◌, Tree, Control, CommentEnd, Item, flat, struck}
use Rattle.cw_plain_laws.proofs.Terms.{Piece, Word, Part, PlainSource, Stand, pieces_from}

-- the numbers of the tokens whose bytes stand there, in order
abbrev pub owners : List Piece → List ℕ
owners [] = []
owners (Word number bytes ∷ pieces) = number ∷ owners pieces
owners (Part number bytes ∷ pieces) = number ∷ owners pieces
owners (piece ∷ pieces) = owners pieces

-- outside section names, in these comments
abbrev pub among : List Bool → Stand
among comments = record { name = 0; comments = comments }

-- A tree has the bytes of its source tokens, each once and in order, and leads to where it begins.
abbrev pub Walks : PlainSource → Tree → Type 0
Walks s tree = (comments : List Bool) (rest : List Item) → owners
    (pieces_from s (flat tree ++ rest) (among comments)) ≡ struck tree ++ owners (pieces_from s rest (among comments))

-- signs that stand in no leaf of a comment
abbrev pub IsFree : Control → Type 0
IsFree CommentEnd = ⊥
IsFree c = Unit {0}
