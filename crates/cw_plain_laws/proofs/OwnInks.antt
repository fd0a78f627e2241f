-- What is laid out of pieces has the bytes of their tokens.
use Rattle.cw_plain_laws.proofs.Terms.{arith, ◌≡◌, ℕ, List, [], ◌∷◌, ◌++◌, Option, map, refl, Bool, ap, subst, sym, ◌∙◌}
use Rattle.cw_plain_laws.proofs.Terms.{append-nil, Own, Layout, Other, Run, Stretch, behind_piece, behind_run}
use Rattle.cw_plain_laws.proofs.Terms.{laid_from, stretches, with_move, Piece, Word, Part, Ending, Opening, Closing}
use Rattle.cw_plain_laws.proofs.Terms.{Move, Nothing, PlacedPiece, PlainSource, Stand, comment_end, control_placed}
use Rattle.cw_plain_laws.proofs.Terms.{found_placed, item_placed, number_placed, outside, pieces, pieces_from}
use Rattle.cw_plain_laws.proofs.Terms.{pieces_in, token_placed, plain_inks, MayBeAdded, own_ink, own_inks, token_bytes}
use Rattle.cw_plain_laws.proofs.Terms.{Seen, TokKind, Item, flat, struck, trimmed_items, Tree, Control}
use Rattle.cw_plain_laws.proofs.{Walks.Walks, Walks.owners, TrimLaws.trims-no-bytes}

-- ## Each piece of a number is that of its token

-- A piece with a number is the one that the token of this number makes, wherever it stands; and an ending adds little.
abbrev pub IsOwn : PlainSource → Piece → Type 0
IsOwn s (Word number bytes) = Word number bytes ≡ (number_placed s number outside).piece
IsOwn s (Part number bytes) = Part number bytes ≡ (number_placed s number outside).piece
IsOwn s (Ending bytes) = MayBeAdded bytes
IsOwn s piece = Unit {0}

abbrev pub AreOwn : PlainSource → List Piece → Type 0
AreOwn s [] = Unit {0}
AreOwn s (p ∷ ps) = IsOwn s p × AreOwn s ps

-- pieces that are no bars and no ends of comments
abbrev pub IsUnbarred : Piece → Type 0
IsUnbarred (Ending bytes) = ⊥
IsUnbarred Opening = ⊥
IsUnbarred Closing = ⊥
IsUnbarred piece = Unit {0}

-- the piece of a number has it, and is the same everywhere
record Keeps (number : ℕ) (f : Stand → PlacedPiece) : Type 0 where
  same : (stand : Stand) → (f stand).piece ≡ (f outside).piece
  own : (s : PlainSource) → (f outside).piece ≡ (number_placed s number outside).piece → IsOwn s (f outside).piece
  unbarred : IsUnbarred (f outside).piece

token-keeps : (number : ℕ) (title : Option (List ℕ)) (k : TokKind) (text : List ℕ)
    → Keeps number (token_placed number title k text)
token-keeps number title k text = grind arith

found-keeps : (number : ℕ) (title : Option (List ℕ)) (o : Option Seen) → Keeps number (found_placed number title o)
found-keeps number title o = grind (arith, token-keeps)

number-own : (s : PlainSource) (number : ℕ) (stand : Stand) → IsOwn s (number_placed s number stand).piece
number-own s number stand =
    let k : Keeps number (number_placed s number) = found-keeps number (s.titles number) _ in
    subst (IsOwn s) (sym (k.same stand)) (k.own s refl)

pub number-unbarred : (s : PlainSource) (number : ℕ) (stand : Stand) → IsUnbarred (number_placed s number stand).piece
number-unbarred s number stand = grind (arith, found-keeps)

ending-added : (comments : List Bool) → MayBeAdded (comment_end comments)
ending-added comments = grind arith

control-own : (s : PlainSource) (c : Control) (stand : Stand) → IsOwn s (control_placed c stand).piece
control-own s c stand = grind (arith, ending-added)

item-own : (s : PlainSource) (item : Item) (stand : Stand) → IsOwn s (item_placed s item stand).piece
item-own s item stand = grind (arith, number-own, control-own)

next-own : (s : PlainSource) (depth : ℕ) (item : Item) (stand : Stand) (rest : Stand → List Piece)
    → ((st : Stand) → AreOwn s (rest st)) → AreOwn s (pieces_in s depth item stand rest)
next-own s depth item stand rest own = grind (arith, item-own)

pub pieces-own : (s : PlainSource) (items : List Item) (stand : Stand) → AreOwn s (pieces_from s items stand)
pieces-own s [] stand = tt
pieces-own s (item ∷ items) stand = next-own s stand.name item stand (pieces_from s items) (pieces-own s items)

-- ## They are laid out as they are

-- the same of stretches
abbrev stretch_owners : List Stretch → List ℕ
stretch_owners [] = []
stretch_owners (Run run ∷ ss) = stretch_owners ss
stretch_owners (Other p ∷ ss) = owners (p ∷ []) ++ stretch_owners ss

abbrev pub StretchesOwn : PlainSource → List Stretch → Type 0
StretchesOwn s [] = Unit {0}
StretchesOwn s (Run run ∷ ss) = StretchesOwn s ss
StretchesOwn s (Other p ∷ ss) = IsOwn s p × StretchesOwn s ss

move-owners : (c : Control) (ss : List Stretch) → stretch_owners (with_move c ss) ≡ stretch_owners ss
move-owners c ss = grind arith

move-own : (s : PlainSource) (c : Control) (ss : List Stretch) → StretchesOwn s ss → StretchesOwn s (with_move c ss)
move-own s c ss own = grind arith

stretched-owners : (ps : List Piece) → stretch_owners (stretches ps) ≡ owners ps
stretched-owners [] = refl
stretched-owners (Word number bytes ∷ ps) = ap (λ l. number ∷ l) (stretched-owners ps)
stretched-owners (Part number bytes ∷ ps) = ap (λ l. number ∷ l) (stretched-owners ps)
stretched-owners (Ending bytes ∷ ps) = stretched-owners ps
stretched-owners (Opening ∷ ps) = stretched-owners ps
stretched-owners (Closing ∷ ps) = stretched-owners ps
stretched-owners (Move c ∷ ps) = move-owners c (stretches ps) ∙ stretched-owners ps
stretched-owners (Nothing ∷ ps) = stretched-owners ps

pub stretched-own : (s : PlainSource) (ps : List Piece) → AreOwn s ps → StretchesOwn s (stretches ps)
stretched-own s [] own = tt
stretched-own s (Word number bytes ∷ ps) own = (own.0, stretched-own s ps own.1)
stretched-own s (Part number bytes ∷ ps) own = (own.0, stretched-own s ps own.1)
stretched-own s (Ending bytes ∷ ps) own = (own.0, stretched-own s ps own.1)
stretched-own s (Opening ∷ ps) own = (tt, stretched-own s ps own.1)
stretched-own s (Closing ∷ ps) own = (tt, stretched-own s ps own.1)
stretched-own s (Move c ∷ ps) own = move-own s c (stretches ps) (stretched-own s ps own.1)
stretched-own s (Nothing ∷ ps) own = (tt, stretched-own s ps own.1)

laid-own : (s : PlainSource) (l : Layout) (ss : List Stretch) → StretchesOwn s ss
    → own_inks (laid_from l ss) ≡ map (own_ink s) (stretch_owners ss)
laid-own s l [] own = refl
laid-own s l (Run run ∷ ss) own = laid-own s (behind_run l run) ss own
laid-own s l (Other (Word number bytes) ∷ ss) own =
    (λ i. Own number (token_bytes (own.0 i)) ∷ laid-own s (behind_piece l (Word number bytes)) ss own.1 i)
laid-own s l (Other (Part number bytes) ∷ ss) own =
    (λ i. Own number (token_bytes (own.0 i)) ∷ laid-own s (behind_piece l (Part number bytes)) ss own.1 i)
laid-own s l (Other (Ending bytes) ∷ ss) own = laid-own s (behind_piece l (Ending bytes)) ss own.1
laid-own s l (Other Opening ∷ ss) own = laid-own s (behind_piece l Opening) ss own.1
laid-own s l (Other Closing ∷ ss) own = laid-own s (behind_piece l Closing) ss own.1
laid-own s l (Other (Move c) ∷ ss) own = laid-own s (behind_piece l (Move c)) ss own.1
laid-own s l (Other Nothing ∷ ss) own = laid-own s (behind_piece l Nothing) ss own.1

-- A tree that has the bytes of its tokens is laid out as these.
pub walked-owners : (s : PlainSource) (tree : Tree) → Walks s tree → owners (pieces s (trimmed_items (flat tree)))
    ≡ struck tree
walked-owners s tree walks =
    grind (arith, trims-no-bytes s (flat tree) outside, append-nil (flat tree), append-nil (struck tree))

pub walked-inks : (s : PlainSource) (tree : Tree) → Walks s tree
    → own_inks (plain_inks s (flat tree)) ≡ map (own_ink s) (struck tree)
walked-inks s tree walks = grind (arith, laid-own, stretched-own, pieces-own, own_ink, stretched-owners, walked-owners)
