-- Pieces of which each word is a token by itself.
use Rattle.cw_plain_laws.proofs.Terms.{List, [], ◌∷◌, TokKind, Stretch, Run, Other, Word, Nothing, Answer}
use Rattle.cw_plain_laws.proofs.Again.{IsAlone, alone_token}

-- words that are tokens by themselves, runs, and what prints nothing
abbrev pub IsSimple : Stretch → Type 0
IsSimple (Run run) = Unit {0}
IsSimple (Other (Word number [])) = Unit {0}
IsSimple (Other (Word number (b ∷ bs))) = (k : TokKind) × IsAlone k b bs
IsSimple (Other Nothing) = Unit {0}
IsSimple (Other piece) = ⊥

abbrev pub AreSimple : List Stretch → Type 0
AreSimple [] = Unit {0}
AreSimple (s ∷ ss) = IsSimple s × AreSimple ss

-- the tokens that are their words
abbrev pub all_words : (ss : List Stretch) → AreSimple ss → List Answer
all_words [] are = []
all_words (Other (Word number (b ∷ bs)) ∷ ss) are = alone_token are.0.0 (b ∷ bs) ∷ all_words ss are.1
all_words (s ∷ ss) are = all_words ss are.1
