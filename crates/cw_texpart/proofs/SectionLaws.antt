-- The section of a number is one, whatever it is called, and so is the text of a web.
use Rattle.cw_texpart.proofs.Terms.{◌≡◌, ℕ, All, List, Result, Flags, PutError, Book, Section, Counts, IsWholePiece}
use Rattle.cw_texpart.proofs.Terms.{tex_done, tex_pieces_of, setting, Press, Weaves}

-- the same C texts are whole
pub whole-as : {text text' : List ℕ} {s s' : Section} → text ≡ text' → s ≡ s'
    → All (IsWholePiece text) (tex_pieces_of text s.tex) → All (IsWholePiece text') (tex_pieces_of text' s'.tex)
whole-as same is whole = rw (← is, ← same) whole

-- the same TeX part is woven
pub woven-as : (flags : Flags) (n : ℕ) (b : Book) {text text' : List ℕ} {s s' : Section} {old new : Press}
    {result : Result Counts PutError} → text ≡ text' → s ≡ s'
    → Weaves (setting text flags n b) (tex_done (setting text flags n b) s b.names) old new result
    → Weaves (setting text' flags n b) (tex_done (setting text' flags n b) s' b.names) old new result
woven-as flags n b same is woven = rw (← is, ← same) woven
