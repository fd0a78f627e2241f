-- The answers of the scanner as a nest: the tokens of a text in order, where a comment and an inner text hold a nest
-- of their own.
use Rattle.std.specs.Prelude.{◌≡◌, Bool, true, false, not, List, [], ◌∷◌}
use Rattle.cw_rules.specs.declared.tokens.TokKind.{TokKind}
use Rattle.cw_rules.specs.declared.tokens.TokKind.TheVariants as kind
use Rattle.cw_rules.specs.Answers.{Answer, Token, Begin, Finish, Note, Seen}

pub data Nest : Type 0 where
  End : Nest
  Leaf : (token : Seen) → (rest : Nest) → Nest
  Group : (token : Seen) → (inner : Nest) → (rest : Nest) → Nest

-- What begins with a token: what follows it to the end of its text, and then what stands in the texts around it.
abbrev pub group : Seen → List Nest → List Nest
group token (inner ∷ rest ∷ outer) = Group token inner rest ∷ outer
group token (inner ∷ []) = Group token inner End ∷ []
group token [] = []

abbrev pub leaf : Seen → List Nest → List Nest
leaf token (rest ∷ outer) = Leaf token rest ∷ outer
leaf token [] = []

-- What stands from here to the end of the innermost text, and then of each text around it.
abbrev pub nests : List Answer → List Nest
nests [] = End ∷ []
nests (Token token ∷ answers) = leaf token (nests answers)
nests (Begin token ∷ answers) = group token (nests answers)
nests (Finish token ∷ answers) = End ∷ nests answers
nests (Note note place ∷ answers) = nests answers

abbrev pub first_nest : List Nest → Nest
first_nest [] = End
first_nest (nest ∷ outer) = nest

-- the nest of a text of which these are the answers
abbrev pub nest : List Answer → Nest
nest answers = first_nest (nests answers)

-- ## A nest in which all stands where it may

abbrev pub is_text_kind : TokKind → Bool
is_text_kind kind.Text = true
is_text_kind k = false

-- Inner texts begin in the text of comments, and comments in C text.
abbrev pub IsGroupOf : (in_comment : Bool) → TokKind → Type 0
IsGroupOf true kind.InnerText = Unit {0}
IsGroupOf false kind.LongComment = Unit {0}
IsGroupOf false kind.ShortComment = Unit {0}
IsGroupOf in_comment k = ⊥

-- Pieces of text stand in the text of a comment, and nothing else does but inner texts. In C text stand the other
-- tokens and comments.
abbrev pub IsWell : (in_comment : Bool) → Nest → Type 0
IsWell in_comment End = Unit {0}
IsWell in_comment (Leaf token rest) = (is_text_kind token.kind ≡ in_comment) × IsWell in_comment rest
IsWell in_comment (Group token inner rest) = IsGroupOf in_comment token.kind × IsWell (not in_comment) inner
    × IsWell in_comment rest
