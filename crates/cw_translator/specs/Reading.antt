-- A translation on its way: what has become of it after the scanner's answers one after another.
use Rattle.std.specs.Prelude.{ℕ, List, [], ◌∷◌, ◌++◌, Option, Some, None}
use Rattle.cw_base.specs.declared.flags.Flags.{Flags}
use Rattle.cw_rules.specs.Answers.{Answer, Token, Begin, Finish, Note, Seen}
use Rattle.cw_rules.specs.declared.tokens.TokKind.{TokKind}
use Rattle.cw_rules.specs.declared.tokens.TokKind.TheVariants as kind
use Rattle.cw_trees.specs.Joining.{Scrap}
use Rattle.cw_scraps.specs.Leaves.{LeafForm, token_form, names_with}
use Rattle.cw_translator.specs.declared.holders.Holder.{Holder}
use Rattle.cw_translator.specs.declared.holders.Holder.TheVariants as holder
use Rattle.cw_translator.specs.Holders.{held_scrap}
use Rattle.cw_translator.specs.Translating.{leaf_scrap, CommentItem, Piece, InnerText, Known, with_names}
use Rattle.cw_translator.specs.Translating.{Ended, state_in, end_from}

-- What is open: C text with its scraps so far, and a comment or a section name, which holds the items so far.
pub data Frame : Type 0 where
  CText : (scraps : List Scrap) → Frame
  Comment : (held_by : Holder) → (items : List CommentItem) → Frame

-- a scrap behind those of the innermost C text, and an item behind those of the innermost comment
abbrev pub with_scrap : Scrap → List Frame → List Frame
with_scrap scrap (CText scraps ∷ frames) = CText (scraps ++ scrap ∷ []) ∷ frames
with_scrap scrap frames = frames

abbrev pub with_item : CommentItem → List Frame → List Frame
with_item item (Comment held_by items ∷ frames) = Comment held_by (items ++ item ∷ []) ∷ frames
with_item item frames = frames

abbrev pub with_form : Option LeafForm → List Frame → List Frame
with_form None frames = frames
with_form (Some form) frames = with_scrap (leaf_scrap form) frames

-- What is open, the innermost first, and what is known.
pub record Progress : Type 0 where
  pub frames : List Frame
  pub known : Known

-- One answer of the scanner. A section name stands for nothing.
abbrev pub after_token : TokKind → Seen → Progress → Progress
after_token kind.Text token p = record { frames = with_item (Piece token.span.start) p.frames; known = p.known }
after_token k token p = record {
  frames = with_form (token_form k token.text token.hash_line token.directive token.span.start p.known.names) p.frames;
  known = with_names (names_with k token.text p.known.names) p.known;
}

-- what begins becomes the innermost
abbrev pub frames_begun : TokKind → ℕ → List Frame → List Frame
frames_begun kind.InnerText number frames = CText [] ∷ frames
frames_begun kind.LongComment number frames = Comment (holder.Comment number) [] ∷ frames
frames_begun kind.ShortComment number frames = Comment (holder.Comment number) [] ∷ frames
frames_begun (kind.Code c) number frames = Comment (holder.Name number) [] ∷ frames
frames_begun _ number frames = frames

abbrev pub after_begin : TokKind → ℕ → Progress → Progress
after_begin k number p = record { frames = frames_begun k number p.frames; known = p.known }

-- what holds inner texts begins
abbrev pub with_held : Holder → Progress → Progress
with_held held_by p = record { frames = Comment held_by [] ∷ p.frames; known = p.known }

-- the innermost ends
abbrev pub ended_in : List Frame → Ended → Progress
ended_in frames text = record { frames = with_item (InnerText text.tree) frames; known = text.known }

abbrev pub after_finish : Flags → List Frame → Known → Progress
after_finish flags (CText scraps ∷ frames) known = ended_in frames (end_from flags (state_in scraps known) known)
after_finish flags (Comment held_by items ∷ frames) known =
    record { frames = with_scrap (held_scrap held_by items) frames; known = known }
after_finish flags [] known = record { frames = []; known = known }

abbrev pub after_answer : Flags → Answer → Progress → Progress
after_answer flags (Token token) p = after_token token.kind token p
after_answer flags (Begin token) p = after_begin token.kind token.span.start p
after_answer flags (Finish token) p = after_finish flags p.frames p.known
after_answer flags (Note note place) p = p

abbrev pub after_answers : Flags → List Answer → Progress → Progress
after_answers flags [] p = p
after_answers flags (answer ∷ answers) p = after_answers flags answers (after_answer flags answer p)

-- it ends: the scraps of the C text that is open alone are reduced and put together
abbrev pub last_scraps : List Frame → List Scrap
last_scraps (CText scraps ∷ []) = scraps
last_scraps frames = []
