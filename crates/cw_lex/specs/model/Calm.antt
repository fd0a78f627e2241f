-- Calm C text: no note is left, a token leaves all as it is, and a line's end ends nothing.
use Rattle.std.specs.Prelude.{◌≡◌, ℕ, Bool, true, false, ◌&&◌, List, [], ◌∷◌}
use Rattle.cw_rules.specs.declared.parts.Part.{Part}
use Rattle.cw_rules.specs.declared.parts.Behind.TheVariants as behinds
use Rattle.cw_rules.specs.declared.parts.Part.TheVariants as parts
use Rattle.cw_rules.specs.declared.parts.Opened.{Opened}
use Rattle.cw_rules.specs.Pending.{no_notes}
use Rattle.cw_lex.specs.declared.state.State.{State}
use Rattle.cw_lex.specs.declared.state.Stand.{Stand}
use Rattle.cw_lex.specs.model.Coming.{IsReady}

-- C text outside `#` lines, behind its first token
abbrev pub is_calm_part : Part → Bool
is_calm_part (parts.Plain false behinds.Other) = true
is_calm_part parts.Definition = true
is_calm_part parts.TexInner = true
is_calm_part parts.Inner = true
is_calm_part part = false

-- the same in the innermost comment, which is a long one
abbrev pub is_calm : Part → List Opened → Bool
is_calm part [] = is_calm_part part
is_calm part (c ∷ comments) = is_calm_part part && (c.inner && c.long)

pub record IsCalm (s : State) : Type 0 where
  pub quiet : s.pending ≡ no_notes
  pub text : is_calm s.part s.comments ≡ true

-- what holds of a scanner that keeps whether the text is calm
pub record IsSteady (text : List ℕ) (s : Stand) : Type 0 where
  pub ready : IsReady text s.state
  pub calm : s.calm ≡ true → IsCalm s.state
