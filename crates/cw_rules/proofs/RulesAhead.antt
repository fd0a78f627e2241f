-- What begins at a place is the same where the text ends before an `@` that it doesn't take.
use Rattle.std.proofs.Common.{◌≡◌, ℕ, suc, ◌+◌, ◌≤◌, Bool, true, false, ◌&&◌, ◌==◌, List, [], ◌∷◌, ◌++◌, length, drop}
use Rattle.std.proofs.Common.{refl, ap, ◌∙◌, arith}
use Rattle.std.specs.Prelude.{if◌then◌else◌}
use Rattle.std.proofs.{lemmas.Bool.Decides.nat_tests, lemmas.Grind.common_steps}
use Rattle.cw_base.proofs.TestLaws.{both-right}
use Rattle.cw_base.specs.{declared.notes.NoteKind.NoteKind, Text.bar}
use Rattle.cw_base.specs.declared.notes.NoteKind.TheVariants as notes
use Rattle.cw_rules.specs.declared.classes.Class.TheVariants as classes
use Rattle.cw_rules.specs.declared.{codes.Code.Code, codes.Effect.Effect, parts.Part.Part, parts.Opened.Opened}
use Rattle.cw_rules.specs.declared.codes.Code.TheVariants as at
use Rattle.cw_rules.specs.declared.codes.Effect.TheVariants as effects
use Rattle.cw_rules.specs.declared.parts.Behind.TheVariants as behinds
use Rattle.cw_rules.specs.declared.parts.Part.TheVariants as parts
use Rattle.cw_rules.specs.declared.signs.Sign.TheVariants as signs
use Rattle.cw_rules.specs.declared.tokens.TokKind.TheVariants as kinds
use Rattle.cw_rules.specs.Bytes.{star, greater, at_sign, run, is_in, begins}
use Rattle.cw_rules.specs.Codes.{code_at, begins_section, effect_in_limbo, effect_in_tex}
use Rattle.cw_rules.specs.Answers.{Note, Where, before, plain, dropped}
use Rattle.cw_rules.specs.Tokens.{identifier, depth_size, section_code, moved, all_cut, section, limbo_by, limbo_text}
use Rattle.cw_rules.specs.Tokens.{tex_by, tex_text, head_text, name_follows, macro_name, parameter_follows, parameter}
use Rattle.cw_rules.specs.Tokens.{format_name}
use Rattle.cw_rules.specs.model.Apart.{behind_head_apart, part_text_apart, in_text_apart, found_apart}
use Rattle.cw_rules.proofs.{Sizes.depth-le, Ahead.parameter-same, Ahead.paren-same, Ahead.depth-same}
use Rattle.cw_rules.proofs.Ahead.{At, drop-same, run-before, begins-same, run-same, section-same, name-same}
use Rattle.cw_rules.proofs.CodeAhead.{Local, if-local, same-local, before-local, one-local, simple-local, code-local}
use Rattle.cw_rules.proofs.CodeAhead.{dropped-local, heads-same, code_text-local, within-local, twice}

-- The bytes behind the `@` begin with no `>`.
module _ (more : List ℕ) (code : begins greater more ≡ false) where
  -- ## Limbo, TeX text and heads

  limbo-code : (w : Where) (place byte : ℕ) (bs : List ℕ)
      → Local (length bs) (limbo_by (effect_in_limbo (code_at (bs ++ 64 ∷ more))) (code_at (bs ++ 64 ∷ more)) w place
      (byte ∷ (bs ++ 64 ∷ more))) (limbo_by (effect_in_limbo (code_at bs)) (code_at bs) w place (byte ∷ bs))
  limbo-code w place byte [] = twice _ _ (omega arith)
  limbo-code w place byte (next ∷ bs) = by (effect_in_limbo (code_at (next ∷ bs))) (code_at (next ∷ bs))
    where
      by : (effect : Effect) (c : Code) → Local (suc (length bs))
          (limbo_by effect c w place (byte ∷ next ∷ (bs ++ 64 ∷ more))) (limbo_by effect c w place (byte ∷ next ∷ bs))
      by effects.Stands c = one-local At more code false _ _ place byte (next ∷ bs) _ _
          (λ h. (refl, (code-local At more code c place byte next bs).same h))
      by effects.Formats c = simple-local At more code false (moved w (parts.FormatName place false true)) place byte
          (next ∷ bs) (plain (kinds.Code c) 2) (plain (kinds.Code c) 2) refl
      by (effects.Drops note) c = simple-local At more code false w place byte (next ∷ bs)
          (dropped note place (plain (kinds.Code c) 2)) (dropped note place (plain (kinds.Code c) 2)) refl
      by effects.Defines c = same-local (suc (length bs)) _ _ refl
      by effects.BeginsC c = same-local (suc (length bs)) _ _ refl

  limbo_text-local : (w : Where) (place byte : ℕ) (bs : List ℕ)
      → Local (length bs) (limbo_text w place byte (bs ++ 64 ∷ more)) (limbo_text w place byte bs)
  limbo_text-local w place byte bs = if-local (length bs) (byte == at_sign) (byte == at_sign) _ _ _ _ refl
      (λ h. limbo-code w place byte bs) (λ h. simple-local At more code false w place byte bs _ _
      (ap (plain kinds.Text) (run-before 64 more classes.LimboText (byte ∷ bs) refl)))

  tex-code : (w : Where) (place byte : ℕ) (bs : List ℕ)
      → Local (length bs) (tex_by (effect_in_tex (code_at (bs ++ 64 ∷ more))) (code_at (bs ++ 64 ∷ more)) w place
      (byte ∷ (bs ++ 64 ∷ more))) (tex_by (effect_in_tex (code_at bs)) (code_at bs) w place (byte ∷ bs))
  tex-code w place byte [] = twice _ _ (omega arith)
  tex-code w place byte (next ∷ bs) = by (effect_in_tex (code_at (next ∷ bs))) (code_at (next ∷ bs))
    where
      by : (effect : Effect) (c : Code) → Local (suc (length bs))
          (tex_by effect c w place (byte ∷ next ∷ (bs ++ 64 ∷ more))) (tex_by effect c w place (byte ∷ next ∷ bs))
      by effects.Stands c = one-local At more code false _ _ place byte (next ∷ bs) _ _ (λ h. (
        ap (λ t. if t then moved w parts.Head else w) (heads-same At more code c true place byte next bs h),
        (code-local At more code c place byte next bs).same h,
      ))
      by (effects.Drops note) c = one-local At more code false _ _ place byte (next ∷ bs) _ _
          (λ h. (refl, (dropped-local At more code note c place byte next bs).same h))
      by effects.Defines c = simple-local At more code false (moved w (parts.MacroName place)) place byte (next ∷ bs)
          (plain (kinds.Code c) 2) (plain (kinds.Code c) 2) refl
      by effects.Formats c = simple-local At more code false (moved w (parts.FormatName place false false)) place byte
          (next ∷ bs) (plain (kinds.Code c) 2) (plain (kinds.Code c) 2) refl
      by effects.BeginsC c = simple-local At more code false (moved w (parts.Plain false behinds.Other)) place byte
          (next ∷ bs)
          (plain (kinds.Code c) 2) (plain (kinds.Code c) 2) refl

  tex_text-local : (w : Where) (place byte : ℕ) (bs : List ℕ)
      → Local (length bs) (tex_text w place byte (bs ++ 64 ∷ more)) (tex_text w place byte bs)
  tex_text-local w place byte bs = if-local (length bs) (byte == at_sign) (byte == at_sign) _ _ _ _ refl
      (λ h. tex-code w place byte bs) (λ h. if-local (length bs) (byte == bar) (byte == bar) _ _ _ _ refl
      (λ h. same-local (length bs) _ _ refl) (λ h. simple-local At more code false w place byte bs _ _
      (ap (plain kinds.Text) (run-before 64 more classes.TexText (byte ∷ bs) refl))))

  head_text-local : (w : Where) (place byte : ℕ) (bs : List ℕ)
      → Local (length bs) (head_text w place byte (bs ++ 64 ∷ more)) (head_text w place byte bs)
  head_text-local w place byte bs = grind (arith, nat_tests, if-local, same-local, simple-local, begins-same)

  word-same : (byte : ℕ) (bs : List ℕ) → identifier (byte ∷ (bs ++ 64 ∷ more)) ≡ identifier (byte ∷ bs)
  word-same byte bs = ap (plain kinds.Identifier) (run-same At more classes.Word (byte ∷ bs) refl refl)

  macro_name-local : (at : ℕ) (w : Where) (place byte : ℕ) (bs : List ℕ)
      → Local (length bs) (macro_name at w place byte (bs ++ 64 ∷ more)) (macro_name at w place byte bs)
  macro_name-local at w place byte bs = if-local (length bs) (is_in classes.White byte) (is_in classes.White byte) _ _ _
      _ refl (λ h. same-local (length bs) _ _ refl) (λ h. one-local At more code false _ _ place byte bs
      (identifier (byte ∷ (bs ++ 64 ∷ more))) (identifier (byte ∷ bs)) (λ k. (
        ap (λ t. if t then moved w (parts.MacroParen at) else moved w parts.Definition)
            (paren-same At more (byte ∷ bs)),
        word-same byte bs,
      )))

  parameter-local : (w : Where) (place byte : ℕ) (bs : List ℕ)
      → Local (length bs) (parameter w place byte (bs ++ 64 ∷ more)) (parameter w place byte bs)
  parameter-local w place byte bs = grind (
    arith,
    nat_tests,
    common_steps,
    simple-local At more code false w place byte bs _ _ (word-same byte bs),
    simple-local At more code false w place byte bs (plain (kinds.Sign signs.Comma) 1)
        (plain (kinds.Sign signs.Comma) 1) refl,
    simple-local At more code false (moved w parts.Definition) place byte bs (plain (kinds.Sign signs.RightParen) 1)
        (plain (kinds.Sign signs.RightParen) 1) refl,
    simple-local At more code false w place byte bs (plain (kinds.Sign signs.Ellipsis) 3)
        (plain (kinds.Sign signs.Ellipsis) 3) refl,
    word-same byte bs,
    if-local,
    same-local,
    simple-local,
    word-same,
  )

  format_name-local : (at : ℕ) (second limbo : Bool) (w : Where) (place byte : ℕ) (bs : List ℕ) → Local (length bs)
      (format_name at second limbo w place byte (bs ++ 64 ∷ more)) (format_name at second limbo w place byte bs)
  format_name-local at second limbo w place byte bs = if-local (length bs) (is_in classes.White byte)
      (is_in classes.White byte) _ _ _ _ refl (λ h. same-local (length bs) _ _ refl)
      (λ h. simple-local At more code false _ place byte bs _ _ (word-same byte bs))

  improper-local : (note : NoteKind) (at : ℕ) (limbo : Bool) (part : Part) (fresh : Bool) (last place byte : ℕ)
      (bs : List ℕ) → Local (length bs) (before (Note note at ∷ [])
      (behind_head_apart limbo (record { part = part; comments = [] }) fresh last place byte (bs ++ 64 ∷ more))) (before
      (Note note at ∷ []) (behind_head_apart limbo (record { part = part; comments = [] }) fresh last place byte bs))
  improper-local note at true part fresh last place byte bs = before-local (length bs) (Note note at ∷ []) _ _
      (limbo_text-local (record { part = parts.Limbo; comments = [] }) place byte bs)
  improper-local note at false part fresh last place byte bs = before-local (length bs) (Note note at ∷ []) _ _
      (code_text-local At more code parts.Definition [] fresh last place byte bs)

  part_text-local : (part : Part) (fresh : Bool) (last place byte : ℕ) (bs : List ℕ)
      → Local (length bs) (part_text_apart part (record { part = part; comments = [] }) fresh last place byte
      (bs ++ 64 ∷ more)) (part_text_apart part (record { part = part; comments = [] }) fresh last place byte bs)
  part_text-local parts.Limbo fresh last place byte bs = grind (arith, limbo_text-local)
  part_text-local parts.Tex fresh last place byte bs = grind (arith, tex_text-local)
  part_text-local parts.Head fresh last place byte bs = grind (arith, head_text-local)
  part_text-local (parts.MacroName at) fresh last place byte bs = if-local (length bs)
      (name_follows (byte ∷ (bs ++ 64 ∷ more))) (name_follows (byte ∷ bs)) _ _ _ _ (name-same At more (byte ∷ bs))
      (λ h. macro_name-local at (record { part = parts.MacroName at; comments = [] }) place byte bs)
      (λ h. improper-local notes.ImproperMacro at false (parts.MacroName at) fresh last place byte bs)
  part_text-local (parts.MacroParen at) fresh last place byte bs = grind (arith, simple-local)
  part_text-local (parts.Parameters at) fresh last place byte bs = if-local (length bs) (parameter_follows
      (byte ∷ (bs ++ 64 ∷ more))) (parameter_follows (byte ∷ bs)) _ _ _ _ (parameter-same At more (byte ∷ bs))
      (λ h. parameter-local (record { part = parts.Parameters at; comments = [] }) place byte bs)
      (λ h. improper-local notes.ImproperMacro at false (parts.Parameters at) fresh last place byte bs)
  part_text-local (parts.FormatName at second limbo) fresh last place byte bs = if-local (length bs) (name_follows (byte
      ∷ (bs ++ 64 ∷ more))) (name_follows (byte ∷ bs)) _ _ _ _ (name-same At more (byte ∷ bs)) (λ h. format_name-local
      at second limbo (record { part = parts.FormatName at second limbo; comments = [] }) place byte bs)
      (λ h. improper-local notes.ImproperFormat at limbo (parts.FormatName at second limbo) fresh last place byte bs)
  part_text-local parts.TexInner fresh last place byte bs = code_text-local At more code parts.TexInner [] fresh last
      place byte bs
  part_text-local parts.Begin fresh last place byte bs = code_text-local At more code parts.Begin [] fresh last place
      byte bs
  part_text-local (parts.Plain hash_line behind) fresh last place byte bs =
      code_text-local At more code (parts.Plain hash_line behind) [] fresh last place byte bs
  part_text-local parts.Definition fresh last place byte bs = code_text-local At more code parts.Definition [] fresh
      last place byte bs
  part_text-local parts.Inner fresh last place byte bs = code_text-local At more code parts.Inner [] fresh last place
      byte bs

  in_text-local : (part : Part) (cs : List Opened) (fresh : Bool) (last place byte : ℕ) (bs : List ℕ)
      → Local (length bs) (in_text_apart part cs fresh last place byte (bs ++ 64 ∷ more))
      (in_text_apart part cs fresh last place byte bs)
  in_text-local part [] fresh last place byte bs = part_text-local part fresh last place byte bs
  in_text-local part (c ∷ cs) fresh last place byte bs = within-local At more code part c cs fresh last place byte bs

  -- ## Sections

  section_code-same : (bs : List ℕ) → begins_section bs ≡ true → section_code (64 ∷ (bs ++ 64 ∷ more))
      ≡ section_code (64 ∷ bs)
  section_code-same [] h = absurd cc
  section_code-same (b ∷ bs) h =
      let d = depth-same At more bs in
      let least : depth_size bs ≤ length bs = depth-le bs in
      let size : 2 + depth_size bs ≤ length (64 ∷ b ∷ bs) = omega (arith, least) in
      let starred = (λ i. plain (kinds.Code at.StarredSection) ((2 + d i) + run classes.Blank (drop (2 + d i)
      (64 ∷ b ∷ (bs ++ 64 ∷ more))))) ∙ ap (λ n. plain (kinds.Code at.StarredSection) ((2 + depth_size bs) + n))
      (ap (run classes.Blank) (drop-same (2 + depth_size bs) (64 ∷ b ∷ bs) (64 ∷ more) size)
      ∙ run-same At more classes.Blank (drop (2 + depth_size bs) (64 ∷ b ∷ bs)) refl refl) in
      let unstarred = ap (λ n. plain (kinds.Code at.Section) (1 + n))
      (run-same At more classes.Blank (b ∷ bs) refl refl) in
      λ i. if begins star (b ∷ bs) then starred i else unstarred i

  section-local : (w : Where) (place byte : ℕ) (bs : List ℕ) → begins_section bs ≡ true
      → Local (length bs) (section w place (bs ++ 64 ∷ more)) (section w place bs)
  section-local w place byte bs h = before-local (length bs) (all_cut w.part w.comments place place) _ _
      (simple-local At more code false (record { part = parts.Tex; comments = [] }) place 64 bs
      (section_code (64 ∷ (bs ++ 64 ∷ more))) (section_code (64 ∷ bs)) (section_code-same bs h))

  pub found-local : (w : Where) (fresh : Bool) (last place byte : ℕ) (bs : List ℕ) → Local (length bs)
      (found_apart w fresh last place byte (bs ++ 64 ∷ more)) (found_apart w fresh last place byte bs)
  found-local w fresh last place byte bs = if-local (length bs) (byte == at_sign && begins_section (bs ++ 64 ∷ more))
      (byte == at_sign && begins_section bs) _ _ _ _ (ap (λ t. byte == at_sign && t) (section-same At more bs))
      (λ h. section-local w place byte bs (both-right (byte == at_sign) (begins_section bs) h))
      (λ h. in_text-local w.part w.comments fresh last place byte bs)
