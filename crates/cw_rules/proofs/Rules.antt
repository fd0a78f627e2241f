-- What begins at a place is one of these rules: each law of what is found there is proved by these cases.
use Rattle.std.proofs.Common.{◌≡◌, ℕ, ◌+◌, Bool, true, false, ◌&&◌, not, ◌==◌, nat_lt, List, [], ◌∷◌, Option, length}
use Rattle.std.proofs.Common.{Some, None, drop, slice_index, refl, sym, ap, ◌∙◌, arith}
use Rattle.std.specs.Prelude.{if◌then◌else◌}
use Rattle.std.proofs.lemmas.Bool.Decides.{nat_tests}
use Rattle.std.specs.Option.{option_map_or}
use Rattle.cw_base.proofs.TestLaws.{both-left, both-right, not-true}
use Rattle.cw_base.specs.{declared.notes.NoteKind.NoteKind, Bytes.newline, Text.bar}
use Rattle.cw_rules.specs.declared.{codes.Code.Code, codes.Effect.Effect, parts.Part.Part, parts.Opened.Opened}
use Rattle.cw_rules.specs.declared.{parts.Start.Start, signs.Sign.Sign}
use Rattle.cw_rules.specs.Answers.{Note, Where, Cut, ScanStep, before, plain, dropped}
use Rattle.cw_rules.specs.model.Apart.{code_text_apart, comment_text_apart, behind_head_apart, part_text_apart}
use Rattle.cw_rules.specs.Bytes.{slash, star, at_sign, hash, less, comma, equals, left_paren, right_paren, run, begins}
use Rattle.cw_rules.specs.Bytes.{begins_by, is_in, is_letter, is_mark}
use Rattle.cw_rules.specs.Codes.{code_at, effect_in_limbo, effect_in_tex}
use Rattle.cw_rules.specs.{Constants.constant, Prefixes.prefix_size, Signs.all_signs, Signs.longest, Signs.spelling}
use Rattle.cw_rules.specs.Tokens.{alone_size, behind_format, behind_include, behind_white, behind_word, closes_on_line}
use Rattle.cw_rules.specs.Tokens.{code_by, code_token, comment_begin, comment_closed, comment_end, dropped_code}
use Rattle.cw_rules.specs.Tokens.{directive_at, effect_in, ends_at_bar, format_name, identifier, in_code, in_hash_line}
use Rattle.cw_rules.specs.Tokens.{include_name, inner_begin, inner_end, is_code_part, is_deep, is_head, is_name}
use Rattle.cw_rules.specs.Tokens.{is_space, limbo_by, limbo_text, line_end, macro_name, may_head, moved, name_follows}
use Rattle.cw_rules.specs.Tokens.{one, parameter, parameter_follows, passed, piece, skipped_byte, string, word}
use Rattle.cw_rules.{specs.Tokens.takes_hash_line, specs.Tokens.tex_by, specs.Tokens.with_inner, proofs.Choices.if-both}
use Rattle.cw_base.specs.declared.notes.NoteKind.TheVariants as notes
use Rattle.cw_rules.specs.declared.classes.Class.TheVariants as classes
use Rattle.cw_rules.specs.declared.codes.Effect.TheVariants as effects
use Rattle.cw_rules.specs.declared.parts.Behind.TheVariants as behinds
use Rattle.cw_rules.specs.declared.parts.Part.TheVariants as parts
use Rattle.cw_rules.specs.declared.parts.Start.TheVariants as start
use Rattle.cw_rules.specs.declared.signs.Sign.TheVariants as signs
use Rattle.cw_rules.specs.declared.tokens.TokKind.TheVariants as kinds

-- a part outside comments
abbrev pub within : Part → Where
within part = record { part = part; comments = [] }

-- ## C text

-- Nothing but a sign begins at a byte of C text.
pub record IsAlone (w : Where) (fresh : Bool) (byte : ℕ) (bytes : List ℕ) : Type 0 where
  pub line : (byte == newline) ≡ false
  pub space : is_space w.part byte bytes ≡ false
  pub hash : (byte == hash && (takes_hash_line w.part w.comments && fresh)) ≡ false
  pub less : (byte == less && (behind_include w.part && closes_on_line bytes)) ≡ false
  pub letter : is_letter byte ≡ false
  pub constant : nat_lt 0 (constant (byte ∷ bytes)) ≡ false
  pub mark : is_mark byte ≡ false
  pub long : (byte == slash && begins star bytes) ≡ false
  pub short : (byte == slash && begins slash bytes) ≡ false
  pub code : (byte == at_sign) ≡ false

-- A token of C text behind which the text goes on as it does.
pub data IsPassed (w : Where) (fresh : Bool) (place byte : ℕ) (bytes : List ℕ) : Cut → Type 0 where
  IncludeName : (byte == less) ≡ true → behind_include w.part ≡ true → closes_on_line bytes ≡ true
      → IsPassed w fresh place byte bytes (include_name place (byte ∷ bytes))
  Prefixed : nat_lt 0 (prefix_size (byte ∷ bytes)) ≡ true
      → IsPassed w fresh place byte bytes (string kinds.Quoted (prefix_size (byte ∷ bytes) + 1)
      (slice_index (byte ∷ bytes) (prefix_size (byte ∷ bytes))) place (byte ∷ bytes))
  Quoted : is_letter byte ≡ false → is_mark byte ≡ true
      → IsPassed w fresh place byte bytes (string kinds.Quoted (prefix_size (byte ∷ bytes) + 1) byte place
      (byte ∷ bytes))
  Constant : nat_lt 0 (constant (byte ∷ bytes)) ≡ true
      → IsPassed w fresh place byte bytes (plain kinds.Constant (constant (byte ∷ bytes)))
  Standing : (byte == at_sign) ≡ true → effect_in w.part w.comments (code_at bytes) ≡ effects.Stands
      → IsPassed w fresh place byte bytes (code_token (code_at bytes) place (byte ∷ bytes))
  Dropping : (note : NoteKind) → (byte == at_sign) ≡ true
      → effect_in w.part w.comments (code_at bytes) ≡ effects.Drops note
      → IsPassed w fresh place byte bytes (dropped_code note (code_at bytes) place (byte ∷ bytes))
  OfSign : (sign : Sign) → longest all_signs (byte ∷ bytes) ≡ Some sign → IsAlone w fresh byte bytes
      → IsPassed w fresh place byte bytes (plain (kinds.Sign sign) (length (spelling sign)))
  Other : longest all_signs (byte ∷ bytes) ≡ None → IsAlone w fresh byte bytes
      → IsPassed w fresh place byte bytes (plain kinds.OtherByte 1)

-- The part that begins with a code at a place.
pub data BeginsPart (place : ℕ) : Effect → Part → Type 0 where
  Macro : BeginsPart place effects.Defines (parts.MacroName place)
  Format : BeginsPart place effects.Formats (parts.FormatName place false false)
  CPart : BeginsPart place effects.BeginsC (parts.Plain false behinds.Other)

pub data CodeRule (w : Where) (fresh : Bool) (last place byte : ℕ) (bytes : List ℕ) : ScanStep → Type 0 where
  LineEnd : (byte == newline) ≡ true → CodeRule w fresh last place byte bytes (line_end w.part w.comments last place)
  Space : (byte == newline) ≡ false → is_space w.part byte bytes ≡ true
      → CodeRule w fresh last place byte bytes (skipped_byte w)
  HashLine : (byte == hash) ≡ true → takes_hash_line w.part w.comments ≡ true → fresh ≡ true
      → CodeRule w fresh last place byte bytes (one true (moved w (parts.Plain true behinds.Hash)) place (byte ∷ bytes)
      (plain kinds.HashLine 1))
  Word : nat_lt 0 (prefix_size (byte ∷ bytes)) ≡ false → is_letter byte ≡ true
      → CodeRule w fresh last place byte bytes (one (in_hash_line w.part) (moved w (behind_word w.part (byte ∷ bytes)))
      place (byte ∷ bytes) (word (directive_at w.part (byte ∷ bytes)) (byte ∷ bytes)))
  Passed : (cut : Cut) → IsPassed w fresh place byte bytes cut
      → CodeRule w fresh last place byte bytes (one (in_hash_line w.part) (moved w (passed w.part)) place (byte ∷ bytes)
      cut)
  Heading : (byte == at_sign) ≡ true → effect_in w.part w.comments (code_at bytes) ≡ effects.Stands
      → is_name (code_at bytes) ≡ true → may_head w.part w.comments ≡ true → is_head place (byte ∷ bytes) ≡ true
      → CodeRule w fresh last place byte bytes (one (in_hash_line w.part) (moved w parts.Head) place (byte ∷ bytes)
      (code_token (code_at bytes) place (byte ∷ bytes)))
  Beginning : (effect : Effect) (part : Part) → (byte == at_sign) ≡ true
      → effect_in w.part w.comments (code_at bytes) ≡ effect → BeginsPart place effect part
      → CodeRule w fresh last place byte bytes (one false (moved w part) place (byte ∷ bytes)
      (plain (kinds.Code (code_at bytes)) 2))
  Comment : (long : Bool) → (byte == slash && begins (if long then star else slash) bytes) ≡ true
      → CodeRule w fresh last place byte bytes (comment_begin long w place (byte ∷ bytes))
  InnerEnd : (byte == bar) ≡ true → ends_at_bar w.part w.comments ≡ true
      → CodeRule w fresh last place byte bytes (inner_end w place (byte ∷ bytes))

module _ (w : Where) (fresh : Bool) (last place byte : ℕ) (bytes : List ℕ) where
  abbrev Ruled : ScanStep → Type 0
  Ruled f = CodeRule w fresh last place byte bytes f

  code-by-rule : (effect : Effect) → (byte == at_sign) ≡ true → effect_in w.part w.comments (code_at bytes) ≡ effect
      → Ruled (code_by effect (code_at bytes) w place (byte ∷ bytes))
  code-by-rule effects.Stands at e =
      let heads = may_head w.part w.comments && is_head place (byte ∷ bytes) in
      if-both (λ n. Ruled (one (in_hash_line w.part) n place (byte ∷ bytes) (code_token (code_at bytes) place (byte
      ∷ bytes)))) (is_name (code_at bytes) && heads) _ _ (λ h. let k = both-right (is_name (code_at bytes)) heads h in
      Heading at e (both-left (is_name (code_at bytes)) heads h) (both-left (may_head w.part w.comments) _ k)
      (both-right (may_head w.part w.comments) _ k)) (λ h. Passed _ (Standing at e))
  code-by-rule (effects.Drops note) at e = Passed _ (Dropping note at e)
  code-by-rule effects.Defines at e = Beginning effects.Defines _ at e Macro
  code-by-rule effects.Formats at e = Beginning effects.Formats _ at e Format
  code-by-rule effects.BeginsC at e = Beginning effects.BeginsC _ at e CPart

  sign-rule : (o : Option Sign) → longest all_signs (byte ∷ bytes) ≡ o → IsAlone w fresh byte bytes
      → Ruled (in_code (option_map_or start.Sign o start.OtherByte) w place (byte ∷ bytes))
  sign-rule None e h = Passed _ (Other e h)
  sign-rule (Some sign) e h = Passed _ (OfSign sign e h)

  pub code-rule : Ruled (code_text_apart w fresh last place byte bytes)
  code-rule =
      let all = byte ∷ bytes in
      let P : Start → Type 0 = λ s. Ruled (in_code s w place all) in
      let ends = ends_at_bar w.part w.comments in
      let takes = takes_hash_line w.part w.comments in
      let closes = behind_include w.part && closes_on_line bytes in
      if-both Ruled (byte == newline) _ _ LineEnd
      (λ line. if-both Ruled (is_space w.part byte bytes) _ _ (Space line) (λ space. if-both Ruled
      (byte == hash && (takes && fresh)) _ _ (λ h. let k = both-right (byte == hash) (takes && fresh) h in
      HashLine (both-left (byte == hash) (takes && fresh) h) (both-left takes fresh k) (both-right takes fresh k))
      (λ hash. if-both Ruled (byte == less && closes) _ _ (λ h. let k = both-right (byte == less) closes h in
      Passed _ (IncludeName (both-left (byte == less) closes h) (both-left (behind_include w.part) _ k)
      (both-right (behind_include w.part) _ k))) (λ less. if-both P (nat_lt 0 (prefix_size all))
      (start.Quoted (slice_index all (prefix_size all))) _ (λ h. Passed _ (Prefixed h)) (λ bare. if-both P
      (is_letter byte) start.Identifier _ (Word bare) (λ letter. if-both P (nat_lt 0 (constant all)) start.Constant _
      (λ h. Passed _ (Constant h)) (λ constant. if-both P (is_mark byte) (start.Quoted byte) _ (λ h. Passed _
      (Quoted letter h)) (λ mark. if-both P (byte == slash && begins star bytes) start.LongComment _ (Comment true)
      (λ long. if-both P (byte == slash && begins slash bytes) start.ShortComment _ (Comment false) (λ short. if-both P
      (byte == at_sign) (start.Code (code_at bytes)) _ (λ h. code-by-rule (effect_in w.part w.comments (code_at bytes))
      h refl) (λ code. if-both P (byte == bar && (ends && not (begins bar bytes))) start.EndOfInner
      (option_map_or start.Sign (longest all_signs all) start.OtherByte) (λ h. InnerEnd (both-left (byte == bar) _ h)
      (both-left ends _ (both-right (byte == bar) _ h))) (λ h. sign-rule (longest all_signs all) refl (record {
        line = line;
        space = space;
        hash = hash;
        less = less;
        letter = letter;
        constant = constant;
        mark = mark;
        long = long;
        short = short;
        code = code;
      })))))))))))))

-- ## The text of a comment

pub data CommentRule (part : Part) (c : Opened) (comments : List Opened) (last place byte : ℕ) (bytes : List ℕ)
    : ScanStep → Type 0 where
  Closed : c.long ≡ true → (byte == star && begins slash bytes) ≡ true
      → CommentRule part c comments last place byte bytes (comment_closed part c comments place (byte ∷ bytes))
  EndedLine : c.long ≡ false → (byte == newline) ≡ true
      → CommentRule part c comments last place byte bytes (before (comment_end (in_hash_line part) c place 0 [])
      (line_end part comments last place))
  InnerBegin : (byte == bar) ≡ true → is_deep part (c ∷ comments) ≡ false
      → CommentRule part c comments last place byte bytes (inner_begin (in_hash_line part)
      (record { part = part; comments = with_inner c true ∷ comments }) place (byte ∷ bytes))
  Piece : (c.long && (byte == star && begins slash bytes)) ≡ false → (not c.long && byte == newline) ≡ false
      → (byte == bar && not (is_deep part (c ∷ comments))) ≡ false
      → CommentRule part c comments last place byte bytes (piece part comments c place (byte ∷ bytes))

pub comment-rule : (part : Part) (c : Opened) (comments : List Opened) (last place byte : ℕ) (bytes : List ℕ)
    → CommentRule part c comments last place byte bytes (comment_text_apart part c comments last place byte bytes)
comment-rule part c comments last place byte bytes =
    let P = CommentRule part c comments last place byte bytes in
    let deep = is_deep part (c ∷ comments) in
    if-both P (c.long && (byte == star && begins slash bytes)) _ _ (λ h. Closed (both-left c.long _ h) (both-right
    c.long _ h)) (λ closes. if-both P (not c.long && byte == newline) _ _ (λ h. EndedLine (not-true c.long (both-left
    (not c.long) _ h)) (both-right (not c.long) _ h)) (λ line. if-both P (byte == bar && not deep) _ _ (λ h. InnerBegin
    (both-left (byte == bar) _ h) (not-true deep (both-right (byte == bar) _ h))) (λ opens. Piece closes line opens)))

-- ## Limbo, TeX text and heads

pub data LimboRule (place byte : ℕ) (bytes : List ℕ) : ScanStep → Type 0 where
  LimboCode : (byte == at_sign) ≡ true → effect_in_limbo (code_at bytes) ≡ effects.Stands
      → LimboRule place byte bytes (one false (within parts.Limbo) place (byte ∷ bytes)
      (code_token (code_at bytes) place (byte ∷ bytes)))
  LimboFormat : (byte == at_sign) ≡ true → effect_in_limbo (code_at bytes) ≡ effects.Formats
      → LimboRule place byte bytes (one false (within (parts.FormatName place false true)) place (byte ∷ bytes)
      (plain (kinds.Code (code_at bytes)) 2))
  LimboDropped : (note : NoteKind) → (byte == at_sign) ≡ true
      → effect_in_limbo (code_at bytes) ≡ effects.Drops note
      → LimboRule place byte bytes (one false (within parts.Limbo) place (byte ∷ bytes)
      (dropped note place (plain (kinds.Code (code_at bytes)) (alone_size (byte ∷ bytes)))))
  LimboText : (byte == at_sign) ≡ false
      → LimboRule place byte bytes (one false (within parts.Limbo) place (byte ∷ bytes)
      (plain kinds.Text (run classes.LimboText (byte ∷ bytes))))

abbrev stays_in_limbo : Effect → Bool
stays_in_limbo effects.Defines = false
stays_in_limbo effects.BeginsC = false
stays_in_limbo effect = true

all-stay : (code : Code) → stays_in_limbo (effect_in_limbo code) ≡ true
all-stay code = grind (arith, nat_tests)

limbo-rule : (place byte : ℕ) (bytes : List ℕ)
    → LimboRule place byte bytes (limbo_text (within parts.Limbo) place byte bytes)
limbo-rule place byte bytes = if-both (LimboRule place byte bytes) (byte == at_sign) _ _
    (λ at. by at (effect_in_limbo (code_at bytes)) refl (all-stay (code_at bytes))) LimboText
  where
    by : (byte == at_sign) ≡ true → (effect : Effect) → effect_in_limbo (code_at bytes) ≡ effect → stays_in_limbo effect
        ≡ true → LimboRule place byte bytes (limbo_by effect (code_at bytes) (within parts.Limbo) place (byte ∷ bytes))
    by at effects.Stands e h = LimboCode at e
    by at effects.Formats e h = LimboFormat at e
    by at (effects.Drops note) e h = LimboDropped note at e
    by at _ e h = absurd cc

-- A head that is improper, with the note on its code.
pub data IsImproper : Part → NoteKind → ℕ → Type 0 where
  ImproperMacro : (code : ℕ) → IsImproper (parts.MacroName code) notes.ImproperMacro code
  ImproperParameters : (code : ℕ) → IsImproper (parts.Parameters code) notes.ImproperMacro code
  ImproperFormat : (code : ℕ) (second : Bool)
      → IsImproper (parts.FormatName code second false) notes.ImproperFormat code

-- Before what the head of a definition wants here, white space may stand.
pub data IsWanted (bytes : List ℕ) : Part → Type 0 where
  MacroWanted : (code : ℕ) → name_follows bytes ≡ true → IsWanted bytes (parts.MacroName code)
  ParameterWanted : (code : ℕ) → parameter_follows bytes ≡ true → IsWanted bytes (parts.Parameters code)
  FormatWanted : (code : ℕ) (second limbo : Bool) → name_follows bytes ≡ true
      → IsWanted bytes (parts.FormatName code second limbo)

-- A word of a head, and the part behind it.
pub data IsHeadWord (bytes : List ℕ) : Part → Part → Type 0 where
  LastOfMacro : (code : ℕ) → IsHeadWord bytes (parts.MacroName code) parts.Definition
  BeforeParameters : (code : ℕ) → begins left_paren (drop (run classes.Word bytes) bytes) ≡ true
      → IsHeadWord bytes (parts.MacroName code) (parts.MacroParen code)
  OfParameters : (code : ℕ) → IsHeadWord bytes (parts.Parameters code) (parts.Parameters code)
  FirstOfFormat : (code : ℕ) (limbo : Bool)
      → IsHeadWord bytes (parts.FormatName code false limbo) (parts.FormatName code true limbo)
  LastOfFormat : (code : ℕ) → IsHeadWord bytes (parts.FormatName code true false) parts.Definition
  LastInLimbo : (code : ℕ) → IsHeadWord bytes (parts.FormatName code true true) parts.Limbo

-- A sign of the parameters of a macro, and the part behind it.
pub data IsHeadSign (code : ℕ) (byte : ℕ) (bytes : List ℕ) : Sign → Part → Type 0 where
  CommaStands : (byte == comma) ≡ true → IsHeadSign code byte bytes signs.Comma (parts.Parameters code)
  Closes : (byte == right_paren) ≡ true → IsHeadSign code byte bytes signs.RightParen parts.Definition
  Dots : is_in classes.White byte ≡ false → is_letter byte ≡ false → (byte == comma) ≡ false
      → (byte == right_paren) ≡ false → parameter_follows (byte ∷ bytes) ≡ true
      → IsHeadSign code byte bytes signs.Ellipsis (parts.Parameters code)

-- What begins outside comments in a part.
pub data PartRule (fresh : Bool) (last place byte : ℕ) (bytes : List ℕ) : Part → ScanStep → Type 0 where
  OfCode : (part : Part) (f : ScanStep) → is_code_part part ≡ true → CodeRule (within part) fresh last place byte bytes
      f
      → PartRule fresh last place byte bytes part f
  OfLimbo : (f : ScanStep) → LimboRule place byte bytes f → PartRule fresh last place byte bytes parts.Limbo f
  TexCode : (byte == at_sign) ≡ true → effect_in_tex (code_at bytes) ≡ effects.Stands
      → PartRule fresh last place byte bytes parts.Tex (one false (within parts.Tex) place (byte ∷ bytes)
      (code_token (code_at bytes) place (byte ∷ bytes)))
  TexHeading : (byte == at_sign) ≡ true → effect_in_tex (code_at bytes) ≡ effects.Stands
      → is_name (code_at bytes) ≡ true → is_head place (byte ∷ bytes) ≡ true
      → PartRule fresh last place byte bytes parts.Tex (one false (within parts.Head) place (byte ∷ bytes)
      (code_token (code_at bytes) place (byte ∷ bytes)))
  TexDropped : (note : NoteKind) → (byte == at_sign) ≡ true → effect_in_tex (code_at bytes) ≡ effects.Drops note
      → PartRule fresh last place byte bytes parts.Tex (one false (within parts.Tex) place (byte ∷ bytes)
      (dropped_code note (code_at bytes) place (byte ∷ bytes)))
  TexBeginning : (effect : Effect) (part : Part) → (byte == at_sign) ≡ true → effect_in_tex (code_at bytes) ≡ effect
      → BeginsPart place effect part
      → PartRule fresh last place byte bytes parts.Tex (one false (within part) place (byte ∷ bytes)
      (plain (kinds.Code (code_at bytes)) 2))
  TexInner : (byte == bar) ≡ true
      → PartRule fresh last place byte bytes parts.Tex (inner_begin false (within parts.TexInner) place (byte ∷ bytes))
  TexText : (byte == at_sign) ≡ false → (byte == bar) ≡ false
      → PartRule fresh last place byte bytes parts.Tex (one false (within parts.Tex) place (byte ∷ bytes)
      (plain kinds.Text (run classes.TexText (byte ∷ bytes))))
  Blank : is_in classes.Blank byte ≡ true
      → PartRule fresh last place byte bytes parts.Head (skipped_byte (within parts.Head))
  HeadSign : is_in classes.Blank byte ≡ false
      → PartRule fresh last place byte bytes parts.Head (one false (within (parts.Plain false behinds.Other)) place
      (byte ∷ bytes) (plain kinds.HeadSign (if begins equals bytes then 2 else 1)))
  White : (part : Part) → is_in classes.White byte ≡ true → IsWanted (byte ∷ bytes) part
      → PartRule fresh last place byte bytes part (skipped_byte (within part))
  HeadWord : (part next : Part) → is_letter byte ≡ true → IsHeadWord (byte ∷ bytes) part next
      → PartRule fresh last place byte bytes part (one false (within next) place (byte ∷ bytes)
      (identifier (byte ∷ bytes)))
  Opening : (code : ℕ)
      → PartRule fresh last place byte bytes (parts.MacroParen code) (one false (within (parts.Parameters code)) place
      (byte ∷ bytes) (plain (kinds.Sign signs.LeftParen) 1))
  ParameterSign : (code : ℕ) (sign : Sign) (next : Part) → IsHeadSign code byte bytes sign next
      → PartRule fresh last place byte bytes (parts.Parameters code) (one false (within next) place (byte ∷ bytes)
      (plain (kinds.Sign sign) (length (spelling sign))))
  Improper : (part : Part) (kind : NoteKind) (code : ℕ) (f : ScanStep) → IsImproper part kind code
      → CodeRule (within parts.Definition) fresh last place byte bytes f
      → PartRule fresh last place byte bytes part (before (Note kind code ∷ []) f)
  ImproperInLimbo : (code : ℕ) (second : Bool) (f : ScanStep) → LimboRule place byte bytes f
      → PartRule fresh last place byte bytes (parts.FormatName code second true)
      (before (Note notes.ImproperFormat code ∷ []) f)

module _ (fresh : Bool) (last place byte : ℕ) (bytes : List ℕ) where
  abbrev In : Part → ScanStep → Type 0
  In part f = PartRule fresh last place byte bytes part f

  tex-by-rule : (effect : Effect) → (byte == at_sign) ≡ true → effect_in_tex (code_at bytes) ≡ effect
      → In parts.Tex (tex_by effect (code_at bytes) (within parts.Tex) place (byte ∷ bytes))
  tex-by-rule effects.Stands at e = if-both (λ n. In parts.Tex (one false n place (byte ∷ bytes) (code_token (code_at
      bytes) place (byte ∷ bytes)))) (is_name (code_at bytes) && is_head place (byte ∷ bytes)) _ _ (λ h. TexHeading at e
      (both-left (is_name (code_at bytes)) _ h) (both-right (is_name (code_at bytes)) _ h)) (λ h. TexCode at e)
  tex-by-rule (effects.Drops note) at e = TexDropped note at e
  tex-by-rule effects.Defines at e = TexBeginning effects.Defines _ at e Macro
  tex-by-rule effects.Formats at e = TexBeginning effects.Formats _ at e Format
  tex-by-rule effects.BeginsC at e = TexBeginning effects.BeginsC _ at e CPart

  -- what a head wants stands here, where no white space does
  here-wanted : is_in classes.White byte ≡ false → behind_white (byte ∷ bytes) ≡ byte ∷ bytes
  here-wanted white = grind (arith, nat_tests)

  word-rule : (part next : Part) → name_follows (byte ∷ bytes) ≡ true → is_in classes.White byte ≡ false → IsHeadWord
      (byte ∷ bytes) part next → In part (one false (within next) place (byte ∷ bytes) (identifier (byte ∷ bytes)))
  word-rule part next follows white k =
      HeadWord part next (ap (begins_by is_letter) (sym (here-wanted white)) ∙ follows) k

  macro-rule : (code : ℕ) → name_follows (byte ∷ bytes) ≡ true
      → In (parts.MacroName code) (macro_name code (within (parts.MacroName code)) place byte bytes)
  macro-rule code follows =
      let part = parts.MacroName code in
      if-both (In part) (is_in classes.White byte) _ _ (λ h. White part h (MacroWanted code follows))
      (λ white. if-both (λ n. In part (one false n place (byte ∷ bytes) (identifier (byte ∷ bytes)))) (begins left_paren
      (drop (run classes.Word (byte ∷ bytes)) (byte ∷ bytes))) _ _ (λ h. word-rule part (parts.MacroParen code) follows
      white (BeforeParameters code h)) (λ h. word-rule part parts.Definition follows white (LastOfMacro code)))

  parameter-rule : (code : ℕ) → parameter_follows (byte ∷ bytes) ≡ true
      → In (parts.Parameters code) (parameter (within (parts.Parameters code)) place byte bytes)
  parameter-rule code follows =
      let part = parts.Parameters code in
      if-both (In part) (is_in classes.White byte) _ _ (λ h. White part h (ParameterWanted code follows))
      (λ white. if-both (In part) (is_letter byte) _ _ (λ h. HeadWord part part h (OfParameters code))
      (λ letter. if-both (In part) (byte == comma) _ _ (λ h. ParameterSign code signs.Comma part (CommaStands h))
      (λ none. if-both (In part) (byte == right_paren) _ _ (λ h. ParameterSign code signs.RightParen parts.Definition
      (Closes h)) (λ more. ParameterSign code signs.Ellipsis part (Dots white letter none more follows)))))

  format-rule : (code : ℕ) (second limbo : Bool) → name_follows (byte ∷ bytes) ≡ true → In (parts.FormatName code second
      limbo) (format_name code second limbo (within (parts.FormatName code second limbo)) place byte bytes)
  format-rule code second limbo follows =
      let part = parts.FormatName code second limbo in
      if-both (In part) (is_in classes.White byte) _ _ (λ h. White part h (FormatWanted code second limbo follows))
      (λ white. by second limbo white)
    where
      by : (second limbo : Bool) → is_in classes.White byte ≡ false → In (parts.FormatName code second limbo) (one false
          (if second then behind_format limbo (within (parts.FormatName code second limbo))
          else moved (within (parts.FormatName code second limbo)) (parts.FormatName code true limbo)) place
          (byte ∷ bytes) (identifier (byte ∷ bytes)))
      by true true white = word-rule _ _ follows white (LastInLimbo code)
      by true false white = word-rule _ _ follows white (LastOfFormat code)
      by false limbo white = word-rule _ _ follows white (FirstOfFormat code limbo)

  pub part-rule : (part : Part) → In part (part_text_apart part (within part) fresh last place byte bytes)
  part-rule parts.Limbo = OfLimbo _ (limbo-rule place byte bytes)
  part-rule parts.Tex = if-both (In parts.Tex) (byte == at_sign) _ _ (λ h. tex-by-rule
      (effect_in_tex (code_at bytes)) h refl) (λ at. if-both (In parts.Tex) (byte == bar) _ _ TexInner (TexText at))
  part-rule parts.Head = if-both (In parts.Head) (is_in classes.Blank byte) _ _ Blank HeadSign
  part-rule (parts.MacroName code) =
      if-both (In (parts.MacroName code)) (name_follows (byte ∷ bytes)) _ _ (macro-rule code)
      (λ h. Improper _ _ _ _ (ImproperMacro code) (code-rule (within parts.Definition) fresh last place byte bytes))
  part-rule (parts.MacroParen code) = Opening code
  part-rule (parts.Parameters code) = if-both (In (parts.Parameters code)) (parameter_follows (byte ∷ bytes)) _ _
      (parameter-rule code) (λ h. Improper _ _ _ _ (ImproperParameters code)
      (code-rule (within parts.Definition) fresh last place byte bytes))
  part-rule (parts.FormatName code second limbo) = if-both (In (parts.FormatName code second limbo))
      (name_follows (byte ∷ bytes)) _ _ (format-rule code second limbo) (λ h. by limbo)
    where
      by : (limbo : Bool) → In (parts.FormatName code second limbo) (before (Note notes.ImproperFormat code ∷ [])
          (behind_head_apart limbo (within (parts.FormatName code second limbo)) fresh last place byte bytes))
      by true = ImproperInLimbo code second _ (limbo-rule place byte bytes)
      by false = Improper _ _ _ _ (ImproperFormat code second)
          (code-rule (within parts.Definition) fresh last place byte bytes)
  part-rule part = OfCode part _ refl (code-rule (within part) fresh last place byte bytes)
