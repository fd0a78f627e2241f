-- Inner C text that is scanned by itself is scanned as in TeX text, up to its closing bar.
use Rattle.std.proofs.Common.{arith, ◌≡◌, ℕ, ◌≤◌, Bool, true, false, ◌&&◌, ◌||◌, not, ◌==◌, nat_lt, List, [], ◌∷◌, ◌++◌}
use Rattle.std.proofs.Common.{length, refl, ap, ◌⊎◌, inl, inr}
use Rattle.std.specs.Prelude.{if◌then◌else◌}
use Rattle.std.proofs.lemmas.Bool.Decides.{nat_tests}
use Rattle.std.specs.Option.{option_map_or}
use Rattle.cw_rules.specs.declared.{codes.Code.Code, codes.Effect.Effect, parts.Opened.Opened, parts.Start.Start}
use Rattle.cw_base.specs.{Bytes.newline, Text.bar}
use Rattle.cw_rules.specs.Bytes.{hash, star, slash, less, at_sign, is_in, is_letter, begins, is_mark}
use Rattle.cw_rules.specs.{Constants.constant, Prefixes.prefix_size, Signs.all_signs, Signs.longest}
use Rattle.cw_rules.specs.Answers.{Answer, Where, ScanStep, before}
use Rattle.cw_rules.specs.Tokens.{line_end, inner_cut, comment_end, is_deep, code_by, in_code, start_of, skipped_byte}
use Rattle.cw_rules.specs.Tokens.{is_tex_inner}
use Rattle.cw_rules.specs.model.Apart.{comment_text_apart, code_text_apart, in_text_apart, found_apart}
use Rattle.cw_rules.proofs.{Choices.and-none, Ahead.Bar, CodeAhead.inner-local}
use Rattle.cw_rules.specs.declared.classes.Class.TheVariants as classes
use Rattle.cw_rules.specs.declared.parts.Part.TheVariants as parts
use Rattle.cw_rules.specs.declared.parts.Start.TheVariants as start

-- a place in inner C text of TeX text
abbrev pub tex_inner : List Opened → Where
tex_inner cs = record { part = parts.TexInner; comments = cs }

-- a place in inner C text that is scanned by itself
abbrev pub alone : List Opened → Where
alone cs = record { part = parts.Inner; comments = cs }

-- what begins there, as it stands in TeX text
abbrev pub in_tex : ScanStep → ScanStep
in_tex g = record { answers = g.answers; more = g.more; next = tex_inner g.next.comments }

-- two findings that are the same where the first leaves the scan in inner C text of TeX text
pub record Twin (f g : ScanStep) : Type 0 where
  pub same : is_tex_inner f.next.part ≡ true → (f ≡ in_tex g) × (g.next.part ≡ parts.Inner)

if-twin : (t : Bool) (a b c d : ScanStep) → (t ≡ true → Twin a b) → (t ≡ false → Twin c d)
    → Twin (if t then a else c) (if t then b else d)
if-twin x1 a b c d f g = grind (arith, nat_tests)

before-twin : (xs : List Answer) (f g : ScanStep) → Twin f g → Twin (before xs f) (before xs g)
before-twin xs f g t = record { same = λ h. (ap (before xs) (t.same h).0, (t.same h).1) }

line_end-twin : (cs : List Opened) (last place : ℕ)
    → Twin (line_end parts.TexInner cs last place) (line_end parts.Inner cs last place)
line_end-twin [] last place = record { same = λ h. (refl, refl) }
line_end-twin (c ∷ cs) last place = if-twin c.long (skipped_byte (tex_inner (c ∷ cs)))
    (skipped_byte (alone (c ∷ cs))) _ _ (λ h. record { same = λ h. (refl, refl) })
    (λ h. before-twin (inner_cut false place place ++ comment_end false c place 0 [])
    (line_end parts.TexInner cs last place) (line_end parts.Inner cs last place) (line_end-twin cs last place))

code_by-twin : (effect : Effect) (c : Code) (cs : List Opened) (place : ℕ) (bytes : List ℕ)
    → Twin (code_by effect c (tex_inner cs) place bytes) (code_by effect c (alone cs) place bytes)
code_by-twin x1 c cs place bytes = grind (arith, nat_tests, nat_tests, and-none)

-- the bar ends inner C text of a comment; else it leaves that of TeX text
in_code-twin : (s : Start) (cs : List Opened) (place : ℕ) (bytes : List ℕ)
    → Twin (in_code s (tex_inner cs) place bytes) (in_code s (alone cs) place bytes)
in_code-twin x1 cs place bytes = grind (arith, nat_tests, code_by-twin)

-- two starts that differ at most at a closing bar
record Starts (s t : Start) : Type 0 where
  is : (s ≡ start.EndOfInner) ⊎ (s ≡ t)

if-starts : (t : Bool) (a b c : Start) → Starts b c → Starts (if t then a else b) (if t then a else c)
if-starts x1 a b c s = grind (arith, nat_tests)

starts : (byte : ℕ) (bs : List ℕ) → Starts (start_of true byte bs) (start_of false byte bs)
starts byte bs = if-starts (nat_lt 0 (prefix_size (byte ∷ bs))) _ _ _
    (if-starts (is_letter byte) _ _ _ (if-starts (nat_lt 0 (constant (byte ∷ bs))) _ _ _ (if-starts (is_mark byte) _ _ _
    (if-starts (byte == slash && begins star bs) _ _ _ (if-starts (byte == slash && begins slash bs) _ _ _
    (if-starts (byte == at_sign) _ _ _ (ends (byte == bar) (begins bar bs))))))))
  where
    ends : (a b : Bool) → Starts (if a && (true && not b) then start.EndOfInner
        else option_map_or start.Sign (longest all_signs (byte ∷ bs)) start.OtherByte)
        (if a && (false && not b) then start.EndOfInner
        else option_map_or start.Sign (longest all_signs (byte ∷ bs)) start.OtherByte)
    ends a b = grind (arith, nat_tests)

begun-twin : (cs : List Opened) (place byte : ℕ) (bs : List ℕ) (ends : Bool)
    → Starts (start_of true byte bs) (start_of ends byte bs) → (cs ≡ [] ⊎ ends ≡ true) → Twin (in_code (start_of true
    byte bs) (tex_inner cs) place (byte ∷ bs)) (in_code (start_of ends byte bs) (alone cs) place (byte ∷ bs))
begun-twin cs place byte bs true s e = in_code-twin (start_of true byte bs) cs place (byte ∷ bs)
begun-twin cs place byte bs false s (inr e) = absurd cc
begun-twin cs place byte bs false s (inl e) =
    grind (arith, nat_tests, in_code-twin (start_of true byte bs) cs place (byte ∷ bs))

code_text-twin : (cs : List Opened) (fresh : Bool) (last place byte : ℕ) (bs : List ℕ) → Twin (code_text_apart
    (tex_inner cs) fresh last place byte bs) (code_text_apart (alone cs) fresh last place byte bs)
code_text-twin cs fresh last place byte bs = if-twin (byte == newline) _ _ _ _ (λ h. line_end-twin cs last place)
    (λ h. if-twin (is_in classes.Blank byte || false) _ _ _ _ (λ h. record { same = λ h. (refl, refl) })
    (λ h. if-twin (byte == hash && false) _ _ _ _ (λ h. record { same = λ h. absurd cc })
    (λ h. if-twin (byte == less && false) _ _ _ _ (λ h. record { same = λ h. (refl, refl) }) (λ h. begun cs))))
  where
    begun : (cs : List Opened) → Twin (in_code (start_of true byte bs) (tex_inner cs) place (byte ∷ bs))
        (in_code (start_of (elim cs [ [] ↦ false | c ∷ more ↦ true ]) byte bs) (alone cs) place (byte ∷ bs))
    begun [] = begun-twin [] place byte bs false (starts byte bs) (inl refl)
    begun (c ∷ cs) = begun-twin (c ∷ cs) place byte bs true (record { is = inr refl }) (inr refl)

comment_text-twin : (c : Opened) (cs : List Opened) (last place byte : ℕ) (bs : List ℕ) → Twin (comment_text_apart
    parts.TexInner c cs last place byte bs) (comment_text_apart parts.Inner c cs last place byte bs)
comment_text-twin c cs last place byte bs = if-twin (c.long && (byte == star && begins slash bs)) _ _ _ _
    (λ h. record { same = λ h. (refl, refl) }) (λ h. if-twin (not c.long && byte == newline) _ _ _ _ (λ h. before-twin
    (comment_end false c place 0 []) (line_end parts.TexInner cs last place) (line_end parts.Inner cs last place)
    (line_end-twin cs last place)) (λ h. if-twin (byte == bar && not (is_deep parts.TexInner (c ∷ cs))) _ _ _ _
    (λ h. record { same = λ h. (refl, refl) }) (λ h. record { same = λ h. (refl, refl) })))

pub in_text-twin : (cs : List Opened) (fresh : Bool) (last place byte : ℕ) (bs : List ℕ) → Twin (in_text_apart
    parts.TexInner cs fresh last place byte bs) (in_text_apart parts.Inner cs fresh last place byte bs)
in_text-twin [] fresh last place byte bs = code_text-twin [] fresh last place byte bs
in_text-twin (c ∷ cs) fresh last place byte bs =
    grind (arith, code_text-twin (c ∷ cs) fresh last place byte bs, comment_text-twin c cs last place byte bs)

-- What begins at a place of inner C text of TeX text, and ends before a bar, is what begins there in the text up to the
-- bar.
pub found-twin : (more : List ℕ) (cs : List Opened) (fresh : Bool) (last place byte : ℕ) (bs : List ℕ) (f : ScanStep)
    → found_apart (tex_inner cs) fresh last place byte (bs ++ 124 ∷ more) ≡ f → f.more ≤ length bs
    → is_tex_inner f.next.part ≡ true → (f ≡ in_tex (found_apart (alone cs) fresh last place byte bs))
    × ((found_apart (alone cs) fresh last place byte bs).next.part ≡ parts.Inner)
found-twin more cs fresh last place byte bs f is fits inner =
    grind (arith, inner-local Bar more tt cs fresh last place byte bs, in_text-twin cs fresh last place byte bs)
