-- Inner C text of TeX text that no bar closes has the answers of its bytes, up to the end of the text.
use Rattle.std.proofs.Common.{◌≡◌, ℕ, zero, suc, ◌+◌, ◌-◌, Bool, true, false, ◌&&◌, ◌||◌, not, ◌==◌, nat_lt, List, []}
use Rattle.std.proofs.Common.{◌∷◌, ◌++◌, Option, Some, None, length, refl, sym, ap, ◌∙◌, arith, append_assoc}
use Rattle.std.specs.Prelude.{if◌then◌else◌}
use Rattle.std.proofs.lemmas.Bool.Decides.{nat_tests}
use Rattle.std.specs.Option.{option_map_or}
use Rattle.cw_rules.specs.declared.classes.Class.TheVariants as classes
use Rattle.cw_rules.specs.declared.{codes.Code.Code, parts.Opened.Opened, parts.Start.Start, signs.Sign.Sign}
use Rattle.cw_rules.specs.declared.parts.Part.TheVariants as parts
use Rattle.cw_rules.specs.declared.parts.Start.TheVariants as start
use Rattle.cw_rules.specs.{Answers.Answer, Answers.Where, Answers.ScanStep, Codes.begins_section, Codes.effect_in_c}
use Rattle.cw_rules.specs.{Constants.constant, Prefixes.prefix_size, Tokens.section, Signs.all_signs, Signs.longest}
use Rattle.cw_base.specs.{Bytes.newline, Text.bar}
use Rattle.cw_rules.specs.Bytes.{hash, star, slash, less, at_sign, begins, is_letter, is_mark, is_in}
use Rattle.cw_lex.specs.{Lexing.still_fresh, Lexing.joined, Lexing.answers, Nested.begins_section_in, Parts.closing_bar}
use Rattle.cw_rules.specs.Tokens.{is_tex_inner, inner_cut, all_cut, line_end, code_by, in_code, start_of}
use Rattle.cw_rules.specs.model.Apart.{code_text_apart, comment_text_apart, in_text_apart, found_apart}
use Rattle.cw_rules.proofs.InnerTwins.{tex_inner, alone, in_tex, in_text-twin}
use Rattle.cw_rules.proofs.Choices.{if-both, and-none}
use Rattle.cw_lex.proofs.Openings.{section-cuts, uncut-right}
use Rattle.cw_base.proofs.TestLaws.{not-both, both-left}

-- ## What leaves inner C text

record Inside (f : ScanStep) : Type 0 where
  is : is_tex_inner f.next.part ≡ true

line-inside : (cs : List Opened) (last place : ℕ) → Inside (line_end parts.TexInner cs last place)
line-inside [] last place = record { is = refl }
line-inside (c ∷ cs) last place = grind (arith, nat_tests, line-inside cs last place, if-both)

code-inside : (c : Code) (cs : List Opened) (place : ℕ) (bytes : List ℕ)
    → is_tex_inner (code_by (effect_in_c c) c (tex_inner cs) place bytes).next.part ≡ true
code-inside c cs place bytes = grind arith

start-inside : (s : Start) (cs : List Opened) (place : ℕ) (bytes : List ℕ) → (s ≡ start.EndOfInner → ⊥)
    → Inside (in_code s (tex_inner cs) place bytes)
start-inside s cs place bytes h = grind (arith, code-inside)

-- only a bar ends inner C text
abbrev ends_inner : Start → Bool
ends_inner start.EndOfInner = true
ends_inner _ = false

record Bar (byte : ℕ) (s : Start) : Type 0 where
  is : ends_inner s ≡ true → (byte == bar) ≡ true

sign-bar : (byte : ℕ) (o : Option Sign) → Bar byte (option_map_or start.Sign o start.OtherByte)
sign-bar byte o = grind arith

bar-start : (ends : Bool) (byte : ℕ) (bytes : List ℕ) → Bar byte (start_of ends byte bytes)
bar-start ends byte bytes = if-both (Bar byte) (nat_lt 0 (prefix_size (byte ∷ bytes))) _ _ (λ e. record
    { is = λ h. absurd cc }) (λ e. if-both (Bar byte) (is_letter byte) _ _ (λ e. record { is = λ h. absurd cc })
    (λ e. if-both (Bar byte) (nat_lt 0 (constant (byte ∷ bytes))) _ _ (λ e. record { is = λ h. absurd cc })
    (λ e. if-both (Bar byte) (is_mark byte) _ _ (λ e. record { is = λ h. absurd cc }) (λ e. if-both (Bar byte)
    (byte == slash && begins star bytes) _ _ (λ e. record { is = λ h. absurd cc }) (λ e. if-both (Bar byte)
    (byte == slash && begins slash bytes) _ _ (λ e. record { is = λ h. absurd cc }) (λ e. if-both (Bar byte)
    (byte == at_sign) _ _ (λ e. record { is = λ h. absurd cc }) (λ e. if-both (Bar byte) (byte == bar &&
    (ends && not (begins bar bytes))) start.EndOfInner
    (option_map_or start.Sign (longest all_signs (byte ∷ bytes)) start.OtherByte) (λ e. record
    { is = λ h. both-left (byte == bar) _ e }) (λ e. sign-bar byte (longest all_signs (byte ∷ bytes))))))))))

no-bar : (ends : Bool) (byte : ℕ) (bytes : List ℕ) → (byte == bar) ≡ false → start_of ends byte bytes ≡ start.EndOfInner
    → ⊥
no-bar ends byte bytes n e = not-both (byte == bar) ((bar-start ends byte bytes).is (ap ends_inner e)) n

text-inside : (cs : List Opened) (fresh : Bool) (last place byte : ℕ) (bytes : List ℕ) (ends : Bool)
    → (byte == bar) ≡ false → Inside (in_code (start_of ends byte bytes) (tex_inner cs) place (byte ∷ bytes))
text-inside cs fresh last place byte bytes ends n = start-inside (start_of ends byte bytes) cs place (byte ∷ bytes)
    (no-bar ends byte bytes n)

code-text-inside : (cs : List Opened) (fresh : Bool) (last place byte : ℕ) (bytes : List ℕ) → (byte == bar) ≡ false
    → Inside (code_text_apart (tex_inner cs) fresh last place byte bytes)
code-text-inside cs fresh last place byte bytes n = if-both Inside (byte == newline) _ _ (λ h. line-inside cs last
    place) (λ h. if-both Inside (is_in classes.Blank byte || false) _ _ (λ h. record { is = refl }) (λ h. if-both Inside
    (byte == hash && false) _ _ (λ h. not-both _ h (and-none (byte == hash))) (λ h. if-both Inside (byte == less &&
    false) _ _ (λ h. not-both _ h (and-none (byte == less))) (λ h. text-inside cs fresh last place byte bytes true n))))

comment-inside : (c : Opened) (cs : List Opened) (last place byte : ℕ) (bytes : List ℕ)
    → Inside (comment_text_apart parts.TexInner c cs last place byte bytes)
comment-inside c cs last place byte bytes = grind (arith, line-inside cs last place)

in-text-inside : (cs : List Opened) (fresh : Bool) (last place byte : ℕ) (bytes : List ℕ) → (byte == bar) ≡ false
    → Inside (in_text_apart parts.TexInner cs fresh last place byte bytes)
in-text-inside [] fresh last place byte bytes n = code-text-inside [] fresh last place byte bytes n
in-text-inside (c ∷ cs) fresh last place byte bytes n =
    grind (arith, code-text-inside (c ∷ cs) fresh last place byte bytes n, comment-inside c cs last place byte bytes)

-- ## Up to the end

cut-inner : (cs : List Opened) (place about : ℕ) → all_cut parts.TexInner cs place about
    ≡ all_cut parts.Inner cs place about ++ inner_cut false place about
cut-inner [] place about = refl
cut-inner (c ∷ cs) place about = grind (arith, nat_tests, cut-inner cs place about, append_assoc)

pub to-end : (end : ℕ) (bytes : List ℕ) (cs : List Opened) (fresh : Bool) (last place taken : ℕ)
    → end ≡ place + length bytes → closing_bar bytes (tex_inner cs) fresh last place taken ≡ None
    → begins_section_in (answers bytes (tex_inner cs) fresh last place taken) ≡ false → answers bytes (tex_inner cs)
    fresh last place taken ≡ answers bytes (alone cs) fresh last place taken ++ inner_cut false end (end - 1)
to-end end [] cs fresh last place taken e n u = grind (arith, cut-inner)
to-end end (byte ∷ bytes) cs fresh last place zero e n u =
    by (is_tex_inner (found_apart (tex_inner cs) fresh last place byte bytes).next.part) refl
    (λ ds more k v. to-end end bytes ds (still_fresh fresh byte) byte (place + 1) more (omega (arith, e)) k v)
  where
    f : ScanStep
    f = found_apart (tex_inner cs) fresh last place byte bytes

    none-is : (p : ℕ) → ◌≡◌ {A = Option ℕ} (Some p) None → ⊥
    none-is p e = cc

    plain : (byte == at_sign && begins_section bytes) ≡ false
    plain = case (byte == at_sign && begins_section bytes) refl
      where
        case : (b : Bool) → (byte == at_sign && begins_section bytes) ≡ b → (byte == at_sign && begins_section bytes)
            ≡ false
        case true h =
            let g = found_apart (tex_inner cs) fresh last place byte bytes in
            let rest = answers bytes g.next (still_fresh fresh byte) byte (place + 1) g.more in
            not-both _ (section-cuts (tex_inner cs) place bytes rest)
            (ap (λ b. begins_section_in ((if b then section (tex_inner cs) place bytes else in_text_apart parts.TexInner
            cs fresh last place byte bytes).answers ++ rest)) (sym h) ∙ u)
        case false h = h

    by : (b : Bool) → is_tex_inner (found_apart (tex_inner cs) fresh last place byte bytes).next.part ≡ b
        → ((ds : List Opened) (more : ℕ) → closing_bar bytes (tex_inner ds) (still_fresh fresh byte) byte (place + 1)
        more ≡ None → begins_section_in (answers bytes (tex_inner ds) (still_fresh fresh byte) byte (place + 1) more)
        ≡ false → answers bytes (tex_inner ds) (still_fresh fresh byte) byte (place + 1) more ≡ answers bytes (alone ds)
        (still_fresh fresh byte) byte (place + 1) more ++ inner_cut false end (end - 1)) → answers (byte ∷ bytes)
        (tex_inner cs) fresh last place 0 ≡ answers (byte ∷ bytes) (alone cs) fresh last place 0 ++ inner_cut false end
        (end - 1)
    by true h rec =
        let f = found_apart (tex_inner cs) fresh last place byte bytes in
        let g = found_apart (alone cs) fresh last place byte bytes in
        let of-f : f ≡ in_text_apart parts.TexInner cs fresh last place byte bytes =
        ap (λ t. if t then section (tex_inner cs) place bytes else in_text_apart parts.TexInner cs fresh last place byte
        bytes) plain in
        let of-g : g ≡ in_text_apart parts.Inner cs fresh last place byte bytes =
        ap (λ t. if t then section (alone cs) place bytes else in_text_apart parts.Inner cs fresh last place byte bytes)
        plain in
        let twin = (in_text-twin cs fresh last place byte bytes).same
        (ap (λ (f : ScanStep). is_tex_inner f.next.part) (sym of-f) ∙ h) in
        let same : f ≡ in_tex g = of-f ∙ twin.0 ∙ ap in_tex (sym of-g) in
        let part : g.next.part ≡ parts.Inner = ap (λ (f : ScanStep). f.next.part) of-g ∙ twin.1 in
        let here : alone g.next.comments ≡ g.next = (λ i. record { part = sym part i; comments = g.next.comments }) in
        let rest : Where → ℕ → List Answer = λ next more. answers bytes next (still_fresh fresh byte) byte (place + 1)
        more in
        let closes : closing_bar bytes (tex_inner g.next.comments) (still_fresh fresh byte) byte (place + 1) g.more
        ≡ None =
        ap (λ (f : ScanStep). closing_bar bytes f.next (still_fresh fresh byte) byte (place + 1) f.more) (sym same)
        ∙ sym (ap (λ t. if t then closing_bar bytes f.next (still_fresh fresh byte) byte (place + 1) f.more else
        (if byte == bar then Some place else None)) h) ∙ n in
        let uncut : begins_section_in (rest (tex_inner g.next.comments) g.more)
        ≡ false = ap (λ (f : ScanStep). begins_section_in (rest f.next f.more)) (sym same)
        ∙ uncut-right f.answers (rest f.next f.more) u in
        ap (λ (f : ScanStep). joined f rest) same
        ∙ ap (λ l. g.answers ++ l) (rec g.next.comments g.more closes uncut)
        ∙ ap (λ (w : Where). g.answers ++ (rest w g.more ++ inner_cut false end (end - 1))) here
        ∙ sym (append_assoc g.answers (rest g.next g.more) (inner_cut false end (end - 1)))
    by false h rec = leaves (byte == bar) refl
      where
        leaves : (b : Bool) → (byte == bar) ≡ b → answers (byte ∷ bytes) (tex_inner cs) fresh last place 0
            ≡ answers (byte ∷ bytes) (alone cs) fresh last place 0 ++ inner_cut false end (end - 1)
        leaves true k =
            let g = found_apart (tex_inner cs) fresh last place byte bytes in
            absurd (none-is place (sym (λ i. if h i then closing_bar bytes g.next (still_fresh fresh byte) byte
            (place + 1) g.more else if k i then Some place else None) ∙ n))
        leaves false k =
            let stays : is_tex_inner (found_apart (tex_inner cs) fresh last place byte bytes).next.part ≡ true =
            ap (λ t. is_tex_inner (if t then section (tex_inner cs) place bytes else in_text_apart parts.TexInner cs
            fresh
            last place byte bytes).next.part) plain ∙ (in-text-inside cs fresh last place byte bytes k).is in
            not-both _ stays h
to-end end (byte ∷ bytes) cs fresh last place (suc taken) e n u =
    to-end end bytes cs (still_fresh fresh byte) byte (place + 1) taken (omega (arith, e)) n u
