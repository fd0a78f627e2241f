-- What is open among the answers, where the scanner stands so.
use Rattle.std.proofs.Common.{◌≡◌, ℕ, ◌+◌, Bool, true, false, not, ◌&&◌, List, [], ◌∷◌, refl, sym, ap, ◌∙◌, arith}
use Rattle.std.proofs.Common.{length, nat_lt, if◌then◌else◌}
use Rattle.std.proofs.{lemmas.List.Sums.sum_by-cons, lemmas.Bool.Decides.nat_tests}
use Rattle.std.specs.List.{count_by}
use Rattle.std.specs.Prelude.{cond}
use Rattle.cw_base.proofs.TestLaws.{both-left}
use Rattle.cw_rules.specs.declared.{parts.Behind.Behind, parts.Part.Part, parts.Opened.Opened, tokens.Mode.Mode}
use Rattle.cw_rules.specs.declared.{tokens.TokKind.TokKind}
use Rattle.cw_rules.specs.{Answers.Where, Tokens.moved}
use Rattle.cw_rules.specs.Tokens.{in_hash_line, is_deep, passed, first_depth, behind_word, is_include, comment_kind}
use Rattle.cw_rules.proofs.Choices.{if-both}
use Rattle.cw_lex.specs.{Lexing.beginning, Openings.is_limbo_mode}
use Rattle.cw_laws.specs.Ends.{is_inner_text, inner_depth, bars_begin}
use Rattle.cw_rules.specs.declared.parts.Behind.TheVariants as behinds
use Rattle.cw_rules.specs.declared.parts.Part.TheVariants as parts
use Rattle.cw_rules.specs.declared.tokens.Mode.TheVariants as modes
use Rattle.cw_rules.specs.declared.tokens.TokKind.TheVariants as kinds

-- ## The part

-- what is open without a comment: inner C text of TeX text
abbrev pub base : Part → List TokKind
base parts.TexInner = kinds.InnerText ∷ []
base part = []

abbrev pub limbo_part : Part → Bool
limbo_part parts.Limbo = true
limbo_part (parts.FormatName code second limbo) = limbo
limbo_part part = false

abbrev pub inner_part : Part → Bool
inner_part parts.Inner = true
inner_part part = false

abbrev pub inner_mode : Mode → Bool
inner_mode modes.Inner = true
inner_mode mode = false

-- a part of text in this mode
pub record Agrees (part : Part) (mode : Mode) : Type 0 where
  pub limbo : limbo_part part ≡ is_limbo_mode mode
  pub inner : inner_part part ≡ inner_mode mode

-- another part in which the same is open
pub record Like (part other : Part) : Type 0 where
  pub base : base other ≡ base part
  pub limbo : limbo_part other ≡ limbo_part part
  pub inner : inner_part other ≡ inner_part part

pub like-passed : (part : Part) → Like part (passed part)
like-passed part = grind (arith, nat_tests)

pub like-hash : (part : Part) (hash_line : Bool) (behind : Behind) → in_hash_line part ≡ true
    → Like part (parts.Plain hash_line behind)
like-hash part hash_line behind h = grind (arith, nat_tests)

pub like-word : (part : Part) (bytes : List ℕ) → Like part (behind_word part bytes)
like-word part bytes = if-both (Like part) (in_hash_line part && is_include bytes) (parts.Plain true behinds.Include)
    (passed part)
    (λ h. like-hash part true behinds.Include (both-left (in_hash_line part) (is_include bytes) h)) (λ h. like-passed
    part)

-- a part of a section outside inner C text
pub record IsOrdinary (part : Part) : Type 0 where
  pub base : base part ≡ []
  pub limbo : limbo_part part ≡ false
  pub inner : inner_part part ≡ false

pub like-ordinary : (part other : Part) → IsOrdinary part → IsOrdinary other → Like part other
like-ordinary part other p o = record {
  base = o.base ∙ sym p.base;
  limbo = o.limbo ∙ sym p.limbo;
  inner = o.inner ∙ sym p.inner;
}

pub agrees-like : (part other : Part) (mode : Mode) → Like part other → Agrees part mode → Agrees other mode
agrees-like part other mode l a = record { limbo = l.limbo ∙ a.limbo; inner = l.inner ∙ a.inner }

-- ## Comments

abbrev pub with_inner_text : Bool → List TokKind → List TokKind
with_inner_text true opened = kinds.InnerText ∷ opened
with_inner_text false opened = opened

-- comments, in each of which an inner text is open
pub record InComment (c : Opened) (inner : Bool) (Rest : List TokKind → Type 0) (opened : List TokKind) : Type 0 where
  pub rest : List TokKind
  pub is : c.inner ≡ inner
  pub whole : opened ≡ with_inner_text inner (comment_kind c.long ∷ rest)
  pub around : Rest rest

-- In limbo no comment and no C text stands.
abbrev pub Around : Part → List Opened → List TokKind → Type 0
Around part [] opened = (opened ≡ base part) × (limbo_part part ≡ false)
Around part (c ∷ cs) opened = InComment c true (Around part cs) opened

-- the same, but that in the innermost one an inner text may be open or not
abbrev pub Fits : Part → List Opened → List TokKind → Type 0
Fits part [] opened = opened ≡ base part
Fits part (c ∷ cs) opened = InComment c c.inner (Around part cs) opened

pub fits : (part : Part) (cs : List Opened) (opened : List TokKind) → Around part cs opened → Fits part cs opened
fits part cs opened h = grind (arith, nat_tests)

pub around-like : (part other : Part) (cs : List Opened) (opened : List TokKind) → Like part other
    → Around part cs opened → Around other cs opened
around-like part other [] opened l h = (h.0 ∙ sym l.base, l.limbo ∙ h.1)
around-like part other (c ∷ cs) opened l h = grind (arith, nat_tests, around-like part other cs h.rest l h.around)

pub not-limbo : (part : Part) (cs : List Opened) (opened : List TokKind) → Around part cs opened
    → limbo_part part ≡ false
not-limbo part [] opened h = h.1
not-limbo part (c ∷ cs) opened h = not-limbo part cs h.rest h.around

-- Where the scanner stands so, this is open in this mode.
pub record Stands (w : Where) (mode : Mode) (opened : List TokKind) : Type 0 where
  pub fit : Fits w.part w.comments opened
  pub agrees : Agrees w.part mode

-- the same in C text
pub record InCode (w : Where) (mode : Mode) (opened : List TokKind) : Type 0 where
  pub around : Around w.part w.comments opened
  pub agrees : Agrees w.part mode

pub code-like : (w : Where) (other : Part) (mode : Mode) (opened : List TokKind) → Like w.part other
    → InCode w mode opened → Stands (moved w other) mode opened
code-like w other mode opened l h = grind (arith, nat_tests, fits, around-like, agrees-like)

pub code-stands : (w : Where) (mode : Mode) (opened : List TokKind) → InCode w mode opened → Stands w mode opened
code-stands w mode opened h = record { fit = fits w.part w.comments opened h.around; agrees = h.agrees }

-- ## How many inner texts are open

none-and : (n : ℕ) → 0 + n ≡ n
none-and n = omega arith

comment-counts : (long : Bool) (opened : List TokKind)
    → count_by is_inner_text (comment_kind long ∷ opened) ≡ count_by is_inner_text opened
comment-counts long opened = grind (arith, nat_tests, sum_by-cons, none-and)

inner-counts : (opened : List TokKind)
    → count_by is_inner_text (kinds.InnerText ∷ opened) ≡ 1 + count_by is_inner_text opened
inner-counts opened = sum_by-cons (λ kind. cond (is_inner_text kind) 1 0) kinds.InnerText opened

depth-is : (mode : Mode) (opened : List TokKind)
    → inner_depth mode opened ≡ (if inner_mode mode then 1 else 0) + count_by is_inner_text opened
depth-is mode opened = grind (arith, nat_tests, none-and)

base-counts : (part : Part) → (if inner_part part then 1 else 0) + count_by is_inner_text (base part) ≡ first_depth part
base-counts parts.Inner = refl
base-counts parts.TexInner = refl
base-counts _ = refl

around-counts : (part : Part) (cs : List Opened) (opened : List TokKind) → Around part cs opened
    → count_by is_inner_text opened ≡ count_by is_inner_text (base part) + length cs
around-counts part [] opened f = ap (count_by is_inner_text) f.0 ∙ and-none (count_by is_inner_text (base part))
  where
    and-none : (n : ℕ) → n ≡ n + 0
    and-none n = omega arith
around-counts part (c ∷ cs) opened f =
    let more : count_by is_inner_text f.rest ≡ count_by is_inner_text (base part) + length cs =
    around-counts part cs f.rest f.around in
    omega (
      arith,
      ap (count_by is_inner_text) f.whole,
      inner-counts (comment_kind c.long ∷ f.rest),
      comment-counts c.long f.rest,
      more,
    )

pub deep-in : (part : Part) (c : Opened) (cs : List Opened) (mode : Mode) (rest : List TokKind) → Agrees part mode
    → Around part cs rest → bars_begin mode (comment_kind c.long ∷ rest) ≡ not (is_deep part (c ∷ cs))
deep-in part c cs mode rest a f = less (inner_depth mode (comment_kind c.long ∷ rest))
    (first_depth part + length (c ∷ cs)) (omega (
      arith,
      depth-is mode (comment_kind c.long ∷ rest),
      ap {B = ℕ} (λ b. if b then 1 else 0) a.inner,
      base-counts part,
      comment-counts c.long rest,
      around-counts part cs rest f,
    ))
  where
    less : (m n : ℕ) → n ≡ 1 + m → nat_lt m 20 ≡ not (nat_lt 20 n)
    less m n h = grind (arith, nat_tests)

-- ## Modes

pub beginning-stands : (mode : Mode) → Stands (beginning mode) mode []
beginning-stands modes.Limbo = record { fit = refl; agrees = record { limbo = refl; inner = refl } }
beginning-stands modes.TexText = record { fit = refl; agrees = record { limbo = refl; inner = refl } }
beginning-stands modes.CPart = record { fit = refl; agrees = record { limbo = refl; inner = refl } }
beginning-stands modes.Definition = record { fit = refl; agrees = record { limbo = refl; inner = refl } }
beginning-stands modes.Inner = record { fit = refl; agrees = record { limbo = refl; inner = refl } }
