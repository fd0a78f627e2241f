-- Worked trees and texts: what is braced, what isn't, and why the operators are a premise.
use Rattle.cw_brace_laws.proofs.Terms.{◌≡◌, ℕ, true, None, List, [], ◌∷◌, codes, map, refl, replicate, Cat, Binop}
use Rattle.cw_brace_laws.proofs.Terms.{ConstLike, Exp, RawInt, RawUbin, Semi, Ubinop, MathMode, Math, Maybe, State}
use Rattle.cw_brace_laws.proofs.Terms.{comment_scrap, flat, trimmed_items, Scrap, whole, Empty, Then, Source, Ident}
use Rattle.cw_brace_laws.proofs.Terms.{Reserved, Sign, IsBraced, depth_of, IsPlainText, signs_printed}
use Rattle.cw_base.specs.Flags.{start_flags}
use Rattle.cw_table.specs.{Normal.log, Normal.normal, Productions.productions}
use Rattle.cw_trees.specs.declared.Control.TheVariants.{Blank, CloseBrace, OpenBrace, ThinSpace, ToMath, ToText}

-- `{*const\,}`, and with a blank in the place of the thin space
thin_space : IsBraced (Then (Sign OpenBrace) (Then (Source 0 Math) (Then (Reserved 0 1 ConstLike)
    (Then (Sign ThinSpace) (Then (Sign CloseBrace) Empty)))))
thin_space = refl

no_blank : depth_of (Then (Sign OpenBrace) (Then (Source 0 Math) (Then (Reserved 0 1 ConstLike)
    (Then (Sign Blank) (Then (Sign CloseBrace) Empty))))) 0 ≡ None
no_blank = refl

-- a brace that nothing opens, and toggles around braces and between them
no_closing : depth_of (Then (Sign CloseBrace) Empty) 0 ≡ None
no_closing = refl

toggles_outside : IsBraced (Then (Sign ToMath) (Then (Sign OpenBrace) (Then (Sign CloseBrace) (Then (Sign ToText)
    Empty))))
toggles_outside = refl

no_toggle_between : depth_of (Then (Sign OpenBrace) (Then (Sign ToText) (Then (Sign CloseBrace) Empty))) 0 ≡ None
no_toggle_between = refl

-- leaves, and a text of them
abbrev sign : Cat → MathMode → ℕ → Scrap
sign cat mode n = record { cat = cat; tree = Then (Source n mode) Empty; left = mode; right = mode }

abbrev ident : ℕ → ℕ → Scrap
ident name n = record { cat = Exp; tree = Then (Ident name n) Empty; left = Maybe; right = Maybe }

abbrev word : Cat → ℕ → ℕ → Scrap
word cat name n = record { cat = cat; tree = Then (Reserved name n cat) Empty; left = Maybe; right = Maybe }

abbrev start : List Scrap → State
start scraps = record { scraps = scraps; marks = []; cats = replicate 9 Exp }

-- `char *const p;`
abbrev pointer : State
pointer = start (word RawInt 0 0 ∷ sign RawUbin Math 1 ∷ word ConstLike 1 2 ∷ ident 2 3 ∷ sign Semi Maybe 4 ∷ [])

pointer_braced : IsBraced (whole (normal productions start_flags pointer).scraps)
unfolding normal productions
pointer_braced = refl

pointer_prints : signs_printed true (trimmed_items (flat (whole (normal productions start_flags pointer).scraps)))
    ≡ codes " ${}{\\,\\,}$"
unfolding normal productions
pointer_prints = refl

-- `*/* c */const p;`: the comment is joined with what follows
abbrev commented : State
commented = start (word RawInt 0 0 ∷ sign RawUbin Math 1 ∷ comment_scrap 2 [] ∷ word ConstLike 1 3 ∷ ident 2 4
    ∷ sign Semi Maybe 5 ∷ [])

commented_braced : IsBraced (whole (normal productions start_flags commented).scraps)
unfolding normal productions
commented_braced = refl

-- `b+=a`, a plain text: the operator of two signs is a relation
abbrev assigned : State
assigned = start (ident 0 0 ∷ sign Ubinop Math 1 ∷ sign Binop Math 2 ∷ ident 1 3 ∷ [])

assigned_plain : IsPlainText assigned
assigned_plain = refl

assigned_braced : IsBraced (whole (normal productions start_flags assigned).scraps)
unfolding normal productions
assigned_braced = refl

assigned_prints : signs_printed true (trimmed_items (flat (whole (normal productions start_flags assigned).scraps)))
    ≡ codes "$\\MRL{{}}$"
unfolding normal productions
assigned_prints = refl

-- `a+/* c */=b`, which is no C: the comment stands between the braces of the operator, so the premise isn't met
abbrev split : State
split = start (ident 0 0 ∷ sign Ubinop Math 1 ∷ comment_scrap 2 [] ∷ sign Binop Math 3 ∷ ident 1 4 ∷ [])

split_log : map (λ p. p.number) (log productions start_flags split) ≡ 81 ∷ 20 ∷ 6 ∷ []
unfolding log productions
split_log = refl

split_unbraced : depth_of (whole (normal productions start_flags split).scraps) 0 ≡ None
unfolding normal productions
split_unbraced = refl
