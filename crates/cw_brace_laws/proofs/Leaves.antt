-- The scrap of each token is braced, and holds no text where its category is calm, an operator or a colon.
use Rattle.cw_rules.specs.declared.tokens.Directive.{Directive}
use Rattle.cw_brace_laws.proofs.Terms.{◌≡◌, ℕ, Bool, false, Option, Some, None, IfSome, List, [], ◌∷◌, ◌++◌, ◌∙◌, refl}
use Rattle.cw_brace_laws.proofs.Terms.{arith, MathMode, Entry, TokKind, LeafForm, token_form, is_text, Token}
use Rattle.cw_brace_laws.proofs.Terms.{leaf_scrap, Tree, EndsAt, IsBraced, IsBracedScrap, depth_of, nat_tests}
use Rattle.cw_tokens.specs.Shapes.{item_of, shape, tree_in}
use Rattle.cw_brace_laws.proofs.CleanScraps.{IsLeafScrap, leaf-is-braced}
use Rattle.cw_brace_laws.proofs.Depths.{ends-maybe, ends-math}
use Rattle.std.specs.Option.{option_map_or}

-- ## Scraps

quiet-ends : (d : ℕ) (mode : MathMode) → is_text mode ≡ false → EndsAt d mode
quiet-ends d mode h = grind (arith, nat_tests)

abbrev pub FormBraced : Option LeafForm → Type 0
FormBraced None = Unit {0}
FormBraced (Some form) = IsLeafScrap (leaf_scrap form)

pub token-braced : (k : TokKind) (text : List ℕ) (hash_line : Bool) (d : Directive) (number : ℕ) (names : List Entry)
    → FormBraced (token_form k text hash_line d number names)
token-braced k text hash_line d number names = grind (arith, nat_tests, ends-math, ends-maybe, quiet-ends)

pub leaf-braced : (k : TokKind) (text : List ℕ) (hash_line : Bool) (d : Directive) (number : ℕ) (names : List Entry)
    → IfSome (token_form k text hash_line d number names) (λ form. IsBracedScrap (leaf_scrap form))
leaf-braced k text hash_line d number names = grind (arith, nat_tests, token-braced, leaf-is-braced)

-- ## Words of heads

-- a token that is no brace
abbrev pub IsFlat : Token → Type 0
IsFlat token = (rest : Tree) → depth_of (item_of [] (shape token) rest) 0 ≡ depth_of rest 0

abbrev pub AreFlat : List Token → Type 0
AreFlat [] = Unit {0}
AreFlat (token ∷ tokens) = IsFlat token × AreFlat tokens

pub flat-append : (xs ys : List Token) → AreFlat xs → AreFlat ys → AreFlat (xs ++ ys)
flat-append [] ys f g = g
flat-append (x ∷ xs) ys f g = (f.0, flat-append xs ys f.1 g)

pub flat-braced : (tokens : List Token) → AreFlat tokens → IsBraced (tree_in [] tokens)
flat-braced [] all = refl
flat-braced (token ∷ tokens) all = all.0 (tree_in [] tokens) ∙ flat-braced tokens all.1

pub token-flat : (k : TokKind) (text : List ℕ) (hash_line : Bool) (d : Directive) (number : ℕ) (names : List Entry)
    → AreFlat (option_map_or (λ form. form.tokens) (token_form k text hash_line d number names) [])
token-flat k text hash_line d number names = grind (arith, nat_tests)
