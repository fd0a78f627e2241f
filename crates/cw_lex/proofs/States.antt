-- What stays true of a scanner's parts and comments.
use Rattle.std.proofs.Common.{◌≡◌, ℕ, ◌+◌, ◌≤◌, Bool, true, false, List, [], ◌∷◌, length, drop, sym, ap, subst, ◌∙◌}
use Rattle.std.proofs.Common.{arith}
use Rattle.std.proofs.lemmas.Bool.Decides.{nat_tests}
use Rattle.cw_rules.specs.declared.{parts.Part.Part, parts.Opened.Opened, pending.Pending.Pending}
use Rattle.cw_lex.specs.{declared.state.State.State, model.Coming.AreOpenInCode, model.Coming.AllWithin}
use Rattle.cw_lex.specs.{model.Coming.IsReady}
use Rattle.cw_rules.specs.{Pending.IsInside, Tokens.is_code, Tokens.is_code_part}
use Rattle.cw_base.specs.model.Conditions.{one_if}
use Rattle.cw_lex.proofs.Steps.{AllWithin-more}

one_if-le : (b : Bool) → one_if b ≤ 1
one_if-le b = grind arith

-- another part leaves room for as many comments
pub depth-part : (p q : Part) (comments : List Opened) → length comments + one_if (is_code p comments) ≤ 21
    → length comments + one_if (is_code q comments) ≤ 21
depth-part p q comments h = grind (arith, one_if-le)

pub is_code-part : (p q : Part) (comments : List Opened) → is_code_part q ≡ is_code_part p → is_code q comments
    ≡ is_code p comments
is_code-part p q comments e = grind arith

pub nested-part : (p q : Part) (comments : List Opened) → is_code_part q ≡ is_code_part p → AreOpenInCode p comments
    → AreOpenInCode q comments
nested-part p q [] e n = tt
nested-part p q (c ∷ comments) e n = (is_code-part p q comments e ∙ n.0, nested-part p q comments e n.1)

-- one comment more
pub ready-push : (text : List ℕ) (s : State) (q : Part) (c : Opened) (comments : List Opened) (next : ℕ)
    → IsReady text s → is_code s.part s.comments ≡ true → is_code_part q ≡ is_code_part s.part → c.braces ≡ 0
    → c.inner ≡ false → comments ≡ c ∷ s.comments → s.at ≤ next → next ≤ length text
    → IsReady text (record { at = next; part = q; comments = comments; pending = s.pending; clear = s.clear })
ready-push text s q c comments next ready code part braces inner e from within =
    grind (arith, nat_tests, is_code-part, nested-part)

-- the innermost comment changed
pub ready-top : (text : List ℕ) (s : State) (q : Part) (c d : Opened) (comments : List Opened) (p : Pending) (next : ℕ)
    → IsReady text s → s.comments ≡ c ∷ drop 1 s.comments → is_code_part q ≡ is_code_part s.part → d.braces ≤ next
    → (length s.comments + one_if d.inner) ≤ 21 → comments ≡ d ∷ drop 1 s.comments → s.at ≤ next → next ≤ length text
    → IsInside (length text) p.body
    → IsReady text (record { at = next; part = q; comments = comments; pending = p; clear = s.clear })
ready-top text s q c d comments p next ready top part braces depth e from within notes =
    let rest = drop 1 s.comments in
    let P : List Opened → Type 0 = λ cs. IsReady text
    (record { at = next; part = q; comments = cs; pending = p; clear = s.clear }) in
    let all : AllWithin s.at (c ∷ rest) = subst (AllWithin s.at) top ready.braces in
    let nested : AreOpenInCode s.part (c ∷ rest) = subst (AreOpenInCode s.part) top ready.nested in
    subst P (sym e) (record {
      within = within;
      depth = omega (arith, depth, ap length top);
      nested = (is_code-part s.part q rest part ∙ nested.0, nested-part s.part q rest part nested.1);
      braces = (braces, AllWithin-more s.at next rest from all.1);
      notes = notes;
      clear = ready.clear;
    })

-- the innermost comment ended
pub ready-pop : (text : List ℕ) (s : State) (c : Opened) (comments : List Opened) (p : Pending) (next : ℕ)
    → IsReady text s → s.comments ≡ c ∷ comments → s.at ≤ next → next ≤ length text → IsInside (length text) p.body
    → IsReady text (record { at = next; part = s.part; comments = comments; pending = p; clear = s.clear })
ready-pop text s c comments p next ready top from within notes = grind (arith, nat_tests, one_if-le)

-- the innermost comment's braces
pub top-within : (n : ℕ) (comments : List Opened) (c : Opened) (rest : List Opened) → AllWithin n comments → comments
    ≡ c ∷ rest → c.braces ≤ n
top-within n comments c rest all e = (subst (AllWithin n) e all).0

-- behind the innermost comment C text goes on
pub top-nested : (part : Part) (comments : List Opened) (c : Opened) (rest : List Opened) → AreOpenInCode part comments
    → comments ≡ c ∷ rest → is_code part rest ≡ true
top-nested part comments c rest nested e = (subst (AreOpenInCode part) e nested).0
