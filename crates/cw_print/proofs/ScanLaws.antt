-- Of the tokens that a scan finds by their numbers.
use Rattle.cw_print.proofs.Terms.{◌≡◌, ◌≢◌, ℕ, suc, ◌+◌, ◌-◌, ◌<◌, ◌≤◌, ◌^◌, List, ◌++◌, Option, Some, append_assoc}
use Rattle.cw_print.proofs.Terms.{arith, subst, drop, length, take, take_all, until_section, IsSeeking}
use Rattle.std.proofs.Math.Seq.{take-add}
use Rattle.cw_rules.specs.{declared.tokens.Lexed.Lexed, declared.tokens.Tok.Tok, Answers.Answer, Answers.Gives}
use Rattle.cw_rules.specs.{Answers.Seen, Answers.seen}
use Rattle.cw_print.specs.Found.{numbered}
use Rattle.cw_print.specs.model.Found.{HasNoNumber, HasNumber, IsAhead}

-- the answers from a place on, up to another
abbrev pub ahead-of : List Answer → ℕ → ℕ → List Answer
ahead-of all place end = take (end - place) (drop place all)

-- What a walk to the token of a number has left: the token, and the numbers that lie ahead.
pub record Passes (number : ℕ) (all : List Answer) (place end from : ℕ) : Type 0 where
  pub found : numbered number (ahead-of all place end) ≡ numbered number (take end all)
  pub ahead : IsAhead (take end all) from (ahead-of all place end)
  pub order : place ≤ end
  pub within : end ≤ length all
  pub above : number < from

gives-taken : (answer : Lexed) (n : ℕ) (old new : List Answer) → Gives old answer new
    → Gives (take (suc n) old) answer (take n new)
gives-taken answer n old new g = grind (arith, take_all)

gives-ahead : (answer : Lexed) (all : List Answer) (place end : ℕ) → place < end → Gives (drop place all) answer
    (drop (place + 1) all) → Gives (ahead-of all place end) answer (ahead-of all (place + 1) end)
gives-ahead answer all place end less g = subst (λ (n : ℕ). Gives (take n (drop place all)) answer
    (ahead-of all (place + 1) end)) (let e : suc (end - (place + 1)) ≡ end - place = omega (arith, less) in e)
    (gives-taken answer (end - (place + 1)) (drop place all) (drop (place + 1) all) g)

-- the walk goes on behind an answer whose token has another number
pub passes-token : (answer : Lexed) (token : Tok) (number : ℕ) (all : List Answer) (place end from more : ℕ)
    → place < end → Gives (drop place all) answer (drop (place + 1) all) → HasNumber answer token
    → token.span.start ≢ number → from ≤ more → ((m : ℕ) → more ≤ m → m < 2 ^ 32 → token.span.start ≢ m)
    → Passes number all place end from → Passes number all (place + 1) end more
passes-token answer token number all place end from more less g has other-number larger beyond p =
    grind (arith, gives-ahead)

-- and behind one without a token
pub passes-none : (answer : Lexed) (number : ℕ) (all : List Answer) (place end from : ℕ)
    → place < end → Gives (drop place all) answer (drop (place + 1) all) → HasNoNumber answer
    → Passes number all place end from → Passes number all (place + 1) end from
passes-none answer number all place end from less g none p = grind (arith, gives-ahead)

-- the token of the number is found
pub found-at : (answer : Lexed) (token : Tok) (number : ℕ) (all : List Answer) (place end from : ℕ) → place < end
    → Gives (drop place all) answer (drop (place + 1) all) → HasNumber answer token → token.span.start ≡ number
    → Passes number all place end from → Some (seen token) ≡ numbered number (take end all)
found-at answer token number all place end from less g has is p = grind (arith, gives-ahead answer all place end less g)

-- and the walk then stands behind it
pub seeks-behind : (answer : Lexed) (token : Tok) (number : ℕ) (all : List Answer) (place end from : ℕ) → place < end
    → Gives (drop place all) answer (drop (place + 1) all) → HasNumber answer token → token.span.start ≡ number
    → Passes number all place end from → IsSeeking all (record { place = place + 1; «end» = end; from = from })
seeks-behind answer token number all place end from less g has is p = grind (arith, gives-ahead)

-- each number from one on has its token behind an answer
pub seeks-on : (answer : Lexed) (all : List Answer) (place end from more : ℕ) → place < end → from ≤ more
    → Gives (drop place all) answer (drop (place + 1) all) → ((m : ℕ) (old new : List Answer) → more ≤ m → Gives old
    answer new → numbered m old ≡ numbered m new) → IsSeeking all (record { place = place; «end» = end; from = from })
    → IsSeeking all (record { place = place + 1; «end» = end; from = more })
seeks-on answer all place end from more less larger g same s = grind (arith, gives-ahead)

-- fewer numbers are known to lie ahead
pub seeks-less : (all : List Answer) (place end from more : ℕ) → from ≤ more → IsSeeking all (record
    { place = place; «end» = end; from = from }) → IsSeeking all (record { place = place; «end» = end; from = more })
seeks-less all place end from more larger s = grind arith

-- what is said of the token of a number holds as it stands ahead
pub of-ahead : (P : Option Seen → Type 0) (answer : Lexed) (number : ℕ) (all : List Answer) (place end : ℕ)
    → place < end → number < 2 ^ 32 → Gives (drop place all) answer (drop (place + 1) all)
    → ((old new : List Answer) → Gives old answer new → P (numbered number old))
    → IsSeeking all (record { place = place; «end» = end; from = number }) → P (numbered number (take end all))
of-ahead P answer number all place end less fits g says s =
    subst P (s.ahead.same number (omega arith) fits) (says _ _ (gives-ahead answer all place end less g))

-- ## Up to a section code

pub until-on : (all new : List Answer) (place : ℕ) → take 1 (drop place all) ++ until_section new
    ≡ until_section (drop place all) → take place all ++ until_section (drop place all) ≡ until_section all
    → take (place + 1) all ++ until_section new ≡ until_section all
until-on all new place one e = grind (arith, take-add, append_assoc)
