-- Sums over texts that ended.
use Rattle.cw_translator.proofs.Terms.{length, ◌≡◌, ◌+◌, List, [], ◌∷◌, ◌++◌, sym, zero-add, Flags, State, scraps_in}
use Rattle.cw_translator.proofs.Terms.{productions_in, ticks_in, text_limit, limit_in, count, productions, ticks}
use Rattle.std.proofs.lemmas.List.Sums.{sum_by-append}

-- one text
pub scraps-one : (state : State) → length state.scraps ≡ scraps_in (state ∷ [])
scraps-one state = sym (zero-add _)

module _ (flags : Flags) (state : State) where
  pub productions-one : count productions flags state ≡ productions_in flags (state ∷ [])
  productions-one = sym (zero-add _)

  pub ticks-one : ticks productions flags state ≡ ticks_in flags (state ∷ [])
  ticks-one = sym (zero-add _)

  pub limit-one : text_limit flags state ≡ limit_in flags (state ∷ [])
  limit-one = sym (zero-add _)

-- what has ended before, and more texts
module _ (flags : Flags) where
  pub ticks-more : (done more : List State) → ticks_in flags (done ++ more) ≡ ticks_in flags done + ticks_in flags more
  ticks-more = sum_by-append (λ state. ticks productions flags state)

  pub limits-more : (done more : List State) → limit_in flags (done ++ more) ≡ limit_in flags done + limit_in flags more
  limits-more = sum_by-append (λ state. text_limit flags state)
