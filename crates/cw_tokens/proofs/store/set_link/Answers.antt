-- The list to which a token refers has a link that can be set.
use Rattle.cw_tokens.proofs.Terms.{ap, inl, inr, shape, ref_of}
use Rattle.cw_tokens.proofs.store.set_link.Goals as goal

pub index_mut-requires : goal.index_mut-requires
index_mut-requires c = c.requires c.in-List.id.index (elim c.in-List.is [
  | inl e ↦ ap (λ t. ref_of (shape t)) e
  | inr e ↦ ap (λ t. ref_of (shape t)) e
])
