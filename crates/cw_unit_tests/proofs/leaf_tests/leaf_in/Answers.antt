-- The list of a token's scrap is in the store when the scrap is made.
use Rattle.cw_scraps.proofs.LeafForms.{list-there}
use Rattle.cw_unit_tests.proofs.leaf_tests.leaf_in.Goals as goal

pub is_flat-requires : goal.is_flat-requires
is_flat-requires c = record {
  list = list-there _ _ _ _ _ _ _ _ _ c.requires.kind c.in_ok-leaf.ensures.form;
}
