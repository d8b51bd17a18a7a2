use Rattle.std.proofs.Common.{◌≡◌, ◌⊎◌, inl, inr}
use Rattle.isl_greatest.proofs.expressed.row_test.Goals as goal

pub bound_test-requires : goal.bound_test-requires
bound_test-requires c = record {
  definitions = c.requires.definitions;
  formed = c.requires.formed;
  within = c.requires.within;
  kind = elim c.in-Zero.is [ inl equation ↦ absurd (c.requires.kind equation) | inr bound ↦ bound ];
}
