use Rattle.std.proofs.Common.{Any, map, take}
use Rattle.isl_space.specs.Space.{space_form_of}
use Rattle.isl_union.specs.Piece.{kept_piece}
use Rattle.isl_products.specs.Layout.{IsWide}
use Rattle.isl_products.proofs.wide.ask_spaces_with.Given as goal

abbrev pub invariant-loop-other : goal.invariant-loop-other
invariant-loop-other l = ¬ Any (λ b. IsWide l.product (space_form_of l.own) b.space) (map kept_piece (take l.other-index l.others))
