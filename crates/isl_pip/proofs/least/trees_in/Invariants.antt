use Rattle.std.proofs.Common.{◌≡◌, map, take}
use Rattle.isl_space.specs.Space.{space_form_of}
use Rattle.isl_pip.proofs.TreesLaws.{AreSoFar}
use Rattle.isl_pip.proofs.least.trees_in.Given as goal

abbrev pub invariant-loop-titled : goal.invariant-loop-titled
invariant-loop-titled l =
    AreSoFar l.fn.meter l.meter l.params l.pieces (map (λ t. space_form_of t.space) (take l.titled-index l.spaces)) l.trees.items
