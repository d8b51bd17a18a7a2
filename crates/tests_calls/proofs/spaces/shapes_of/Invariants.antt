use Rattle.std.proofs.Common.{All}
use Rattle.isl_space.specs.Form.{IsNamed}
use Rattle.isl_space.specs.Shape.{form_of}
use Rattle.tests_calls.proofs.spaces.shapes_of.Given as goal

abbrev pub invariant-loop-word : goal.invariant-loop-word
invariant-loop-word l = All (λ shape. IsNamed (form_of shape.value)) l.shapes.items

abbrev pub invariant-loop-pair : goal.invariant-loop-pair
invariant-loop-pair l =
    (goal.iterator-loop-pair).can_next l._pair-iterator
    × (goal.iterator-loop-pair).is_finite l._pair-iterator
    × All (λ shape. IsNamed (form_of shape.value)) l.shapes.items
