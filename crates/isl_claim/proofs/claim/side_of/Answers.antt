use Rattle.std.proofs.Common.{◌∙◌, All, Contains, List, ap, subst, sym}
use Rattle.isl_space.specs.Name.{Name}
use Rattle.isl_claim.proofs.ProofLaws.{value_later}
use Rattle.isl_claim.proofs.SideLaws.{shown, side_is}
use Rattle.isl_claim.proofs.claim.side_of.Goals as goal

pub aligned_over-requires-clause-among : goal.aligned_over-requires-clause-among
aligned_over-requires-clause-among c =
    subst (λ (ns : List Name). All (Contains c.args.params.now) ns) (sym c.in_ok-flat.ensures.params) c.requires.declared

pub aligned_over-requires-clause-within : goal.aligned_over-requires-clause-within
aligned_over-requires-clause-within c =
    value_later c.args.meter.now c.flat.new.meter c.in_ok-flat.flat c.in_ok-flat.ensures.meter c.in_ok-flat.ensures.numbers

pub returns-clause-side : goal.returns-clause-side
returns-clause-side c =
    side_is c.flat.new.meter c.args.params.now c.args.value.now c.in_ok-flat.flat c.in_ok-pieces.pieces.items
    c.in_ok-in_printed_order.field-0.items (c.in_ok-in_printed_order.ensures ∙ ap shown c.as_slice.ensures.value) c.in_ok-pieces.ensures
    c.in_ok-flat.ensures.definitions c.in_ok-flat.ensures.elements
