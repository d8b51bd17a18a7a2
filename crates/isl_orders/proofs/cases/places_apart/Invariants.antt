use Rattle.isl_orders.specs.Cases.{AreCasesOf, DiffersBefore}
use Rattle.isl_orders.proofs.cases.places_apart.Given as goal

abbrev pub invariant-loop-at : goal.invariant-loop-at
invariant-loop-at l = AreCasesOf l.widths l.first l.second (DiffersBefore l.direction l.at) l.cases.items
