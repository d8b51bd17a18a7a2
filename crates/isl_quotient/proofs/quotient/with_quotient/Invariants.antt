use Rattle.std.proofs.Common.{◌≡◌, ◌+◌, ◌-◌, [], map, take}
use Rattle.isl_piece.specs.System.{free_columns}
use Rattle.isl_quotient.specs.Quotient.{short_definition}
use Rattle.isl_quotient.proofs.quotient.with_quotient.Given as goal

abbrev pub invariant-loop-definition : goal.invariant-loop-definition
invariant-loop-definition l = (l.made.definitions ≡ map (short_definition l.col) (take l.definition-index l.system.definitions))
    × (l.made.columns ≡ free_columns l.system - 1 + l.definition-index) × (l.made.rows ≡ [])
