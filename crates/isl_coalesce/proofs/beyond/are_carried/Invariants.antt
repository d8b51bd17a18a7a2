use Rattle.std.proofs.Common.{◌≡◌, All, take}
use Rattle.isl_coalesce.specs.Beyond.{IsCarried}
use Rattle.isl_coalesce.proofs.beyond.are_carried.Given as goal

abbrev pub invariant-loop-row : goal.invariant-loop-row
invariant-loop-row l = All (IsCarried l.from l.to) (take l.row-index l.rows) × (l.meter ≡ l.fn.meter)
