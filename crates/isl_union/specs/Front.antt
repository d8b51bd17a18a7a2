-- inner: a system that is bounded behind numbers of its first columns. (isl manual, on bounded sets)
use Rattle.std.specs.Prelude.{ℕ, length}
use Rattle.isl_piece.specs.declared.system.System.{System}
use Rattle.isl_tower.specs.Bounded.{IsBounded, IsBoundedAt}
use Rattle.isl_union.specs.declared.bounded.Front.{Front}
use Rattle.isl_union.specs.declared.bounded.Front.TheVariants.{Each, At}

-- how many numbers stand at the front
abbrev pub front_width : Front → ℕ
front_width (Each outer) = outer
front_width (At numbers) = length numbers.now

-- the system is bounded at each list of so many numbers, or at this one
abbrev pub IsBoundedBehind : Front → System → Type 0
IsBoundedBehind (Each outer) s = IsBounded s outer
IsBoundedBehind (At numbers) s = IsBoundedAt s numbers.now
