use Rattle.std.proofs.Common.{◌≡◌, map, take}
use Rattle.isl_piece.specs.Placed.{placed_system}
use Rattle.isl_assumed.proofs.onto.placed_systems.Given as goal

abbrev pub invariant-loop-system : goal.invariant-loop-system
invariant-loop-system l = l.placed.items ≡ map (placed_system l.columns l.places) (take l.system-index l.systems)
