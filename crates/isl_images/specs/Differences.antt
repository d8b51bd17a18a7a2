-- inner: the system that says that some numbers are the differences of others.
use Rattle.std.specs.Prelude.{◌≡◌, ◌↔◌, ◌+◌, ◌*◌, ℕ, ℤ, pos, negsuc, List, [], ◌++◌, length, map, replicate, slice_set}
use Rattle.std.specs.List.{range_with_len}
use Rattle.isl_meter.specs.Gauge.{Gauge}
use Rattle.isl_piece.specs.declared.row.RowKind.TheVariants.{Zero}
use Rattle.isl_piece.specs.declared.row.Row.{Row}
use Rattle.isl_piece.specs.declared.system.System.{System}
use Rattle.isl_piece.specs.System.{HoldsSystem, IsSystemWithin, free_columns}
use Rattle.isl_relation.specs.Maps.{differences}

-- the row over parameters and the numbers d, x and y, so many of each, that says of those at one place that d + x - y is 0
abbrev pub difference_row : ℕ → ℕ → ℕ → Row
difference_row parameters width place =
    let zeros = replicate (parameters + 3 * width) (pos 0) in
    let one = slice_set zeros (parameters + place) (pos 1) in
    let two = slice_set one (parameters + width + place) (pos 1) in
    record { kind = Zero; coefs = slice_set two (parameters + 2 * width + place) (negsuc 0); constant = pos 0; k = pos 1 }

-- the system over these that says so of those at each place
abbrev pub difference_system : ℕ → ℕ → System
difference_system parameters width = record {
  columns = parameters + 3 * width;
  definitions = [];
  rows = map (difference_row parameters width) (range_with_len 0 width);
}

-- the system over parameters, d, x and y holds where the other holds at parameters, x and y, and d is y - x
pub record IsWithDifferences (g : Gauge) (system : System) (parameters width : ℕ) (made : System) : Type 0 where
  pub points : (v d x y : List ℤ) → length v ≡ parameters → length d ≡ width → length x ≡ width → length y ≡ width
      → HoldsSystem made (v ++ (d ++ (x ++ y))) ↔ (HoldsSystem system (v ++ (x ++ y)) × (d ≡ differences x y))
  pub within : IsSystemWithin g made
  pub columns : free_columns made ≡ parameters + 3 * width
  pub definitions : system.definitions ≡ [] → made.definitions ≡ []
