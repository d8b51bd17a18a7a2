-- inner: systems that hold where two others do, at numbers that are so ordered.
use Rattle.std.specs.Prelude.{◌≡◌, ◌↔◌, ◌+◌, ◌++◌, ℕ, ℤ, List, All, length}
use Rattle.isl_meter.specs.Gauge.{Gauge}
use Rattle.isl_piece.specs.declared.system.System.{System}
use Rattle.isl_piece.specs.System.{HoldsSystem, IsSystemWithin, free_columns}
use Rattle.isl_elim.specs.Elimination.{HoldsAtAny}
use Rattle.isl_orders.specs.declared.order.Order.{Order}
use Rattle.isl_orders.specs.declared.systems.Columns.{Columns}
use Rattle.isl_orders.specs.Comparison.{AreOrdered}

-- some of the systems over parameters, x and y holds where the first does at parameters and x, and the second at parameters and y, and x
-- is so ordered to y
pub record AreOfSets (g : Gauge) (parameters width : ℕ) (order : Order) (own other : System) (left : List System) : Type 0 where
  pub points : (v x y : List ℤ) → length v ≡ parameters → length x ≡ width → length y ≡ width
      → HoldsAtAny left (v ++ (x ++ y)) ↔ (HoldsSystem own (v ++ x) × HoldsSystem other (v ++ y) × AreOrdered order x y)
  pub free : All (λ s. free_columns s ≡ parameters + (width + width)) left
  pub within : All (IsSystemWithin g) left

-- some p and q, so ordered, make the first hold at parameters, x and p, and the second at parameters, y and q
abbrev pub HaveImages : ℕ → Order → System → System → List ℤ → List ℤ → List ℤ → Type 0
HaveImages width order own other v x y =
    (p : List ℤ) × (q : List ℤ) × (length p ≡ width) × (length q ≡ width) × HoldsSystem own (v ++ (x ++ p))
    × HoldsSystem other (v ++ (y ++ q)) × AreOrdered order p q

-- some of the systems over parameters, x and y holds where such images are
pub record AreOfMaps (g : Gauge) (columns : Columns) (order : Order) (own other : System) (left : List System) : Type 0 where
  pub points : (v x y : List ℤ) → length v ≡ columns.parameters → length x ≡ columns.first → length y ≡ columns.second
      → HoldsAtAny left (v ++ (x ++ y)) ↔ HaveImages columns.compared order own other v x y
  pub free : All (λ s. free_columns s ≡ columns.parameters + (columns.first + columns.second)) left
  pub within : All (IsSystemWithin g) left
