-- public: how many units the affine hull of difference constraints over so many columns may cost.
use Rattle.std.specs.Prelude.{◌≡◌, ℕ, ◌+◌, ◌-◌, ◌*◌, ◌≤◌, List, [], ◌∷◌}
use Rattle.isl_meter.specs.Gauge.{Gauge}
use Rattle.isl_piece.specs.declared.system.System.{System}
use Rattle.isl_ledger.specs.Work.{AreOfSize, Size, row_limit}
use Rattle.isl_span.specs.Chain.{IsPlainChain}

-- a test of one system
abbrev pub test_units : ℕ → ℕ
test_units c = c * (c * c)

-- what the last column adds: each row may be asked once as an equation and once as a bound, and once two points are looked for
abbrev pub link_units : ℕ → ℕ
link_units c = row_limit c * test_units c + (test_units c + row_limit c * test_units c)

-- the same, and the column is taken out
abbrev pub column_units : ℕ → ℕ
column_units c = link_units c + c * c

abbrev pub hull_units : ℕ → ℕ
hull_units c = c * column_units c

-- from difference constraints with constants of so many bits, once the columns behind the first were taken: one system with a point
pub record IsChainWithin (g h : Gauge) (columns bits first : ℕ) (left : List System) : Type 0 where
  pub units : h.units ≤ g.units + (columns - first) * column_units columns
  pub now : System
  pub is : left ≡ now ∷ []
  pub plain : IsPlainChain first (bits + (columns - first)) now

-- all columns were taken, and one system is left, with constants of so many bits
pub record IsEnded (bits first : ℕ) (left : List System) : Type 0 where
  pub none : first ≡ 0
  pub size : AreOfSize (let size : Size = record { pieces = 1; columns = 0; bits = bits } in size) left
