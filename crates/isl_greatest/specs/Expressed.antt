-- inner: forms over defined columns as sums with quotients.
use Rattle.std.specs.Prelude.{◌≡◌, ◌↔◌, ◌+◌, ◌-◌, ℕ, ℤ, pos, neg_ℤ, ◌+ℤ◌, ◌≤ℤ◌, List, All, drop, length, map, slice_index_or}
use Rattle.isl_math.specs.Dot.{dot}
use Rattle.isl_meter.specs.Gauge.{Gauge}
use Rattle.isl_piece.specs.declared.definition.Definition.{Definition}
use Rattle.isl_piece.specs.declared.row.Row.{Row}
use Rattle.isl_piece.specs.declared.system.System.{System}
use Rattle.isl_piece.specs.Definition.{with_defined}
use Rattle.isl_piece.specs.Row.{HoldsRow}
use Rattle.isl_piece.specs.System.{HoldsSystem}
use Rattle.isl_loop.specs.declared.tree.Expr.{Expr}
use Rattle.isl_loop.specs.Expr.{expr_value}
use Rattle.isl_loop.specs.Formed.{IsExprOver}
use Rattle.isl_greatest.specs.State.{full}

-- the number of the form, at the numbers of the columns in front
pub record IsExpressed (g : Gauge) (n : ℕ) (definitions : List Definition) (coefs : List ℤ) (constant : ℤ) (e : Expr) : Type 0 where
  pub over : IsExprOver g n e
  pub value : (v : List ℤ) → length v ≡ n → expr_value e v ≡ dot coefs (with_defined definitions v) +ℤ constant

-- at least 0 exactly where the row holds at the numbers of all columns
pub record IsRowTest (g : Gauge) (n : ℕ) (definitions : List Definition) (r : Row) (e : Expr) : Type 0 where
  pub over : IsExprOver g n e
  pub tells : (v : List ℤ) → length v ≡ n → (pos 0 ≤ℤ expr_value e v) ↔ HoldsRow r (with_defined definitions v)

-- at least 0 exactly where the question holds
pub record IsTestOf (g : Gauge) (n : ℕ) (question : System) (e : Expr) : Type 0 where
  pub over : IsExprOver g n e
  pub tells : (v : List ℤ) → length v ≡ n → (pos 0 ≤ℤ expr_value e v) ↔ HoldsSystem question v

pub record IsNegatedColumn (g : Gauge) (n : ℕ) (numbers : System) (column : ℕ) (e : Expr) : Type 0 where
  pub over : IsExprOver g n e
  pub value : (v : List ℤ) → length v ≡ n → expr_value e v ≡ neg_ℤ (slice_index_or (full numbers v) column (pos 0))

-- one for each column behind the front
pub record AreExpressed (g : Gauge) (n : ℕ) (numbers : System) (leaf : List Expr) : Type 0 where
  pub over : All (IsExprOver g n) leaf
  pub count : n + length leaf ≡ numbers.columns
  pub value : (v : List ℤ) → length v ≡ n → map (λ e. expr_value e v) leaf ≡ map neg_ℤ (drop n (full numbers v))
