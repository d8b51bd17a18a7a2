-- inner: summands that are made of coefficients.
use Rattle.std.specs.Prelude.{◌≡◌, ◌≤◌, ℕ, ℤ, List, All, length, take}
use Rattle.isl_math.specs.Dot.{dot}
use Rattle.isl_meter.specs.Gauge.{Gauge, IsWithin}
use Rattle.isl_loop.specs.declared.tree.Item.{Item}
use Rattle.isl_loop.specs.Lists.{sum_of, IsItemOver}
use Rattle.isl_quast.specs.Quasi.{IsQuasiAtom}

-- the summands of the first coefficients
pub record AreSummands (coefs : List ℤ) (count : ℕ) (items : List Item) : Type 0 where
  pub over : (g : Gauge) (n : ℕ) → All (IsWithin g) coefs → length coefs ≤ n → All (IsItemOver g n) items
  pub value : (point : List ℤ) → length coefs ≡ length point → sum_of items point ≡ dot (take count coefs) (take count point)
  pub quasi : All (λ item. IsQuasiAtom item.atom) items
