-- inner: what the evaluation of an expression leaves.
use Rattle.std.specs.Prelude.{◌≡◌, ℤ, pos, ◌+ℤ◌, Any, Option, Some, None, List, MatchResult, Result}
use Rattle.std.specs.Int.{int_max, int_min}
use Rattle.isl_meter.specs.Gauge.{Gauge, overflown}
use Rattle.isl_loop.specs.declared.tree.Expr.{Expr}
use Rattle.isl_loop.specs.declared.tree.Item.{Item}
use Rattle.isl_loop.specs.Formed.{ExprPasses}
use Rattle.isl_loop.specs.Lists.{extreme_in, extreme_past, ItemsPass, sum_of}
use Rattle.isl_ast.specs.declared.value.Extreme.{Extreme}
use Rattle.isl_ast.specs.declared.value.Extreme.TheVariants.{Least, Greatest}

-- the number z, and the meter is as it was; or a number passed the limit, and P says which
abbrev pub IsValued : {E : Type 0} → Gauge → Gauge → ℤ → Type 0 → Result ℤ E → Type 0
IsValued old new z P result = MatchResult result (λ v. (v ≡ z) × (new ≡ old)) (λ _. P × (new ≡ overflown old))

abbrev pub better : Extreme → ℤ → ℤ → ℤ
better Least = int_min
better Greatest = int_max

-- of the best so far and of more
abbrev pub extreme_with : (ℤ → ℤ → ℤ) → Option ℤ → List Expr → List ℤ → ℤ
extreme_with f None es point = extreme_in f es point
extreme_with f (Some best) es point = extreme_past f best es point

-- the sum so far, with what is left, is the whole; and what is past the limit in what is left is so in the whole
pub record IsSummed (g : Gauge) (point : List ℤ) (items : List Item) (sum : ℤ) (rest : List Item) : Type 0 where
  pub total : sum +ℤ sum_of rest point ≡ sum_of items point
  pub passes : ItemsPass g point sum rest → ItemsPass g point (pos 0) items

-- the same of the least or the greatest
pub record IsChosen (g : Gauge) (point : List ℤ) (f : ℤ → ℤ → ℤ) (es : List Expr) (best : Option ℤ) (rest : List Expr) : Type 0 where
  pub value : extreme_with f best rest point ≡ extreme_in f es point
  pub passes : Any (ExprPasses g point) rest → Any (ExprPasses g point) es
