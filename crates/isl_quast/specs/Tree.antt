-- public: the numbers at the leaf that a tree's tests lead to. (Feautrier, on quasi-affine selection trees)
use Rattle.std.specs.Prelude.{◌≡◌, ◌⊎◌, ℕ, ℤ, pos, int_lt, true, false, if◌then◌else◌, List, [], ◌∷◌, Option, Some, None, All, Any, map, length}
use Rattle.isl_meter.specs.Gauge.{Gauge}
use Rattle.isl_loop.specs.declared.tree.Expr.{Expr}
use Rattle.isl_loop.specs.Expr.{expr_value}
use Rattle.isl_loop.specs.Formed.{IsExprOver, ExprPasses}
use Rattle.isl_quast.specs.declared.tree.Quast.{Quast, Missing, Leaf, If', Row_of-Quast, end_of-Quast, more_of-Quast}

abbrev mutual
  -- the numbers of the leaf; none where there is nothing
  pub quast_at : Quast → List ℤ → Option (List ℤ)
  quast_at Missing numbers = None
  quast_at (Leaf exprs) numbers = Some (map (λ e. expr_value e numbers) exprs)
  quast_at (If' test s up t down) numbers = if int_lt (expr_value test numbers) (pos 0) then quast_in down numbers else quast_in up numbers

  -- a tree in a box is a row of one
  pub quast_in : {m : _} → Row_of-Quast m → List ℤ → Option (List ℤ)
  quast_in end_of-Quast numbers = None
  quast_in (more_of-Quast tree rest) numbers = quast_at tree numbers

abbrev mutual
  -- columns are among so many, and numbers are within the limit
  pub IsQuastOver : Gauge → ℕ → Quast → Type 0
  IsQuastOver g n Missing = Unit {0}
  IsQuastOver g n (Leaf exprs) = All (IsExprOver g n) exprs
  IsQuastOver g n (If' test s up t down) = IsExprOver g n test × AreQuastsOver g n up × AreQuastsOver g n down

  pub AreQuastsOver : {m : _} → Gauge → ℕ → Row_of-Quast m → Type 0
  AreQuastsOver g n end_of-Quast = ⊥
  AreQuastsOver g n (more_of-Quast tree rest) = IsQuastOver g n tree

abbrev mutual
  -- a product or a partial sum of an expression on the way at these numbers passes the limit
  pub WayPasses : Gauge → List ℤ → Quast → Type 0
  WayPasses g numbers Missing = ⊥
  WayPasses g numbers (Leaf exprs) = Any (ExprPasses g numbers) exprs
  WayPasses g numbers (If' test s up t down) =
      ExprPasses g numbers test
      ⊎ ((int_lt (expr_value test numbers) (pos 0) ≡ true) × WaysPass g numbers down)
      ⊎ ((int_lt (expr_value test numbers) (pos 0) ≡ false) × WaysPass g numbers up)

  pub WaysPass : {m : _} → Gauge → List ℤ → Row_of-Quast m → Type 0
  WaysPass g numbers end_of-Quast = ⊥
  WaysPass g numbers (more_of-Quast tree rest) = WayPasses g numbers tree

abbrev mutual
  -- each leaf has so many numbers
  pub HasWidth : ℕ → Quast → Type 0
  HasWidth w Missing = Unit {0}
  HasWidth w (Leaf exprs) = length exprs ≡ w
  HasWidth w (If' test s up t down) = HaveWidth w up × HaveWidth w down

  pub HaveWidth : {m : _} → ℕ → Row_of-Quast m → Type 0
  HaveWidth w end_of-Quast = Unit {0}
  HaveWidth w (more_of-Quast tree rest) = HasWidth w tree
