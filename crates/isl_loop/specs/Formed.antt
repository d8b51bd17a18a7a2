-- public: loops that are well formed over so many columns, and where their numbers pass the limit. (isl manual, on abstract syntax trees)
use Rattle.std.specs.Prelude.{◌≡◌, ◌⊎◌, ℕ, ◌+◌, ◌<◌, ℤ, pos, ◌+ℤ◌, ◌*ℤ◌, ◌<ℤ◌, true, List, [], ◌∷◌, ◌++◌, All, Any}
use Rattle.isl_meter.specs.Gauge.{Gauge, IsWithin}
use Rattle.isl_piece.specs.declared.row.Row.{Row}
use Rattle.isl_piece.specs.Normal.{normal_row, Kept}
use Rattle.isl_piece.specs.Row.{FormPassesLimit, IsRowWithin, IsWellFormed}
use Rattle.isl_loop.specs.declared.tree.Expr.{Expr, Expr', Row_of-Item, end_of-Item, more_of-Item}
use Rattle.isl_loop.specs.declared.tree.Atom.{Atom, Column, Floor', Ceil', Min', Max', Row_of-Expr, end_of-Expr, more_of-Expr}
use Rattle.isl_loop.specs.declared.tree.Loop.{Loop, Block', For', If', Call, Row_of-Loop, end_of-Loop, more_of-Loop}
use Rattle.isl_loop.specs.Expr.{expr_value, atom_value}
use Rattle.isl_loop.specs.Run.{rows_hold}
use Rattle.isl_loop.specs.Turns.{turns}

-- ---- expressions
-- there are two or more
abbrev pub AreSome : {m : _} → Row_of-Expr m → Type 0
AreSome end_of-Expr = ⊥
AreSome (more_of-Expr e end_of-Expr) = ⊥
AreSome (more_of-Expr e (more_of-Expr f rest)) = Unit {0}

abbrev mutual
  -- columns are among so many, divisors are above 0, `min` and `max` have two parts or more, and numbers are within the limit
  pub IsExprOver : Gauge → ℕ → Expr → Type 0
  IsExprOver g n (Expr' s items constant) = IsSumOver g n items × IsWithin g constant

  pub IsSumOver : {m : _} → Gauge → ℕ → Row_of-Item m → Type 0
  IsSumOver g n end_of-Item = Unit {0}
  IsSumOver g n (more_of-Item coef atom rest) = IsWithin g coef × IsAtomOver g n atom × IsSumOver g n rest

  pub IsAtomOver : Gauge → ℕ → Atom → Type 0
  IsAtomOver g n (Column place) = place < n
  IsAtomOver g n (Floor' s row k) = AreExprsOver g n row × (pos 0 <ℤ k) × IsWithin g k
  IsAtomOver g n (Ceil' s row k) = AreExprsOver g n row × (pos 0 <ℤ k) × IsWithin g k
  IsAtomOver g n (Min' s row) = AreExprsOver g n row × AreSome row
  IsAtomOver g n (Max' s row) = AreExprsOver g n row × AreSome row

  pub AreExprsOver : {m : _} → Gauge → ℕ → Row_of-Expr m → Type 0
  AreExprsOver g n end_of-Expr = Unit {0}
  AreExprsOver g n (more_of-Expr e rest) = IsExprOver g n e × AreExprsOver g n rest

-- ---- loops
-- a normal row over so many columns
pub record IsRowOver (g : Gauge) (n : ℕ) (r : Row) : Type 0 where
  pub shape : IsWellFormed n r
  pub within : IsRowWithin g r
  pub normal : normal_row r ≡ Kept r

abbrev mutual
  -- a loop's body is over one column more: its variable; steps are above 0
  pub IsLoopOver : Gauge → ℕ → Loop → Type 0
  IsLoopOver g n (Block' s row) = AreLoopsOver g n row
  IsLoopOver g n (For' low high step s body) =
      IsExprOver g n low × IsExprOver g n high × (pos 0 <ℤ step) × IsWithin g step × AreLoopsOver g (n + 1) body
  IsLoopOver g n (If' rows s body) = All (IsRowOver g n) rows × AreLoopsOver g n body
  IsLoopOver g n (Call name args) = All (IsExprOver g n) args

  pub AreLoopsOver : {m : _} → Gauge → ℕ → Row_of-Loop m → Type 0
  AreLoopsOver g n end_of-Loop = Unit {0}
  AreLoopsOver g n (more_of-Loop part rest) = IsLoopOver g n part × AreLoopsOver g n rest

-- ---- a product or a sum passes the limit
abbrev mutual
  -- of an expression at a point: a product, the sum of the first products, or the whole sum
  pub ExprPasses : Gauge → List ℤ → Expr → Type 0
  ExprPasses g point (Expr' s items constant) = SumPasses g point (pos 0) items ⊎ (¬ IsWithin g (expr_value (Expr' s items constant) point))

  -- behind products that make up the sum so far
  pub SumPasses : {m : _} → Gauge → List ℤ → ℤ → Row_of-Item m → Type 0
  SumPasses g point sum end_of-Item = ⊥
  SumPasses g point sum (more_of-Item coef atom rest) =
      let product = coef *ℤ atom_value atom point in
      AtomPasses g point atom ⊎ (¬ IsWithin g product) ⊎ (¬ IsWithin g (sum +ℤ product)) ⊎ SumPasses g point (sum +ℤ product) rest

  pub AtomPasses : Gauge → List ℤ → Atom → Type 0
  AtomPasses g point (Column place) = ⊥
  AtomPasses g point (Floor' s row k) = SomePasses g point row
  AtomPasses g point (Ceil' s row k) = SomePasses g point row
  AtomPasses g point (Min' s row) = SomePasses g point row
  AtomPasses g point (Max' s row) = SomePasses g point row

  pub SomePasses : {m : _} → Gauge → List ℤ → Row_of-Expr m → Type 0
  SomePasses g point end_of-Expr = ⊥
  SomePasses g point (more_of-Expr e rest) = ExprPasses g point e ⊎ SomePasses g point rest

abbrev mutual
  -- somewhere in the run
  pub RunPasses : Gauge → List ℤ → Loop → Type 0
  RunPasses g point (Block' s row) = RunsPass g point row
  RunPasses g point (For' low high step s body) =
      ExprPasses g point low ⊎ ExprPasses g point high
      ⊎ Any (λ x. RunsPass g (point ++ x ∷ []) body) (turns (expr_value low point) (expr_value high point) step)
  RunPasses g point (If' rows s body) =
      Any (λ r. FormPassesLimit g r.coefs r.constant point) rows ⊎ ((rows_hold rows point ≡ true) × RunsPass g point body)
  RunPasses g point (Call name args) = Any (ExprPasses g point) args

  pub RunsPass : {m : _} → Gauge → List ℤ → Row_of-Loop m → Type 0
  RunsPass g point end_of-Loop = ⊥
  RunsPass g point (more_of-Loop part rest) = RunPasses g point part ⊎ RunsPass g point rest
