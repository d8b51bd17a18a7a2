-- Whether trees are well formed, and where their numbers pass the limit, depends on the limit of a meter alone.
use Rattle.std.proofs.Common.{◌≡◌, inl, inr, sym, subst, ℕ, ◌+◌, ◌^◌, ◌<◌, ℤ, pos, ◌+ℤ◌, ◌*ℤ◌, List, [], ◌∷◌, ◌++◌, get_or, take}
use Rattle.std.specs.Prelude.{unsigned_abs}
use Rattle.isl_math.specs.Dot.{dot}
use Rattle.isl_math.proofs.ListLaws.{Any-weaker}
use Rattle.isl_meter.specs.Gauge.{Gauge, IsWithin}
use Rattle.isl_piece.specs.declared.row.Row.{Row}
use Rattle.isl_piece.specs.Row.{FormPassesLimit}
use Rattle.isl_loop.specs.declared.tree.Expr.{Expr, Expr', Row_of-Item, end_of-Item, more_of-Item}
use Rattle.isl_loop.specs.declared.tree.Atom.{Atom, Column, Floor', Ceil', Min', Max', Row_of-Expr, end_of-Expr, more_of-Expr}
use Rattle.isl_loop.specs.declared.tree.Loop.{Loop, Block', For', If', Call, Row_of-Loop, end_of-Loop, more_of-Loop}
use Rattle.isl_loop.specs.Expr.{atom_value, expr_value, sum_value}
use Rattle.isl_loop.specs.Formed.{AreExprsOver, AreLoopsOver, AtomPasses, ExprPasses, IsAtomOver, IsExprOver, IsLoopOver, IsRowOver}
use Rattle.isl_loop.specs.Formed.{IsSumOver, RunPasses, RunsPass, SomePasses, SumPasses}
use Rattle.isl_loop.specs.Turns.{turns}

-- the limit of h is that of g
IsSame : Gauge → Gauge → Type 0
IsSame g h = h.bits ≡ g.bits

within : (g h : Gauge) → IsSame g h → (z : ℤ) → IsWithin g z → IsWithin h z
unfolding IsSame
within g h same z w = subst (λ (b : ℕ). unsigned_abs z < 2 ^ b) (sym same) w

past : (g h : Gauge) → IsSame g h → (z : ℤ) → ¬ IsWithin g z → ¬ IsWithin h z
unfolding IsSame
past g h same z n w = n (subst (λ (b : ℕ). unsigned_abs z < 2 ^ b) same w)

-- ---- well formed
mutual
  expr_over : (g h : Gauge) → IsSame g h → (n : ℕ) (x : Expr) → IsExprOver g n x → IsExprOver h n x
  expr_over g h same n (Expr' s items constant) over = (sum_over g h same n items over.0, within g h same constant over.1)

  sum_over : {m : _} → (g h : Gauge) → IsSame g h → (n : ℕ) (row : Row_of-Item m) → IsSumOver g n row → IsSumOver h n row
  sum_over g h same n end_of-Item over = over
  sum_over g h same n (more_of-Item coef atom rest) over =
      (within g h same coef over.0, atom_over g h same n atom over.1, sum_over g h same n rest over.2)

  atom_over : (g h : Gauge) → IsSame g h → (n : ℕ) (atom : Atom) → IsAtomOver g n atom → IsAtomOver h n atom
  atom_over g h same n (Column place) over = over
  atom_over g h same n (Floor' s row k) over = (exprs_over g h same n row over.0, over.1, within g h same k over.2)
  atom_over g h same n (Ceil' s row k) over = (exprs_over g h same n row over.0, over.1, within g h same k over.2)
  atom_over g h same n (Min' s row) over = (exprs_over g h same n row over.0, over.1)
  atom_over g h same n (Max' s row) over = (exprs_over g h same n row over.0, over.1)

  exprs_over : {m : _} → (g h : Gauge) → IsSame g h → (n : ℕ) (row : Row_of-Expr m) → AreExprsOver g n row → AreExprsOver h n row
  exprs_over g h same n end_of-Expr over = over
  exprs_over g h same n (more_of-Expr e rest) over = (expr_over g h same n e over.0, exprs_over g h same n rest over.1)

row_over : (g h : Gauge) → IsSame g h → (n : ℕ) (r : Row) → IsRowOver g n r → IsRowOver h n r
row_over g h same n r over = record {
  shape = over.shape;
  within = record {
    coefs = λ i d l. within g h same (get_or r.coefs i d) (over.within.coefs i d l);
    constant = within g h same r.constant over.within.constant;
    k = within g h same r.k over.within.k;
  };
  normal = over.normal;
}

mutual
  loop_over : (g h : Gauge) → IsSame g h → (n : ℕ) (tree : Loop) → IsLoopOver g n tree → IsLoopOver h n tree
  loop_over g h same n (Block' s row) over = loops_over g h same n row over
  loop_over g h same n (For' low high step s body) over = (
    expr_over g h same n low over.0,
    expr_over g h same n high over.1,
    over.2,
    within g h same step over.3,
    loops_over g h same (n + 1) body over.4,
  )
  loop_over g h same n (If' rows s body) over =
      ((λ i d l. row_over g h same n (get_or rows i d) (over.0 i d l)), loops_over g h same n body over.1)
  loop_over g h same n (Call name args) over = λ i d l. expr_over g h same n (get_or args i d) (over i d l)

  loops_over : {m : _} → (g h : Gauge) → IsSame g h → (n : ℕ) (row : Row_of-Loop m) → AreLoopsOver g n row → AreLoopsOver h n row
  loops_over g h same n end_of-Loop over = over
  loops_over g h same n (more_of-Loop part rest) over = (loop_over g h same n part over.0, loops_over g h same n rest over.1)

pub IsLoopOver-same : (g h : Gauge) (n : ℕ) (tree : Loop) → h.bits ≡ g.bits → IsLoopOver g n tree → IsLoopOver h n tree
unfolding IsSame
IsLoopOver-same g h n tree same over = loop_over g h same n tree over

-- ---- past the limit
mutual
  expr_passes : (g h : Gauge) → IsSame g h → (point : List ℤ) (x : Expr) → ExprPasses g point x → ExprPasses h point x
  expr_passes g h same point (Expr' s items constant) (inl p) = inl (sum_passes g h same point (pos 0) items p)
  expr_passes g h same point (Expr' s items constant) (inr n) =
      inr (past g h same (sum_value items point +ℤ constant) n)

  sum_passes : {m : _} → (g h : Gauge) → IsSame g h → (point : List ℤ) (sum : ℤ) (row : Row_of-Item m)
      → SumPasses g point sum row → SumPasses h point sum row
  sum_passes g h same point sum end_of-Item p = elim p [ ]
  sum_passes g h same point sum (more_of-Item coef atom rest) (inl p) = inl (atom_passes g h same point atom p)
  sum_passes g h same point sum (more_of-Item coef atom rest) (inr (inl n)) =
      inr (inl (past g h same (coef *ℤ atom_value atom point) n))
  sum_passes g h same point sum (more_of-Item coef atom rest) (inr (inr (inl n))) =
      inr (inr (inl (past g h same (sum +ℤ coef *ℤ atom_value atom point) n)))
  sum_passes g h same point sum (more_of-Item coef atom rest) (inr (inr (inr p))) =
      inr (inr (inr (sum_passes g h same point (sum +ℤ coef *ℤ atom_value atom point) rest p)))

  atom_passes : (g h : Gauge) → IsSame g h → (point : List ℤ) (atom : Atom) → AtomPasses g point atom → AtomPasses h point atom
  atom_passes g h same point (Column place) p = elim p [ ]
  atom_passes g h same point (Floor' s row k) p = some_passes g h same point row p
  atom_passes g h same point (Ceil' s row k) p = some_passes g h same point row p
  atom_passes g h same point (Min' s row) p = some_passes g h same point row p
  atom_passes g h same point (Max' s row) p = some_passes g h same point row p

  some_passes : {m : _} → (g h : Gauge) → IsSame g h → (point : List ℤ) (row : Row_of-Expr m) → SomePasses g point row
      → SomePasses h point row
  some_passes g h same point end_of-Expr p = elim p [ ]
  some_passes g h same point (more_of-Expr e rest) (inl p) = inl (expr_passes g h same point e p)
  some_passes g h same point (more_of-Expr e rest) (inr p) = inr (some_passes g h same point rest p)

form_passes : (g h : Gauge) → IsSame g h → (point : List ℤ) (r : Row) → FormPassesLimit g r.coefs r.constant point
    → FormPassesLimit h r.coefs r.constant point
form_passes g h same point r (inl (i, l, inl n)) = inl (i, l, inl (past g h same (get_or r.coefs i (pos 0) *ℤ get_or point i (pos 0)) n))
form_passes g h same point r (inl (i, l, inr n)) = inl (i, l, inr (past g h same (dot (take (i + 1) r.coefs) (take (i + 1) point)) n))
form_passes g h same point r (inr n) = inr (past g h same (dot r.coefs point +ℤ r.constant) n)

mutual
  run_passes : (g h : Gauge) → IsSame g h → (point : List ℤ) (tree : Loop) → RunPasses g point tree → RunPasses h point tree
  run_passes g h same point (Block' s row) p = runs_pass g h same point row p
  run_passes g h same point (For' low high step s body) (inl p) = inl (expr_passes g h same point low p)
  run_passes g h same point (For' low high step s body) (inr (inl p)) = inr (inl (expr_passes g h same point high p))
  run_passes g h same point (For' low high step s body) (inr (inr p)) =
      inr (inr (Any-weaker (λ x. RunsPass g (point ++ x ∷ []) body) (λ x. RunsPass h (point ++ x ∷ []) body)
      (λ x q. runs_pass g h same (point ++ x ∷ []) body q) (turns (expr_value low point) (expr_value high point) step) p))
  run_passes g h same point (If' rows s body) (inl p) =
      inl (Any-weaker (λ r. FormPassesLimit g r.coefs r.constant point) (λ r. FormPassesLimit h r.coefs r.constant point)
      (form_passes g h same point) rows p)
  run_passes g h same point (If' rows s body) (inr p) = inr (p.0, runs_pass g h same point body p.1)
  run_passes g h same point (Call name args) p =
      Any-weaker (ExprPasses g point) (ExprPasses h point) (expr_passes g h same point) args p

  runs_pass : {m : _} → (g h : Gauge) → IsSame g h → (point : List ℤ) (row : Row_of-Loop m) → RunsPass g point row → RunsPass h point row
  runs_pass g h same point end_of-Loop p = elim p [ ]
  runs_pass g h same point (more_of-Loop part rest) (inl p) = inl (run_passes g h same point part p)
  runs_pass g h same point (more_of-Loop part rest) (inr p) = inr (runs_pass g h same point rest p)

pub RunPasses-same : (g h : Gauge) (point : List ℤ) (tree : Loop) → h.bits ≡ g.bits → RunPasses g point tree → RunPasses h point tree
unfolding IsSame
RunPasses-same g h point tree same passes = run_passes g h same point tree passes
