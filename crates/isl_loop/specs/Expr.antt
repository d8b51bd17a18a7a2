-- public: the value of an expression at a point: the numbers of the parameters, then those of the variables of the enclosing loops.
-- (isl manual, on abstract syntax trees)
use Rattle.std.specs.Prelude.{ℤ, pos, neg_ℤ, ◌+ℤ◌, ◌*ℤ◌, List, slice_index_or}
use Rattle.std.specs.Int.{int_min, int_max}
use Rattle.isl_math.specs.Divide.{floor_div}
use Rattle.isl_loop.specs.declared.tree.Expr.{Expr, Expr', Row_of-Item, end_of-Item, more_of-Item}
use Rattle.isl_loop.specs.declared.tree.Atom.{Atom, Column, Floor', Ceil', Min', Max', Row_of-Expr, end_of-Expr, more_of-Expr}

-- z divided by k and rounded up
abbrev pub ceil_div : ℤ → ℤ → ℤ
ceil_div z k = neg_ℤ (floor_div (neg_ℤ z) k)

abbrev mutual
  pub expr_value : Expr → List ℤ → ℤ
  expr_value (Expr' s items constant) point = sum_value items point +ℤ constant

  pub sum_value : {m : _} → Row_of-Item m → List ℤ → ℤ
  sum_value end_of-Item point = pos 0
  sum_value (more_of-Item coef atom rest) point = coef *ℤ atom_value atom point +ℤ sum_value rest point

  pub atom_value : Atom → List ℤ → ℤ
  atom_value (Column place) point = slice_index_or point place (pos 0)
  atom_value (Floor' s row k) point = floor_div (boxed_value row point) k
  atom_value (Ceil' s row k) point = ceil_div (boxed_value row point) k
  atom_value (Min' s row) point = extreme_of int_min row point
  atom_value (Max' s row) point = extreme_of int_max row point

  -- an expression in a box is a row of one
  pub boxed_value : {m : _} → Row_of-Expr m → List ℤ → ℤ
  boxed_value end_of-Expr point = pos 0
  boxed_value (more_of-Expr e rest) point = expr_value e point

  -- the least, or the greatest, of a row
  pub extreme_of : {m : _} → (ℤ → ℤ → ℤ) → Row_of-Expr m → List ℤ → ℤ
  extreme_of better end_of-Expr point = pos 0
  extreme_of better (more_of-Expr e rest) point = extreme_after better (expr_value e point) rest point

  pub extreme_after : {m : _} → (ℤ → ℤ → ℤ) → ℤ → Row_of-Expr m → List ℤ → ℤ
  extreme_after better best end_of-Expr point = best
  extreme_after better best (more_of-Expr e rest) point = extreme_after better (better best (expr_value e point)) rest point
