-- public: sums with quotients rounded down, among the expressions of loops. (Feautrier, on quasi-affine forms)
use Rattle.std.specs.Prelude.{ℤ, pos, ◌<ℤ◌}
use Rattle.isl_loop.specs.declared.tree.Expr.{Expr, Expr', Row_of-Item, end_of-Item, more_of-Item}
use Rattle.isl_loop.specs.declared.tree.Atom.{Atom, Column, Floor', Ceil', Min', Max', Row_of-Expr, end_of-Expr, more_of-Expr}

abbrev mutual
  -- each atom is a column, or such a sum divided by a number that is at least 1, and rounded down
  pub IsQuasiAffine : Expr → Type 0
  IsQuasiAffine (Expr' s items constant) = AreQuasiAffine items

  pub AreQuasiAffine : {m : _} → Row_of-Item m → Type 0
  AreQuasiAffine end_of-Item = Unit {0}
  AreQuasiAffine (more_of-Item coef atom rest) = IsQuasiAtom atom × AreQuasiAffine rest

  pub IsQuasiAtom : Atom → Type 0
  IsQuasiAtom (Column place) = Unit {0}
  IsQuasiAtom (Floor' s row k) = IsQuasiBoxed row × (pos 0 <ℤ k)
  IsQuasiAtom (Ceil' s row k) = ⊥
  IsQuasiAtom (Min' s row) = ⊥
  IsQuasiAtom (Max' s row) = ⊥

  -- an expression in a box is a row of one
  pub IsQuasiBoxed : {m : _} → Row_of-Expr m → Type 0
  IsQuasiBoxed end_of-Expr = Unit {0}
  IsQuasiBoxed (more_of-Expr e rest) = IsQuasiAffine e
