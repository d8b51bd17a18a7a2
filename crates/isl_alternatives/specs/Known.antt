-- public: formulas whose names stand for columns, and what they divide by. (isl manual, on Presburger formulas)
use Rattle.std.specs.Prelude.{◌≡◌, true, ℕ, List}
use Rattle.isl_affine.specs.Scope.{Scope, KnowsAll}
use Rattle.isl_tree.specs.declared.tree.Binder.{Binder}
use Rattle.isl_tree.specs.declared.tree.Formula.{Formula}
use Rattle.isl_tree.specs.Divisors.{ArePositive, formula_divisors, binders_divisors}
use Rattle.isl_tree.specs.Known.{formula_is_known, binders_are_known}

-- each name of the formula is one of the scope or bound in it, and all its divisors are at least 1
pub record IsFormulaKnown (scope : Scope) (formula : Formula) : Type 0 where
  pub known : List (List ℕ)
  pub all : KnowsAll scope known
  pub names : formula_is_known known formula ≡ true
  pub divisors : ArePositive (formula_divisors formula)

-- the names of the terms of binders are of the scope or bound before them, and their divisors are at least 1
pub record AreBindersKnown (scope : Scope) (binders : List Binder) : Type 0 where
  pub known : List (List ℕ)
  pub all : KnowsAll scope known
  pub names : binders_are_known known binders ≡ true
  pub divisors : ArePositive (binders_divisors binders)
