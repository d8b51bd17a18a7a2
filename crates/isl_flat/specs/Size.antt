-- inner: how much stands in an expression: what flattening counts down.
use Rattle.std.specs.Prelude.{ℕ, ◌+◌, List, [], ◌∷◌}
use Rattle.isl_tree.specs.declared.statement.Link.{Link}
use Rattle.isl_tree.specs.declared.statement.Postfix.{Postfix, Inverse, Apply, Item}
use Rattle.isl_tree.specs.declared.statement.Expr.{Expr, Row', Prefix', Any', Last', Post', Row_of-Expr, end_of-Expr, more_of-Expr}
use Rattle.isl_tree.specs.declared.statement.Expr.{Row_of-Link, end_of-Link, more_of-Link, Row_of-Postfix, end_of-Postfix, more_of-Postfix}
use Rattle.isl_tree.specs.declared.statement.Expr as e

abbrev mutual
  pub size_of : Expr → ℕ
  size_of (e.Name name) = 1
  size_of (e.Literal literal) = 1
  size_of (Row' s first t links) = 2 + (size_in first + size_in_links links)
  size_of (Prefix' word s operand) = 2 + size_in operand
  size_of (Any' r source s sink t schedule) = 2 + (size_in source + (size_in sink + size_in schedule))
  size_of (Last' r source s sink t schedule) = 2 + (size_in source + (size_in sink + size_in schedule))
  size_of (Post' s operand t postfixes) = 2 + (size_in operand + size_in_postfixes postfixes)

  pub size_in : {m : _} → Row_of-Expr m → ℕ
  size_in end_of-Expr = 0
  size_in (more_of-Expr expr rest) = size_of expr

  pub size_in_links : {m : _} → Row_of-Link m → ℕ
  size_in_links end_of-Link = 0
  size_in_links (more_of-Link operator operand rest) = (1 + size_of operand) + size_in_links rest

  pub size_in_postfixes : {m : _} → Row_of-Postfix m → ℕ
  size_in_postfixes end_of-Postfix = 0
  size_in_postfixes (more_of-Postfix postfix rest) = size_of_postfix postfix + size_in_postfixes rest

  pub size_of_postfix : Postfix → ℕ
  size_of_postfix Inverse = 1
  size_of_postfix (Apply argument) = 1 + size_of argument
  size_of_postfix (Item number) = 1

-- the same of lists
abbrev pub size_of_links : List Link → ℕ
size_of_links [] = 0
size_of_links (link ∷ links) = (1 + size_of link.operand) + size_of_links links

abbrev pub size_of_postfixes : List Postfix → ℕ
size_of_postfixes [] = 0
size_of_postfixes (postfix ∷ postfixes) = size_of_postfix postfix + size_of_postfixes postfixes
