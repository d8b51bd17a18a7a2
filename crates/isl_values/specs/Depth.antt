-- inner: how much stands in an expression that a value is worked out of: what working it out counts down.
use Rattle.std.specs.Prelude.{ℕ, ◌+◌, List, [], ◌∷◌}
use Rattle.isl_tree.specs.declared.statement.Link.{Link}
use Rattle.isl_tree.specs.declared.statement.Postfix.{Postfix, Inverse, Apply, Item}
use Rattle.isl_tree.specs.declared.statement.Expr.{Expr, Row', Prefix', Any', Last', Post', Row_of-Expr, end_of-Expr, more_of-Expr}
use Rattle.isl_tree.specs.declared.statement.Expr.{Row_of-Link, end_of-Link, more_of-Link, Row_of-Postfix, end_of-Postfix, more_of-Postfix}
use Rattle.isl_tree.specs.declared.statement.Expr as e

abbrev mutual
  pub depth_of : Expr → ℕ
  depth_of (e.Name name) = 0
  depth_of (e.Literal literal) = 0
  depth_of (Row' s first t links) = 1 + (depth_in first + depth_in_links links)
  depth_of (Prefix' word s operand) = 1 + depth_in operand
  depth_of (Any' r source s sink t schedule) = 1 + (1 + (depth_in source + (depth_in sink + depth_in schedule)))
  depth_of (Last' r source s sink t schedule) = 1 + (1 + (depth_in source + (depth_in sink + depth_in schedule)))
  depth_of (Post' s operand t postfixes) = 1 + (depth_in operand + depth_in_postfixes postfixes)

  -- an operand in a box is a row of one
  pub depth_in : {m : _} → Row_of-Expr m → ℕ
  depth_in end_of-Expr = 0
  depth_in (more_of-Expr expr rest) = depth_of expr

  pub depth_in_links : {m : _} → Row_of-Link m → ℕ
  depth_in_links end_of-Link = 0
  depth_in_links (more_of-Link operator operand rest) = 1 + (depth_of operand + depth_in_links rest)

  pub depth_in_postfixes : {m : _} → Row_of-Postfix m → ℕ
  depth_in_postfixes end_of-Postfix = 0
  depth_in_postfixes (more_of-Postfix postfix rest) = 1 + (depth_of_postfix postfix + depth_in_postfixes rest)

  pub depth_of_postfix : Postfix → ℕ
  depth_of_postfix Inverse = 0
  depth_of_postfix (Apply argument) = 1 + depth_of argument
  depth_of_postfix (Item number) = 0

-- of three operands together
abbrev pub depth_of_three : Expr → Expr → Expr → ℕ
depth_of_three source sink schedule = 1 + (depth_of source + (depth_of sink + depth_of schedule))

-- the same of lists
abbrev pub depth_of_links : List Link → ℕ
depth_of_links [] = 0
depth_of_links (link ∷ links) = 1 + (depth_of link.operand + depth_of_links links)

abbrev pub depth_of_postfixes : List Postfix → ℕ
depth_of_postfixes [] = 0
depth_of_postfixes (postfix ∷ postfixes) = 1 + (depth_of_postfix postfix + depth_of_postfixes postfixes)
