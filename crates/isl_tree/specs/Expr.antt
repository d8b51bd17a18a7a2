-- public: the literals that stand in an expression, from the left.
use Rattle.std.specs.Prelude.{List, [], ◌∷◌, ◌++◌}
use Rattle.isl_tree.specs.declared.tree.Literal.{Literal}
use Rattle.isl_tree.specs.declared.statement.Stmt.{Stmt}
use Rattle.isl_tree.specs.declared.statement.Stmt.TheVariants.{Empty, Bind, Show, Assume}
use Rattle.isl_tree.specs.declared.statement.Link.{Link}
use Rattle.isl_tree.specs.declared.statement.Postfix.{Postfix, Inverse, Apply, Item}
use Rattle.isl_tree.specs.declared.statement.Expr.{Expr, Row', Prefix', Any', Last', Post', Row_of-Expr, end_of-Expr, more_of-Expr}
use Rattle.isl_tree.specs.declared.statement.Expr.{Row_of-Link}
use Rattle.isl_tree.specs.declared.statement.Expr.{end_of-Link, more_of-Link, Row_of-Postfix, end_of-Postfix, more_of-Postfix}
use Rattle.isl_tree.specs.declared.statement.Expr as e

abbrev mutual
  pub literals_of : Expr → List Literal
  literals_of (e.Name name) = []
  literals_of (e.Literal literal) = literal ∷ []
  literals_of (Row' s first t links) = literals_in first ++ literals_in_links links
  literals_of (Prefix' prefix s operand) = literals_in operand
  literals_of (Any' r source s sink t schedule) = literals_in source ++ (literals_in sink ++ literals_in schedule)
  literals_of (Last' r source s sink t schedule) = literals_in source ++ (literals_in sink ++ literals_in schedule)
  literals_of (Post' s operand t postfixes) = literals_in operand ++ literals_in_postfixes postfixes

  -- an operand in a box is a row of one
  pub literals_in : {m : _} → Row_of-Expr m → List Literal
  literals_in end_of-Expr = []
  literals_in (more_of-Expr expr rest) = literals_of expr

  pub literals_in_links : {m : _} → Row_of-Link m → List Literal
  literals_in_links end_of-Link = []
  literals_in_links (more_of-Link operator operand rest) = literals_of operand ++ literals_in_links rest

  pub literals_in_postfixes : {m : _} → Row_of-Postfix m → List Literal
  literals_in_postfixes end_of-Postfix = []
  literals_in_postfixes (more_of-Postfix postfix rest) = literals_in_postfix postfix ++ literals_in_postfixes rest

  pub literals_in_postfix : Postfix → List Literal
  literals_in_postfix Inverse = []
  literals_in_postfix (Apply operand) = literals_of operand
  literals_in_postfix (Item number) = []

-- the same of lists
abbrev pub links_literals : List Link → List Literal
links_literals [] = []
links_literals (link ∷ links) = literals_of link.operand ++ links_literals links

abbrev pub postfixes_literals : List Postfix → List Literal
postfixes_literals [] = []
postfixes_literals (postfix ∷ postfixes) = literals_in_postfix postfix ++ postfixes_literals postfixes

abbrev pub statement_literals : Stmt → List Literal
statement_literals Empty = []
statement_literals (Bind name expr) = literals_of expr
statement_literals (Show expr) = literals_of expr
statement_literals (Assume set) = set ∷ []
