-- public: what stands in an expression.
use Rattle.std.specs.Prelude.{ℤ, List, [], ◌∷◌, ◌++◌}
use Rattle.isl_space.specs.Name.{Name}
use Rattle.isl_tree.specs.declared.tree.Literal.{Literal}
use Rattle.isl_tree.specs.declared.statement.Binary.{Binary}
use Rattle.isl_tree.specs.declared.statement.Prefix.{Prefix}
use Rattle.isl_tree.specs.declared.statement.Stmt.{Stmt}
use Rattle.isl_tree.specs.declared.statement.Stmt.TheVariants.{Empty, Bind, Show, Assume}
use Rattle.isl_tree.specs.declared.statement.Link.{Link}
use Rattle.isl_tree.specs.declared.statement.Postfix.{Postfix, Inverse, Apply, Item}
use Rattle.isl_tree.specs.declared.statement.Expr.{Expr, Row', Prefix', Any', Last', Post', Row_of-Expr, end_of-Expr, more_of-Expr}
use Rattle.isl_tree.specs.declared.statement.Expr.{Row_of-Link, end_of-Link, more_of-Link, Row_of-Postfix, end_of-Postfix, more_of-Postfix}
use Rattle.isl_tree.specs.declared.statement.Expr as e

-- a name, a literal, an operator, a word before an operand, `any` or `last`, or what follows an operand
pub data Part : Type 0 where
  name : Name → Part
  literal : Literal → Part
  operator : Binary → Part
  prefix : Prefix → Part
  any : Part
  last : Part
  inverse : Part
  application : Part
  item : ℤ → Part

abbrev mutual
  -- the parts of an expression, from the left
  pub parts_of : Expr → List Part
  parts_of (e.Name n) = name n ∷ []
  parts_of (e.Literal l) = literal l ∷ []
  parts_of (Row' s first t links) = parts_in first ++ parts_in_links links
  parts_of (Prefix' word s operand) = prefix word ∷ parts_in operand
  parts_of (Any' r source s sink t schedule) = any ∷ (parts_in source ++ (parts_in sink ++ parts_in schedule))
  parts_of (Last' r source s sink t schedule) = last ∷ (parts_in source ++ (parts_in sink ++ parts_in schedule))
  parts_of (Post' s operand t postfixes) = parts_in operand ++ parts_in_postfixes postfixes

  -- an operand in a box is a row of one
  pub parts_in : {m : _} → Row_of-Expr m → List Part
  parts_in end_of-Expr = []
  parts_in (more_of-Expr expr rest) = parts_of expr

  pub parts_in_links : {m : _} → Row_of-Link m → List Part
  parts_in_links end_of-Link = []
  parts_in_links (more_of-Link sign operand rest) = operator sign ∷ (parts_of operand ++ parts_in_links rest)

  pub parts_in_postfixes : {m : _} → Row_of-Postfix m → List Part
  parts_in_postfixes end_of-Postfix = []
  parts_in_postfixes (more_of-Postfix postfix rest) = parts_of_postfix postfix ++ parts_in_postfixes rest

  pub parts_of_postfix : Postfix → List Part
  parts_of_postfix Inverse = inverse ∷ []
  parts_of_postfix (Apply argument) = application ∷ parts_of argument
  parts_of_postfix (Item number) = item number ∷ []

-- the same of lists
abbrev pub parts_of_links : List Link → List Part
parts_of_links [] = []
parts_of_links (link ∷ links) = operator link.operator ∷ (parts_of link.operand ++ parts_of_links links)

abbrev pub parts_of_postfixes : List Postfix → List Part
parts_of_postfixes [] = []
parts_of_postfixes (postfix ∷ postfixes) = parts_of_postfix postfix ++ parts_of_postfixes postfixes

abbrev pub parts_of_statement : Stmt → List Part
parts_of_statement Empty = []
parts_of_statement (Bind n expr) = parts_of expr
parts_of_statement (Show expr) = parts_of expr
parts_of_statement (Assume set) = literal set ∷ []
