-- public: simple statements with what they name put back in its place. (the iscc chapter of the barvinok manual)
use Rattle.std.specs.Prelude.{◌≡◌, List, [], ◌∷◌, if◌then◌else◌}
use Rattle.std.specs.Str.{bytes_eq}
use Rattle.isl_space.specs.Name.{Name}
use Rattle.isl_tree.specs.declared.statement.Stmt.{Stmt}
use Rattle.isl_tree.specs.declared.statement.Stmt.TheVariants.{Empty, Bind, Show, Assume}
use Rattle.isl_tree.specs.declared.statement.Binary.{Binary}
use Rattle.isl_tree.specs.declared.statement.Link.{Link}
use Rattle.isl_tree.specs.declared.statement.Postfix.{Postfix, Inverse, Apply, Item}
use Rattle.isl_tree.specs.declared.statement.Expr.{Expr, Row', Prefix', Any', Last', Post', Row_of-Expr, end_of-Expr, more_of-Expr}
use Rattle.isl_tree.specs.declared.statement.Expr.{Row_of-Link, end_of-Link, more_of-Link, Row_of-Postfix, end_of-Postfix, more_of-Postfix}
use Rattle.isl_tree.specs.declared.statement.Expr as e
use Rattle.isl_flat.specs.Flat.{link_of}

-- what each name stands for
abbrev pub Meaning : Type 0
Meaning = Name → Expr

-- an operation on two operands
abbrev pub operation : Binary → Expr → Expr → Expr
operation operator left right = e.Row left (link_of operator right ∷ [])

abbrev mutual
  -- an expression, with what the names stand for in their places; operators associate to the left, so that a row is operations, one
  -- after the other, on two operands each
  pub put_in : Meaning → Expr → Expr
  put_in named (e.Name name) = named name
  put_in named (e.Literal literal) = e.Literal literal
  put_in named (Row' s first t links) = put_in_links named (put_in_box named first) links
  put_in named (Prefix' word s operand) = e.Prefix word (put_in_box named operand)
  put_in named (Any' r source s sink t schedule) =
      e.Any (put_in_box named source) (put_in_box named sink) (put_in_box named schedule)
  put_in named (Last' r source s sink t schedule) =
      e.Last (put_in_box named source) (put_in_box named sink) (put_in_box named schedule)
  put_in named (Post' s operand t postfixes) = e.Post (put_in_box named operand) (put_in_postfixes named postfixes)

  -- an operand in a box is a row of one
  pub put_in_box : {m : _} → Meaning → Row_of-Expr m → Expr
  put_in_box named end_of-Expr = e.Name []
  put_in_box named (more_of-Expr expr rest) = put_in named expr

  pub put_in_links : {m : _} → Meaning → Expr → Row_of-Link m → Expr
  put_in_links named left end_of-Link = left
  put_in_links named left (more_of-Link operator operand rest) =
      put_in_links named (operation operator left (put_in named operand)) rest

  pub put_in_postfixes : {m : _} → Meaning → Row_of-Postfix m → List Postfix
  put_in_postfixes named end_of-Postfix = []
  put_in_postfixes named (more_of-Postfix postfix rest) = put_in_postfix named postfix ∷ put_in_postfixes named rest

  pub put_in_postfix : Meaning → Postfix → Postfix
  put_in_postfix named Inverse = Inverse
  put_in_postfix named (Apply argument) = Apply (put_in named argument)
  put_in_postfix named (Item number) = Item number

-- the same of lists
abbrev pub put_in_row : Meaning → Expr → List Link → Expr
put_in_row named left [] = left
put_in_row named left (link ∷ links) = put_in_row named (operation link.operator left (put_in named link.operand)) links

abbrev pub put_in_post : Meaning → List Postfix → List Postfix
put_in_post named [] = []
put_in_post named (postfix ∷ postfixes) = put_in_postfix named postfix ∷ put_in_post named postfixes

abbrev pub put_in_statement : Meaning → Stmt → Stmt
put_in_statement named Empty = Empty
put_in_statement named (Bind name expr) = Bind name (put_in named expr)
put_in_statement named (Show expr) = Show (put_in named expr)
put_in_statement named (Assume set) = Assume set

-- ---- statements, one after another

-- each name stands for itself
abbrev pub itself : Meaning
itself name = e.Name name

-- one more name stands for an expression
abbrev pub also : Meaning → Name → Expr → Meaning
also named name expr other = if bytes_eq name other then expr else named other

-- The last of the statements, with what each name stands for that a statement before it binds: what that statement binds it to, where
-- the names before it are put back too.
abbrev pub put_back : Meaning → List Stmt → Stmt
put_back named [] = Empty
put_back named (stmt ∷ []) = put_in_statement named stmt
put_back named (Bind name expr ∷ (next ∷ rest)) = put_back (also named name (put_in named expr)) (next ∷ rest)
put_back named (_ ∷ (next ∷ rest)) = put_back named (next ∷ rest)

-- Statements say what one says: put back into the last of them, what they name gives that one, up to rows: `(a % b) * c` is `a % b * c`.
abbrev pub Say : Stmt → List Stmt → Type 0
Say stmt statements = put_back itself statements ≡ put_in_statement itself stmt
