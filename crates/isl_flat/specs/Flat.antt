-- public: the simple statements of a statement, in which what is chosen once has a name of its own.
use Rattle.std.specs.Prelude.{◌≡◌, ℕ, ◌+◌, Bool, true, false, ◌&&◌, ◌||◌, List, [], ◌∷◌, ◌++◌, length, Result, Ok, Err, codes}
use Rattle.std.specs.Prelude.{if◌then◌else◌}
use Rattle.std.specs.Fmt.{decimal}
use Rattle.isl_space.specs.Name.{Name}
use Rattle.isl_tree.specs.declared.statement.Binary.{Binary}
use Rattle.isl_tree.specs.declared.statement.Binary.TheVariants as signs
use Rattle.isl_tree.specs.declared.statement.Prefix.{Prefix}
use Rattle.isl_tree.specs.Words.{word_row}
use Rattle.isl_tree.specs.declared.statement.Stmt.{Stmt}
use Rattle.isl_tree.specs.declared.statement.Stmt.TheVariants.{Empty, Bind, Show, Assume}
use Rattle.isl_tree.specs.declared.statement.Link.{Link}
use Rattle.isl_tree.specs.declared.statement.Postfix.{Postfix, Inverse, Apply, Item}
use Rattle.isl_tree.specs.declared.statement.Expr.{Expr, Row', Prefix', Any', Last', Post', Row_of-Expr, end_of-Expr, more_of-Expr}
use Rattle.isl_tree.specs.declared.statement.Expr.{Row_of-Link, end_of-Link, more_of-Link, Row_of-Postfix, end_of-Postfix, more_of-Postfix}
use Rattle.isl_tree.specs.declared.statement.Expr as e
use Rattle.isl_flat.specs.declared.partial.Row.{Row}
use Rattle.isl_flat.specs.declared.flattening.Standing.{Standing}
use Rattle.isl_flat.specs.declared.flattening.Standing.TheVariants.{Outermost, Inside}

-- ---- names

-- `$1`, `$2`, ..
abbrev pub dollar : ℕ → Name
dollar n = codes "$" ++ decimal n

-- the statements that were made so far, and what is left of an expression
abbrev pub Flattened : Type 0
Flattened = List Stmt × Expr

-- the next name is bound to the expression, and stands for it from then on
abbrev pub bound : Flattened → Flattened
bound f = let name = dollar (length f.0 + 1) in (f.0 ++ Bind name f.1 ∷ [], e.Name name)

abbrev pub is_name : Expr → Bool
is_name (e.Name name) = true
is_name _ = false

-- an operand that is no name gets one
abbrev pub named : Flattened → Flattened
named f = if is_name f.1 then f else bound f

-- ---- what is chosen once: a `%` of two operands, and `sample`

abbrev pub is_gist : Binary → Bool
is_gist signs.Equal = false
is_gist signs.ProperSubset = false
is_gist signs.Subset = false
is_gist signs.ProperSuperset = false
is_gist signs.Superset = false
is_gist signs.LexLess = false
is_gist signs.LexLessEqual = false
is_gist signs.LexGreater = false
is_gist signs.LexGreaterEqual = false
is_gist signs.Universal = false
is_gist signs.Union = false
is_gist signs.Difference = false
is_gist signs.RangeDifference = false
is_gist signs.Intersection = false
is_gist signs.RangeIntersection = false
is_gist signs.Gist = true
is_gist signs.Cross = false
is_gist signs.Join = false

abbrev pub is_sample : Prefix → Bool
is_sample word = (word_row word).chooses

abbrev pub is_outermost : Standing → Bool
is_outermost Outermost = true
is_outermost Inside = false

-- the words whose operands are names: what chooses, and outermost what puts pieces together
abbrev pub names_operand : Standing → Prefix → Bool
names_operand standing word = (word_row word).chooses || ((word_row word).joins && is_outermost standing)

abbrev pub is_gist_row : {m : _} → Row_of-Link m → Bool
is_gist_row (more_of-Link operator operand end_of-Link) = is_gist operator
is_gist_row _ = false

-- the same of a list
abbrev pub is_gist_alone : List Link → Bool
is_gist_alone (link ∷ []) = is_gist link.operator
is_gist_alone _ = false

abbrev pub is_chosen : Expr → Bool
is_chosen (Row' s first t links) = is_gist_row links
is_chosen (Prefix' word s operand) = is_sample word
is_chosen (e.Name name) = false
is_chosen (e.Literal literal) = false
is_chosen (Any' r source s sink t schedule) = false
is_chosen (Last' r source s sink t schedule) = false
is_chosen (Post' s operand t postfixes) = false

-- what is chosen once and stands inside an expression gets a name
abbrev pub settled : Flattened → Flattened
settled f = if is_chosen f.1 then bound f else f

-- ---- rows

-- a row whose operands on the left are flattened
pub record Partial : Type 0 where
  pub statements : List Stmt
  pub first : Expr
  pub links : List Link

abbrev pub whole : Expr → List Link → Expr
whole first [] = first
whole first (link ∷ links) = e.Row first (link ∷ links)

abbrev pub begun : Flattened → Partial
begun f = record { statements = f.0; first = f.1; links = [] }

-- the row is an operand of what comes next
abbrev pub settled_row : Partial → Partial
settled_row p =
    if is_gist_alone p.links then begun (bound (p.statements, whole p.first p.links)) else p

abbrev pub link_of : Binary → Expr → Link
link_of operator operand = record { operator = operator; operand = operand }

-- `%` between two names
abbrev pub gist : Expr → Expr → List Stmt → Partial
gist left right so_far =
    let l = named (so_far, left) in
    let r = named (l.0, right) in
    record { statements = r.0; first = l.1; links = link_of signs.Gist r.1 ∷ [] }

-- an operator and its operand, which is flattened, come behind the row
abbrev pub with_link : Binary → Partial → Flattened → Partial
with_link operator p f =
    if is_gist operator then gist (whole p.first p.links) f.1 f.0
    else record { statements = f.0; first = p.first; links = p.links ++ link_of operator f.1 ∷ [] }

abbrev pub ended : Partial → Flattened
ended p = (p.statements, whole p.first p.links)

-- ---- expressions

-- the operand of a word
abbrev pub operand_of : Standing → Prefix → Flattened → Flattened
operand_of standing word f = if names_operand standing word then named f else f

abbrev pub behind_word : Prefix → Flattened → Flattened
behind_word word f = (f.0, e.Prefix word f.1)

-- an operand and what follows it
pub record Followed : Type 0 where
  pub statements : List Stmt
  pub postfixes : List Postfix

abbrev pub followed_by : Followed → List Stmt × Postfix → Followed
followed_by p q = record { statements = q.0; postfixes = p.postfixes ++ q.1 ∷ [] }

abbrev pub behind : Expr → Followed → Flattened
behind operand p = (p.statements, e.Post operand p.postfixes)

abbrev pub unfollowed : List Stmt → Followed
unfollowed so_far = record { statements = so_far; postfixes = [] }

abbrev mutual
  -- an expression in which what is chosen inside it has names, and so have the operands of `%` and `sample`, and of an outermost `coalesce`
  pub flattened : Standing → List Stmt → Expr → Flattened
  flattened standing so_far (e.Name name) = (so_far, e.Name name)
  flattened standing so_far (e.Literal literal) = (so_far, e.Literal literal)
  flattened standing so_far (Row' s first t links) = ended (past_links (begun (nested_in so_far first)) links)
  flattened standing so_far (Prefix' word s operand) = behind_word word (operand_of standing word (nested_in so_far operand))
  flattened standing so_far (Any' r source s sink t schedule) =
      let a = nested_in so_far source in
      let b = nested_in a.0 sink in
      let c = nested_in b.0 schedule in
      (c.0, e.Any a.1 b.1 c.1)
  flattened standing so_far (Last' r source s sink t schedule) =
      let a = nested_in so_far source in
      let b = nested_in a.0 sink in
      let c = nested_in b.0 schedule in
      (c.0, e.Last a.1 b.1 c.1)
  flattened standing so_far (Post' s operand t postfixes) =
      let f = nested_in so_far operand in
      behind f.1 (past_postfixes (unfollowed f.0) postfixes)

  -- an operand in a box is a row of one
  pub nested_in : {m : _} → List Stmt → Row_of-Expr m → Flattened
  nested_in so_far end_of-Expr = (so_far, e.Name [])
  nested_in so_far (more_of-Expr expr rest) = settled (flattened Inside so_far expr)

  -- from the left
  pub past_links : {m : _} → Partial → Row_of-Link m → Partial
  past_links p end_of-Link = p
  past_links p (more_of-Link operator operand rest) =
      past_links (with_link operator (settled_row p) (settled (flattened Inside (settled_row p).statements operand))) rest

  pub past_postfixes : {m : _} → Followed → Row_of-Postfix m → Followed
  past_postfixes p end_of-Postfix = p
  past_postfixes p (more_of-Postfix postfix rest) = past_postfixes (followed_by p (nested_postfix p.statements postfix)) rest

  pub nested_postfix : List Stmt → Postfix → List Stmt × Postfix
  nested_postfix so_far Inverse = (so_far, Inverse)
  nested_postfix so_far (Apply argument) = let f = settled (flattened Inside so_far argument) in (f.0, Apply f.1)
  nested_postfix so_far (Item number) = (so_far, Item number)

-- what an expression is inside another
abbrev pub nested : List Stmt → Expr → Flattened
nested so_far expr = settled (flattened Inside so_far expr)

-- the same of lists
abbrev pub past_link : Partial → Link → Partial
past_link p link = with_link link.operator (settled_row p) (nested (settled_row p).statements link.operand)

abbrev pub past_row : Partial → List Link → Partial
past_row p [] = p
past_row p (link ∷ links) = past_row (past_link p link) links

abbrev pub past_post : Followed → List Postfix → Followed
past_post p [] = p
past_post p (postfix ∷ postfixes) = past_post (followed_by p (nested_postfix p.statements postfix)) postfixes

abbrev pub followed : Flattened → List Postfix → Flattened
followed f postfixes = behind f.1 (past_post (unfollowed f.0) postfixes)

-- ---- statements

abbrev pub outermost : Expr → Flattened
outermost expr = flattened Outermost [] expr

-- The simple statements of a statement, one after another.
abbrev pub flat : Stmt → List Stmt
flat Empty = Empty ∷ []
flat (Bind name expr) = let f = outermost expr in f.0 ++ Bind name f.1 ∷ []
flat (Show expr) = let f = outermost expr in f.0 ++ Show f.1 ∷ []
flat (Assume set) = Assume set ∷ []

-- ---- what is answered, unless memory runs out

abbrev pub Leaves : {E : Type 0} → Flattened → Result Expr E → List Stmt → Type 0
Leaves f (Ok expr) statements = f ≡ (statements, expr)
Leaves f (Err error) statements = Unit {0}

abbrev pub LeavesPostfix : {E : Type 0} → List Stmt × Postfix → Result Postfix E → List Stmt → Type 0
LeavesPostfix f (Ok postfix) statements = f ≡ (statements, postfix)
LeavesPostfix f (Err error) statements = Unit {0}

abbrev pub LeavesPostfixes : {E : Type 0} → Followed → Result (List Postfix) E → List Stmt → Type 0
LeavesPostfixes p (Ok postfixes) statements = p ≡ record { statements = statements; postfixes = postfixes }
LeavesPostfixes p (Err error) statements = Unit {0}

abbrev pub partial : List Stmt → Row → Partial
partial statements row = record { statements = statements; first = row.first; links = row.links }

abbrev pub LeavesRow : {E : Type 0} → Partial → Result Row E → List Stmt → Type 0
LeavesRow p (Ok row) statements = p ≡ partial statements row
LeavesRow p (Err error) statements = Unit {0}
