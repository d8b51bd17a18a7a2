-- public: what simple statements are, and how they are typed, one after another. (the iscc chapter of the barvinok manual)
use Rattle.std.specs.Prelude.{◌≡◌, ◌≢◌, ◌⊎◌, ◌≤◌, ℕ, suc, Bool, false, List, [], ◌∷◌, length, Option, Some, Ok}
use Rattle.std.specs.List.{list_any}
use Rattle.isl_space.specs.Name.{Name}
use Rattle.isl_tree.specs.declared.statement.Binary.TheVariants.{Gist}
use Rattle.isl_tree.specs.declared.statement.Prefix.TheVariants.{Sample}
use Rattle.isl_tree.specs.declared.statement.Stmt.{Stmt}
use Rattle.isl_tree.specs.declared.statement.Stmt.TheVariants.{Empty, Bind, Show, Assume}
use Rattle.isl_tree.specs.declared.statement.Expr.{Expr}
use Rattle.isl_tree.specs.declared.statement.Expr as e
use Rattle.isl_kinds.specs.Parts as part
use Rattle.isl_kinds.specs.Parts.{Part, parts_of, parts_of_statement}
use Rattle.isl_kinds.specs.Typed.{ScopeView, TypeView, is_dollar, bound_to, declared_of, type_of_statement}
use Rattle.isl_flat.specs.declared.flattening.Standing.TheVariants.{Outermost}
use Rattle.isl_flat.specs.Flat.{dollar, is_gist, is_sample, link_of, names_operand, outermost}

-- ---- names that no script has

-- a name that begins with `$`
abbrev pub names_dollar : Part → Bool
names_dollar (part.name n) = is_dollar n
names_dollar (part.literal l) = false
names_dollar (part.operator sign) = false
names_dollar (part.prefix word) = false
names_dollar part.any = false
names_dollar part.last = false
names_dollar part.inverse = false
names_dollar part.application = false
names_dollar (part.item i) = false

-- one stands in the statement
abbrev pub has_dollar : Stmt → Bool
has_dollar stmt = list_any names_dollar (parts_of_statement stmt)

-- ---- the simple statements of a statement: the bindings, and the last, which does what the statement does

abbrev pub bindings_of : Stmt → List Stmt
bindings_of Empty = []
bindings_of (Bind name expr) = (outermost expr).0
bindings_of (Show expr) = (outermost expr).0
bindings_of (Assume set) = []

abbrev pub last_of : Stmt → Stmt
last_of Empty = Empty
last_of (Bind name expr) = Bind name (outermost expr).1
last_of (Show expr) = Show (outermost expr).1
last_of (Assume set) = Assume set

-- the statements bind the dollar names from this number on, one after another
abbrev pub BindFrom : ℕ → List Stmt → Type 0
BindFrom n [] = Unit {0}
BindFrom n (Bind name expr ∷ rest) = (name ≡ dollar n) × BindFrom (suc n) rest
BindFrom n (_ ∷ rest) = ⊥

-- ---- their shape

-- `%` and `sample`
abbrev pub chooses : Part → Bool
chooses (part.name n) = false
chooses (part.literal l) = false
chooses (part.operator sign) = is_gist sign
chooses (part.prefix word) = is_sample word
chooses part.any = false
chooses part.last = false
chooses part.inverse = false
chooses part.application = false
chooses (part.item i) = false

-- these, and the words whose operands may get names
abbrev pub wants_names : Part → Bool
wants_names (part.prefix word) = names_operand Outermost word
wants_names p = chooses p

-- nothing is chosen in it, or it is a `sample` of a name, or a `%` of two names
abbrev pub IsSimpleExpr : Expr → Type 0
IsSimpleExpr expr =
    (list_any chooses (parts_of expr) ≡ false)
    ⊎ (((operand : Name) × (expr ≡ e.Prefix Sample (e.Name operand)))
    ⊎ ((left : Name) × (right : Name) × (expr ≡ e.Row (e.Name left) (link_of Gist (e.Name right) ∷ []))))

abbrev pub IsSimple : Stmt → Type 0
IsSimple Empty = Unit {0}
IsSimple (Bind name expr) = IsSimpleExpr expr
IsSimple (Show expr) = IsSimpleExpr expr
IsSimple (Assume set) = Unit {0}

-- ---- their types

-- the parameters that the operands of a statement declare, joined: those of each operation in it are among them
abbrev pub statement_declared : ScopeView → Stmt → List Name
statement_declared scope Empty = []
statement_declared scope (Bind name expr) = declared_of scope expr
statement_declared scope (Show expr) = declared_of scope expr
statement_declared scope (Assume set) = []

-- the statement has this type, and declares at most so many parameters
pub record HasType (most : ℕ) (scope : ScopeView) (stmt : Stmt) (t : Option TypeView) : Type 0 where
  pub typed : type_of_statement scope stmt ≡ Ok t
  pub few : length (statement_declared scope stmt) ≤ most

-- in the later scope the name is bound to this, and every other name to what it was bound to
pub record BindsIn (before : ScopeView) (name : Name) (t : TypeView) (later : ScopeView) : Type 0 where
  pub bound : bound_to later name ≡ Some t
  pub others : (other : Name) → other ≢ name → bound_to later other ≡ bound_to before other

-- One after another, the statements have types: each but the last binds a name to its own, whatever scope that leaves, and the last
-- has this one.
abbrev pub AreTyped : ℕ → ScopeView → List Stmt → Option TypeView → Type 0
AreTyped most scope [] last = ⊥
AreTyped most scope (stmt ∷ []) last = HasType most scope stmt last
AreTyped most scope (Bind name expr ∷ next ∷ rest) last =
    (t : TypeView) × HasType most scope (Bind name expr) (Some t)
    × ((later : ScopeView) → BindsIn scope name t later → AreTyped most later (next ∷ rest) last)
AreTyped most scope (_ ∷ next ∷ rest) last = ⊥
