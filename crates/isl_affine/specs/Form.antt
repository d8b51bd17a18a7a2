-- inner: linear forms over the columns of a system, and what they stand for.
use Rattle.std.specs.Prelude.{◌≡◌, ◌≢◌, ◌<◌, ◌≤◌, ℕ, ◌+◌, ◌-◌, ℤ, pos, ◌+ℤ◌, ◌*ℤ◌, ◌<ℤ◌, Bool, List, ◌++◌, All, length, replicate}
use Rattle.std.specs.Prelude.{slice_index_or}
use Rattle.std.specs.Ordering.{int_eq}
use Rattle.isl_math.specs.Dot.{dot}
use Rattle.isl_math.specs.Divide.{floor_div}
use Rattle.isl_meter.specs.Gauge.{Gauge, IsWithin}
use Rattle.isl_piece.specs.declared.definition.Definition.{Definition}
use Rattle.isl_piece.specs.declared.system.System.{System}
use Rattle.isl_piece.specs.Definition.{with_defined}
use Rattle.isl_piece.specs.System.{IsSystemWithin, free_columns}
use Rattle.isl_tree.specs.Environment.{Environment}
use Rattle.isl_affine.specs.declared.form.Form.{Form}
use Rattle.isl_affine.specs.Extends.{Extends}
use Rattle.isl_affine.specs.Scope.{Scope, IsNumbered}

-- the number of a form at a point; columns behind its coefficients have the coefficient 0
abbrev pub form_at : Form → List ℤ → ℤ
form_at form xs = dot form.coefs xs +ℤ form.constant

-- the coefficients with zeros behind them, of so many columns at least
abbrev pub padded : ℕ → List ℤ → List ℤ
padded columns coefs = coefs ++ replicate (columns - length coefs) (pos 0)

abbrev pub is_nil : ℤ → Bool
is_nil z = int_eq z (pos 0)

-- each number of the form is within the limit
pub record IsFormWithin (g : Gauge) (form : Form) : Type 0 where
  pub coefs : All (IsWithin g) form.coefs
  pub constant : IsWithin g form.constant

-- the form is one column
pub record IsColumn (g : Gauge) (column : ℕ) (form : Form) : Type 0 where
  pub within : IsFormWithin g form
  pub width : length form.coefs ≡ column + 1
  pub number : (xs : List ℤ) → form_at form xs ≡ slice_index_or xs column (pos 0)

-- the sum is the left form and m times the right one
pub record IsSumOf (before now : Gauge) (left : Form) (m : ℤ) (right sum : Form) : Type 0 where
  pub within : IsFormWithin before sum
  pub width : (columns : ℕ) → length left.coefs ≤ columns → length right.coefs ≤ columns → length sum.coefs ≤ columns
  pub number : (xs : List ℤ) → form_at sum xs ≡ form_at left xs +ℤ m *ℤ form_at right xs
  pub meter : now ≡ before

-- both lists of coefficients give the same number everywhere
pub record AreSame (left right : List ℤ) : Type 0 where
  pub numbers : (xs : List ℤ) → dot left xs ≡ dot right xs

-- the form is one over the columns of the system, within the limit
pub record IsOver (g : Gauge) (s : System) (form : Form) : Type 0 where
  pub system : IsSystemWithin g s
  pub within : IsFormWithin g form
  pub width : length form.coefs ≤ s.columns

-- such a form, and a divisor
pub record IsDivisible (g : Gauge) (s : System) (form : Form) (k : ℤ) : Type 0 where
  pub over : IsOver g s form
  pub divisor : pos 0 <ℤ k
  pub divisor_within : IsWithin g k

-- the definition is that of the form divided by k
pub record IsDivisionOf (form : Form) (k : ℤ) (d : Definition) : Type 0 where
  pub coefs : AreSame d.coefs form.coefs
  pub constant : d.constant ≡ form.constant
  pub divisor : d.k ≡ k

-- a defined column has that definition
pub record IsDivisionAt (s : System) (form : Form) (k : ℤ) (column : ℕ) : Type 0 where
  pub index : ℕ
  pub inside : index < length s.definitions
  pub place : column ≡ free_columns s + index
  pub division : (d : Definition) → IsDivisionOf form k (slice_index_or s.definitions index d)

-- the column has the coefficient 1, and each other one the coefficient 0
pub record IsLone (coefs : List ℤ) (column : ℕ) : Type 0 where
  pub one : slice_index_or coefs column (pos 0) ≡ pos 1
  pub others : (i : ℕ) → i < length coefs → i ≢ column → slice_index_or coefs i (pos 0) ≡ pos 0

-- the form is the defined column of that definition, and a number beside it
pub record IsNested (s : System) (form : Form) (index : ℕ) : Type 0 where
  pub inside : index < length s.definitions
  pub column : IsLone form.coefs (free_columns s + index)

-- divided by the divisor and rounded down, the other form has the number of the form divided by k at every point of the system
pub record IsSameDivision (g : Gauge) (s : System) (form : Form) (k : ℤ) (other : Form) (divisor : ℤ) : Type 0 where
  pub divisible : IsDivisible g s other divisor
  pub number : (point : List ℤ) → length point ≡ free_columns s
      → floor_div (form_at other (with_defined s.definitions point)) divisor ≡ floor_div (form_at form (with_defined s.definitions point)) k

-- the column has the number of the form divided by k and rounded down
pub record IsDivision (g : Gauge) (old new : System) (form : Form) (k : ℤ) (column : ℕ) : Type 0 where
  pub extends : Extends g old new
  pub inside : column < new.columns
  pub number : (point : List ℤ) → length point ≡ free_columns old
      → slice_index_or (with_defined new.definitions point) column (pos 0) ≡ floor_div (form_at form (with_defined old.definitions point)) k

-- over a system that got the defined columns it needs the new form has what f makes of the number of the old one
pub record IsStep (g : Gauge) (old new : System) (form : Form) (f : ℤ → ℤ) (made : Form) : Type 0 where
  pub extends : Extends g old new
  pub over : IsOver g new made
  pub number : (point : List ℤ) → length point ≡ free_columns old
      → form_at made (with_defined new.definitions point) ≡ f (form_at form (with_defined old.definitions point))

-- over the columns of the system the form has this number wherever the names of the scope stand for the numbers of their columns
pub record IsFormOf (g : Gauge) (scope : Scope) (s : System) (value : Environment → ℤ) (form : Form) : Type 0 where
  pub over : IsOver g s form
  pub number : (point : List ℤ) (env : Environment) → length point ≡ free_columns s → IsNumbered scope point env
      → form_at form (with_defined s.definitions point) ≡ value env

-- a form of the value, over a system that got the defined columns it needs
pub record GivesForm (g : Gauge) (scope : Scope) (old new : System) (value : Environment → ℤ) (form : Form) : Type 0 where
  pub extends : Extends g old new
  pub is : IsFormOf g scope new value form

-- the names of the scope are those of free columns
pub record IsReady (g : Gauge) (scope : Scope) (s : System) : Type 0 where
  pub system : IsSystemWithin g s
  pub columns : length scope ≤ free_columns s
