-- inner: what rows of forms say.
use Rattle.std.specs.Prelude.{◌≡◌, ◌↔◌, ◌≤ℤ◌, ◌<ℤ◌, ℤ, pos, List, length}
use Rattle.isl_meter.specs.Gauge.{Gauge}
use Rattle.isl_piece.specs.declared.row.RowKind.{RowKind}
use Rattle.isl_piece.specs.declared.row.RowKind.TheVariants.{Divides, NotDivides}
use Rattle.isl_piece.specs.declared.system.System.{System}
use Rattle.isl_piece.specs.Definition.{with_defined}
use Rattle.isl_piece.specs.Row.{HoldsValue}
use Rattle.isl_piece.specs.System.{HoldsSystem, IsSystemWithin, free_columns}
use Rattle.isl_tree.specs.declared.tree.Compare.{Compare}
use Rattle.isl_tree.specs.declared.tree.Compare.TheVariants.{Equal, Less, LessEqual, Greater, GreaterEqual, Differs}
use Rattle.isl_tree.specs.Environment.{Environment}
use Rattle.isl_tree.specs.Term.{Term}
use Rattle.isl_affine.specs.declared.difference.Bound.{Bound}
use Rattle.isl_affine.specs.declared.difference.Bound.TheVariants.{Zero, AtLeast, Above}
use Rattle.isl_affine.specs.declared.form.Form.{Form}
use Rattle.isl_affine.specs.Form.{form_at}
use Rattle.isl_affine.specs.Scope.{Scope, IsNumbered}

-- the new system holds where the old one does and the number of the form is as the kind asks
pub record IsWithRow (g : Gauge) (old : System) (kind : RowKind) (k : ℤ) (form : Form) (new : System) : Type 0 where
  pub within : IsSystemWithin g new
  pub free : free_columns new ≡ free_columns old
  pub points : (point : List ℤ) → length point ≡ free_columns old
      → HoldsSystem new point ↔ (HoldsSystem old point × HoldsValue kind k (form_at form (with_defined old.definitions point)))

-- the new system holds where the old one does and this is so, wherever the names of the scope stand for the numbers of their columns
pub record Narrows (g : Gauge) (scope : Scope) (old new : System) (says : List ℤ → Environment → Type 0) : Type 0 where
  pub within : IsSystemWithin g new
  pub free : free_columns new ≡ free_columns old
  pub points : (point : List ℤ) (env : Environment) → length point ≡ free_columns old → IsNumbered scope point env
      → HoldsSystem new point ↔ (HoldsSystem old point × says point env)

-- what is asked of a difference
abbrev pub BoundHolds : Bound → ℤ → Type 0
BoundHolds Zero z = z ≡ pos 0
BoundHolds AtLeast z = pos 0 ≤ℤ z
BoundHolds Above z = pos 0 <ℤ z

-- the side of a comparison that is to be greater, the other, and what is asked of their difference
abbrev pub difference_of : Compare → Term → Term → Term × Term × Bound
difference_of Equal left right = (left, right, Zero)
difference_of Less left right = (right, left, Above)
difference_of LessEqual left right = (right, left, AtLeast)
difference_of Greater left right = (left, right, Above)
difference_of GreaterEqual left right = (left, right, AtLeast)
difference_of Differs left right = (left, right, Zero)

abbrev pub congruence_kind : Compare → RowKind
congruence_kind Differs = NotDivides
congruence_kind _ = Divides
