-- public: columns whose own rows bound them, or tell one step. (Bastoul, code generation in the polyhedral model)
use Rattle.std.specs.Prelude.{◌≡◌, ◌≢◌, ℕ, ◌+◌, ◌<◌, pos, List, All, Contains, length}
use Rattle.isl_piece.specs.declared.row.RowKind.TheVariants.{Divides, NotDivides}
use Rattle.isl_piece.specs.declared.row.Row.{Row}
use Rattle.isl_piece.specs.Row.{coef_at}
use Rattle.isl_frame.specs.Frame.{NamesForms}
use Rattle.isl_nest.specs.Item.{named}
use Rattle.isl_nest.specs.Stepping.{TellsStep}

-- the row names the next column behind the frame, and none further
abbrev pub IsOwn : List Row → Row → Type 0
IsOwn frame r = named r.coefs ≡ length frame + 1

-- Of the rows that name the next column behind the frame, and none further, none says that a number does not divide, and one at most that
-- one does: it tells a step, and the other columns that it names are forms.
pub record AreStriding (frame rows : List Row) : Type 0 where
  pub whole : All (λ r. IsOwn frame r → r.kind ≢ NotDivides) rows
  pub steps : All (λ r. IsOwn frame r → r.kind ≡ Divides → TellsStep (length frame) r × NamesForms frame r) rows
  pub one : (r s : Row) → Contains rows r → Contains rows s → IsOwn frame r → IsOwn frame s → r.kind ≡ Divides → s.kind ≡ Divides → r ≡ s

-- a congruence of a later column names the column
pub record Asks (column : ℕ) (r : Row) : Type 0 where
  pub kind : r.kind ≡ Divides
  pub later : column + 1 < named r.coefs
  pub names : coef_at r column ≢ pos 0
