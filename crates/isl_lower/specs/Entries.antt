-- inner: entries as equations of columns.
use Rattle.std.specs.Prelude.{◌≡◌, ◌↔◌, ℕ, ◌+◌, ◌<◌, ◌≤◌, ◌^◌, ℤ, pos, List, [], ◌∷◌, All, length, slice_index_or}
use Rattle.isl_meter.specs.Gauge.{Gauge}
use Rattle.isl_piece.specs.declared.system.System.{System}
use Rattle.isl_piece.specs.System.{HoldsSystem, IsSystemWithin, free_columns}
use Rattle.isl_tree.specs.declared.tree.Entry.{Entry}
use Rattle.isl_tree.specs.Environment.{Environment}
use Rattle.isl_tree.specs.Literal.{entry_term}
use Rattle.isl_tree.specs.Term.{term_value}
use Rattle.isl_tree.specs.Divisors.{HasDivisors}
use Rattle.isl_affine.specs.Scope.{Scope, IsNumbered, IsTermKnown}

-- what may be asked of a point and of an environment
abbrev pub Condition : Type 1
Condition = List ℤ → Environment → Type 0

-- the entry has the number at a column
abbrev pub EntryAt : Entry → ℕ → Condition
EntryAt entry column point env = term_value (entry_term entry) env ≡ slice_index_or point column (pos 0)

-- each entry has the number at its column, where the first of them stands at a column
abbrev pub EntriesAt : List Entry → ℕ → Condition
EntriesAt [] first point env = Unit {0}
EntriesAt (entry ∷ entries) first point env = EntryAt entry first point env × EntriesAt entries (first + 1) point env

-- the system has a column for each of the entries, from the first one's on, and the scope knows their names
pub record AreReady (g : Gauge) (scope : Scope) (s : System) (first : ℕ) (entries : List Entry) : Type 0 where
  pub within : IsSystemWithin g s
  pub columns : length scope ≤ free_columns s
  pub room : first + length entries ≤ free_columns s
  pub bounded : first + length entries < 2 ^ 64
  pub known : All (λ entry. IsTermKnown scope (entry_term entry)) entries
  pub divisors : All (λ entry. HasDivisors (entry_term entry)) entries

-- the new system has the same free columns, is within the limit, and holds where the old one does and the condition is met, at every
-- point at which the scope's names stand for the numbers of their columns
pub record HoldsWith (g : Gauge) (scope : Scope) (old new : System) (also : Condition) : Type 0 where
  pub within : IsSystemWithin g new
  pub free : free_columns new ≡ free_columns old
  pub points : (point : List ℤ) (env : Environment) → length point ≡ free_columns old → IsNumbered scope point env
      → HoldsSystem new point ↔ (HoldsSystem old point × also point env)
