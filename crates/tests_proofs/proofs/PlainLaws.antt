-- Systems of rows whose columns are all free.
use Rattle.std.proofs.Common.{◌≡◌, refl, sym, subst, arith, ℕ, ◌≤◌, List, [], ◌∷◌, length}
use Rattle.std.specs.List.{All}
use Rattle.std.proofs.lemmas.List.Elements.{All-weaker}
use Rattle.isl_meter.specs.Gauge.{Gauge}
use Rattle.isl_piece.specs.declared.row.Row.{Row}
use Rattle.isl_piece.specs.declared.system.System.{System}
use Rattle.isl_piece.specs.Row.{IsRowWithin, IsWellFormed}
use Rattle.isl_piece.specs.System.{IsSystemWithin}
use Rattle.tests_proofs.specs.Question.{ArePlain, IsPlain}

pub plain_is : (g : Gauge) (columns : ℕ) (rows : List Row) (s : System) → s ≡ record { columns = columns; definitions = []; rows = rows }
    → All (IsWellFormed columns) rows → All (IsRowWithin g) rows → IsPlain g columns s
plain_is g columns rows s is formed within = subst (IsPlain g columns) (sym is) (record {
  within = record { rows = formed; within = within; count = omega arith; definitions = tt };
  width = refl;
  plain = refl;
})

-- over its own columns
pub own_plain : (g : Gauge) (columns : ℕ) (s : System) → IsPlain g columns s → IsPlain g s.columns s
own_plain g columns s p = record { within = p.within; width = refl; plain = p.plain }

module _ (g : Gauge) (columns : ℕ) (systems : List System) (all : All (IsPlain g columns) systems) where
  pub all_within : All (IsSystemWithin g) systems
  all_within = All-weaker (IsPlain g columns) (IsSystemWithin g) (λ s p. p.within) systems all

  pub all_columns : All (λ s. s.columns ≡ columns) systems
  all_columns = All-weaker (IsPlain g columns) (λ s. s.columns ≡ columns) (λ s p. p.width) systems all

  pub all_free : All (λ s. s.definitions ≡ []) systems
  all_free = All-weaker (IsPlain g columns) (λ s. s.definitions ≡ []) (λ s p. p.plain) systems all
