-- What is spent on one column, said of another answer.
use Rattle.std.proofs.Common.{◌≡◌, refl, arith, ℕ, pos, ◌≤ℤ◌, List, Option, Some, None, IfSome, Ok, Err}
use Rattle.std.specs.Prelude.{option_map}
use Rattle.std.specs.List.{All}
use Rattle.isl_math.proofs.Ring.{linear}
use Rattle.isl_meter.specs.declared.Cut.{Cut}
use Rattle.isl_meter.specs.declared.Cut.TheVariants.{NoMemory}
use Rattle.isl_meter.specs.Gauge.{Gauge}
use Rattle.isl_piece.specs.declared.row.Row.{Row}
use Rattle.isl_piece.specs.declared.system.System.{System}
use Rattle.isl_piece.specs.Normal.{normal_rows, normal_system}
use Rattle.isl_piece.specs.Row.{IsRowWithin, IsWellFormed}
use Rattle.isl_piece.specs.System.{IsSystemWithin}
use Rattle.isl_piece.proofs.NormalLaws.{normal_rows_well_formed}
use Rattle.isl_piece.proofs.RowsLaws.{normal_rows_within}
use Rattle.isl_omega.specs.Column.{IsProper}
use Rattle.isl_omega.specs.Sides.{IsLower, IsUpper, on_side}
use Rattle.isl_omega.specs.declared.sides.Side.TheVariants.{Lower, Upper}
use Rattle.isl_omega.proofs.SideLemmas.{picked}
use Rattle.isl_shadows.specs.Units.{elimination_units}
use Rattle.isl_shadows.proofs.UnitLemmas.{units_not_negative}
use Rattle.isl_elim.specs.Spent.{IsSpentOn}

pub spent_cut : {A B : Type 0} (rows : List Row) (col : ℕ) (g h : Gauge) (cut : Cut) → IsSpentOn {A = A} rows col g h (Err cut)
    → IsSpentOn {A = B} rows col g h (Err cut)
spent_cut rows col g h cut s = record { units = s.units; equality = s.equality; magnitude = s.magnitude }

pub spent_ok : {A B : Type 0} (rows : List Row) (col : ℕ) (g h : Gauge) (a : A) (b : B) → IsSpentOn {A = A} rows col g h (Ok a)
    → IsSpentOn {A = B} rows col g h (Ok b)
spent_ok rows col g h a b s = record { units = s.units; equality = s.equality; magnitude = λ bits small one. tt }

-- want of memory behind an answer
pub spent_memory : {A B : Type 0} (rows : List Row) (col : ℕ) (g h : Gauge) (a : A) → IsSpentOn {A = A} rows col g h (Ok a)
    → IsSpentOn {A = B} rows col g h (Err NoMemory)
spent_memory rows col g h a s = record { units = s.units; equality = s.equality; magnitude = λ bits small one e. cc }

-- want of memory before a unit was used
pub spent_nothing : {A : Type 0} (rows : List Row) (col columns : ℕ) (g : Gauge) → All (IsProper g columns) rows
    → IsSpentOn {A = A} rows col g g (Err NoMemory)
spent_nothing rows col columns g proper = record {
  units = let l = least in omega (arith, linear, l);
  equality = λ has. refl;
  magnitude = λ bits small one e. cc;
}
  where
    least : pos 0 ≤ℤ elimination_units rows col
    least = units_not_negative g columns col rows (on_side Lower col rows) (on_side Upper col rows) (λ k d l. (proper k d l).formed)
        (picked g columns col Lower rows (IsLower g columns col) (λ r p m. record { proper = p; kind = m.0; factor = m.1 }) proper)
        (picked g columns col Upper rows (IsUpper g columns col) (λ r p m. record { proper = p; kind = m.0; factor = m.1 }) proper)

-- ---- normal rows of a system of one column
pub record IsNormalOne (g : Gauge) (s normal : System) : Type 0 where
  pub definitions : normal.definitions ≡ s.definitions
  pub columns : normal.columns ≡ s.columns
  pub proper : All (IsProper g s.columns) normal.rows

pub normal_one : (g : Gauge) (s normal : System) → IsSystemWithin g s → normal_system s ≡ Some normal → IsNormalOne g s normal
normal_one g s normal w e =
    by (normal_rows s.rows) e (normal_rows_well_formed s.columns s.rows w.rows)
    (normal_rows_within g s.rows (λ k d l. (w.rows k d l).modulus) w.within)
  where
    by : (found : Option (List Row)) → option_map (λ rows. record { columns = s.columns; definitions = s.definitions; rows = rows }) found ≡ Some normal
        → IfSome found (All (IsWellFormed s.columns)) → IfSome found (All (IsRowWithin g)) → IsNormalOne g s normal
    by None e f i = absurd (cc)
    by (Some rows) e f i =
        let m : normal ≡ record { columns = s.columns; definitions = s.definitions; rows = rows } = cc in
        rw m (record { definitions = refl; columns = refl; proper = λ k d l. record { formed = f k d l; within = i k d l } })
