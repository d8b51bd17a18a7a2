-- Rows that hold at the same points, without some that the others imply: columns out of them, samples, systems.
use Rattle.std.proofs.Common.{◌≡◌, ◌∙◌, ◌-◌, ℕ, ℤ, List, ap, refl, sym, length}
use Rattle.std.specs.Prelude.{Option, Some, None, MatchOption, Result, MatchResult, Ok, Err}
use Rattle.std.specs.List.{All}
use Rattle.isl_meter.specs.Gauge.{Gauge, IsCharged, IsCutBy}
use Rattle.isl_meter.specs.declared.Cut.{Cut}
use Rattle.isl_piece.specs.declared.row.Row.{Row}
use Rattle.isl_piece.specs.Row.{IsWellFormed, IsRowWithin}
use Rattle.isl_piece.specs.declared.definition.Definition.{Definition}
use Rattle.isl_piece.specs.declared.system.System.{System}
use Rattle.isl_piece.specs.Definition.{with_defined}
use Rattle.isl_piece.specs.System.{HoldRows, HoldsSystem, IsSystemWithin, free_columns}
use Rattle.isl_omega.specs.Column.{IsProper}
use Rattle.isl_redundant.specs.Redundant.{IsReduced}
use Rattle.isl_elim.specs.Elimination.{AddsAlong, IsProjectionAlong, IsReducedSystem, system_of}
use Rattle.isl_presolve.specs.Emptiness.{HoldNowhere}
use Rattle.isl_presolve.specs.Fixed.{HoldAlike}
use Rattle.isl_presolve.specs.Shear.{IsReduction}
use Rattle.isl_redundant.proofs.KeptLaws.{reduced_first}
use Rattle.isl_elim.specs.Sample.{IsSample, IsNowhere}
use Rattle.isl_elim.proofs.AlongLaws.{along_same, proper_rows}

-- all of them
pub formed_rows : (g : Gauge) (columns : ℕ) (rows : List Row) → All (IsProper g columns) rows → All (IsWellFormed columns) rows
formed_rows g columns rows p = λ i d l. (p i d l).formed

pub rows_within : (g : Gauge) (columns : ℕ) (rows : List Row) → All (IsProper g columns) rows → All (IsRowWithin g) rows
rows_within g columns rows p = λ i d l. (p i d l).within

-- what is left of them
pub proper_fewer : (g : Gauge) (columns : ℕ) (rows few : List Row) → IsReduced columns rows few → All (IsProper g columns) rows
    → All (IsProper g columns) few
proper_fewer g columns rows few k p = proper_rows g columns few k.shape (k.within g (rows_within g columns rows p))

pub alike_fewer : (g : Gauge) (columns : ℕ) (rows fixed : List Row) (found : Option (List Row)) → HoldAlike g columns rows fixed
    → MatchOption found ((point : List ℤ) → ¬ HoldRows fixed point) (IsReduced columns fixed)
    → MatchOption found (HoldNowhere columns rows) (HoldAlike g columns rows)
alike_fewer g columns rows fixed None a none = λ point l h. none point ((a.points point l).1 h)
alike_fewer g columns rows fixed (Some few) a k = record {
  proper = proper_fewer g columns fixed few k a.proper;
  normal = k.normal a.normal;
  points = λ point l.
      let both = a.points point l in
      let same = k.points point in
      ((λ h. both.0 (same.0 h)), (λ h. same.1 (both.1 h)));
}

-- ---- emptiness
-- fewer of those rows that hold nowhere exactly where the first ones do
pub reduction_fewer : (g : Gauge) (columns : ℕ) (rows short : List Row) (found : Option (List Row)) → IsReduction g columns rows short
    → MatchOption found ((point : List ℤ) → ¬ HoldRows short point) (IsReduced columns short)
    → MatchOption found (HoldNowhere columns rows) (IsReduction g columns rows)
reduction_fewer g columns rows short None r none = r.are.nowhere.0 (λ point l. none point)
reduction_fewer g columns rows short (Some few) r k = record {
  are = record {
    proper = proper_fewer g columns short few k r.are.proper;
    nowhere = (
      (λ none. r.are.nowhere.0 (λ point l h. none point l ((k.points point).1 h))),
      (λ none point l h. r.are.nowhere.1 none point l ((k.points point).0 h)),
    );
  };
  normal = k.normal r.normal;
}

-- what is left of rows that hold at the same points
pub along_alike : {A : Type 0} (g h : Gauge) (columns : ℕ) (cols : List ℕ) (rows few : List Row) (old new : List (List Row))
    (result : Result A Cut) → HoldAlike g columns rows few
    → MatchResult result (λ _. AddsAlong g columns cols (HoldRows few) old new × IsCharged g h) (IsCutBy g h)
    → MatchResult result (λ _. AddsAlong g columns cols (HoldRows rows) old new × IsCharged g h) (IsCutBy g h)
along_alike g h columns cols rows few old new (Ok v) k r =
    (along_same g columns cols (HoldRows few) (HoldRows rows) old new k.points r.0, r.1)
along_alike g h columns cols rows few old new (Err cut) k r = r

-- ---- samples
pub sample_alike : {A : Type 0} (items : A → List ℤ) (g h : Gauge) (columns : ℕ) (rows fixed : List Row) (result : Result (Option A) Cut)
    → HoldAlike g columns rows fixed
    → MatchResult result (λ sample. MatchOption sample (IsNowhere columns (HoldRows fixed))
    (λ point. IsSample g columns (HoldRows fixed) (items point)) × IsCharged g h) (IsCutBy g h)
    → MatchResult result (λ sample. MatchOption sample (IsNowhere columns (HoldRows rows))
    (λ point. IsSample g columns (HoldRows rows) (items point)) × IsCharged g h) (IsCutBy g h)
sample_alike items g h columns rows fixed (Ok None) a r = ((λ point l x. r.0 point l ((a.points point l).1 x)), r.1)
sample_alike items g h columns rows fixed (Ok (Some v)) a r =
    let p = r.0 in
    (record { width = p.width; within = p.within; holds = (a.points (items v) p.width).0 p.holds }, r.1)
sample_alike items g h columns rows fixed (Err cut) a r = r

-- ---- systems
pub same_system : (g : Gauge) (s : System) → IsSystemWithin g s → IsReducedSystem g s s
same_system g s w = record {
  within = w;
  columns = refl;
  definitions = refl;
  normal = λ n. n;
  points = λ point. ((λ h. h), (λ h. h));
}

pub reduced_system : (g : Gauge) (s : System) (few : List Row) → IsSystemWithin g s → IsReduced s.columns s.rows few
    → IsReducedSystem g s (system_of s.columns s.definitions few)
reduced_system g s few w k = record {
  within = record { rows = k.shape; within = k.within g w.within; count = w.count; definitions = w.definitions };
  columns = refl;
  definitions = refl;
  normal = k.normal;
  points = λ point. k.points (with_defined s.definitions point);
}

pub nowhere_system : (s : System) → ((point : List ℤ) → ¬ HoldRows s.rows point) → IsNowhere (free_columns s) (HoldsSystem s)
nowhere_system s none point l h = none (with_defined s.definitions point) h

pub same_columns : (g : Gauge) (old few : System) → IsReducedSystem g old few → free_columns few ≡ free_columns old
same_columns g old few r =
    ap (λ (n : ℕ). n - length few.definitions) r.columns ∙ ap (λ (ds : List Definition). old.columns - length ds) r.definitions

-- what is a projection of one is a projection of the other
pub projection_reduced : (g : Gauge) (old few : System) (cols : List ℕ) (new : List System) → IsReducedSystem g old few
    → IsProjectionAlong few cols new → IsProjectionAlong old cols new
projection_reduced g old few cols new r p =
    let free = same_columns g old few r in record {
      columns = λ i d l. p.columns i d l ∙ ap (λ (n : ℕ). n - length cols) free;
      points = λ point l. let same = p.points point (l ∙ ap (λ (n : ℕ). n - length cols) (sym free)) in (
        (λ h. let x = same.0 h in (x.0, x.1 ∙ free, x.2, (r.points x.0).0 x.3)),
        (λ x. same.1 (x.0, x.1 ∙ sym free, x.2, (r.points x.0).1 x.3)),
      );
    }

pub ruleset system_steps = (same_system, reduced_system, nowhere_system)

pub ruleset fewer_steps = (formed_rows, rows_within, alike_fewer, reduced_first, reduction_fewer)
