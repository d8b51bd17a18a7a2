-- Whether rows and systems hold at a point is decided.
use Rattle.std.proofs.Common.{◌⊎◌, inl, inr, arith, ℕ, ℤ, pos, ◌<ℤ◌, ◌≤ℤ◌, List, get_or}
use Rattle.std.specs.List.{All, Any}
use Rattle.isl_math.proofs.Ring.{linear}
use Rattle.isl_math.proofs.ListLaws.{all_or_any}
use Rattle.isl_meter.specs.Gauge.{Gauge}
use Rattle.isl_piece.specs.declared.row.RowKind.{RowKind}
use Rattle.isl_piece.specs.declared.row.RowKind.TheVariants.{Zero, AtLeast, Divides, NotDivides}
use Rattle.isl_piece.specs.declared.row.Row.{Row}
use Rattle.isl_piece.specs.declared.system.System.{System}
use Rattle.isl_piece.specs.Definition.{with_defined}
use Rattle.isl_piece.specs.Row.{HoldsRow, HoldsValue, HasModulus, IsWellFormed, value_at}
use Rattle.isl_piece.specs.System.{HoldRows, HoldsSystem, IsSystemWithin}
use Rattle.isl_piece.proofs.ContentLaws.{zero_cases}
use Rattle.isl_piece.proofs.NormalCases.{divides_cases, negative_cases}
use Rattle.isl_elim.specs.Elimination.{HoldsAtAny}

negative_not_large : (z : ℤ) → z <ℤ pos 0 → ¬ (pos 0 ≤ℤ z)
negative_not_large z h k = omega (arith, linear)

value_cases : (kind : RowKind) (k z : ℤ) → HasModulus kind k → HoldsValue kind k z ⊎ (¬ HoldsValue kind k z)
value_cases Zero k z h = zero_cases z
value_cases AtLeast k z h = elim (negative_cases z) [ inl n ↦ inr (negative_not_large z n) | inr p ↦ inl p ]
value_cases Divides k z h = divides_cases k z h
value_cases NotDivides k z h = elim (divides_cases k z h) [ inl d ↦ inr (λ n. n d) | inr n ↦ inl n ]

pub row_cases : (r : Row) (xs : List ℤ) → HasModulus r.kind r.k → HoldsRow r xs ⊎ (¬ HoldsRow r xs)
row_cases r xs h = value_cases r.kind r.k (value_at r xs) h

pub any_not_all : {X : Type 0} (P : X → Type 0) (xs : List X) → Any (λ x. ¬ P x) xs → ¬ All P xs
any_not_all P xs a h = a.4 (rw a.3 at (h a.0 a.1 a.2))

pub any_not : {X : Type 0} (P : X → Type 0) (xs : List X) → All (λ x. ¬ P x) xs → ¬ Any P xs
any_not P xs h a = (rw a.3 at (h a.0 a.1 a.2)) a.4

pub rows_cases : (columns : ℕ) (rows : List Row) (xs : List ℤ) → All (IsWellFormed columns) rows → HoldRows rows xs ⊎ (¬ HoldRows rows xs)
rows_cases columns rows xs f =
    let P : Row → Type 0 = λ r. HoldsRow r xs in
    let Q : Row → Type 0 = λ r. ¬ HoldsRow r xs in
    elim (all_or_any P Q rows (λ k d i. row_cases (get_or rows k d) xs (f k d i).modulus)) [
      | inl all ↦ inl all
      | inr some ↦ inr (any_not_all P rows some)
    ]

pub system_cases : (g : Gauge) (s : System) (point : List ℤ) → IsSystemWithin g s → HoldsSystem s point ⊎ (¬ HoldsSystem s point)
system_cases g s point w = rows_cases s.columns s.rows (with_defined s.definitions point) w.rows

pub systems_cases : (g : Gauge) (systems : List System) (point : List ℤ) → All (IsSystemWithin g) systems
    → HoldsAtAny systems point ⊎ (¬ HoldsAtAny systems point)
systems_cases g systems point w =
    let P : System → Type 0 = λ s. HoldsSystem s point in
    let Q : System → Type 0 = λ s. ¬ HoldsSystem s point in
    elim (all_or_any Q P systems (λ k d i. elim (system_cases g (get_or systems k d) point (w k d i)) [ inl h ↦ inr h | inr n ↦ inl n ])) [
      | inl none ↦ inr (any_not P systems none)
      | inr some ↦ inl some
    ]
