-- Rows with a progression in the column's place.
use Rattle.std.proofs.Common.{◌≡◌, ◌↔◌, ◌∙◌, ap, subst, arith, ℕ, ◌-◌, ◌<◌, ℤ, pos, ◌+ℤ◌, ◌-ℤ◌, ◌*ℤ◌, ◌<ℤ◌, List, length}
use Rattle.std.specs.List.{insert}
use Rattle.isl_math.proofs.Ring.{expand, linear}
use Rattle.isl_piece.specs.declared.row.Row.{Row}
use Rattle.isl_piece.specs.Row.{HoldsRow, IsWellFormed, value_at, coef_at}
use Rattle.isl_omega.specs.Column.{rest_at}
use Rattle.isl_omega.specs.Substitution.{substituted, multiplier, IsMovedBound}
use Rattle.isl_omega.specs.Tighten.{IsTightened}
use Rattle.isl_omega.proofs.ColumnLemmas.{value_at-insert}
use Rattle.isl_piece.proofs.CombineLaws.{value_at-combination, coef_at-combination, combination_formed, holds_scaled}

pub substituted_formed : (columns col : ℕ) (scale : ℤ) (offsets row : Row) → pos 0 <ℤ scale → IsWellFormed columns row → length offsets.coefs ≡ columns → IsWellFormed columns (substituted scale offsets col row)
substituted_formed columns col scale offsets row p h w = combination_formed columns scale row (coef_at row col) offsets p h w

-- the coefficient is multiplied
pub substituted_coefficient : (columns col : ℕ) (scale : ℤ) (offsets row : Row) → IsWellFormed columns row → length offsets.coefs ≡ columns → col < columns → coef_at (substituted scale offsets col row) col ≡ multiplier scale offsets col *ℤ coef_at row col
substituted_coefficient columns col scale offsets row h w l =
    coef_at-combination scale row (coef_at row col) offsets col (let e = h.width in omega arith) (let e = h.width in omega arith) ∙ by scale (coef_at row col) (coef_at offsets col)
  where
    by : (s a o : ℤ) → s *ℤ a +ℤ a *ℤ o ≡ (s +ℤ o) *ℤ a
    by s a o = simp expand (omega (arith, linear))

-- where scale x is k y and what the offsets have beside the column, the row so made says with y there what the row says with x there
pub substituted_same : (columns col : ℕ) (scale k : ℤ) (offsets row : Row) (point : List ℤ) (x y : ℤ) → pos 0 <ℤ scale → IsWellFormed columns row → length offsets.coefs ≡ columns → col < columns → length point ≡ columns - 1
    → coef_at offsets col ≡ k -ℤ scale → scale *ℤ x ≡ k *ℤ y +ℤ rest_at offsets col point
    → HoldsRow (substituted scale offsets col row) (insert point col y) ↔ HoldsRow row (insert point col x)
substituted_same columns col scale k offsets row point x y p h w l n o e =
    let widths : length row.coefs ≡ length offsets.coefs = (let f = h.width in omega arith) in
    let at_x = value_at-insert row col point x (let f = h.width in omega arith) (omega arith) in
    let at_y = value_at-insert row col point y (let f = h.width in omega arith) (omega arith) in
    let off_y = value_at-insert offsets col point y (omega arith) (omega arith) in
    let value : value_at (substituted scale offsets col row) (insert point col y) ≡ scale *ℤ value_at row (insert point col x) =
    value_at-combination scale row (coef_at row col) offsets (insert point col y) widths
    ∙ by scale k (coef_at row col) (coef_at offsets col) x y (rest_at row col point) (rest_at offsets col point) (value_at row (insert point col x)) (value_at row (insert point col y)) (value_at offsets (insert point col y)) at_x at_y off_y o e in
    rw value (holds_scaled row.kind scale row.k (value_at row (insert point col x)) p)
  where
    by : (s k a o x y f h u v w : ℤ) → u ≡ a *ℤ x +ℤ f → v ≡ a *ℤ y +ℤ f → w ≡ o *ℤ y +ℤ h → o ≡ k -ℤ s → s *ℤ x ≡ k *ℤ y +ℤ h → s *ℤ v +ℤ a *ℤ w ≡ s *ℤ u
    by s k a o x y f h u v w eu ev ew eo e =
        let eu' = simp expand at (ap (λ z. s *ℤ z) eu) in
        let ev' = simp expand at (ap (λ z. s *ℤ z) ev) in
        let ew' = simp expand at (ap (λ z. a *ℤ z) ew) in
        let eo' = simp expand at (ap (λ z. a *ℤ y *ℤ z) eo) in
        let e' = simp expand at (ap (λ z. a *ℤ z) e) in
        simp expand (omega (arith, linear))

-- what `bound` makes
pub moved_bound : (columns col : ℕ) (scale : ℤ) (offsets row moved tight : Row) → IsWellFormed columns row → length offsets.coefs ≡ columns → col < columns → moved ≡ substituted scale offsets col row → IsTightened columns moved tight
    → IsMovedBound columns col scale offsets row tight
moved_bound columns col scale offsets row moved tight h w l e t = record {
  formed = t.formed;
  kind = t.kind;
  same = λ xs. subst (λ (r : Row). HoldsRow tight xs ↔ HoldsRow r xs) e (t.same xs);
  factor = rw (ap (λ (r : Row). coef_at r col) e ∙ substituted_coefficient columns col scale offsets row h w l) at (t.coefs col l);
  up_to = λ b u. t.up_to b (rw e u);
}
