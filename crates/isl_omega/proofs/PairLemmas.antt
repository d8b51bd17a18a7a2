-- The rows that the code makes of a pair of bounds.
use Rattle.std.proofs.Common.{◌≡◌, ◌↔◌, ◌∙◌, sym, ap, arith, ℕ, ◌-◌, ◌<◌, ℤ, pos, neg_ℤ, ◌+ℤ◌, ◌-ℤ◌, ◌*ℤ◌, ◌≤ℤ◌, ◌<ℤ◌, List, length}
use Rattle.std.specs.List.{insert}
use Rattle.isl_math.specs.Divide.{floor_div, IsGcdOf}
use Rattle.isl_math.specs.Dot.{dot}
use Rattle.isl_math.proofs.Ring.{expand, linear}
use Rattle.isl_math.proofs.OrderLaws.{<ℤ-from_*ℤ, positive_not_zero}
use Rattle.isl_meter.specs.Gauge.{Gauge}
use Rattle.isl_piece.specs.declared.row.RowKind.{RowKind}
use Rattle.isl_piece.specs.declared.row.RowKind.TheVariants.{AtLeast}
use Rattle.isl_piece.specs.declared.row.Row.{Row}
use Rattle.isl_piece.specs.Row.{HoldsRow, HoldsValue, value_at, coef_at}
use Rattle.isl_omega.specs.Column.{rest_at}
use Rattle.isl_piece.specs.Combine.{combination}
use Rattle.isl_omega.specs.Shadow.{ceiling, together, lower_at, upper_at, real_row, IsRealRow, IsDarkRow, IsExact}
use Rattle.isl_omega.specs.Sides.{IsLower, IsUpper}
use Rattle.isl_omega.proofs.ColumnLemmas.{value_at-insert}
use Rattle.isl_piece.proofs.CombineLaws.{value_at-combination, coef_at-combination, combination_formed}
use Rattle.isl_math.proofs.DivideLaws.{exact_quotient, gcd_positive}
use Rattle.isl_omega.proofs.ImageLemmas.{free_of_zero}
use Rattle.isl_omega.proofs.Pairs.{real_divided, dark_divided}

-- a row that is n times a lower bound of the factor d m, and m times an upper one of the factor d n
pub real_row_of : (g : Gauge) (columns col : ℕ) (lower upper : Row) (d m n : ℤ) (real : Row) → IsLower g columns col lower → IsUpper g columns col upper → col < columns → pos 0 <ℤ d
    → d *ℤ m ≡ coef_at lower col → d *ℤ n ≡ neg_ℤ (coef_at upper col) → real ≡ combination n lower m upper → IsRealRow columns col lower upper d real
real_row_of g columns col lower upper d m n real hl hu l above a_is b_is r =
    let a = coef_at lower col in
    let n_above : pos 0 <ℤ n = <ℤ-from_*ℤ d (pos 0) n (omega (arith, linear)) (let p = hu.factor in omega (arith, linear)) in
    let widths : length lower.coefs ≡ length upper.coefs = hl.proper.formed.width ∙ sym hu.proper.formed.width in
    let wide : col < length lower.coefs = (let w = hl.proper.formed.width in omega arith) in
    record {
      kind = ap (λ (s : Row). s.kind) r ∙ hl.kind;
      formed = rw r (combination_formed columns n lower m upper n_above hl.proper.formed hu.proper.formed.width);
      gone = ap (λ (s : Row). coef_at s col) r ∙ coef_at-combination n lower m upper col widths wide ∙ cancel d m n a (coef_at upper col) above a_is b_is;
      positive = above;
      value = λ xs.
          let whole = value_at-combination (neg_ℤ (coef_at upper col)) lower a upper xs widths in
          let value = ap (λ (s : Row). value_at s xs) r ∙ value_at-combination n lower m upper xs widths in
          times d m n a (neg_ℤ (coef_at upper col)) (value_at lower xs) (value_at upper xs) (value_at (real_row col lower upper) xs) (value_at real xs)
          a_is b_is whole value;
    }
  where
    cancel : (d m n a c : ℤ) → pos 0 <ℤ d → d *ℤ m ≡ a → d *ℤ n ≡ neg_ℤ c → n *ℤ a +ℤ m *ℤ c ≡ pos 0
    cancel d m n a c p e f =
        let e' = simp expand at (ap (λ w. n *ℤ w) e) in
        let f' = simp expand at (ap (λ w. m *ℤ w) f) in
        simp expand (omega (arith, linear))

    times : (d m n a b u v w z : ℤ) → d *ℤ m ≡ a → d *ℤ n ≡ b → w ≡ b *ℤ u +ℤ a *ℤ v → z ≡ n *ℤ u +ℤ m *ℤ v → w ≡ d *ℤ z
    times d m n a b u v w z e f ew ez =
        let e' = simp expand at (ap (λ t. v *ℤ t) e) in
        let f' = simp expand at (ap (λ t. u *ℤ t) f) in
        let ew' = simp expand at ew in
        let ez' = simp expand at (ap (λ t. d *ℤ t) ez) in
        simp expand (omega (arith, linear))

-- what a pair has together is the value of its real row
pub together_is : (g : Gauge) (columns col : ℕ) (lower upper : Row) (point : List ℤ) (x : ℤ) → IsLower g columns col lower
    → IsUpper g columns col upper → col < columns → length point ≡ columns - 1
    → together (lower_at col point lower) (upper_at col point upper) ≡ value_at (real_row col lower upper) (insert point col x)
together_is g columns col lower upper point x hl hu l p =
    let xs = insert point col x in
    let widths : length lower.coefs ≡ length upper.coefs = hl.proper.formed.width ∙ sym hu.proper.formed.width in
    let at_lower = value_at-insert lower col point x (let w = hl.proper.formed.width in omega arith) (omega arith) in
    let at_upper = value_at-insert upper col point x (let w = hu.proper.formed.width in omega arith) (omega arith) in
    by (coef_at lower col) (coef_at upper col) x (rest_at lower col point) (rest_at upper col point) (value_at lower xs) (value_at upper xs)
    (value_at (real_row col lower upper) xs) at_lower at_upper
    (value_at-combination (neg_ℤ (coef_at upper col)) lower (coef_at lower col) upper xs widths)
  where
    by : (a c x f h u v w : ℤ) → u ≡ a *ℤ x +ℤ f → v ≡ c *ℤ x +ℤ h → w ≡ neg_ℤ c *ℤ u +ℤ a *ℤ v → a *ℤ h +ℤ neg_ℤ c *ℤ f ≡ w
    by a c x f h u v w eu ev ew =
        let eu' = simp expand at (ap (λ z. c *ℤ z) eu) in
        let ev' = simp expand at (ap (λ z. a *ℤ z) ev) in
        let ew' = simp expand at ew in
        simp expand (omega (arith, linear))

pub real_row_is : (g : Gauge) (columns col : ℕ) (lower upper : Row) (d m n : ℤ) (real : Row) → IsLower g columns col lower → IsUpper g columns col upper → col < columns → IsGcdOf (coef_at lower col) (neg_ℤ (coef_at upper col)) d
    → m ≡ floor_div (coef_at lower col) d → n ≡ floor_div (neg_ℤ (coef_at upper col)) d → real ≡ combination n lower m upper → IsRealRow columns col lower upper d real
real_row_is g columns col lower upper d m n real hl hu l h e f r =
    let a = coef_at lower col in
    let b = neg_ℤ (coef_at upper col) in
    let above = gcd_positive a b d (positive_not_zero a hl.factor) h in
    real_row_of g columns col lower upper d m n real hl hu l above (ap (λ w. d *ℤ w) e ∙ exact_quotient d a above h.first) (ap (λ w. d *ℤ w) f ∙ exact_quotient d b above h.second) r

-- a row that is at least 0 holds where its value is so
pub holds_at_least : (asks : RowKind) (k z : ℤ) → asks ≡ AtLeast → HoldsValue asks k z ↔ (pos 0 ≤ℤ z)
holds_at_least asks k z e = rw e ((λ h. h), (λ h. h))

-- the dark row: the real one with the slack taken off
pub dark_row_is : (g : Gauge) (columns col : ℕ) (lower upper : Row) (d : ℤ) (real dark : Row) (s : ℤ) → IsLower g columns col lower
    → IsUpper g columns col upper → col < columns → IsRealRow columns col lower upper d real → s ≡ ceiling ((coef_at lower col -ℤ pos 1) *ℤ (neg_ℤ (coef_at upper col) -ℤ pos 1)) d
    → dark ≡ record real { constant = real.constant -ℤ s } → IsDarkRow columns col lower upper dark
dark_row_is g columns col lower upper d real dark s hl hu l r e f = record {
  formed = rw f (record { width = r.formed.width; modulus = r.formed.modulus });
  free = rw f (free_of_zero real.kind real.k (coef_at real col) r.gone);
  is = λ point x n.
      let xs = insert point col x in
      let pair = dark_divided (lower_at col point lower) (upper_at col point upper) d (value_at real xs) r.positive (together_is g columns col lower upper point x hl hu l n ∙ r.value xs) in
      let value : value_at dark xs ≡ value_at real xs -ℤ s = ap (λ (t : Row). value_at t xs) f ∙ moved (dot real.coefs xs) real.constant s in
      let kind : dark.kind ≡ AtLeast = ap (λ (t : Row). t.kind) f ∙ r.kind in
      let holds = holds_at_least dark.kind dark.k (value_at dark xs) kind in (
        (λ h. pair.1 (least s (ceiling ((coef_at lower col -ℤ pos 1) *ℤ (neg_ℤ (coef_at upper col) -ℤ pos 1)) d) (value_at real xs) (value_at dark xs) e value (holds.0 h))),
        (λ h. holds.1 (most s (ceiling ((coef_at lower col -ℤ pos 1) *ℤ (neg_ℤ (coef_at upper col) -ℤ pos 1)) d) (value_at real xs) (value_at dark xs) e value (pair.0 h))),
      );
}
  where
    moved : (v c s : ℤ) → v +ℤ (c -ℤ s) ≡ v +ℤ c -ℤ s
    moved v c s = omega (arith, linear)

    least : (s t v w : ℤ) → s ≡ t → w ≡ v -ℤ s → pos 0 ≤ℤ w → t ≤ℤ v
    least s t v w e f h = omega (arith, linear)

    most : (s t v w : ℤ) → s ≡ t → w ≡ v -ℤ s → t ≤ℤ v → pos 0 ≤ℤ w
    most s t v w e f h = omega (arith, linear)

-- a pair is exact where the dark row holds wherever the real one does
pub exact_is : (g : Gauge) (columns col : ℕ) (lower upper : Row) (d : ℤ) (real dark : Row) → IsLower g columns col lower
    → IsUpper g columns col upper → col < columns → IsRealRow columns col lower upper d real → IsDarkRow columns col lower upper dark → ((xs : List ℤ) → HoldsRow real xs → HoldsRow dark xs) → IsExact columns col lower upper
exact_is g columns col lower upper d real dark hl hu l r k t = λ point n h.
    let xs = insert point col (pos 0) in
    let pair = real_divided (lower_at col point lower) (upper_at col point upper) d (value_at real xs) r.positive (together_is g columns col lower upper point (pos 0) hl hu l n ∙ r.value xs) in
    (k.is point (pos 0) n).0 (t xs ((holds_at_least real.kind real.k (value_at real xs) r.kind).1 (pair.0 h)))
