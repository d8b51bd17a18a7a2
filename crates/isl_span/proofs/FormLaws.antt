-- Equations as forms, divided and exchanged.
use Rattle.std.proofs.Common.{◌≡◌, ◌≢◌, ◌∙◌, sym, ap, subst, arith, ℕ, ℤ, pos, neg_ℤ, ◌+ℤ◌, ◌-ℤ◌, ◌*ℤ◌, ◌-◌, ◌^◌, List, length}
use Rattle.std.specs.List.{All}
use Rattle.std.proofs.lemmas.List.Elements.{All-weaker}
use Rattle.isl_math.specs.Divide as divide
use Rattle.isl_math.specs.Divide.{floor_div}
use Rattle.isl_math.specs.Dot.{dot, scaled}
use Rattle.isl_math.specs.Gcd.{content}
use Rattle.isl_math.specs.Order.{sign_of}
use Rattle.isl_math.proofs.ColumnLaws.{length-weighted_sum}
use Rattle.isl_math.proofs.DivideLaws.{exact_quotient}
use Rattle.isl_math.proofs.DotLaws.{dot-scaled}
use Rattle.isl_math.proofs.GcdLaws.{IsContentOf-content}
use Rattle.isl_math.proofs.Ring.{expand, linear}
use Rattle.isl_meter.specs.Gauge.{Gauge}
use Rattle.isl_piece.specs.declared.row.RowKind.{RowKind}
use Rattle.isl_piece.specs.declared.row.RowKind.TheVariants.{Zero}
use Rattle.isl_piece.specs.declared.row.Row.{Row}
use Rattle.isl_piece.specs.declared.reduction.Outcome.{Outcome}
use Rattle.isl_piece.specs.declared.reduction.Outcome.TheVariants.{Holds, Fails, Stays}
use Rattle.isl_piece.specs.Combine.{combination, scaled_divisor}
use Rattle.isl_piece.specs.Normal.{Always, Kept, Never, Verdict, normal_form, normal_row, upright}
use Rattle.isl_piece.specs.Numbers.{divided, lead}
use Rattle.isl_piece.specs.Outcome.{Settles}
use Rattle.isl_piece.specs.Row.{HasModulus, IsRowUpTo, IsRowWithin, IsWellFormed, value_at}
use Rattle.isl_piece.proofs.CombineLaws.{value_at-combination}
use Rattle.isl_piece.proofs.ContentLaws.{content-divided, lead_not_zero, sign_squared}
use Rattle.isl_piece.proofs.NormalCases.{content_positive, normal_zero-kept}
use Rattle.isl_piece.proofs.NumberLaws.{Divides-dot, dot-divided}
use Rattle.isl_piece.proofs.RowMagnitudes.{row_within_kept, up_to_limit, within_limit}
use Rattle.isl_piece.proofs.SettledLaws.{normal_row_settled}
use Rattle.isl_piece.proofs.ShapeLaws.{IfKept, normal_row_up_to, normal_row_well_formed}
use Rattle.isl_span.specs.Forms.{AreToldApart, IsContingentForm, IsExchanged, IsForm}
use Rattle.isl_span.specs.Spanned.{IsMultipleOf, exchanged}
use Rattle.isl_span.proofs.SpannedLaws.{no_zero_product}

-- ---- divided
module _ (r : Row) (is : r.kind ≡ Zero) (c : IsContingentForm r) where
  abbrev cs : List ℤ
  cs = r.coefs

  abbrev g : ℤ
  g = content r.coefs

  abbrev ds : List ℤ
  ds = divided (content r.coefs) r.coefs

  abbrev q : ℤ
  q = floor_div r.constant (content r.coefs)

  abbrev s : ℤ
  s = sign_of (lead (divided (content r.coefs) r.coefs))

  common : (x : List ℤ) → divide.Divides g (dot cs x)
  common x = Divides-dot g cs x (IsContentOf-content cs).common

  -- the form differs at two points
  some : g ≢ pos 0
  some zero = by (dot cs c.zero) (dot cs c.other) r.constant (nothing c.zero) (nothing c.other) c.is_zero c.is_other
    where
      nothing : (x : List ℤ) → dot cs x ≡ pos 0
      nothing x = let d = common x in d.is ∙ ap (λ w. w *ℤ d.quotient) zero ∙ none d.quotient
        where
          none : (w : ℤ) → pos 0 *ℤ w ≡ pos 0
          none w = simp expand (omega (arith, linear))

      by : (u v k : ℤ) → u ≡ pos 0 → v ≡ pos 0 → u +ℤ k ≡ pos 0 → v +ℤ k ≢ pos 0 → ⊥
      by u v k e f z o = o (omega (arith, linear))

  -- the content of its columns divides the constant
  whole : divide.Divides g r.constant
  whole = let d = common c.zero in record { quotient = neg_ℤ d.quotient; is = by (dot cs c.zero) r.constant g d.quotient d.is c.is_zero }
    where
      by : (v k h w : ℤ) → v ≡ h *ℤ w → v +ℤ k ≡ pos 0 → k ≡ h *ℤ neg_ℤ w
      by v k h w e z = let m = simp expand at e in simp expand (omega (arith, linear, m, z))

  kept : normal_row r ≡ Kept (upright ds q)
  kept = ap (λ (kind : RowKind). normal_form kind r.coefs r.constant r.k) is ∙ normal_zero-kept cs r.constant some whole

  upright_multiple : IsMultipleOf (value_at r) (value_at (upright ds q))
  upright_multiple =
      let one = content-divided cs some in
      let lead_some = lead_not_zero ds (λ z. not_both (content ds) one z) in
      let square = sign_squared (lead ds) lead_some in
      let positive = content_positive cs some in
      record {
        factor = g *ℤ s;
        nonzero = no_zero_product g s some (sign_some s square);
        is = λ x. by g s (dot ds x) q (dot cs x) r.constant (dot (scaled s ds) x) square
            (dot-divided g cs x positive (IsContentOf-content cs).common)
            (exact_quotient g r.constant positive whole) (dot-scaled s ds x);
      }
    where
      not_both : (z : ℤ) → z ≡ pos 1 → z ≡ pos 0 → ⊥
      not_both z e f = omega (arith, linear)

      sign_some : (z : ℤ) → z *ℤ z ≡ pos 1 → z ≢ pos 0
      sign_some z e f = let m = simp expand at (ap (λ w. z *ℤ w) f) in omega (arith, linear)

      by : (g s d q v k t : ℤ) → s *ℤ s ≡ pos 1 → g *ℤ d ≡ v → g *ℤ q ≡ k → t ≡ s *ℤ d → v +ℤ k ≡ g *ℤ s *ℤ (t +ℤ s *ℤ q)
      by g s d q v k t one e f h =
          let m = simp expand at (ap (λ w. w *ℤ (g *ℤ d)) one) in
          let n = simp expand at (ap (λ w. w *ℤ (g *ℤ q)) one) in
          let p = simp expand at (ap (λ w. g *ℤ s *ℤ w) h) in
          let e' = simp expand at e in
          let f' = simp expand at f in
          simp expand (omega (arith, linear, m, n, p, e', f'))

-- what the divided equation is
module _ (r new : Row) (is : r.kind ≡ Zero) (c : IsContingentForm r) (settled : normal_row r ≡ Kept new) where
  new_is : new ≡ upright (divided (content r.coefs) r.coefs) (floor_div r.constant (content r.coefs))
  new_is = kept_inside new _ (sym settled ∙ kept r is c)
    where
      kept_of : Row → Verdict → Row
      kept_of d Always = d
      kept_of d Never = d
      kept_of d (Kept a) = a

      kept_inside : (a b : Row) → Kept a ≡ Kept b → a ≡ b
      kept_inside a b e = ap (kept_of a) e

  pub divided_multiple : IsMultipleOf (value_at r) (value_at new)
  divided_multiple = subst (λ (n : Row). IsMultipleOf (value_at r) (value_at n)) (sym new_is) (upright_multiple r is c)

  pub divided_form : (g : Gauge) (columns : ℕ) → IsWellFormed columns r → IsRowWithin g r → IsForm g columns new
  divided_form g columns formed within = record {
    kind = ap (λ (n : Row). n.kind) new_is;
    formed = subst (IfKept (IsWellFormed columns)) settled (normal_row_well_formed columns r formed);
    within = within_limit g new (subst (IfKept (IsRowUpTo (2 ^ g.bits - 1))) settled
        (normal_row_up_to (2 ^ g.bits - 1) r formed.modulus (up_to_limit g r within)));
    normal = subst (IfKept (λ (n : Row). normal_row n ≡ Kept n)) settled (normal_row_settled r formed.modulus);
  }

-- what settling such an equation leaves
pub settled_kept : (r new : Row) → r.kind ≡ Zero → IsContingentForm r → (o : Outcome) → Settles o new (normal_row r)
    → normal_row r ≡ Kept new
settled_kept r new is c Holds e = absurd (always_kept _ (sym e ∙ kept r is c))
  where
    always_kept : (a : Row) → Always ≡ Kept a → ⊥
    always_kept a e = cc
settled_kept r new is c Fails e = absurd (never_kept _ (sym e ∙ kept r is c))
  where
    never_kept : (a : Row) → Never ≡ Kept a → ⊥
    never_kept a e = cc
settled_kept r new is c Stays e = e

-- ---- exchanged
module _ (form other : Row) (q : List ℤ) where
  -- a form that is 0 at the point stays
  pub same_multiple : value_at other q ≢ pos 0 → value_at form q ≡ pos 0
      → IsMultipleOf (exchanged (value_at other) q (value_at form)) (value_at form)
  same_multiple nonzero zero = record {
    factor = value_at other q;
    nonzero = nonzero;
    is = λ x. by (value_at other q) (value_at form x) (value_at form q) (value_at other x) zero;
  }
    where
      by : (a u z v : ℤ) → z ≡ pos 0 → a *ℤ u -ℤ z *ℤ v ≡ a *ℤ u
      by a u z v e = let m = simp expand at (ap (λ w. w *ℤ v) e) in simp expand (omega (arith, linear, m))

  module _ (g : Gauge) (columns : ℕ) (f : IsForm g columns form) (o : IsForm g columns other) where
    same_width : length form.coefs ≡ length other.coefs
    same_width = f.formed.width ∙ sym o.formed.width

    abbrev sum : Row
    sum = combination (value_at other q) form (neg_ℤ (value_at form q)) other

    sum_value : (x : List ℤ) → value_at sum x ≡ exchanged (value_at other) q (value_at form) x
    sum_value x = value_at-combination (value_at other q) form (neg_ℤ (value_at form q)) other x same_width
        ∙ by (value_at other q) (value_at form x) (value_at form q) (value_at other x)
      where
        by : (a u z v : ℤ) → a *ℤ u +ℤ neg_ℤ z *ℤ v ≡ a *ℤ u -ℤ z *ℤ v
        by a u z v = simp expand (omega (arith, linear))

    pub sum_modulus : scaled_divisor form.kind (value_at other q) form.k ≡ pos 1
    sum_modulus = ap (λ (kind : RowKind). scaled_divisor kind (value_at other q) form.k) f.kind
        ∙ subst (λ (kind : RowKind). HasModulus kind form.k) f.kind f.formed.modulus

    sum_formed : IsWellFormed columns sum
    sum_formed = record {
      width = length-weighted_sum (value_at other q) form.coefs (neg_ℤ (value_at form q)) other.coefs same_width ∙ f.formed.width;
      modulus = subst (λ (kind : RowKind). HasModulus kind sum.k) (sym f.kind) sum_modulus;
    }

    pub sum_contingent : value_at other q ≢ pos 0 → AreToldApart form other → IsContingentForm sum
    sum_contingent nonzero apart = record {
      zero = apart.zero;
      is_zero = sum_value apart.zero
          ∙ both (value_at other q) (value_at form apart.zero) (value_at form q) (value_at other apart.zero) apart.both.0 apart.both.1;
      other = apart.own;
      is_other = λ e. no_zero_product (value_at other q) (value_at form apart.own) nonzero apart.alone.0
          (alone (value_at other q) (value_at form apart.own) (value_at form q) (value_at other apart.own) apart.alone.1
          (sym (sum_value apart.own) ∙ e));
    }
      where
        both : (a u z v : ℤ) → u ≡ pos 0 → v ≡ pos 0 → a *ℤ u -ℤ z *ℤ v ≡ pos 0
        both a u z v e d =
            let m = simp expand at (ap (λ w. a *ℤ w) e) in
            let n = simp expand at (ap (λ w. z *ℤ w) d) in
            simp expand (omega (arith, linear, m, n))

        alone : (a u z v : ℤ) → v ≡ pos 0 → a *ℤ u -ℤ z *ℤ v ≡ pos 0 → a *ℤ u ≡ pos 0
        alone a u z v d e =
            let m = simp expand at e in
            let n = simp expand at (ap (λ w. z *ℤ w) d) in
            simp expand (omega (arith, linear, m, n))

    pub sum_exchanged : value_at other q ≢ pos 0 → AreToldApart form other → IsRowWithin g sum → (new : Row)
        → normal_row sum ≡ Kept new → IsExchanged g columns other q form new
    sum_exchanged nonzero apart within new settled =
        let c = sum_contingent nonzero apart in
        let m = divided_multiple sum new f.kind c settled in
        record {
          made = divided_form sum new f.kind c settled g columns sum_formed within;
          multiple = record { factor = m.factor; nonzero = m.nonzero; is = λ x. sym (sum_value x) ∙ m.is x };
        }

pub form_later : (g h : Gauge) (columns : ℕ) (r : Row) → h.bits ≡ g.bits → IsForm g columns r → IsForm h columns r
form_later g h columns r same f = record {
  kind = f.kind;
  formed = f.formed;
  within = row_within_kept h g r (sym same) f.within;
  normal = f.normal;
}

pub forms_later : (g h : Gauge) (columns : ℕ) (rows : List Row) → h.bits ≡ g.bits → All (IsForm g columns) rows
    → All (IsForm h columns) rows
forms_later g h columns rows same all = All-weaker (IsForm g columns) (IsForm h columns) (λ r f. form_later g h columns r same f) rows all
