-- Sums of columns, over the variables.
use Rattle.std.proofs.Common.{◌≡◌, ◌≢◌, ◌↔◌, refl, sym, ap, ◌∙◌, subst, arith, ℕ, ◌+◌, ◌<◌, ◌≤◌, ℤ, pos, ◌+ℤ◌, ◌*ℤ◌, ◌<ℤ◌, List, length, get_or}
use Rattle.std.proofs.Common.{take, [], ◌∷◌, ◌++◌, length-append}
use Rattle.std.specs.List.{remove}
use Rattle.std.specs.Prelude.{replicate}
use Rattle.std.proofs.lemmas.List.{get_or_append_left, get_or-map, get_or_at, length-map, length-replicate, take_all}
use Rattle.isl_math.specs.Divide as divide
use Rattle.isl_math.specs.Divide.{floor_div, IsGcdOf}
use Rattle.isl_math.specs.Dot.{dot}
use Rattle.isl_math.proofs.DivideLaws.{divisor_positive, exact_quotient, le_from_Divides}
use Rattle.isl_math.proofs.DotLaws.{dot-append, dot-take_more, dot-zeros}
use Rattle.isl_math.proofs.OrderLaws.{positive-*ℤ}
use Rattle.isl_math.proofs.Ring.{expand, linear, *ℤ_assoc}
use Rattle.isl_meter.specs.Gauge.{Gauge, IsWithin}
use Rattle.isl_piece.specs.declared.row.RowKind.{RowKind}
use Rattle.isl_piece.specs.declared.row.RowKind.TheVariants.{Zero, AtLeast, Divides, NotDivides}
use Rattle.isl_piece.specs.declared.row.Row.{Row}
use Rattle.isl_piece.specs.Combine.{combination, scaled_divisor}
use Rattle.isl_piece.specs.Row.{coef_at, value_at, HasModulus, HoldsRow, HoldsValue, IsRowWithin, IsWellFormed}
use Rattle.isl_piece.specs.System.{HoldRows}
use Rattle.isl_piece.proofs.CombineLaws.{combination_formed, holds_scaled, value_at-combination}
use Rattle.isl_piece.proofs.NumberLaws.{positive-divided, quotient_one}
use Rattle.isl_frame.specs.Frame.{column_at, columns_at, IsThrough, IsThroughBehind}
use Rattle.isl_frame.proofs.SolvedLaws.{remove_long, rest_at, value_apart, without_last}
use Rattle.isl_frame.specs.Sum.{IsSum, IsSumOf, IsSumWith}
use Rattle.isl_frame.specs.declared.sum.Sum.{Sum}

-- ---- moduli
once : (kind : RowKind) (k : ℤ) → k ≡ scaled_divisor kind (pos 1) k
once Zero k = refl
once AtLeast k = refl
once Divides k = omega (arith, linear)
once NotDivides k = omega (arith, linear)

twice : (kind : RowKind) (m n k : ℤ) → scaled_divisor kind m (scaled_divisor kind n k) ≡ scaled_divisor kind (m *ℤ n) k
twice Zero m n k = refl
twice AtLeast m n k = refl
twice Divides m n k = sym (*ℤ_assoc m n k)
twice NotDivides m n k = sym (*ℤ_assoc m n k)

-- ---- nothing but a constant
pub sum_nothing : (variables : ℕ) (row : Row) (frame : List Row) (zeros : List ℤ) (sum : Sum) → zeros ≡ replicate variables (pos 0)
    → sum.row ≡ record { kind = row.kind; coefs = zeros; constant = row.constant; k = row.k } → sum.scale ≡ pos 1
    → IsSumOf variables row frame 0 sum
sum_nothing variables row frame zeros sum e is one = record {
  width = ap (λ (r : Row). length r.coefs) is ∙ ap length e ∙ length-replicate variables (pos 0);
  kind = ap (λ (r : Row). r.kind) is;
  modulus = ap (λ (r : Row). r.k) is ∙ once row.kind row.k ∙ ap (λ m. scaled_divisor row.kind m row.k) (sym one);
  forms = λ named. one;
  value = λ point h.
      let v : value_at sum.row point ≡ dot zeros point +ℤ row.constant = ap (λ (r : Row). value_at r point) is in
      let d : dot zeros point ≡ pos 0 = ap (λ cs. dot cs point) e ∙ dot-zeros variables point in
      let n = ap (λ m. m *ℤ (pos 0 +ℤ row.constant)) one in
      omega (arith, linear, v, d, n);
}

-- ---- one column more
pub sum_same : (sum : Sum) (coef : ℤ) (entry : Row) → coef ≡ pos 0 → IsSumWith sum coef entry sum
sum_same sum coef entry none = record {
  by = pos 1;
  width = refl;
  kind = refl;
  modulus = once sum.row.kind sum.row.k;
  scale = omega (arith, linear);
  form = λ named. refl;
  value = λ point z h v.
      let n = ap (λ w. w *ℤ column_at point entry) none in
      v ∙ ap (λ w. sum.scale *ℤ w) (omega (arith, linear, n));
}

added : (by scale z coef q g k x : ℤ) → g *ℤ by ≡ k → g *ℤ q ≡ scale
    → by *ℤ (scale *ℤ z) +ℤ (coef *ℤ q) *ℤ (k *ℤ x) ≡ (by *ℤ scale) *ℤ (z +ℤ coef *ℤ x)
added by scale z coef q g k x e f = rw (sym e, sym f) (simp expand (omega (arith, linear)))

module _ (g : Gauge) (sum : Sum) (is : IsSum g sum) (coef : ℤ) (entry : Row) (divides : entry.kind ≡ Divides)
    (modulus : HasModulus Divides entry.k) (width : length entry.coefs ≡ length sum.row.coefs)
    (common : ℤ) (gcd : IsGcdOf sum.scale entry.k common) where
  pub common_positive : pos 0 <ℤ common
  common_positive = divisor_positive common entry.k modulus gcd.not_negative gcd.second

  abbrev by : ℤ
  by = floor_div entry.k common

  abbrev quotient : ℤ
  quotient = floor_div sum.scale common

  by_positive : pos 0 <ℤ by
  by_positive = positive-divided common entry.k common_positive modulus gcd.second

  by_one : entry.k ≡ pos 1 → by ≡ pos 1
  by_one e =
      let few = le_from_Divides common entry.k modulus gcd.second in
      let some = common_positive in
      let one : common ≡ pos 1 = omega (arith, linear, few, some, e) in
      ap (λ k. floor_div k common) e ∙ ap (floor_div (pos 1)) one ∙ quotient_one (pos 1)

  module _ (some : coef ≢ pos 0) (new : Sum) (row : new.row ≡ combination by sum.row (coef *ℤ quotient) entry)
      (scale : new.scale ≡ by *ℤ sum.scale) where
    sum_more : IsSumWith sum coef entry new
    sum_more = record {
      by = by;
      width = ap (λ (r : Row). length r.coefs) row ∙ (combination_formed (length sum.row.coefs) by sum.row
          (coef *ℤ quotient) entry by_positive
          (record { width = refl; modulus = is.modulus }) width).width;
      kind = ap (λ (r : Row). r.kind) row;
      modulus = ap (λ (r : Row). r.k) row;
      scale = scale;
      form = λ named. by_one (named some);
      value = λ point z h v.
          let d : divide.Divides entry.k (value_at entry point) =
          subst (λ (kind : RowKind). HoldsValue kind entry.k (value_at entry point)) divides h in
          let x = exact_quotient entry.k (value_at entry point) modulus d in
          let c = value_at-combination by sum.row (coef *ℤ quotient) entry point (sym width) in
          let one = exact_quotient common entry.k common_positive gcd.second in
          let other = exact_quotient common sum.scale common_positive gcd.first in
          ap (λ (r : Row). value_at r point) row ∙ c
          ∙ ap (λ w. by *ℤ w +ℤ (coef *ℤ quotient) *ℤ value_at entry point) v
          ∙ ap (λ w. by *ℤ (sum.scale *ℤ z) +ℤ (coef *ℤ quotient) *ℤ w) (sym x)
          ∙ added by sum.scale z coef quotient common entry.k (column_at point entry) one other
          ∙ ap (λ w. w *ℤ (z +ℤ coef *ℤ column_at point entry)) (sym scale);
    }

    sum_sound : IsRowWithin g new.row → IsWithin g new.scale → IsSum g new
    sum_sound within small = record {
      modulus = subst (λ (r : Row). HasModulus r.kind r.k) (sym row) (combination_formed (length sum.row.coefs) by sum.row
          (coef *ℤ quotient)
          entry by_positive (record { width = refl; modulus = is.modulus }) width).modulus;
      within = within;
      scale = small;
      positive = subst (λ w. pos 0 <ℤ w) (sym scale) (positive-*ℤ by sum.scale by_positive is.positive);
    }

    pub sum_with : IsRowWithin g new.row → IsWithin g new.scale → IsSum g new × IsSumWith sum coef entry new
    sum_with within small = (sum_sound within small, sum_more)

-- ---- a row through a frame
module _ (variables : ℕ) (row : Row) (frame : List Row) where
  pub sum_step : (i : ℕ) (sum new : Sum) (coef : ℤ) (entry : Row) → IsSumOf variables row frame i sum → IsSumWith sum coef entry new
      → length row.coefs ≡ length frame → i < length frame → coef ≡ get_or row.coefs i (pos 0) → entry ≡ get_or frame i entry
      → IsSumOf variables row frame (i + 1) new
  sum_step i sum new coef entry so_far more long low read at = record {
    width = more.width ∙ so_far.width;
    kind = more.kind ∙ so_far.kind;
    modulus = more.modulus ∙ ap (λ kind. scaled_divisor kind more.by sum.row.k) so_far.kind
        ∙ ap (λ k. scaled_divisor row.kind more.by k) so_far.modulus ∙ twice row.kind more.by sum.scale row.k
        ∙ ap (λ m. scaled_divisor row.kind m row.k) (sym more.scale);
    forms = λ named.
        let first = so_far.forms (λ k d l. named k d (omega (arith, l))) in
        let by = more.form (λ some. ap (λ (r : Row). r.k) at ∙ named i entry (omega arith) (λ z. some (read ∙ z))) in
        more.scale ∙ ap (λ z. z *ℤ sum.scale) by ∙ ap (λ z. pos 1 *ℤ z) first;
    value = λ point h.
        let here : HoldsRow entry point = subst (λ (r : Row). HoldsRow r point) (sym at) (h i entry low) in
        let columns = columns_at frame point in
        let first = dot (take i row.coefs) (take i columns) in
        let own = get_or-map (column_at point) frame i entry (pos 0) low in
        let x : column_at point entry ≡ get_or columns i (pos 0) = ap (column_at point) at ∙ sym own in
        let wide = length-map frame (column_at point) in
        let d = dot-take_more row.coefs columns i (omega (arith, low, long)) (omega (arith, low, wide)) in
        let product : coef *ℤ column_at point entry ≡ get_or row.coefs i (pos 0) *ℤ get_or columns i (pos 0) =
        ap (λ w. w *ℤ column_at point entry) read ∙ ap (λ w. get_or row.coefs i (pos 0) *ℤ w) x in
        more.value point (first +ℤ row.constant) here (so_far.value point h)
        ∙ ap (λ w. new.scale *ℤ w) (omega (arith, linear, d, product));
  }

  pub sum_whole : (i : ℕ) (g : Gauge) (sum : Sum) → IsSum g sum → IsSumOf variables row frame i sum → length row.coefs ≡ length frame
      → length frame ≤ i → IsThrough variables row frame sum.row
  sum_whole i g sum is all long end = record {
    formed = record { width = all.width; modulus = is.modulus };
    kind = all.kind;
    points = λ point h.
        let columns = columns_at frame point in
        let wide = length-map frame (column_at point) in
        let one = take_all i row.coefs (omega (arith, end, long)) in
        let two = take_all i columns (omega (arith, end, wide)) in
        let v : value_at sum.row point ≡ sum.scale *ℤ value_at row columns = all.value point h
        ∙ ap (λ (cs : List ℤ). sum.scale *ℤ (dot cs (take i columns) +ℤ row.constant)) one
        ∙ ap (λ (xs : List ℤ). sum.scale *ℤ (dot row.coefs xs +ℤ row.constant)) two in
        let scaled = holds_scaled row.kind sum.scale row.k (value_at row columns) is.positive in
        moved sum.row.kind row.kind sum.row.k (scaled_divisor row.kind sum.scale row.k) (value_at sum.row point)
        (sum.scale *ℤ value_at row columns) (HoldsRow row columns) all.kind all.modulus v scaled;
  }
    where
      moved : (a b : RowKind) (k l v w : ℤ) (P : Type 0) → a ≡ b → k ≡ l → v ≡ w → HoldsValue b l w ↔ P → HoldsValue a k v ↔ P
      moved a b k l v w P e f h t = rw (e, f, h) t

-- ---- a row whose last column is a variable more
module _ (variables : ℕ) (row : Row) (frame : List Row) (formed : IsWellFormed (length frame + 1) row) where
  module _ (g : Gauge) (sum : Sum) (is : IsSum g sum) (front made : Row)
      (front_is : front ≡ record { kind = row.kind; coefs = remove row.coefs (length frame); constant = row.constant; k = row.k })
      (all : IsSumOf variables front frame (length frame) sum)
      (made_is : made
      ≡ record {
        kind = sum.row.kind;
        coefs = sum.row.coefs ++ (sum.scale *ℤ coef_at row (length frame)) ∷ [];
        constant = sum.row.constant;
        k = sum.row.k;
      }) where
    abbrev product : ℤ
    product = sum.scale *ℤ coef_at row (length frame)

    front_long : length front.coefs ≡ length frame
    front_long = ap (λ (r : Row). length r.coefs) front_is ∙ remove_long row.coefs (length frame) formed.width

    front_value : (point : List ℤ) → HoldRows frame point
        → value_at sum.row point ≡ sum.scale *ℤ rest_at (length frame) row (columns_at frame point)
    front_value point h =
        let columns = columns_at frame point in
        let wide = length-map frame (column_at point) in
        let long = front_long in
        let one = take_all (length frame) front.coefs (omega (arith, long)) in
        let two = take_all (length frame) columns (omega (arith, wide)) in
        all.value point h ∙ ap (λ (cs : List ℤ). sum.scale *ℤ (dot cs (take (length frame) columns) +ℤ front.constant)) one
        ∙ ap (λ (xs : List ℤ). sum.scale *ℤ (dot front.coefs xs +ℤ front.constant)) two
        ∙ ap (λ (r : Row). sum.scale *ℤ (dot r.coefs columns +ℤ r.constant)) front_is

    made_value : (point : List ℤ) (x : ℤ) → length point ≡ variables → HoldRows frame point
        → value_at made (point ++ x ∷ []) ≡ sum.scale *ℤ value_at row (columns_at frame point ++ x ∷ [])
    made_value point x long h =
        let columns = columns_at frame point in
        let wide = length-map frame (column_at point) in
        let apart = value_apart (length frame) row columns x formed wide in
        let dots = dot-append sum.row.coefs (product ∷ []) point (x ∷ []) (all.width ∙ sym long) in
        ap (λ (r : Row). value_at r (point ++ x ∷ [])) made_is
        ∙ by (dot (sum.row.coefs ++ product ∷ []) (point ++ x ∷ [])) (dot sum.row.coefs point) sum.row.constant sum.scale
        (coef_at row (length frame)) x (rest_at (length frame) row columns) dots (front_value point h)
        ∙ ap (λ v. sum.scale *ℤ v) (sym apart)
      where
        by : (w d c s l x f : ℤ) → w ≡ d +ℤ ((s *ℤ l) *ℤ x +ℤ pos 0) → d +ℤ c ≡ s *ℤ f → w +ℤ c ≡ s *ℤ (f +ℤ l *ℤ x)
        by w d c s l x f e v = let a = simp expand at e in let b = simp expand at v in simp expand (omega (arith, linear, a, b))

    pub behind_whole : IsThroughBehind variables row frame made
    behind_whole = record {
      formed = record {
        width = ap (λ (r : Row). length r.coefs) made_is ∙ length-append sum.row.coefs (product ∷ []) ∙ ap (λ n. n + 1) all.width;
        modulus = subst (λ (r : Row). HasModulus r.kind r.k) (sym made_is) is.modulus;
      };
      kind = ap (λ (r : Row). r.kind) made_is ∙ all.kind ∙ ap (λ (r : Row). r.kind) front_is;
      points = λ point x long h.
          let scaled = holds_scaled row.kind sum.scale row.k (value_at row (columns_at frame point ++ x ∷ [])) is.positive in
          moved made.kind row.kind made.k (scaled_divisor row.kind sum.scale row.k) (value_at made (point ++ x ∷ []))
          (sum.scale *ℤ value_at row (columns_at frame point ++ x ∷ [])) (HoldsRow row (columns_at frame point ++ x ∷ []))
          (ap (λ (r : Row). r.kind) made_is ∙ all.kind ∙ ap (λ (r : Row). r.kind) front_is)
          (ap (λ (r : Row). r.k) made_is ∙ all.modulus ∙ ap (λ (r : Row). scaled_divisor r.kind sum.scale r.k) front_is)
          (made_value point x long h) scaled;
      scale = sum.scale;
      positive = is.positive;
      last = ap (λ (r : Row). coef_at r variables) made_is ∙ get_or_at sum.row.coefs product [] (pos 0) variables all.width;
      forms = λ named.
          let one : sum.scale ≡ pos 1 = all.forms (λ k d l some. named k d l (λ z. some (front_coef k l ∙ z))) in
          let last = ap (λ (r : Row). coef_at r variables) made_is ∙ get_or_at sum.row.coefs product [] (pos 0) variables all.width in (
            ap (λ (r : Row). r.k) made_is ∙ all.modulus ∙ ap (λ (r : Row). scaled_divisor r.kind sum.scale r.k) front_is
                ∙ ap (λ m. scaled_divisor row.kind m row.k) one ∙ sym (once row.kind row.k),
            last ∙ ap (λ m. m *ℤ coef_at row (length frame)) one ∙ times_one (coef_at row (length frame)),
          );
    }
      where
        times_one : (c : ℤ) → pos 1 *ℤ c ≡ c
        times_one c = omega (arith, linear)

        front_coef : (k : ℕ) → k < length frame → coef_at front k ≡ coef_at row k
        front_coef k low =
            let rest = remove row.coefs (length frame) in
            let long = remove_long row.coefs (length frame) formed.width in
            ap (λ (r : Row). coef_at r k) front_is
            ∙ sym (ap (λ (cs : List ℤ). get_or cs k (pos 0)) (without_last row.coefs (length frame) formed.width)
            ∙ get_or_append_left rest (get_or row.coefs (length frame) (pos 0) ∷ []) (pos 0) k (omega (arith, low, long)))

        moved : (a b : RowKind) (k l v w : ℤ) (P : Type 0) → a ≡ b → k ≡ l → v ≡ w → HoldsValue b l w ↔ P → HoldsValue a k v ↔ P
        moved a b k l v w P e f h t = rw (e, f, h) t
