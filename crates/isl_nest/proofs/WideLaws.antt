-- Normal rows with one column more, in which they have no part.
use Rattle.std.proofs.Common.{◌≡◌, ◌∙◌, refl, sym, ap, subst, arith, Bool, true, false, ℕ, zero, suc, ◌+◌, ℤ, pos, negsuc, neg_ℤ, ◌*ℤ◌}
use Rattle.std.proofs.Common.{List, [], ◌∷◌, ◌++◌, length, length-append, int_lt}
use Rattle.std.specs.Prelude.{if◌then◌else◌}
use Rattle.std.proofs.lemmas.Bool.{false≢true, true≢false}
use Rattle.std.proofs.lemmas.List.{append_cancel_right}
use Rattle.std.specs.Ordering.{int_cmp, int_eq, is_lt, ordering_then}
use Rattle.std.specs.Cmp.Lexicographic.{slice_cmp}
use Rattle.isl_math.specs.Divide.{floor_div, floor_mod}
use Rattle.isl_math.specs.Dot.{scaled}
use Rattle.isl_math.specs.Gcd.{content, euclid, gcd_of}
use Rattle.isl_math.specs.Order.{sign_of}
use Rattle.isl_math.proofs.DivideLaws.{floor_unique}
use Rattle.isl_math.proofs.Ring.{linear}
use Rattle.isl_piece.specs.declared.row.RowKind.{RowKind}
use Rattle.isl_piece.specs.declared.row.RowKind.TheVariants.{Zero, AtLeast, Divides, NotDivides}
use Rattle.isl_piece.specs.declared.row.Row.{Row}
use Rattle.isl_piece.specs.Normal.{bound, congruence, lesser, negated, normal_at_least, normal_divides, normal_form, normal_row, normal_zero}
use Rattle.isl_piece.specs.Normal.{numbers_of, opposite_row, upright, Always, Kept, Never, Verdict}
use Rattle.isl_piece.specs.Numbers.{divided, is_multiple, lead, opposite, reduced}
use Rattle.isl_piece.specs.System.{widened}

-- ---- lists with 0 behind them
zero_parts : (n : ℕ) → (pos 0 ≡ floor_div (pos 0) (pos (suc n))) × (pos 0 ≡ floor_mod (pos 0) (pos (suc n)))
zero_parts n =
    floor_unique (pos 0) (pos (suc n)) (pos 0) (pos 0) (omega (arith, linear)) (omega (arith, linear)) (omega (arith, linear))

div_zero : (k : ℤ) → floor_div (pos 0) k ≡ pos 0
div_zero (pos zero) = refl
div_zero (pos (suc n)) = sym (zero_parts n).0
div_zero (negsuc n) = ap neg_ℤ (sym (zero_parts n).0)

mod_zero : (k : ℤ) → floor_mod (pos 0) k ≡ pos 0
mod_zero (pos zero) = refl
mod_zero (pos (suc n)) = sym (zero_parts n).1
mod_zero (negsuc n) = sym (zero_parts n).1

content_wide : (cs : List ℤ) → content (cs ++ pos 0 ∷ []) ≡ content cs
unfolding gcd_of euclid
content_wide [] = refl
content_wide (c ∷ cs) = ap (gcd_of c) (content_wide cs)

divided_wide : (g : ℤ) (cs : List ℤ) → divided g (cs ++ pos 0 ∷ []) ≡ divided g cs ++ pos 0 ∷ []
divided_wide g [] = ap (λ z. z ∷ []) (div_zero g)
divided_wide g (c ∷ cs) = ap (λ ds. floor_div c g ∷ ds) (divided_wide g cs)

reduced_wide : (k : ℤ) (cs : List ℤ) → reduced k (cs ++ pos 0 ∷ []) ≡ reduced k cs ++ pos 0 ∷ []
reduced_wide k [] = ap (λ z. z ∷ []) (mod_zero k)
reduced_wide k (c ∷ cs) = ap (λ ds. floor_mod c k ∷ ds) (reduced_wide k cs)

opposite_wide : (k : ℤ) (cs : List ℤ) → opposite k (cs ++ pos 0 ∷ []) ≡ opposite k cs ++ pos 0 ∷ []
opposite_wide k [] = ap (λ z. z ∷ []) (mod_zero k)
opposite_wide k (c ∷ cs) = ap (λ ds. floor_mod (neg_ℤ c) k ∷ ds) (opposite_wide k cs)

lead_wide : (cs : List ℤ) → lead (cs ++ pos 0 ∷ []) ≡ lead cs
lead_wide [] = refl
lead_wide (c ∷ cs) = ap (λ z. if int_eq c (pos 0) then z else c) (lead_wide cs)

scaled_wide : (s : ℤ) (cs : List ℤ) → scaled s (cs ++ pos 0 ∷ []) ≡ scaled s cs ++ pos 0 ∷ []
scaled_wide s [] = ap (λ z. z ∷ []) (none s)
  where
    none : (s : ℤ) → s *ℤ pos 0 ≡ pos 0
    none s = omega (arith, linear)
scaled_wide s (c ∷ cs) = ap (λ ds. (s *ℤ c) ∷ ds) (scaled_wide s cs)

opposite_long : (k : ℤ) (cs : List ℤ) → length (opposite k cs) ≡ length cs
opposite_long k [] = refl
opposite_long k (c ∷ cs) = ap suc (opposite_long k cs)

compared_wide : (xs ys : List ℤ) (a b : ℤ) → length xs ≡ length ys
    → slice_cmp int_cmp ((xs ++ pos 0 ∷ []) ++ a ∷ []) ((ys ++ pos 0 ∷ []) ++ b ∷ []) ≡ slice_cmp int_cmp (xs ++ a ∷ []) (ys ++ b ∷ [])
compared_wide [] [] a b e = refl
compared_wide [] (y ∷ ys) a b e = absurd (omega (arith, e))
compared_wide (x ∷ xs) [] a b e = absurd (omega (arith, e))
compared_wide (x ∷ xs) (y ∷ ys) a b e = ap (ordering_then (int_cmp x y)) (compared_wide xs ys a b (omega (arith, e)))

-- ---- rows
wide : Verdict → Verdict
wide Always = Always
wide Never = Never
wide (Kept r) = Kept (widened r)

with_coefs : Row → List ℤ → Row
with_coefs r cs = record { kind = r.kind; coefs = cs; constant = r.constant; k = r.k }

upright_wide : (cs : List ℤ) (c : ℤ) → upright (cs ++ pos 0 ∷ []) c ≡ widened (upright cs c)
upright_wide cs c =
    ap (λ (z : ℤ). record { kind = Zero; coefs = scaled (sign_of z) (cs ++ pos 0 ∷ []); constant = sign_of z *ℤ c; k = pos 1 }) (lead_wide cs)
    ∙ ap (λ (ds : List ℤ). record { kind = Zero; coefs = ds; constant = sign_of (lead cs) *ℤ c; k = pos 1 })
    (scaled_wide (sign_of (lead cs)) cs)

opposite_row_wide : (r : Row) → opposite_row (widened r) ≡ widened (opposite_row r)
opposite_row_wide r =
    ap (λ (ds : List ℤ). record { kind = r.kind; coefs = ds; constant = floor_mod (neg_ℤ r.constant) r.k; k = r.k }) (opposite_wide r.k r.coefs)

lesser_wide : (r : Row) → lesser (widened r) ≡ widened (lesser r)
lesser_wide r =
    by (is_lt (slice_cmp int_cmp (numbers_of (opposite_row (widened r))) (numbers_of (widened r))))
    (is_lt (slice_cmp int_cmp (numbers_of (opposite_row r)) (numbers_of r)))
    (ap (λ (s : Row). is_lt (slice_cmp int_cmp (numbers_of s) (numbers_of (widened r)))) (opposite_row_wide r)
    ∙ ap is_lt (compared_wide (opposite r.k r.coefs) r.coefs (floor_mod (neg_ℤ r.constant) r.k) r.constant (opposite_long r.k r.coefs)))
  where
    by : (b d : Bool) → b ≡ d → (if b then opposite_row (widened r) else widened r) ≡ widened (if d then opposite_row r else r)
    by true true e = opposite_row_wide r
    by false false e = refl
    by true false e = absurd (true≢false e)
    by false true e = absurd (false≢true e)

-- ---- normal forms
zero_wide : (cs : List ℤ) (c : ℤ) → normal_zero (cs ++ pos 0 ∷ []) c ≡ wide (normal_zero cs c)
unfolding normal_zero wide
zero_wide cs c =
    rw (content_wide cs) (by (int_eq (content cs) (pos 0)) (int_eq c (pos 0)) (is_multiple (content cs) c) (floor_div c (content cs))
    (divided_wide (content cs) cs))
  where
    by : (none nought divides : Bool) (q : ℤ) → divided (content cs) (cs ++ pos 0 ∷ []) ≡ divided (content cs) cs ++ pos 0 ∷ []
        → (if none then (if nought then Always else Never)
        else (if divides then Kept (upright (divided (content cs) (cs ++ pos 0 ∷ [])) q) else Never))
        ≡ wide (if none then (if nought then Always else Never) else (if divides then Kept (upright (divided (content cs) cs) q) else Never))
    by true true divides q e = refl
    by true false divides q e = refl
    by false nought true q e = ap (λ (ds : List ℤ). Kept (upright ds q)) e ∙ ap Kept (upright_wide (divided (content cs) cs) q)
    by false nought false q e = refl

at_least_wide : (cs : List ℤ) (c : ℤ) → normal_at_least (cs ++ pos 0 ∷ []) c ≡ wide (normal_at_least cs c)
unfolding normal_at_least wide
at_least_wide cs c =
    rw (content_wide cs) (by (int_eq (content cs) (pos 0)) (int_lt c (pos 0)) (floor_div c (content cs)) (divided_wide (content cs) cs))
  where
    by : (none less : Bool) (q : ℤ) → divided (content cs) (cs ++ pos 0 ∷ []) ≡ divided (content cs) cs ++ pos 0 ∷ []
        → (if none then (if less then Never else Always) else Kept (bound (divided (content cs) (cs ++ pos 0 ∷ [])) q))
        ≡ wide (if none then (if less then Never else Always) else Kept (bound (divided (content cs) cs) q))
    by true true q e = refl
    by true false q e = refl
    by false less q e = ap (λ (ds : List ℤ). Kept (bound ds q)) e

divides_wide : (cs : List ℤ) (c k : ℤ) → normal_divides (cs ++ pos 0 ∷ []) c k ≡ wide (normal_divides cs c k)
unfolding normal_divides wide
divides_wide cs c k =
    rw (reduced_wide k cs, content_wide (reduced k cs)) (by (is_multiple (content (k ∷ reduced k cs)) (floor_mod c k))
    (int_eq (floor_div k (content (k ∷ reduced k cs))) (pos 1)) (content (k ∷ reduced k cs)) (reduced k cs))
  where
    by : (divides one : Bool) (g : ℤ) (ds : List ℤ)
        → (if divides then (if one then Always
        else Kept (lesser (congruence (divided g (ds ++ pos 0 ∷ [])) (floor_div (floor_mod c k) g) (floor_div k g)))) else Never)
        ≡ wide (if divides then (if one then Always
        else Kept (lesser (congruence (divided g ds) (floor_div (floor_mod c k) g) (floor_div k g)))) else Never)
    by true true g ds = refl
    by true false g ds =
        ap (λ (es : List ℤ). Kept (lesser (congruence es (floor_div (floor_mod c k) g) (floor_div k g)))) (divided_wide g ds)
        ∙ ap Kept (lesser_wide (congruence (divided g ds) (floor_div (floor_mod c k) g) (floor_div k g)))
    by false one g ds = refl

negated_wide : (v : Verdict) → negated (wide v) ≡ wide (negated v)
unfolding wide
negated_wide Always = refl
negated_wide Never = refl
negated_wide (Kept r) = refl

form_wide : (kind : RowKind) (cs : List ℤ) (c k : ℤ) → normal_form kind (cs ++ pos 0 ∷ []) c k ≡ wide (normal_form kind cs c k)
form_wide Zero cs c k = zero_wide cs c
form_wide AtLeast cs c k = at_least_wide cs c
form_wide Divides cs c k = divides_wide cs c k
form_wide NotDivides cs c k = ap negated (divides_wide cs c k) ∙ negated_wide (normal_divides cs c k)

-- a row is normal where it is with one column more
pub narrow_normal : (r : Row) → normal_row (widened r) ≡ Kept (widened r) → normal_row r ≡ Kept r
unfolding wide
narrow_normal r e = by (normal_row r) (sym (form_wide r.kind r.coefs r.constant r.k) ∙ e)
  where
    front_same : (xs ys : List ℤ) → xs ++ pos 0 ∷ [] ≡ ys ++ pos 0 ∷ [] → xs ≡ ys
    front_same xs ys e = append_cancel_right xs ys (pos 0 ∷ []) e

    by : (v : Verdict) → wide v ≡ Kept (widened r) → v ≡ Kept r
    by Always f = cc
    by Never f = cc
    by (Kept s) f =
        let same : widened s ≡ widened r = cc in
        let kind = ap (λ (t : Row). t.kind) same in
        let coefs = front_same s.coefs r.coefs (ap (λ (t : Row). t.coefs) same) in
        let constant = ap (λ (t : Row). t.constant) same in
        let k = ap (λ (t : Row). t.k) same in
        ap Kept (λ i. record { kind = kind i; coefs = coefs i; constant = constant i; k = k i })
