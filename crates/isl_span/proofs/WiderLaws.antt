-- Rows with the coefficient 0 at more columns: they hold at the same points, and equations stay normal.
use Rattle.std.proofs.Common.{◌≡◌, ◌↔◌, ◌∙◌, refl, sym, ap, subst, arith, Bool, true, false, ℕ, zero, suc, ◌+◌, ◌-◌, ◌≤◌}
use Rattle.std.proofs.Common.{ℤ, pos, negsuc, neg_ℤ, ◌+ℤ◌, ◌*ℤ◌, List, [], ◌∷◌, ◌++◌, length, length-append, map, get_or, replicate}
use Rattle.std.specs.Prelude.{if◌then◌else◌}
use Rattle.std.specs.List.{All}
use Rattle.std.specs.Ordering.{int_eq}
use Rattle.std.proofs.lemmas.List.{append-nil, append_assoc}
use Rattle.std.proofs.lemmas.List.Elements.{All-append, All-cons, All-map, All-nil, All-weaker}
use Rattle.isl_math.specs.Divide.{floor_div}
use Rattle.isl_math.specs.Dot.{dot, scaled}
use Rattle.isl_math.specs.Gcd.{content, euclid, gcd_of}
use Rattle.isl_math.specs.Order.{sign_of}
use Rattle.isl_math.proofs.DivideLaws.{floor_unique}
use Rattle.isl_math.proofs.ListLaws.{All-unmapped}
use Rattle.isl_math.proofs.Ring.{linear}
use Rattle.isl_meter.specs.Gauge.{Gauge, IsWithin}
use Rattle.isl_meter.proofs.LimitLemmas.{IsWithin-zero}
use Rattle.isl_piece.specs.declared.row.RowKind.{RowKind}
use Rattle.isl_piece.specs.declared.row.RowKind.TheVariants.{Zero}
use Rattle.isl_piece.specs.declared.row.Row.{Row}
use Rattle.isl_piece.specs.Normal.{normal_form, normal_row, normal_zero, upright, Always, Kept, Never, Verdict}
use Rattle.isl_piece.specs.Numbers.{divided, is_multiple, lead}
use Rattle.isl_piece.specs.Row.{HoldsRow, HoldsValue, value_at}
use Rattle.isl_piece.specs.System.{HoldRows, widened}
use Rattle.isl_span.specs.Chain.{padded}
use Rattle.isl_span.specs.Forms.{IsForm}

-- ---- one column more
pub dot_wide : (cs xs : List ℤ) → dot (cs ++ pos 0 ∷ []) xs ≡ dot cs xs
dot_wide [] [] = refl
dot_wide [] (x ∷ xs) = by x
  where
    by : (x : ℤ) → pos 0 *ℤ x +ℤ pos 0 ≡ pos 0
    by x = omega (arith, linear)
dot_wide (c ∷ cs) [] = refl
dot_wide (c ∷ cs) (x ∷ xs) = ap (λ z. c *ℤ x +ℤ z) (dot_wide cs xs)

pub value_widened : (r : Row) (x : List ℤ) → value_at (widened r) x ≡ value_at r x
value_widened r x = ap (λ z. z +ℤ r.constant) (dot_wide r.coefs x)

zero_parts : (n : ℕ) → pos 0 ≡ floor_div (pos 0) (pos (suc n))
zero_parts n =
    (floor_unique (pos 0) (pos (suc n)) (pos 0) (pos 0) (omega (arith, linear)) (omega (arith, linear)) (omega (arith, linear))).0

div_zero : (k : ℤ) → floor_div (pos 0) k ≡ pos 0
div_zero (pos zero) = refl
div_zero (pos (suc n)) = sym (zero_parts n)
div_zero (negsuc n) = ap neg_ℤ (sym (zero_parts n))

content_wide : (cs : List ℤ) → content (cs ++ pos 0 ∷ []) ≡ content cs
unfolding gcd_of euclid
content_wide [] = refl
content_wide (c ∷ cs) = ap (gcd_of c) (content_wide cs)

divided_wide : (g : ℤ) (cs : List ℤ) → divided g (cs ++ pos 0 ∷ []) ≡ divided g cs ++ pos 0 ∷ []
divided_wide g [] = ap (λ z. z ∷ []) (div_zero g)
divided_wide g (c ∷ cs) = ap (λ ds. floor_div c g ∷ ds) (divided_wide g cs)

lead_wide : (cs : List ℤ) → lead (cs ++ pos 0 ∷ []) ≡ lead cs
lead_wide [] = refl
lead_wide (c ∷ cs) = ap (λ z. if int_eq c (pos 0) then z else c) (lead_wide cs)

scaled_wide : (s : ℤ) (cs : List ℤ) → scaled s (cs ++ pos 0 ∷ []) ≡ scaled s cs ++ pos 0 ∷ []
scaled_wide s [] = ap (λ z. z ∷ []) (none s)
  where
    none : (s : ℤ) → s *ℤ pos 0 ≡ pos 0
    none s = omega (arith, linear)
scaled_wide s (c ∷ cs) = ap (λ ds. (s *ℤ c) ∷ ds) (scaled_wide s cs)

upright_wide : (cs : List ℤ) (c : ℤ) → upright (cs ++ pos 0 ∷ []) c ≡ widened (upright cs c)
upright_wide cs c =
    ap (λ (z : ℤ). record { kind = Zero; coefs = scaled (sign_of z) (cs ++ pos 0 ∷ []); constant = sign_of z *ℤ c; k = pos 1 })
    (lead_wide cs)
    ∙ ap (λ (ds : List ℤ). record { kind = Zero; coefs = ds; constant = sign_of (lead cs) *ℤ c; k = pos 1 })
    (scaled_wide (sign_of (lead cs)) cs)

wide : Verdict → Verdict
wide Always = Always
wide Never = Never
wide (Kept r) = Kept (widened r)

zero_wide : (cs : List ℤ) (c : ℤ) → normal_zero (cs ++ pos 0 ∷ []) c ≡ wide (normal_zero cs c)
unfolding normal_zero wide
zero_wide cs c =
    rw (content_wide cs) (by (int_eq (content cs) (pos 0)) (int_eq c (pos 0)) (is_multiple (content cs) c) (floor_div c (content cs))
    (divided_wide (content cs) cs))
  where
    by : (none nought divides : Bool) (q : ℤ) → divided (content cs) (cs ++ pos 0 ∷ []) ≡ divided (content cs) cs ++ pos 0 ∷ []
        → (if none then (if nought then Always else Never)
        else (if divides then Kept (upright (divided (content cs) (cs ++ pos 0 ∷ [])) q) else Never))
        ≡ wide (if none then (if nought then Always else Never)
        else (if divides then Kept (upright (divided (content cs) cs) q) else Never))
    by true true divides q e = refl
    by true false divides q e = refl
    by false nought true q e = ap (λ (ds : List ℤ). Kept (upright ds q)) e ∙ ap Kept (upright_wide (divided (content cs) cs) q)
    by false nought false q e = refl

normal_widened : (r : Row) → r.kind ≡ Zero → normal_row r ≡ Kept r → normal_row (widened r) ≡ Kept (widened r)
unfolding wide
normal_widened r is settled =
    of_kind (r.coefs ++ pos 0 ∷ []) ∙ zero_wide r.coefs r.constant ∙ ap wide (sym (of_kind r.coefs) ∙ settled)
  where
    of_kind : (cs : List ℤ) → normal_form r.kind cs r.constant r.k ≡ normal_zero cs r.constant
    of_kind cs = ap (λ (kind : RowKind). normal_form kind cs r.constant r.k) is

form_widened : (g : Gauge) (n : ℕ) (r : Row) → IsForm g n r → IsForm g (n + 1) (widened r)
form_widened g n r f = record {
  kind = f.kind;
  formed = record { width = length-append r.coefs (pos 0 ∷ []) ∙ ap (λ m. m + 1) f.formed.width; modulus = f.formed.modulus };
  within = record {
    coefs = All-append (IsWithin g) r.coefs (pos 0 ∷ []) f.within.coefs
        (All-cons (IsWithin g) (pos 0) [] (IsWithin-zero g) (All-nil (IsWithin g)));
    constant = f.within.constant;
    k = f.within.k;
  };
  normal = normal_widened r f.kind f.normal;
}

-- ---- more columns
-- the row with the coefficient 0 at so many columns more
abbrev wider : ℕ → Row → Row
wider zero r = r
wider (suc more) r = wider more (widened r)

holds_wider : (more : ℕ) (r : Row) (x : List ℤ) → HoldsRow (wider more r) x ↔ HoldsRow r x
holds_wider zero r x = (λ h. h, λ h. h)
holds_wider (suc more) r x =
    let all = holds_wider more (widened r) x in (
      (λ h. subst (λ (z : ℤ). HoldsValue r.kind r.k z) (value_widened r x) (all.0 h)),
      (λ h. all.1 (subst (λ (z : ℤ). HoldsValue r.kind r.k z) (sym (value_widened r x)) h)),
    )

form_wider : (g : Gauge) (n more : ℕ) (r : Row) → IsForm g n r → IsForm g (n + more) (wider more r)
form_wider g n zero r f = subst (λ m. IsForm g m r) (omega arith) f
form_wider g n (suc more) r f =
    subst (λ m. IsForm g m (wider more (widened r))) (omega arith) (form_wider g (n + 1) more (widened r) (form_widened g n r f))

wider_again : (j k : ℕ) (r : Row) → wider j (wider k r) ≡ wider (k + j) r
wider_again j zero r = let e : j ≡ 0 + j = omega arith in ap (λ n. wider n r) e
wider_again j (suc k) r =
    let e : suc (k + j) ≡ suc k + j = omega arith in wider_again j k (widened r) ∙ ap (λ n. wider n r) e

length_wider : (more : ℕ) (r : Row) → length (wider more r).coefs ≡ length r.coefs + more
length_wider zero r = omega arith
length_wider (suc more) r =
    let e = length_wider more (widened r) in let l = length-append r.coefs (pos 0 ∷ []) in omega (arith, e, l)

-- ---- so many columns in all
abbrev with_coefs : Row → List ℤ → Row
with_coefs r cs = record { kind = r.kind; coefs = cs; constant = r.constant; k = r.k }

wider_is : (more : ℕ) (r : Row) → with_coefs r (r.coefs ++ replicate more (pos 0)) ≡ wider more r
wider_is zero r = ap (λ (cs : List ℤ). with_coefs r cs) (append-nil r.coefs)
wider_is (suc more) r =
    ap (λ (cs : List ℤ). with_coefs r cs) (sym (append_assoc r.coefs (pos 0 ∷ []) (replicate more (pos 0)))) ∙ wider_is more (widened r)

padded_is : (m : ℕ) (r : Row) → padded m r ≡ wider (m - length r.coefs) r
padded_is m r = wider_is (m - length r.coefs) r

pub padded_form : (g : Gauge) (n m : ℕ) (r : Row) → n ≤ m → IsForm g n r → IsForm g m (padded m r)
padded_form g n m r room f =
    let wide : IsForm g m (wider (m - length r.coefs) r) = subst (λ (k : ℕ). IsForm g k (wider (m - length r.coefs) r))
    (let l = f.formed.width in omega arith) (form_wider g n (m - length r.coefs) r f) in
    subst (λ (s : Row). IsForm g m s) (sym (padded_is m r)) wide

pub padded_forms : (g : Gauge) (n m : ℕ) (rows : List Row) → n ≤ m → All (IsForm g n) rows → All (IsForm g m) (map (padded m) rows)
padded_forms g n m rows room all =
    All-map (IsForm g m) (padded m) rows
    (All-weaker (IsForm g n) (λ r. IsForm g m (padded m r)) (λ r f. padded_form g n m r room f) rows all)

pub holds_padded : (m : ℕ) (r : Row) (x : List ℤ) → HoldsRow (padded m r) x ↔ HoldsRow r x
holds_padded m r x =
    subst (λ (s : Row). HoldsRow s x ↔ HoldsRow r x) (sym (padded_is m r)) (holds_wider (m - length r.coefs) r x)

pub hold_padded : (m : ℕ) (rows : List Row) (x : List ℤ) → HoldRows (map (padded m) rows) x ↔ HoldRows rows x
hold_padded m rows x = (
  (λ h k d low. (holds_padded m (get_or rows k d) x).0 (All-unmapped (λ r. HoldsRow r x) (padded m) rows h k d low)),
  (λ h. All-map (λ r. HoldsRow r x) (padded m) rows (λ k d low. (holds_padded m (get_or rows k d) x).1 (h k d low))),
)

pub padded_own : (m : ℕ) (r : Row) → m ≤ length r.coefs → padded m r ≡ r
padded_own m r over = padded_is m r ∙ ap (λ k. wider k r) (let e : m - length r.coefs ≡ 0 = omega arith in e)

pub padded_again : (m n : ℕ) (r : Row) → length r.coefs ≤ n → n ≤ m → padded m (padded n r) ≡ padded m r
padded_again m n r short room =
    let wide : Row = wider (n - length r.coefs) r in
    let l : length wide.coefs ≡ length r.coefs + (n - length r.coefs) = length_wider (n - length r.coefs) r in
    let e : n - length r.coefs + (m - length wide.coefs) ≡ m - length r.coefs = omega (arith, l) in
    let again : wider (m - length wide.coefs) wide ≡ wider (m - length r.coefs) r =
    wider_again (m - length wide.coefs) (n - length r.coefs) r ∙ ap (λ k. wider k r) e in
    ap (λ (s : Row). padded m s) (padded_is n r) ∙ padded_is m wide ∙ again ∙ sym (padded_is m r)

pub padded_all_again : (g : Gauge) (k m n : ℕ) (rows : List Row) → k ≤ n → n ≤ m → All (IsForm g k) rows
    → map (padded m) (map (padded n) rows) ≡ map (padded m) rows
padded_all_again g k m n [] short room all = refl
padded_all_again g k m n (r ∷ rows) short room all =
    ap (λ (s : Row). s ∷ map (padded m) (map (padded n) rows))
    (padded_again m n r (let l = (all 0 r (omega arith)).formed.width in omega arith) room)
    ∙ ap (λ (l : List Row). padded m r ∷ l) (padded_all_again g k m n rows short room (λ i d low. all (suc i) d (omega arith)))

pub padded_all_own : (g : Gauge) (m : ℕ) (rows : List Row) → All (IsForm g m) rows → map (padded m) rows ≡ rows
padded_all_own g m [] all = refl
padded_all_own g m (r ∷ rows) all =
    ap (λ (s : Row). s ∷ map (padded m) rows) (padded_own m r (let l = (all 0 r (omega arith)).formed.width in omega arith))
    ∙ ap (λ (l : List Row). r ∷ l) (padded_all_own g m rows (λ i d low. all (suc i) d (omega arith)))
