-- Rows as equations with a unit at the last column, and systems with points that differ there alone.
use Rattle.std.proofs.Common.{◌≡◌, ◌≢◌, ◌⊎◌, ◌↔◌, ◌∙◌, inl, inr, refl, sym, ap, subst, arith, ℕ, ◌+◌, ◌-◌, ◌<◌, ◌^◌}
use Rattle.std.proofs.Common.{suc, ℤ, pos, negsuc, neg_ℤ, unsigned_abs, ◌+ℤ◌, ◌-ℤ◌, ◌*ℤ◌, ◌≤ℤ◌, List}
use Rattle.std.proofs.Common.{[], ◌∷◌, length, length-set, map, get_or, set}
use Rattle.std.specs.List.{All}
use Rattle.std.proofs.lemmas.List.Elements.{All-map}
use Rattle.isl_math.specs.Dot.{dot}
use Rattle.isl_math.specs.Divide.{Divides, floor_div}
use Rattle.isl_math.specs.Gcd.{content}
use Rattle.isl_math.specs.Order.{sign_of}
use Rattle.isl_math.proofs.DivideLaws.{Divides-neg_ℤ, Divides-same, le_from_Divides, one-Divides}
use Rattle.isl_math.proofs.DotLaws.{dot-set}
use Rattle.isl_math.proofs.GcdLaws.{IsContentOf-content}
use Rattle.isl_math.proofs.ListLaws.{All-unmapped, Any-first, Any-one}
use Rattle.isl_math.proofs.Ring.{expand, linear}
use Rattle.isl_meter.specs.Gauge.{Gauge}
use Rattle.isl_piece.specs.declared.definition.Definition.{Definition}
use Rattle.isl_piece.specs.declared.row.Row.{Row}
use Rattle.isl_piece.specs.declared.row.RowKind.{RowKind}
use Rattle.isl_piece.specs.declared.row.RowKind.TheVariants.{Zero, AtLeast}
use Rattle.isl_piece.specs.declared.system.System.{System}
use Rattle.isl_piece.specs.declared.reduction.Outcome.{Outcome}
use Rattle.isl_piece.specs.declared.reduction.Outcome.TheVariants.{Holds, Fails, Stays}
use Rattle.isl_piece.specs.Definition.{with_defined}
use Rattle.isl_piece.specs.Normal.{Always, Kept, Never, Verdict, normal_row, upright}
use Rattle.isl_piece.specs.Numbers.{divided, lead}
use Rattle.isl_piece.specs.Outcome.{Settles}
use Rattle.isl_piece.specs.Row.{HasModulus, HoldsRow, HoldsValue, IsRowUpTo, IsRowWithin, IsWellFormed, coef_at, value_at}
use Rattle.isl_piece.specs.System.{HoldRows, HoldsSystem}
use Rattle.isl_ledger.proofs.ComparisonLaws.{get_or-scaled}
use Rattle.isl_piece.proofs.ContentLaws.{lead_not_zero, sign_squared, zero_cases}
use Rattle.isl_piece.proofs.NormalCases.{normal_zero-kept, normal_zero_by}
use Rattle.isl_piece.proofs.NumberLaws.{divided_one, quotient_one}
use Rattle.isl_piece.proofs.PointLaws.{HoldsVerdict, normal_row_holds}
use Rattle.isl_piece.proofs.RowMagnitudes.{up_to_limit, within_limit}
use Rattle.isl_piece.proofs.SettledLaws.{normal_row_settled}
use Rattle.isl_piece.proofs.ShapeLaws.{IfKept, normal_row_up_to, normal_row_well_formed}
use Rattle.isl_elim.specs.Sample.{IsNowhere}
use Rattle.isl_span.specs.Chain.{IsFreeAtLast, IsUnit, IsUnitForm, IsZeroOn}
use Rattle.isl_span.specs.Forms.{IsForm}
use Rattle.isl_span.specs.Moved.{moved_row}
use Rattle.isl_span.specs.Points.{IsPoint}
use Rattle.isl_span.proofs.EndLaws.{equation_holds}
use Rattle.isl_span.proofs.LastLaws.{unit_cases}

-- ---- a row as an equation
abbrev pub as_equation : Row → Row
as_equation r = record { kind = Zero; coefs = r.coefs; constant = r.constant; k = r.k }

module _ (g : Gauge) (columns : ℕ) (r new : Row) (kind : (r.kind ≡ Zero) ⊎ (r.kind ≡ AtLeast)) (formed : IsWellFormed columns r)
    (within : IsRowWithin g r) (settled : normal_row (as_equation r) ≡ Kept new) where
  one : HasModulus Zero r.k
  one = elim kind [
    | inl e ↦ subst (λ (kind : RowKind). HasModulus kind r.k) e formed.modulus
    | inr e ↦ subst (λ (kind : RowKind). HasModulus kind r.k) e formed.modulus
  ]

  new_kind : new.kind ≡ Zero
  new_kind = subst (IfKept (λ (s : Row). s.kind ≡ Zero)) settled
      (normal_zero_by (IfKept (λ (s : Row). s.kind ≡ Zero)) r.coefs r.constant (λ e f. tt) (λ e f. tt) (λ e f. tt) (λ n d. refl))

  pub settled_form : IsForm g columns new
  settled_form = record {
    kind = new_kind;
    formed = subst (IfKept (IsWellFormed columns)) settled
        (normal_row_well_formed columns (as_equation r) (record { width = formed.width; modulus = one }));
    within = within_limit g new (subst (IfKept (IsRowUpTo (2 ^ g.bits - 1))) settled
        (normal_row_up_to (2 ^ g.bits - 1) (as_equation r) one
        (up_to_limit g (as_equation r) (record { coefs = within.coefs; constant = within.constant; k = within.k }))));
    normal = subst (IfKept (λ (s : Row). normal_row s ≡ Kept s)) settled (normal_row_settled (as_equation r) one);
  }

  pub settled_zero : (x : List ℤ) → value_at r x ≡ pos 0 → value_at new x ≡ pos 0
  settled_zero x zero = (equation_holds new x new_kind).0
      (subst (λ (v : Verdict). HoldsVerdict v x) settled ((normal_row_holds (as_equation r) x one).1 zero))

-- ---- what holds at no point
-- a bound that is below 1 is 0
pub tight_zero : (n : ℕ) (P : List ℤ → Type 0) (r : Row) → r.kind ≡ AtLeast → ((x : List ℤ) → P x → HoldsRow r x)
    → IsNowhere n (λ x. P x × (pos 1 ≤ℤ value_at r x)) → (x : List ℤ) → length x ≡ n → P x → value_at r x ≡ pos 0
tight_zero n P r is holds none x long at =
    by (value_at r x) (subst (λ (kind : RowKind). HoldsValue kind r.k (value_at r x)) is (holds x at)) (λ h. none x long (at, h))
  where
    by : (z : ℤ) → pos 0 ≤ℤ z → ¬ (pos 1 ≤ℤ z) → z ≡ pos 0
    by z low high = omega (arith, linear, low, high)

pub zero_on : (n : ℕ) (s : System) (r : Row) → r.kind ≡ AtLeast → ((x : List ℤ) → HoldsSystem s x → HoldsRow r x)
    → IsNowhere n (λ x. HoldsSystem s x × (pos 1 ≤ℤ value_at r x)) ↔ IsZeroOn (IsPoint n (s ∷ [])) r
zero_on n s r is holds = (
  (λ none x at. tight_zero n (HoldsSystem s) r is holds none x at.long (Any-one (λ t. HoldsSystem t x) s at.holds)),
  (λ zero x long both. not_both (value_at r x) both.1
      (zero x (record { long = long; holds = Any-first (λ t. HoldsSystem t x) s [] both.0 }))),
)
  where
    not_both : (z : ℤ) → pos 1 ≤ℤ z → z ≡ pos 0 → ⊥
    not_both z h e = omega (arith, linear, h, e)

pub equation_on : (n : ℕ) (s : System) (r : Row) → r.kind ≡ Zero → ((x : List ℤ) → HoldsSystem s x → HoldsRow r x)
    → IsZeroOn (IsPoint n (s ∷ [])) r
equation_on n s r is holds x at = (equation_holds r x is).0 (holds x (Any-one (λ t. HoldsSystem t x) s at.holds))

-- the row that says that the form is at least 1
pub above_holds : (cs : List ℤ) (c d : ℤ) (x : List ℤ) → d ≡ c -ℤ pos 1
    → HoldsRow (record { kind = AtLeast; coefs = cs; constant = d; k = pos 1 }) x ↔ (pos 1 ≤ℤ (dot cs x +ℤ c))
above_holds cs c d x is = (λ h. over (dot cs x) is h, λ h. back (dot cs x) is h)
  where
    over : (v : ℤ) → d ≡ c -ℤ pos 1 → pos 0 ≤ℤ (v +ℤ d) → pos 1 ≤ℤ (v +ℤ c)
    over v e h = omega (arith, linear, e, h)

    back : (v : ℤ) → d ≡ c -ℤ pos 1 → pos 1 ≤ℤ (v +ℤ c) → pos 0 ≤ℤ (v +ℤ d)
    back v e h = omega (arith, linear, e, h)

-- a system with that row holds nowhere where the form is below 1 at its points
pub below_one : (n m : ℕ) (s both : System) (r : Row) (d : ℤ) → n ≡ m → d ≡ r.constant -ℤ pos 1
    → ((x : List ℤ) → length x ≡ m → HoldsSystem both x
    ↔ (HoldsSystem s x × HoldsRow (let a : Row = record { kind = AtLeast; coefs = r.coefs; constant = d; k = pos 1 } in a) x))
    → IsNowhere n (HoldsSystem both) ↔ IsNowhere m (λ x. HoldsSystem s x × (pos 1 ≤ℤ value_at r x))
below_one n m s both r d wide is points = (
  (λ none x long h. none x (long ∙ sym wide) ((points x long).1 (h.0, (above_holds r.coefs r.constant d x is).1 h.1))),
  (λ none x long h.
      let p = (points x (long ∙ wide)).0 h in
      none x (long ∙ wide) (p.0, (above_holds r.coefs r.constant d x is).0 p.1)),
)

-- a point of one system, seen as one of a list
pub point_of_one : (n : ℕ) (s : System) (P : List ℤ → Type 0) → ((x : List ℤ) → length x ≡ n → HoldsSystem s x → P x)
    → (x : List ℤ) → IsPoint n (s ∷ []) x → P x
point_of_one n s P f x at = f x at.long (Any-one (λ t. HoldsSystem t x) s at.holds)

pub one_point : (n : ℕ) (s : System) (x : List ℤ) → length x ≡ n → HoldsSystem s x → IsPoint n (s ∷ []) x
one_point n s x long holds = record { long = long; holds = Any-first (λ t. HoldsSystem t x) s [] holds }

-- ---- one number more at a column
moved_value : (n : ℕ) (r : Row) (x : List ℤ) → n < length x
    → value_at (moved_row n r) x ≡ value_at r (set x n (get_or x n (pos 0) +ℤ pos 1))
moved_value n r x low =
    by (dot r.coefs x) (dot r.coefs (set x n (get_or x n (pos 0) +ℤ pos 1))) (coef_at r n) (get_or x n (pos 0))
    (dot-set r.coefs x n (get_or x n (pos 0) +ℤ pos 1) low)
  where
    by : (d e a y : ℤ) → e ≡ d +ℤ a *ℤ (y +ℤ pos 1 -ℤ y) → d +ℤ (r.constant +ℤ a) ≡ e +ℤ r.constant
    by d e a y h = let m = simp expand at h in simp expand (omega (arith, linear, m))

pub moved_hold : (n : ℕ) (rows : List Row) (x : List ℤ) → n < length x
    → HoldRows (map (moved_row n) rows) x ↔ HoldRows rows (set x n (get_or x n (pos 0) +ℤ pos 1))
moved_hold n rows x low = (
  (λ h k d inside.
      let r = get_or rows k d in
      subst (λ (z : ℤ). HoldsValue r.kind r.k z) (moved_value n r x low)
      (All-unmapped (λ o. HoldsRow o x) (moved_row n) rows h k d inside)),
  (λ h. All-map (λ o. HoldsRow o x) (moved_row n) rows (λ k d inside.
      let r = get_or rows k d in
      subst (λ (z : ℤ). HoldsValue r.kind r.k z) (sym (moved_value n r x low)) (h k d inside))),
)

pub moved_formed : (n : ℕ) (rows : List Row) → All (IsWellFormed n) rows → (m : ℕ) → All (IsWellFormed n) (map (moved_row m) rows)
moved_formed n rows all m = All-map (IsWellFormed n) (moved_row m) rows
    (λ k d low. record { width = (all k d low).width; modulus = (all k d low).modulus })

-- a system that holds where another one does, at a point and at the point with 1 added at the last column
pub free_both : (n last : ℕ) (s both moved : System) → n ≡ last + 1 → s.definitions ≡ [] → moved.definitions ≡ []
    → moved.rows ≡ map (moved_row last) s.rows
    → ((x : List ℤ) → length x ≡ last + 1 → HoldsSystem both x ↔ (HoldsSystem s x × HoldsSystem moved x))
    → (¬ IsNowhere n (HoldsSystem both)) ↔ IsFreeAtLast last (IsPoint (last + 1) (s ∷ []))
free_both n last s both moved wide plain also is points = (
  (λ some none. some (λ x long h.
      let on : length x ≡ last + 1 = long ∙ wide in
      let p = (points x on).0 h in
      none x on (one_point (last + 1) s x on p.0, one_point (last + 1) s (step x) (stepped x on) (there x on p.1)))),
  (λ free none. free (λ x long both.
      none x (long ∙ sym wide) ((points x long).1 (
        Any-one (λ t. HoldsSystem t x) s both.0.holds,
        back x long (Any-one (λ t. HoldsSystem t (step x)) s both.1.holds),
      )))),
)
  where
    step : List ℤ → List ℤ
    step x = set x last (get_or x last (pos 0) +ℤ pos 1)

    stepped : (x : List ℤ) → length x ≡ last + 1 → length (step x) ≡ last + 1
    stepped x long = length-set x last (get_or x last (pos 0) +ℤ pos 1) ∙ long

    rows_hold : (t : System) (x : List ℤ) → t.definitions ≡ [] → HoldsSystem t x → HoldRows t.rows x
    rows_hold t x e h = subst (λ (ds : List Definition). HoldRows t.rows (with_defined ds x)) e h

    hold_rows : (t : System) (x : List ℤ) → t.definitions ≡ [] → HoldRows t.rows x → HoldsSystem t x
    hold_rows t x e h = subst (λ (ds : List Definition). HoldRows t.rows (with_defined ds x)) (sym e) h

    there : (x : List ℤ) → length x ≡ last + 1 → HoldsSystem moved x → HoldsSystem s (step x)
    there x long h = hold_rows s (step x) plain ((moved_hold last s.rows x (omega (arith, long))).0
        (subst (λ (l : List Row). HoldRows l x) is (rows_hold moved x also h)))

    back : (x : List ℤ) → length x ≡ last + 1 → HoldsSystem s (step x) → HoldsSystem moved x
    back x long h = hold_rows moved x also (subst (λ (l : List Row). HoldRows l x) (sym is)
        ((moved_hold last s.rows x (omega (arith, long))).1 (rows_hold s (step x) plain h)))

-- ---- a row with a unit at the last column is such an equation
unit_content : (g c : ℤ) → pos 0 ≤ℤ g → Divides g c → IsUnit c → g ≡ pos 1
unit_content g c low d unit = elim (unit_cases c unit) [
  | inl e ↦ by g low (Divides-same g c (pos 1) e d)
  | inr e ↦ by g low (Divides-same g (neg_ℤ c) (pos 1) (ap neg_ℤ e) (Divides-neg_ℤ g c d))
]
  where
    by : (g : ℤ) → pos 0 ≤ℤ g → Divides g (pos 1) → g ≡ pos 1
    by g low d =
        let most = le_from_Divides g (pos 1) (omega (arith, linear)) d in
        elim (zero_cases g) [
          | inl e ↦ absurd (let i = d.is in let f = ap (λ w. w *ℤ d.quotient) e in omega (arith, linear, i, f))
          | inr n ↦ between g low most n
        ]
      where
        between : (g : ℤ) → pos 0 ≤ℤ g → g ≤ℤ pos 1 → g ≢ pos 0 → g ≡ pos 1
        between g low most n = omega (arith, linear, low, most, n)

module _ (r : Row) (n : ℕ) (low : n < length r.coefs) (unit : IsUnit (coef_at r n)) where
  one_content : content r.coefs ≡ pos 1
  one_content =
      let common = IsContentOf-content r.coefs in
      unit_content (content r.coefs) (coef_at r n) common.not_negative (common.common n (pos 0) low) unit

  some_content : content r.coefs ≢ pos 0
  some_content e = by (content r.coefs) one_content e
    where
      by : (z : ℤ) → z ≡ pos 1 → z ≡ pos 0 → ⊥
      by z i j = omega (arith, linear, i, j)

  kept_is : normal_row (as_equation r) ≡ Kept (upright r.coefs r.constant)
  kept_is =
      normal_zero-kept r.coefs r.constant some_content
      (Divides-one (content r.coefs) r.constant one_content)
      ∙ ap (λ (z : ℤ). Kept (upright (divided z r.coefs) (floor_div r.constant z))) one_content
      ∙ rw (divided_one r.coefs, quotient_one r.constant) refl
    where
      Divides-one : (g c : ℤ) → g ≡ pos 1 → Divides g c
      Divides-one g c e = subst (λ (z : ℤ). Divides z c) (sym e) (one-Divides c)

  upright_unit : IsUnit (coef_at (upright r.coefs r.constant) n)
  upright_unit =
      let sign = sign_of (lead r.coefs) in
      let square = sign_squared (lead r.coefs) (lead_not_zero r.coefs some_content) in
      subst IsUnit (sym (get_or-scaled sign r.coefs n)) (product sign (coef_at r n) (root sign square) unit)
    where
      root : (s : ℤ) → s *ℤ s ≡ pos 1 → IsUnit s
      root s e = unit_of s (unit_content_of s e)
        where
          unit_content_of : (s : ℤ) → s *ℤ s ≡ pos 1 → Divides s (pos 1)
          unit_content_of s e = record { quotient = s; is = sym e }

          unit_of : (s : ℤ) → Divides s (pos 1) → IsUnit s
          unit_of (pos m) d = ap unsigned_abs (unit_content (pos m) (pos 1) (omega (arith, linear)) d refl)
          unit_of (negsuc m) d =
              let e = unit_content (pos (suc m)) (pos 1) (omega (arith, linear)) (opposite m d) refl in
              ap unsigned_abs e
            where
              opposite : (m : ℕ) → Divides (negsuc m) (pos 1) → Divides (pos (suc m)) (pos 1)
              opposite m d = record { quotient = neg_ℤ d.quotient; is = by m d.quotient d.is }
                where
                  by : (m : ℕ) (q : ℤ) → pos 1 ≡ negsuc m *ℤ q → pos 1 ≡ pos (suc m) *ℤ neg_ℤ q
                  by m q e = let h = simp expand at e in simp expand (omega (arith, linear, h))

      product : (s c : ℤ) → IsUnit s → IsUnit c → IsUnit (s *ℤ c)
      product s c u v = elim (unit_cases s u) [
        | inl e ↦ subst IsUnit (sym (ap (λ w. w *ℤ c) e ∙ once c)) v
        | inr e ↦ elim (unit_cases c v) [
          | inl f ↦ subst IsUnit (sym (ap (λ w. w *ℤ c) e ∙ ap (λ w. negsuc 0 *ℤ w) f)) refl
          | inr f ↦ subst IsUnit (sym (ap (λ w. w *ℤ c) e ∙ ap (λ w. negsuc 0 *ℤ w) f)) refl
        ]
      ]
        where
          once : (c : ℤ) → pos 1 *ℤ c ≡ c
          once c = omega (arith, linear)

  -- what settling it leaves
  pub unit_stays : (o : Outcome) (new : Row) → Settles o new (normal_row (as_equation r)) → (o ≡ Stays) × IsUnit (coef_at new n)
  unit_stays Holds new e = absurd (always_kept (upright r.coefs r.constant) (sym e ∙ kept_is))
    where
      always_kept : (a : Row) → Always ≡ Kept a → ⊥
      always_kept a e = cc
  unit_stays Fails new e = absurd (never_kept (upright r.coefs r.constant) (sym e ∙ kept_is))
    where
      never_kept : (a : Row) → Never ≡ Kept a → ⊥
      never_kept a e = cc
  unit_stays Stays new e =
      let same : new ≡ upright r.coefs r.constant = kept_inside new (upright r.coefs r.constant) (sym e ∙ kept_is) in
      (refl, subst (λ (s : Row). IsUnit (coef_at s n)) (sym same) upright_unit)
    where
      kept_of : Row → Verdict → Row
      kept_of d Always = d
      kept_of d Never = d
      kept_of d (Kept a) = a

      kept_inside : (a b : Row) → Kept a ≡ Kept b → a ≡ b
      kept_inside a b e = ap (kept_of a) e

-- what settling a row with a unit at the last column leaves
pub unit_form : (g : Gauge) (last : ℕ) (r : Row) → (r.kind ≡ Zero) ⊎ (r.kind ≡ AtLeast) → IsWellFormed (last + 1) r → IsRowWithin g r
    → IsUnit (coef_at r last) → (o : Outcome) (new : Row) → Settles o new (normal_row (as_equation r)) → IsUnitForm g last r new
unit_form g last r kind formed within unit o new s =
    let low : last < length r.coefs = (let w = formed.width in omega (arith, w)) in
    let stays = unit_stays r last low unit o new s in
    let settled : normal_row (as_equation r) ≡ Kept new = subst (λ (p : Outcome). Settles p new (normal_row (as_equation r))) stays.0 s in
    record {
      form = settled_form g (last + 1) r new kind formed within settled;
      unit = stays.1;
      zero = settled_zero g (last + 1) r new kind formed within settled;
    }
