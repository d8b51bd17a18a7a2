-- Normal rows that are difference constraints: those of one kind that stand, or hold, together have forms of their own.
use Rattle.std.proofs.Common.{◌≡◌, ◌≢◌, ◌⊎◌, inl, inr, refl, sym, ap, ◌∙◌, subst, arith, ℕ, ◌*◌, ◌<◌, ◌≤◌, ℤ, pos, ◌<ℤ◌, ◌+ℤ◌}
use Rattle.std.proofs.Common.{List, length, get_or, Bool, true, not}
use Rattle.std.specs.List.{All, filter}
use Rattle.std.proofs.lemmas.List.Elements.{All-filter, filter_passes}
use Rattle.std.proofs.lemmas.List.Filters.{length-filter_both}
use Rattle.std.proofs.lemmas.List.Kept.{AllPairs-filter}
use Rattle.isl_math.specs.Dot.{dot}
use Rattle.isl_math.specs.Gcd.{content}
use Rattle.isl_math.proofs.Ring.{linear}
use Rattle.isl_piece.specs.declared.row.RowKind.{RowKind}
use Rattle.isl_piece.specs.declared.row.RowKind.TheVariants.{Zero, AtLeast}
use Rattle.isl_piece.specs.declared.row.Row.{Row}
use Rattle.isl_piece.specs.Normal.{Kept, same_kind, normal_zero, normal_at_least, normal_form, normal_row, IsNormal}
use Rattle.isl_piece.specs.Row.{HoldsRow, HoldsValue, value_at, coef_at}
use Rattle.isl_piece.specs.System.{HoldRows}
use Rattle.isl_piece.proofs.MergeLaws.{same_kind-true}
use Rattle.isl_piece.proofs.NormalCases.{normal_zero_by, normal_at_least_by}
use Rattle.isl_ledger.specs.Difference.{IsDifferenceRow}
use Rattle.isl_ledger.specs.Work.{form_limit, row_limit}
use Rattle.isl_ledger.proofs.WorkLaws.{pairs_few}
use Rattle.isl_ledger.proofs.CountLaws.{AreWide, HaveOwnForms, forms_few, lowers_few, uppers_few}

-- ---- no normal row is a form of zeros
zero_some : (cs : List ℤ) (c : ℤ) (r : Row) → normal_zero cs c ≡ Kept r → content cs ≢ pos 0
zero_some cs c r = normal_zero_by (λ v. v ≡ Kept r → content cs ≢ pos 0) cs c (λ e f v z. cc) (λ e f v z. cc) (λ n d v z. cc) (λ n d v. n)

at_least_some : (cs : List ℤ) (c : ℤ) (r : Row) → normal_at_least cs c ≡ Kept r → content cs ≢ pos 0
at_least_some cs c r = normal_at_least_by (λ v. v ≡ Kept r → content cs ≢ pos 0) cs c (λ e f v z. cc) (λ e f v z. cc) (λ n v. n)

normal_some : (b : ℕ) (r : Row) → IsDifferenceRow b r → normal_row r ≡ Kept r → content r.coefs ≢ pos 0
normal_some b r h e = elim h.kind [
  | inl is ↦ zero_some r.coefs r.constant r (subst (λ kind. normal_form kind r.coefs r.constant r.k ≡ Kept r) is e)
  | inr is ↦ at_least_some r.coefs r.constant r (subst (λ kind. normal_form kind r.coefs r.constant r.k ≡ Kept r) is e)
]

-- ---- rows of one kind
module _ (b c : ℕ) (rows : List Row) (normal : IsNormal rows) (wide : AreWide c rows) (differences : All (IsDifferenceRow b) rows)
    (p : Row → Bool) where
  some_forms : All (λ r. content r.coefs ≢ pos 0) (filter p rows)
  some_forms = All-filter p (λ r. content r.coefs ≢ pos 0) rows (λ k d l.
      normal_some b (get_or rows k d) (differences k d l) (normal.settled k d l))

  kept_wide : AreWide c (filter p rows)
  kept_wide = All-filter p (λ r. length r.coefs ≡ c) rows wide

  kept_differences : All (IsDifferenceRow b) (filter p rows)
  kept_differences = All-filter p (IsDifferenceRow b) rows differences

  -- bounds
  own_bounds : All (λ r. r.kind ≡ AtLeast) (filter p rows) → HaveOwnForms (filter p rows)
  own_bounds bounds i j d l k =
      AllPairs-filter (λ r s. r.kind ≡ AtLeast → s.kind ≡ AtLeast → r.coefs ≢ s.coefs) p rows normal.undominated i j d l k
      (bounds i d (omega arith)) (bounds j d k)

  pub bounds_few : All (λ r. r.kind ≡ AtLeast) (filter p rows) → length (filter p rows) ≤ form_limit c
  bounds_few bounds = forms_few b c (filter p rows) kept_wide kept_differences some_forms (own_bounds bounds)

  pub lower_bounds_few : (x : ℕ) → x < c → All (λ r. r.kind ≡ AtLeast) (filter p rows) → All (λ r. pos 0 <ℤ coef_at r x) (filter p rows)
      → length (filter p rows) ≤ c
  lower_bounds_few x inside bounds lower = lowers_few b c x (filter p rows) inside kept_wide kept_differences (own_bounds bounds) lower

  pub upper_bounds_few : (x : ℕ) → x < c → All (λ r. r.kind ≡ AtLeast) (filter p rows) → All (λ r. coef_at r x <ℤ pos 0) (filter p rows)
      → length (filter p rows) ≤ c
  upper_bounds_few x inside bounds upper = uppers_few b c x (filter p rows) inside kept_wide kept_differences (own_bounds bounds) upper

  -- equalities that hold together: those of one form have one constant
  own_equalities : (xs : List ℤ) → HoldRows (filter p rows) xs → All (λ r. r.kind ≡ Zero) (filter p rows) → HaveOwnForms (filter p rows)
  own_equalities xs hold equalities i j d l k e =
      let first = get_or (filter p rows) i d in
      let second = get_or (filter p rows) j d in
      let within : i < length (filter p rows) = omega arith in
      let one = equalities i d within in
      let two = equalities j d k in
      let zero_first : value_at first xs ≡ pos 0 = subst (λ kind. HoldsValue kind first.k (value_at first xs)) one (hold i d within) in
      let zero_second : value_at second xs ≡ pos 0 = subst (λ kind. HoldsValue kind second.k (value_at second xs)) two (hold j d k) in
      let same : dot first.coefs xs ≡ dot second.coefs xs = ap (λ cs. dot cs xs) e in
      AllPairs-filter (λ r s. r ≢ s) p rows normal.distinct i j d l k
      (row_is first.kind second.kind first.coefs second.coefs first.constant second.constant first.k second.k (one ∙ sym two) e
      (constants (dot first.coefs xs) (dot second.coefs xs) first.constant second.constant same zero_first zero_second)
      ((kept_differences i d within).modulus ∙ sym (kept_differences j d k).modulus))
    where
      constants : (u v c e : ℤ) → u ≡ v → u +ℤ c ≡ pos 0 → v +ℤ e ≡ pos 0 → c ≡ e
      constants u v c e same f g = omega (arith, linear)

      row_is : (kind other : RowKind) (cs ds : List ℤ) (c d k l : ℤ) → kind ≡ other → cs ≡ ds → c ≡ d → k ≡ l
          → (let r : Row = record { kind = kind; coefs = cs; constant = c; k = k } in r)
          ≡ (let s : Row = record { kind = other; coefs = ds; constant = d; k = l } in s)
      row_is kind other cs ds c d k l e f g h = cc

  pub equalities_few : (xs : List ℤ) → HoldRows (filter p rows) xs → All (λ r. r.kind ≡ Zero) (filter p rows)
      → length (filter p rows) ≤ form_limit c
  equalities_few xs hold equalities =
      forms_few b c (filter p rows) kept_wide kept_differences some_forms (own_equalities xs hold equalities)

-- the pairs of a lower and an upper bound on a column, by whatever tests these are found
pub column_pairs_few : (b c x : ℕ) (rows : List Row) (p q : Row → Bool) → x < c → IsNormal rows → AreWide c rows
    → All (IsDifferenceRow b) rows → All (λ r. (r.kind ≡ AtLeast) × (pos 0 <ℤ coef_at r x)) (filter p rows)
    → All (λ r. (r.kind ≡ AtLeast) × (coef_at r x <ℤ pos 0)) (filter q rows)
    → length (filter p rows) * length (filter q rows) ≤ c * c
column_pairs_few b c x rows p q inside normal wide differences lower upper = pairs_few c (length (filter p rows)) (length (filter q rows))
    (lower_bounds_few b c rows normal wide differences p x inside (λ k d l. (lower k d l).0) (λ k d l. (lower k d l).1))
    (upper_bounds_few b c rows normal wide differences q x inside (λ k d l. (upper k d l).0) (λ k d l. (upper k d l).1))

-- ---- all rows
is_bound : Row → Bool
is_bound r = same_kind r.kind AtLeast

is_equality : Row → Bool
is_equality r = not (is_bound r)

-- normal difference constraints that hold together are fewer than the limit
pub rows_few : (b c : ℕ) (rows : List Row) (xs : List ℤ) → IsNormal rows → AreWide c rows → All (IsDifferenceRow b) rows → HoldRows rows xs
    → length rows < row_limit c
unfolding is_equality is_bound
rows_few b c rows xs normal wide differences hold =
    let bounds = bounds_few b c rows normal wide differences is_bound are_bounds in
    let together = All-filter is_equality (λ r. HoldsRow r xs) rows hold in
    let equalities = equalities_few b c rows normal wide differences is_equality xs together are_equalities in
    let both = length-filter_both is_bound is_equality (λ r. other r) rows in
    omega arith
  where
    other : (r : Row) → is_equality r ≡ not (is_bound r)
    other r = refl

    are_bounds : All (λ r. r.kind ≡ AtLeast) (filter is_bound rows)
    are_bounds k d l = same_kind-true (get_or (filter is_bound rows) k d).kind AtLeast (filter_passes is_bound rows k d l)

    are_equalities : All (λ r. r.kind ≡ Zero) (filter is_equality rows)
    are_equalities k d l =
        let r = get_or (filter is_equality rows) k d in
        by r.kind (All-filter is_equality (IsDifferenceRow b) rows differences k d l).kind (filter_passes is_equality rows k d l)
      where
        by : (kind : RowKind) → (kind ≡ Zero) ⊎ (kind ≡ AtLeast) → not (same_kind kind AtLeast) ≡ true → kind ≡ Zero
        by kind (inl e) t = e
        by kind (inr e) t = absurd (let f = rw e at t in cc)
