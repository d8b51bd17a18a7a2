-- Columns that a row gives by those before them.
use Rattle.std.proofs.Common.{◌≡◌, ◌⊎◌, inl, inr, refl, sym, ap, ◌∙◌, subst, arith, ℕ, zero, suc, ◌+◌, ◌-◌, ◌≤◌, ◌<◌, ℤ, pos, negsuc}
use Rattle.std.proofs.Common.{◌+ℤ◌, ◌*ℤ◌, List, [], ◌∷◌, ◌++◌, append-nil, append_assoc, All, length, get_or, take, drop}
use Rattle.std.proofs.lemmas.List.{length-take-le, take_more}
use Rattle.std.proofs.lemmas.List.Elements.{All-cons, All-nil, All-take}
use Rattle.isl_math.specs.Dot.{dot}
use Rattle.isl_math.proofs.DotLaws.{dot-append}
use Rattle.isl_math.proofs.ListLaws.{All-last}
use Rattle.isl_math.proofs.Ring.{linear}
use Rattle.isl_meter.specs.Gauge.{Gauge, IsWithin}
use Rattle.isl_piece.specs.declared.definition.Definition.{Definition}
use Rattle.isl_piece.specs.declared.row.Row.{Row}
use Rattle.isl_piece.specs.declared.row.RowKind.TheVariants.{Zero}
use Rattle.isl_piece.specs.declared.system.System.{System}
use Rattle.isl_piece.specs.Definition.{defined_value, with_defined, with_next}
use Rattle.isl_piece.specs.Row.{coef_at, HasModulus, HoldsRow, HoldsValue, IsRowWithin, IsWellFormed}
use Rattle.isl_piece.specs.System.{HoldsSystem, IsSystemWithin, free_columns}
use Rattle.isl_remainder.specs.Over.{row_alone, GivesColumn, GivesLast}

-- ---- linear forms
dot_nothing : (cs xs : List ℤ) → All (λ c. c ≡ pos 0) cs → dot cs xs ≡ pos 0
dot_nothing [] xs none = refl
dot_nothing (c ∷ cs) [] none = refl
dot_nothing (c ∷ cs) (x ∷ xs) none =
    let e : c ≡ pos 0 = none 0 c (omega arith) in
    let h = dot_nothing cs xs (λ k d l. none (suc k) d (omega (arith, l))) in
    rw e (omega (arith, linear, h))

dot_clipped : (n : ℕ) (cs xs : List ℤ) → All (λ c. c ≡ pos 0) (drop n cs) → dot cs xs ≡ dot (take n cs) xs
dot_clipped zero cs xs none = dot_nothing cs xs none
dot_clipped (suc n) [] xs none = refl
dot_clipped (suc n) (c ∷ cs) [] none = refl
dot_clipped (suc n) (c ∷ cs) (x ∷ xs) none = ap (λ (z : ℤ). c *ℤ x +ℤ z) (dot_clipped n cs xs none)

dot_short : (cs xs ys : List ℤ) → length cs ≤ length xs → dot cs (xs ++ ys) ≡ dot cs xs
dot_short [] xs ys le = refl
dot_short (c ∷ cs) [] ys le = absurd (omega arith)
dot_short (c ∷ cs) (x ∷ xs) ys le = ap (λ (z : ℤ). c *ℤ x +ℤ z) (dot_short cs xs ys (omega arith))

-- the numbers of the defined columns stand behind the point
full_point : (ds : List Definition) (xs : List ℤ) → (rest : List ℤ) × (with_defined ds xs ≡ xs ++ rest)
full_point [] xs = ([], sym (append-nil xs))
full_point (d ∷ ds) xs =
    let later = full_point ds (with_next xs d) in
    (defined_value d xs ∷ later.0, later.1 ∙ append_assoc xs (defined_value d xs ∷ []) later.0)

-- one of two numbers, by the sum with a coefficient 1 or -1
sole_number : (a s c x y : ℤ) → (a ≡ pos 1) ⊎ (a ≡ negsuc 0) → (s +ℤ (a *ℤ x +ℤ pos 0)) +ℤ c ≡ pos 0
    → (s +ℤ (a *ℤ y +ℤ pos 0)) +ℤ c ≡ pos 0 → x ≡ y
sole_number a s c x y (inl e) h k =
    let h' = rw e at h in
    let k' = rw e at k in
    omega (arith, linear, h', k')
sole_number a s c x y (inr e) h k =
    let h' = rw e at h in
    let k' = rw e at k in
    omega (arith, linear, h', k')

zero_value : (row : Row) (z : ℤ) → row.kind ≡ Zero → HoldsValue row.kind row.k z → z ≡ pos 0
zero_value row z kind h = subst (λ t. HoldsValue t row.k z) kind h

-- ---- the row alone
module _ (g : Gauge) (s : System) (row : Row) (within : IsSystemWithin g s) (formed : IsWellFormed s.columns row)
    (small : IsRowWithin g row) (gives : GivesColumn (free_columns s) row)
    (in_it : (point : List ℤ) → HoldsSystem s point → HoldsRow row (with_defined s.definitions point)) where
  abbrev free : ℕ
  free = free_columns s

  abbrev first : List ℤ
  first = take free row.coefs

  abbrev one : Row
  one = record { kind = Zero; coefs = first; constant = row.constant; k = pos 1 }

  wide : free ≤ length row.coefs
  wide = let w = formed.width in omega (arith, w)

  long : length first ≡ free
  long = length-take-le free row.coefs wide

  apart : first ≡ take (free - 1) row.coefs ++ coef_at row (free - 1) ∷ []
  apart =
      let some = gives.some in
      let up : free ≡ (free - 1) + 1 = omega (arith, some) in
      let w = wide in
      ap (λ n. take n row.coefs) up ∙ take_more row.coefs (free - 1) (pos 0) (omega (arith, some, w))

  alone_within : IsSystemWithin g (row_alone free row)
  alone_within = record {
    rows = All-cons (IsWellFormed free) one [] (record { width = long; modulus = refl }) (All-nil (IsWellFormed free));
    within = All-cons (IsRowWithin g) one [] (record {
      coefs = All-take (IsWithin g) free row.coefs small.coefs;
      constant = small.constant;
      k = subst (IsWithin g) (subst (λ t. HasModulus t row.k) gives.kind formed.modulus) small.k;
    }) (All-nil (IsRowWithin g));
    count = omega arith;
    definitions = record {};
  }

  alone_at : (point : List ℤ) → HoldsSystem (row_alone free row) point → dot first point +ℤ row.constant ≡ pos 0
  alone_at point h = (All-last (λ r. HoldsRow r point) [] one h).1

  alone_holds : (point : List ℤ) → length point ≡ free → HoldsSystem s point → HoldsSystem (row_alone free row) point
  alone_holds point l h =
      let full = full_point s.definitions point in
      let value = zero_value row (dot row.coefs (with_defined s.definitions point) +ℤ row.constant) gives.kind (in_it point h) in
      let clipped = dot_clipped free row.coefs (point ++ full.0) gives.behind in
      let m = long in
      let short = dot_short first point full.0 (omega (arith, l, m)) in
      let same : dot first point ≡ dot row.coefs (with_defined s.definitions point) =
      sym (ap (dot row.coefs) full.1 ∙ clipped ∙ short) in
      All-cons (λ r. HoldsRow r point) one [] (ap (λ (z : ℤ). z +ℤ row.constant) same ∙ value) (All-nil (λ r. HoldsRow r point))

  alone_sole : (point : List ℤ) (x y : ℤ) → length point + 1 ≡ free → HoldsSystem (row_alone free row) (point ++ x ∷ [])
      → HoldsSystem (row_alone free row) (point ++ y ∷ []) → x ≡ y
  alone_sole point x y l h k =
      let w = wide in
      let start : length (take (free - 1) row.coefs) ≡ length point =
      length-take-le (free - 1) row.coefs (omega (arith, w)) ∙ omega (arith, l) in
      let value : (z : ℤ) → HoldsSystem (row_alone free row) (point ++ z ∷ [])
      → (dot (take (free - 1) row.coefs) point +ℤ (coef_at row (free - 1) *ℤ z +ℤ pos 0)) +ℤ row.constant ≡ pos 0 = λ z holds.
      ap (λ (v : ℤ). v +ℤ row.constant)
      (sym (ap (λ cs. dot cs (point ++ z ∷ [])) apart
      ∙ dot-append (take (free - 1) row.coefs) (coef_at row (free - 1) ∷ []) point (z ∷ []) start))
      ∙ alone_at (point ++ z ∷ []) holds in
      sole_number (coef_at row (free - 1)) (dot (take (free - 1) row.coefs) point) row.constant x y gives.last (value x h) (value y k)

  pub alone_gives : GivesLast g s (row_alone free row)
  alone_gives = record {
    across = record { free = omega arith; within = alone_within };
    definitions = refl;
    holds = alone_holds;
    sole = alone_sole;
  }

-- one of the rows of a system
pub row_gives : (g : Gauge) (s found : System) (rows : List Row) (i : ℕ) (row : Row) → rows ≡ s.rows → i < length rows
    → row ≡ get_or rows i row → IsSystemWithin g s → GivesColumn (free_columns s) row → found ≡ row_alone (free_columns s) row
    → GivesLast g s found
row_gives g s found rows i row same low at within gives is =
    let inside : i < length s.rows = subst (λ (rs : List Row). i < length rs) same low in
    let there : get_or s.rows i row ≡ row = sym (at ∙ ap (λ (rs : List Row). get_or rs i row) same) in
    subst (GivesLast g s) (sym is) (alone_gives g s row within
    (subst (IsWellFormed s.columns) there (within.rows i row inside))
    (subst (IsRowWithin g) there (within.within i row inside)) gives
    (λ point h. subst (λ r. HoldsRow r (with_defined s.definitions point)) there (h i row inside)))
