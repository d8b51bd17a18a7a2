-- The halves of equations, and rows that hold throughout a system.
use Rattle.std.proofs.Common.{◌≡◌, ◌↔◌, inl, inr, refl, sym, ap, ◌∙◌, arith, subst, ℕ, ◌<◌, ◌^◌, ℤ, pos, negsuc, neg_ℤ, ◌*ℤ◌, ◌+ℤ◌, ◌≤ℤ◌}
use Rattle.std.proofs.Common.{List, [], ◌∷◌, ◌+◌, ◌-◌, ◌≤◌, All, Any, Bool, Err, Ok, Result, get_or, length, take, unsigned_abs, suc}
use Rattle.std.specs.Prelude.{IfOk, IsTrue}
use Rattle.std.proofs.lemmas.Int.{ints}
use Rattle.std.proofs.lemmas.List.{length-map, take_all}
use Rattle.std.proofs.lemmas.List.Elements.{All-nil, All-cons, All-head}
use Rattle.isl_math.specs.Dot.{dot, scaled}
use Rattle.isl_math.proofs.Ring.{linear}
use Rattle.isl_math.proofs.DotLaws.{dot-scaled}
use Rattle.isl_math.proofs.ListLaws.{Any-none, Any-one, Any-parts}
use Rattle.isl_meter.specs.Gauge.{Gauge, IsCharged, IsWithin}
use Rattle.isl_piece.specs.declared.definition.Definition.{Definition}
use Rattle.isl_piece.specs.declared.row.RowKind.{RowKind}
use Rattle.isl_piece.specs.declared.row.RowKind.TheVariants.{Zero, AtLeast, Divides, NotDivides}
use Rattle.isl_piece.specs.declared.row.Row.{Row}
use Rattle.isl_piece.specs.declared.system.System.{System}
use Rattle.isl_piece.specs.Definition.{with_defined}
use Rattle.isl_piece.specs.Normal.{bound}
use Rattle.isl_piece.specs.Row.{HasModulus, HoldsRow, HoldsValue, value_at}
use Rattle.isl_piece.specs.System.{HoldRows, HoldsSystem, free_columns}
use Rattle.isl_piece.proofs.RowMagnitudes.{row_within_kept}
use Rattle.isl_elim.specs.Sample.{IsNowhere}
use Rattle.isl_difference.specs.Split.{HoldsBut}
use Rattle.isl_difference.proofs.RowCases.{row_cases}
use Rattle.isl_union.proofs.MeetSteps.{charged_bits}
use Rattle.isl_elim.specs.Elimination.{HoldsAtAny}
use Rattle.isl_assumed.specs.Left.{IsPair}
use Rattle.isl_assumed.proofs.LeftLaws.{taken_more}
use Rattle.isl_coalesce.specs.Found.{IsFit, IsPlain, IsTrueThroughout}
use Rattle.isl_coalesce.specs.Parts.{halves, halves_by}

abbrev upper_half : Row → Row
upper_half r = bound r.coefs r.constant

abbrev lower_half : Row → Row
lower_half r = bound (scaled (negsuc 0) r.coefs) (neg_ℤ r.constant)

-- ---- halves hold where their equation does
other_half : (d c : ℤ) → d +ℤ c ≡ pos 0 → pos 0 ≤ℤ (negsuc 0 *ℤ d +ℤ neg_ℤ c)
other_half d c e = omega (arith, linear)

pub halves_hold : (xs : List ℤ) (r : Row) → HoldsRow r xs → All (λ h. HoldsRow h xs) (halves r)
halves_hold xs r h = by r.kind h
  where
    H : Row → Type 0
    H = λ (s : Row). HoldsRow s xs

    by : (kind : RowKind) → HoldsValue kind r.k (value_at r xs) → All (λ s. HoldsRow s xs) (halves_by kind r)
    by Zero e =
        let upper : pos 0 ≤ℤ (dot r.coefs xs +ℤ r.constant) = omega (arith, linear) in
        let lower = other_half (dot r.coefs xs) r.constant e in
        let other : pos 0 ≤ℤ (dot (scaled (negsuc 0) r.coefs) xs +ℤ neg_ℤ r.constant) = rw (dot-scaled (negsuc 0) r.coefs xs) lower in
        All-cons H (upper_half r) (lower_half r ∷ []) upper (All-cons H (lower_half r) [] other (All-nil H))
    by AtLeast e = All-nil H
    by Divides e = All-nil H
    by NotDivides e = All-nil H

-- ---- they are rows over the same columns, within the limit
negative_within : (g : Gauge) (cs : List ℤ) → All (IsWithin g) cs → All (IsWithin g) (scaled (negsuc 0) cs)
negative_within g [] all = All-nil (IsWithin g)
negative_within g (c ∷ cs) all =
    let own : unsigned_abs c < 2 ^ g.bits = All-head (IsWithin g) c cs all in
    All-cons (IsWithin g) (negsuc 0 *ℤ c) (scaled (negsuc 0) cs) (omega (arith, ints))
    (negative_within g cs (λ k d l. all (suc k) d (omega arith)))

pub halves_fit : (g : Gauge) (columns : ℕ) (r : Row) → IsFit g columns r → All (IsFit g columns) (halves r)
halves_fit g columns r fit = by r.kind fit.0.modulus
  where
    by : (kind : RowKind) → HasModulus kind r.k → All (IsFit g columns) (halves_by kind r)
    by Zero one =
        let unit : IsWithin g (pos 1) = rw one at fit.1.k in
        let constant : unsigned_abs r.constant < 2 ^ g.bits = fit.1.constant in
        All-cons (IsFit g columns) (upper_half r) (lower_half r ∷ []) (
          record { width = fit.0.width; modulus = refl },
          record { coefs = fit.1.coefs; constant = fit.1.constant; k = unit },
        ) (All-cons (IsFit g columns) (lower_half r) [] (
          record { width = length-map r.coefs (λ x. negsuc 0 *ℤ x) ∙ fit.0.width; modulus = refl },
          record { coefs = negative_within g r.coefs fit.1.coefs; constant = omega (arith, ints); k = unit },
        ) (All-nil (IsFit g columns)))
    by AtLeast m = All-nil (IsFit g columns)
    by Divides m = All-nil (IsFit g columns)
    by NotDivides m = All-nil (IsFit g columns)

pub halves_modulus : (r : Row) → HasModulus r.kind r.k → All (λ h. HasModulus h.kind h.k) (halves r)
halves_modulus r m = by r.kind
  where
    M : Row → Type 0
    M = λ (s : Row). HasModulus s.kind s.k

    by : (kind : RowKind) → All (λ h. HasModulus h.kind h.k) (halves_by kind r)
    by Zero = All-cons M (upper_half r) (lower_half r ∷ []) refl (All-cons M (lower_half r) [] refl (All-nil M))
    by AtLeast = All-nil M
    by Divides = All-nil M
    by NotDivides = All-nil M

-- ---- rows that hold throughout a system
-- no column is defined
pub plain_point : (definitions : List Definition) (point : List ℤ) → definitions ≡ [] → with_defined definitions point ≡ point
plain_point definitions point e = ap (λ ds. with_defined ds point) e

pub plain_free : (s : System) → s.definitions ≡ [] → free_columns s ≡ s.columns
plain_free s e = let n = ap (λ (ds : List Definition). length ds) e in omega (arith, n)

-- what no point of a system makes fail is true at its points
pub throughout : (g : Gauge) (s : System) (rows : List Row) (r : Row) → IsPlain g s → IsFit g s.columns r → rows ≡ r ∷ []
    → IsNowhere (free_columns s) (HoldsBut s rows) ↔ IsTrueThroughout (λ point. Unit {0}) s r
throughout g s rows r plain fit is =
    let H : List ℤ → Row → Type 0 = λ xs t. HoldsRow t xs in
    let same = λ (point : List ℤ). plain_point s.definitions point plain.definitions in
    let free = plain_free s plain.definitions in (
      (λ t point long known holds. elim (row_cases r point fit.0.modulus) [
        | inl true ↦ true
        | inr fails ↦ absurd (t point (long ∙ sym free) (
          holds,
          λ all.
              let one : HoldRows (r ∷ []) point = rw (is, same point) at all in
              fails (All-head (H point) r [] one),
        ))
      ]),
      (λ true point long but.
          but.1 (rw (is, same point) (All-cons (H point) r [] (true point (long ∙ free) tt but.0) (All-nil (H point))))),
    )

-- the same of an answer that may be a cut
pub throughout_answer : {E : Type 0} (g : Gauge) (s : System) (rows : List Row) (r : Row) (answer : Result Bool E) → IsPlain g s
    → IsFit g s.columns r → rows ≡ r ∷ []
    → IfOk answer (λ all. IsTrue all ↔ IsNowhere (free_columns s) (HoldsBut s rows))
    → IfOk answer (λ all. IsTrue all ↔ IsTrueThroughout (λ point. Unit {0}) s r)
throughout_answer g s rows r (Ok b) plain fit is h =
    let t = throughout g s rows r plain fit is in
    ((λ yes. t.0 (h.0 yes)), (λ all. h.1 (t.1 all)))
throughout_answer g s rows r (Err e) plain fit is h = tt

-- ---- what is known, one system of it after another
-- the pair with such a system defines no column either, and is over the same ones
module _ (g : Gauge) (names : ℕ) (s known both : System) (plain : IsPlain g s) (fits : names ≤ s.columns) (flat : known.definitions ≡ [])
    (pair : IsPair g names (s.columns - names) s known both) where
  pub pair_plain : IsPlain g both
  pair_plain = record { definitions = pair.definitions plain.definitions flat; within = pair.within }

  pub pair_columns : both.columns ≡ s.columns
  pair_columns =
      let free = plain_free both (pair.definitions plain.definitions flat) in
      let all = pair.free in
      omega (arith, free, all, fits)

  at_pair : (point : List ℤ) → length point ≡ s.columns
      → HoldsSystem both point ↔ (HoldsSystem s point × HoldsSystem known (take names point))
  at_pair point long = pair.points point (omega (arith, long, fits))

  module _ (systems : List System) (r : Row) where
    abbrev K : List System → List ℤ → Type 0
    K front = λ (point : List ℤ). HoldsAtAny front (take names point)

    pub true_more : (i : ℕ) → i < length systems → known ≡ get_or systems i known → IsTrueThroughout (K (take i systems)) s r
        → IsTrueThroughout (λ point. Unit {0}) both r → IsTrueThroughout (K (take (i + 1) systems)) s r
    true_more i low at so_far one point long any holds =
        let H : System → Type 0 = λ t. HoldsSystem t (take names point) in
        elim (Any-parts H (take i systems) (known ∷ []) (subst (Any H) (taken_more systems i known low at) any)) [
          | inl old ↦ so_far point long old holds
          | inr new ↦ one point (long ∙ sym pair_columns) tt ((at_pair point long).1 (holds, Any-one H known new))
        ]

    pub true_one : (i : ℕ) → i < length systems → known ≡ get_or systems i known → IsTrueThroughout (K systems) s r
        → IsTrueThroughout (λ point. Unit {0}) both r
    true_one i low at all point long u holds =
        let own = long ∙ pair_columns in
        let h = (at_pair point own).0 holds in
        all point own (i, known, low, sym at, h.1) h.0

pub true_none : (names : ℕ) (s : System) (r : Row) → IsTrueThroughout (λ point. HoldsAtAny [] (take names point)) s r
true_none names s r point long any holds = absurd (Any-none (λ t. HoldsSystem t (take names point)) any)

pub true_all : (names : ℕ) (s : System) (r : Row) (systems : List System) (i : ℕ) → length systems ≤ i
    → IsTrueThroughout (λ point. HoldsAtAny (take i systems) (take names point)) s r
    → IsTrueThroughout (λ point. HoldsAtAny systems (take names point)) s r
true_all names s r systems i end so_far =
    subst (λ l. IsTrueThroughout (λ point. HoldsAtAny l (take names point)) s r) (take_all i systems end) so_far

-- the limit at another time
pub fit_later : (g h : Gauge) (columns : ℕ) (r : Row) → IsCharged g h → IsFit g columns r → IsFit h columns r
fit_later g h columns r charged fit = (fit.0, row_within_kept h g r (charged_bits g h charged) fit.1)
