-- What two systems keep beside one another.
use Rattle.std.proofs.Common.{◌≡◌, ◌↔◌, ◌⊎◌, inl, inr, refl, sym, ◌∙◌, arith, subst, ℕ, ◌+◌, ◌-◌, ◌<◌, ◌≤◌, ℤ, Bool, true, false}
use Rattle.std.proofs.Common.{List, [], ◌∷◌, ◌++◌, All, Any, Err, Ok, Result, Some, get_or, length, take}
use Rattle.std.specs.Prelude.{IfOk, IsTrue}
use Rattle.std.proofs.lemmas.Bool.{false≢true}
use Rattle.std.proofs.lemmas.List.{take_all}
use Rattle.std.proofs.lemmas.List.Elements.{All-append}
use Rattle.isl_math.proofs.ListLaws.{All-parts, Any-cases, Any-first, Any-later, Any-left, Any-none, Any-one, Any-parts, Any-right}
use Rattle.isl_meter.specs.Gauge.{Gauge}
use Rattle.isl_piece.specs.declared.row.Row.{Row}
use Rattle.isl_piece.specs.declared.system.System.{System}
use Rattle.isl_piece.specs.Normal.{normal_rows, IsNormal}
use Rattle.isl_piece.specs.Row.{HasModulus, HoldsRow, IsRowWithin, IsWellFormed}
use Rattle.isl_piece.specs.System.{HoldRows, HoldsSystem, free_columns}
use Rattle.isl_elim.specs.Elimination.{HoldsAtAny}
use Rattle.isl_elim.specs.Sample.{IsNowhere}
use Rattle.isl_difference.specs.Difference.{IsCovered}
use Rattle.isl_assumed.specs.declared.assumed.Assumed.{Assumed}
use Rattle.isl_assumed.specs.declared.assumed.Assumed.TheVariants.{Nothing, Where}
use Rattle.isl_assumed.specs.declared.region.Region.{Region}
use Rattle.isl_assumed.specs.Left.{ArePairs}
use Rattle.isl_assumed.proofs.LeftLaws.{taken_more}
use Rattle.isl_coalesce.specs.Found.{AreOfEither, AreUnjoinedSystems, AreUnknown, HavePointsIn, IsFit, IsJointSystem, IsKnown, IsOfEither}
use Rattle.isl_coalesce.specs.Found.{IsPlain, IsTrueThroughout}
use Rattle.isl_coalesce.specs.Parts.{AreParts}
use Rattle.isl_coalesce.proofs.HalfLaws.{halves_fit, halves_hold, plain_free, plain_point}
use Rattle.isl_coalesce.proofs.PartLaws.{parts_keep, parts_true}

-- the rows of a system that defines no column are rows over its columns
pub plain_rows : (g : Gauge) (s : System) → IsPlain g s → All (IsFit g s.columns) s.rows
plain_rows g s plain k d l = (plain.within.rows k d l, plain.within.within k d l)

-- the system of such rows
abbrev pub over_rows : System → List Row → System
over_rows p rows = record { columns = p.columns; definitions = []; rows = rows }

pub plain_over : (g : Gauge) (p : System) (rows : List Row) → All (IsWellFormed p.columns) rows → All (IsRowWithin g) rows
    → IsPlain g (over_rows p rows)
plain_over g p rows formed within = record {
  definitions = refl;
  within = record { rows = formed; within = within; count = omega arith; definitions = tt };
}

-- ---- points that are ones of two systems
either_of : (p q : System) (point : List ℤ) → HoldsAtAny (p ∷ q ∷ []) point → HoldsSystem p point ⊎ HoldsSystem q point
either_of p q point any =
    let P : System → Type 0 = λ s. HoldsSystem s point in
    elim (Any-cases P p (q ∷ []) any) [ inl a ↦ inl a | inr b ↦ inr (Any-one P q b) ]

of_both : (p q : System) (point : List ℤ) → HoldsSystem p point ⊎ HoldsSystem q point → HoldsAtAny (p ∷ q ∷ []) point
of_both p q point e =
    let P : System → Type 0 = λ s. HoldsSystem s point in
    elim e [ inl a ↦ Any-first P p (q ∷ []) a | inr b ↦ Any-later P p (q ∷ []) (Any-first P q [] b) ]

-- one system after another: those so far have points in the two, if one of them has a point
pub record ArePointsSoFar (columns : ℕ) (p q : System) (systems : List System) (some : Bool) : Type 0 where
  pub none : some ≡ false → (point : List ℤ) → length point ≡ columns → ¬ HoldsAtAny systems point
  pub one : some ≡ true → ¬ ((point : List ℤ) → length point ≡ columns → ¬ HoldsAtAny systems point)
  pub covered : (point : List ℤ) → length point ≡ columns → HoldsAtAny systems point → HoldsSystem p point ⊎ HoldsSystem q point

pub points_first : (columns : ℕ) (p q : System) → ArePointsSoFar columns p q [] false
points_first columns p q = record {
  none = λ e point long any. Any-none (λ s. HoldsSystem s point) any;
  one = λ e. absurd (false≢true e);
  covered = λ point long any. absurd (Any-none (λ s. HoldsSystem s point) any);
}

module _ (columns : ℕ) (p q : System) (systems : List System) (i : ℕ) (s : System) (low : i < length systems) (at : s ≡ get_or systems i s)
    (free : free_columns s ≡ columns) where
  cases : (point : List ℤ) → HoldsAtAny (take (i + 1) systems) point → HoldsAtAny (take i systems) point ⊎ HoldsSystem s point
  cases point any =
      let H : System → Type 0 = λ t. HoldsSystem t point in
      elim (Any-parts H (take i systems) (s ∷ []) (subst (Any H) (taken_more systems i s low at) any)) [
        | inl old ↦ inl old
        | inr new ↦ inr (Any-one H s new)
      ]

  older : (point : List ℤ) → HoldsAtAny (take i systems) point → HoldsAtAny (take (i + 1) systems) point
  older point any =
      let H : System → Type 0 = λ t. HoldsSystem t point in
      subst (Any H) (sym (taken_more systems i s low at)) (Any-left H (take i systems) (s ∷ []) any)

  newer : (point : List ℤ) → HoldsSystem s point → HoldsAtAny (take (i + 1) systems) point
  newer point holds =
      let H : System → Type 0 = λ t. HoldsSystem t point in
      subst (Any H) (sym (taken_more systems i s low at)) (Any-right H (take i systems) (s ∷ []) (Any-first H s [] holds))

  pub points_skip : (some : Bool) → IsNowhere (free_columns s) (HoldsSystem s) → ArePointsSoFar columns p q (take i systems) some
      → ArePointsSoFar columns p q (take (i + 1) systems) some
  points_skip some nowhere so_far = record {
    none = λ e point long any. elim (cases point any) [
      | inl old ↦ so_far.none e point long old
      | inr new ↦ nowhere point (long ∙ sym free) new
    ];
    one = λ e nothing. so_far.one e (λ point long any. nothing point long (older point any));
    covered = λ point long any. elim (cases point any) [
      | inl old ↦ so_far.covered point long old
      | inr new ↦ absurd (nowhere point (long ∙ sym free) new)
    ];
  }

  pub points_more : (some new : Bool) → new ≡ true → ¬ IsNowhere (free_columns s) (HoldsSystem s) → IsCovered s (p ∷ q ∷ [])
      → ArePointsSoFar columns p q (take i systems) some → ArePointsSoFar columns p q (take (i + 1) systems) new
  points_more some new is live covered so_far = record {
    none = λ e. absurd (false≢true (sym e ∙ is));
    one = λ e nothing. live (λ point long holds. nothing point (long ∙ free) (newer point holds));
    covered = λ point long any. elim (cases point any) [
      | inl old ↦ so_far.covered point long old
      | inr new ↦ either_of p q point (covered point (long ∙ sym free) new)
    ];
  }

  -- a system that is not covered
  pub points_beyond : ¬ IsCovered s (p ∷ q ∷ []) → ¬ HavePointsIn columns p q systems
  points_beyond not have =
      not (λ point long holds. of_both p q point (have.covered point (long ∙ free) (i, s, low, sym at, holds)))

pub points_all : (columns : ℕ) (p q : System) (systems : List System) (i : ℕ) (some : Bool) → length systems ≤ i
    → ArePointsSoFar columns p q (take i systems) some → IsTrue some ↔ HavePointsIn columns p q systems
points_all columns p q systems i some end so_far =
    let all = subst (λ l. ArePointsSoFar columns p q l some) (take_all i systems end) so_far in (
      (λ yes. record { some = all.one yes; covered = all.covered }),
      (λ have. by some refl all have),
    )
  where
    by : (b : Bool) → some ≡ b → ArePointsSoFar columns p q systems some → HavePointsIn columns p q systems → IsTrue b
    by true e all have = refl
    by false e all have = absurd (have.some (all.none e))

-- ---- where nothing is assumed
pub either_plain : (g : Gauge) (p q joint : System) → IsPlain g joint → ¬ IsNowhere joint.columns (HoldsSystem joint) → (b : Bool)
    → (IsTrue b → IsCovered joint (p ∷ q ∷ [])) → (IsCovered joint (p ∷ q ∷ []) → IsTrue b)
    → IsTrue b ↔ IsOfEither (λ point. Unit {0}) p q joint
either_plain g p q joint plain live b forth back =
    let free = plain_free joint plain.definitions in (
      (λ yes. record {
        some = λ none. live (λ point long holds. none point long tt holds);
        covered = λ point long known holds. either_of p q point (forth yes point (long ∙ sym free) holds);
      }),
      (λ e. back (λ point long holds. of_both p q point (e.covered point (long ∙ free) tt holds))),
    )

-- the same of an answer that may be a cut
pub either_plain_answer : {E : Type 0} (g : Gauge) (known : Assumed) (p q joint : System) (answer : Result Bool E) → known ≡ Nothing
    → IsPlain g joint → ¬ IsNowhere joint.columns (HoldsSystem joint) → IfOk answer (λ b. IsTrue b → IsCovered joint (p ∷ q ∷ []))
    → (¬ IsNowhere (free_columns joint) (HoldsSystem joint) → IfOk answer (λ b. IsCovered joint (p ∷ q ∷ []) → IsTrue b))
    → IfOk answer (λ b. IsTrue b ↔ IsOfEither (IsKnown known) p q joint)
either_plain_answer g known p q joint (Ok b) is plain live forth back =
    let free = plain_free joint plain.definitions in
    rw is (either_plain g p q joint plain live b forth (back (λ none. live (λ point long. none point (long ∙ sym free)))))
either_plain_answer g known p q joint (Err e) is plain live forth back = tt

-- ---- where a region is
pub either_known : (g : Gauge) (names : ℕ) (p q joint : System) (systems parts : List System) → IsPlain g joint → names ≤ joint.columns
    → p.columns ≡ joint.columns → IsPlain g p → ArePairs g names (joint.columns - names) joint systems parts
    → (b : Bool) → IsTrue b ↔ HavePointsIn (free_columns p) p q parts
    → IsTrue b ↔ IsOfEither (λ point. HoldsAtAny systems (take names point)) p q joint
either_known g names p q joint systems parts plain fits same one pairs b have =
    let free = plain_free p one.definitions in
    let at = λ (point : List ℤ) (long : length point ≡ joint.columns). pairs.points point (omega (arith, long, fits)) in
    let to = λ (point : List ℤ) (long : length point ≡ free_columns p). at point (long ∙ free ∙ same) in (
      (λ yes.
          let h = have.0 yes in
          record {
            some = λ none. h.some (λ point long any.
                let k = (to point long).0 any in
                none point (long ∙ free ∙ same) (k.1) (k.0));
            covered = λ point long known holds.
                h.covered point (long ∙ sym same ∙ sym free) ((at point long).1 (holds, known));
          }),
      (λ e. have.1 (record {
        some = λ none. e.some (λ point long known holds. none point (long ∙ sym same ∙ sym free) ((at point long).1 (holds, known)));
        covered = λ point long any.
            let k = (to point long).0 any in
            e.covered point (long ∙ free ∙ same) (k.1) (k.0);
      })),
    )

pub either_known_answer : {E : Type 0} (g : Gauge) (known : Assumed) (region : Region) (p q joint : System) (parts : List System)
    (answer : Result Bool E) → known ≡ Where region → IsPlain g joint → length region.params ≤ joint.columns → p.columns ≡ joint.columns
    → IsPlain g p → ArePairs g (length region.params) (joint.columns - length region.params) joint region.systems.items parts
    → IfOk answer (λ b. IsTrue b ↔ HavePointsIn (free_columns p) p q parts)
    → IfOk answer (λ b. IsTrue b ↔ IsOfEither (IsKnown known) p q joint)
either_known_answer g known region p q joint parts (Ok b) is plain fits same one pairs have =
    rw is (either_known g (length region.params) p q joint region.systems.items parts plain fits same one pairs b have)
either_known_answer g known region p q joint parts (Err e) is plain fits same one pairs have = tt

-- ---- what both keep
module _ (g : Gauge) (K : List ℤ → Type 0) (p q : System) (same : q.columns ≡ p.columns) (one : IsPlain g p) (other : IsPlain g q)
    (first second : List Row) (own : AreParts (IsTrueThroughout K q) p.rows first)
    (others : AreParts (IsTrueThroughout K p) q.rows second) where
  abbrev H : List ℤ → Row → Type 0
  H xs = λ (r : Row). HoldsRow r xs

  -- ---- what both keep are such rows
  pub both_fit : All (IsFit g p.columns) (first ++ second)
  both_fit =
      All-append (IsFit g p.columns) first second
      (parts_keep (IsTrueThroughout K q) (IsFit g p.columns) (halves_fit g p.columns) p.rows first (plain_rows g p one) own)
      (parts_keep (IsTrueThroughout K p) (IsFit g p.columns) (halves_fit g p.columns) q.rows second
      (subst (λ n. All (IsFit g n) q.rows) same (plain_rows g q other)) others)

  pub both_moduli : All (λ r. HasModulus r.kind r.k) (first ++ second)
  both_moduli = λ k d l. (both_fit k d l).0.modulus

  pub both_formed : All (IsWellFormed p.columns) (first ++ second)
  both_formed = λ k d l. (both_fit k d l).0

  pub both_within : All (IsRowWithin g) (first ++ second)
  both_within = λ k d l. (both_fit k d l).1

  -- ---- they hold at each known point of the two
  pub in_first : (point : List ℤ) → length point ≡ p.columns → K point → HoldsSystem p point → HoldRows (first ++ second) point
  in_first point long known holds =
      let rows = subst (HoldRows p.rows) (plain_point p.definitions point one.definitions) holds in
      let true = parts_true (IsTrueThroughout K p) q.rows second others in
      All-append (H point) first second (parts_keep (IsTrueThroughout K q) (H point) (halves_hold point) p.rows first rows own)
      (λ k d l. true k d l point long known holds)

  pub in_second : (point : List ℤ) → length point ≡ p.columns → K point → HoldsSystem q point → HoldRows (first ++ second) point
  in_second point long known holds =
      let rows = subst (HoldRows q.rows) (plain_point q.definitions point other.definitions) holds in
      let true = parts_true (IsTrueThroughout K q) p.rows first own in
      All-append (H point) first second (λ k d l. true k d l point (long ∙ sym same) known holds)
      (parts_keep (IsTrueThroughout K p) (H point) (halves_hold point) q.rows second rows others)

  -- ---- they hold nowhere
  pub empty_unjoined : ((point : List ℤ) → ¬ HoldRows (first ++ second) point) → AreUnjoinedSystems K p q
  empty_unjoined none = record {
    first = first;
    second = second;
    own = own;
    others = others;
    beyond = λ of_either not. not (λ point long known hold hold'. none point (All-append (H point) first second hold hold'));
  }

  -- ---- their normal rows
  module _ (rows : List Row) (points : (point : List ℤ) → HoldRows rows point ↔ HoldRows (first ++ second) point) where
    -- where all points are known they hold somewhere if the first system does
    pub joint_live : ((point : List ℤ) → K point) → ¬ IsNowhere p.columns (HoldsSystem p)
        → ¬ IsNowhere (over_rows p rows).columns (HoldsSystem (over_rows p rows))
    joint_live all live nowhere = live (λ point long holds. nowhere point long ((points point).1 (in_first point long (all point) holds)))

    pub known_in : IsOfEither K p q (over_rows p rows) → AreOfEither K p q first second
    known_in e point long known hold hold' = e.covered point long known ((points point).1 (All-append (H point) first second hold hold'))

    pub known_some : IsOfEither K p q (over_rows p rows) → ¬ AreUnknown K p.columns first second
    known_some e unknown = e.some (λ point long known holds.
        let both = All-parts (H point) first second ((points point).0 holds) in
        unknown point long known both.0 both.1)

    pub uncovered_unjoined : ¬ IsOfEither K p q (over_rows p rows) → AreUnjoinedSystems K p q
    uncovered_unjoined not = record {
      first = first;
      second = second;
      own = own;
      others = others;
      beyond = λ of_either some. not (record {
        some = λ none. some (λ point long known hold hold'.
            none point long known ((points point).1 (All-append (H point) first second hold hold')));
        covered = λ point long known holds.
            let both = All-parts (H point) first second ((points point).0 holds) in
            of_either point long known both.0 both.1;
      });
    }

    pub covered_joint : IsOfEither K p q (over_rows p rows) → normal_rows (first ++ second) ≡ Some rows → IsNormal rows
        → All (IsWellFormed p.columns) rows → All (IsRowWithin g) rows → IsJointSystem g K p q (over_rows p rows)
    covered_joint e is normal formed within = record {
      first = first;
      second = second;
      own = own;
      others = others;
      rows = is;
      columns = refl;
      plain = plain_over g p rows formed within;
      normal = normal;
      covered = known_in e;
      some = known_some e;
    }
