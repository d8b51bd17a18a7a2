-- Systems one after another, without some rows that their others imply.
use Rattle.std.proofs.Common.{◌≡◌, ◌↔◌, ◌∙◌, ◌<◌, ◌≤◌, ◌+◌, ap, arith, inl, inr, subst, sym, ℕ, ℤ, List, [], ◌∷◌, ◌++◌, get_or, length}
use Rattle.std.proofs.Common.{length-append, take}
use Rattle.std.specs.List.{All}
use Rattle.std.proofs.lemmas.List.{take_all, take_more}
use Rattle.std.proofs.lemmas.List.Elements.{All-nil, All-push}
use Rattle.isl_math.proofs.ListLaws.{All-last, Any-first, Any-left, Any-none, Any-one, Any-parts, Any-right}
use Rattle.isl_meter.specs.Gauge.{Gauge}
use Rattle.isl_piece.specs.declared.row.Row.{Row}
use Rattle.isl_piece.specs.declared.system.System.{System}
use Rattle.isl_piece.specs.System.{HoldsSystem}
use Rattle.isl_redundant.specs.Redundant.{IsReduced}
use Rattle.isl_ledger.specs.Difference.{IsDifferenceSystem}
use Rattle.isl_ledger.specs.Work.{AreOfSize, Size}
use Rattle.isl_ledger.proofs.SizeLaws.{one_system}
use Rattle.isl_elim.specs.Elimination.{HoldsAtAny, IsReducedSystem, system_of}
use Rattle.isl_elim.specs.Sample.{IsNowhere}
use Rattle.isl_elim.proofs.FewerLaws.{same_columns}
use Rattle.isl_elim.proofs.TameSystems.{size_of_few}
use Rattle.isl_difference.proofs.TameLaws.{one_of_size}
use Rattle.isl_span.specs.Chain.{AreHullRows}
use Rattle.isl_span.specs.Points.{IsOver, IsPoint, VanishesOnAll}

-- difference constraints without some of their rows
pub few_differences : (columns bits : ℕ) (s : System) (few : List Row) → IsDifferenceSystem columns bits s
    → IsReduced s.columns s.rows few
    → IsDifferenceSystem columns bits (system_of s.columns s.definitions few)
few_differences columns bits s few d k =
    let size : Size = record { pieces = 1; columns = columns; bits = bits } in
    one_system size (system_of s.columns s.definitions few) (size_of_few size s few (one_of_size columns bits s d) k)

-- systems that hold at the same points, no more of them, over so many columns; of difference constraints they are such
pub record AreFewer (g : Gauge) (columns : ℕ) (systems few : List System) : Type 0 where
  pub over : All (IsOver g columns) few
  pub points : (point : List ℤ) → HoldsAtAny few point ↔ HoldsAtAny systems point
  pub short : length few ≤ length systems
  pub differences : (c bits : ℕ) → All (IsDifferenceSystem c bits) systems → All (IsDifferenceSystem c bits) few

pub fewer_first : (g : Gauge) (columns : ℕ) (systems : List System) → AreFewer g columns (take 0 systems) []
fewer_first g columns systems = record {
  over = All-nil (IsOver g columns);
  points = λ point. ((λ h. h), (λ h. h));
  short = omega arith;
  differences = λ c bits all. All-nil (IsDifferenceSystem c bits);
}

module _ (g : Gauge) (columns : ℕ) (xs few : List System) (s : System) (so_far : AreFewer g columns xs few) where
  longer : length (xs ++ s ∷ []) ≡ length xs + 1
  longer = length-append xs (s ∷ [])

  fewer_none : ((point : List ℤ) → ¬ HoldsSystem s point) → AreFewer g columns (xs ++ s ∷ []) few
  fewer_none none = record {
    over = so_far.over;
    points = λ point. (
      (λ h. Any-left (λ t. HoldsSystem t point) xs (s ∷ []) ((so_far.points point).0 h)),
      (λ h. elim (Any-parts (λ t. HoldsSystem t point) xs (s ∷ []) h) [
        | inl a ↦ (so_far.points point).1 a
        | inr b ↦ absurd (none point (Any-one (λ t. HoldsSystem t point) s b))
      ]),
    );
    short = let n = longer in let m = so_far.short in omega (arith, n, m);
    differences = λ c bits all. so_far.differences c bits (All-last (IsDifferenceSystem c bits) xs s all).0;
  }

  fewer_some : (one : System) → IsOver g columns s → IsReducedSystem g s one
      → ((c bits : ℕ) → IsDifferenceSystem c bits s → IsDifferenceSystem c bits one)
      → AreFewer g columns (xs ++ s ∷ []) (few ++ one ∷ [])
  fewer_some one over r kept = record {
    over = All-push (IsOver g columns) few one so_far.over
        (record { free = same_columns g s one r ∙ over.free; within = r.within });
    points = λ point. (
      (λ h. elim (Any-parts (λ t. HoldsSystem t point) few (one ∷ []) h) [
        | inl a ↦ Any-left (λ t. HoldsSystem t point) xs (s ∷ []) ((so_far.points point).0 a)
        | inr b ↦ Any-right (λ t. HoldsSystem t point) xs (s ∷ []) (Any-first (λ t. HoldsSystem t point) s []
            ((r.points point).0 (Any-one (λ t. HoldsSystem t point) one b)))
      ]),
      (λ h. elim (Any-parts (λ t. HoldsSystem t point) xs (s ∷ []) h) [
        | inl a ↦ Any-left (λ t. HoldsSystem t point) few (one ∷ []) ((so_far.points point).1 a)
        | inr b ↦ Any-right (λ t. HoldsSystem t point) few (one ∷ []) (Any-first (λ t. HoldsSystem t point) one []
            ((r.points point).1 (Any-one (λ t. HoldsSystem t point) s b)))
      ]),
    );
    short = let n = longer in let m = length-append few (one ∷ []) in let k = so_far.short in omega (arith, n, m, k);
    differences = λ c bits all.
        let both = All-last (IsDifferenceSystem c bits) xs s all in
        All-push (IsDifferenceSystem c bits) few one (so_far.differences c bits both.0) (kept c bits both.1);
  }

-- ---- the next of the systems
module _ (g : Gauge) (columns : ℕ) (systems few : List System) (i : ℕ) (s : System) (low : i < length systems)
    (at : s ≡ get_or systems i s) (so_far : AreFewer g columns (take i systems) few) where
  more_are : take (i + 1) systems ≡ take i systems ++ s ∷ []
  more_are = take_more systems i s low ∙ ap (λ y. take i systems ++ y ∷ []) (sym at)

  pub next_none : ((point : List ℤ) → ¬ HoldsSystem s point) → AreFewer g columns (take (i + 1) systems) few
  next_none none =
      subst (λ (l : List System). AreFewer g columns l few) (sym more_are) (fewer_none g columns (take i systems) few s so_far none)

  pub next_some : (one : System) → IsOver g columns s → IsReducedSystem g s one
      → ((c bits : ℕ) → IsDifferenceSystem c bits s → IsDifferenceSystem c bits one)
      → AreFewer g columns (take (i + 1) systems) (few ++ one ∷ [])
  next_some one over r kept =
      subst (λ (l : List System). AreFewer g columns l (few ++ one ∷ [])) (sym more_are)
      (fewer_some g columns (take i systems) few s so_far one over r kept)

-- the end of them
pub fewer_all : (g : Gauge) (columns : ℕ) (systems few : List System) (i : ℕ) → length systems ≤ i
    → AreFewer g columns (take i systems) few
    → AreFewer g columns systems few
fewer_all g columns systems few i end a = subst (λ (l : List System). AreFewer g columns l few) (take_all i systems end) a

pub fewer_size : (g : Gauge) (columns : ℕ) (systems few : List System) (size : Size) → AreFewer g columns systems few
    → AreOfSize size systems
    → AreOfSize size few
fewer_size g columns systems few size a of = record {
  few = let n = of.few in let m = a.short in omega (arith, n, m);
  each = a.differences size.columns size.bits of.each;
}

-- ---- systems that hold at the same points
module _ (n : ℕ) (few systems : List System) (same : (point : List ℤ) → HoldsAtAny few point ↔ HoldsAtAny systems point) where
  to : (point : List ℤ) → IsPoint n few point → IsPoint n systems point
  to point p = record { long = p.long; holds = (same point).0 p.holds }

  back : (point : List ℤ) → IsPoint n systems point → IsPoint n few point
  back point p = record { long = p.long; holds = (same point).1 p.holds }

  pub nowhere_alike : IsNowhere n (HoldsAtAny few) → IsNowhere n (HoldsAtAny systems)
  nowhere_alike none point long holds = none point long ((same point).1 holds)

  vanish_back : (coefs : List ℤ) (constant : ℤ) → VanishesOnAll n (IsPoint n systems) coefs constant
      → VanishesOnAll n (IsPoint n few) coefs constant
  vanish_back coefs constant v = record { long = v.long; zero = λ point p. v.zero point (to point p) }

  vanish_to : (coefs : List ℤ) (constant : ℤ) → VanishesOnAll n (IsPoint n few) coefs constant
      → VanishesOnAll n (IsPoint n systems) coefs constant
  vanish_to coefs constant v = record { long = v.long; zero = λ point p. v.zero point (back point p) }

  pub hull_rows_alike : (g : Gauge) (rows : List Row) → AreHullRows g n (IsPoint n few) rows → AreHullRows g n (IsPoint n systems) rows
  hull_rows_alike g rows are = record {
    forms = are.forms;
    independent = are.independent;
    some = λ none. are.some (λ point p. none point (to point p));
    exact = λ point. (
      (λ h coefs constant v. (are.exact point).0 h coefs constant (vanish_back coefs constant v)),
      (λ all. (are.exact point).1 (λ coefs constant v. all coefs constant (vanish_to coefs constant v))),
    );
  }
