-- Numbers that were sorted, each once.
use Rattle.std.proofs.Common.{◌≡◌, refl, sym, arith, ◌≤◌, ℤ, ◌<ℤ◌, true, List, [], ◌∷◌, length}
use Rattle.std.specs.Ordering.{int_cmp, int_eq}
use Rattle.std.specs.declared.cmp.Ordering.TheVariants.{Less}
use Rattle.std.specs.List.{AllPairs, dedup}
use Rattle.std.specs.List.Retain.{DiffersFromLast, IsFiltered}
use Rattle.std.specs.List.Sorted.{IsPermutation, IsSorted, IsStrictlySortedBy}
use Rattle.std.proofs.lemmas.Bool.Decides.{Decides-int_eq}
use Rattle.std.proofs.lemmas.Cmp.{int_cmp_total, int_eq_equiv, int_ranked}
use Rattle.std.proofs.lemmas.List.Elements.{All-from_recursion, All-weaker}
use Rattle.std.proofs.lemmas.List.Filters.{All-dedup, dedup_is}
use Rattle.std.proofs.lemmas.List.Kept.{AllPairs-cons, Contains-dedup, Contains-from_dedup, IsStrictlySortedBy-dedup}
use Rattle.std.proofs.lemmas.List.Sorted.{All-permutation, Contains-permutation, IsPermutation-sym, length_permutation}
use Rattle.isl_meter.specs.Gauge.{Gauge, IsWithin}
use Rattle.isl_points.specs.Line.{IsListing}
use Rattle.isl_points.proofs.PrefixLaws.{IsGathering}

ascending : (xs : List ℤ) → IsStrictlySortedBy int_cmp xs → AllPairs (λ a b. a <ℤ b) xs
unfolding IsStrictlySortedBy
ascending [] h = λ i j d below inside. absurd (omega (arith, below, inside))
ascending (x ∷ xs) h = AllPairs-cons (λ a b. a <ℤ b) x xs
    (All-weaker (λ y. int_cmp x y ≡ Less) (λ y. x <ℤ y) (λ y e. int_ranked x y Less (sym e)) xs
    (All-from_recursion (λ y. int_cmp x y ≡ Less) xs h.0))
    (ascending xs h.1)

pub sorted_listing : (g h : Gauge) (P : ℤ → Type 0) (xs sorted left : List ℤ) → IsGathering g h P xs → IsPermutation xs sorted
    → IsSorted int_cmp sorted → IsFiltered (DiffersFromLast int_eq) [] sorted left → length left ≤ length sorted → IsListing g h P left
sorted_listing g h P xs sorted left a p s f short =
    let e : left ≡ dedup int_eq sorted = dedup_is int_eq sorted left f in
    let long = length_permutation xs sorted p in
    record {
      numbers = record {
        exact = λ x. (
          (λ c. (a.exact x).0 (Contains-permutation sorted xs x (IsPermutation-sym xs sorted p)
              (Contains-from_dedup int_eq sorted x (rw e at c)))),
          (λ q. rw e (Contains-dedup int_eq_equiv same sorted x (Contains-permutation xs sorted x p ((a.exact x).1 q)))),
        );
        ordered = rw e (ascending (dedup int_eq sorted) (IsStrictlySortedBy-dedup int_cmp_total (λ x y. refl) sorted s));
      };
      within = rw e (All-dedup int_eq (IsWithin g) sorted (All-permutation (IsWithin g) xs sorted p a.within));
      counted = (let c = a.counted in omega (arith, c, long, short));
      charged = a.charged;
    }
  where
    same : (x y : ℤ) → int_eq x y ≡ true → x ≡ y
    same x y e = (Decides-int_eq x y).0 e
