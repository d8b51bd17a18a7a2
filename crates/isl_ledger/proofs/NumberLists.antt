-- Lists of which each element has a number below a limit, and no two the same, are no longer than the limit: the pigeonhole principle.
use Rattle.std.proofs.Common.{◌≡◌, ◌≢◌, refl, sym, subst, arith, ℕ, suc, ◌<◌, ◌≤◌, true, List, [], ◌∷◌, length}
use Rattle.std.specs.List.{All, AllPairs, AllZip, list_any}
use Rattle.std.proofs.Math.Dec.{eqb}
use Rattle.std.proofs.lemmas.Bool.{eqb-true}
use Rattle.std.proofs.lemmas.Bool.Decides.{Decides-eqb}
use Rattle.std.proofs.lemmas.List.Elements.{All-nil, All-cons, All-head, All-tail}
use Rattle.std.proofs.lemmas.List.Folds.{Any-from_list_any}
use Rattle.std.proofs.lemmas.List.Kept.{AllPairs-cons}
use Rattle.std.proofs.lemmas.Map.Made.{IsDistinct-from_AllPairs}
use Rattle.std.proofs.lemmas.Map.Steps.{length-le_from_distinct_below}

-- numbers of the elements, below n and apart
record AreNumbers {X : Type 0} (HasNumber : X → ℕ → Type 0) (n : ℕ) (xs : List X) (numbers : List ℕ) : Type 0 where
  pub zipped : AllZip HasNumber xs numbers
  pub long : length numbers ≡ length xs
  pub small : All (λ m. m < n) numbers
  pub apart : AllPairs (λ m k. m ≢ k) numbers

pub pairs_head : {X : Type 0} (R : X → X → Type 0) (x : X) (xs : List X) → AllPairs R (x ∷ xs) → All (R x) xs
pairs_head R x xs h k d l = h 0 (suc k) d (omega arith) (omega arith)

pub pairs_tail : {X : Type 0} (R : X → X → Type 0) (x : X) (xs : List X) → AllPairs R (x ∷ xs) → AllPairs R xs
pairs_tail R x xs h i j d l k = h (suc i) (suc j) d (omega arith) (omega arith)

module _ {X : Type 0} (HasNumber : X → ℕ → Type 0) (n : ℕ) where
  -- some number below n
  abbrev pub IsNumbered : X → Type 0
  IsNumbered x = (m : ℕ) × (m < n) × HasNumber x m

  -- no number in common
  abbrev pub AreApart : X → X → Type 0
  AreApart x y = (m : ℕ) → HasNumber x m → ¬ HasNumber y m

  -- the number of an element is none of the others'
  new_number : (x : X) (m : ℕ) (xs : List X) (numbers : List ℕ) → HasNumber x m → All (AreApart x) xs → AllZip HasNumber xs numbers
      → All (λ k. m ≢ k) numbers
  new_number x m [] [] h a z = All-nil (λ k. m ≢ k)
  new_number x m [] (k ∷ numbers) h a z = absurd z
  new_number x m (y ∷ xs) [] h a z = absurd z
  new_number x m (y ∷ xs) (k ∷ numbers) h a z = All-cons (λ k. m ≢ k) k numbers
      (λ e. All-head (AreApart x) y xs a m h (subst (HasNumber y) (sym e) z.0))
      (new_number x m xs numbers h (All-tail (AreApart x) y xs a) z.1)

  numbers_of : (xs : List X) → All IsNumbered xs → AllPairs AreApart xs → (numbers : List ℕ) × AreNumbers HasNumber n xs numbers
  numbers_of [] h a = ([], record { zipped = tt; long = refl; small = All-nil (λ m. m < n); apart = λ i j d l k. absurd (omega arith) })
  numbers_of (x ∷ xs) h a =
      let rest = numbers_of xs (All-tail IsNumbered x xs h) (pairs_tail AreApart x xs a) in
      let own = All-head IsNumbered x xs h in (
        own.0 ∷ rest.0,
        record {
          zipped = (own.2, rest.1.zipped);
          long = let l = rest.1.long in omega arith;
          small = All-cons (λ m. m < n) own.0 rest.0 own.1 rest.1.small;
          apart =
              let fresh = new_number x own.0 xs rest.0 own.2 (pairs_head AreApart x xs a) rest.1.zipped in
              AllPairs-cons (λ m k. m ≢ k) own.0 rest.0 fresh rest.1.apart;
        },
      )

  pub few_by_numbers : (xs : List X) → All IsNumbered xs → AllPairs AreApart xs → length xs ≤ n
  few_by_numbers xs h a =
      let found = numbers_of xs h a in
      let distinct = IsDistinct-from_AllPairs Decides-eqb found.0 found.1.apart in
      let few = length-le_from_distinct_below found.0 n distinct (below found.0 found.1.small) in
      let l = found.1.long in
      omega arith
    where
      below : (numbers : List ℕ) → All (λ m. m < n) numbers → (q : ℕ) → list_any (eqb q) numbers ≡ true → q < n
      below numbers h q has =
          let any = Any-from_list_any (eqb q) numbers has in
          let e = eqb-true q any.1 any.4 in
          let f = h any.0 any.1 any.2 in
          let g = any.3 in
          omega arith
