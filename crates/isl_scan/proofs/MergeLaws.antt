-- Lists of points put together.
use Rattle.std.proofs.Common.{◌≡◌, ◌∙◌, ◌⊎◌, inl, inr, ◌+◌, ◌≤◌, ℕ, ℤ, List, [], ◌∷◌, length}
use Rattle.std.proofs.Common.{ap, sym, subst, refl, arith, All}
use Rattle.std.specs.Prelude.{◌<ℤ◌, ◌↔◌}
use Rattle.std.specs.List.{AllPairs, Contains}
use Rattle.std.specs.Ordering.{int_cmp, match_ordering, ordering_then}
use Rattle.std.specs.declared.cmp.Ordering.{Ordering}
use Rattle.std.specs.declared.cmp.Ordering.TheVariants.{Less, Equal, Greater}
use Rattle.std.proofs.lemmas.Cmp.{by_ranked, int_ranked}
use Rattle.std.proofs.lemmas.List.Elements.{All-cons, All-contains, All-contains_itself, All-head, All-tail, All-weaker}
use Rattle.std.proofs.lemmas.List.Kept.{AllPairs-cons}
use Rattle.isl_math.specs.Order.{IsBefore}
use Rattle.isl_math.proofs.ListLaws.{Contains-later}
use Rattle.isl_math.proofs.OrderLaws.{IsBefore_trans}
use Rattle.isl_scan.specs.Merged.{merged_points, point_cmp}
use Rattle.isl_scan.proofs.PairLaws.{AllPairs-head, AllPairs-tail, Contains-cases, Contains-first}

abbrev P : Type 0
P = List ℤ

pub merged_nil : (xs : List P) → merged_points xs [] ≡ xs
merged_nil [] = refl
merged_nil (x ∷ xs) = refl

-- ---- what the comparison says of two points
same_point : (xs ys : P) → point_cmp xs ys ≡ Equal → xs ≡ ys
same_point [] [] e = refl
same_point [] (y ∷ ys) e = absurd cc
same_point (x ∷ xs) [] e = absurd cc
same_point (x ∷ xs) (y ∷ ys) e =
    by_ranked (x <ℤ y) (x ≡ y) (y <ℤ x) (int_cmp x y) (int_ranked x y (int_cmp x y) refl)
    (λ o l. absurd (let f = ap (λ p. ordering_then p (point_cmp xs ys)) (sym o) ∙ e in cc))
    (λ o s. let rest = same_point xs ys (ap (λ p. ordering_then p (point_cmp xs ys)) (sym o) ∙ e) in cc)
    (λ o g. absurd (let f = ap (λ p. ordering_then p (point_cmp xs ys)) (sym o) ∙ e in cc))

before_from_cmp : (xs ys : P) → length xs ≡ length ys → point_cmp xs ys ≡ Less → IsBefore xs ys
before_from_cmp [] [] l e = absurd cc
before_from_cmp [] (y ∷ ys) l e = absurd (omega arith)
before_from_cmp (x ∷ xs) [] l e = absurd (omega arith)
before_from_cmp (x ∷ xs) (y ∷ ys) l e =
    by_ranked (x <ℤ y) (x ≡ y) (y <ℤ x) (int_cmp x y) (int_ranked x y (int_cmp x y) refl)
    (λ o less. inl less)
    (λ o s. inr (s, before_from_cmp xs ys (omega arith) (ap (λ p. ordering_then p (point_cmp xs ys)) (sym o) ∙ e)))
    (λ o g. absurd (let f = ap (λ p. ordering_then p (point_cmp xs ys)) (sym o) ∙ e in cc))

after_from_cmp : (xs ys : P) → length xs ≡ length ys → point_cmp xs ys ≡ Greater → IsBefore ys xs
after_from_cmp [] [] l e = absurd cc
after_from_cmp [] (y ∷ ys) l e = absurd (omega arith)
after_from_cmp (x ∷ xs) [] l e = absurd (omega arith)
after_from_cmp (x ∷ xs) (y ∷ ys) l e =
    by_ranked (x <ℤ y) (x ≡ y) (y <ℤ x) (int_cmp x y) (int_ranked x y (int_cmp x y) refl)
    (λ o less. absurd (let f = ap (λ p. ordering_then p (point_cmp xs ys)) (sym o) ∙ e in cc))
    (λ o s. inr (sym s, after_from_cmp xs ys (omega arith) (ap (λ p. ordering_then p (point_cmp xs ys)) (sym o) ∙ e)))
    (λ o g. inl g)

-- ---- what is put together has the points of both
pub all_merged : (Q : P → Type 0) (xs ys : List P) → All Q xs → All Q ys → All Q (merged_points xs ys)
all_merged Q [] ys a b = b
all_merged Q (x ∷ xs) [] a b = a
all_merged Q (x ∷ xs) (y ∷ ys) a b =
    let one = All-tail Q x xs a in
    let other = All-tail Q y ys b in
    by (point_cmp x y) (all_merged Q xs (y ∷ ys) one b) (all_merged Q xs ys one other) (all_merged Q (x ∷ xs) ys a other)
  where
    by : (o : Ordering) → All Q (merged_points xs (y ∷ ys)) → All Q (merged_points xs ys) → All Q (merged_points (x ∷ xs) ys)
        → All Q (match_ordering o (x ∷ merged_points xs (y ∷ ys)) (x ∷ merged_points xs ys) (y ∷ merged_points (x ∷ xs) ys))
    by Less p q r = All-cons Q x _ (All-head Q x xs a) p
    by Equal p q r = All-cons Q x _ (All-head Q x xs a) q
    by Greater p q r = All-cons Q y _ (All-head Q y ys b) r

pub length_merged : (xs ys : List P) → length (merged_points xs ys) ≤ length xs + length ys
length_merged [] ys = omega arith
length_merged (x ∷ xs) [] = omega arith
length_merged (x ∷ xs) (y ∷ ys) =
    by (point_cmp x y) (length_merged xs (y ∷ ys)) (length_merged xs ys) (length_merged (x ∷ xs) ys)
  where
    by : (o : Ordering) → length (merged_points xs (y ∷ ys)) ≤ length xs + length (y ∷ ys)
        → length (merged_points xs ys) ≤ length xs + length ys → length (merged_points (x ∷ xs) ys) ≤ length (x ∷ xs) + length ys
        → length (match_ordering o (x ∷ merged_points xs (y ∷ ys)) (x ∷ merged_points xs ys) (y ∷ merged_points (x ∷ xs) ys))
        ≤ length (x ∷ xs) + length (y ∷ ys)
    by Less p q r = omega arith
    by Equal p q r = omega arith
    by Greater p q r = omega arith

of_merged : (xs ys : List P) → All (λ z. Contains xs z ⊎ Contains ys z) (merged_points xs ys)
of_merged xs ys =
    all_merged (λ z. Contains xs z ⊎ Contains ys z) xs ys
    (All-weaker (Contains xs) (λ z. Contains xs z ⊎ Contains ys z) (λ z h. inl h) xs (All-contains_itself xs))
    (All-weaker (Contains ys) (λ z. Contains xs z ⊎ Contains ys z) (λ z h. inr h) ys (All-contains_itself ys))

keeps_merged : (xs ys : List P) (z : P) → Contains xs z ⊎ Contains ys z → Contains (merged_points xs ys) z
keeps_merged [] ys z (inl c) = absurd (let h = c.1 in omega arith)
keeps_merged [] ys z (inr c) = c
keeps_merged (x ∷ xs) [] z (inl c) = c
keeps_merged (x ∷ xs) [] z (inr c) = absurd (let h = c.1 in omega arith)
keeps_merged (x ∷ xs) (y ∷ ys) z c =
    by (point_cmp x y) refl c (keeps_merged xs (y ∷ ys) z) (keeps_merged xs ys z) (keeps_merged (x ∷ xs) ys z)
  where
    by : (o : Ordering) → point_cmp x y ≡ o → Contains (x ∷ xs) z ⊎ Contains (y ∷ ys) z
        → (Contains xs z ⊎ Contains (y ∷ ys) z → Contains (merged_points xs (y ∷ ys)) z)
        → (Contains xs z ⊎ Contains ys z → Contains (merged_points xs ys) z)
        → (Contains (x ∷ xs) z ⊎ Contains ys z → Contains (merged_points (x ∷ xs) ys) z)
        → Contains (match_ordering o (x ∷ merged_points xs (y ∷ ys)) (x ∷ merged_points xs ys) (y ∷ merged_points (x ∷ xs) ys)) z
    by Less is (inl c) p q r = elim (Contains-cases x xs z c) [
      | inl e ↦ subst (Contains (x ∷ merged_points xs (y ∷ ys))) e (Contains-first x _)
      | inr d ↦ Contains-later x _ z (p (inl d))
    ]
    by Less is (inr c) p q r = Contains-later x _ z (p (inr c))
    by Equal is (inl c) p q r = elim (Contains-cases x xs z c) [
      | inl e ↦ subst (Contains (x ∷ merged_points xs ys)) e (Contains-first x _)
      | inr d ↦ Contains-later x _ z (q (inl d))
    ]
    by Equal is (inr c) p q r = elim (Contains-cases y ys z c) [
      | inl e ↦ subst (Contains (x ∷ merged_points xs ys)) (same_point x y is ∙ e) (Contains-first x _)
      | inr d ↦ Contains-later x _ z (q (inr d))
    ]
    by Greater is (inl c) p q r = Contains-later y _ z (r (inl c))
    by Greater is (inr c) p q r = elim (Contains-cases y ys z c) [
      | inl e ↦ subst (Contains (y ∷ merged_points (x ∷ xs) ys)) e (Contains-first y _)
      | inr d ↦ Contains-later y _ z (r (inr d))
    ]

pub contains_merged : (xs ys : List P) (z : P) → Contains (merged_points xs ys) z ↔ (Contains xs z ⊎ Contains ys z)
contains_merged xs ys z = (
  All-contains (λ w. Contains xs w ⊎ Contains ys w) (merged_points xs ys) z (of_merged xs ys),
  keeps_merged xs ys z,
)

-- ---- lists in order, of points that are as long
module _ (n : ℕ) where
  abbrev IsLong : P → Type 0
  IsLong p = length p ≡ n

  pub long_merged : (xs ys : List P) → All IsLong xs → All IsLong ys → All IsLong (merged_points xs ys)
  long_merged xs ys a b = all_merged IsLong xs ys a b

  pub ordered_merged : (xs ys : List P) → All IsLong xs → All IsLong ys → AllPairs IsBefore xs → AllPairs IsBefore ys
      → AllPairs IsBefore (merged_points xs ys)
  ordered_merged [] ys a b p q = q
  ordered_merged (x ∷ xs) [] a b p q = p
  ordered_merged (x ∷ xs) (y ∷ ys) a b p q =
      by (point_cmp x y) refl (ordered_merged xs (y ∷ ys) one b left q) (ordered_merged xs ys one other left right)
      (ordered_merged (x ∷ xs) ys a other p right)
    where
      one : All IsLong xs
      one = All-tail IsLong x xs a

      other : All IsLong ys
      other = All-tail IsLong y ys b

      left : AllPairs IsBefore xs
      left = AllPairs-tail IsBefore x xs p

      right : AllPairs IsBefore ys
      right = AllPairs-tail IsBefore y ys q

      long : length x ≡ length y
      long = All-head IsLong x xs a ∙ sym (All-head IsLong y ys b)

      -- what comes before a list's first point comes before all of them
      chain : (v w : P) (ws : List P) → IsBefore v w → AllPairs IsBefore (w ∷ ws) → All (IsBefore v) (w ∷ ws)
      chain v w ws h rises =
          All-cons (IsBefore v) w ws h
          (All-weaker (IsBefore w) (IsBefore v) (λ u. IsBefore_trans v w u h) ws (AllPairs-head IsBefore w ws rises))

      by : (o : Ordering) → point_cmp x y ≡ o → AllPairs IsBefore (merged_points xs (y ∷ ys)) → AllPairs IsBefore (merged_points xs ys)
          → AllPairs IsBefore (merged_points (x ∷ xs) ys)
          → AllPairs IsBefore (match_ordering o (x ∷ merged_points xs (y ∷ ys)) (x ∷ merged_points xs ys) (y ∷ merged_points (x ∷ xs) ys))
      by Less is f g h =
          AllPairs-cons IsBefore x (merged_points xs (y ∷ ys))
          (all_merged (IsBefore x) xs (y ∷ ys) (AllPairs-head IsBefore x xs p) (chain x y ys (before_from_cmp x y long is) q)) f
      by Equal is f g h =
          AllPairs-cons IsBefore x (merged_points xs ys)
          (all_merged (IsBefore x) xs ys (AllPairs-head IsBefore x xs p)
          (subst (λ v. All (IsBefore v) ys) (sym (same_point x y is)) (AllPairs-head IsBefore y ys q))) g
      by Greater is f g h =
          AllPairs-cons IsBefore y (merged_points (x ∷ xs) ys)
          (all_merged (IsBefore y) (x ∷ xs) ys (chain y x xs (after_from_cmp x y long is) p) (AllPairs-head IsBefore y ys q)) h
