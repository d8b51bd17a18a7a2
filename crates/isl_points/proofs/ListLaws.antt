-- Lists, one element after another.
use Rattle.std.proofs.Common.{◌≡◌, ◌↔◌, ◌⊎◌, ◌∙◌, inl, inr, refl, sym, ap, subst, arith, ℕ, ◌+◌}
use Rattle.std.proofs.Common.{◌-◌, ◌<◌, ℤ, ◌<ℤ◌, List, [], ◌∷◌, ◌++◌, length, get_or, take, length-append}
use Rattle.std.specs.List.{All, AllPairs, Contains}
use Rattle.std.proofs.lemmas.Bool.{cases_lt}
use Rattle.std.proofs.lemmas.List.{take_more, get_or_append_left, get_or-append_right}
use Rattle.std.proofs.lemmas.List.Elements.{All-more, Contains-append_left, Contains-push, Contains-push_cases, Contains-get_or}
use Rattle.isl_points.specs.Line.{AreNumbersOf}
use Rattle.isl_math.proofs.ListLaws.{All-last}

-- one element more
pub all_more : {X : Type 0} (P : X → Type 0) (xs : List X) (i : ℕ) (x : X) → i < length xs → x ≡ get_or xs i x
    → All P (take (i + 1) xs) ↔ (All P (take i xs) × P x)
all_more {X} P xs i x l e =
    let more : take (i + 1) xs ≡ take i xs ++ x ∷ [] = take_more xs i x l ∙ ap (λ (y : X). take i xs ++ y ∷ []) (sym e) in (
      (λ a. All-last P (take i xs) x (subst (All P) more a)),
      (λ a. All-more P xs i x l a.0 (subst P e a.1)),
    )

-- two lists behind one another
pub pairs_append : {X : Type 0} (R : X → X → Type 0) (xs ys : List X) → AllPairs R xs → AllPairs R ys
    → ((x y : X) → Contains xs x → Contains ys y → R x y) → AllPairs R (xs ++ ys)
pairs_append R xs ys p q cross i j d below inside =
    let long = length-append xs ys in
    elim (cases_lt j (length xs)) [
      | inl early ↦ rw (get_or_append_left xs ys d i (omega arith), get_or_append_left xs ys d j early) (p i j d below early)
      | inr late ↦ elim (cases_lt i (length xs)) [
        | inl early ↦ rw (get_or_append_left xs ys d i early, get_or-append_right xs ys (length xs) j d refl late)
            (cross (get_or xs i d) (get_or ys (j - length xs) d) (Contains-get_or xs i d early)
            (Contains-get_or ys (j - length xs) d (omega arith)))
        | inr later ↦ rw (get_or-append_right xs ys (length xs) i d refl later, get_or-append_right xs ys (length xs) j d refl late)
            (q (i - length xs) (j - length xs) d (omega arith) (omega arith))
      ]
    ]

pairs_one : {X : Type 0} (R : X → X → Type 0) (y : X) → AllPairs R (y ∷ [])
pairs_one R y i j d below inside = absurd (omega (arith, below, inside))

pub contains_one : {X : Type 0} (y x : X) → Contains (y ∷ []) x → y ≡ x
contains_one {X} y x c = elim (Contains-push_cases [] y x c) [
  | inl none ↦ absurd (let l = none.1 in omega (arith, l))
  | inr e ↦ e
]

-- ---- numbers in ascending order
pub no_numbers : (P : ℤ → Type 0) → ((x : ℤ) → ¬ P x) → AreNumbersOf P []
no_numbers P n = record {
  exact = λ x. ((λ c. absurd (let l = c.1 in omega (arith, l))), (λ p. absurd (n x p)));
  ordered = λ i j d below inside. absurd (omega (arith, below, inside));
}

pub same_numbers : (P Q : ℤ → Type 0) (xs : List ℤ) → ((x : ℤ) → P x ↔ Q x) → AreNumbersOf P xs → AreNumbersOf Q xs
same_numbers P Q xs s a = record {
  exact = λ x. ((λ c. (s x).0 ((a.exact x).0 c)), (λ q. (a.exact x).1 ((s x).1 q)));
  ordered = a.ordered;
}

-- one number more, above the others
pub numbers_push : (P Q : ℤ → Type 0) (xs : List ℤ) (y : ℤ) → AreNumbersOf P xs → ((x : ℤ) → P x → x <ℤ y)
    → ((x : ℤ) → (P x ⊎ (y ≡ x)) ↔ Q x)
    → AreNumbersOf Q (xs ++ y ∷ [])
numbers_push P Q xs y a low s = record {
  exact = λ x. (
    (λ c. (s x).0 (elim (Contains-push_cases xs y x c) [ inl before ↦ inl ((a.exact x).0 before) | inr e ↦ inr e ])),
    (λ q. elim ((s x).1 q) [
      | inl p ↦ Contains-append_left xs (y ∷ []) x ((a.exact x).1 p)
      | inr e ↦ subst (λ (z : ℤ). Contains (xs ++ y ∷ []) z) e (Contains-push xs y)
    ]),
  );
  ordered = pairs_append (λ b c. b <ℤ c) xs (y ∷ []) a.ordered (pairs_one (λ b c. b <ℤ c) y)
      (λ b c i j. subst (λ (z : ℤ). b <ℤ z) (contains_one y c j) (low b ((a.exact b).0 i)));
}
