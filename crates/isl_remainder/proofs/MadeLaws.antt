-- Lists that are made one part after another.
use Rattle.std.proofs.Common.{◌≡◌, ◌↔◌, inl, inr, sym, ap, ◌∙◌, subst, ℕ, ◌+◌, ◌<◌, ◌≤◌, List, [], ◌∷◌, ◌++◌, append_assoc, All, Any}
use Rattle.std.proofs.Common.{length, get_or, take}
use Rattle.std.proofs.lemmas.List.{take_all, take_more}
use Rattle.std.proofs.lemmas.List.Elements.{All-append, All-cons, All-head, All-nil}
use Rattle.isl_math.proofs.ListLaws.{All-parts, Any-first, Any-left, Any-none, Any-one, Any-parts, Any-right}
use Rattle.isl_remainder.specs.Made.{AreMade}

-- ---- a list of which some are done, and one is next
module _ {A : Type 0} (xs done rest : List A) (x : A) (split : done ++ x ∷ rest ≡ xs) where
  pub split_next : (done ++ x ∷ []) ++ rest ≡ xs
  split_next = append_assoc done (x ∷ []) rest ∙ split

  pub next_has : (P : A → Type 0) → All P xs → P x
  next_has P all = All-head P x rest (All-parts P done (x ∷ rest) (subst (All P) (sym split) all)).1

-- ---- lists that are made
module _ {I C : Type 0} (Has : I → C → Type 0) (K Plain : C → Type 0) (S : Type 0) where
  pub made_nothing : (P : I → Type 0) → ((i : I) → ¬ P i) → (made : List C) → made ≡ [] → AreMade Has K Plain S P made
  made_nothing P none made is = rw is (record {
    has = λ i. ((λ a. absurd (Any-none (Has i) a)), (λ p. absurd (none i p)));
    sound = All-nil K;
    plain = λ s. All-nil Plain;
  })

  -- the thing alone
  pub made_one : (c : C) → K c → (S → Plain c) → AreMade Has K Plain S (λ i. Has i c) (c ∷ [])
  made_one c sound plain = record {
    has = λ i. ((λ a. Any-one (Has i) c a), (λ h. Any-first (Has i) c [] h));
    sound = All-cons K c [] sound (All-nil K);
    plain = λ s. All-cons Plain c [] (plain s) (All-nil Plain);
  }

  -- the same list, of weaker things
  pub made_same : (L : C → Type 0) (T : Type 0) (P Q : I → Type 0) → ((c : C) → K c → L c) → (T → S) → ((i : I) → P i ↔ Q i)
      → (made : List C) → AreMade Has K Plain S P made → AreMade Has L Plain T Q made
  made_same L T P Q weaker simple same made are = record {
    has = λ i.
        let a = are.has i in
        let b = same i in
        ((λ h. b.0 (a.0 h)), (λ h. a.1 (b.1 h)));
    sound = λ k d l. weaker (get_or made k d) (are.sound k d l);
    plain = λ t. are.plain (simple t);
  }

  module _ {A : Type 0} (Q : I → A → Type 0) (xs : List A) where
    pub made_none : (made : List C) → made ≡ [] → AreMade Has K Plain S (λ i. Any (Q i) (take 0 xs)) made
    made_none made is = made_nothing (λ i. Any (Q i) (take 0 xs)) (λ i a. Any-none (Q i) a) made is

    pub made_all : (n : ℕ) → length xs ≤ n → (made : List C) → AreMade Has K Plain S (λ i. Any (Q i) (take n xs)) made
        → AreMade Has K Plain S (λ i. Any (Q i) xs) made
    made_all n end made so_far =
        subst (λ (ys : List A). AreMade Has K Plain S (λ i. Any (Q i) ys) made) (take_all n xs end) so_far

    -- one more of them
    module _ (done : List A) (x : A) where
      pub made_behind : (L : C → Type 0) (T : Type 0) (P : I → Type 0) → ((c : C) → L c → K c) → (S → T) → ((i : I) → P i ↔ Q i x)
          → (made more pushed : List C) → pushed ≡ made ++ more → AreMade Has K Plain S (λ i. Any (Q i) done) made
          → AreMade Has L Plain T P more → AreMade Has K Plain S (λ i. Any (Q i) (done ++ x ∷ [])) pushed
      made_behind L T P weaker simple same made more pushed is so_far one = rw is (record {
        has = λ i.
            let a = so_far.has i in
            let b = one.has i in
            let c = same i in (
              (λ h. elim (Any-parts (Has i) made more h) [
                | inl y ↦ Any-left (Q i) done x_list (a.0 y)
                | inr y ↦ Any-right (Q i) done x_list (Any-first (Q i) x_item [] (c.0 (b.0 y)))
              ]),
              (λ h. elim (Any-parts (Q i) done x_list h) [
                | inl y ↦ Any-left (Has i) made more (a.1 y)
                | inr y ↦ Any-right (Has i) made more (b.1 (c.1 (Any-one (Q i) x_item y)))
              ]),
            );
        sound = All-append K made more so_far.sound (λ k d l. weaker (get_or more k d) (one.sound k d l));
        plain = λ s. All-append Plain made more (so_far.plain s) (one.plain (simple s));
      })
        where
          x_item : A
          x_item = x

          x_list : List A
          x_list = x ∷ []

    module _ (n : ℕ) (x : A) (low : n < length xs) (at : x ≡ get_or xs n x) where
      next : take (n + 1) xs ≡ take n xs ++ x ∷ []
      next = take_more xs n x low ∙ ap (λ y. take n xs ++ y ∷ []) (sym at)

      pub made_more : (L : C → Type 0) (T : Type 0) (P : I → Type 0) → ((c : C) → L c → K c) → (S → T) → ((i : I) → P i ↔ Q i x)
          → (made more pushed : List C) → pushed ≡ made ++ more → AreMade Has K Plain S (λ i. Any (Q i) (take n xs)) made
          → AreMade Has L Plain T P more → AreMade Has K Plain S (λ i. Any (Q i) (take (n + 1) xs)) pushed
      made_more L T P weaker simple same made more pushed is so_far one =
          subst (λ (ys : List A). AreMade Has K Plain S (λ i. Any (Q i) ys) pushed) (sym next)
          (made_behind (take n xs) x L T P weaker simple same made more pushed is so_far one)
