-- Functions that have points of their own: exchanged for one of them, and none of them needless.
use Rattle.std.proofs.Common.{◌≡◌, ◌≢◌, ap, arith, ℤ, pos, ◌-ℤ◌, ◌*ℤ◌, List, [], ◌∷◌, ◌++◌, map}
use Rattle.std.specs.List.{AllByRecursion, AllZip}
use Rattle.isl_math.proofs.Ring.{expand, linear}
use Rattle.isl_span.specs.Spanned.{Fun, HaveOwn, IsMultipleOf, Vanish, VanishesAt, exchanged}
use Rattle.isl_span.proofs.SpannedLaws.{divided_other, divided_zero, no_zero_product}

-- ---- lists
pub both_all : {X : Type 0} (P Q : X → Type 0) (xs : List X) → AllByRecursion P xs → AllByRecursion Q xs
    → AllByRecursion (λ x. P x × Q x) xs
both_all P Q [] p q = tt
both_all P Q (x ∷ xs) p q = ((p.0, q.0), both_all P Q xs p.1 q.1)

pub all_weaker : {X : Type 0} (P Q : X → Type 0) → ((x : X) → P x → Q x) → (xs : List X) → AllByRecursion P xs → AllByRecursion Q xs
all_weaker P Q f [] p = tt
all_weaker P Q f (x ∷ xs) p = (f x p.0, all_weaker P Q f xs p.1)

pub all_parts : {X : Type 0} (P : X → Type 0) (xs ys : List X) → AllByRecursion P (xs ++ ys) → AllByRecursion P xs × AllByRecursion P ys
all_parts P [] ys all = (tt, all)
all_parts P (x ∷ xs) ys all = let r = all_parts P xs ys all.1 in ((all.0, r.0), r.1)

pub all_append : {X : Type 0} (P : X → Type 0) (xs ys : List X) → AllByRecursion P xs → AllByRecursion P ys → AllByRecursion P (xs ++ ys)
all_append P [] ys p q = q
all_append P (x ∷ xs) ys p q = (p.0, all_append P xs ys p.1 q)

-- ---- a point of its own
-- each function has a point at which it is not 0, and all others are
pub own_point : (Q : List ℤ → Type 0) (before : List Fun) (g : Fun) (behind : List Fun) (xs : List (List ℤ)) → AllByRecursion Q xs
    → HaveOwn (before ++ g ∷ behind) xs → (x : List ℤ) × Q x × (g x ≢ pos 0) × Vanish before x × Vanish behind x
own_point Q [] g behind [] all own = absurd own
own_point Q [] g behind (x ∷ xs) all own = (x, all.0, own.0, tt, own.1)
own_point Q (k ∷ before) g behind [] all own = absurd own
own_point Q (k ∷ before) g behind (x ∷ xs) all own =
    let r = own_point (λ y. Q y × (k y ≡ pos 0)) before g behind xs (both_all Q (λ y. k y ≡ pos 0) xs all.1 own.2) own.3 in
    (r.0, r.1.0, r.2, (r.1.1, r.3), r.4)

-- ---- exchanged functions
exchanged_zero : (h g : Fun) (q x : List ℤ) → h x ≡ pos 0 → g x ≡ pos 0 → exchanged h q g x ≡ pos 0
exchanged_zero h g q x zh zg = by (h q) (g q) (h x) (g x) zh zg
  where
    by : (a b u v : ℤ) → u ≡ pos 0 → v ≡ pos 0 → a *ℤ v -ℤ b *ℤ u ≡ pos 0
    by a b u v e f =
        let m = simp expand at (ap (λ w. b *ℤ w) e) in
        let n = simp expand at (ap (λ w. a *ℤ w) f) in
        simp expand (omega (arith, linear, m, n))

exchanged_other : (h g : Fun) (q x : List ℤ) → h q ≢ pos 0 → h x ≡ pos 0 → g x ≢ pos 0 → exchanged h q g x ≢ pos 0
exchanged_other h g q x nonzero zh other is = no_zero_product (h q) (g x) nonzero other (by (h q) (g q) (h x) (g x) zh is)
  where
    by : (a b u v : ℤ) → u ≡ pos 0 → a *ℤ v -ℤ b *ℤ u ≡ pos 0 → a *ℤ v ≡ pos 0
    by a b u v e f =
        let m = simp expand at (ap (λ w. b *ℤ w) e) in
        let n = simp expand at f in
        simp expand (omega (arith, linear, m, n))

module _ (h : Fun) (q : List ℤ) where
  vanish_exchanged : (gs proved : List Fun) (x : List ℤ) → Vanish (gs ++ h ∷ proved) x → Vanish (map (exchanged h q) gs ++ proved) x
  vanish_exchanged gs proved x all =
      let parts = all_parts (λ (g : Fun). g x ≡ pos 0) gs (h ∷ proved) all in
      all_append (λ (g : Fun). g x ≡ pos 0) (map (exchanged h q) gs) proved (by gs parts.1.0 parts.0) parts.1.1
    where
      by : (gs : List Fun) → h x ≡ pos 0 → Vanish gs x → Vanish (map (exchanged h q) gs) x
      by [] zero all = tt
      by (g ∷ gs) zero all = (exchanged_zero h g q x zero all.0, by gs zero all.1)

  -- all but h keep their points
  pub own_exchanged : h q ≢ pos 0 → (gs proved : List Fun) (xs : List (List ℤ)) → HaveOwn (gs ++ h ∷ proved) xs
      → (ys : List (List ℤ)) × HaveOwn (map (exchanged h q) gs ++ proved) ys
      × ((Q : List ℤ → Type 0) → AllByRecursion Q xs → AllByRecursion Q ys) × VanishesAt h ys
  own_exchanged nonzero [] proved [] own = absurd own
  own_exchanged nonzero [] proved (x ∷ xs) own = (xs, own.3, λ Q all. all.1, own.2)
  own_exchanged nonzero (g ∷ gs) proved [] own = absurd own
  own_exchanged nonzero (g ∷ gs) proved (x ∷ xs) own =
      let r = own_exchanged nonzero gs proved xs own.3 in
      let here : h x ≡ pos 0 = (all_parts (λ (k : Fun). k x ≡ pos 0) gs (h ∷ proved) own.1).1.0 in
      let zeros = both_all (λ y. h y ≡ pos 0) (λ y. g y ≡ pos 0) r.0 r.3 (r.2 (λ y. g y ≡ pos 0) own.2) in (
        x ∷ r.0,
        (
          exchanged_other h g q x nonzero here own.0,
          vanish_exchanged gs proved x own.1,
          all_weaker (λ y. (h y ≡ pos 0) × (g y ≡ pos 0)) (λ y. exchanged h q g y ≡ pos 0) (λ y z. exchanged_zero h g q y z.0 z.1) r.0
              zeros,
          r.1,
        ),
        λ Q all. (all.0, r.2 Q all.1),
        (here, r.3),
      )

-- ---- divided functions
vanish_divided : (gs hs proved : List Fun) (x : List ℤ) → AllZip IsMultipleOf gs hs → Vanish (gs ++ proved) x → Vanish (hs ++ proved) x
vanish_divided [] [] proved x all zeros = zeros
vanish_divided [] (h ∷ hs) proved x all zeros = absurd all
vanish_divided (g ∷ gs) [] proved x all zeros = absurd all
vanish_divided (g ∷ gs) (h ∷ hs) proved x all zeros = (divided_zero g h x all.0 zeros.0, vanish_divided gs hs proved x all.1 zeros.1)

pub vanish_all_divided : (h : Fun) (q : List ℤ) (gs hs proved : List Fun) (x : List ℤ) → AllZip IsMultipleOf (map (exchanged h q) gs) hs
    → Vanish (gs ++ h ∷ proved) x → Vanish (hs ++ proved) x
vanish_all_divided h q gs hs proved x all zeros =
    vanish_divided (map (exchanged h q) gs) hs proved x all (vanish_exchanged h q gs proved x zeros)

pub own_divided : (gs hs proved : List Fun) (xs : List (List ℤ)) → AllZip IsMultipleOf gs hs → HaveOwn (gs ++ proved) xs
    → HaveOwn (hs ++ proved) xs
own_divided [] [] proved xs all own = own
own_divided [] (h ∷ hs) proved xs all own = absurd all
own_divided (g ∷ gs) [] proved xs all own = absurd all
own_divided (g ∷ gs) (h ∷ hs) proved [] all own = absurd own
own_divided (g ∷ gs) (h ∷ hs) proved (x ∷ xs) all own = (
  divided_other g h x all.0 own.0,
  vanish_divided gs hs proved x all.1 own.1,
  all_weaker (λ y. g y ≡ pos 0) (λ y. h y ≡ pos 0) (λ y zero. divided_zero g h y all.0 zero) xs own.2,
  own_divided gs hs proved xs all.1 own.3,
)
