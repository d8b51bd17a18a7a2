-- What vanishes at more and more points, until only what vanishes everywhere is left.
use Rattle.std.proofs.Common.{◌≡◌, ◌≢◌, ◌∙◌, refl, sym, ap, ap₂, arith, ℤ, pos, ◌+ℤ◌, ◌-ℤ◌, ◌*ℤ◌, List, [], ◌∷◌, ◌++◌, map}
use Rattle.std.specs.List.{AllByRecursion, AllZip}
use Rattle.isl_math.proofs.Ring.{expand, linear}
use Rattle.isl_math.proofs.OrderLaws.{≡-from_*ℤ}
use Rattle.isl_span.specs.Spanned.{Fun, total, IsMultipleOf, IsSpanned, exchanged}

-- functions that vanish at a point: so do their sums
pub total-zero : (factors : List ℤ) (gs : List Fun) (x : List ℤ) → AllByRecursion (λ (g : Fun). g x ≡ pos 0) gs → total factors gs x ≡ pos 0
total-zero [] gs x all = refl
total-zero (a ∷ factors) [] x all = refl
total-zero (a ∷ factors) (g ∷ gs) x all = by (g x) (total factors gs x) all.0 (total-zero factors gs x all.1)
  where
    by : (u v : ℤ) → u ≡ pos 0 → v ≡ pos 0 → a *ℤ u +ℤ v ≡ pos 0
    by u v p q = let m = simp expand at (ap (λ w. a *ℤ w) p) in simp expand (omega (arith, linear, m, q))

total-exchanged : (h : Fun) (q : List ℤ) (factors : List ℤ) (gs : List Fun) (x : List ℤ)
    → total factors (map (exchanged h q) gs) x ≡ h q *ℤ total factors gs x -ℤ total factors gs q *ℤ h x
total-exchanged h q [] gs x = by (h q) (h x)
  where
    by : (u v : ℤ) → pos 0 ≡ u *ℤ pos 0 -ℤ pos 0 *ℤ v
    by u v = simp expand (omega (arith, linear))
total-exchanged h q (a ∷ factors) [] x = by (h q) (h x)
  where
    by : (u v : ℤ) → pos 0 ≡ u *ℤ pos 0 -ℤ pos 0 *ℤ v
    by u v = simp expand (omega (arith, linear))
total-exchanged h q (a ∷ factors) (g ∷ gs) x =
    by (h q) (h x) (g x) (g q) (total factors gs x) (total factors gs q) (total factors (map (exchanged h q) gs) x)
    (total-exchanged h q factors gs x)
  where
    by : (u v gx gq t s e : ℤ) → e ≡ u *ℤ t -ℤ s *ℤ v
        → a *ℤ (u *ℤ gx -ℤ gq *ℤ v) +ℤ e ≡ u *ℤ (a *ℤ gx +ℤ t) -ℤ (a *ℤ gq +ℤ s) *ℤ v
    by u v gx gq t s e is = let m = simp expand at is in simp expand (omega (arith, linear, m))

pub no_zero_product : (u v : ℤ) → u ≢ pos 0 → v ≢ pos 0 → u *ℤ v ≢ pos 0
no_zero_product u v p q e = q (≡-from_*ℤ u v (pos 0) p (e ∙ by))
  where
    by : pos 0 ≡ u *ℤ pos 0
    by = simp expand (omega (arith, linear))

scaled_by : (k : ℤ) (factors : List ℤ) (gs : List Fun) (x : List ℤ) → total (map (λ a. k *ℤ a) factors) gs x ≡ k *ℤ total factors gs x
scaled_by k [] gs x = simp expand (omega (arith, linear))
scaled_by k (a ∷ factors) [] x = simp expand (omega (arith, linear))
scaled_by k (a ∷ factors) (g ∷ gs) x = by (g x) (total factors gs x) (total (map (λ b. k *ℤ b) factors) gs x) (scaled_by k factors gs x)
  where
    by : (u t s : ℤ) → s ≡ k *ℤ t → k *ℤ a *ℤ u +ℤ s ≡ k *ℤ (a *ℤ u +ℤ t)
    by u t s is = let m = simp expand at is in simp expand (omega (arith, linear, m))

-- a point at which h is not 0: what vanishes there too is a sum of the others, made so that they vanish there
pub exchange : (proved gs : List Fun) (h f : Fun) (q : List ℤ) → h q ≢ pos 0 → f q ≡ pos 0
    → AllByRecursion (λ (g : Fun). g q ≡ pos 0) proved
    → IsSpanned proved (h ∷ gs) f → IsSpanned proved (map (exchanged h q) gs) f
exchange proved gs h f q other here zeros s = by s.second s.is
  where
    none : (second : List ℤ) → (a : ℤ) × (rest : List ℤ) × ((x : List ℤ) → total second (h ∷ gs) x ≡ a *ℤ h x +ℤ total rest gs x)
    none [] = (pos 0, [], λ x. nothing (h x))
      where
        nothing : (v : ℤ) → pos 0 ≡ pos 0 *ℤ v +ℤ pos 0
        nothing v = simp expand (omega (arith, linear))
    none (a ∷ rest) = (a, rest, λ x. refl)

    by : (second : List ℤ) → ((x : List ℤ) → s.times *ℤ f x ≡ total s.first proved x +ℤ total second (h ∷ gs) x)
        → IsSpanned proved (map (exchanged h q) gs) f
    by second is =
        let parts = none second in
        record {
          times = s.times *ℤ h q;
          nonzero = no_zero_product s.times (h q) s.nonzero other;
          first = map (λ a. h q *ℤ a) s.first;
          second = parts.1;
          is = λ x.
              at (h q) (h x) s.times (f x) (f q) (total s.first proved x) (total s.first proved q) parts.0 (total parts.1 gs x)
              (total parts.1 gs q)
              here (total-zero s.first proved q zeros) (is x ∙ ap (λ t. total s.first proved x +ℤ t) (parts.2 x))
              (is q ∙ ap (λ t. total s.first proved q +ℤ t) (parts.2 q))
              ∙ sym (ap₂ (λ u v. u +ℤ v) (scaled_by (h q) s.first proved x) (total-exchanged h q parts.1 gs x));
        }
      where
        at : (u v m fx fq px pq a t r : ℤ) → fq ≡ pos 0 → pq ≡ pos 0 → m *ℤ fx ≡ px +ℤ (a *ℤ v +ℤ t) → m *ℤ fq ≡ pq +ℤ (a *ℤ u +ℤ r)
            → m *ℤ u *ℤ fx ≡ u *ℤ px +ℤ (u *ℤ t -ℤ r *ℤ v)
        at u v m fx fq px pq a t r zf zp e d =
            let one = simp expand at (ap (λ w. u *ℤ w) e) in
            let last : r ≡ pos 0 -ℤ a *ℤ u = let n = simp expand at (ap (λ w. m *ℤ w) zf) in let k = simp expand at d in
            simp expand (omega (arith, linear, n, k, zp)) in
            let two = simp expand at (ap (λ w. w *ℤ v) last) in
            simp expand (omega (arith, linear, one, two))

-- h is proved to vanish
pub proved_more : (proved gs : List Fun) (h f : Fun) → IsSpanned proved (h ∷ gs) f → IsSpanned (h ∷ proved) gs f
proved_more proved gs h f s = by s.second s.is
  where
    by : (second : List ℤ) → ((x : List ℤ) → s.times *ℤ f x ≡ total s.first proved x +ℤ total second (h ∷ gs) x)
        → IsSpanned (h ∷ proved) gs f
    by [] is = record {
      times = s.times;
      nonzero = s.nonzero;
      first = pos 0 ∷ s.first;
      second = [];
      is = λ x. is x ∙ at (h x) (total s.first proved x);
    }
      where
        at : (v p : ℤ) → p +ℤ pos 0 ≡ pos 0 *ℤ v +ℤ p +ℤ pos 0
        at v p = simp expand (omega (arith, linear))
    by (a ∷ rest) is = record {
      times = s.times;
      nonzero = s.nonzero;
      first = a ∷ s.first;
      second = rest;
      is = λ x. is x ∙ at (a *ℤ h x) (total s.first proved x) (total rest gs x);
    }
      where
        at : (v p t : ℤ) → p +ℤ (v +ℤ t) ≡ v +ℤ p +ℤ t
        at v p t = omega (arith, linear)

-- where all that were proved to vanish do, what is spanned by them does
pub vanishes : (proved : List Fun) (f : Fun) (x : List ℤ) → IsSpanned proved [] f → AllByRecursion (λ (g : Fun). g x ≡ pos 0) proved
    → f x ≡ pos 0
vanishes proved f x s zeros =
    ≡-from_*ℤ s.times (f x) (pos 0) s.nonzero
    (s.is x ∙ by (total s.first proved x) (total s.second [] x) (total-zero s.first proved x zeros) (nothing s.second))
  where
    nothing : (second : List ℤ) → total second [] x ≡ pos 0
    nothing [] = refl
    nothing (a ∷ rest) = refl

    by : (u v : ℤ) → u ≡ pos 0 → v ≡ pos 0 → u +ℤ v ≡ s.times *ℤ pos 0
    by u v p q = simp expand (omega (arith, linear, p, q))

-- ---- the last of several
-- a sum over a list is one over its last function and the others
last_apart : (factors : List ℤ) (gs : List Fun) (h : Fun)
    → (a : ℤ) × (rest : List ℤ) × ((x : List ℤ) → total factors (gs ++ h ∷ []) x ≡ a *ℤ h x +ℤ total rest gs x)
last_apart [] gs h = (pos 0, [], λ x. by (h x))
  where
    by : (v : ℤ) → pos 0 ≡ pos 0 *ℤ v +ℤ pos 0
    by v = simp expand (omega (arith, linear))
last_apart (b ∷ factors) [] h = (b, [], λ x. by (b *ℤ h x) (total factors [] x) (nothing factors x))
  where
    nothing : (factors : List ℤ) (x : List ℤ) → total factors [] x ≡ pos 0
    nothing [] x = refl
    nothing (c ∷ factors) x = refl

    by : (u v : ℤ) → v ≡ pos 0 → u +ℤ v ≡ u +ℤ pos 0
    by u v e = omega (arith, linear)
last_apart (b ∷ factors) (g ∷ gs) h =
    let r = last_apart factors gs h in
    (r.0, b ∷ r.1, λ x. by (b *ℤ g x) (r.0 *ℤ h x) (total r.1 gs x) (total factors (gs ++ h ∷ []) x) (r.2 x))
  where
    by : (u v t s : ℤ) → s ≡ v +ℤ t → u +ℤ s ≡ v +ℤ (u +ℤ t)
    by u v t s e = omega (arith, linear)

pub last_first : (proved gs : List Fun) (h f : Fun) → IsSpanned proved (gs ++ h ∷ []) f → IsSpanned proved (h ∷ gs) f
last_first proved gs h f s =
    let r = last_apart s.second gs h in
    record {
      times = s.times;
      nonzero = s.nonzero;
      first = s.first;
      second = r.0 ∷ r.1;
      is = λ x. s.is x ∙ ap (λ t. total s.first proved x +ℤ t) (r.2 x);
    }

-- ---- divided functions
multiples_total : (gs hs : List Fun) → AllZip IsMultipleOf gs hs → (factors : List ℤ)
    → (rest : List ℤ) × ((x : List ℤ) → total factors gs x ≡ total rest hs x)
multiples_total gs hs all [] = ([], λ x. refl)
multiples_total [] [] all (a ∷ factors) = ([], λ x. refl)
multiples_total [] (h ∷ hs) all (a ∷ factors) = absurd all
multiples_total (g ∷ gs) [] all (a ∷ factors) = absurd all
multiples_total (g ∷ gs) (h ∷ hs) all (a ∷ factors) =
    let m = all.0 in
    let r = multiples_total gs hs all.1 factors in
    ((a *ℤ m.factor) ∷ r.0, λ x. by m.factor (g x) (h x) (total factors gs x) (total r.0 hs x) (m.is x) (r.1 x))
  where
    by : (d u v s t : ℤ) → u ≡ d *ℤ v → s ≡ t → a *ℤ u +ℤ s ≡ a *ℤ d *ℤ v +ℤ t
    by d u v s t e f = let m = simp expand at (ap (λ w. a *ℤ w) e) in simp expand (omega (arith, linear, m, f))

pub spanned_divided : (proved gs hs : List Fun) (f : Fun) → AllZip IsMultipleOf gs hs → IsSpanned proved gs f → IsSpanned proved hs f
spanned_divided proved gs hs f all s =
    let r = multiples_total gs hs all s.second in
    record {
      times = s.times;
      nonzero = s.nonzero;
      first = s.first;
      second = r.0;
      is = λ x. s.is x ∙ ap (λ t. total s.first proved x +ℤ t) (r.1 x);
    }

pub divided_zero : (f g : Fun) (x : List ℤ) → IsMultipleOf f g → f x ≡ pos 0 → g x ≡ pos 0
divided_zero f g x m zero = ≡-from_*ℤ m.factor (g x) (pos 0) m.nonzero (sym (m.is x) ∙ zero ∙ by m.factor)
  where
    by : (d : ℤ) → pos 0 ≡ d *ℤ pos 0
    by d = simp expand (omega (arith, linear))

pub divided_other : (f g : Fun) (x : List ℤ) → IsMultipleOf f g → f x ≢ pos 0 → g x ≢ pos 0
divided_other f g x m other zero = other (m.is x ∙ ap (λ w. m.factor *ℤ w) zero ∙ by m.factor)
  where
    by : (d : ℤ) → d *ℤ pos 0 ≡ pos 0
    by d = simp expand (omega (arith, linear))
