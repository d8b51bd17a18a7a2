-- The greatest list with a number more is the greatest list, with that number put in.
use Rattle.std.proofs.Common.{◌≡◌, ◌⊎◌, inl, inr, refl, sym, ap, ◌∙◌, subst, arith, ℕ, zero, suc, ◌+◌, ◌<◌, ◌≤◌, ℤ, pos, ◌<ℤ◌, ◌≤ℤ◌, List, [], ◌∷◌, get_or, length, take, Option, Some, None}
use Rattle.std.specs.Prelude.{option_map}
use Rattle.std.specs.List.{insert, remove}
use Rattle.isl_math.specs.Order.{IsBefore}
use Rattle.isl_math.proofs.OrderLaws.{cases_ℤ, IsBefore-cases, IsBefore_asym, IsBefore_irrefl}
use Rattle.isl_math.proofs.Ring.{linear}
use Rattle.isl_greatest_law.specs.Front.{GivesGreatest, IsGreatest}
use Rattle.isl_pip_law.specs.Lift.{AreLifted, IsTold}

-- ---- lists
pub put_back : (xs : List ℤ) (i : ℕ) → i < length xs → insert (remove xs i) i (get_or xs i (pos 0)) ≡ xs
put_back [] i l = absurd (omega (arith, l))
put_back (x ∷ xs) zero l = refl
put_back (x ∷ xs) (suc i) l = ap (λ ys. x ∷ ys) (put_back xs i (omega (arith, l)))

pub taken_back : (xs : List ℤ) (i : ℕ) (z : ℤ) → i ≤ length xs → remove (insert xs i z) i ≡ xs
taken_back xs zero z l = refl
taken_back [] (suc i) z l = absurd (omega (arith, l))
taken_back (x ∷ xs) (suc i) z l = ap (λ ys. x ∷ ys) (taken_back xs i z (omega (arith, l)))

same_more : (u w : ℤ) (us ws : List ℤ) → u ≡ w → us ≡ ws → (u ∷ us) ≡ (w ∷ ws)
same_more u w us ws e f = cc

before_put : (i : ℕ) (us ws : List ℤ) (y z : ℤ) → length us ≡ length ws → i < length us
    → (take i us ≡ take i ws → get_or us i (pos 0) ≤ℤ get_or ws i (pos 0) → y ≤ℤ z)
    → (take i us ≡ take i ws → get_or ws i (pos 0) ≤ℤ get_or us i (pos 0) → z ≤ℤ y)
    → IsBefore us ws → IsBefore (insert us i y) (insert ws i z)
before_put i [] ws y z e l up down h = absurd (omega (arith, l))
before_put i (u ∷ us) [] y z e l up down h = absurd (omega (arith, e))
before_put zero (u ∷ us) (w ∷ ws) y z e l up down (inl less) =
    let le : u ≤ℤ w = omega (arith, linear, less) in
    let low = up refl le in
    elim (cases_ℤ y z) [
      | inl below ↦ inl below
      | inr other ↦ elim other [ inl same ↦ inr (same, inl less) | inr above ↦ absurd (omega (arith, linear, low, above)) ]
    ]
before_put zero (u ∷ us) (w ∷ ws) y z e l up down (inr rest) =
    let same = rest.0 in
    let le : u ≤ℤ w = omega (arith, linear, same) in
    let ge : w ≤ℤ u = omega (arith, linear, same) in
    let low = up refl le in
    let high = down refl ge in
    inr (omega (arith, linear, low, high), inr rest)
before_put (suc i) (u ∷ us) (w ∷ ws) y z e l up down (inl less) = inl less
before_put (suc i) (u ∷ us) (w ∷ ws) y z e l up down (inr rest) =
    inr (
      rest.0,
      before_put i us ws y z (omega (arith, e)) (omega (arith, l))
          (λ same le. up (same_more u w (take i us) (take i ws) rest.0 same) le)
          (λ same le. down (same_more u w (take i us) (take i ws) rest.0 same) le) rest.1,
    )

-- ---- the greatest
module _ (w place : ℕ) (Told : List ℤ → ℤ → Type 0) (P Lifted : List ℤ → Type 0) (t : IsTold w place Told) (are : AreLifted w place Told P Lifted) where
  put_before : (us ws : List ℤ) (y z : ℤ) → length us ≡ w → length ws ≡ w → Told us y → Told ws z → IsBefore us ws
      → IsBefore (insert us place y) (insert ws place z)
  put_before us ws y z a b told other before =
      before_put place us ws y z (a ∙ sym b) (let i = are.inside in omega (arith, i, a))
      (λ same le. t.rises us ws y z a b same le told other) (λ same le. t.rises ws us z y b a (sym same) le other told) before

  taken_before : (us ws : List ℤ) (y z : ℤ) → length us ≡ w → length ws ≡ w → Told us y → Told ws z
      → IsBefore (insert us place y) (insert ws place z) → IsBefore us ws
  taken_before us ws y z a b told other before = elim (IsBefore-cases us ws (a ∙ sym b)) [
    | inl less ↦ less
    | inr rest ↦ elim rest [
      | inr behind ↦ absurd (IsBefore_asym (insert us place y) (insert ws place z) before (put_before ws us z y b a other told behind))
      | inl same ↦
          let low = t.rises us ws y z a b (ap (take place) same) (as_great us ws same) told other in
          let high = t.rises ws us z y b a (ap (take place) (sym same)) (as_great ws us (sym same)) other told in
          let number : z ≡ y = omega (arith, linear, low, high) in
          absurd (IsBefore_irrefl (insert us place y) (subst (IsBefore (insert us place y))
          (ap (λ x. insert ws place x) number ∙ ap (λ xs. insert xs place y) (sym same)) before))
    ]
  ]
    where
      as_great : (xs ys : List ℤ) → xs ≡ ys → get_or xs place (pos 0) ≤ℤ get_or ys place (pos 0)
      as_great xs ys e = let g = ap (λ (l : List ℤ). get_or l place (pos 0)) e in omega (arith, linear, g)

  whole : (xs : List ℤ) → Lifted xs → insert (remove xs place) place (get_or xs place (pos 0)) ≡ xs
  whole xs h = put_back xs place (let l = are.longer xs h in let i = are.inside in omega (arith, l, i))

  long_taken : (xs : List ℤ) → Lifted xs → length (remove xs place) ≡ w
  long_taken xs h = are.long (remove xs place) (are.taken xs h)

  pub greatest_taken : (xs : List ℤ) → IsGreatest Lifted xs → IsGreatest P (remove xs place)
  greatest_taken xs most = (
    are.taken xs most.0,
    λ ws is before.
        let z = t.some ws (are.long ws is) in
        most.1 (insert ws place z.0) (are.put ws z.0 is z.1)
        (subst (λ l. IsBefore l (insert ws place z.0)) (whole xs most.0)
        (put_before (remove xs place) ws (get_or xs place (pos 0)) z.0 (long_taken xs most.0) (are.long ws is) (are.told xs most.0) z.1 before)),
  )

  pub greatest_put : (us : List ℤ) → IsGreatest P us → (xs : List ℤ) × IsGreatest Lifted xs
  greatest_put us most =
      let y = t.some us (are.long us most.0) in (
        insert us place y.0,
        (
          are.put us y.0 most.0 y.1,
          λ xs is before.
              most.1 (remove xs place) (are.taken xs is)
              (taken_before us (remove xs place) y.0 (get_or xs place (pos 0)) (are.long us most.0) (long_taken xs is) y.1 (are.told xs is)
              (subst (IsBefore (insert us place y.0)) (sym (whole xs is)) before)),
        ),
      )

  pub gives_taken : (r : Option (List ℤ)) → GivesGreatest Lifted r → GivesGreatest P (option_map (λ xs. remove xs place) r)
  gives_taken None none = λ us is. let z = t.some us (are.long us is) in none (insert us place z.0) (are.put us z.0 is z.1)
  gives_taken (Some xs) most = greatest_taken xs most

  pub has_put : ((us : List ℤ) → P us → (ys : List ℤ) × IsGreatest P ys) → (xs : List ℤ) → Lifted xs → (zs : List ℤ) × IsGreatest Lifted zs
  has_put has xs is = let most = has (remove xs place) (are.taken xs is) in greatest_put most.0 most.1
