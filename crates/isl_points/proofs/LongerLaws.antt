-- Lists with one number more, in lexicographic order.
use Rattle.std.proofs.Common.{◌≡◌, ◌∙◌, inl, inr, refl, sym, ap, subst, arith, ℕ, ◌+◌, ◌^◌, ◌<◌, ℤ, ◌<ℤ◌, pos, unsigned_abs}
use Rattle.std.proofs.Common.{List, [], ◌∷◌, ◌++◌, length, get_or, take, length-append}
use Rattle.std.specs.List.{All, AllPairs, Contains}
use Rattle.std.proofs.lemmas.List.{get_or-map, get_or_default, length-map, take_more, get_or-take, length-take-le}
use Rattle.std.proofs.lemmas.List.Elements.{All-nil, All-cons, All-append, All-contains, Contains-append_left}
use Rattle.std.proofs.lemmas.List.Elements.{Contains-append_right, Contains-append_cases, Contains-push}
use Rattle.std.proofs.lemmas.List.Elements.{Contains-push_cases, Contains-get_or}
use Rattle.isl_math.specs.Order.{IsBefore}
use Rattle.isl_meter.specs.Gauge.{Gauge, IsWithin}
use Rattle.isl_meter.proofs.CutLemmas.{IsCharged_refl, IsCharged_trans}
use Rattle.isl_piece.specs.declared.system.System.{System}
use Rattle.isl_elim.specs.Elimination.{HoldsAtAny}
use Rattle.isl_tower.proofs.TowerLaws.{charged_limit}
use Rattle.isl_points.specs.Level.{AreLonger, IsLengthened, behind}
use Rattle.isl_points.proofs.ListLaws.{pairs_append}

-- ---- the order
before_append : (xs ys zs ws : List ℤ) → IsBefore xs ys → IsBefore (xs ++ zs) (ys ++ ws)
before_append [] ys zs ws h = absurd h
before_append (x ∷ xs) [] zs ws h = absurd h
before_append (x ∷ xs) (y ∷ ys) zs ws (inl l) = inl l
before_append (x ∷ xs) (y ∷ ys) zs ws (inr e) = inr (e.0, before_append xs ys zs ws e.1)

before_behind : (q : List ℤ) (x y : ℤ) → x <ℤ y → IsBefore (q ++ x ∷ []) (q ++ y ∷ [])
before_behind [] x y l = inl l
before_behind (z ∷ q) x y l = inr (refl, before_behind q x y l)

-- ---- a prefix and the numbers behind it
contains_behind : (q xs : List ℤ) (p : List ℤ) → Contains (behind q xs) p → (x : ℤ) × Contains xs x × (q ++ x ∷ [] ≡ p)
contains_behind q xs p c =
    let k = c.0 in
    let long = length-map xs (λ x. q ++ x ∷ []) in
    let inside : k < length xs = (let l = c.1 in omega (arith, l, long)) in
    let x = get_or xs k zero_number in
    (x, Contains-get_or xs k zero_number inside, sym (get_or-map (λ z. q ++ z ∷ []) xs k zero_number p inside) ∙ c.2)
  where
    zero_number : ℤ
    zero_number = pos 0

behind_contains : (q xs : List ℤ) (x : ℤ) → Contains xs x → Contains (behind q xs) (q ++ x ∷ [])
behind_contains q xs x c =
    let long = length-map xs (λ z. q ++ z ∷ []) in (
      c.0,
      (let l = c.1 in omega (arith, l, long)),
      get_or-map (λ z. q ++ z ∷ []) xs c.0 x (q ++ x ∷ []) c.1 ∙ ap (λ (z : ℤ). q ++ z ∷ []) c.2,
    )

behind_ordered : (q xs : List ℤ) → AllPairs (λ a b. a <ℤ b) xs → AllPairs IsBefore (behind q xs)
behind_ordered q xs a i j d below inside =
    let long = length-map xs (λ z. q ++ z ∷ []) in
    let in_xs : j < length xs = omega (arith, inside, long) in
    rw (get_or-map (λ z. q ++ z ∷ []) xs i (pos 0) d (omega (arith, below, in_xs)), get_or-map (λ z. q ++ z ∷ []) xs j (pos 0) d in_xs)
    (before_behind q (get_or xs i (pos 0)) (get_or xs j (pos 0)) (a i j (pos 0) below in_xs))

behind_within : (P : ℤ → Type 0) (q xs : List ℤ) → All P q → All P xs → All (All P) (behind q xs)
behind_within P q xs a b i d l =
    let long = length-map xs (λ z. q ++ z ∷ []) in
    let inside : i < length xs = omega (arith, l, long) in
    rw (get_or-map (λ z. q ++ z ∷ []) xs i (pos 0) d inside)
    (All-append P q (get_or xs i (pos 0) ∷ []) a (All-cons P (get_or xs i (pos 0)) [] (b i (pos 0) inside) (All-nil P)))

-- ---- one prefix after another
pub none_longer : (g : Gauge) (systems : List System) (lists : List (List ℤ)) → lists ≡ [] → AreLonger g g systems [] lists
none_longer g systems lists e = rw e (record {
  exact = λ p. (
    (λ c. absurd (let l = c.1 in omega (arith, l))),
    (λ h. absurd (let l = h.2.1 in omega (arith, l))),
  );
  ordered = λ i j d below inside. absurd (omega (arith, below, inside));
  within = All-nil (All (IsWithin g));
  counted = omega arith;
  charged = IsCharged_refl g g refl;
})

longer_push : (g h k : Gauge) (systems : List System) (shorter old new : List (List ℤ)) (q : List ℤ)
    → AreLonger g h systems shorter old → All (λ p. IsBefore p q) shorter → All (IsWithin g) q
    → IsLengthened h k systems q old new → AreLonger g k systems (shorter ++ q ∷ []) new
longer_push g h k systems shorter old new q a low w b = rw b.pushed (record {
  exact = λ p. (
    (λ c. elim (Contains-append_cases old (behind q b.numbers) p c) [
      | inl before ↦ let z = (a.exact p).0 before in (z.0, z.1, Contains-append_left shorter (q ∷ []) z.0 z.2, z.3, z.4)
      | inr now ↦ let z = contains_behind q b.numbers p now in (
        q,
        z.0,
        Contains-push shorter q,
        z.2,
        subst (HoldsAtAny systems) z.2 ((b.listed.numbers.exact z.0).0 z.1),
      )
    ]),
    (λ z. elim (Contains-push_cases shorter q z.0 z.2) [
      | inl before ↦ Contains-append_left old (behind q b.numbers) p ((a.exact p).1 (z.0, z.1, before, z.3, z.4))
      | inr same ↦
          let e : q ++ z.1 ∷ [] ≡ p = ap (λ (r : List ℤ). r ++ z.1 ∷ []) same ∙ z.3 in
          Contains-append_right old (behind q b.numbers) p (subst (Contains (behind q b.numbers)) e
          (behind_contains q b.numbers z.1 ((b.listed.numbers.exact z.1).1 (subst (HoldsAtAny systems) (sym e) z.4))))
    ]),
  );
  ordered = pairs_append IsBefore old (behind q b.numbers) a.ordered (behind_ordered q b.numbers b.listed.numbers.ordered)
      (λ r s i j.
      let m = (a.exact r).0 i in
      let n = contains_behind q b.numbers s j in
      subst (λ (t : List ℤ). IsBefore t s) m.3 (subst (λ (t : List ℤ). IsBefore (m.0 ++ m.1 ∷ []) t) n.2
      (before_append m.0 q (m.1 ∷ []) (n.0 ∷ []) (All-contains (λ p. IsBefore p q) shorter m.0 low m.2))));
  within = All-append (All (IsWithin g)) old (behind q b.numbers) a.within (behind_within (IsWithin g) q b.numbers w
      (λ i d l. subst (λ (n : ℕ). unsigned_abs (get_or b.numbers i d) < 2 ^ n) (charged_limit g h a.charged) (b.listed.within i d l)));
  counted =
      (let n = length-append old (behind q b.numbers) in let l = length-map b.numbers (λ z. q ++ z ∷ []) in let c = a.counted in
      let e = b.listed.counted in omega (arith, n, l));
  charged = IsCharged_trans g h k a.charged b.listed.charged;
})

pub longer_more : (g h k : Gauge) (systems : List System) (shorter old new : List (List ℤ)) (i : ℕ) (q : List ℤ) → i < length shorter
    → q ≡ get_or shorter i q → AllPairs IsBefore shorter → All (All (IsWithin g)) shorter
    → AreLonger g h systems (take i shorter) old → IsLengthened h k systems q old new
    → AreLonger g k systems (take (i + 1) shorter) new
longer_more g h k systems shorter old new i q l e order within a b =
    let more : take (i + 1) shorter ≡ take i shorter ++ q ∷ [] = take_more shorter i q l
    ∙ ap (λ (r : List ℤ). take i shorter ++ r ∷ []) (sym e) in
    let low : All (λ p. IsBefore p q) (take i shorter) = λ j d m.
    let long = length-take-le i shorter (omega (arith, l)) in
    let early : j < i = omega (arith, m, long) in
    subst (λ (r : List ℤ). IsBefore (get_or (take i shorter) j d) r) (sym e)
    (subst (λ (r : List ℤ). IsBefore r (get_or shorter i q)) (sym (get_or-take i shorter j d early)) (order_at j d early)) in
    subst (λ (s : List (List ℤ)). AreLonger g k systems s new) (sym more)
    (longer_push g h k systems (take i shorter) old new q a low (subst (All (IsWithin g)) (sym e) (within i q l)) b)
  where
    order_at : (j : ℕ) (d : List ℤ) → j < i → IsBefore (get_or shorter j d) (get_or shorter i q)
    order_at j d early = subst (λ (r : List ℤ). IsBefore (get_or shorter j d) r) (get_or_default shorter i d q l)
        (order j i d early l)
