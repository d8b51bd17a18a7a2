-- The lists of lifted systems, and their trees.
use Rattle.std.proofs.Common.{◌≡◌, ◌↔◌, refl, sym, ap, ◌∙◌, subst, arith, ℕ, zero, suc, ◌+◌, ◌-◌, ◌<◌, ◌≤◌, ℤ, pos, neg_ℤ, ◌<ℤ◌, ◌≤ℤ◌, ◌+ℤ◌, ◌*ℤ◌, List, [], ◌∷◌, ◌++◌, get_or, length, map, take, Option, Some, None}
use Rattle.std.specs.Prelude.{option_map}
use Rattle.std.specs.List.{insert, remove, Any}
use Rattle.std.proofs.lemmas.List.{get_or-append-add, length-append}
use Rattle.std.proofs.lemmas.List.Edits.{insert-append_right, length-insert, length-remove}
use Rattle.isl_math.specs.Divide.{floor_div}
use Rattle.isl_math.specs.Dot.{dot}
use Rattle.isl_math.proofs.DivideLaws.{at_most_floor}
use Rattle.isl_math.proofs.OrderLaws.{*ℤ-≤ℤ, ≤ℤ-from_*ℤ}
use Rattle.isl_math.proofs.Ring.{expand, linear}
use Rattle.isl_meter.specs.Gauge.{Gauge}
use Rattle.isl_piece.specs.declared.row.Row.{Row}
use Rattle.isl_piece.specs.declared.system.System.{System}
use Rattle.isl_piece.specs.Row.{coef_at, value_at, HasModulus}
use Rattle.isl_piece.specs.System.{HoldsSystem}
use Rattle.isl_elim.specs.Elimination.{HoldsAtAny}
use Rattle.isl_quast.specs.declared.tree.Quast.{Quast}
use Rattle.isl_quast.specs.Tree.{quast_at, HasWidth, IsQuastOver}
use Rattle.isl_greatest_law.specs.Front.{GivesGreatest}
use Rattle.isl_greatest.specs.Search.{HasGreatest}
use Rattle.isl_pip_law.specs.Levels.{AreBehind}
use Rattle.isl_pip_law.specs.Lift.{AreLifted, IsTold}
use Rattle.isl_pip_law.proofs.LiftLaws.{gives_taken, has_put, put_back}
use Rattle.isl_pip.specs.Greatest.{HaveGreatest, IsGreatestTree}
use Rattle.isl_pip.specs.Lift.{AreLiftedSystems, IsAnchor, IsLiftedSystem}
use Rattle.isl_pip.proofs.BehindLaws.{zipped_same}
use Rattle.isl_pip.proofs.WithoutLaws.{map-remove, without_at}

-- ---- a form falls where its last number rises
zeros_dot : (cs xs : List ℤ) → ((i : ℕ) → get_or cs i (pos 0) ≡ pos 0) → dot cs xs ≡ pos 0
zeros_dot [] xs none = refl
zeros_dot (c ∷ cs) [] none = refl
zeros_dot (c ∷ cs) (x ∷ xs) none =
    let h : c ≡ pos 0 = none 0 in
    let m = ap (λ t. t *ℤ x) h in
    let rest = zeros_dot cs xs (λ i. none (suc i)) in
    omega (arith, linear, m, rest)

same_head : (x y : ℤ) (xs ys : List ℤ) → (x ∷ xs) ≡ (y ∷ ys) → x ≡ y
same_head x y xs ys e = cc

same_tail : (x y : ℤ) (xs ys : List ℤ) → (x ∷ xs) ≡ (y ∷ ys) → xs ≡ ys
same_tail x y xs ys e = cc

falls : (n : ℕ) (cs xs ys : List ℤ) → take n xs ≡ take n ys → get_or xs n (pos 0) ≤ℤ get_or ys n (pos 0) → get_or cs n (pos 0) ≤ℤ pos 0
    → ((i : ℕ) → n < i → get_or cs i (pos 0) ≡ pos 0) → length xs ≡ length ys → dot cs ys ≤ℤ dot cs xs
falls n [] xs ys same rise low none e = omega (arith, linear)
falls n (c ∷ cs) [] [] same rise low none e = omega (arith, linear)
falls n (c ∷ cs) [] (y ∷ ys) same rise low none e = absurd (omega (arith, e))
falls n (c ∷ cs) (x ∷ xs) [] same rise low none e = absurd (omega (arith, e))
falls zero (c ∷ cs) (x ∷ xs) (y ∷ ys) same rise low none e =
    let a = zeros_dot cs xs (λ i. none (suc i) (omega arith)) in
    let b = zeros_dot cs ys (λ i. none (suc i) (omega arith)) in
    by c x y (dot cs xs) (dot cs ys) low rise a b
  where
    by : (c x y p q : ℤ) → c ≤ℤ pos 0 → x ≤ℤ y → p ≡ pos 0 → q ≡ pos 0 → (c *ℤ y +ℤ q) ≤ℤ (c *ℤ x +ℤ p)
    by c x y p q l r a b =
        let m = simp expand at (*ℤ-≤ℤ (neg_ℤ c) x y (omega (arith, linear, l)) r) in
        simp expand (omega (arith, linear, m, a, b))
falls (suc n) (c ∷ cs) (x ∷ xs) (y ∷ ys) same rise low none e =
    let head = same_head x y (take n xs) (take n ys) same in
    let rest = falls n cs xs ys (same_tail x y (take n xs) (take n ys) same) rise low (λ i l. none (suc i) (omega (arith, l))) (omega (arith, e)) in
    let m = ap (λ t. c *ℤ t) head in
    omega (arith, linear, m, rest)

take_behind : (v us ws : List ℤ) (place n : ℕ) → n ≡ length v + place → take place us ≡ take place ws → take n (v ++ us) ≡ take n (v ++ ws)
take_behind [] us ws place n e same =
    let there : place ≡ n = omega (arith, e) in
    subst (λ (k : ℕ). take k us ≡ take k ws) there same
take_behind (x ∷ v) us ws place zero e same = absurd (omega (arith, e))
take_behind (x ∷ v) us ws place (suc n) e same = ap (λ l. x ∷ l) (take_behind v us ws place n (omega (arith, e)) same)

floor_rises : (a b k : ℤ) → pos 0 <ℤ k → a ≤ℤ b → floor_div a k ≤ℤ floor_div b k
floor_rises a b k up low =
    let own = (at_most_floor a k (floor_div a k) up).0 (omega (arith, linear)) in
    (at_most_floor b k (floor_div a k) up).1 (omega (arith, linear, own, low))

-- ---- behind a front
module _ (g : Gauge) (front width place : ℕ) (r : Row) (systems made : List System) (a : IsAnchor g (front + width) (front + place) r)
    (are : AreLiftedSystems g (front + width) (front + place) r systems made) where
  module _ (v : List ℤ) (long : length v ≡ front) where
    abbrev Told : List ℤ → ℤ → Type 0
    Told us z = z ≡ floor_div (neg_ℤ (value_at r (v ++ us))) r.k

    inside : place < width
    inside = let i = a.inside in omega (arith, i)

    up : pos 0 <ℤ r.k
    up = subst (λ k. HasModulus k r.k) a.ends.kind a.formed.modulus

    told : IsTold width place Told
    told = record {
      some = λ us l. (floor_div (neg_ℤ (value_at r (v ++ us))) r.k, refl);
      rises = λ us ws y z l m same rise own other.
          let n_is : front + place ≡ length v + place = omega (arith, long) in
          let x = get_or-append-add v us place (pos 0) in
          let x' = get_or-append-add v ws place (pos 0) in
          let at_us : get_or (v ++ us) (front + place) (pos 0) ≡ get_or us place (pos 0) = ap (λ k. get_or (v ++ us) k (pos 0)) n_is ∙ x in
          let at_ws : get_or (v ++ ws) (front + place) (pos 0) ≡ get_or ws place (pos 0) = ap (λ k. get_or (v ++ ws) k (pos 0)) n_is ∙ x' in
          let lu = length-append v us in
          let lw = length-append v ws in
          let f = a.ends.falls in
          let less = falls (front + place) r.coefs (v ++ us) (v ++ ws) (take_behind v us ws place (front + place) n_is same)
          (omega (arith, linear, rise, at_us, at_ws)) (omega (arith, linear, f)) a.ends.last (omega (arith, lu, lw, l, m)) in
          let q = floor_rises (neg_ℤ (value_at r (v ++ us))) (neg_ℤ (value_at r (v ++ ws))) r.k up (omega (arith, linear, less)) in
          omega (arith, linear, q, own, other);
    }

    holds_at : (us : List ℤ) (z : ℤ) → length us ≡ width
        → HoldsAtAny made (v ++ insert us place z) ↔ Any (λ s. HoldsSystem s (v ++ us) × Told us z) systems
    holds_at us z l =
        let n = length-append v us in
        let back : front + place - front ≡ place = omega arith in
        let moved : insert (v ++ us) (front + place) z ≡ v ++ insert us place z =
        insert-append_right v us front (front + place) z long (omega arith) ∙ ap (λ (k : ℕ). v ++ insert us k z) back in
        subst (λ point. HoldsAtAny made point ↔ Any (λ s. HoldsSystem s (v ++ us) × Told us z) systems) moved
        (zipped_same (IsLiftedSystem g (front + width) (front + place) r) (λ s. HoldsSystem s (v ++ us) × Told us z)
        (λ t. HoldsSystem t (insert (v ++ us) (front + place) z)) (λ s t m. m.points (v ++ us) z (omega (arith, n, l, long))) systems made are.each)

    lists : AreLifted width place Told (AreBehind width systems v) (AreBehind (width + 1) made v)
    lists = record {
      inside = inside;
      long = λ us is. is.0;
      longer = λ xs is. is.0;
      put = λ us z is told'.
          let l = length-insert us place z (let i = inside in let e = is.0 in omega (arith, i, e)) in (
            l ∙ ap (λ n. n + 1) is.0,
            (holds_at us z is.0).1 (is.1.0, is.1.1, is.1.2, is.1.3, (is.1.4, told')),
          );
      taken = λ xs is. let p = parts xs is in (long_of xs is.0, (p.0, p.1, p.2, p.3, p.4.0));
      told = λ xs is. (parts xs is).4.1;
    }
      where
        long_of : (xs : List ℤ) → length xs ≡ width + 1 → length (remove xs place) ≡ width
        long_of xs e = let l = length-remove xs place (let i = inside in omega (arith, e, i)) in omega (arith, l, e)

        parts : (xs : List ℤ) → AreBehind (width + 1) made v xs
            → Any (λ s. HoldsSystem s (v ++ remove xs place) × Told (remove xs place) (get_or xs place (pos 0))) systems
        parts xs is =
            (holds_at (remove xs place) (get_or xs place (pos 0)) (long_of xs is.0)).0
            (subst (λ l. HoldsAtAny made (v ++ l)) (sym (put_back xs place (let i = inside in let e = is.0 in omega (arith, i, e)))) is.1)

  negated_taken : (q : Option (List ℤ))
      → option_map (λ xs. remove xs place) (option_map (map neg_ℤ) q) ≡ option_map (map neg_ℤ) (without_at place q)
  negated_taken None = refl
  negated_taken (Some ys) = ap Some (sym (map-remove neg_ℤ ys place))

  pub tree_taken : (tree left : Quast) → IsGreatestTree g front (width + 1) made tree
      → ((numbers : List ℤ) → quast_at left numbers ≡ without_at place (quast_at tree numbers))
      → (IsQuastOver g front tree → IsQuastOver g front left) → HasWidth width left → IsGreatestTree g front width systems left
  tree_taken tree left is at over wide = record {
    gives = λ v long.
        subst (GivesGreatest (AreBehind width systems v)) (negated_taken (quast_at tree v) ∙ ap (option_map (map neg_ℤ)) (sym (at v)))
        (gives_taken width place (Told v long) (AreBehind width systems v) (AreBehind (width + 1) made v) (told v long) (lists v long)
        (option_map (map neg_ℤ) (quast_at tree v)) (is.gives v long));
    over = over is.over;
    width = wide;
  }

  pub have_put : HaveGreatest front width systems → HaveGreatest front (width + 1) made
  have_put have v long =
      has_put width place (Told v long) (AreBehind width systems v) (AreBehind (width + 1) made v) (told v long) (lists v long) (have v long)
