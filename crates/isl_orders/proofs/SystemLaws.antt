-- What is left of two systems at numbers that are so ordered.
use Rattle.std.proofs.Common.{◌≡◌, ◌≢◌, refl, sym, ap, ap₂, ◌∙◌, subst, arith, ℕ, zero, suc, ◌+◌, ◌<◌, ℤ, List, [], ◌∷◌, ◌++◌}
use Rattle.std.proofs.Common.{append_assoc, get_or, length, length-append, take, drop, take-append-drop}
use Rattle.std.specs.Prelude.{AllPairs}
use Rattle.std.proofs.lemmas.List.{append-nil, length-drop, length-take-le, nil_from_length}
use Rattle.std.proofs.lemmas.List.Quantifiers.{all_pairs_push}
use Rattle.isl_meter.specs.Gauge.{Gauge}
use Rattle.isl_piece.specs.declared.system.System.{System}
use Rattle.isl_piece.specs.System.{HoldsSystem}
use Rattle.isl_elim.specs.Elimination.{HoldsAtAny}
use Rattle.isl_blocks.specs.Blocks.{numbers_of, widths_of}
use Rattle.isl_orders.specs.declared.order.Order.{Order}
use Rattle.isl_orders.specs.declared.systems.Columns.{Columns}
use Rattle.isl_orders.specs.Both.{IsBoth}
use Rattle.isl_orders.specs.Cases.{AreCasesOf}
use Rattle.isl_orders.specs.Comparison.{AreOrdered}
use Rattle.isl_orders.specs.Left.{AreLeftWith}
use Rattle.isl_orders.specs.Ordered.{AreOfMaps, AreOfSets}

-- ---- blocks that are picked
abbrev Differ : ℕ → ℕ → Type 0
Differ i j = i ≢ j

one_apart : (x : ℕ) → AllPairs Differ (x ∷ [])
one_apart x = λ i j d before within same. absurd (omega (arith, before, within))

pub two_apart : (x y : ℕ) → x ≢ y → AllPairs Differ (x ∷ y ∷ [])
two_apart x y differ = all_pairs_push Differ (x ∷ []) y (one_apart x) by
  where
    by : (k d : ℕ) → k < 1 → get_or (x ∷ []) k d ≢ y
    by zero d l = differ
    by (suc k) d l = absurd (omega (arith, l))

pub three_apart : (x y z : ℕ) → x ≢ y → x ≢ z → y ≢ z → AllPairs Differ (x ∷ y ∷ z ∷ [])
three_apart x y z first second third = all_pairs_push Differ (x ∷ y ∷ []) z (two_apart x y first) by
  where
    by : (k d : ℕ) → k < 2 → get_or (x ∷ y ∷ []) k d ≢ z
    by zero d l = second
    by (suc zero) d l = third
    by (suc (suc k)) d l = absurd (omega (arith, l))

-- ---- sets
module _ (n w : ℕ) (order : Order) (own other both : System) (cases left : List System) (g : Gauge) where
  abbrev three : List ℕ
  three = n ∷ w ∷ w ∷ []

  pub sets_made : IsBoth g three own (0 ∷ 1 ∷ []) other (0 ∷ 2 ∷ []) both → AreCasesOf three 1 2 (AreOrdered order) cases
      → AreLeftWith g both cases (n + (w + w)) 0 left → AreOfSets g n w order own other left
  sets_made together ordered are = record {
    points = λ v x y lv lx ly.
        let point = v ++ (x ++ y) in
        let blocks = v ∷ x ∷ y ∷ [] in
        let widths : widths_of blocks ≡ three = ap₂ (λ a (b : List ℕ). a ∷ b) lv (ap₂ (λ a b. a ∷ b ∷ []) lx ly) in
        let one = length-append v (x ++ y) in
        let two = length-append x y in
        let long : length point ≡ n + (w + w) = omega (arith, one, two, lv, lx, ly) in
        let whole : point ++ [] ≡ numbers_of blocks = append_assoc v (x ++ y) [] ∙ ap (λ t. v ++ t) (append_assoc x y []) in
        let s = together.points blocks widths in
        let o = ordered.points blocks widths in
        let l = are.points point long in (
          (λ any.
              let k = l.0 any in
              let here : point ++ k.0 ≡ numbers_of blocks = ap (λ b. point ++ b) (nil_from_length k.0 k.1) ∙ whole in
              let p = s.0 (subst (HoldsSystem both) here k.2) in (
                subst (λ t. HoldsSystem own (v ++ t)) (append-nil x) p.0,
                subst (λ t. HoldsSystem other (v ++ t)) (append-nil y) p.1,
                o.0 (subst (HoldsAtAny cases) here k.3),
              )),
          (λ k. l.1 (
            [],
            refl,
            subst (HoldsSystem both) (sym whole) (s.1 (
              subst (λ t. HoldsSystem own (v ++ t)) (sym (append-nil x)) k.0,
              subst (λ t. HoldsSystem other (v ++ t)) (sym (append-nil y)) k.1,
            )),
            subst (HoldsAtAny cases) (sym whole) (o.1 k.2),
          )),
        );
    free = are.free;
    within = are.within;
  }

-- ---- maps
module _ (columns : Columns) (order : Order) (own other both : System) (cases left : List System) (g : Gauge) where
  abbrev w : ℕ
  w = columns.compared

  abbrev five : List ℕ
  five = columns.parameters ∷ columns.first ∷ columns.second ∷ w ∷ w ∷ []

  abbrev blocks : List ℤ → List ℤ → List ℤ → List ℤ → List ℤ → List (List ℤ)
  blocks v x y p q = v ∷ x ∷ y ∷ p ∷ q ∷ []

  widths : (v x y p q : List ℤ) → length v ≡ columns.parameters → length x ≡ columns.first → length y ≡ columns.second → length p ≡ w
      → length q ≡ w → widths_of (blocks v x y p q) ≡ five
  widths v x y p q lv lx ly lp lq = rw (lv, lx, ly, lp, lq) refl

  whole : (v x y p q : List ℤ) → (v ++ (x ++ y)) ++ (p ++ q) ≡ numbers_of (blocks v x y p q)
  whole v x y p q =
      append_assoc v (x ++ y) (p ++ q)
      ∙ ap (λ t. v ++ t) (append_assoc x y (p ++ q) ∙ ap (λ t. x ++ (y ++ (p ++ t))) (sym (append-nil q)))

  pub maps_made : IsBoth g five own (0 ∷ 1 ∷ 3 ∷ []) other (0 ∷ 2 ∷ 4 ∷ []) both → AreCasesOf five 3 4 (AreOrdered order) cases
      → AreLeftWith g both cases (columns.parameters + (columns.first + columns.second)) (w + w) left
      → AreOfMaps g columns order own other left
  maps_made together ordered are = record {
    points = λ v x y lv lx ly.
        let point = v ++ (x ++ y) in
        let one = length-append v (x ++ y) in
        let two = length-append x y in
        let long : length point ≡ columns.parameters + (columns.first + columns.second) = omega (arith, one, two, lv, lx, ly) in
        let l = are.points point long in (
          (λ any.
              let k = l.0 any in
              let b = k.0 in
              let p = take w b in
              let q = drop w b in
              let all = k.1 in
              let lp : length p ≡ w = length-take-le w b (omega (arith, all)) in
              let rest = length-drop w b in
              let lq : length q ≡ w = omega (arith, rest, all) in
              let here = ap (λ t. point ++ t) (sym (take-append-drop w b)) ∙ whole v x y p q in
              let s = (together.points (blocks v x y p q) (widths v x y p q lv lx ly lp lq)).0 (subst (HoldsSystem both) here k.2) in
              let o = (ordered.points (blocks v x y p q) (widths v x y p q lv lx ly lp lq)).0 (subst (HoldsAtAny cases) here k.3) in (
                p,
                q,
                lp,
                lq,
                subst (λ t. HoldsSystem own (v ++ (x ++ t))) (append-nil p) s.0,
                subst (λ t. HoldsSystem other (v ++ (y ++ t))) (append-nil q) s.1,
                o,
              )),
          (λ k.
              let p = k.0 in
              let q = k.1 in
              let lp = k.2 in
              let lq = k.3 in
              let all = length-append p q in
              let here = whole v x y p q in
              let s = (together.points (blocks v x y p q) (widths v x y p q lv lx ly lp lq)).1 (
                subst (λ t. HoldsSystem own (v ++ (x ++ t))) (sym (append-nil p)) k.4,
                subst (λ t. HoldsSystem other (v ++ (y ++ t))) (sym (append-nil q)) k.5,
              ) in
              let o = (ordered.points (blocks v x y p q) (widths v x y p q lv lx ly lp lq)).1 k.6 in
              l.1 (p ++ q, omega (arith, all, lp, lq), subst (HoldsSystem both) (sym here) s, subst (HoldsAtAny cases) (sym here) o)),
        );
    free = are.free;
    within = are.within;
  }
