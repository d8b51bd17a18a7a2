-- Points with two times, one before the other.
use Rattle.std.proofs.Common.{◌≡◌, ◌↔◌, inl, inr, refl, sym, ap, ◌∙◌, subst, arith, Bool, true, false, ℕ, ◌+◌, ◌<◌}
use Rattle.std.proofs.Common.{ℤ, List, [], ◌∷◌, ◌++◌, append-nil, length, length-drop, take, drop, take-append-drop}
use Rattle.std.specs.Prelude.{IsTrue}
use Rattle.std.specs.List.{zip}
use Rattle.std.proofs.lemmas.Bool.{cases_lt, false≢true}
use Rattle.std.proofs.lemmas.List.{length-take-le}
use Rattle.isl_meter.specs.Gauge.{Gauge, IsCharged}
use Rattle.isl_space.specs.Form.{width_of}
use Rattle.isl_space.specs.Name.{Name}
use Rattle.isl_space.specs.Names.{AreDistinct}
use Rattle.isl_space.specs.Shape.{form_of}
use Rattle.isl_space.specs.Valuation.{Valuation, values_of}
use Rattle.isl_space.proofs.ValuationLaws.{length-values_of, values_of-zip}
use Rattle.isl_piece.specs.declared.system.System.{System}
use Rattle.isl_piece.specs.System.{HoldsSystem, free_columns}
use Rattle.isl_elim.specs.Sample.{IsNowhere}
use Rattle.isl_difference.proofs.SplitLaws.{charged_within}
use Rattle.isl_blocks.specs.Blocks.{numbers_of, total, widths_of}
use Rattle.isl_blocks.specs.Cases.{IsBeforeAt}
use Rattle.isl_blocks.proofs.CaseLaws.{before_somewhere}
use Rattle.isl_blocks.proofs.WidthLaws.{numbers_long}
use Rattle.isl_relation.specs.Point.{Point}
use Rattle.isl_schedule.specs.Differ.{pair_widths, HaveTimes, IsNeverBefore, IsOver}
use Rattle.isl_schedule.specs.Visits.{IsOverBlocks, Visit}
use Rattle.isl_schedule.specs.declared.visits.Visits.{Visits}

-- four lists out of one
module _ (a b c : ℕ) (point : List ℤ) where
  first : List ℤ
  first = take a point

  second : List ℤ
  second = take b (drop a point)

  third : List ℤ
  third = take c (drop b (drop a point))

  fourth : List ℤ
  fourth = drop c (drop b (drop a point))

  four_whole : first ++ (second ++ (third ++ (fourth ++ []))) ≡ point
  unfolding first second third fourth
  four_whole =
      let end = append-nil (drop c (drop b (drop a point))) in
      let last = take-append-drop c (drop b (drop a point)) in
      let middle = take-append-drop b (drop a point) in
      let whole = take-append-drop a point in
      rw (end, last, middle, whole) refl

  module _ (long : length point ≡ a + (b + (c + (c + 0)))) where
    first_long : length first ≡ a
    unfolding first
    first_long = length-take-le a point (omega (arith, long))

    rest_long : length (drop a point) ≡ b + (c + (c + 0))
    rest_long = let n = length-drop a point in omega (arith, n, long)

    second_long : length second ≡ b
    unfolding second
    second_long = let n = rest_long in length-take-le b (drop a point) (omega (arith, n))

    times_long : length (drop b (drop a point)) ≡ c + (c + 0)
    times_long = let n = length-drop b (drop a point) in let m = rest_long in omega (arith, n, m)

    third_long : length third ≡ c
    unfolding third
    third_long = let n = times_long in length-take-le c (drop b (drop a point)) (omega (arith, n))

    fourth_long : length fourth ≡ c
    unfolding fourth
    fourth_long = let n = length-drop c (drop b (drop a point)) in let m = times_long in omega (arith, n, m)

module _ (params : List Name) (one other : Visits) where
  -- no point has a time of the one that is less than one of the other at this place first
  abbrev pub IsNotAt : ℕ → Type 0
  IsNotAt at = (v : Valuation) (x t u : Point) → Visit params v x t one → Visit params v x u other → ¬ IsBeforeAt at t.numbers u.numbers

  module _ (g : Gauge) (distinct : AreDistinct params) (domain : form_of one.domain.value ≡ form_of other.domain.value)
      (time : form_of one.time.value ≡ form_of other.time.value) where
    abbrev Widths : List ℕ
    Widths = pair_widths (length params) one

    pair_wide : (v : Valuation) (x t u : Point) → Visit params v x t one → Visit params v x u other
        → widths_of (values_of params v ∷ x.numbers ∷ t.numbers ∷ u.numbers ∷ []) ≡ Widths
    pair_wide v x t u h k =
        let n = length-values_of params v in
        let i = h.point ∙ ap width_of h.domain in
        let j = h.at ∙ ap width_of h.time in
        let l = k.at ∙ ap width_of (k.time ∙ sym time) in
        cc

    module _ (at : ℕ) (made : System) (is : IsOverBlocks g Widths (HaveTimes one.system other.system at) made) where
      nowhere_not : IsNowhere (free_columns made) (HoldsSystem made) → IsNotAt at
      nowhere_not none v x t u h k b =
          let blocks = values_of params v ∷ x.numbers ∷ t.numbers ∷ u.numbers ∷ [] in
          let wide = pair_wide v x t u h k in
          none (numbers_of blocks) (numbers_long blocks ∙ ap total wide ∙ sym is.free)
          ((is.points blocks wide).1 ((h.holds, k.holds), b))

      not_nowhere : IsNotAt at → IsNowhere (free_columns made) (HoldsSystem made)
      not_nowhere never point long holds =
          let p = length params in
          let d = width_of (form_of one.domain.value) in
          let w = width_of (form_of one.time.value) in
          let all : length point ≡ p + (d + (w + (w + 0))) = long ∙ is.free in
          let values = first p d w point in
          let xs = second p d w point in
          let ts = third p d w point in
          let us = fourth p d w point in
          let blocks = values ∷ xs ∷ ts ∷ us ∷ [] in
          let n0 = first_long p d w point all in
          let n1 = second_long p d w point all in
          let n2 = third_long p d w point all in
          let n3 = fourth_long p d w point all in
          let wide : widths_of blocks ≡ Widths = cc in
          let both = (is.points blocks wide).0 (subst (HoldsSystem made) (sym (four_whole p d w point)) holds) in
          let v : Valuation = zip params values in
          let named : values_of params v ≡ values = values_of-zip params values distinct (sym n0) in
          let x : Point = record { form = form_of one.domain.value; numbers = xs } in
          let t : Point = record { form = form_of one.time.value; numbers = ts } in
          let u : Point = record { form = form_of other.time.value; numbers = us } in
          never v x t u
          (record {
            domain = refl;
            time = refl;
            point = n1;
            at = n2;
            holds = subst (λ (ns : List ℤ). HoldsSystem one.system (numbers_of (ns ∷ xs ∷ ts ∷ []))) (sym named) both.0.0;
          })
          (record {
            domain = domain;
            time = refl;
            point = n1;
            at = n3 ∙ ap width_of time;
            holds = subst (λ (ns : List ℤ). HoldsSystem other.system (numbers_of (ns ∷ xs ∷ us ∷ []))) (sym named) both.0.1;
          })
          both.1

      pub empty_not : (b : Bool) → b ≡ true → IsTrue b ↔ IsNowhere (free_columns made) (HoldsSystem made) → IsNotAt at
      empty_not b passed told = nowhere_not (told.0 passed)

      pub some_before : at < width_of (form_of one.time.value) → (b : Bool) → b ≡ false
          → IsTrue b ↔ IsNowhere (free_columns made) (HoldsSystem made) → IsTrue false ↔ IsNeverBefore params one other
      some_before low b failed told = (
        (λ t. absurd (false≢true t)),
        (λ never. absurd (false≢true (sym failed ∙ told.1 (not_nowhere (λ v x t u h k before.
            let same : length t.numbers ≡ length u.numbers = h.at ∙ ap width_of (h.time ∙ time ∙ sym k.time) ∙ sym k.at in
            let deep : at < length u.numbers = (let n = k.at ∙ ap width_of (k.time ∙ sym time) in omega (arith, low, n)) in
            never v x t u h k ((before_somewhere t.numbers u.numbers same).1 (at, deep, before))))))),
      )

    pub none_before : ((i : ℕ) → i < width_of (form_of one.time.value) → IsNotAt i) → IsTrue true ↔ IsNeverBefore params one other
    none_before not = (
      (λ so v x t u h k before.
          let same : length t.numbers ≡ length u.numbers = h.at ∙ ap width_of (h.time ∙ time ∙ sym k.time) ∙ sym k.at in
          let at = (before_somewhere t.numbers u.numbers same).0 before in
          not at.0 (let l = at.1 in let n = k.at ∙ ap width_of (k.time ∙ sym time) in omega (arith, l, n)) v x t u h k at.2),
      (λ never. refl),
    )

-- one place more
pub more_places : (P : ℕ → Type 0) (i : ℕ) → ((k : ℕ) → k < i → P k) → P i → (k : ℕ) → k < i + 1 → P k
more_places P i before here k low = elim (cases_lt k i) [
  | inl less ↦ before k less
  | inr last ↦ subst P (omega (arith, low, last)) here
]

-- ---- what a loop goes on with
pub over_later : (g h : Gauge) (params : List Name) (visits : Visits) → IsCharged g h → IsOver g params visits → IsOver h params visits
over_later g h params visits charged is = record {
  within = charged_within g h visits.system charged is.within;
  free = is.free;
  narrow = is.narrow;
}

pub over_pair : (g : Gauge) (params : List Name) (one : Visits) (n d t : ℕ) (P : List (List ℤ) → Type 0) (made : System)
    → IsOverBlocks g (n ∷ d ∷ t ∷ t ∷ []) P made → n ≡ length params → d ≡ width_of (form_of one.domain.value)
    → t ≡ width_of (form_of one.time.value) → IsOverBlocks g (pair_widths (length params) one) P made
over_pair g params one n d t P made is e f h = rw (sym e, sym f, sym h) is
