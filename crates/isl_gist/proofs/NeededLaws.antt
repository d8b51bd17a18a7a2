-- Rows that are needed: with fewer premises, one after another, and as halves.
use Rattle.std.proofs.Common.{◌≡◌, ◌⊎◌, inl, inr, refl, sym, ap, ◌∙◌, subst, arith, ℤ, ◌+ℤ◌, ◌≤ℤ◌, pos, List, [], ◌∷◌, ◌++◌, append_assoc}
use Rattle.std.proofs.Common.{false}
use Rattle.std.specs.List.{All}
use Rattle.std.proofs.lemmas.Bool.{false_from_ne_true}
use Rattle.std.proofs.lemmas.List.Elements.{All-nil, All-cons, All-head, All-tail, All-append}
use Rattle.isl_math.proofs.ListLaws.{All-parts}
use Rattle.isl_math.proofs.Ring.{linear}
use Rattle.isl_math.specs.Dot.{dot}
use Rattle.isl_piece.specs.declared.row.RowKind.{RowKind}
use Rattle.isl_piece.specs.declared.row.RowKind.TheVariants.{Zero, AtLeast, Divides, NotDivides}
use Rattle.isl_piece.specs.declared.row.Row.{Row}
use Rattle.isl_piece.specs.Normal.{same_bound, IsNormal}
use Rattle.isl_piece.specs.Row.{HoldsRow, HasModulus}
use Rattle.isl_piece.specs.System.{HoldRows}
use Rattle.isl_piece.proofs.MergeLaws.{same_bound-true, AreApart, SameBound}
use Rattle.isl_piece.proofs.NormalLaws.{IsNormal-from}
use Rattle.isl_difference.proofs.BoundLaws.{rows_same}
use Rattle.isl_gist.specs.Halves.{all_halves, halves_by, lower_half, upper_half}
use Rattle.isl_gist.specs.Thinned.{AreNeeded, IsIdleAt, IsNeeded, IsNeededBy}
use Rattle.isl_gist.proofs.HalfLaws.{both_halves, IsSettled}

-- ---- rows at a point
module _ (xs : List ℤ) where
  abbrev H : Row → Type 0
  H = λ r. HoldsRow r xs

  pub hold_cons : (r : Row) (rows : List Row) → HoldsRow r xs → HoldRows rows xs → HoldRows (r ∷ rows) xs
  hold_cons r rows h k = All-cons H r rows h k

  pub hold_head : (r : Row) (rows : List Row) → HoldRows (r ∷ rows) xs → HoldsRow r xs
  hold_head r rows h = All-head H r rows h

  pub hold_tail : (r : Row) (rows : List Row) → HoldRows (r ∷ rows) xs → HoldRows rows xs
  hold_tail r rows h = All-tail H r rows h

  pub hold_append : (rows others : List Row) → HoldRows rows xs → HoldRows others xs → HoldRows (rows ++ others) xs
  hold_append rows others h k = All-append H rows others h k

  pub hold_front : (rows others : List Row) → HoldRows (rows ++ others) xs → HoldRows rows xs
  hold_front rows others h = (All-parts H rows others h).0

  pub hold_back : (rows others : List Row) → HoldRows (rows ++ others) xs → HoldRows others xs
  hold_back rows others h = (All-parts H rows others h).1

  pub hold_one : (r : Row) → HoldsRow r xs → HoldRows (r ∷ []) xs
  hold_one r h = hold_cons r [] h (All-nil H)

-- each row of the first list is one of the second, or said by it
abbrev pub IsSaidBy : List Row → List Row → Type 0
IsSaidBy rows others = (xs : List ℤ) → HoldRows others xs → HoldRows rows xs

-- ---- fewer premises
module _ (P : List ℤ → Type 0) where
  fewer_idle : (others fewer : List Row) (r : Row) → IsSaidBy fewer others → IsIdleAt P fewer r → IsIdleAt P others r
  fewer_idle others fewer r said idle = record { holds = λ point p h. idle.holds point p (said point h) }

  needed_by : (kind : RowKind) (others fewer : List Row) (r : Row) → IsSaidBy fewer others → IsNeededBy kind P others r
      → IsNeededBy kind P fewer r
  needed_by Zero others fewer r said needed = (
    (λ idle. needed.0 (fewer_idle (lower_half r ∷ others) (lower_half r ∷ fewer) (upper_half r) (with_one (lower_half r)) idle)),
    (λ idle. needed.1 (fewer_idle (upper_half r ∷ others) (upper_half r ∷ fewer) (lower_half r) (with_one (upper_half r)) idle)),
  )
    where
      with_one : (s : Row) → IsSaidBy (s ∷ fewer) (s ∷ others)
      with_one s xs h = hold_cons xs s fewer (hold_head xs s others h) (said xs (hold_tail xs s others h))
  needed_by AtLeast others fewer r said needed = λ idle. needed (fewer_idle others fewer r said idle)
  needed_by Divides others fewer r said needed = λ idle. needed (fewer_idle others fewer r said idle)
  needed_by NotDivides others fewer r said needed = λ idle. needed (fewer_idle others fewer r said idle)

  -- idle with fewer premises is idle with more: what is needed stays needed
  pub needed_fewer : (others fewer : List Row) (r : Row) → IsSaidBy fewer others → IsNeeded P others r → IsNeeded P fewer r
  needed_fewer others fewer r said needed = needed_by r.kind others fewer r said needed

  module _ (W : Row → Type 0) where
    pub are_fewer : (front fewer rows : List Row) → IsSaidBy fewer front → AreNeeded W P front rows → AreNeeded W P fewer rows
    are_fewer front fewer [] said needed = tt
    are_fewer front fewer (r ∷ rows) said needed = (
      (λ w. needed_fewer (front ++ rows) (fewer ++ rows) r
          (λ xs h. hold_append xs fewer rows (said xs (hold_front xs front rows h)) (hold_back xs front rows h)) (needed.0 w)),
      are_fewer (front ++ r ∷ []) (fewer ++ r ∷ []) rows
          (λ xs h. hold_append xs fewer (r ∷ []) (said xs (hold_front xs front (r ∷ []) h)) (hold_back xs front (r ∷ []) h)) needed.1,
    )

    -- one more row, behind the others
    pub are_more : (front rows : List Row) (r : Row) → AreNeeded W P (r ∷ front) rows → (W r → IsNeeded P (front ++ rows) r)
        → AreNeeded W P front (rows ++ r ∷ [])
    are_more front [] r needed last = (last, tt)
    are_more front (s ∷ rows) r needed last = (
      (λ w. needed_fewer ((r ∷ front) ++ rows) (front ++ (rows ++ r ∷ [])) s
          (λ xs h.
          let all = hold_tail xs r (front ++ rows) h in
          hold_append xs front (rows ++ r ∷ []) (hold_front xs front rows all)
          (hold_append xs rows (r ∷ []) (hold_back xs front rows all) (hold_one xs r (hold_head xs r (front ++ rows) h))))
          (needed.0 w)),
      are_more (front ++ s ∷ []) rows r needed.1 (λ w. subst (λ l. IsNeeded P l r) (sym (append_assoc front (s ∷ []) rows)) (last w)),
    )

  -- where no row is asked for
  pub none_asked : (front rows : List Row) → AreNeeded (λ _. ⊥) P front rows
  none_asked front [] = tt
  none_asked front (r ∷ rows) = ((λ no_row. absurd no_row), none_asked (front ++ r ∷ []) rows)

  -- ---- what is needed is not said by the others
  not_said_by : (kind : RowKind) (others : List Row) (r : Row) → r.kind ≡ kind → IsNeededBy kind P others r → ¬ IsSaidBy (r ∷ []) others
  not_said_by Zero others r zero needed said = needed.0 (record {
    holds = λ point p h.
        ((both_halves r point zero).0 (hold_head point r [] (said point (hold_tail point (lower_half r) others h)))).0;
  })
  not_said_by AtLeast others r kind needed said = needed (record { holds = λ point p h. hold_head point r [] (said point h) })
  not_said_by Divides others r kind needed said = needed (record { holds = λ point p h. hold_head point r [] (said point h) })
  not_said_by NotDivides others r kind needed said = needed (record { holds = λ point p h. hold_head point r [] (said point h) })

  not_said : (others : List Row) (r : Row) → IsNeeded P others r → ¬ IsSaidBy (r ∷ []) others
  not_said others r needed = not_said_by r.kind others r refl needed

  -- ---- so the rows are normal
  -- of two bounds on one form one says the other
  bound_says : (a b : Row) → SameBound a b → IsSaidBy (b ∷ []) (a ∷ []) ⊎ IsSaidBy (a ∷ []) (b ∷ [])
  bound_says a b same = elim same.constant [
    | inl at_least ↦
        let also : b.kind ≡ AtLeast = sym same.kind ∙ at_least in
        let form : (xs : List ℤ) → dot b.coefs xs ≡ dot a.coefs xs = λ xs. ap (λ cs. dot cs xs) (sym same.coefs) in
        elim (order a.constant b.constant) [
          | inl low ↦ inl (λ xs h. hold_one xs b (rw also (greater (dot a.coefs xs) (dot b.coefs xs) a.constant b.constant (form xs) low
              (rw at_least at (hold_head xs a [] h)))))
          | inr low ↦ inr (λ xs h. hold_one xs a (rw at_least (greater (dot b.coefs xs) (dot a.coefs xs) b.constant a.constant
              (sym (form xs)) low (rw also at (hold_head xs b [] h)))))
        ]
    | inr constant ↦ inl (λ xs h. subst (λ (r : Row). HoldRows (r ∷ []) xs)
        (sym (rows_same a b same.kind constant same.k (sym same.coefs))) h)
  ]
    where
      order : (c d : ℤ) → (c ≤ℤ d) ⊎ (d ≤ℤ c)
      order c d = grind (arith, linear)

      greater : (z w c d : ℤ) → w ≡ z → c ≤ℤ d → pos 0 ≤ℤ (z +ℤ c) → pos 0 ≤ℤ (w +ℤ d)
      greater z w c d e l h = omega (arith, linear)

  module _ (W : Row → Type 0) (asked : (r : Row) → W r) where
    apart_from : (a : Row) (front rows others : List Row) → AreNeeded W P front rows → IsSaidBy (a ∷ []) front
        → (¬ IsSaidBy (a ∷ []) others) → IsSaidBy rows others → All (λ b. same_bound a b ≡ false) rows
    apart_from a front [] others needed said own there = All-nil (λ b. same_bound a b ≡ false)
    apart_from a front (b ∷ rows) others needed said own there = All-cons (λ b. same_bound a b ≡ false) b rows
        (false_from_ne_true (same_bound a b) (λ t. elim (bound_says a b (same_bound-true a b t)) [
          | inl says ↦ not_said (front ++ rows) b (needed.0 (asked b)) (λ xs h. says xs (said xs (hold_front xs front rows h)))
          | inr says ↦ own (λ xs h. says xs (hold_one xs b (hold_head xs b rows (there xs h))))
        ]))
        (apart_from a (front ++ b ∷ []) rows others needed.1 (λ xs h. said xs (hold_front xs front (b ∷ []) h)) own
        (λ xs h. hold_tail xs b rows (there xs h)))

    pub needed_apart : (front rows : List Row) → AreNeeded W P front rows → AreApart rows
    needed_apart front [] needed = tt
    needed_apart front (a ∷ rows) needed = (
      apart_from a (front ++ a ∷ []) rows (front ++ rows) needed.1 (λ xs h. hold_back xs front (a ∷ []) h)
          (not_said (front ++ rows) a (needed.0 (asked a))) (λ xs h. hold_back xs front rows h),
      needed_apart (front ++ a ∷ []) rows needed.1,
    )

    pub needed_normal : (rows : List Row) → AreNeeded W P [] rows → All IsSettled rows → All (λ r. HasModulus r.kind r.k) rows
        → IsNormal rows
    needed_normal rows needed settled moduli = IsNormal-from rows settled moduli (needed_apart [] rows needed)

    -- ---- no half is idle
    row_said : (r : Row) (rest : List Row) (xs : List ℤ) → HoldsRow r xs → HoldRows rest xs → (kind : RowKind) → r.kind ≡ kind
        → HoldRows (halves_by kind r ++ rest) xs
    row_said r rest xs own others Zero zero =
        let parts = (both_halves r xs zero).0 own in
        hold_cons xs (upper_half r) (lower_half r ∷ rest) parts.0 (hold_cons xs (lower_half r) rest parts.1 others)
    row_said r rest xs own others AtLeast e = hold_cons xs r rest own others
    row_said r rest xs own others Divides e = hold_cons xs r rest own others
    row_said r rest xs own others NotDivides e = hold_cons xs r rest own others

    halves_said : (rows : List Row) → IsSaidBy (all_halves rows) rows
    halves_said [] xs h = h
    halves_said (r ∷ rows) xs h =
        row_said r (all_halves rows) xs (hold_head xs r rows h) (halves_said rows xs (hold_tail xs r rows h)) r.kind refl

    heads : (x y : Row) (xs ys : List Row) → x ∷ xs ≡ y ∷ ys → (x ≡ y) × (xs ≡ ys)
    heads x y xs ys e = (cc, cc)

    nothing : (before : List Row) (h : Row) (behind : List Row) → ¬ ([] ≡ before ++ h ∷ behind)
    nothing [] h behind e = cc
    nothing (b ∷ before) h behind e = cc

    -- beside a row as itself
    module _ (front : List Row) (r : Row) (rows : List Row)
        (later : (before : List Row) (h : Row) (behind : List Row) → all_halves rows ≡ before ++ h ∷ behind
        → ¬ IsIdleAt P ((front ++ r ∷ []) ++ (before ++ behind)) h) where
      -- the halves of the row say it
      later_said : (said before behind : List Row) → IsSaidBy (r ∷ []) said
          → IsSaidBy ((front ++ r ∷ []) ++ (before ++ behind)) (front ++ (said ++ (before ++ behind)))
      later_said said before behind says xs h =
          let rest = hold_back xs front (said ++ (before ++ behind)) h in
          hold_append xs (front ++ r ∷ []) (before ++ behind)
          (hold_append xs front (r ∷ []) (hold_front xs front (said ++ (before ++ behind)) h)
          (says xs (hold_front xs said (before ++ behind) rest)))
          (hold_back xs said (before ++ behind) rest)

      plain_case : (¬ IsIdleAt P (front ++ rows) r) → (before : List Row) (h : Row) (behind : List Row)
          → r ∷ all_halves rows ≡ before ++ h ∷ behind → ¬ IsIdleAt P (front ++ (before ++ behind)) h
      plain_case needed [] h behind e idle =
          let parts = heads r h (all_halves rows) behind e in
          needed (fewer_idle (front ++ rows) (front ++ behind) r
          (λ xs k. subst (λ l. HoldRows (front ++ l) xs) parts.1
          (hold_append xs front (all_halves rows) (hold_front xs front rows k) (halves_said rows xs (hold_back xs front rows k))))
          (subst (IsIdleAt P (front ++ behind)) (sym parts.0) idle))
      plain_case needed (b ∷ before) h behind e idle =
          let parts = heads r b (all_halves rows) (before ++ h ∷ behind) e in
          later before h behind parts.1 (fewer_idle ((front ++ r ∷ []) ++ (before ++ behind)) (front ++ ((b ∷ before) ++ behind)) h
          (λ xs k. subst (λ (s : Row). HoldRows (front ++ (s ∷ (before ++ behind))) xs) parts.0
          (subst (λ l. HoldRows l xs) (append_assoc front (r ∷ []) (before ++ behind)) k)) idle)

      equation_case : r.kind ≡ Zero → IsNeededBy Zero P (front ++ rows) r → (before : List Row) (h : Row) (behind : List Row)
          → upper_half r ∷ (lower_half r ∷ all_halves rows) ≡ before ++ h ∷ behind → ¬ IsIdleAt P (front ++ (before ++ behind)) h
      equation_case zero needed [] h behind e idle =
          let parts = heads (upper_half r) h (lower_half r ∷ all_halves rows) behind e in
          needed.0 (fewer_idle (lower_half r ∷ (front ++ rows)) (front ++ behind) (upper_half r)
          (λ xs k.
          let all = hold_tail xs (lower_half r) (front ++ rows) k in
          subst (λ l. HoldRows (front ++ l) xs) parts.1
          (hold_append xs front (lower_half r ∷ all_halves rows) (hold_front xs front rows all)
          (hold_cons xs (lower_half r) (all_halves rows) (hold_head xs (lower_half r) (front ++ rows) k)
          (halves_said rows xs (hold_back xs front rows all)))))
          (subst (IsIdleAt P (front ++ behind)) (sym parts.0) idle))
      equation_case zero needed (b ∷ []) h behind e idle =
          let outer = heads (upper_half r) b (lower_half r ∷ all_halves rows) (h ∷ behind) e in
          let parts = heads (lower_half r) h (all_halves rows) behind outer.1 in
          needed.1 (fewer_idle (upper_half r ∷ (front ++ rows)) (front ++ (b ∷ behind)) (lower_half r)
          (λ xs k.
          let all = hold_tail xs (upper_half r) (front ++ rows) k in
          subst (λ l. HoldRows (front ++ (b ∷ l)) xs) parts.1
          (subst (λ (s : Row). HoldRows (front ++ (s ∷ all_halves rows)) xs) outer.0
          (hold_append xs front (upper_half r ∷ all_halves rows) (hold_front xs front rows all)
          (hold_cons xs (upper_half r) (all_halves rows) (hold_head xs (upper_half r) (front ++ rows) k)
          (halves_said rows xs (hold_back xs front rows all))))))
          (subst (IsIdleAt P (front ++ (b ∷ behind))) (sym parts.0) idle))
      equation_case zero needed (b ∷ (c ∷ before)) h behind e idle =
          let outer = heads (upper_half r) b (lower_half r ∷ all_halves rows) (c ∷ (before ++ h ∷ behind)) e in
          let parts = heads (lower_half r) c (all_halves rows) (before ++ h ∷ behind) outer.1 in
          later before h behind parts.1 (fewer_idle ((front ++ r ∷ []) ++ (before ++ behind)) (front ++ (b ∷ (c ∷ (before ++ behind)))) h
          (λ xs k.
          let own = hold_front xs (front ++ r ∷ []) (before ++ behind) k in
          let both = (both_halves r xs zero).0 (hold_head xs r [] (hold_back xs front (r ∷ []) own)) in
          subst (λ (s : Row). HoldRows (front ++ (s ∷ (c ∷ (before ++ behind)))) xs) outer.0
          (subst (λ (s : Row). HoldRows (front ++ (upper_half r ∷ (s ∷ (before ++ behind)))) xs) parts.0
          (hold_append xs front (upper_half r ∷ (lower_half r ∷ (before ++ behind))) (hold_front xs front (r ∷ []) own)
          (hold_cons xs (upper_half r) (lower_half r ∷ (before ++ behind)) both.0
          (hold_cons xs (lower_half r) (before ++ behind) both.1 (hold_back xs (front ++ r ∷ []) (before ++ behind) k))))))
          idle)

      one_case : (kind : RowKind) → r.kind ≡ kind → IsNeededBy kind P (front ++ rows) r → (before : List Row) (h : Row) (behind : List Row)
          → halves_by kind r ++ all_halves rows ≡ before ++ h ∷ behind → ¬ IsIdleAt P (front ++ (before ++ behind)) h
      one_case Zero zero needed before h behind e = equation_case zero needed before h behind e
      one_case AtLeast kind needed before h behind e = plain_case needed before h behind e
      one_case Divides kind needed before h behind e = plain_case needed before h behind e
      one_case NotDivides kind needed before h behind e = plain_case needed before h behind e

    pub none_idle : (front rows : List Row) → AreNeeded W P front rows → (before : List Row) (h : Row) (behind : List Row)
        → all_halves rows ≡ before ++ h ∷ behind → ¬ IsIdleAt P (front ++ (before ++ behind)) h
    none_idle front [] needed before h behind e idle = nothing before h behind e
    none_idle front (r ∷ rows) needed before h behind e idle =
        one_case front r rows (none_idle (front ++ r ∷ []) rows needed.1) r.kind refl (needed.0 (asked r)) before h behind e idle
