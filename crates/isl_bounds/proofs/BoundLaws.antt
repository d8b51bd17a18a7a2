-- Inequalities as bounds, and bounds put together.
use Rattle.std.proofs.Common.{◌≡◌, ◌≢◌, ◌↔◌, ◌⊎◌, inl, inr, refl, sym, ap, ◌∙◌, subst, arith, Bool, true, false, ℕ, zero, suc, ◌+◌, ◌<◌}
use Rattle.std.proofs.Common.{◌≤◌}
use Rattle.std.proofs.Common.{ℤ, pos, negsuc, neg_ℤ, ◌+ℤ◌, ◌*ℤ◌, ◌<ℤ◌, ◌≤ℤ◌, List, [], ◌∷◌, ◌++◌, length, get_or, take}
use Rattle.std.specs.List.{All, AllZip, Any}
use Rattle.std.specs.Int.{int_max, int_min}
use Rattle.std.proofs.lemmas.List.{take_all, take_more}
use Rattle.std.proofs.lemmas.List.Elements.{All-cons, All-head, All-nil, All-tail}
use Rattle.std.proofs.lemmas.Int.{ints}
use Rattle.std.specs.Prelude.{int_lt, IfOk, Result, Ok, Err}
use Rattle.isl_math.specs.Divide.{floor_div}
use Rattle.isl_math.specs.Order.{abs_of, sign_of}
use Rattle.isl_math.proofs.DivideLaws.{at_most_floor}
use Rattle.isl_math.proofs.ListLaws.{AllZip-more, Any-cases, Any-first, Any-later, Any-none}
use Rattle.isl_math.proofs.Ring.{expand, linear}
use Rattle.isl_meter.specs.Gauge.{Gauge}
use Rattle.isl_piece.specs.declared.row.RowKind.{RowKind}
use Rattle.isl_piece.specs.declared.row.RowKind.TheVariants.{AtLeast}
use Rattle.isl_piece.specs.declared.row.Row.{Row}
use Rattle.isl_piece.specs.Row.{coef_at, value_at, HoldsRow, HoldsValue, IsWellFormed}
use Rattle.isl_frame.specs.Frame.{isolated}
use Rattle.isl_frame.proofs.SolvedLaws.{isolated_formed, rest_at, value_apart, value_isolated}
use Rattle.isl_loop.specs.declared.tree.Expr.{Expr}
use Rattle.isl_loop.specs.Expr.{ceil_div, expr_value}
use Rattle.isl_loop.specs.Formed.{IsExprOver}
use Rattle.isl_loop.specs.Lists.{extreme_in, extreme_past}
use Rattle.isl_bounds.specs.Bound.{IsBoundOf, IsEnd}
use Rattle.isl_bounds.specs.Side.{opposite, rounded, tighter, toward, Lets}
use Rattle.isl_bounds.specs.declared.side.Side.{Side}
use Rattle.isl_bounds.specs.declared.side.Side.TheVariants.{Low, High}

-- ---- one end
up_to_ceiling : (f c x : ℤ) → pos 0 <ℤ c → (ceil_div (neg_ℤ f) c ≤ℤ x) ↔ (pos 0 ≤ℤ (f +ℤ c *ℤ x))
up_to_ceiling f c x p = by (floor_div (neg_ℤ (neg_ℤ f)) c) (at_most_floor (neg_ℤ (neg_ℤ f)) c (neg_ℤ x) p)
  where
    by : (q : ℤ) → neg_ℤ x ≤ℤ q ↔ (c *ℤ neg_ℤ x) ≤ℤ neg_ℤ (neg_ℤ f) → (neg_ℤ q ≤ℤ x) ↔ (pos 0 ≤ℤ (f +ℤ c *ℤ x))
    by q told = (
      (λ h. let t = simp expand at (told.0 (omega (arith, linear, h))) in simp expand (omega (arith, linear, t))),
      (λ h.
          let h' = simp expand at h in
          let t : neg_ℤ x ≤ℤ q = told.1 (simp expand (omega (arith, linear, h'))) in
          omega (arith, linear, t)),
    )

down_to_floor : (f c x : ℤ) → c <ℤ pos 0 → (x ≤ℤ floor_div f (neg_ℤ c)) ↔ (pos 0 ≤ℤ (f +ℤ c *ℤ x))
down_to_floor f c x p = by (floor_div f (neg_ℤ c)) (at_most_floor f (neg_ℤ c) x (omega (arith, linear, p)))
  where
    by : (q : ℤ) → x ≤ℤ q ↔ (neg_ℤ c *ℤ x) ≤ℤ f → (x ≤ℤ q) ↔ (pos 0 ≤ℤ (f +ℤ c *ℤ x))
    by q told = (
      (λ h. let t = simp expand at (told.0 h) in simp expand (omega (arith, linear, t))),
      (λ h. let h' = simp expand at h in told.1 (simp expand (omega (arith, linear, h')))),
    )

-- the sign and the magnitude of a coefficient
above_parts : (c : ℤ) → pos 0 <ℤ c → (sign_of (neg_ℤ c) ≡ negsuc 0) × (abs_of c ≡ c)
above_parts (pos zero) p = absurd (omega (arith, linear, p))
above_parts (pos (suc m)) p = (refl, refl)
above_parts (negsuc m) p = absurd (omega (arith, linear, p))

below_parts : (c : ℤ) → c <ℤ pos 0 → (sign_of (neg_ℤ c) ≡ pos 1) × (abs_of c ≡ neg_ℤ c)
below_parts (pos m) p = absurd (omega (arith, linear, p))
below_parts (negsuc m) p = (refl, refl)

end_lets : (side : Side) (f c v x : ℤ) → pos 0 <ℤ toward side c → v ≡ sign_of (neg_ℤ c) *ℤ f
    → Lets side (rounded side v (abs_of c)) x ↔ (pos 0 ≤ℤ (f +ℤ c *ℤ x))
end_lets Low f c v x p e =
    let parts = above_parts c p in
    let m : v ≡ neg_ℤ f = e ∙ ap (λ s. s *ℤ f) parts.0 ∙ omega (arith, linear) in
    rw (m, parts.1) (up_to_ceiling f c x p)
end_lets High f c v x p e =
    let below : c <ℤ pos 0 = omega (arith, linear, p) in
    let parts = below_parts c below in
    let m : v ≡ f = e ∙ ap (λ s. s *ℤ f) parts.0 ∙ omega (arith, linear) in
    rw (m, parts.1) (down_to_floor f c x below)

pub end_exact : (g : Gauge) (variables : ℕ) (side : Side) (r : Row) (z : ℤ) (point : List ℤ) (x : ℤ) → IsEnd g variables side r
    → length point ≡ variables → z ≡ rounded side (value_at (isolated variables r) point) (isolated variables r).k
    → Lets side z x ↔ HoldsRow r (point ++ x ∷ [])
end_exact g variables side r z point x is long e =
    let f = rest_at variables r point in
    let c = coef_at r variables in
    moved r.kind r.k z (rounded side (value_at (isolated variables r) point) (abs_of c)) (value_at r (point ++ x ∷ [])) (f +ℤ c *ℤ x)
    is.kind e (value_apart variables r point x is.formed long)
    (end_lets side f c (value_at (isolated variables r) point) x is.toward (value_isolated variables r point))
  where
    moved : (kind : RowKind) (k z y v w : ℤ) → kind ≡ AtLeast → z ≡ y → v ≡ w → Lets side y x ↔ (pos 0 ≤ℤ w)
        → Lets side z x ↔ HoldsValue kind k v
    moved kind k z y v w a b c told = rw (a, b, c) told

-- ---- two bounds
-- which of two numbers is the greater, which the lesser
above : (a b : ℤ) → int_lt b a ≡ true → b ≤ℤ a
above a b e = grind (arith, ints)

int_lt-false : (a b : ℤ) → int_lt a b ≡ false → b ≤ℤ a
int_lt-false a b e = grind (arith, ints)

int_max_is : (a b : ℤ) → ((int_max a b ≡ a) × (b ≤ℤ a)) ⊎ ((int_max a b ≡ b) × (a ≤ℤ b))
int_max_is a b = by (int_lt b a) refl
  where
    by : (t : Bool) → int_lt b a ≡ t → ((int_max a b ≡ a) × (b ≤ℤ a)) ⊎ ((int_max a b ≡ b) × (a ≤ℤ b))
    by true e = inl (rw e refl, above a b e)
    by false e = inr (rw e refl, int_lt-false b a e)

int_min_is : (a b : ℤ) → ((int_min a b ≡ a) × (a ≤ℤ b)) ⊎ ((int_min a b ≡ b) × (b ≤ℤ a))
int_min_is a b = by (int_lt b a) refl
  where
    by : (t : Bool) → int_lt b a ≡ t → ((int_min a b ≡ a) × (a ≤ℤ b)) ⊎ ((int_min a b ≡ b) × (b ≤ℤ a))
    by true e = inr (rw e refl, above a b e)
    by false e = inl (rw e refl, int_lt-false b a e)

greatest_lets : (a b x : ℤ) → (int_max a b ≤ℤ x) ↔ ((a ≤ℤ x) × (b ≤ℤ x))
greatest_lets a b x = by (int_max a b) (int_max_is a b)
  where
    by : (m : ℤ) → ((m ≡ a) × (b ≤ℤ a)) ⊎ ((m ≡ b) × (a ≤ℤ b)) → (m ≤ℤ x) ↔ ((a ≤ℤ x) × (b ≤ℤ x))
    by m (inl c) = let e = c.0 in let l = c.1 in (
      (λ h. (omega (arith, linear, e, h), omega (arith, linear, e, l, h))),
      (λ h. let t = h.0 in omega (arith, linear, e, t)),
    )
    by m (inr c) = let e = c.0 in let l = c.1 in (
      (λ h. (omega (arith, linear, e, l, h), omega (arith, linear, e, h))),
      (λ h. let t = h.1 in omega (arith, linear, e, t)),
    )

least_lets : (a b x : ℤ) → (x ≤ℤ int_min a b) ↔ ((x ≤ℤ a) × (x ≤ℤ b))
least_lets a b x = by (int_min a b) (int_min_is a b)
  where
    by : (m : ℤ) → ((m ≡ a) × (a ≤ℤ b)) ⊎ ((m ≡ b) × (b ≤ℤ a)) → (x ≤ℤ m) ↔ ((x ≤ℤ a) × (x ≤ℤ b))
    by m (inl c) = let e = c.0 in let l = c.1 in (
      (λ h. (omega (arith, linear, e, h), omega (arith, linear, e, l, h))),
      (λ h. let t = h.0 in omega (arith, linear, e, t)),
    )
    by m (inr c) = let e = c.0 in let l = c.1 in (
      (λ h. (omega (arith, linear, e, l, h), omega (arith, linear, e, h))),
      (λ h. let t = h.1 in omega (arith, linear, e, t)),
    )

greatest_some : (a b x : ℤ) → (x ≤ℤ int_max a b) ↔ ((x ≤ℤ a) ⊎ (x ≤ℤ b))
greatest_some a b x = by (int_max a b) (int_max_is a b)
  where
    by : (m : ℤ) → ((m ≡ a) × (b ≤ℤ a)) ⊎ ((m ≡ b) × (a ≤ℤ b)) → (x ≤ℤ m) ↔ ((x ≤ℤ a) ⊎ (x ≤ℤ b))
    by m (inl c) = let e = c.0 in let l = c.1 in (
      (λ h. inl (omega (arith, linear, e, h))),
      (λ h. elim h [
        | inl t ↦ omega (arith, linear, e, t)
        | inr t ↦ omega
            (arith, linear, e, l, t)
      ]),
    )
    by m (inr c) = let e = c.0 in let l = c.1 in (
      (λ h. inr (omega (arith, linear, e, h))),
      (λ h. elim h [
        | inl t ↦ omega (arith, linear, e, l, t)
        | inr t ↦ omega
            (arith, linear, e, t)
      ]),
    )

least_some : (a b x : ℤ) → (int_min a b ≤ℤ x) ↔ ((a ≤ℤ x) ⊎ (b ≤ℤ x))
least_some a b x = by (int_min a b) (int_min_is a b)
  where
    by : (m : ℤ) → ((m ≡ a) × (a ≤ℤ b)) ⊎ ((m ≡ b) × (b ≤ℤ a)) → (m ≤ℤ x) ↔ ((a ≤ℤ x) ⊎ (b ≤ℤ x))
    by m (inl c) = let e = c.0 in let l = c.1 in (
      (λ h. inl (omega (arith, linear, e, h))),
      (λ h. elim h [
        | inl t ↦ omega (arith, linear, e, t)
        | inr t ↦ omega
            (arith, linear, e, l, t)
      ]),
    )
    by m (inr c) = let e = c.0 in let l = c.1 in (
      (λ h. inr (omega (arith, linear, e, h))),
      (λ h. elim h [
        | inl t ↦ omega (arith, linear, e, l, t)
        | inr t ↦ omega
            (arith, linear, e, t)
      ]),
    )

both_let : (side : Side) (a b x : ℤ) → Lets side (tighter side a b) x ↔ (Lets side a x × Lets side b x)
both_let Low a b x = greatest_lets a b x
both_let High a b x = least_lets a b x

some_lets : (side : Side) (a b x : ℤ) → Lets side (tighter (opposite side) a b) x ↔ (Lets side a x ⊎ Lets side b x)
some_lets Low a b x = least_some a b x
some_lets High a b x = greatest_some a b x

-- ---- several bounds
module _ (side : Side) (point : List ℤ) (x : ℤ) where
  abbrev LetsOf : Expr → Type 0
  LetsOf e = Lets side (expr_value e point) x

  all_let : (best : ℤ) (es : List Expr)
      → Lets side (extreme_past (tighter side) best es point) x ↔ (Lets side best x × All LetsOf es)
  all_let best [] = ((λ h. (h, All-nil LetsOf)), (λ h. h.0))
  all_let best (e ∷ es) =
      let more = all_let (tighter side best (expr_value e point)) es in
      let two = both_let side best (expr_value e point) x in (
        (λ h. let m = more.0 h in let t = two.0 m.0 in (t.0, All-cons LetsOf e es t.1 m.1)),
        (λ h. more.1 (two.1 (h.0, All-head LetsOf e es h.1), All-tail LetsOf e es h.1)),
      )

  any_lets : (best : ℤ) (es : List Expr)
      → Lets side (extreme_past (tighter (opposite side)) best es point) x ↔ (Lets side best x ⊎ Any LetsOf es)
  any_lets best [] = ((λ h. inl h), (λ h. elim h [ inl l ↦ l | inr a ↦ absurd (Any-none LetsOf a) ]))
  any_lets best (e ∷ es) =
      let more = any_lets (tighter (opposite side) best (expr_value e point)) es in
      let two = some_lets side best (expr_value e point) x in (
        (λ h. elim (more.0 h) [
          | inl m ↦ elim (two.0 m) [ inl l ↦ inl l | inr l ↦ inr (Any-first LetsOf e es l) ]
          | inr a ↦ inr (Any-later LetsOf e es a)
        ]),
        (λ h. elim h [
          | inl l ↦ more.1 (inl (two.1 (inl l)))
          | inr a ↦ elim (Any-cases LetsOf e es a) [ inl l ↦ more.1 (inl (two.1 (inr l))) | inr b ↦ more.1 (inr b) ]
        ]),
      )

  all_in : (es : List Expr) → 0 < length es → Lets side (extreme_in (tighter side) es point) x ↔ All LetsOf es
  all_in [] some = absurd (omega (arith, some))
  all_in (e ∷ es) some =
      let told = all_let (expr_value e point) es in (
        (λ h. let t = told.0 h in All-cons LetsOf e es t.0 t.1),
        (λ h. told.1 (All-head LetsOf e es h, All-tail LetsOf e es h)),
      )

  any_in : (es : List Expr) → 0 < length es → Lets side (extreme_in (tighter (opposite side)) es point) x ↔ Any LetsOf es
  any_in [] some = absurd (omega (arith, some))
  any_in (e ∷ es) some =
      let told = any_lets (expr_value e point) es in (
        (λ h. elim (told.0 h) [ inl l ↦ Any-first LetsOf e es l | inr a ↦ Any-later LetsOf e es a ]),
        (λ h. elim (Any-cases LetsOf e es h) [ inl l ↦ told.1 (inl l) | inr a ↦ told.1 (inr a) ]),
      )

-- ---- bounds of things, together
module _ {X : Type 0} (g : Gauge) (variables : ℕ) (side : Side) (Q : X → List ℤ → Type 0) where
  abbrev pub AreBounds : List X → List Expr → Type 0
  AreBounds xs es = AllZip (λ a e. IsBoundOf g variables side (Q a) e) xs es

  pub bounds_over : (xs : List X) (es : List Expr) → AreBounds xs es → All (IsExprOver g variables) es
  bounds_over [] [] z = All-nil (IsExprOver g variables)
  bounds_over [] (e ∷ es) z = absurd z
  bounds_over (a ∷ xs) [] z = absurd z
  bounds_over (a ∷ xs) (e ∷ es) z = All-cons (IsExprOver g variables) e es z.0.over (bounds_over xs es z.1)

  bounds_some : (xs : List X) (es : List Expr) → AreBounds xs es → 0 < length xs → 0 < length es
  bounds_some [] es z some = absurd (omega (arith, some))
  bounds_some (a ∷ xs) [] z some = absurd z
  bounds_some (a ∷ xs) (e ∷ es) z some = omega arith

  pub bounds_more : (xs : List X) (i : ℕ) (a : X) (es : List Expr) (e : Expr) (pushed : List Expr) → i < length xs → a ≡ get_or xs i a
      → AreBounds (take i xs) es → IsBoundOf g variables side (Q a) e → pushed ≡ es ++ e ∷ [] → AreBounds (take (i + 1) xs) pushed
  bounds_more xs i a es e pushed low at so_far one is =
      let R : X → Expr → Type 0 = λ b f. IsBoundOf g variables side (Q b) f in
      subst (AllZip R (take (i + 1) xs)) (sym is)
      (subst (λ (ys : List X). AllZip R ys (es ++ e ∷ [])) (sym (take_more xs i a low ∙ ap (λ (b : X). take i xs ++ b ∷ []) (sym at)))
      (AllZip-more R (take i xs) es a e so_far one))

  pub bounds_end : (xs : List X) (i : ℕ) (es : List Expr) → length xs ≤ i → AreBounds (take i xs) es → AreBounds xs es
  bounds_end xs i es end so_far = subst (λ (ys : List X). AreBounds ys es) (take_all i xs end) so_far

  module _ (point : List ℤ) (x : ℤ) (long : length point ≡ variables) where
    abbrev Here : X → Type 0
    Here a = Q a (point ++ x ∷ [])

    all_same : (xs : List X) (es : List Expr) → AreBounds xs es → All (LetsOf side point x) es ↔ All Here xs
    all_same [] [] z = ((λ h. All-nil Here), (λ h. All-nil (LetsOf side point x)))
    all_same [] (e ∷ es) z = absurd z
    all_same (a ∷ xs) [] z = absurd z
    all_same (a ∷ xs) (e ∷ es) z =
        let own = z.0.exact point x long in
        let more = all_same xs es z.1 in (
          (λ h. All-cons Here a xs (own.0 (All-head (LetsOf side point x) e es h)) (more.0 (All-tail (LetsOf side point x) e es h))),
          (λ h. All-cons (LetsOf side point x) e es (own.1 (All-head Here a xs h)) (more.1 (All-tail Here a xs h))),
        )

    any_same : (xs : List X) (es : List Expr) → AreBounds xs es → Any (LetsOf side point x) es ↔ Any Here xs
    any_same [] [] z = ((λ h. absurd (Any-none (LetsOf side point x) h)), (λ h. absurd (Any-none Here h)))
    any_same [] (e ∷ es) z = absurd z
    any_same (a ∷ xs) [] z = absurd z
    any_same (a ∷ xs) (e ∷ es) z =
        let own = z.0.exact point x long in
        let more = any_same xs es z.1 in (
          (λ h. elim (Any-cases (LetsOf side point x) e es h) [
            | inl l ↦ Any-first Here a xs (own.0 l)
            | inr b ↦ Any-later Here a xs (more.0 b)
          ]),
          (λ h. elim (Any-cases Here a xs h) [
            | inl l ↦ Any-first (LetsOf side point x) e es (own.1 l)
            | inr b ↦ Any-later (LetsOf side point x) e es (more.1 b)
          ]),
        )

  pub all_bound : (xs : List X) (es : List Expr) (e : Expr) → AreBounds xs es → 0 < length xs → IsExprOver g variables e
      → ((point : List ℤ) → expr_value e point ≡ extreme_in (tighter side) es point)
      → IsBoundOf g variables side (λ point. All (λ a. Q a point) xs) e
  all_bound xs es e z some over value = record {
    over = over;
    exact = λ point x long.
        let told = all_in side point x es (bounds_some xs es z some) in
        let same = all_same point x long xs es z in
        rw (value point) ((λ h. same.0 (told.0 h)), (λ h. told.1 (same.1 h)));
  }

  pub any_bound : (xs : List X) (es : List Expr) (e : Expr) → AreBounds xs es → 0 < length xs → IsExprOver g variables e
      → ((point : List ℤ) → expr_value e point ≡ extreme_in (tighter (opposite side)) es point)
      → IsBoundOf g variables side (λ point. Any (λ a. Q a point) xs) e
  any_bound xs es e z some over value = record {
    over = over;
    exact = λ point x long.
        let told = any_in side point x es (bounds_some xs es z some) in
        let same = any_same point x long xs es z in
        rw (value point) ((λ h. same.0 (told.0 h)), (λ h. told.1 (same.1 h)));
  }

-- ---- results
pub end_told : {E : Type 0} (answer : Result Expr E) (g : Gauge) (variables : ℕ) (side : Side) (row entry : Row)
    → IsEnd g variables side row → entry ≡ isolated variables row → length entry.coefs ≡ variables
    → IfOk answer (IsExprOver g variables)
    → ((point : List ℤ) → length entry.coefs ≡ length point → IfOk answer (λ e. expr_value e point ≡ rounded side
    (value_at entry point) entry.k))
    → IfOk answer (IsBoundOf g variables side (HoldsRow row))
end_told (Ok e) g variables side row entry end is wide over value = record {
  over = over;
  exact = λ point x long.
      end_exact g variables side row (expr_value e point) point x end long
      (value point (wide ∙ sym long) ∙ ap (λ (r : Row). rounded side (value_at r point) r.k) is);
}
end_told (Err e) g variables side row entry end is wide over value = over

pub all_told : {E X : Type 0} (answer : Result Expr E) (g : Gauge) (variables : ℕ) (side : Side) (Q : X → List ℤ → Type 0) (xs : List X)
    (es : List Expr) → AreBounds g variables side Q xs es → 0 < length xs → IfOk answer (IsExprOver g variables)
    → ((point : List ℤ) → IfOk answer (λ e. expr_value e point ≡ extreme_in (tighter side) es point))
    → IfOk answer (IsBoundOf g variables side (λ point. All (λ a. Q a point) xs))
all_told (Ok e) g variables side Q xs es z some over value = all_bound g variables side Q xs es e z some over value
all_told (Err e) g variables side Q xs es z some over value = over

pub any_told : {E X : Type 0} (answer : Result Expr E) (g : Gauge) (variables : ℕ) (side : Side) (Q : X → List ℤ → Type 0) (xs : List X)
    (es : List Expr) → AreBounds g variables side Q xs es → 0 < length xs → IfOk answer (IsExprOver g variables)
    → ((point : List ℤ) → IfOk answer (λ e. expr_value e point ≡ extreme_in (tighter (opposite side)) es point))
    → IfOk answer (IsBoundOf g variables side (λ point. Any (λ a. Q a point) xs))
any_told (Ok e) g variables side Q xs es z some over value = any_bound g variables side Q xs es e z some over value
any_told (Err e) g variables side Q xs es z some over value = over

pub end_width : (g : Gauge) (variables : ℕ) (side : Side) (row entry : Row) → IsEnd g variables side row → entry ≡ isolated variables row
    → IsWellFormed variables entry
end_width g variables side row entry end is =
    rw is (isolated_formed variables row end.formed (some side (coef_at row variables) end.toward))
  where
    some : (side : Side) (c : ℤ) → pos 0 <ℤ toward side c → c ≢ pos 0
    some Low c p = omega (arith, linear, p)
    some High c p = omega (arith, linear, p)

pub end_modulus : (g : Gauge) (variables : ℕ) (side : Side) (row entry : Row) → IsEnd g variables side row → entry ≡ isolated variables row
    → pos 0 <ℤ entry.k
end_modulus g variables side row entry end is =
    let formed : IsWellFormed variables (isolated variables row) =
    subst (IsWellFormed variables) is (end_width g variables side row entry end is) in
    subst (λ (r : Row). pos 0 <ℤ r.k) (sym is) formed.modulus
