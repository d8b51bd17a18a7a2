-- Covers, from the top downwards.
use Rattle.std.proofs.Common.{◌≡◌, ◌∙◌, inl, inr, refl, sym, ap, subst, arith, ℕ, zero, suc, ◌+◌, ◌-◌, ◌<◌, ◌≤◌, ℤ, List, [], ◌∷◌, ◌++◌}
use Rattle.std.proofs.Common.{length, get_or, take}
use Rattle.std.specs.List.{All, insert}
use Rattle.std.proofs.lemmas.List.{length_push, take_more}
use Rattle.std.proofs.lemmas.List.Edits.{insert_end}
use Rattle.std.proofs.lemmas.List.Elements.{All-nil, All-cons, All-append}
use Rattle.isl_math.proofs.ListLaws.{Any-none, Any-one, Any-first, Any-left, Any-right, Any-parts}
use Rattle.isl_meter.specs.Gauge.{Gauge, IsCharged}
use Rattle.isl_piece.specs.declared.system.System.{System}
use Rattle.isl_piece.specs.declared.row.Row.{Row}
use Rattle.isl_piece.specs.Normal.{IsNormal}
use Rattle.isl_piece.specs.Row.{IsWellFormed}
use Rattle.isl_piece.specs.System.{HoldRows, HoldsSystem, IsSystemWithin, free_columns}
use Rattle.isl_column.specs.Column.{HoldAtSome}
use Rattle.isl_column.specs.RealShadow.{AreImplied}
use Rattle.isl_elim.proofs.ProjectionLaws.{plain_free, plain_holds}
use Rattle.isl_tower.specs.Tower.{IsProjectionOnto, IsTowerOf}
use Rattle.isl_tower.specs.Level.{AreOver}
use Rattle.isl_tower.proofs.TowerLaws.{begins_longer, charged_limit, over_kept, over_none, over_one, system_kept}
use Rattle.isl_calls.specs.Covers.{AreCoversOf, AreLone, IsCoverOf}
use Rattle.isl_calls.specs.Level.{AreShadows, AreUpper, IsShadowOf}

-- a projection is a cover
pub projection_covers : (s : System) (width : ℕ) (systems : List System) → IsProjectionOnto s width systems → IsCoverOf s width systems
projection_covers s width systems p = record { columns = p.columns; points = λ front l b. (p.points front l).1 b }

-- ---- shadows
put_last : (point : List ℤ) (width : ℕ) (x : ℤ) → length point ≡ width → insert point width x ≡ point ++ x ∷ []
put_last point width x l = ap (λ (k : ℕ). insert point k x) (sym l) ∙ insert_end point x

module _ (s : System) (width : ℕ) (plain : s.definitions ≡ []) (columns : free_columns s ≡ width + 1) where
  pub columns_more : s.columns ≡ width + 1
  columns_more = sym (plain_free s plain) ∙ columns

  holds_some : (point : List ℤ) (x : ℤ) → length point ≡ width → HoldsSystem s (point ++ x ∷ []) → HoldAtSome s.rows width point
  holds_some point x l h = (
    x,
    subst (HoldRows s.rows) (sym (put_last point width x l)) ((plain_holds s (point ++ x ∷ []) plain).0 h),
  )

  pub shadow_none : ((point : List ℤ) → length point ≡ s.columns - 1 → ¬ HoldAtSome s.rows width point)
      → (point : List ℤ) (x : ℤ) → length point ≡ width → ¬ HoldsSystem s (point ++ x ∷ [])
  shadow_none none point x l h =
      let c = columns_more in
      none point (omega (arith, c, l)) (holds_some point x l h)

  pub shadow_some : (g : Gauge) (rows : List Row) (made : System) → AreImplied g (s.columns - 1) (HoldAtSome s.rows width) rows
      → made ≡ record { columns = width; definitions = []; rows = rows } → IsShadowOf g s width made
  shadow_some g rows made a is = subst (IsShadowOf g s width) (sym is) (record {
    within = record {
      rows = λ k d i. subst (λ n. IsWellFormed n (get_or rows k d)) narrow (a.proper k d i).formed;
      within = λ k d i. (a.proper k d i).within;
      count = omega arith;
      definitions = tt;
    };
    plain = refl;
    normal = a.normal;
    columns = omega arith;
    points = λ point x l h. a.points point (l ∙ sym narrow) (holds_some point x l h);
  })
    where
      narrow : s.columns - 1 ≡ width
      narrow = let c = columns_more in omega (arith, c)

-- ---- one level below another
pub shadows_none : (g : Gauge) (width : ℕ) → AreShadows g [] width []
shadows_none g width = record {
  over = over_none g width;
  few = omega arith;
  points = λ point x l h. absurd (Any-none (λ t. HoldsSystem t (point ++ x ∷ [])) h);
}

joined : (g : Gauge) (width : ℕ) (xs ys : List System) → AreOver g width xs → AreOver g width ys → AreOver g width (xs ++ ys)
joined g width xs ys a b = record {
  within = All-append (IsSystemWithin g) xs ys a.within b.within;
  plain = All-append (λ s. s.definitions ≡ []) xs ys a.plain b.plain;
  normal = All-append (λ s. IsNormal s.rows) xs ys a.normal b.normal;
  columns = All-append (λ s. free_columns s ≡ width) xs ys a.columns b.columns;
}

module _ (g h : Gauge) (systems : List System) (i width : ℕ) (s : System) (lower : List System) (low : i < length systems)
    (at : s ≡ get_or systems i s) (so_far : AreShadows g (take i systems) width lower) where
  more : take (i + 1) systems ≡ take i systems ++ s ∷ []
  more = take_more systems i s low ∙ ap (λ (t : System). take i systems ++ t ∷ []) (sym at)

  -- the system has a shadow
  pub shadows_more : (t : System) → h.bits ≡ g.bits → IsShadowOf h s width t → AreShadows g (take (i + 1) systems) width (lower ++ t ∷ [])
  shadows_more t bits is = subst (λ xs. AreShadows g xs width (lower ++ t ∷ [])) (sym more) (record {
    over = joined g width lower (t ∷ []) so_far.over
        (over_one g width t (system_kept g h t bits is.plain is.within) is.plain is.normal is.columns);
    few = let f = so_far.few in let a = length_push lower t in let b = length_push (take i systems) s in omega (arith, f, a, b);
    points = λ point x l a.
        let P : System → Type 0 = λ u. HoldsSystem u (point ++ x ∷ []) in
        let Q : System → Type 0 = λ u. HoldsSystem u point in
        elim (Any-parts P (take i systems) (s ∷ []) a) [
          | inl b ↦ Any-left Q lower (t ∷ []) (so_far.points point x l b)
          | inr b ↦ Any-right Q lower (t ∷ []) (Any-first Q t [] (is.points point x l (Any-one P s b)))
        ];
  })

  -- it has no point
  pub shadows_skip : ((point : List ℤ) (x : ℤ) → length point ≡ width → ¬ HoldsSystem s (point ++ x ∷ []))
      → AreShadows g (take (i + 1) systems) width lower
  shadows_skip none = subst (λ xs. AreShadows g xs width lower) (sym more) (record {
    over = so_far.over;
    few = let f = so_far.few in let b = length_push (take i systems) s in omega (arith, f, b);
    points = λ point x l a.
        let P : System → Type 0 = λ u. HoldsSystem u (point ++ x ∷ []) in
        elim (Any-parts P (take i systems) (s ∷ []) a) [
          | inl b ↦ so_far.points point x l b
          | inr b ↦ absurd (none point x l (Any-one P s b))
        ];
  })

-- ---- levels
pub upper_first : (g : Gauge) (s : System) (level : List System) (levels : List (List System)) → levels ≡ level ∷ []
    → AreOver g (free_columns s) level → IsCoverOf s (free_columns s) level → AreUpper g s (free_columns s) levels
upper_first g s level levels e o c = rw e (record {
  covers = record { outer_in = omega arith; count = refl; covers = λ height h. first height h };
  within = All-cons (All (IsSystemWithin g)) level [] o.within (All-nil (All (IsSystemWithin g)));
  plain = All-cons (All (λ t. t.definitions ≡ [])) level [] o.plain (All-nil (All (λ t. t.definitions ≡ [])));
  normal = All-cons (All (λ t. IsNormal t.rows)) level [] o.normal (All-nil (All (λ t. IsNormal t.rows)));
})
  where
    same : (n m : ℕ) → n ≡ m → IsCoverOf s m level → IsCoverOf s n level
    same n m e q = rw e q

    first : (height : ℕ) → height < length (level ∷ []) → IsCoverOf s (free_columns s + height) (get_or (level ∷ []) height [])
    first zero h = same (free_columns s + 0) (free_columns s) (omega arith) c
    first (suc height) h = absurd (omega (arith, h))

-- the lowest level
pub lowest_over : (g h : Gauge) (s : System) (width : ℕ) (level : List System) (levels : List (List System)) → AreUpper g s width levels
    → 0 < length levels → level ≡ get_or levels 0 level → IsCharged g h → AreOver h width level
lowest_over g h s width level [] a n e c = absurd (omega (arith, n))
lowest_over g h s width level (low ∷ levels) a n e c = rw e (over_kept h g width low (sym (charged_limit g h c)) (record {
  within = a.within 0 low (omega arith);
  plain = a.plain 0 low (omega arith);
  normal = a.normal 0 low (omega arith);
  columns = λ k d i. let c = (a.covers.covers 0 (omega arith)).columns k d i in omega (arith, c);
}))

lower_cover : (g : Gauge) (s : System) (width : ℕ) (level lower : List System) → width < free_columns s
    → IsCoverOf s (width + 1) level → AreShadows g level width lower → IsCoverOf s width lower
lower_cover g s width level lower n c b = record {
  columns = b.over.columns;
  points = λ front l begins.
      let z = (begins_longer s front (omega (arith, l, n))).0 begins in
      let k = length_push front z.0 in
      b.points front z.0 l (c.points (front ++ z.0 ∷ []) (omega (arith, k, l)) z.1);
}

upper_cons : (g : Gauge) (s : System) (width : ℕ) (level lower : List System) (levels : List (List System))
    → AreUpper g s (width + 1) (level ∷ levels) → AreShadows g level width lower → AreUpper g s width (lower ∷ level ∷ levels)
upper_cons g s width level lower levels a b = record {
  covers = record {
    outer_in = (let o = a.covers.outer_in in omega (arith, o));
    count = (let c = a.covers.count in omega (arith, c));
    covers = λ height h. at height h;
  };
  within = All-cons (All (IsSystemWithin g)) lower (level ∷ levels) b.over.within a.within;
  plain = All-cons (All (λ t. t.definitions ≡ [])) lower (level ∷ levels) b.over.plain a.plain;
  normal = All-cons (All (λ t. IsNormal t.rows)) lower (level ∷ levels) b.over.normal a.normal;
}
  where
    same : (n m : ℕ) (xs : List System) → n ≡ m → IsCoverOf s m xs → IsCoverOf s n xs
    same n m xs e q = rw e q

    at : (height : ℕ) → height < length (lower ∷ level ∷ levels) → IsCoverOf s (width + height) (get_or (lower ∷ level ∷ levels) height [])
    at zero h = same (width + 0) width lower (omega arith)
        (lower_cover g s width level lower (let c = a.covers.count in omega (arith, c))
        (same (width + 1) (width + 1 + 0) level (omega arith) (a.covers.covers 0 (omega arith))) b)
    at (suc height) h = same (width + suc height) (width + 1 + height) (get_or (level ∷ levels) height []) (omega arith)
        (a.covers.covers height (omega (arith, h)))

pub upper_next : (g h : Gauge) (s : System) (width : ℕ) (level lower : List System) (levels new : List (List System))
    → AreUpper g s (width + 1) levels → 0 < length levels → level ≡ get_or levels 0 level → IsCharged g h → AreShadows h level width lower
    → new ≡ insert levels 0 lower → AreUpper g s width new
upper_next g h s width level lower [] new a n e c b i = absurd (omega (arith, n))
upper_next g h s width level lower (low ∷ levels) new a n e c b i =
    let kept : AreShadows g level width lower = record {
      over = over_kept g h width lower (charged_limit g h c) b.over;
      few = b.few;
      points = b.points;
    } in
    let below : AreShadows g low width lower = rw e at kept in
    rw i (upper_cons g s width low lower levels a below)

-- ---- levels of at most one system
pub lone_first : (s : System) (level : List System) (levels : List (List System)) → levels ≡ level ∷ [] → length level ≤ 1
    → IsProjectionOnto s (free_columns s) level → AreLone s levels
lone_first s level levels e few top = rw e (record {
  few = All-cons (λ (xs : List System). length xs ≤ 1) level [] few (All-nil (λ (xs : List System). length xs ≤ 1));
  top = top;
})

pub lone_next : (g : Gauge) (s : System) (width : ℕ) (level lower : List System) (levels new : List (List System)) → AreLone s levels
    → 0 < length levels → level ≡ get_or levels 0 level → AreShadows g level width lower → new ≡ insert levels 0 lower → AreLone s new
lone_next g s width level lower [] new a n e b i = absurd (omega (arith, n))
lone_next g s width level lower (low ∷ levels) new a n e b i =
    let below : AreShadows g low width lower = rw e at b in
    let one : length low ≤ 1 = a.few 0 [] (omega arith) in
    let fewer : length lower ≤ length low = below.few in
    let above : suc (length (low ∷ levels) - 1) ≡ length (lower ∷ low ∷ levels) - 1 = omega arith in
    rw i (record {
      few = All-cons (λ (xs : List System). length xs ≤ 1) lower (low ∷ levels) (omega (arith, one, fewer)) a.few;
      top = subst (λ (k : ℕ). IsProjectionOnto s (free_columns s) (get_or (lower ∷ low ∷ levels) k [])) above a.top;
    })

-- a tower has covers
pub tower_covers : (s : System) (outer : ℕ) (levels : List (List System)) → IsTowerOf s outer levels → AreCoversOf s outer levels
tower_covers s outer levels t = record {
  outer_in = t.outer_in;
  count = t.count;
  covers = λ height h. projection_covers s (outer + height) (get_or levels height []) (t.projections height h);
}
