-- Towers of projections, from the top downwards.
use Rattle.std.proofs.Common.{◌≡◌, ◌↔◌, ◌∙◌, inl, inr, refl, sym, ap, subst, arith, ℕ, zero, suc, ◌+◌, ◌<◌, ℤ, List, [], ◌∷◌}
use Rattle.std.proofs.Common.{◌++◌, length, get_or, take}
use Rattle.std.proofs.Common.{Option, Some, None}
use Rattle.std.specs.Prelude.{map, option_map}
use Rattle.std.specs.List.{All, insert}
use Rattle.std.proofs.lemmas.List.{append-nil, append_assoc, length_push, nil_from_length, take_more}
use Rattle.std.proofs.lemmas.List.Edits.{insert_end}
use Rattle.std.proofs.lemmas.List.Elements.{All-nil, All-cons, All-head, All-append}
use Rattle.isl_math.proofs.ListLaws.{Any-none, Any-first, Any-one, Any-left, Any-right, Any-parts}
use Rattle.isl_meter.specs.Gauge.{Gauge, IsCharged}
use Rattle.isl_meter.proofs.CutLemmas.{charges}
use Rattle.isl_piece.specs.declared.system.System.{System}
use Rattle.isl_piece.specs.declared.definition.Definition.{Definition}
use Rattle.isl_piece.specs.declared.row.Row.{Row}
use Rattle.isl_piece.specs.Normal.{IsNormal, normal_rows, normal_system}
use Rattle.isl_piece.specs.System.{HoldsSystem, IsSystemWithin, free_columns}
use Rattle.isl_piece.proofs.RowMagnitudes.{rows_within_kept}
use Rattle.isl_elim.specs.Dependents.{kept_definitions, narrowed, with_dependents}
use Rattle.isl_elim.specs.Elimination.{IsProjection, without_from}
use Rattle.isl_tower.specs.Tower.{BeginsPoint, IsProjectionOnto}
use Rattle.isl_tower.specs.Level.{AreOver, AreBelow, AreLevels}

-- ---- numbers that begin a point
-- numbers begin a point where they and one more do
pub begins_longer : (s : System) (front : List ℤ) → length front < free_columns s
    → BeginsPoint s front ↔ ((x : ℤ) × BeginsPoint s (front ++ x ∷ []))
begins_longer s front n = (
  (λ b. first b.0 b.1 b.2),
  (λ b. (
    b.0 ∷ b.1.0,
    (let l = b.1.1 in let k = length_push front b.0 in omega (arith, l, k)),
    subst (λ p. HoldsSystem s p)
        (append_assoc front (b.0 ∷ []) b.1.0) b.1.2,
  )),
)
  where
    first : (rest : List ℤ) → length front + length rest ≡ free_columns s → HoldsSystem s (front ++ rest)
        → (x : ℤ) × BeginsPoint s (front ++ x ∷ [])
    first [] l h = absurd (omega (arith, l, n))
    first (x ∷ rest) l h = (
      x,
      (
        rest,
        (let k = length_push front x in omega (arith, l, k)),
        subst (λ p. HoldsSystem s p)
            (sym (append_assoc front (x ∷ []) rest)) h,
      ),
    )

pub whole_point : (s : System) (front : List ℤ) → length front ≡ free_columns s → BeginsPoint s front ↔ HoldsSystem s front
whole_point s front l = (
  (λ b.
      let none = nil_from_length b.0 (let k = b.1 in omega (arith, l, k)) in
      subst (λ p. HoldsSystem s p) (ap (λ (xs : List ℤ). front ++ xs) none ∙ append-nil front) b.2),
  (λ h. ([], omega (arith, l), subst (λ p. HoldsSystem s p) (sym (append-nil front)) h)),
)

-- ---- the top
pub over_none : (g : Gauge) (width : ℕ) → AreOver g width []
over_none g width = record {
  within = All-nil (IsSystemWithin g);
  plain = All-nil (λ s. s.definitions ≡ []);
  normal = All-nil (λ s. IsNormal s.rows);
  columns = All-nil (λ s. free_columns s ≡ width);
}

pub top_none : (s : System) → ((point : List ℤ) → ¬ HoldsSystem s point) → IsProjectionOnto s (free_columns s) []
top_none s n = record {
  columns = All-nil (λ t. free_columns t ≡ free_columns s);
  points = λ front l. ((λ h. absurd (Any-none (λ t. HoldsSystem t front) h)), (λ b. absurd (n (front ++ b.0) b.2)));
}

pub over_one : (g : Gauge) (width : ℕ) (t : System) → IsSystemWithin g t → t.definitions ≡ [] → IsNormal t.rows → free_columns t ≡ width
    → AreOver g width (t ∷ [])
over_one g width t w p n f = record {
  within = All-cons (IsSystemWithin g) t [] w (All-nil (IsSystemWithin g));
  plain = All-cons (λ s. s.definitions ≡ []) t [] p (All-nil (λ s. s.definitions ≡ []));
  normal = All-cons (λ s. IsNormal s.rows) t [] n (All-nil (λ s. IsNormal s.rows));
  columns = All-cons (λ s. free_columns s ≡ width) t [] f (All-nil (λ s. free_columns s ≡ width));
}

pub top_some : (s t : System) → free_columns t ≡ free_columns s → ((point : List ℤ) → HoldsSystem t point ↔ HoldsSystem s point)
    → IsProjectionOnto s (free_columns s) (t ∷ [])
top_some s t f same = record {
  columns = All-cons (λ u. free_columns u ≡ free_columns s) t [] f (All-nil (λ u. free_columns u ≡ free_columns s));
  points = λ front l. (
    (λ h. (whole_point s front l).1 ((same front).0 (Any-one (λ u. HoldsSystem u front) t h))),
    (λ b. Any-first (λ u. HoldsSystem u front) t [] ((same front).1 ((whole_point s front l).0 b))),
  );
}

-- ---- one level below another
pub below_none : (g : Gauge) (width : ℕ) → AreBelow g [] width []
below_none g width = record {
  over = over_none g width;
  points = λ point l. (
    (λ h. absurd (Any-none (λ t. HoldsSystem t point) h)),
    (λ h. absurd (Any-none (λ t. HoldsSystem t (point ++ h.0 ∷ [])) h.1)),
  );
}

-- of a system without definitions none is kept
pub none_kept : (s : System) (cols : List ℕ) → s.definitions ≡ [] → kept_definitions s cols ≡ []
none_kept s cols p = ap (λ (ds : List Definition). map (narrowed gone) (without_from (free_columns s) gone ds)) p
  where
    gone : List ℕ
    gone = with_dependents s cols

pub plain_below : (s : System) (cols : List ℕ) (new : List System) → s.definitions ≡ []
    → All (λ t. t.definitions ≡ kept_definitions s cols) new → All (λ t. t.definitions ≡ []) new
plain_below s cols new p a = λ i d l. a i d l ∙ none_kept s cols p

-- a meter that was charged has the same limit
pub charged_limit : (g h : Gauge) → IsCharged g h → h.bits ≡ g.bits
charged_limit g h c = ap (λ (m : Gauge). m.bits) c.same

pub system_kept : (g h : Gauge) (s : System) → h.bits ≡ g.bits → s.definitions ≡ [] → IsSystemWithin h s → IsSystemWithin g s
system_kept g h s e p w = record {
  rows = w.rows;
  within = rows_within_kept g h s.rows e w.within;
  count = w.count;
  definitions = rw p tt;
}

pub over_kept : (g h : Gauge) (width : ℕ) (systems : List System) → h.bits ≡ g.bits → AreOver h width systems → AreOver g width systems
over_kept g h width systems e o = record {
  within = λ k d i. system_kept g h (get_or systems k d) e (o.plain k d i) (o.within k d i);
  plain = o.plain;
  normal = o.normal;
  columns = o.columns;
}

over_joined : (g : Gauge) (width : ℕ) (xs ys : List System) → AreOver g width xs → AreOver g width ys → AreOver g width (xs ++ ys)
over_joined g width xs ys a b = record {
  within = All-append (IsSystemWithin g) xs ys a.within b.within;
  plain = All-append (λ s. s.definitions ≡ []) xs ys a.plain b.plain;
  normal = All-append (λ s. IsNormal s.rows) xs ys a.normal b.normal;
  columns = All-append (λ s. free_columns s ≡ width) xs ys a.columns b.columns;
}

-- one system more, and what is left of it without its last column
pub below_push : (g : Gauge) (systems : List System) (width : ℕ) (s : System) (lower new : List System) → AreBelow g systems width lower
    → free_columns s ≡ width + 1
    → IsProjection s width new → All (IsSystemWithin g) new → All (λ t. t.definitions ≡ []) new → All (λ t. IsNormal t.rows) new
    → AreBelow g (systems ++ s ∷ []) width (lower ++ new)
below_push g systems width s lower new b f p w d n = record {
  over = over_joined g width lower new b.over (record {
    within = w;
    plain = d;
    normal = n;
    columns = λ k e i. let c = p.columns k e i in omega (arith, c, f);
  });
  points = λ point l.
      let P : System → Type 0 = λ t. HoldsSystem t point in
      let same = p.points point (omega (arith, l, f)) in
      let put : (x : ℤ) → insert point width x ≡ point ++ x ∷ [] = λ x. ap (λ (k : ℕ). insert point k x) (sym l) ∙ insert_end point x in (
        (λ h. elim (Any-parts P lower new h) [
          | inl a ↦ let z = (b.points point l).0 a in (z.0, Any-left (λ t. HoldsSystem t (point ++ z.0 ∷ [])) systems (s ∷ []) z.1)
          | inr c ↦ let z = same.0 c in (
            z.0,
            Any-right (λ t. HoldsSystem t (point ++ z.0 ∷ [])) systems (s ∷ [])
                (Any-first (λ t. HoldsSystem t (point ++ z.0 ∷ [])) s [] (subst (λ q. HoldsSystem s q) (put z.0) z.1)),
          )
        ]),
        (λ h. elim (Any-parts (λ t. HoldsSystem t (point ++ h.0 ∷ [])) systems (s ∷ []) h.1) [
          | inl a ↦ Any-left P lower new ((b.points point l).1 (h.0, a))
          | inr c ↦ Any-right P lower new (same.1 (
            h.0,
            subst (λ q. HoldsSystem s q) (sym (put h.0))
                (Any-one (λ t. HoldsSystem t (point ++ h.0 ∷ [])) s c),
          ))
        ]),
      );
}

-- the same in a loop over the systems
pub below_more : (g h : Gauge) (systems : List System) (i width : ℕ) (s : System) (lower new : List System) → i < length systems
    → s ≡ get_or systems i s → AreBelow g (take i systems) width lower → h.bits ≡ g.bits
    → free_columns s ≡ width + 1 → IsProjection s width new → All (IsSystemWithin h) new → All (λ t. t.definitions ≡ []) new
    → All (λ t. IsNormal t.rows) new → AreBelow g (take (i + 1) systems) width (lower ++ new)
below_more g h systems i width s lower new l e b k f p w d n =
    let more : take (i + 1) systems ≡ take i systems ++ s ∷ [] = take_more systems i s l
    ∙ ap (λ (t : System). take i systems ++ t ∷ []) (sym e) in
    subst (λ xs. AreBelow g xs width (lower ++ new)) (sym more)
    (below_push g (take i systems) width s lower new b f p (λ j y m. system_kept g h (get_or new j y) k (d j y m) (w j y m)) d n)

-- ---- levels
pub levels_first : (g : Gauge) (s : System) (level : List System) → AreOver g (free_columns s) level
    → IsProjectionOnto s (free_columns s) level → AreLevels g s (free_columns s) (level ∷ [])
levels_first g s level o p = record {
  tower = record { outer_in = omega arith; count = refl; projections = λ height h. first height h };
  within = All-cons (All (IsSystemWithin g)) level [] o.within (All-nil (All (IsSystemWithin g)));
  plain = All-cons (All (λ t. t.definitions ≡ [])) level [] o.plain (All-nil (All (λ t. t.definitions ≡ [])));
  normal = All-cons (All (λ t. IsNormal t.rows)) level [] o.normal (All-nil (All (λ t. IsNormal t.rows)));
}
  where
    same : (n m : ℕ) → n ≡ m → IsProjectionOnto s m level → IsProjectionOnto s n level
    same n m e q = rw e q

    first : (height : ℕ) → height < length (level ∷ []) → IsProjectionOnto s (free_columns s + height) (get_or (level ∷ []) height [])
    first zero h = same (free_columns s + 0) (free_columns s) (omega arith) p
    first (suc height) h = absurd (omega (arith, h))

-- the systems of the lowest level
pub lowest_over : (g : Gauge) (s : System) (width : ℕ) (level : List System) (levels : List (List System))
    → AreLevels g s width (level ∷ levels) → AreOver g width level
lowest_over g s width level levels a = record {
  within = All-head (All (IsSystemWithin g)) level levels a.within;
  plain = All-head (All (λ t. t.definitions ≡ [])) level levels a.plain;
  normal = All-head (All (λ t. IsNormal t.rows)) level levels a.normal;
  columns = λ k d i. let c = (a.tower.projections 0 (omega arith)).columns k d i in omega (arith, c);
}

lower_projection : (g : Gauge) (s : System) (width : ℕ) (level lower : List System) → width < free_columns s
    → IsProjectionOnto s (width + 1) level → AreBelow g level width lower → IsProjectionOnto s width lower
lower_projection g s width level lower n p b = record {
  columns = b.over.columns;
  points = λ front l.
      let longer = begins_longer s front (omega (arith, l, n)) in
      let long : (x : ℤ) → length (front ++ x ∷ []) ≡ width + 1 = λ x. let k = length_push front x in omega (arith, k, l) in (
        (λ h. let z = (b.points front l).0 h in longer.1 (z.0, (p.points (front ++ z.0 ∷ []) (long z.0)).0 z.1)),
        (λ h. let z = longer.0 h in (b.points front l).1 (z.0, (p.points (front ++ z.0 ∷ []) (long z.0)).1 z.1)),
      );
}

pub levels_more : (g : Gauge) (s : System) (width : ℕ) (level lower : List System) (levels : List (List System))
    → AreLevels g s (width + 1) (level ∷ levels) → AreBelow g level width lower → AreLevels g s width (lower ∷ level ∷ levels)
levels_more g s width level lower levels a b = record {
  tower = record {
    outer_in = (let o = a.tower.outer_in in omega (arith, o));
    count = (let c = a.tower.count in omega (arith, c));
    projections = λ height h. at height h;
  };
  within = All-cons (All (IsSystemWithin g)) lower (level ∷ levels) b.over.within a.within;
  plain = All-cons (All (λ t. t.definitions ≡ [])) lower (level ∷ levels) b.over.plain a.plain;
  normal = All-cons (All (λ t. IsNormal t.rows)) lower (level ∷ levels) b.over.normal a.normal;
}
  where
    same : (n m : ℕ) (xs : List System) → n ≡ m → IsProjectionOnto s m xs → IsProjectionOnto s n xs
    same n m xs e q = rw e q

    at : (height : ℕ) → height < length (lower ∷ level ∷ levels)
        → IsProjectionOnto s (width + height) (get_or (lower ∷ level ∷ levels) height [])
    at zero h = same (width + 0) width lower (omega arith)
        (lower_projection g s width level lower (let c = a.tower.count in omega (arith, c))
        (same (width + 1) (width + 1 + 0) level (omega arith) (a.tower.projections 0 (omega arith))) b)
    at (suc height) h = same (width + suc height) (width + 1 + height) (get_or (level ∷ levels) height []) (omega arith)
        (a.tower.projections height (omega (arith, h)))

-- ---- what the code asks for
-- the system with its normal rows has its columns
normal_columns : (s t : System) → normal_system s ≡ Some t → (t.columns ≡ s.columns) × (t.definitions ≡ s.definitions)
normal_columns s t e = by (normal_rows s.rows) e
  where
    made : List Row → System
    made rows = record { columns = s.columns; definitions = s.definitions; rows = rows }

    none : None ≡ Some t → ⊥
    none e = cc

    some : (u : System) → Some u ≡ Some t → u ≡ t
    some u e = cc

    by : (o : Option (List Row)) → option_map (λ rows. record { columns = s.columns; definitions = s.definitions; rows = rows }) o ≡ Some t
        → (t.columns ≡ s.columns) × (t.definitions ≡ s.definitions)
    by None e = absurd (none e)
    by (Some rows) e =
        let i = some (made rows) e in
        (sym (ap (λ (u : System). u.columns) i), sym (ap (λ (u : System). u.definitions) i))

pub top_found : (g : Gauge) (s t : System) → normal_system s ≡ Some t → s.definitions ≡ [] → IsSystemWithin g t → IsNormal t.rows
    → ((point : List ℤ) → HoldsSystem t point ↔ HoldsSystem s point)
    → AreOver g (free_columns s) (t ∷ []) × IsProjectionOnto s (free_columns s) (t ∷ [])
top_found g s t e d w n same =
    let c = normal_columns s t e in
    let plain : t.definitions ≡ [] = c.1 ∙ d in
    let free : free_columns t ≡ free_columns s = columns c.0 c.1 in
    (over_one g (free_columns s) t w plain n free, top_some s t free same)
  where
    columns : t.columns ≡ s.columns → t.definitions ≡ s.definitions → free_columns t ≡ free_columns s
    columns a b = let k = ap (λ (ds : List Definition). length ds) b in omega (arith, a, k)

pub levels_start : (g : Gauge) (s : System) (level : List System) (levels : List (List System)) → levels ≡ level ∷ []
    → AreOver g (free_columns s) level → IsProjectionOnto s (free_columns s) level → AreLevels g s (free_columns s) levels
levels_start g s level levels e o p = rw e (levels_first g s level o p)

-- the lowest level, and one more below it
pub lowest : (g h : Gauge) (s : System) (width : ℕ) (level : List System) (levels : List (List System)) → AreLevels g s width levels
    → 0 < length levels → level ≡ get_or levels 0 level → IsCharged g h → AreOver h width level
lowest g h s width level [] a n e c = absurd (omega (arith, n))
lowest g h s width level (low ∷ levels) a n e c =
    rw e (over_kept h g width low (sym (charged_limit g h c)) (lowest_over g s width low levels a))

pub levels_next : (g h : Gauge) (s : System) (width : ℕ) (level lower : List System) (levels new : List (List System))
    → AreLevels g s (width + 1) levels → 0 < length levels → level ≡ get_or levels 0 level → IsCharged g h → AreBelow h level width lower
    → new ≡ insert levels 0 lower → AreLevels g s width new
levels_next g h s width level lower [] new a n e c b i = absurd (omega (arith, n))
levels_next g h s width level lower (low ∷ levels) new a n e c b i =
    let kept : AreBelow g level width lower = record { over = over_kept g h width lower (charged_limit g h c) b.over; points = b.points } in
    let below : AreBelow g low width lower = rw e at kept in
    rw i (levels_more g s width low lower levels a below)

-- a system of a level
pub item_over : (g h : Gauge) (width : ℕ) (systems : List System) (i : ℕ) (s : System) → AreOver g width systems → IsCharged g h
    → i < length systems
    → s ≡ get_or systems i s → IsSystemWithin h s × (s.definitions ≡ []) × (free_columns s ≡ width)
item_over g h width systems i s o c l e = rw e (
  system_kept h g (get_or systems i s) (sym (charged_limit g h c)) (o.plain i s l) (o.within i s l),
  o.plain i s l,
  o.columns i s l,
)

pub ruleset level_steps = (charges, below_none, below_more, levels_start, lowest, levels_next)
