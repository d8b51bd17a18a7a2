-- Items with covers.
use Rattle.std.proofs.Common.{◌≡◌, inl, inr, refl, sym, ap, ◌∙◌, subst, arith, ℕ, ◌+◌, ◌-◌, ◌<◌, ◌≤◌, ◌^◌, ℤ, pos, neg_ℤ, ◌<ℤ◌, Bool, true, false}
use Rattle.std.proofs.Common.{List, [], ◌∷◌, ◌++◌, length, length-append, get_or, map, take}
use Rattle.std.specs.List.{All, Any}
use Rattle.std.proofs.lemmas.List.{get_or-map, length-map, map-append, take_all, take_more}
use Rattle.std.proofs.lemmas.List.Elements.{All-map}
use Rattle.std.proofs.lemmas.List.FromFn.{get_or-range_with_len, length-range_with_len}
use Rattle.isl_math.proofs.ListLaws.{Any-weaker}
use Rattle.isl_math.proofs.Ring.{linear}
use Rattle.isl_meter.specs.Gauge.{Gauge}
use Rattle.isl_space.specs.Form.{width_of}
use Rattle.isl_space.specs.Shape.{form_of}
use Rattle.isl_piece.specs.declared.row.Row.{Row}
use Rattle.isl_piece.specs.declared.row.RowKind.{RowKind}
use Rattle.isl_piece.specs.declared.row.RowKind.TheVariants.{Zero, AtLeast, Divides, NotDivides}
use Rattle.isl_piece.specs.declared.system.System.{System}
use Rattle.isl_piece.specs.Row.{coef_at, IsWellFormed}
use Rattle.isl_piece.specs.System.{HoldRows, HoldsSystem, IsSystemWithin, free_columns}
use Rattle.isl_elim.proofs.ProjectionLaws.{plain_free, plain_holds}
use Rattle.isl_tower.specs.Ends.{EndsAbove, EndsBelow}
use Rattle.isl_union.proofs.AlignedLaws.{Any-mapped}
use Rattle.isl_calls.specs.Covers.{AreCoversOf, AreEnded, IsEnded}
use Rattle.isl_frame.specs.Needed.{AreRowsOver}
use Rattle.isl_bounds.specs.declared.side.Side.TheVariants.{Low, High}
use Rattle.isl_bounds.specs.Ends.{AreEnded as AreBounded, IsEndAt}
use Rattle.isl_nest.specs.Covered.{view_of, AreCovers, IsCover, IsCovered, IsItem}
use Rattle.isl_nest.specs.Item.{ItemView}
use Rattle.isl_nest.specs.declared.item.Item.{Item}
use Rattle.isl_calls.specs.declared.calls.Calls.{Calls}
use Rattle.isl_calls.specs.Apart.{called_form}
use Rattle.isl_calls.specs.Calls.{width_behind, AreCalls}
use Rattle.isl_calls.specs.CoverRows.{covers_of, rows_of}
use Rattle.isl_calls.proofs.CalledLaws.{item_view}

-- ---- lists that are made in a loop
pub mapped_more : {A B : Type 0} (f : A → B) (xs : List A) (i : ℕ) (x : A) (ys pushed : List B) (y : B) → i < length xs → x ≡ get_or xs i x
    → ys ≡ map f (take i xs) → y ≡ f x → pushed ≡ ys ++ y ∷ [] → pushed ≡ map f (take (i + 1) xs)
mapped_more {A = A} {B = B} f xs i x ys pushed y low at so_far is made =
    made ∙ ap (λ (zs : List B). zs ++ y ∷ []) so_far ∙ ap (λ (z : B). map f (take i xs) ++ z ∷ []) is
    ∙ sym (map-append f (take i xs) (x ∷ []))
    ∙ ap (map f) (sym (take_more xs i x low ∙ ap (λ (z : A). take i xs ++ z ∷ []) (sym at)))

pub mapped_all : {A B : Type 0} (f : A → B) (xs : List A) (i : ℕ) (ys : List B) → length xs ≤ i → ys ≡ map f (take i xs) → ys ≡ map f xs
mapped_all f xs i ys past so_far = so_far ∙ ap (map f) (take_all i xs past)

-- ---- ends
turned : (c : ℤ) → c <ℤ pos 0 → pos 0 <ℤ neg_ℤ c
turned c h = omega (arith, linear)

module _ (column : ℕ) (r : Row) where
  ends_low : EndsBelow r.kind (coef_at r column) → IsEndAt Low column r
  ends_low h = by r.kind refl h
    where
      by : (kind : RowKind) → r.kind ≡ kind → EndsBelow kind (coef_at r column) → IsEndAt Low column r
      by Zero is e = inl (is, e)
      by AtLeast is e = inr (is, e)
      by Divides is e = absurd e
      by NotDivides is e = absurd e

  ends_high : EndsAbove r.kind (coef_at r column) → IsEndAt High column r
  ends_high h = by r.kind refl h
    where
      by : (kind : RowKind) → r.kind ≡ kind → EndsAbove kind (coef_at r column) → IsEndAt High column r
      by Zero is e = inl (is, e)
      by AtLeast is e = inr (is, turned (coef_at r column) e)
      by Divides is e = absurd e
      by NotDivides is e = absurd e

rows_ended : (column : ℕ) (t : System) → free_columns t ≡ column + 1 → IsEnded t → AreBounded column t.rows
rows_ended column t free ended =
    let same : free_columns t - 1 ≡ column = omega (arith, free) in
    record {
      low = Any-weaker (λ r. EndsBelow r.kind (coef_at r (free_columns t - 1))) (IsEndAt Low column)
          (λ r e. ends_low column r (subst (λ k. EndsBelow r.kind (coef_at r k)) same e)) t.rows ended.0;
      high = Any-weaker (λ r. EndsAbove r.kind (coef_at r (free_columns t - 1))) (IsEndAt High column)
          (λ r e. ends_high column r (subst (λ k. EndsAbove r.kind (coef_at r k)) same e)) t.rows ended.1;
    }

-- ---- rows of systems
system_rows : (g : Gauge) (t : System) (columns : ℕ) → IsSystemWithin g t → t.definitions ≡ [] → free_columns t ≡ columns
    → AreRowsOver g columns t.rows
system_rows g t columns within plain free = record {
  formed = subst (λ n. All (IsWellFormed n) t.rows) (sym (plain_free t plain) ∙ free) within.rows;
  within = within.within;
}

-- ---- what calls and covers make
module _ (g : Gauge) (params : ℕ) (c : Calls) (are : AreCalls g params c) where
  abbrev view : ItemView
  view = item_view params c

  abbrev D : ℕ
  D = width_of (called_form c)

  abbrev T : ℕ
  T = width_of (form_of c.time.value)

  abbrev W : ℕ
  W = width_behind c.is_own D T

  fits : (own : Bool) (d t : ℕ) → (own ≡ true → d ≡ t) → (t ≤ width_behind own d t) × (d ≤ width_behind own d t)
  fits true d t same = (omega arith, (let e = same refl in omega (arith, e)))
  fits false d t same = (omega arith, omega arith)

  -- behind the times stand the arguments
  from_times : (own : Bool) (d t at : ℕ) → params + t ≤ at → at < params + width_behind own d t
      → (params + width_behind own d t) - d ≤ at
  from_times true d t at low high = absurd (omega (arith, low, high))
  from_times false d t at low high = omega (arith, low)

  pub domain_fits : D ≤ free_columns c.system
  domain_fits =
      let f = are.free in
      let d = (fits c.is_own D T (λ e. ap width_of (are.same e))).1 in
      omega (arith, f, d)

  pub is_item : IsItem view
  is_item =
      let fit = fits c.is_own D T (λ e. ap width_of (are.same e)) in
      let start = (params + W) - D in
      let n = length-range_with_len start D in
      record {
        formed = (system_rows g c.system (params + W) are.within are.plain are.free).formed;
        times = fit.0;
        arguments = λ i d l.
            let short : i < D = omega (arith, l, n) in
            let is = get_or-range_with_len start D i d short in
            let wide = fit.1 in
            omega (arith, is, short, wide);
        behind = λ at low high.
            let from = from_times c.is_own D T at low high in
            let short : at - start < D = omega (arith, from, high) in (
              at - start,
              omega (arith, n, short),
              get_or-range_with_len start D (at - start) at short ∙ omega (arith, from),
            );
      }

  module _ (levels : List (List System)) (covers : AreCoversOf c.system params levels) (ended : AreEnded levels)
      (within : All (All (IsSystemWithin g)) levels) (plain : All (All (λ t. t.definitions ≡ [])) levels) where
    counted : length levels ≡ W + 1
    counted = let n = covers.count in let f = are.free in omega (arith, n, f)

    level_is : (level : ℕ) → level < length levels → get_or (covers_of levels) level [] ≡ map rows_of (get_or levels level [])
    level_is level low = get_or-map (map rows_of) levels level [] [] low

    is_cover : (level : ℕ) → level < length levels → IsCover g view (params + level) (map rows_of (get_or levels level []))
    is_cover level low =
        let systems = get_or levels level [] in
        let cover = covers.covers level low in
        record {
          over = All-map (AreRowsOver g (params + level)) rows_of systems (λ k d i.
              system_rows g (get_or systems k d) (params + level) (within level [] low k d i) (plain level [] low k d i)
              (cover.columns k d i));
          begun = λ front long begun.
              let w = begun.width in
              let l = length-append front begun.rest in
              let f = are.free in
              let some = cover.points front long (
                begun.rest,
                omega (arith, w, l, f),
                (plain_holds c.system (front ++ begun.rest) are.plain).1 begun.holds,
              ) in
              Any-mapped (λ rows. HoldRows rows front) rows_of systems
              (holds systems (plain level [] low) front some);
        }
      where
        holds : (systems : List System) → All (λ t. t.definitions ≡ []) systems → (front : List ℤ)
            → Any (λ t. HoldsSystem t front) systems → Any (λ t. HoldRows (rows_of t) front) systems
        holds systems plain front a = (
          a.0,
          a.1,
          a.2,
          a.3,
          (plain_holds a.1 front (subst (λ (t : System). t.definitions ≡ []) a.3 (plain a.0 a.1 a.2))).0 a.4,
        )

    pub are_covers : AreCovers g view (covers_of levels)
    are_covers = record {
      count = length-map levels (map rows_of) ∙ counted;
      each = λ level low.
          let n = counted in
          let inside : level < length levels = omega (arith, n, low) in
          subst (IsCover g view (params + level)) (sym (level_is level inside)) (is_cover level inside);
      ended = λ level low.
          let n = counted in
          let inside : level + 1 < length levels = omega (arith, n, low) in
          let systems = get_or levels (level + 1) [] in
          subst (All (AreBounded (params + level))) (sym (level_is (level + 1) inside))
          (All-map (AreBounded (params + level)) rows_of systems (λ k d i.
          rows_ended (params + level) (get_or systems k d)
          (let f = (covers.covers (level + 1) inside).columns k d i in omega (arith, f)) (ended (level + 1) (omega arith) inside k d i)));
    }

    pub is_covered : (item : Item) → view_of item ≡ view → item.covers.items ≡ covers_of levels → free_columns c.system < 2 ^ 64
        → IsCovered g item
    is_covered item is same narrow = record {
      is = subst IsItem (sym is) is_item;
      narrow = subst (λ (v : ItemView). v.params + v.levels < 2 ^ 64) (sym is) (subst (λ n. n < 2 ^ 64) are.free narrow);
      over = subst (λ (v : ItemView). AreRowsOver g (v.params + v.levels) v.rows) (sym is)
          (system_rows g c.system (params + W) are.within are.plain are.free);
      covers = subst (λ (v : ItemView). AreCovers g v item.covers.items) (sym is)
          (subst (AreCovers g view) (sym same) are_covers);
    }
