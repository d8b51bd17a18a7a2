-- Bounds of either side.
use Rattle.std.proofs.Common.{◌≡◌, ◌≢◌, inl, inr, refl, sym, ap, ◌∙◌, subst, arith, ℕ, ◌+◌, ◌<◌, ◌≤◌, ℤ, pos, neg_ℤ, ◌*ℤ◌, ◌<ℤ◌}
use Rattle.std.proofs.Common.{List, [], ◌∷◌, ◌++◌, length, length-append, get_or, take}
use Rattle.std.specs.List.{All, AllZip, Any, Contains}
use Rattle.std.proofs.lemmas.List.{take_more, take_all}
use Rattle.std.proofs.lemmas.List.Elements.{All-append, All-cons, All-nil, All-weaker, All-contains, All-contains_itself}
use Rattle.isl_math.proofs.ListLaws.{All-parts, All-zipped, All-zipped_back, Any-cases, Any-first, Any-later, Any-left, Any-none, Any-one}
use Rattle.isl_math.proofs.ListLaws.{Any-parts, Any-right}
use Rattle.isl_math.proofs.OrderLaws.{≡-from_*ℤ, positive-*ℤ}
use Rattle.isl_math.proofs.Ring.{expand, linear}
use Rattle.isl_meter.specs.Gauge.{Gauge}
use Rattle.isl_piece.specs.declared.row.Row.{Row}
use Rattle.isl_piece.specs.Row.{coef_at, HoldsRow, IsRowWithin, IsWellFormed}
use Rattle.isl_piece.specs.System.{HoldRows}
use Rattle.isl_frame.specs.Frame.{columns_at, IsThroughBehind}
use Rattle.isl_bounds.specs.Bound.{AreEnds, HoldSome, IsEnd}
use Rattle.isl_bounds.specs.Ends.{AreEnded, AreEndsOf, IsEndAt, IsNoEnd}
use Rattle.isl_bounds.specs.Side.{toward}
use Rattle.isl_bounds.specs.declared.ends.Ends.{Ends}
use Rattle.isl_bounds.specs.declared.side.Side.{Side}
use Rattle.isl_bounds.specs.declared.side.Side.TheVariants.{Low, High}
use Rattle.isl_nest.specs.declared.place.Place.{Place}
use Rattle.isl_nest.specs.declared.sides.Sides.{Sides}
use Rattle.isl_nest.specs.Around.{AreSides}
use Rattle.isl_nest.specs.Places.{AreEndsThrough, IsNoEndThrough, Stands}

-- ---- signs stay
end_scaled : (side : Side) (s c : ℤ) → pos 0 <ℤ s → pos 0 <ℤ toward side c → pos 0 <ℤ toward side (s *ℤ c)
end_scaled Low s c p h = positive-*ℤ s c p h
end_scaled High s c p h = let q = positive-*ℤ s (neg_ℤ c) p h in by s c q
  where
    by : (s c : ℤ) → pos 0 <ℤ (s *ℤ neg_ℤ c) → pos 0 <ℤ neg_ℤ (s *ℤ c)
    by s c q = let e = simp expand at q in simp expand (omega (arith, linear, e))

pub none_scaled : (s c : ℤ) → pos 0 <ℤ s → c ≢ pos 0 → (s *ℤ c) ≢ pos 0
none_scaled s c p n e = n (≡-from_*ℤ s c (pos 0) (λ z. omega (arith, linear, p, z)) (e ∙ zero s))
  where
    zero : (s : ℤ) → pos 0 ≡ s *ℤ pos 0
    zero s = omega (arith, linear)

module _ (g : Gauge) (place : Place) where
  end_through : (side : Side) (row made : Row) → IsThroughBehind place.variables row place.frame made
      → IsEndAt side (length place.frame) row → IsEndAt side place.variables made
  end_through side row made is (inl h) =
      inl (is.kind ∙ h.0, (λ e. none_scaled is.scale (coef_at row (length place.frame)) is.positive h.1 (sym is.last ∙ e)))
  end_through side row made is (inr h) =
      inr (
        is.kind ∙ h.0,
        subst (λ c. pos 0 <ℤ toward side c) (sym is.last)
            (end_scaled side is.scale (coef_at row (length place.frame)) is.positive h.1),
      )

  abbrev Goes : Row → Row → Type 0
  Goes row made = IsThroughBehind place.variables row place.frame made

  pub behind_formed : (rows made : List Row) → AllZip Goes rows made → All (IsWellFormed (place.variables + 1)) made
  behind_formed rows made zip =
      All-zipped Goes (λ r. Unit {0}) (IsWellFormed (place.variables + 1)) (λ r t i u. i.formed) rows made zip (λ k d l. tt)

  abbrev Whose : List Row → Row → Type 0
  Whose made r = Contains made r × IsNoEnd place.variables r

  abbrev Comes : List Row → Row → Type 0
  Comes rows made = (row : Row) × Contains rows row × Goes row made

  pub ends_through_is : (rows made : List Row) (ends : Ends) → AllZip Goes rows made → All (IsRowWithin g) made
      → AreEndsOf g place.variables made ends → AreEndsThrough g place rows ends
  ends_through_is rows made ends zip within of = record {
    low = of.low;
    high = of.high;
    others = record {
      formed = All-weaker (Whose made) (IsWellFormed (place.variables + 1))
          (λ r w. All-contains (IsWellFormed (place.variables + 1)) made r (behind_formed rows made zip) w.0) ends.others of.others;
      within = All-weaker (Whose made) (IsRowWithin g) (λ r w. All-contains (IsRowWithin g) made r within w.0) ends.others of.others;
    };
    from = All-weaker (Whose made) (IsNoEndThrough place rows)
        (λ t w.
        let each = All-zipped Goes (Contains rows) (Comes rows) (λ row t i c. (row, c, i)) rows made zip (All-contains_itself rows) in
        let f = All-contains (Comes rows) made t each w.0 in
        (f.0, f.1, f.2, w.1)) ends.others of.others;
    points = λ point x stands.
        let R : Row → Type 0 = λ r. HoldsRow r (columns_at place.frame point ++ x ∷ []) in
        let H : Row → Type 0 = λ r. HoldsRow r (point ++ x ∷ []) in
        let told = of.points (point ++ x ∷ []) in (
          (λ h. told.0 (All-zipped Goes R H (λ r t i p. (i.points point x stands.width stands.whole).1 p) rows made zip h)),
          (λ h. All-zipped_back Goes R H (λ r t i p. (i.points point x stands.width stands.whole).0 p) rows made zip (told.1 h)),
        );
    some = λ ended. (
      of.some_low (any_through Low rows made zip ended.low),
      of.some_high (any_through High rows made zip ended.high),
    );
  }
    where
      any_through : (side : Side) (xs ys : List Row) → AllZip Goes xs ys → Any (IsEndAt side (length place.frame)) xs
          → Any (IsEndAt side place.variables) ys
      any_through side [] ys z any = absurd (Any-none (IsEndAt side (length place.frame)) any)
      any_through side (x ∷ xs) [] z any = absurd z
      any_through side (x ∷ xs) (y ∷ ys) z any = elim (Any-cases (IsEndAt side (length place.frame)) x xs any) [
        | inl here ↦ Any-first (IsEndAt side place.variables) y ys (end_through side x y z.0 here)
        | inr later ↦ Any-later (IsEndAt side place.variables) y ys (any_through side xs ys z.1 later)
      ]

-- ---- one system more
-- groups so far, of as many systems
pub record AreSidesOf (g : Gauge) (place : Place) (own : Ends) (systems lows highs : List (List Row)) : Type 0 where
  pub low_ends : All (AreEnds g place.variables Low) lows
  pub high_ends : All (AreEnds g place.variables High) highs
  pub low_count : length lows ≡ length systems
  pub high_count : length highs ≡ length systems
  pub some : (point : List ℤ) (x : ℤ) → Stands place point → HoldRows own.low (point ++ x ∷ []) → HoldRows own.high (point ++ x ∷ [])
      → HoldSome systems (columns_at place.frame point ++ x ∷ [])
      → HoldSome lows (point ++ x ∷ []) × HoldSome highs (point ++ x ∷ [])
  pub low : (point : List ℤ) → HoldSome lows point → HoldRows own.low point
  pub high : (point : List ℤ) → HoldSome highs point → HoldRows own.high point

module _ (g : Gauge) (place : Place) (own : Ends) where
  pub sides_none : AreSidesOf g place own [] [] []
  sides_none = record {
    low_ends = All-nil (AreEnds g place.variables Low);
    high_ends = All-nil (AreEnds g place.variables High);
    low_count = refl;
    high_count = refl;
    some = λ point x stands l h any. absurd (Any-none (λ rows. HoldRows rows (columns_at place.frame point ++ x ∷ [])) any);
    low = λ point any. absurd (Any-none (λ rows. HoldRows rows point) any);
    high = λ point any. absurd (Any-none (λ rows. HoldRows rows point) any);
  }

  module _ (own_low : All (IsEnd g place.variables Low) own.low) (own_high : All (IsEnd g place.variables High) own.high)
      (systems lows highs : List (List Row)) (is : AreSidesOf g place own systems lows highs) (system : List Row) (ends : Ends)
      (told : AreEndsThrough g place system ends) (ended : AreEnded (length place.frame) system) where
    ends_of : (side : Side) (a b : List Row) → All (IsEnd g place.variables side) a → All (IsEnd g place.variables side) b → 0 < length b
        → AreEnds g place.variables side (a ++ b)
    ends_of side a b p q some = record {
      ends = All-append (IsEnd g place.variables side) a b p q;
      some = (let long = length-append a b in omega (arith, some, long));
    }

    first_part : (groups : List (List Row)) (a b : List Row) (point : List ℤ)
        → ((any : HoldSome groups point) → HoldRows a point) → HoldSome (groups ++ (a ++ b) ∷ []) point → HoldRows a point
    first_part groups a b point early any =
        let P : List Row → Type 0 = λ rows. HoldRows rows point in
        elim (Any-parts P groups ((a ++ b) ∷ []) any) [
          | inl l ↦ early l
          | inr r ↦ (All-parts (λ r. HoldsRow r point) a b (Any-one P (a ++ b) r)).0
        ]

    pub sides_more : AreSidesOf g place own (systems ++ system ∷ []) (lows ++ (own.low ++ ends.low) ∷ []) (highs ++ (own.high ++ ends.high) ∷ [])
    sides_more = record {
      low_ends = All-append (AreEnds g place.variables Low) lows ((own.low ++ ends.low) ∷ []) is.low_ends
          (All-cons (AreEnds g place.variables Low) (own.low ++ ends.low) []
          (ends_of Low own.low ends.low own_low told.low (told.some ended).0) (All-nil (AreEnds g place.variables Low)));
      high_ends = All-append (AreEnds g place.variables High) highs ((own.high ++ ends.high) ∷ []) is.high_ends
          (All-cons (AreEnds g place.variables High) (own.high ++ ends.high) []
          (ends_of High own.high ends.high own_high told.high (told.some ended).1) (All-nil (AreEnds g place.variables High)));
      low_count =
          let a = length-append lows ((own.low ++ ends.low) ∷ []) in
          let b = length-append systems (system ∷ []) in
          let e = is.low_count in
          omega (arith, a, b, e);
      high_count =
          let a = length-append highs ((own.high ++ ends.high) ∷ []) in
          let b = length-append systems (system ∷ []) in
          let e = is.high_count in
          omega (arith, a, b, e);
      some = λ point x stands l h any.
          let here = point ++ x ∷ [] in
          let P : List Row → Type 0 = λ rows. HoldRows rows here in
          let H : Row → Type 0 = λ r. HoldsRow r here in
          let S : List Row → Type 0 = λ rows. HoldRows rows (columns_at place.frame point ++ x ∷ []) in
          elim (Any-parts S systems (system ∷ []) any) [
            | inl early ↦ (let both = is.some point x stands l h early in
                (Any-left P lows ((own.low ++ ends.low) ∷ []) both.0, Any-left P highs ((own.high ++ ends.high) ∷ []) both.1))
            | inr late ↦ (let parts = (told.points point x stands).0 (Any-one S system late) in (
              Any-right P lows ((own.low ++ ends.low) ∷ []) (Any-first P (own.low ++ ends.low) [] (All-append H own.low ends.low l parts.0)),
              Any-right P highs ((own.high ++ ends.high) ∷ []) (Any-first P (own.high ++ ends.high) [] (All-append H own.high ends.high h parts.1)),
            ))
          ];
      low = λ point any. first_part lows own.low ends.low point (is.low point) any;
      high = λ point any. first_part highs own.high ends.high point (is.high point) any;
    }

  pub sides_step : All (IsEnd g place.variables Low) own.low → All (IsEnd g place.variables High) own.high
      → (systems : List (List Row)) (i : ℕ) (system : List Row) (lows highs : List (List Row)) (ends : Ends) (low high : List Row)
      (new_lows new_highs : List (List Row)) → i < length systems → system ≡ get_or systems i system
      → AreSidesOf g place own (take i systems) lows highs → AreEndsThrough g place system ends → AreEnded (length place.frame) system
      → low ≡ own.low ++ ends.low → high ≡ own.high ++ ends.high → new_lows ≡ lows ++ low ∷ [] → new_highs ≡ highs ++ high ∷ []
      → AreSidesOf g place own (take (i + 1) systems) new_lows new_highs
  sides_step own_low own_high systems i system lows highs ends low high new_lows new_highs inside at so_far told ended a b e f =
      let same : take (i + 1) systems ≡ take i systems ++ system ∷ [] =
      take_more systems i system inside ∙ ap (λ (s : List Row). take i systems ++ s ∷ []) (sym at) in
      rw (same, e, f, a, b) (sides_more own_low own_high (take i systems) lows highs so_far system ends told ended)

  pub sides_all : (systems : List (List Row)) (i : ℕ) (sides : Sides) → length systems ≤ i
      → AreSidesOf g place own (take i systems) sides.lows.items sides.highs.items → AreSides g place own systems sides
  sides_all systems i sides end so_far =
      let is = subst (λ (ss : List (List Row)). AreSidesOf g place own ss sides.lows.items sides.highs.items) (take_all i systems end) so_far in
      record {
        lows = is.low_ends;
        highs = is.high_ends;
        count = (is.low_count, is.high_count);
        some = is.some;
        low = is.low;
        high = is.high;
      }
