-- Some whole number meets the sides of a column exactly where their dark shadow holds or some bound has a splinter.
use Rattle.std.proofs.Common.{◌≡◌, ◌≢◌, ◌⊎◌, inl, inr, ℕ, ◌-◌, ◌<◌, ℤ, pos, List, [], ◌++◌, subst, map, arith, ◌≤◌, neg_ℤ, ◌≤ℤ◌, ◌<ℤ◌, ◌*◌, length, get_or, Result, Ok, Err, mul_comm, refl, ap, ◌+ℤ◌, ◌∷◌}
use Rattle.std.proofs.lemmas.List.Elements.{All-nil, All-map}
use Rattle.isl_meter.specs.Gauge.{Gauge, IsCutUpTo, IsChargedUpTo}
use Rattle.isl_piece.specs.declared.row.Row.{Row}
use Rattle.isl_shadows.specs.Splinters.{rows_of, HasSplinter, KeepBound, AreSplinters, HasFewSplinters, splinter_total, splinter_count}
use Rattle.isl_column.specs.DarkShadow.{IsDarkShadowOf, IsDarkShadowWithFewSplinters}
use Rattle.isl_shadows.specs.Neighbours.{IsMetWithin}
use Rattle.isl_column.specs.declared.dark_shadow.DarkShadow.{DarkShadow}
use Rattle.isl_omega.specs.declared.sides.Sides.{Sides}
use Rattle.isl_omega.specs.Column.{HoldAt, IsAnswerFor}
use Rattle.isl_omega.specs.Sides.{AreSided}
use Rattle.isl_omega.proofs.ShadowLemmas.{dark_shadow}
use Rattle.isl_shadows.proofs.DarkShadowLemmas.{open_exact, rows_hold, sides_rows, proper_rows, dark_holds, dark_is, no_tail, splinter_total_not_negative, IsClosed, splinter_total_more}
use Rattle.std.specs.List.{All}
use Rattle.std.proofs.lemmas.List.{length-map}
use Rattle.isl_math.proofs.Ring.{linear}
use Rattle.isl_meter.specs.declared.Cut.{Cut}
use Rattle.isl_omega.specs.Units.{paid, IsDoneFor}
use Rattle.isl_piece.specs.Row.{coef_at}
use Rattle.isl_shadows.specs.Mirror.{mirrored_row, mirrored, AskForFewer}
use Rattle.isl_shadows.proofs.MirrorLaws.{coef_mirrored, twice, sides_mirrored, mirrored_sides_back}
use Rattle.isl_shadows.specs.Residue.{splinter_bound, shadow_units}
use Rattle.isl_shadows.specs.Units.{greatest_factor}
use Rattle.isl_shadows.proofs.UnitLemmas.{greatest_bounds, greatest_positive}

-- ---- an open side
pub open_is : (g : Gauge) (columns : ℕ) (neighbours : ℤ) (col : ℕ) (sides : Sides) (dark_shadow : DarkShadow) → AreSided g columns col sides
    → sides.divides ≡ [] → IsMetWithin columns col sides.not_divides neighbours
    → (sides.lowers ≡ []) ⊎ (sides.uppers ≡ []) → col < columns → dark_shadow.rows ≡ rows_of sides → dark_shadow.tails.items ≡ []
    → IsAnswerFor g (columns - 1) (λ point. HoldAt sides.free col point (pos 0)) dark_shadow.dark
    → IsDarkShadowOf g columns col sides dark_shadow × HasFewSplinters neighbours col sides dark_shadow.tails.items
open_is g columns neighbours col sides dark_shadow s d met o l e t h = (
  record {
    is_dark_shadow = record {
      rows = rw e (proper_rows g columns col sides s);
      dark = dark_is g (columns - 1) (λ point. HoldAt sides.free col point (pos 0)) dark_shadow.dark h;
      tails = rw t (All-nil (AreSplinters g columns col));
      bounds = rw t (All-nil (λ t. KeepBound columns col dark_shadow.rows t.lower));
    };
    points = λ point n.
        let exact = open_exact g columns neighbours col sides.lowers sides.uppers sides.not_divides sides.free (rows_of sides) point l n s.lowers s.uppers met s.free o (rows_hold sides col point) in
        let both = sides_rows sides col point d in
        let holds = dark_holds g (columns - 1) (λ q. HoldAt sides.free col q (pos 0)) dark_shadow.dark point n h in (
          (λ x. inl (holds.1 (exact.0 (both.0 x)))),
          (λ k. elim k [ inl y ↦ both.1 (exact.1 (holds.0 y)) | inr y ↦ absurd (no_tail (HasSplinter dark_shadow.rows col point) (rw t at y)) ]),
        );
    open_above = λ u. t;
  },
  (λ m p u. rw t (splinter_total_not_negative g columns col neighbours m sides.lowers met.not_negative p s.lowers)),
)

-- ---- the tails
pub closed_is : (g : Gauge) (columns : ℕ) (neighbours : ℤ) (col : ℕ) (sides : Sides) (dark left : List Row) (dark_shadow : DarkShadow)
    → AreSided g columns col sides → sides.divides ≡ [] → sides.uppers ≢ [] → col < columns
    → IsClosed g columns neighbours col sides dark dark_shadow.tails.items → left ≡ sides.free ++ dark
    → dark_shadow.rows ≡ rows_of sides → IsAnswerFor g (columns - 1) (λ point. HoldAt left col point (pos 0)) dark_shadow.dark
    → IsDarkShadowOf g columns col sides dark_shadow × HasFewSplinters neighbours col sides dark_shadow.tails.items
closed_is g columns neighbours col sides dark left dark_shadow s d u l c f e h = (
  record {
    is_dark_shadow = record {
      rows = rw e (proper_rows g columns col sides s);
      dark = dark_is g (columns - 1) (λ point. HoldAt left col point (pos 0)) dark_shadow.dark h;
      tails = c.lower;
      bounds = rw e c.bounds;
    };
    points = λ point n.
        let both = sides_rows sides col point d in
        let exact = c.exact point n in
        let holds = dark_holds g (columns - 1) (λ q. HoldAt left col q (pos 0)) dark_shadow.dark point n h in (
          (λ x. elim (exact.0 (both.0 x)) [ inl y ↦ inl (holds.1 (rw f y)) | inr y ↦ inr (rw e y) ]),
          (λ k. elim k [ inl y ↦ both.1 (exact.1 (inl (rw f at (holds.0 y)))) | inr y ↦ both.1 (exact.1 (inr (rw e at y))) ]),
        );
    open_above = λ z. absurd (u z);
  },
  c.few,
)

-- ---- sides
-- a dark shadow of the mirrored sides is one of the sides
pub mirrored_back : (g : Gauge) (columns col : ℕ) (neighbours : ℤ) (sides : Sides) (dark_shadow : DarkShadow) → pos 0 ≤ℤ neighbours → col < columns
    → AreSided g columns col sides
    → sides.divides ≡ [] → sides.not_divides ≡ [] → (sides.uppers ≡ [] → ⊥) → AskForFewer col sides.lowers sides.uppers
    → IsDarkShadowOf g columns col (mirrored col sides) dark_shadow → HasFewSplinters (pos 0) col (mirrored col sides) dark_shadow.tails.items
    → IsDarkShadowOf g columns col sides dark_shadow × HasFewSplinters neighbours col sides dark_shadow.tails.items
mirrored_back g columns col neighbours sides dark_shadow least l s no_divides no_not_divides some fewer is few = (
  record {
    is_dark_shadow = is.is_dark_shadow;
    points = λ point n. (
      (λ a. (is.points point n).0 (neg_ℤ a.0, mirrored_sides_back g columns col sides point a.0 l n s no_divides no_not_divides a.1)),
      (λ h. let a = (is.points point n).1 h in (neg_ℤ a.0, sides_mirrored g columns col sides point a.0 l n s no_divides no_not_divides a.1)),
    );
    open_above = λ e. absurd (some e);
  },
  (λ m p u. counted m p u),
)
  where
    factors : All (λ r. neg_ℤ (coef_at r col) ≤ℤ fewer.factor) (map (mirrored_row col) sides.lowers)
    factors = All-map (λ r. neg_ℤ (coef_at r col) ≤ℤ fewer.factor) (mirrored_row col) sides.lowers
        (λ i d k. rw (coef_mirrored (get_or sides.lowers i d) col (let e = (s.lowers i d k).proper.formed.width in omega arith), twice (coef_at (get_or sides.lowers i d) col))
        (fewer.greatest i d k))

    counted : (m : ℤ) → pos 0 <ℤ m → All (λ u. neg_ℤ (coef_at u col) ≤ℤ m) sides.uppers
        → splinter_count dark_shadow.tails.items ≤ℤ splinter_total neighbours m col sides.lowers
    counted m p u =
        let one = few fewer.factor fewer.positive factors in
        let two = fewer.fewer m p u in
        let more = splinter_total_more g columns col neighbours m sides.lowers least s.lowers in
        omega (arith, linear, one, two, more)

-- ---- what the loops find, one bound more
-- what is done for the mirrored sides is done for the sides
pub mirrored_done : (g h : Gauge) (columns col : ℕ) (neighbours : ℤ) (sides new : Sides) (result : Result DarkShadow Cut) → pos 0 ≤ℤ neighbours
    → new ≡ mirrored col sides → col < columns
    → AreSided g columns col sides → sides.divides ≡ [] → sides.not_divides ≡ [] → (sides.uppers ≡ [] → ⊥) → AskForFewer col sides.lowers sides.uppers
    → IsDoneFor (length new.lowers * length new.uppers) g h (IsDarkShadowWithFewSplinters g columns col (pos 0) new) result
    → IsDoneFor (length sides.lowers * length sides.uppers) g h (IsDarkShadowWithFewSplinters g columns col neighbours sides) result
mirrored_done g h columns col neighbours sides new result least is l s no_divides no_not_divides some fewer done = by result (rw is at done)
  where
    count : length (map (mirrored_row col) sides.uppers) * length (map (mirrored_row col) sides.lowers) ≡ length sides.lowers * length sides.uppers
    count = rw (length-map sides.uppers (mirrored_row col), length-map sides.lowers (mirrored_row col)) (mul_comm (length sides.uppers) (length sides.lowers))

    by : (result : Result DarkShadow Cut)
        → IsDoneFor (length (map (mirrored_row col) sides.uppers) * length (map (mirrored_row col) sides.lowers)) g h (IsDarkShadowWithFewSplinters g columns col (pos 0) (mirrored col sides)) result
        → IsDoneFor (length sides.lowers * length sides.uppers) g h (IsDarkShadowWithFewSplinters g columns col neighbours sides) result
    by (Ok v) d = (mirrored_back g columns col neighbours sides v least l s no_divides no_not_divides some fewer d.0.0 d.0.1, subst (λ (n : ℕ). h ≡ paid n g) count d.1)
    by (Err e) d = subst (λ (n : ℕ). IsCutUpTo (pos n) g h e) count d

-- ---- the tails of a dark_shadow
pub tails_bounded : (g : Gauge) (columns col : ℕ) (neighbours : ℤ) (sides : Sides) (dark_shadow : DarkShadow) (uppers : List Row)
    → sides.uppers ≡ uppers → AreSided g columns col sides → IsDarkShadowOf g columns col sides dark_shadow
    → HasFewSplinters neighbours col sides dark_shadow.tails.items
    → splinter_count dark_shadow.tails.items ≤ℤ splinter_bound neighbours col sides.lowers uppers
tails_bounded g columns col neighbours sides dark_shadow [] e s b few = let none = ap splinter_count (b.open_above e) in omega (arith, linear)
tails_bounded g columns col neighbours sides dark_shadow (u ∷ uppers) e s b few =
    few (greatest_factor col (u ∷ uppers)) (greatest_positive g columns col u uppers (rw e at s.uppers)) (rw e (greatest_bounds col (u ∷ uppers)))

-- ---- all in all
-- the dark shadow of sides with its splinters
pub shadow_within : (g h : Gauge) (columns col : ℕ) (neighbours : ℤ) (s : Sides) (dark_shadow : DarkShadow) → AreSided g columns col s
    → IsDarkShadowOf g columns col s dark_shadow → HasFewSplinters neighbours col s dark_shadow.tails.items
    → IsChargedUpTo (pos (length s.lowers * length s.uppers)) g h
    → (pos h.units +ℤ splinter_count dark_shadow.tails.items) ≤ℤ (pos g.units +ℤ shadow_units neighbours col s)
shadow_within g h columns col neighbours s dark_shadow a is few charged =
    let most = tails_bounded g columns col neighbours s dark_shadow s.uppers refl a is few in
    let own = charged.most in
    omega (arith, linear)
