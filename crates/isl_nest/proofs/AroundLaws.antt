-- Loops between bounds, as rows.
use Rattle.std.proofs.Common.{◌≡◌, ◌↔◌, refl, sym, ap, ◌∙◌, subst, arith, ℕ, ◌+◌, ◌^◌, ◌<◌, ℤ, List, [], ◌∷◌, ◌++◌}
use Rattle.std.proofs.Common.{length, length-append, get_or, IsNone, Option, None, Some}
use Rattle.std.specs.Prelude.{map, unsigned_abs, IfSome}
use Rattle.std.specs.List.{All, Any, Contains}
use Rattle.std.proofs.lemmas.List.Elements.{All-append, All-cons, All-contains, All-head, All-nil, All-weaker}
use Rattle.isl_math.proofs.ListLaws.{Any-element, Any-none, Any-one}
use Rattle.isl_meter.specs.Gauge.{Gauge, IsCharged, IsWithin}
use Rattle.isl_piece.specs.declared.row.Row.{Row}
use Rattle.isl_piece.specs.Row.{HoldsRow, IsRowWithin, IsWellFormed}
use Rattle.isl_piece.specs.Normal.{normal_row, normal_rows, Kept}
use Rattle.isl_piece.specs.System.{HoldRows, widened}
use Rattle.isl_piece.proofs.DefinedLaws.{widened_hold}
use Rattle.isl_frame.specs.Frame.{columns_at}
use Rattle.isl_frame.specs.Needed.{AreRowsOver, IsNeeded}
use Rattle.isl_frame.proofs.NeededLaws.{kept_have, over_later, over_some}
use Rattle.isl_loop.specs.declared.tree.Expr.{Expr}
use Rattle.isl_loop.specs.declared.tree.Loop.{Call}
use Rattle.isl_loop.specs.Formed.{IsExprOver}
use Rattle.isl_loop.proofs.LimitLaws.{IsLoopOver-same}
use Rattle.isl_bounds.specs.Bound.{AreEndGroups, AreEnds, HoldSome, IsEnd}
use Rattle.isl_bounds.specs.Head.{IsHeadOf}
use Rattle.isl_bounds.specs.Pruned.{AreFewer}
use Rattle.isl_bounds.specs.declared.ends.Ends.{Ends}
use Rattle.isl_bounds.specs.declared.head.Head.{Head}
use Rattle.isl_bounds.specs.declared.side.Side.{Side}
use Rattle.isl_bounds.specs.declared.side.Side.TheVariants.{Low, High}
use Rattle.isl_bounds.proofs.PrunedLaws.{both_over, fewer_over}
use Rattle.isl_nest.specs.declared.around.Around.{Around}
use Rattle.isl_nest.specs.declared.place.Place.{Place}
use Rattle.isl_nest.specs.declared.sides.Sides.{Sides}
use Rattle.isl_nest.specs.Around.{turns_at, AreSides, IsAround, IsAroundNothing}
use Rattle.isl_nest.specs.Places.{AreEndsThrough, AreGuards, IsPlace}
use Rattle.isl_nest.specs.Between.{IsBetween}
use Rattle.isl_nest.specs.Stepping.{only_of, steps_of, IsStepAmong, TellOneStep, TellsStep}
use Rattle.isl_nest.proofs.StridingLaws.{one_step}

-- ---- the limit stays
pub charged_bits : (g h : Gauge) → IsCharged g h → h.bits ≡ g.bits
charged_bits g h c = ap (λ (m : Gauge). m.bits) c.same

pub expr_same : (g h : Gauge) (n : ℕ) (e : Expr) → h.bits ≡ g.bits → IsExprOver g n e → IsExprOver h n e
expr_same g h n e same over =
    All-head (IsExprOver h n) e []
    (IsLoopOver-same g h n (Call None (e ∷ [])) same (All-cons (IsExprOver g n) e [] over (All-nil (IsExprOver g n))))

pub within_same : (g h : Gauge) (z : ℤ) → h.bits ≡ g.bits → IsWithin g z → IsWithin h z
within_same g h z same w = subst (λ (b : ℕ). unsigned_abs z < 2 ^ b) (sym same) w

-- ---- groups
module _ (g : Gauge) (variables : ℕ) (side : Side) where
  pub ends_over : (rows : List Row) → AreEnds g variables side rows → AreRowsOver g (variables + 1) rows
  ends_over rows is = record {
    formed = All-weaker (IsEnd g variables side) (IsWellFormed (variables + 1)) (λ r e. e.formed) rows is.ends;
    within = All-weaker (IsEnd g variables side) (IsRowWithin g) (λ r e. e.within) rows is.ends;
  }

  pub groups_over : (groups : List (List Row)) → All (AreEnds g variables side) groups → All (AreRowsOver g (variables + 1)) groups
  groups_over groups all = All-weaker (AreEnds g variables side) (AreRowsOver g (variables + 1)) ends_over groups all

  pub ends_later : (h : Gauge) → IsCharged g h → (rows : List Row) → AreEnds g variables side rows → AreEnds h variables side rows
  ends_later h charged rows is =
      let over = over_later g h (variables + 1) rows charged (ends_over rows is) in record {
        ends = λ k d l. record {
          formed = (is.ends k d l).formed;
          within = over.within k d l;
          kind = (is.ends k d l).kind;
          toward = (is.ends k d l).toward;
        };
        some = is.some;
      }

  pub end_groups_later : (h : Gauge) → IsCharged g h → (groups : List (List Row)) → AreEndGroups g variables side groups
      → AreEndGroups h variables side groups
  end_groups_later h charged groups is = record {
    each = All-weaker (AreEnds g variables side) (AreEnds h variables side) (ends_later h charged) groups is.each;
    some = is.some;
  }

  -- of the groups some are left
  pub fewer_ends : (context : List Row) (old new : List (List Row)) → AreEndGroups g variables side old
      → AreFewer (variables + 1) context old new → AreEndGroups g variables side new
  fewer_ends context old new is fewer = record {
    each = λ k d l. record {
      ends = ends (get_or new k d) (fewer.each k d l);
      some = fewer.some (All-weaker (AreEnds g variables side) (λ rows. 0 < length rows) (λ rows e. e.some) old is.each) k d l;
    };
    some = fewer.any is.some;
  }
    where
      ends : (few : List Row) → Any (λ rows. All (Contains rows) few) old → All (IsEnd g variables side) few
      ends few any =
          let of = Any-element (λ rows. All (Contains rows) few) old any in
          kept_have (IsEnd g variables side) of.0 few of.2 (All-contains (AreEnds g variables side) old of.0 is.each of.1).ends

  pub end_groups : (groups : List (List Row)) (count : ℕ) → All (AreEnds g variables side) groups → length groups ≡ count → 0 < count
      → AreEndGroups g variables side groups
  end_groups groups count all long some = record { each = all; some = omega (arith, long, some) }

pub only_holds : (groups : List (List Row)) (point : List ℤ) → HoldSome groups point → HoldRows (only_of groups) point
only_holds [] point any = All-nil (λ r. HoldsRow r point)
only_holds (rows ∷ []) point any = Any-one (λ rs. HoldRows rs point) rows any
only_holds (rows ∷ more ∷ groups) point any = All-nil (λ r. HoldsRow r point)

only_over : (g : Gauge) (columns : ℕ) (groups : List (List Row)) → All (AreRowsOver g columns) groups → AreRowsOver g columns (only_of groups)
only_over g columns [] over = record { formed = All-nil (IsWellFormed columns); within = All-nil (IsRowWithin g) }
only_over g columns (rows ∷ []) over = All-head (AreRowsOver g columns) rows [] over
only_over g columns (rows ∷ more ∷ groups) over = record { formed = All-nil (IsWellFormed columns); within = All-nil (IsRowWithin g) }

-- ---- steps
module _ (g : Gauge) (variables : ℕ) (others : List Row) where
  pub step_holds : (step : Option Row) → IfSome step (IsStepAmong g variables others) → (point : List ℤ) → HoldRows others point
      → HoldRows (steps_of step) point
  step_holds None is point h = All-nil (λ r. HoldsRow r point)
  step_holds (Some s) is point h =
      All-cons (λ r. HoldsRow r point) s [] ((is.2.points point).1 (All-contains (λ r. HoldsRow r point) others is.0 h is.1))
      (All-nil (λ r. HoldsRow r point))

  -- where the others tell one step, all of them hold where that which is found does
  step_tells : (step : Option Row) → IfSome step (IsStepAmong g variables others) → (IsNone step → All (λ r. ¬ TellsStep variables r) others)
      → (point : List ℤ) → TellOneStep variables others point → HoldRows (steps_of step) point → HoldRows others point
  step_tells None is none point one h = λ k d l. absurd (none refl k d l (one.each k d l))
  step_tells (Some s) is none point one h = λ k d l.
      All-contains (λ r. All (λ t. HoldsRow r point → HoldsRow t point) others) others is.0 one.agree is.1 k d l
      ((is.2.points point).0 (All-head (λ r. HoldsRow r point) s [] h))

  pub step_over : (step : Option Row) → IfSome step (IsStepAmong g variables others) → AreRowsOver g (variables + 1) (steps_of step)
  step_over None is = record { formed = All-nil (IsWellFormed (variables + 1)); within = All-nil (IsRowWithin g) }
  step_over (Some s) is = record {
    formed = All-cons (IsWellFormed (variables + 1)) s [] is.2.is.formed (All-nil (IsWellFormed (variables + 1)));
    within = All-cons (IsRowWithin g) s [] is.2.is.within (All-nil (IsRowWithin g));
  }

-- ---- between groups
module _ (g h : Gauge) (same : h.bits ≡ g.bits) (place : Place) (is : IsPlace g place) (sides : Sides) (others : List Row)
    (ok : AreGuards g (place.variables + 1) others) (lows_ok : AreEndGroups g place.variables Low sides.lows.items)
    (highs_ok : AreEndGroups g place.variables High sides.highs.items) (step : Option Row)
    (steps : IfSome step (IsStepAmong g place.variables others)) (none : IsNone step → All (λ r. ¬ TellsStep place.variables r) others)
    (lows highs : List (List Row)) (context : List Row)
    (context_is : context ≡ map widened place.context)
    (fewer_lows : AreFewer (place.variables + 1) context sides.lows.items lows)
    (fewer_highs : AreFewer (place.variables + 1) context sides.highs.items highs) where
  pub inside_over : AreRowsOver g (place.variables + 1) (only_of lows ++ only_of highs ++ steps_of step)
  inside_over =
      let columns = place.variables + 1 in
      let low = only_over g columns lows
      (fewer_over columns context sides.lows.items g lows fewer_lows (groups_over g place.variables Low sides.lows.items lows_ok.each)) in
      let high = only_over g columns highs
      (fewer_over columns context sides.highs.items g highs fewer_highs
      (groups_over g place.variables High sides.highs.items highs_ok.each)) in
      both_over g columns (only_of lows ++ only_of highs) (steps_of step) (only_of lows ++ only_of highs ++ steps_of step) refl
      (both_over g columns (only_of lows) (only_of highs) (only_of lows ++ only_of highs) refl low high)
      (step_over g place.variables others step steps)

  module _ (head : Head) (head_is : IsHeadOf h place.variables lows highs (steps_of step) head) (inside known guards : List Row)
      (inside_is : inside ≡ only_of lows ++ only_of highs ++ steps_of step) (known_is : known ≡ context ++ inside)
      (needed : IsNeeded (place.variables + 1) known others guards) (around : Around)
      (around_is : around ≡ record { head = head; inside = inside; guards = guards }) where
    long : (point : List ℤ) (x : ℤ) → length point ≡ place.variables → length (point ++ x ∷ []) ≡ place.variables + 1
    long point x e = length-append point (x ∷ []) ∙ ap (λ n. n + 1) e

    context_holds : (point : List ℤ) (x : ℤ) → length point ≡ place.variables → HoldRows place.context point
        → HoldRows context (point ++ x ∷ [])
    context_holds point x e holds =
        subst (λ (rows : List Row). HoldRows rows (point ++ x ∷ [])) (sym context_is)
        ((widened_hold place.context point x (subst (λ n. All (IsWellFormed n) place.context) (sym e) is.context.formed)).1 holds)

    inside_holds : (point : List ℤ) (x : ℤ) → length point ≡ place.variables → Contains (turns_at head point) x
        → HoldRows inside (point ++ x ∷ [])
    inside_holds point x e turn =
        let p = point ++ x ∷ [] in
        let H : Row → Type 0 = λ r. HoldsRow r p in
        let t = (head_is.turns point x e).0 turn in
        subst (λ (rows : List Row). HoldRows rows p) (sym inside_is)
        (All-append H (only_of lows ++ only_of highs) (steps_of step)
        (All-append H (only_of lows) (only_of highs) (only_holds lows p t.0) (only_holds highs p t.1)) t.2)

    known_holds : (point : List ℤ) (x : ℤ) → length point ≡ place.variables → HoldRows place.context point
        → Contains (turns_at head point) x → HoldRows known (point ++ x ∷ [])
    known_holds point x e holds turn =
        subst (λ (rows : List Row). HoldRows rows (point ++ x ∷ [])) (sym known_is)
        (All-append (λ r. HoldsRow r (point ++ x ∷ [])) context inside (context_holds point x e holds) (inside_holds point x e turn))

    pub between_is : IsBetween g place sides others around
    between_is = rw around_is (record {
      over = record {
        low = expr_same h g place.variables head.low (sym same) head_is.low;
        high = expr_same h g place.variables head.high (sym same) head_is.high;
        positive = head_is.positive;
        within = within_same h g head.step (sym same) head_is.within;
        inside = rw inside_is inside_over;
        guards = record {
          over = over_some g (place.variables + 1) others guards needed.each ok.over;
          normal = kept_have (λ r. normal_row r ≡ Kept r) others guards needed.each ok.normal;
        };
      };
      cover = λ point x e holds low high o.
          let p = point ++ x ∷ [] in
          let c = context_holds point x e holds in
          let turn = (head_is.turns point x e).1 (
            (fewer_lows.points p (long point x e) c).1 low,
            (fewer_highs.points p (long point x e) c).1 high,
            step_holds g place.variables others step steps p o,
          ) in
          (turn, (needed.points p (long point x e) (known_holds point x e holds turn)).1 o);
      own = λ point x e holds turn guarded.
          let p = point ++ x ∷ [] in
          let c = context_holds point x e holds in
          let t = (head_is.turns point x e).0 turn in (
            (fewer_lows.points p (long point x e) c).0 t.0,
            (fewer_highs.points p (long point x e) c).0 t.1,
            (needed.points p (long point x e) (known_holds point x e holds turn)).0 guarded,
          );
      known = inside_holds;
      full = λ point x e holds turn one.
          let p = point ++ x ∷ [] in
          let t = (head_is.turns point x e).0 turn in
          (needed.points p (long point x e) (known_holds point x e holds turn)).1
          (step_tells g place.variables others step steps none p one t.2);
    })

-- ---- around a column
module _ (g : Gauge) (place : Place) (own : List Row) (systems : List (List Row)) (ends : Ends) (told : AreEndsThrough g place own ends) where
  pub around_is : (sides : Sides) (others : List Row) (around : Around) → AreSides g place ends systems sides
      → normal_rows ends.others ≡ Some others → ((point : List ℤ) → HoldRows others point ↔ HoldRows ends.others point) → IsBetween g place sides others around
      → IsAround g place own systems around
  around_is sides others around is normal same between = record {
    over = between.over;
    cover = λ point x stands holds some.
        let t = (told.points point x stands).0 holds in
        let groups = is.some point x stands t.0 t.1 some in
        between.cover point x stands.width stands.context groups.0 groups.1 ((same (point ++ x ∷ [])).1 t.2);
    own = λ point x stands turn guarded.
        let t = between.own point x stands.width stands.context turn guarded in
        (told.points point x stands).1
        (is.low (point ++ x ∷ []) t.0, is.high (point ++ x ∷ []) t.1, (same (point ++ x ∷ [])).0 t.2);
    known = between.known;
    full = λ are_own striding point x stands turn. between.full point x stands.width stands.context turn
        (one_step place own are_own striding ends.others others normal told.from told.others.formed point x stands);
  }

  pub around_never : ((point : List ℤ) → ¬ HoldRows ends.others point) → IsAroundNothing place own systems
  around_never never point x stands holds some = never (point ++ x ∷ []) ((told.points point x stands).0 holds).2

pub around_none : (place : Place) (own : List Row) → IsAroundNothing place own []
around_none place own point x stands holds some = Any-none (λ rows. HoldRows rows (columns_at place.frame point ++ x ∷ [])) some
