-- Rows into which an equation was put.
use Rattle.std.proofs.Common.{◌≡◌, ◌↔◌, inl, inr, refl, sym, ap, ap₂, ◌∙◌, subst, arith, ℕ, ◌-◌, ◌<◌, ◌≤◌, ◌^◌, ℤ, pos}
use Rattle.std.proofs.Common.{◌+ℤ◌, ◌*ℤ◌, List, ◌++◌, All, length, get_or, set, length-set, get_or-set_same, get_or-set_other}
use Rattle.std.proofs.Math.Pow.{pow_mono}
use Rattle.std.proofs.lemmas.Bool.{cases_eq}
use Rattle.std.proofs.lemmas.List.{get_or_default}
use Rattle.std.proofs.lemmas.List.Elements.{All-set}
use Rattle.isl_math.proofs.Ring.{linear}
use Rattle.isl_meter.specs.Gauge.{Gauge, IsCharged}
use Rattle.isl_piece.specs.declared.definition.Definition.{Definition}
use Rattle.isl_piece.specs.declared.row.Row.{Row}
use Rattle.isl_piece.specs.declared.row.RowKind.TheVariants.{Zero}
use Rattle.isl_piece.specs.Combine.{combination}
use Rattle.isl_piece.specs.Row.{value_at, HoldsRow, HoldsValue, IsRowWithin, IsWellFormed}
use Rattle.isl_piece.specs.declared.system.System.{System}
use Rattle.isl_piece.specs.Definition.{with_defined}
use Rattle.isl_piece.specs.System.{HoldRows, IsSystemWithin, free_columns}
use Rattle.isl_piece.proofs.CombineLaws.{combination_well_formed, holds_scaled, value_at-combination}
use Rattle.isl_difference.proofs.SplitLaws.{live_kept}
use Rattle.isl_remainder.proofs.LimitLaws.{charged_bits}
use Rattle.isl_blocks.specs.Left.{IsLeftWithout}
use Rattle.isl_remainder.specs.Solved.{AreAlike, IsSolvedFrom}

pub one_within : (bits : ℕ) → 8 ≤ bits → 1 < 2 ^ bits
one_within bits le =
    let room : 2 ^ 8 ≤ 2 ^ bits = pow_mono le in
    omega (arith, room)

-- ---- one row
multiple_of_zero : (r n z : ℤ) → z ≡ pos 0 → pos 1 *ℤ r +ℤ n *ℤ z ≡ pos 1 *ℤ r
multiple_of_zero r n z h = let e = ap (λ w. n *ℤ w) h in omega (arith, linear)

-- where the equation holds, the row says the same with so many times it
put_same : (row equation : Row) (n : ℤ) (point : List ℤ) → length row.coefs ≡ length equation.coefs → value_at equation point ≡ pos 0
    → HoldsRow (combination (pos 1) row n equation) point ↔ HoldsRow row point
put_same row equation n point wide zero =
    rw (value_at-combination (pos 1) row n equation point wide ∙ multiple_of_zero (value_at row point) n (value_at equation point) zero)
    (holds_scaled row.kind (pos 1) row.k (value_at row point) (omega arith))

value_zero : (row : Row) (point : List ℤ) → row.kind ≡ Zero → HoldsRow row point → value_at row point ≡ pos 0
value_zero row point kind h = subst (λ t. HoldsValue t row.k (value_at row point)) kind h

-- ---- all rows
module _ (g : Gauge) (old made : List Row) (at into : ℕ) (n : ℤ) (equation row new : Row) (alike : AreAlike g old made)
    (at_inside : at < length made) (inside : into < length made) (apart : ¬ into ≡ at) (is : equation ≡ get_or made at equation)
    (row_is : row ≡ get_or made into row) (kind : equation.kind ≡ Zero) (new_is : new ≡ combination (pos 1) row n equation)
    (within : IsRowWithin g new) where
  abbrev Wide : Type 0
  Wide = length row.coefs ≡ length equation.coefs

  same_at : (point : List ℤ) → Wide → HoldsRow equation point → HoldsRow new point ↔ HoldsRow row point
  same_at point wide h = rw new_is (put_same row equation n point wide (value_zero equation point kind h))

  pub equation_kept : (d : Row) → get_or (set made into new) at d ≡ get_or made at d
  equation_kept d = get_or-set_other made into at new d (λ e. apart (sym e))

  points : Wide → (point : List ℤ) → HoldRows (set made into new) point ↔ HoldRows made point
  points wide point = (
    (λ h.
        let long = length-set made into new in
        let holds : HoldsRow equation point =
        subst (λ r. HoldsRow r point) (equation_kept equation ∙ sym is) (h at equation (omega (arith, long, at_inside))) in
        λ k d l. elim (cases_eq k into) [
          | inl e ↦
              let there : HoldsRow new point =
              subst (λ r. HoldsRow r point) (get_or-set_same made into new d inside) (h into d (omega (arith, long, inside))) in
              let at_row : get_or made k d ≡ row = rw e (get_or_default made into d row inside) ∙ sym row_is in
              subst (λ r. HoldsRow r point) (sym at_row) ((same_at point wide holds).0 there)
          | inr other ↦ subst (λ r. HoldsRow r point) (get_or-set_other made into k new d other) (h k d (omega (arith, long, l)))
        ]),
    (λ h.
        let holds : HoldsRow equation point = subst (λ r. HoldsRow r point) (sym is) (h at equation at_inside) in
        let own : HoldsRow row point = subst (λ r. HoldsRow r point) (sym row_is) (h into row inside) in
        All-set (λ r. HoldsRow r point) made into new ((same_at point wide holds).1 own) h),
  )

  pub alike_put : Wide → AreAlike g old (set made into new)
  alike_put wide = record {
    count = length-set made into new ∙ alike.count;
    formed = λ columns all.
        let formed = alike.formed columns all in
        let one = subst (IsWellFormed columns) (sym row_is) (formed into row inside) in
        let other = subst (IsWellFormed columns) (sym is) (formed at equation at_inside) in
        All-set (IsWellFormed columns) made into new
        (rw new_is (combination_well_formed columns (pos 1) row n equation (omega arith) one other)) formed;
    within = All-set (IsRowWithin g) made into new within alike.within;
    points = λ point.
        let a = points wide point in
        let b = alike.points point in
        ((λ h. b.0 (a.0 h)), (λ h. a.1 (b.1 h)));
  }

pub alike_itself : (g : Gauge) (rows : List Row) → All (IsRowWithin g) rows → AreAlike g rows rows
alike_itself g rows within = record {
  count = refl;
  formed = λ columns all. all;
  within = within;
  points = λ point. ((λ h. h), (λ h. h));
}

pub alike_again : (g : Gauge) (a b c : List Row) → AreAlike g a b → AreAlike g b c → AreAlike g a c
alike_again g a b c one two = record {
  count = two.count ∙ one.count;
  formed = λ columns all. two.formed columns (one.formed columns all);
  within = two.within;
  points = λ point.
      let p = one.points point in
      let q = two.points point in
      ((λ h. p.0 (q.0 h)), (λ h. q.1 (p.1 h)));
}

pub width_at : (g : Gauge) (old made : List Row) (columns : ℕ) → AreAlike g old made → All (IsWellFormed columns) old → (k : ℕ) (row : Row)
    → k < length made → row ≡ get_or made k row → length row.coefs ≡ columns
width_at g old made columns alike all k row inside is =
    ap (λ (r : Row). length r.coefs) is ∙ (alike.formed columns all k row inside).width

-- the system of rows that are alike
pub solved_is : (g : Gauge) (s : System) (rows : List Row) → IsSystemWithin g s → AreAlike g s.rows rows
    → IsSolvedFrom g s (record { columns = s.columns; definitions = s.definitions; rows = rows })
solved_is g s rows within alike = record {
  columns = refl;
  definitions = refl;
  within = record {
    rows = alike.formed s.columns within.rows;
    within = alike.within;
    count = within.count;
    definitions = within.definitions;
  };
  points = λ point. alike.points (with_defined s.definitions point);
}

-- over as many free columns
pub solved_free : (g : Gauge) (old new : System) → IsSolvedFrom g old new → free_columns new ≡ free_columns old
solved_free g old new is = ap₂ (λ n (ds : List Definition). n - length ds) is.columns is.definitions

-- what is left of it is left of the other
pub solved_left : (g h : Gauge) (old new : System) (kept count : ℕ) (left : List System) → IsCharged g h → IsSolvedFrom g old new
    → IsLeftWithout h new kept count left → IsLeftWithout g old kept count left
solved_left g h old new kept count left charged solved is = record {
  points = λ point l.
      let a = is.points point l in (
        (λ x. let b = a.0 x in (b.0, b.1, (solved.points (point ++ b.0)).0 b.2)),
        (λ b. a.1 (b.0, b.1, (solved.points (point ++ b.0)).1 b.2)),
      );
  live = λ k d l. live_kept g h kept (get_or left k d) (sym (charged_bits g h charged)) (is.live k d l);
  definitions = λ none. is.definitions (solved.definitions ∙ none);
}
