-- A column that an equality tells, as rows.
use Rattle.std.proofs.Common.{◌≡◌, ◌≢◌, ◌↔◌, refl, sym, ap, ◌∙◌, subst, arith, ◌+◌, ℤ, pos, ◌*ℤ◌, ◌≤ℤ◌, List, [], ◌∷◌, ◌++◌}
use Rattle.std.proofs.Common.{length, length-append}
use Rattle.std.specs.List.{All, AllZip}
use Rattle.std.proofs.lemmas.List.{map-append}
use Rattle.std.proofs.lemmas.List.Elements.{All-append, All-cons, All-nil}
use Rattle.isl_math.specs.Divide as divide
use Rattle.isl_math.specs.Order.{abs_of}
use Rattle.isl_math.proofs.DivideLaws.{le_from_Divides, Divides-abs, Divides-same}
use Rattle.isl_math.proofs.ListLaws.{All-last, All-zipped, All-zipped_back}
use Rattle.isl_math.proofs.OrderLaws.{≡-from_*ℤ}
use Rattle.isl_math.proofs.Ring.{linear}
use Rattle.isl_meter.specs.Gauge.{Gauge}
use Rattle.isl_piece.specs.declared.row.RowKind.{RowKind}
use Rattle.isl_piece.specs.declared.row.RowKind.TheVariants.{Zero, AtLeast, Divides, NotDivides}
use Rattle.isl_piece.specs.declared.row.Row.{Row}
use Rattle.isl_piece.specs.Row.{coef_at, HasModulus, HoldsRow, IsRowWithin, IsWellFormed}
use Rattle.isl_piece.specs.Normal.{normal_row, Kept, IsNormal}
use Rattle.isl_piece.specs.System.{HoldRows}
use Rattle.isl_frame.specs.Frame.{column_at, columns_at, IsFrame, IsSolved, IsThrough, IsThroughBehind}
use Rattle.isl_frame.specs.Needed.{AreRowsOver, IsNeeded}
use Rattle.isl_frame.proofs.NeededLaws.{kept_have, over_some}
use Rattle.isl_nest.specs.declared.place.Place.{Place}
use Rattle.isl_nest.specs.declared.told.Told.{Told}
use Rattle.isl_nest.specs.Equality.{IsEquality, TellsForm}
use Rattle.isl_nest.specs.Places.{IsPlace, Stands}
use Rattle.isl_nest.specs.Told.{IsTold, IsUntold}

pub pushed_is : (xs ys all : List Row) (x y : Row) → all ≡ xs ++ x ∷ [] → xs ≡ ys → x ≡ y → all ≡ ys ++ y ∷ []
pushed_is xs ys all x y e f h = rw (e, f, h) refl

module _ (g : Gauge) (place : Place) (is : IsPlace g place) (equality : Row) (eq : IsEquality g (length place.frame) equality)
    (through : Row) (told : IsThroughBehind place.variables equality place.frame through) where
  pub through_kind : through.kind ≡ Zero
  through_kind = told.kind ∙ eq.kind

  pub through_names : coef_at through place.variables ≢ pos 0
  through_names e = eq.names (≡-from_*ℤ told.scale (coef_at equality (length place.frame)) (pos 0) positive (sym told.last ∙ e ∙ none))
    where
      positive : told.scale ≢ pos 0
      positive z = let p = told.positive in omega (arith, linear, p, z)

      none : pos 0 ≡ told.scale *ℤ pos 0
      none = omega (arith, linear)

  module _ (entry : Row) (solved : IsSolved place.variables through entry) (frame : List Row) (frame_is : frame ≡ place.frame ++ entry ∷ []) where
    pub told_framed : IsFrame place.variables frame
    told_framed = rw frame_is (record {
      formed = All-append (IsWellFormed place.variables) place.frame (entry ∷ []) is.frame.formed
          (All-cons (IsWellFormed place.variables) entry [] solved.formed (All-nil (IsWellFormed place.variables)));
      divides = All-append (λ r. r.kind ≡ Divides) place.frame (entry ∷ []) is.frame.divides
          (All-cons (λ r. r.kind ≡ Divides) entry [] solved.divides (All-nil (λ r. r.kind ≡ Divides)));
    })

    pub told_long : length frame ≡ length place.frame + 1
    told_long = ap length frame_is ∙ length-append place.frame (entry ∷ [])

    solved_at : (point : List ℤ) (x : ℤ) → Stands place point
        → HoldsRow equality (columns_at place.frame point ++ x ∷ []) ↔ (HoldsRow entry point × (x ≡ column_at point entry))
    solved_at point x stands =
        let a = told.points point x stands.width stands.whole in
        let b = solved.points point x stands.width in
        ((λ h. b.0 (a.1 h)), (λ h. a.0 (b.1 h)))

    module _ (own made rows : List Row) (zip : AllZip (λ row t. IsThrough place.variables row frame t) own made)
        (rows_is : rows ≡ made ++ entry ∷ []) where
      rows_at : (point : List ℤ) → Stands place point
          → HoldRows rows point ↔ (HoldsRow entry point × HoldRows own (columns_at place.frame point ++ column_at point entry ∷ []))
      rows_at point stands =
          let H : Row → Type 0 = λ r. HoldsRow r point in
          let O : List ℤ → Row → Type 0 = λ xs r. HoldsRow r xs in
          let columns : columns_at frame point ≡ columns_at place.frame point ++ column_at point entry ∷ [] =
          ap (λ (f : List Row). columns_at f point) frame_is ∙ map-append (column_at point) place.frame (entry ∷ []) in
          let whole : HoldsRow entry point → HoldRows frame point = λ h. subst (λ (f : List Row). HoldRows f point) (sym frame_is)
          (All-append H place.frame (entry ∷ []) stands.whole (All-cons H entry [] h (All-nil H))) in (
            (λ h.
                let parts = All-last H made entry (subst (λ (rs : List Row). HoldRows rs point) rows_is h) in (
                  parts.1,
                  subst (HoldRows own) columns (All-zipped_back (λ row t. IsThrough place.variables row frame t)
                      (O (columns_at frame point)) H (λ r t i p. (i.points point (whole parts.1)).0 p) own made zip parts.0),
                )),
            (λ h. subst (λ (rs : List Row). HoldRows rs point) (sym rows_is)
                (All-append H made (entry ∷ [])
                (All-zipped (λ row t. IsThrough place.variables row frame t) (O (columns_at frame point)) H
                (λ r t i p. (i.points point (whole h.0)).1 p) own made zip (subst (HoldRows own) (sym columns) h.1))
                (All-cons H entry [] h.0 (All-nil H)))),
          )

      pub told_over : (h : Gauge) → All (IsRowWithin h) made → IsRowWithin h entry → AreRowsOver h place.variables rows
      told_over h within entry_within = rw rows_is (record {
        formed = All-append (IsWellFormed place.variables) made (entry ∷ []) (formed own made zip)
            (All-cons (IsWellFormed place.variables) entry [] solved.formed (All-nil (IsWellFormed place.variables)));
        within = All-append (IsRowWithin h) made (entry ∷ []) within
            (All-cons (IsRowWithin h) entry [] entry_within (All-nil (IsRowWithin h)));
      })
        where
          formed : (xs ys : List Row) → AllZip (λ row t. IsThrough place.variables row frame t) xs ys
              → All (IsWellFormed place.variables) ys
          formed xs ys z = All-zipped (λ row t. IsThrough place.variables row frame t) (λ r. Unit {0}) (IsWellFormed place.variables)
              (λ r t i u. i.formed) xs ys z (λ k d l. tt)

      pub untold : ((point : List ℤ) → ¬ HoldRows rows point) → IsUntold place equality own
      untold never point x stands h o =
          let s = (solved_at point x stands).0 h in
          never point ((rows_at point stands).1
          (s.0, subst (λ y. HoldRows own (columns_at place.frame point ++ y ∷ [])) s.1 o))

      -- where the equality has 1 or -1, the entry's modulus is 1
      told_one : divide.Divides entry.k (coef_at through place.variables) → TellsForm place.frame equality → entry.k ≡ pos 1
      told_one divides form =
          let size : abs_of (coef_at through place.variables) ≡ pos 1 = ap abs_of (told.forms form.1).1 ∙ form.0 in
          let one : divide.Divides entry.k (pos 1) = Divides-same entry.k (abs_of (coef_at through place.variables)) (pos 1) size
          (Divides-abs entry.k (coef_at through place.variables) divides) in
          by entry.kind entry.k solved.divides solved.formed.modulus
          (le_from_Divides entry.k (pos 1) (omega (arith, linear)) one)
        where
          by : (kind : RowKind) (k : ℤ) → kind ≡ Divides → HasModulus kind k → k ≤ℤ pos 1 → k ≡ pos 1
          by Divides k e p few = omega (arith, linear, p, few)
          by Zero k e p few = cc
          by AtLeast k e p few = cc
          by NotDivides k e p few = cc

      pub told_is : divide.Divides entry.k (coef_at through place.variables) → (normal kept : List Row) → IsRowWithin g entry → AreRowsOver g place.variables normal → IsNormal normal
          → ((point : List ℤ) → HoldRows normal point ↔ HoldRows rows point) → IsNeeded place.variables place.context normal kept
          → (made_told : Told) → made_told ≡ record { entry = entry; rows = kept } → IsTold g place equality own made_told
      told_is divides normal kept entry_within over is_normal same needed made_told e = rw e (record {
        framed = rw (sym frame_is) told_framed;
        within = entry_within;
        form = told_one divides;
        guards = record {
          over = over_some g place.variables normal kept needed.each over;
          normal = kept_have (λ r. normal_row r ≡ Kept r) normal kept needed.each is_normal.settled;
        };
        solved = solved_at;
        rows = λ point stands.
            let a = needed.points point stands.width stands.context in
            let b = same point in
            let c = rows_at point stands in
            ((λ h. c.0 (b.0 (a.0 h))), (λ h. a.1 (b.1 (c.1 h))));
      })
