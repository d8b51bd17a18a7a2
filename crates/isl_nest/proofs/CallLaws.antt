-- Behind the last column: one call.
use Rattle.std.proofs.Common.{◌≡◌, refl, sym, ap, ◌∙◌, subst, arith, Bool, true, false, ℕ, zero, suc, ◌+◌, ◌≤◌, ℤ, pos, List, [], ◌∷◌, ◌++◌}
use Rattle.std.proofs.Common.{length, length-append, get_or}
use Rattle.std.specs.Prelude.{if◌then◌else◌}
use Rattle.std.specs.List.{All}
use Rattle.std.specs.Ordering.{int_eq}
use Rattle.std.proofs.lemmas.List.{append-nil, length-map}
use Rattle.isl_piece.specs.declared.row.Row.{Row}
use Rattle.isl_piece.specs.Row.{IsWellFormed}
use Rattle.isl_piece.specs.System.{HoldRows}
use Rattle.isl_frame.specs.Frame.{column_at, columns_at}
use Rattle.isl_loop.specs.Nest.{Lists, Timed}
use Rattle.isl_loop.specs.Run.{rows_hold, trace}
use Rattle.isl_loop.proofs.NestLaws.{lists_one}
use Rattle.isl_nest.specs.Item.{counted, named, timed_at, HoldFront, IsCalledBehind, ItemView}
use Rattle.isl_nest.specs.declared.nested.Nested.{Nested}
use Rattle.isl_nest.specs.declared.place.Place.{Place}
use Rattle.isl_nest.specs.Nest.{IsNest, ListsNest}

-- no column behind the last is named
pub named_short : (cs : List ℤ) → named cs ≤ length cs
named_short [] = omega arith
named_short (c ∷ cs) = by (named cs) (length cs) (named_short cs)
  where
    test : (b : Bool) (m : ℕ) → (if b then 0 else 1) ≤ suc m
    test true m = omega arith
    test false m = omega arith

    by : (n m : ℕ) → n ≤ m → counted c n ≤ suc m
    by zero m h = test (int_eq c (pos 0)) m
    by (suc n) m h = omega (arith, h)

pub front_holds : (rows : List Row) (columns : List ℤ) → All (IsWellFormed (length columns)) rows → HoldFront rows columns
    → HoldRows rows columns
front_holds rows columns formed front = λ k d low.
    let wide = (formed k d low).width in
    let row : Row = get_or rows k d in
    let short = named_short row.coefs in
    front k d low (omega (arith, wide, short))

module _ (item : ItemView) (place : Place) (nested : Nested) (shape : IsNest item zero place nested)
    (whole : length place.frame ≡ item.params + item.levels) (formed : All (IsWellFormed (item.params + item.levels)) item.rows) where
  pub lists_last : ListsNest item place nested
  lists_last point here =
      let columns = columns_at place.frame point in
      let long : length columns ≡ item.params + item.levels = length-map place.frame (column_at point) ∙ whole in
      let P : Timed → Type 0 = IsCalledBehind item columns in
      let t = timed_at item columns in
      let holds : HoldRows item.rows columns = front_holds item.rows columns
      (subst (λ n. All (IsWellFormed n) item.rows) (sym long) formed) here.front in
      let none : columns ++ [] ≡ columns = append-nil columns in
      subst (λ (rows : List Row). Lists P (if rows_hold rows point then trace nested.tree point else [])) (sym shape.0)
      (subst (Lists P) (sym (shape.2.call point here)) (lists_one P t (λ u. (
        (λ p.
            let width = p.width in
            let sum = length-append columns p.rest in
            let nothing : p.rest ≡ [] = empty p.rest (omega (arith, width, sum, long)) in
            sym (p.call ∙ ap (λ (rest : List ℤ). timed_at item (columns ++ rest)) nothing ∙ ap (timed_at item) none)),
        (λ e. record {
          rest = [];
          width = ap length none ∙ long;
          holds = subst (HoldRows item.rows) (sym none) holds;
          call = sym e ∙ ap (timed_at item) (sym none);
        }),
      ))))
    where
      empty : (rest : List ℤ) → length rest ≡ 0 → rest ≡ []
      empty [] e = refl
      empty (x ∷ rest) e = absurd (omega (arith, e))
