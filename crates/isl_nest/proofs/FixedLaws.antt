-- A column that an equality tells.
use Rattle.std.proofs.Common.{◌≡◌, ◌↔◌, inl, inr, refl, sym, ap, ◌∙◌, subst, arith, Bool, true, false, ◌&&◌, ℕ, zero, suc, ◌+◌}
use Rattle.std.proofs.Common.{◌<◌, ◌≤◌}
use Rattle.std.proofs.Common.{ℤ, pos, ◌+ℤ◌, ◌*ℤ◌, List, [], ◌∷◌, ◌++◌, append_assoc, length, length-append, get_or}
use Rattle.std.specs.Prelude.{if◌then◌else◌}
use Rattle.std.specs.Ordering.{int_eq}
use Rattle.std.proofs.lemmas.Bool.{cases_lt, false≢true}
use Rattle.std.proofs.lemmas.Bool.Decides.{Decides-int_eq}
use Rattle.std.proofs.lemmas.List.{length-map, map-append}
use Rattle.std.proofs.lemmas.List.Elements.{All-append, All-cons, All-nil}
use Rattle.isl_math.specs.Dot.{dot}
use Rattle.isl_math.proofs.DotLaws.{dot-nil_right}
use Rattle.isl_math.proofs.Ring.{linear}
use Rattle.isl_piece.specs.declared.row.Row.{Row}
use Rattle.isl_piece.specs.Row.{HoldsRow, HoldsValue}
use Rattle.isl_piece.specs.System.{HoldRows}
use Rattle.isl_frame.specs.Frame.{column_at, columns_at}
use Rattle.isl_loop.specs.Nest.{Lists, Timed}
use Rattle.isl_loop.specs.Run.{row_holds, rows_hold, trace}
use Rattle.isl_loop.proofs.NestLaws.{lists_none, lists_same}
use Rattle.isl_loop.proofs.RowLaws.{rows_tell}
use Rattle.isl_nest.specs.Item.{counted, named, timed_at, HoldFront, HoldOwn, IsBegun, IsCalledBehind, ItemView}
use Rattle.isl_nest.specs.declared.nested.Nested.{Nested}
use Rattle.isl_nest.specs.declared.place.Place.{Place}
use Rattle.isl_nest.specs.Nest.{with_entry, IsFixedAt, IsHere, ListsNest}

-- ---- columns that are not named
pub none_named : (c : ℤ) (n : ℕ) → counted c n ≤ 0 → (c ≡ pos 0) × (n ≡ 0)
none_named c zero h = (test (int_eq c (pos 0)) refl h, refl)
  where
    test : (b : Bool) → int_eq c (pos 0) ≡ b → (if b then 0 else 1) ≤ 0 → c ≡ pos 0
    test true e h = (Decides-int_eq c (pos 0)).0 e
    test false e h = absurd (omega (arith, h))
none_named c (suc n) h = absurd (omega (arith, h))

pub fewer_named : (c : ℤ) (n m : ℕ) → counted c n ≤ suc m → n ≤ m
fewer_named c zero m h = omega arith
fewer_named c (suc n) m h = omega (arith, h)

dot_named : (cs xs : List ℤ) (x : ℤ) → named cs ≤ length xs → dot cs (xs ++ x ∷ []) ≡ dot cs xs
dot_named [] xs x h = refl
dot_named (c ∷ cs) [] x h =
    let none = none_named c (named cs) h in
    let z = ap (λ d. d *ℤ x) none.0 in
    let rest = dot-nil_right cs in
    omega (arith, linear, z, rest)
dot_named (c ∷ cs) (y ∷ xs) x h = ap (λ z. c *ℤ y +ℤ z) (dot_named cs xs x (fewer_named c (named cs) (length xs) h))

-- and none behind the front
dot_unnamed : (cs rest : List ℤ) → named cs ≤ 0 → dot cs rest ≡ pos 0
dot_unnamed [] rest h = refl
dot_unnamed (c ∷ cs) [] h = refl
dot_unnamed (c ∷ cs) (x ∷ rest) h =
    let none = none_named c (named cs) h in
    let few = none.1 in
    let z = ap (λ d. d *ℤ x) none.0 in
    let more = dot_unnamed cs rest (omega (arith, few)) in
    omega (arith, linear, z, more)

dot_front : (cs xs rest : List ℤ) → named cs ≤ length xs → dot cs (xs ++ rest) ≡ dot cs xs
dot_front [] xs rest h = refl
dot_front (c ∷ cs) [] rest h = dot_unnamed (c ∷ cs) rest h
dot_front (c ∷ cs) (y ∷ xs) rest h = ap (λ z. c *ℤ y +ℤ z) (dot_front cs xs rest (fewer_named c (named cs) (length xs) h))

-- at numbers that begin a point the rows that name nothing else hold
pub begun_front : (item : ItemView) (front : List ℤ) → IsBegun item front → HoldFront item.rows front
begun_front item front begun = λ k d low few.
    let r : Row = get_or item.rows k d in
    subst (HoldsValue r.kind r.k) (ap (λ z. z +ℤ r.constant) (dot_front r.coefs front begun.rest few)) (begun.holds k d low)

pub begun_own : (item : ItemView) (front : List ℤ) → IsBegun item front → HoldOwn item.rows front
begun_own item front begun = λ k d low all. begun_front item front begun k d low (omega (arith, all))

-- one number more
pub front_more : (rows : List Row) (columns : List ℤ) (x : ℤ) → HoldFront rows columns → HoldOwn rows (columns ++ x ∷ [])
    → HoldFront rows (columns ++ x ∷ [])
front_more rows columns x front own = λ k d low few.
    let r : Row = get_or rows k d in
    let long = length-append columns (x ∷ []) in
    elim (cases_lt (length columns) (named r.coefs)) [
      | inl above ↦ own k d low (omega (arith, few, long, above))
      | inr within ↦ subst (HoldsValue r.kind r.k) (ap (λ z. z +ℤ r.constant) (sym (dot_named r.coefs columns x within)))
          (front k d low within)
    ]

-- ---- tests of rows behind one another
pub hold_true : (rows more : List Row) (point : List ℤ) → rows_hold rows point ≡ true → rows_hold (rows ++ more) point ≡ rows_hold more point
hold_true [] more point e = refl
hold_true (r ∷ rows) more point e =
    step (row_holds point r) (rows_hold rows point) (rows_hold (rows ++ more) point) (rows_hold more point) e (hold_true rows more point)
  where
    step : (b rest whole m : Bool) → (b && rest) ≡ true → (rest ≡ true → whole ≡ m) → (b && whole) ≡ m
    step true rest whole m e f = f e
    step false rest whole m e f = absurd (false≢true e)

pub hold_false : (rows more : List Row) (point : List ℤ) → rows_hold rows point ≡ false → rows_hold (rows ++ more) point ≡ false
hold_false [] more point e = absurd (false≢true (sym e))
hold_false (r ∷ rows) more point e =
    step (row_holds point r) (rows_hold rows point) (rows_hold (rows ++ more) point) e (hold_false rows more point)
  where
    step : (b rest whole : Bool) → (b && rest) ≡ false → (rest ≡ false → whole ≡ false) → (b && whole) ≡ false
    step true rest whole e f = f e
    step false rest whole e f = refl

-- ---- the place behind
-- where the rows hold, the place behind the entry holds
pub here_entry : (item : ItemView) (place : Place) (entry : Row) (rows : List Row) → IsFixedAt item place entry rows → (point : List ℤ)
    → IsHere item place point → HoldRows rows point → IsHere item (with_entry place entry rows) point
here_entry item place entry rows fixed point here holds =
    let own = fixed.own point here holds in record {
      width = here.width;
      context = All-append (λ r. HoldsRow r point) place.context rows here.context holds;
      whole = All-append (λ r. HoldsRow r point) place.frame (entry ∷ []) here.whole
          (All-cons (λ r. HoldsRow r point) entry [] own.0 (All-nil (λ r. HoldsRow r point)));
      front = subst (HoldFront item.rows) (sym (map-append (column_at point) place.frame (entry ∷ [])))
          (front_more item.rows (columns_at place.frame point) (column_at point entry) here.front own.1);
    }

-- ---- the calls
module _ (item : ItemView) (place : Place) (entry : Row) (rows more : List Row) (nested : Nested) (fixed : IsFixedAt item place entry rows)
    (split : nested.rows ≡ rows ++ more) (room : length place.frame < item.params + item.levels)
    (rest_lists : ListsNest item (with_entry place entry rows) (record { rows = more; tree = nested.tree; inside = nested.inside })) where
  module _ (point : List ℤ) (here : IsHere item place point) where
    columns : List ℤ
    columns = columns_at place.frame point

    -- a point behind these columns has a next number
    first_rest : (t : Timed) (p : IsCalledBehind item columns t) → (x : ℤ) × (rest : List ℤ) × (p.rest ≡ x ∷ rest)
    unfolding columns
    first_rest t p = by p.rest p.width
      where
        by : (rest : List ℤ) → length (columns_at place.frame point ++ rest) ≡ item.params + item.levels
            → (x : ℤ) × (more : List ℤ) × (rest ≡ x ∷ more)
        by [] width =
            let long = length-append (columns_at place.frame point) [] in
            let wide = length-map place.frame (column_at point) in
            absurd (omega (arith, width, long, wide, room))
        by (x ∷ rest) width = (x, rest, refl)

    -- it is the one that is told, and the rows hold
    told : (t : Timed) (p : IsCalledBehind item columns t) → ((first_rest t p).0 ≡ column_at point entry) × HoldRows rows point
    unfolding columns
    told t p =
        let f = first_rest t p in
        let same : columns_at place.frame point ++ p.rest ≡ (columns_at place.frame point ++ f.0 ∷ []) ++ f.1 =
        ap (λ (rest : List ℤ). columns_at place.frame point ++ rest) f.2
        ∙ sym (append_assoc (columns_at place.frame point) (f.0 ∷ []) f.1) in
        fixed.only point f.0 here (record {
          rest = f.1;
          width = ap length (sym same) ∙ p.width;
          holds = subst (HoldRows item.rows) same p.holds;
        })

    longer : columns_at (place.frame ++ entry ∷ []) point ≡ columns ++ column_at point entry ∷ []
    unfolding columns
    longer = map-append (column_at point) place.frame (entry ∷ [])

    same_calls : (t : Timed) → IsCalledBehind item (columns ++ column_at point entry ∷ []) t ↔ IsCalledBehind item columns t
    unfolding columns
    same_calls t =
        let own = columns_at place.frame point in
        let x = column_at point entry in (
          (λ p.
              let e = append_assoc own (x ∷ []) p.rest in
              record {
                rest = x ∷ p.rest;
                width = ap length (sym e) ∙ p.width;
                holds = subst (HoldRows item.rows) e p.holds;
                call = p.call ∙ ap (timed_at item) e;
              }),
          (λ p.
              let f = first_rest t p in
              let one = (told t p).0 in
              let e : own ++ p.rest ≡ (own ++ x ∷ []) ++ f.1 =
              ap (λ (rest : List ℤ). own ++ rest) (f.2 ∙ ap (λ y. y ∷ f.1) one) ∙ sym (append_assoc own (x ∷ []) f.1) in
              record {
                rest = f.1;
                width = ap length (sym e) ∙ p.width;
                holds = subst (HoldRows item.rows) e p.holds;
                call = p.call ∙ ap (timed_at item) e;
              }),
        )

  pub lists_fixed : ListsNest item place nested
  unfolding columns
  lists_fixed point here = by (rows_hold rows point) refl
    where
      decided : (rows_hold rows point ≡ true → HoldRows rows point) × (HoldRows rows point → rows_hold rows point ≡ true)
      decided = rows_tell rows point (λ k d low. (fixed.formed k d low).modulus)

      by : (b : Bool) → rows_hold rows point ≡ b → Lists (IsCalledBehind item (columns_at place.frame point))
          (if rows_hold nested.rows point then trace nested.tree point else [])
      by true e =
          subst (λ (b : Bool). Lists (IsCalledBehind item (columns_at place.frame point)) (if b then trace nested.tree point else []))
          (sym (ap (λ (rs : List Row). rows_hold rs point) split ∙ hold_true rows more point e))
          (lists_same (IsCalledBehind item (columns_at place.frame point ++ column_at point entry ∷ [])) (IsCalledBehind item
          (columns_at place.frame point))
          (if rows_hold more point then trace nested.tree point else []) (same_calls point here)
          (subst (λ (xs : List ℤ). Lists (IsCalledBehind item xs) (if rows_hold more point then trace nested.tree point else []))
          (longer point here)
          (rest_lists point (here_entry item place entry rows fixed point here (decided.0 e)))))
      by false e =
          subst (λ (b : Bool). Lists (IsCalledBehind item (columns_at place.frame point)) (if b then trace nested.tree point else []))
          (sym (ap (λ (rs : List Row). rows_hold rs point) split ∙ hold_false rows more point e))
          (lists_none (IsCalledBehind item (columns_at place.frame point)) (λ t p. false≢true (sym e ∙ decided.1 (told point here t p).1)))
