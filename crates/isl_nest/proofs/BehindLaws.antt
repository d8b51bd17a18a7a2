-- Points behind columns: their next number, and calls of two next numbers.
use Rattle.std.proofs.Common.{◌≡◌, inl, inr, refl, sym, ap, ◌∙◌, subst, arith, ℕ, zero, suc, ◌+◌, ◌-◌, ◌<◌, ◌≤◌, ℤ, pos, ◌<ℤ◌}
use Rattle.std.proofs.Common.{List, [], ◌∷◌, ◌++◌, append_assoc, length, length-append, get_or, take, drop}
use Rattle.std.proofs.lemmas.Bool.{cases_lt}
use Rattle.std.proofs.lemmas.List.{drop-append-le, get_or-map, get_or_at, length-drop, take-append-le}
use Rattle.isl_math.proofs.Ring.{linear}
use Rattle.isl_piece.specs.System.{HoldRows}
use Rattle.isl_loop.specs.Nest.{MayPrecede, Timed}
use Rattle.isl_loop.proofs.TimeLaws.{later_not_before, not_before_itself, turns_differ}
use Rattle.isl_nest.specs.Covered.{IsItem}
use Rattle.isl_nest.specs.Item.{timed_at, IsBegun, IsCalledBehind, ItemView}

-- ---- the next number
module _ (item : ItemView) (columns : List ℤ) (t : Timed) where
  pub begun_behind : IsCalledBehind item columns t → IsBegun item columns
  begun_behind p = record { rest = p.rest; width = p.width; holds = p.holds }

  pub behind_less : (x : ℤ) → IsCalledBehind item (columns ++ x ∷ []) t → IsCalledBehind item columns t
  behind_less x p =
      let e = append_assoc columns (x ∷ []) p.rest in record {
        rest = x ∷ p.rest;
        width = ap length (sym e) ∙ p.width;
        holds = subst (HoldRows item.rows) e p.holds;
        call = p.call ∙ ap (timed_at item) e;
      }

  pub behind_next : length columns < item.params + item.levels → IsCalledBehind item columns t
      → (x : ℤ) × IsCalledBehind item (columns ++ x ∷ []) t
  behind_next room p = by p.rest p.width p.holds p.call
    where
      by : (rest : List ℤ) → length (columns ++ rest) ≡ item.params + item.levels → HoldRows item.rows (columns ++ rest)
          → t ≡ timed_at item (columns ++ rest) → (x : ℤ) × IsCalledBehind item (columns ++ x ∷ []) t
      by [] width holds call = let long = length-append columns [] in absurd (omega (arith, width, long, room))
      by (x ∷ rest) width holds call =
          let e : columns ++ x ∷ rest ≡ (columns ++ x ∷ []) ++ rest = sym (append_assoc columns (x ∷ []) rest) in (
            x,
            record {
              rest = rest;
              width = ap length (sym e) ∙ width;
              holds = subst (HoldRows item.rows) e holds;
              call = call ∙ ap (timed_at item) e;
            },
          )

-- a point behind columns begins with a next number
pub begun_next : (item : ItemView) (columns : List ℤ) → length columns < item.params + item.levels → IsBegun item columns
    → (x : ℤ) × IsBegun item (columns ++ x ∷ [])
begun_next item columns room p =
    let next = behind_next item columns (timed_at item (columns ++ p.rest)) room
    (record { rest = p.rest; width = p.width; holds = p.holds; call = refl }) in
    (next.0, begun_behind item (columns ++ next.0 ∷ []) (timed_at item (columns ++ p.rest)) next.1)

-- ---- two calls whose columns first differ here
-- the time, where the column is one
pub time_inner : (item : ItemView) (columns : List ℤ) (x : ℤ) (rest : List ℤ) → item.params ≤ length columns
    → length columns < item.params + item.times
    → (timed_at item (columns ++ x ∷ rest)).0
    ≡ drop item.params columns ++ x ∷ take (item.params + item.times - length columns - 1) rest
time_inner item columns x rest low inner =
    let short = length-drop item.params columns in
    ap (take item.times) (drop-append-le item.params columns (x ∷ rest) low)
    ∙ by item.times (drop item.params columns) (item.params + item.times - length columns - 1) (omega (arith, short, low, inner))
  where
    by : (n : ℕ) (front : List ℤ) (more : ℕ) → n ≡ length front + suc more → take n (front ++ x ∷ rest) ≡ front ++ x ∷ take more rest
    by zero [] more e = absurd (omega (arith, e))
    by (suc n) [] more e = ap (λ m. x ∷ take m rest) (omega (arith, e))
    by zero (y ∷ front) more e = absurd (omega (arith, e))
    by (suc n) (y ∷ front) more e = ap (λ (zs : List ℤ). y ∷ zs) (by n front more (omega (arith, e)))

-- the time, where the column is behind it
pub time_outer : (item : ItemView) (columns rest : List ℤ) → item.params + item.times ≤ length columns
    → (timed_at item (columns ++ rest)).0 ≡ take item.times (drop item.params columns)
time_outer item columns rest outer =
    let short = length-drop item.params columns in
    ap (take item.times) (drop-append-le item.params columns rest (omega (arith, outer)))
    ∙ take-append-le item.times (drop item.params columns) rest (omega (arith, short, outer))

-- the number of an argument
argument : (item : ItemView) (point : List ℤ) (i at : ℕ) → i < length item.arguments → get_or item.arguments i at ≡ at
    → get_or (timed_at item point).1.args i (pos 0) ≡ get_or point at (pos 0)
argument item point i at low e =
    get_or-map (λ (a : ℕ). get_or point a (pos 0)) item.arguments i at (pos 0) low ∙ ap (λ a. get_or point a (pos 0)) e

module _ (item : ItemView) (is : IsItem item) (columns : List ℤ) (low : item.params ≤ length columns)
    (room : length columns < item.params + item.levels) (x y : ℤ) (less : x <ℤ y) (r s : List ℤ) where
  abbrev one : List ℤ
  one = columns ++ x ∷ r

  abbrev other : List ℤ
  other = columns ++ y ∷ s

  inner_precede : length columns < item.params + item.times → MayPrecede (timed_at item one) (timed_at item other)
  inner_precede inner =
      let front = drop item.params columns in
      let a = time_inner item columns x r low inner in
      let b = time_inner item columns y s low inner in
      let more = item.params + item.times - length columns - 1 in (
        (λ e. turns_differ front x y (take more r) (take more s) less (sym a ∙ ap (λ (t : Timed). t.0) e ∙ b)),
        rw (a, b) (later_not_before front x y (take more s) (take more r) less),
      )

  outer_precede : item.params + item.times ≤ length columns → MayPrecede (timed_at item one) (timed_at item other)
  outer_precede outer =
      let a = time_outer item columns (x ∷ r) outer in
      let b = time_outer item columns (y ∷ s) outer in
      let named = is.behind (length columns) outer room in (
        (λ e.
            let args = ap (λ (t : Timed). get_or t.1.args named.0 (pos 0)) e in
            let here = argument item one named.0 (length columns) named.1 named.2 in
            let there = argument item other named.0 (length columns) named.1 named.2 in
            let p = get_or_at columns x r (pos 0) (length columns) refl in
            let q = get_or_at columns y s (pos 0) (length columns) refl in
            let same : x ≡ y = sym p ∙ sym here ∙ args ∙ there ∙ q in
            omega (arith, linear, less, same)),
        rw (a, b) (not_before_itself (take item.times (drop item.params columns))),
      )

  pub points_precede : MayPrecede (timed_at item one) (timed_at item other)
  points_precede = elim (cases_lt (length columns) (item.params + item.times)) [
    | inl inner ↦ inner_precede inner
    | inr outer ↦ outer_precede outer
  ]

-- calls behind a number may stand before those behind a greater one
pub calls_precede : (item : ItemView) (is : IsItem item) (columns : List ℤ) → item.params ≤ length columns
    → length columns < item.params + item.levels → (x y : ℤ) (s t : Timed) → x <ℤ y → IsCalledBehind item (columns ++ x ∷ []) s
    → IsCalledBehind item (columns ++ y ∷ []) t → MayPrecede s t
calls_precede item is columns low room x y s t less p q =
    let a = p.call ∙ ap (timed_at item) (append_assoc columns (x ∷ []) p.rest) in
    let b = q.call ∙ ap (timed_at item) (append_assoc columns (y ∷ []) q.rest) in
    rw (a, b) (points_precede item is columns low room x y less p.rest q.rest)
