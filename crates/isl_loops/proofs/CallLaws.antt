-- Calls of two items: behind the same columns, at one time; and behind different numbers of the next column.
use Rattle.std.proofs.Common.{◌≡◌, sym, ap, ◌∙◌, subst, arith, ℕ, ◌+◌, ◌-◌, ◌<◌, ◌≤◌, ℤ, ◌<ℤ◌}
use Rattle.std.proofs.Common.{List, [], ◌∷◌, ◌++◌, append_assoc, get_or, length, take, drop}
use Rattle.std.specs.List.{All, Contains}
use Rattle.std.proofs.lemmas.List.{take_all}
use Rattle.std.proofs.lemmas.List.Elements.{All-more}
use Rattle.isl_math.specs.Order.{IsBefore}
use Rattle.isl_math.proofs.ListLaws.{Any-element}
use Rattle.isl_meter.specs.Gauge.{Gauge, IsCharged}
use Rattle.isl_piece.specs.declared.row.Row.{Row}
use Rattle.isl_piece.specs.System.{HoldRows}
use Rattle.isl_loop.specs.Nest.{MayPrecede, Timed}
use Rattle.isl_loop.proofs.TimeLaws.{later_not_before, not_before_itself, turns_differ}
use Rattle.isl_nest.specs.Covered.{view_of, IsCover}
use Rattle.isl_nest.specs.Item.{timed_at, IsCalledBehind, ItemView}
use Rattle.isl_nest.specs.declared.item.Item.{Item}
use Rattle.isl_nest.proofs.BehindLaws.{begun_behind, behind_next, time_inner, time_outer}
use Rattle.isl_nest.proofs.LevelLaws.{covered_later, level_cover}
use Rattle.isl_loops.specs.Together.{AreApart, IsCalledBySome, IsOver, PrecedesBehind}

-- what all have, each that is contained has
pub held : {X : Type 0} (P : X → Type 0) (xs : List X) (x : X) → All P xs → Contains xs x → P x
held P xs x all c = subst P c.2 (all c.0 x c.1)

-- ---- one item
-- fewer columns begin the same points
pub behind_front : (item : ItemView) (front more : List ℤ) (t : Timed) → IsCalledBehind item (front ++ more) t → IsCalledBehind item front t
behind_front item front more t p =
    let e = append_assoc front more p.rest in record {
      rest = more ++ p.rest;
      width = ap length (sym e) ∙ p.width;
      holds = subst (HoldRows item.rows) e p.holds;
      call = p.call ∙ ap (timed_at item) e;
    }

-- the time, where all its numbers are among the columns
time_told : (item : ItemView) (columns : List ℤ) (t : Timed) → item.params + item.times ≤ length columns → IsCalledBehind item columns t
    → t.0 ≡ take item.times (drop item.params columns)
time_told item columns t outer p = ap (λ (u : Timed). u.0) p.call ∙ time_outer item columns p.rest outer

-- the time, where the next column is one of its numbers
time_next : (item : ItemView) (params times : ℕ) (columns : List ℤ) (x : ℤ) (t : Timed) → item.params ≡ params → item.times ≡ times
    → params ≤ length columns → length columns < params + times → IsCalledBehind item (columns ++ x ∷ []) t
    → (rest : List ℤ) × (t.0 ≡ drop params columns ++ x ∷ rest)
time_next item params times columns x t e f low inner p =
    let rest = take (item.params + item.times - length columns - 1) p.rest in (
      rest,
      ap (λ (u : Timed). u.0) p.call ∙ ap (λ (point : List ℤ). (timed_at item point).0) (append_assoc columns (x ∷ []) p.rest)
          ∙ time_inner item columns x p.rest (omega (arith, low, e)) (omega (arith, inner, e, f))
          ∙ ap (λ n. drop n columns ++ x ∷ rest) e,
    )

-- ---- two items
module _ (g : Gauge) (params times : ℕ) (a b : Item) (first : IsOver g params times a) (second : IsOver g params times b)
    (columns : List ℤ) where
  -- two calls at one time
  pub same_precede : params + times ≤ length columns → AreApart params a b → (s t : Timed) → IsCalledBehind (view_of a) columns s
      → IsCalledBehind (view_of b) columns t → MayPrecede s t
  same_precede outer apart s t p q =
      let o : a.params + a.times ≤ length columns = rw (first.params_are, first.times_are) outer in
      let u : b.params + b.times ≤ length columns = rw (second.params_are, second.times_are) outer in
      let own : s.0 ≡ take times (drop params columns) =
      rw (first.params_are, first.times_are) at (time_told (view_of a) columns s o p) in
      let other : t.0 ≡ take times (drop params columns) =
      rw (second.params_are, second.times_are) at (time_told (view_of b) columns t u q) in
      let low : params ≤ length columns = omega (arith, outer) in (
        (λ e. apart columns t low (subst (IsCalledBehind (view_of a) columns) e p) q),
        subst (λ (time : List ℤ). ¬ IsBefore time s.0) (own ∙ sym other) (not_before_itself s.0),
      )

  -- calls behind a number and behind a greater one
  pub numbers_precede : params ≤ length columns → length columns < params + times → (x y : ℤ) → x <ℤ y → (s t : Timed)
      → IsCalledBehind (view_of a) (columns ++ x ∷ []) s → IsCalledBehind (view_of b) (columns ++ y ∷ []) t → MayPrecede s t
  numbers_precede low inner x y less s t p q =
      let front = drop params columns in
      let own = time_next (view_of a) params times columns x s first.params_are first.times_are low inner p in
      let other = time_next (view_of b) params times columns y t second.params_are second.times_are low inner q in (
        (λ e. turns_differ front x y own.0 other.0 less (sym own.1 ∙ ap (λ (u : Timed). u.0) e ∙ other.1)),
        rw (own.1, other.1) (later_not_before front x y other.0 own.0 less),
      )

  -- calls of an item that comes before the other
  pub ordered_precede : params ≤ length columns → length columns < params + times → PrecedesBehind columns a b → (s t : Timed)
      → IsCalledBehind (view_of a) columns s → IsCalledBehind (view_of b) columns t → MayPrecede s t
  ordered_precede low inner before s t p q =
      let room : a.params + a.times ≤ a.params + a.levels = (let h = first.covered.is.times in omega (arith, h)) in
      let space : b.params + b.times ≤ b.params + b.levels = (let h = second.covered.is.times in omega (arith, h)) in
      let i : length columns < a.params + a.levels =
      (let e = first.params_are in let f = first.times_are in omega (arith, room, inner, e, f)) in
      let j : length columns < b.params + b.levels =
      (let e = second.params_are in let f = second.times_are in omega (arith, space, inner, e, f)) in
      let own = behind_next (view_of a) columns s i p in
      let other = behind_next (view_of b) columns t j q in
      let less = before own.0 other.0 (begun_behind (view_of a) (columns ++ own.0 ∷ []) s own.1)
      (begun_behind (view_of b) (columns ++ other.0 ∷ []) t other.1) in
      numbers_precede low inner own.0 other.0 less s t own.1 other.1

-- ---- items
module _ (g : Gauge) (params times : ℕ) (xs ys : List Item) (firsts : All (IsOver g params times) xs)
    (seconds : All (IsOver g params times) ys) (columns : List ℤ) where
  -- at one time
  pub all_same_precede : params + times ≤ length columns → All (λ a. All (AreApart params a) ys) xs → (s t : Timed)
      → IsCalledBySome xs columns s → IsCalledBySome ys columns t → MayPrecede s t
  all_same_precede outer apart s t p q =
      let a = Any-element (λ (item : Item). IsCalledBehind (view_of item) columns s) xs p in
      let b = Any-element (λ (item : Item). IsCalledBehind (view_of item) columns t) ys q in
      same_precede g params times a.0 b.0 (held (IsOver g params times) xs a.0 firsts a.1) (held (IsOver g params times) ys b.0 seconds b.1)
      columns outer (held (AreApart params a.0) ys b.0 (held (λ (x : Item). All (AreApart params x) ys) xs a.0 apart a.1) b.1) s t a.2 b.2

  -- those of a number, and of a greater one
  pub all_numbers_precede : params ≤ length columns → length columns < params + times → (x y : ℤ) → x <ℤ y → (s t : Timed)
      → IsCalledBySome xs (columns ++ x ∷ []) s → IsCalledBySome ys (columns ++ y ∷ []) t → MayPrecede s t
  all_numbers_precede low inner x y less s t p q =
      let a = Any-element (λ (item : Item). IsCalledBehind (view_of item) (columns ++ x ∷ []) s) xs p in
      let b = Any-element (λ (item : Item). IsCalledBehind (view_of item) (columns ++ y ∷ []) t) ys q in
      numbers_precede g params times a.0 b.0 (held (IsOver g params times) xs a.0 firsts a.1)
      (held (IsOver g params times) ys b.0 seconds b.1) columns low inner x y less s t a.2 b.2

  -- of items that come before the others
  pub all_ordered_precede : params ≤ length columns → length columns < params + times
      → All (λ a. All (PrecedesBehind columns a) ys) xs → (s t : Timed) → IsCalledBySome xs columns s → IsCalledBySome ys columns t
      → MayPrecede s t
  all_ordered_precede low inner before s t p q =
      let a = Any-element (λ (item : Item). IsCalledBehind (view_of item) columns s) xs p in
      let b = Any-element (λ (item : Item). IsCalledBehind (view_of item) columns t) ys q in
      ordered_precede g params times a.0 b.0 (held (IsOver g params times) xs a.0 firsts a.1)
      (held (IsOver g params times) ys b.0 seconds b.1) columns low inner
      (held (PrecedesBehind columns a.0) ys b.0 (held (λ (x : Item). All (PrecedesBehind columns x) ys) xs a.0 before a.1) b.1) s t a.2 b.2

-- ---- one after another
-- what holds of all, of the one that is read
pub all_at : {X : Type 0} (P : X → Type 0) (xs : List X) (i : ℕ) (x : X) → i < length xs → x ≡ get_or xs i x → All P xs → P x
all_at P xs i x low is all = subst P (sym is) (all i x low)

-- one more
pub all_more : {X : Type 0} (P : X → Type 0) (xs : List X) (i : ℕ) (x : X) → i < length xs → x ≡ get_or xs i x → All P (take i xs) → P x
    → All P (take (i + 1) xs)
all_more P xs i x low is all p = All-more P xs i x low all (subst P is p)

-- all of them
pub all_done : {X : Type 0} (P : X → Type 0) (xs : List X) (i : ℕ) → length xs ≤ i → All P (take i xs) → All P xs
all_done P xs i end all = subst (All P) (take_all i xs end) all

-- while units are used
pub over_charged : (g h : Gauge) (params times : ℕ) (item : Item) → IsCharged g h → IsOver g params times item → IsOver h params times item
over_charged g h params times item charged is =
    record { covered = covered_later g h item charged is.covered; params_are = is.params_are; times_are = is.times_are; named = is.named }

-- the cover over the columns and one more
pub cover_over : (g : Gauge) (params times : ℕ) (item : Item) → IsOver g params times item → (columns : ℕ) → params ≤ columns
    → columns < params + times → (systems : List (List Row)) → systems ≡ get_or item.covers.items (columns + 1 - params) []
    → IsCover g (view_of item) (columns + 1) systems
cover_over g params times item is columns low inner systems read =
    let p = is.params_are in
    let t = is.times_are in
    let h = is.covered.is.times in
    level_cover g item is.covered columns (omega (arith, p, low)) (omega (arith, p, t, h, inner)) systems
    (read ∙ ap (λ n. get_or item.covers.items (columns + 1 - n) []) (sym p))
