-- The items of a value.
use Rattle.std.proofs.Common.{◌≡◌, ◌↔◌, refl, sym, ap, ◌∙◌, subst, arith, ℕ, zero, suc, ◌+◌, ◌<◌, ◌≤◌, Bool, true, List, [], ◌∷◌, length, get_or}
use Rattle.std.specs.List.{All, AllPairs, AllZip, Any}
use Rattle.std.specs.Prelude.{IfSome}
use Rattle.isl_math.proofs.ListLaws.{All-zipped, AllZip-weaker, Any-contains, Any-element, Any-zipped}
use Rattle.isl_meter.specs.Gauge.{Gauge, IsCharged}
use Rattle.isl_space.specs.Form.{Form, leaf, pair, width_of, IsNamed}
use Rattle.isl_space.specs.Limits.{most_coordinates}
use Rattle.isl_space.specs.Name.{IsLiteralName}
use Rattle.isl_space.specs.Shape.{form_of}
use Rattle.isl_space.specs.Valuation.{Valuation, values_of}
use Rattle.isl_piece.specs.declared.row.Row.{Row}
use Rattle.isl_piece.proofs.RowMagnitudes.{rows_within_kept}
use Rattle.isl_difference.proofs.SplitLaws.{charged_within}
use Rattle.isl_tower.proofs.TowerLaws.{charged_limit}
use Rattle.isl_frame.specs.Needed.{AreRowsOver}
use Rattle.isl_loop.specs.Nest.{Timed}
use Rattle.isl_nest.specs.Covered.{view_of, IsCovered}
use Rattle.isl_nest.specs.Item.{IsCalledBehind, ItemView}
use Rattle.isl_nest.specs.declared.item.Item.{Item}
use Rattle.isl_relation.specs.Point.{Point}
use Rattle.isl_schedule.specs.Schedule.{IsPair}
use Rattle.isl_schedule.proofs.VisitLaws.{points_same}
use Rattle.isl_union.specs.KeptValue.{KeptValue, Has}
use Rattle.isl_calls.specs.declared.calls.Calls.{Calls}
use Rattle.isl_calls.specs.Apart.{called_form}
use Rattle.isl_calls.specs.Calls.{width_behind, AreCalls, AreCallsOf, AreOwnCalls, IsCalledAt}
use Rattle.isl_calls.proofs.CallsLaws.{zipped_back, zipped_pairs}
use Rattle.isl_schedule.specs.Due.{name_of, timed_call, IsDue}
use Rattle.isl_schedule.proofs.GoodLaws.{leaves_same}
use Rattle.isl_calls.specs.Items.{AreItemsOf, CallsAt, IsItemOf, IsOnlyItem}
use Rattle.isl_calls.proofs.CalledLaws.{called_behind, item_view}

-- ---- one item
leaf_named : (form : Form) → IsNamed form → IfSome (name_of form) IsLiteralName
leaf_named (leaf name width) named = named
leaf_named (pair left right) named = tt

module _ (g : Gauge) (params : ℕ) (c : Calls) (are : AreCalls g params c) (item : Item) (is : view_of item ≡ item_view params c)
    (covered : IsCovered g item) where
  pub item_made : IsItemOf g params c item
  item_made = record {
    covered = covered;
    params_are = ap (λ (v : ItemView). v.params) is;
    times = ap (λ (v : ItemView). v.times) is;
    rows_are = ap (λ (v : ItemView). v.rows) is;
    named = subst (λ (v : ItemView). IfSome v.name IsLiteralName) (sym is) (leaf_named (called_form c) are.named);
    own = λ e. ap (λ (v : ItemView). v.levels) is
        ∙ ap (λ (b : Bool). width_behind b (width_of (called_form c)) (width_of (form_of c.time.value))) e
        ∙ sym (ap (λ (v : ItemView). v.times) is);
    called = λ names v timed few.
        subst (λ (view : ItemView). IsCalledBehind view (values_of names v) timed
        ↔ ((x : Point) × (t : Point) × IsCalledAt names v x t c × (timed ≡ timed_call x t))) (sym is)
        (called_behind params c are.plain are.same names few v timed);
  }

-- ---- points by their calls
zip_at : {A B : Type 0} (R : A → B → Type 0) (xs : List A) (ys : List B) (i : ℕ) (d : A) (e : B) → AllZip R xs ys → i < length ys
    → (i < length xs) × R (get_or xs i d) (get_or ys i e)
zip_at R [] [] i d e z low = absurd (omega (arith, low))
zip_at R [] (y ∷ ys) i d e z low = absurd z
zip_at R (x ∷ xs) [] i d e z low = absurd z
zip_at R (x ∷ xs) (y ∷ ys) zero d e z low = (omega arith, z.0)
zip_at R (x ∷ xs) (y ∷ ys) (suc i) d e z low =
    let rest = zip_at R xs ys i d e z.1 (omega (arith, low)) in
    ((let l = rest.0 in omega (arith, l)), rest.1)

zip_none : {A B : Type 0} (R : A → B → Type 0) (ys : List B) (j : ℕ) → AllZip R [] ys → j < length ys → ⊥
zip_none R [] j z low = omega (arith, low)
zip_none R (y ∷ ys) j z low = z

-- ---- all items
module _ (g : Gauge) (value : KeptValue) (calls : List Calls) (are : AreCallsOf g value calls) (items : List Item)
    (zipped : AllZip (IsItemOf g (length value.params)) calls items) where
  abbrev n : ℕ
  n = length value.params

  trivial : All (λ (c : Calls). Unit {0}) calls
  trivial = λ i d l. tt

  abbrev IsCalled : Valuation → Timed → Calls → Type 0
  IsCalled v timed c = (x : Point) × (t : Point) × IsCalledAt value.params v x t c × (timed ≡ timed_call x t)

  items_exact : (v : Valuation) (timed : Timed) → Any (CallsAt value.params v timed) items ↔ IsDue (Has value v) timed
  items_exact v timed = (
    (λ a.
        let back = zipped_back (IsItemOf g n) (IsCalled v timed) (CallsAt value.params v timed)
        (λ c item r h. (r.called value.params v timed refl).0 h) calls items zipped a in
        let some = Any-element (IsCalled v timed) calls back in
        let x = some.2.0 in
        let t = some.2.1 in
        (x, t, (are.exact v x t).0 (Any-contains (IsCalledAt value.params v x t) calls some.0 some.1 some.2.2), some.2.3)),
    (λ h.
        let x = h.0 in
        let t = h.1 in
        Any-zipped (IsItemOf g n) (IsCalledAt value.params v x t) (CallsAt value.params v timed)
        (λ c item r k. (r.called value.params v timed refl).1 (x, t, k, h.3)) calls items zipped ((are.exact v x t).1 h.2)),
  )

  -- two calls that are the same at one time are of one point at one time
  same_called : (v : Valuation) (x t y u : Point) (a b : Calls) → ¬ IsPair (called_form a) → ¬ IsPair (called_form b)
      → form_of a.time.value ≡ form_of b.time.value → IsCalledAt value.params v x t a → IsCalledAt value.params v y u b
      → timed_call x t ≡ timed_call y u → (y ≡ x) × (u ≡ t)
  same_called v x t y u a b flat_a flat_b time h k e =
      let numbers : x.numbers ≡ y.numbers = ap (λ (z : Timed). z.1.args) e in
      let name : name_of x.form ≡ name_of y.form = ap (λ (z : Timed). z.1.name) e in
      let times : t.numbers ≡ u.numbers = ap (λ (z : Timed). z.0) e in
      let width : width_of x.form ≡ width_of y.form = sym h.point ∙ ap length numbers ∙ k.point in
      let form : x.form ≡ y.form = leaves_same x.form y.form (λ p. flat_a (subst IsPair h.domain p)) (λ p. flat_b (subst IsPair k.domain p))
      name width in (
        points_same x y (sym form) (sym numbers),
        points_same t u (k.time ∙ sym time ∙ sym h.time) (sym times),
      )

  items_once : (v : Valuation) (timed : Timed)
      → AllPairs (λ a b. CallsAt value.params v timed a → ¬ CallsAt value.params v timed b) items
  items_once v timed i j d below low h k = by calls refl
    where
      by : (cs : List Calls) → cs ≡ calls → ⊥
      by [] none = zip_none (IsItemOf g n) items j (subst (λ (cs : List Calls). AllZip (IsItemOf g n) cs items) (sym none) zipped) low
      by (c ∷ cs) is =
          let one = zip_at (IsItemOf g n) calls items i c d zipped (omega (arith, below, low)) in
          let other = zip_at (IsItemOf g n) calls items j c d zipped low in
          let a = get_or calls i c in
          let b = get_or calls j c in
          let first = (one.1.called value.params v timed refl).0 h in
          let second = (other.1.called value.params v timed refl).0 k in
          let same = same_called v first.0 first.1 second.0 second.1 a b (are.each i c one.0).flat (are.each j c other.0).flat
          (are.alike.times i c one.0 j c other.0) first.2 second.2 (sym first.3 ∙ second.3) in
          are.once v first.0 first.1 i j c below other.0 first.2
          (subst (λ (u : Point). IsCalledAt value.params v first.0 u b) same.1
          (subst (λ (y : Point). IsCalledAt value.params v y second.1 b) same.0 second.2))

  only_item : (form : Form) (rows : List Row) → AreOwnCalls form rows calls → IsOnlyItem (width_of form) rows items
  only_item form rows own = by items (subst (λ (cs : List Calls). AllZip (IsItemOf g n) cs items) own.only zipped)
    where
      by : (xs : List Item) → AllZip (IsItemOf g n) (own.one ∷ []) xs → IsOnlyItem (width_of form) rows xs
      by [] z = absurd z
      by (x ∷ y ∷ xs) z = absurd z.1
      by (x ∷ []) z =
          let times = z.0.times ∙ ap width_of own.time in
          record {
            item = x;
            only = refl;
            levels_are = z.0.own own.own ∙ times;
            times = times;
            rows_are = z.0.rows_are ∙ own.rows_are;
          }

  pub items_made : AreItemsOf g value items
  items_made = record {
    covered = All-zipped (IsItemOf g n) (λ c. Unit {0}) (IsCovered g) (λ c item r u. r.covered) calls items zipped trivial;
    params = All-zipped (IsItemOf g n) (λ c. Unit {0}) (λ item. item.params ≡ n) (λ c item r u. r.params_are) calls items zipped trivial;
    times = zipped_pairs (IsItemOf g n) (λ a b. form_of a.time.value ≡ form_of b.time.value) (λ a b. a.times ≡ b.times)
        (λ a b x y r s e. r.times ∙ ap width_of e ∙ sym s.times) calls items zipped are.alike.times;
    narrow = All-zipped (IsItemOf g n) (AreCalls g n) (λ item. item.times ≤ most_coordinates)
        (λ c item r a. subst (λ k. k ≤ most_coordinates) (sym r.times) a.narrow.1) calls items zipped are.each;
    named = All-zipped (IsItemOf g n) (λ c. Unit {0}) (λ item. IfSome item.name IsLiteralName) (λ c item r u. r.named) calls items zipped
        trivial;
    exact = items_exact;
    once = items_once;
    sets = λ all. All-zipped (IsItemOf g n) (λ (c : Calls). c.is_own ≡ true) (λ item. item.levels ≡ item.times) (λ c item r e. r.own e) calls items
        zipped (are.sets all);
    own = λ form rows set. only_item form rows (are.own form rows set);
  }

-- ---- a meter that was charged
calls_kept_on : (g h : Gauge) (params : ℕ) (c : Calls) → IsCharged g h → AreCalls g params c → AreCalls h params c
calls_kept_on g h params c charged a = record {
  within = charged_within g h c.system charged a.within;
  plain = a.plain;
  free = a.free;
  bounded = a.bounded;
  narrow = a.narrow;
  named = a.named;
  flat = a.flat;
  same = a.same;
}

pub calls_at : (g h : Gauge) (params : ℕ) (calls : List Calls) (i : ℕ) (c : Calls) → i < length calls → c ≡ get_or calls i c → IsCharged g h
    → All (AreCalls g params) calls → AreCalls h params c
calls_at g h params calls i c low at charged all = calls_kept_on g h params c charged (subst (AreCalls g params) (sym at) (all i c low))

pub calls_later : (g h : Gauge) (params : ℕ) (calls : List Calls) → IsCharged g h → All (AreCalls g params) calls
    → All (AreCalls h params) calls
calls_later g h params calls charged all = λ i d l. calls_kept_on g h params (get_or calls i d) charged (all i d l)

rows_kept : (g h : Gauge) (n : ℕ) (rows : List Row) → IsCharged g h → AreRowsOver h n rows → AreRowsOver g n rows
rows_kept g h n rows charged a = record { formed = a.formed; within = rows_within_kept g h rows (charged_limit g h charged) a.within }

pub item_kept : (g h : Gauge) (params : ℕ) (c : Calls) (item : Item) → IsCharged g h → IsItemOf h params c item → IsItemOf g params c item
item_kept g h params c item charged r = record {
  covered = record {
    is = r.covered.is;
    narrow = r.covered.narrow;
    over = rows_kept g h (item.params + item.levels) item.rows charged r.covered.over;
    covers = record {
      count = r.covered.covers.count;
      each = λ level low.
          let e = r.covered.covers.each level low in
          record {
            over = λ i d l. rows_kept g h (item.params + level) (get_or (get_or item.covers.items level []) i d) charged (e.over i d l);
            begun = e.begun;
          };
      ended = r.covered.covers.ended;
    };
  };
  params_are = r.params_are;
  times = r.times;
  rows_are = r.rows_are;
  named = r.named;
  own = r.own;
  called = r.called;
}

pub items_kept : (g h : Gauge) (params : ℕ) (calls : List Calls) (items : List Item) → IsCharged g h → AllZip (IsItemOf h params) calls items
    → AllZip (IsItemOf g params) calls items
items_kept g h params calls items charged z =
    AllZip-weaker (IsItemOf h params) (IsItemOf g params) (λ c item r. item_kept g h params c item charged r) calls items z
