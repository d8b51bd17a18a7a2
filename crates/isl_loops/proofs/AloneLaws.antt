-- One item alone: the loops of a strided set.
use mathlib.Core.Former.{Count}
use Rattle.std.proofs.Common.{◌≡◌, inl, inr, refl, sym, ap, ◌∙◌, subst, arith, ℕ, ◌+◌, ◌-◌, ◌<◌, ℤ, List, [], ◌∷◌, ◌++◌}
use Rattle.std.proofs.Common.{append-nil, length, length-append, get_or, take}
use Rattle.std.specs.List.{All}
use Rattle.std.proofs.lemmas.List.{length-take-le, take_more}
use Rattle.std.proofs.lemmas.List.Elements.{All-head}
use Rattle.isl_meter.specs.Gauge.{Gauge}
use Rattle.isl_space.specs.Valuation.{values_of}
use Rattle.isl_space.proofs.ValuationLaws.{length-values_of}
use Rattle.isl_piece.specs.declared.row.Row.{Row}
use Rattle.isl_piece.specs.System.{HoldRows}
use Rattle.isl_frame.specs.Frame.{IsOwnFrame}
use Rattle.isl_loop.specs.declared.tree.Loop.{Block, Loop, Row_of-Loop, end_of-Loop, more_of-Loop}
use Rattle.isl_loop.specs.declared.tree.Loop.{items-the_row-Loop, items_hidden-the_row-Loop-0}
use Rattle.isl_loop.specs.declared.tree.Loop.TheBlock.{hidden-the_row-Loop-0}
use Rattle.isl_loop.specs.Lists.{calls_of, turns_through}
use Rattle.isl_loop.specs.Run.{idle_in, idle_of, trace, turns_of}
use Rattle.isl_loop.proofs.TreeLaws.{trace_of-Block, turns_of-Block}
use Rattle.isl_nest.specs.declared.item.Item.{Item}
use Rattle.isl_nest.specs.declared.place.Place.{Place}
use Rattle.isl_nest.specs.Covered.{view_of, IsCovered}
use Rattle.isl_loop.specs.Depth.{depth_in, depth_of}
use Rattle.isl_nest.specs.Item.{ItemView}
use Rattle.isl_nest.specs.Separate.{IsSeparate}
use Rattle.isl_nest.proofs.CountLaws.{none_deep, none_idle}
use Rattle.isl_union.specs.KeptValue.{KeptValue}
use Rattle.isl_nest.specs.Strided.{IsStrided}
use Rattle.isl_nest.proofs.FormLaws.{all_forms}
use Rattle.isl_nest.proofs.BusyLaws.{separate_busy, separate_depth}
use Rattle.isl_calls.specs.Items.{AreItemsOf, IsOnlyItem}
use Rattle.isl_loops.specs.Strided.{IsNeverIdle}
use Rattle.isl_loops.proofs.GenerateLaws.{own_long}

-- ---- a block of one tree
heads : {X : Type 0} (x y : X) (xs ys : List X) → x ∷ xs ≡ y ∷ ys → (x ≡ y) × (xs ≡ ys)
heads x y xs ys e = (cc, cc)

sole_idle : (m : Count) (row : Row_of-Loop m) (tree : Loop) (point : List ℤ) → items-the_row-Loop m row ≡ tree ∷ []
    → idle_in row point ≡ idle_of tree point
sole_idle m end_of-Loop tree point e = absurd (let l = ap length e in omega (arith, l))
sole_idle m (more_of-Loop part row) tree point e =
    let h = heads part tree (items-the_row-Loop _ row) [] e in
    let none = none_idle _ row point h.1 in
    let same = ap (λ (t : Loop). idle_of t point) h.0 in
    omega (arith, none, same)

sole_deep : (m : Count) (row : Row_of-Loop m) (tree : Loop) → items-the_row-Loop m row ≡ tree ∷ [] → depth_in row ≡ depth_of tree
sole_deep m end_of-Loop tree e = absurd (let l = ap length e in omega (arith, l))
sole_deep m (more_of-Loop part row) tree e =
    let h = heads part tree (items-the_row-Loop _ row) [] e in
    let none = none_deep _ row h.1 in
    let same = ap depth_of h.0 in
    omega (arith, none, same)

module _ (tree : Loop) (parts : List Loop) (sole : parts ≡ tree ∷ []) where
  sole_calls : (point : List ℤ) → trace (Block parts) point ≡ trace tree point
  sole_calls point = trace_of-Block parts point ∙ ap (λ (l : List Loop). calls_of l point) sole ∙ append-nil (trace tree point)

  sole_turned : (point : List ℤ) → turns_of (Block parts) point ≡ turns_of tree point
  sole_turned point =
      let e = turns_of-Block parts point ∙ ap (λ (l : List Loop). turns_through l point) sole in
      omega (arith, e)

  sole_none : (point : List ℤ) → idle_of (Block parts) point ≡ idle_of tree point
  sole_none point = sole_idle _ (hidden-the_row-Loop-0 parts) tree point (items_hidden-the_row-Loop-0 parts ∙ sole)

  sole_depth : depth_of (Block parts) ≡ depth_of tree
  sole_depth = sole_deep _ (hidden-the_row-Loop-0 parts) tree (items_hidden-the_row-Loop-0 parts ∙ sole)

  block_separate : (item : ItemView) (left : ℕ) (place : Place) → IsSeparate item left place tree → IsSeparate item left place (Block parts)
  block_separate item left place (inl still) = inl (record {
    calls = λ point. sole_calls point ∙ still.calls point;
    turned = λ point. sole_turned point ∙ still.turned point;
    idle = λ point. sole_none point ∙ still.idle point;
    depth = sole_depth ∙ still.depth;
  })
  block_separate item left place (inr u) = inr (
    u.0,
    u.1,
    record {
      nest = u.2.nest;
      formed = u.2.formed;
      front = u.2.front;
      calls = λ point stands. sole_calls point ∙ u.2.calls point stands;
      turned = λ point stands. sole_turned point ∙ u.2.turned point stands;
      idle = λ point stands. sole_none point ∙ u.2.idle point stands;
      depth = sole_depth ∙ u.2.depth;
    },
  )

-- ---- items one by one
-- as many trees as items; of one item alone they are its loops
pub record IsAloneOf (place : Place) (items : List Item) (parts : List Loop) : Type 0 where
  pub count : length parts ≡ length items
  pub separate : (item : Item) → items ≡ item ∷ []
      → IsSeparate (view_of item) (item.params + item.levels - length place.frame) place (Block parts)

pub alone_none : (place : Place) (parts : List Loop) → parts ≡ [] → IsAloneOf place [] parts
alone_none place parts e = record {
  count = ap length e;
  separate = λ item one. absurd (let l = ap length one in omega (arith, l));
}

module _ (place : Place) (items : List Item) (i : ℕ) (item : Item) (low : i < length items) (at : item ≡ get_or items i item)
    (parts made : List Loop) (tree : Loop) (made_is : made ≡ parts ++ tree ∷ []) (so_far : IsAloneOf place (take i items) parts) where
  taken : take (i + 1) items ≡ take i items ++ item ∷ []
  taken = take_more items i item low ∙ ap (λ (x : Item). take i items ++ x ∷ []) (sym at)

  pub alone_more : IsSeparate (view_of item) (item.params + item.levels - length place.frame) place tree
      → IsAloneOf place (take (i + 1) items) made
  alone_more separate = record {
    count =
        let a = ap length made_is ∙ length-append parts (tree ∷ []) in
        let b = ap length taken ∙ length-append (take i items) (item ∷ []) in
        let c = so_far.count in
        omega (arith, a, b, c);
    separate = λ one only.
        let long = sym (ap length taken ∙ length-append (take i items) (item ∷ [])) ∙ ap length only in
        let front = length-take-le i items (omega (arith, low)) in
        let count = so_far.count in
        let first = nothing (take i items) (omega (arith, long)) in
        let none = nothing parts (omega (arith, long, count)) in
        let same : item ∷ [] ≡ one ∷ [] = ap (λ (xs : List Item). xs ++ item ∷ []) (sym first) ∙ sym taken ∙ only in
        block_separate tree made (made_is ∙ ap (λ (ts : List Loop). ts ++ tree ∷ []) none) (view_of one)
        (one.params + one.levels - length place.frame) place
        (subst (λ (x : Item). IsSeparate (view_of x) (x.params + x.levels - length place.frame) place tree) (heads item one [] [] same).0
        separate);
  }
    where
      nothing : {X : Type 0} (xs : List X) → length xs ≡ 0 → xs ≡ []
      nothing [] e = refl
      nothing (x ∷ xs) e = absurd (omega (arith, e))

-- ---- behind the parameters
module _ (g : Gauge) (value : KeptValue) (items : List Item) (are : AreItemsOf g value items) (place : Place) (tree : Loop)
    (params : place.variables ≡ length value.params) (own : IsOwnFrame place.variables place.frame) (bare : place.context ≡ [])
    (levels : ℕ) (rows : List Row) (only : IsOnlyItem levels rows items) (strided : IsStrided (length value.params) levels rows)
    (separate : IsSeparate (view_of only.item) (only.item.params + only.item.levels - length place.frame) place tree) where
  item : Item
  item = only.item

  covered : IsCovered g only.item
  covered = All-head (IsCovered g) only.item [] (subst (All (IsCovered g)) only.only are.covered)

  params_are : only.item.params ≡ length value.params
  params_are = All-head (λ (x : Item). x.params ≡ length value.params) only.item []
      (subst (All (λ (x : Item). x.params ≡ length value.params)) only.only are.params)

  long : length place.frame ≡ length value.params
  long = own_long place.variables place.frame own ∙ params

  left_is : only.item.params + only.item.levels - length place.frame ≡ levels
  left_is =
      let p = params_are in
      let l = long in
      let n = only.levels_are in
      omega (arith, p, l, n)

  alone : IsSeparate (view_of only.item) levels place tree
  alone = subst (λ n. IsSeparate (view_of only.item) n place tree) left_is separate

  item_strided : IsStrided only.item.params only.item.levels only.item.rows
  item_strided =
      subst (λ p. IsStrided p only.item.levels only.item.rows) (sym params_are)
      (subst (λ l. IsStrided (length value.params) l only.item.rows) (sym only.levels_are)
      (subst (IsStrided (length value.params) levels) (sym only.rows_are) strided))

  pub never_idle : IsNeverIdle value.params levels tree
  never_idle = record {
    turns = λ valuation.
        let point = values_of value.params valuation in
        let width : length point ≡ place.variables = length-values_of value.params valuation ∙ sym params in
        let p = params_are in
        let l = long in
        let n = only.levels_are in
        separate_busy (view_of only.item) covered.is (only.times ∙ sym only.levels_are) item_strided levels place tree
        (omega (arith, p, l, n)) (omega (arith, p, l)) (all_forms only.item.rows place.frame own.forms) alone point
        (record {
          width = width;
          context = subst (λ (rs : List Row). HoldRows rs point) (sym bare) (λ i r low. absurd (omega (arith, low)));
          whole = own.whole point width;
        });
    depth = separate_depth (view_of only.item) levels place tree alone;
  }
