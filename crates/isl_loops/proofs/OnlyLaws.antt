-- Columns that have one number: which it is, and what a tree behind it lists.
use Rattle.std.proofs.Common.{◌≡◌, ◌≢◌, sym, ap, ◌∙◌, subst, arith, ℕ, ◌+◌, ◌<◌, ◌≤◌}
use Rattle.std.proofs.Common.{ℤ, pos, negsuc, neg_ℤ, ◌+ℤ◌, ◌*ℤ◌, ◌≤ℤ◌, List, [], ◌∷◌, ◌++◌, length, length-append, get_or}
use Rattle.std.specs.List.{All}
use Rattle.std.proofs.lemmas.List.{length-map, map-append}
use Rattle.std.proofs.lemmas.List.Elements.{All-append, All-cons, All-nil}
use Rattle.isl_math.specs.Divide.{floor_div}
use Rattle.isl_math.specs.Dot.{dot}
use Rattle.isl_math.specs.Order.{abs_of, sign_of}
use Rattle.isl_math.proofs.DivideLaws.{exact_quotient, one-Divides}
use Rattle.isl_math.proofs.Ring.{linear}
use Rattle.isl_meter.specs.Gauge.{Gauge, IsCharged}
use Rattle.isl_piece.specs.declared.row.RowKind.{RowKind}
use Rattle.isl_piece.specs.declared.row.RowKind.TheVariants.{AtLeast, Divides}
use Rattle.isl_piece.specs.declared.row.Row.{Row}
use Rattle.isl_piece.specs.Row.{coef_at, value_at, HoldsRow, HoldsValue, IsRowWithin, IsWellFormed}
use Rattle.isl_frame.specs.Frame.{column_at, columns_at, isolated, IsFrame}
use Rattle.isl_frame.specs.Needed.{AreRowsOver}
use Rattle.isl_frame.proofs.SolvedLaws.{isolated_formed, rest_at, value_apart, value_isolated}
use Rattle.isl_loop.specs.declared.tree.Loop.{Loop}
use Rattle.isl_loop.specs.Nest.{Lists}
use Rattle.isl_loop.specs.Run.{trace}
use Rattle.isl_loop.proofs.NestLaws.{lists_same}
use Rattle.isl_nest.specs.Nest.{with_entry}
use Rattle.isl_nest.specs.Places.{IsPlace, Stands}
use Rattle.isl_nest.specs.declared.around.Around.{Around}
use Rattle.isl_nest.specs.declared.item.Item.{Item}
use Rattle.isl_nest.specs.declared.place.Place.{Place}
use Rattle.isl_nest.proofs.PlaceLaws.{place_later, place_with_entry}
use Rattle.isl_loops.specs.Shared.{IsOnlyForm, IsSharedLoop}
use Rattle.isl_loops.specs.Together.{IsCalledBySome, IsOver, ListsAll}
use Rattle.isl_loops.proofs.SharedLaws.{no_rows_over}
use Rattle.isl_loops.proofs.TogetherLaws.{called_begins, called_less, called_next}

-- ---- the number
-- a number between a form and itself
between : (f h v w c d x : ℤ) → c ≡ pos 1 → d ≡ negsuc 0 → v ≡ sign_of (neg_ℤ c) *ℤ f → w ≡ sign_of (neg_ℤ d) *ℤ h → w ≡ v
    → pos 0 ≤ℤ (f +ℤ c *ℤ x) → pos 0 ≤ℤ (h +ℤ d *ℤ x) → x ≡ v
between f h v w c d x c_is d_is v_is w_is same low high =
    let s : sign_of (neg_ℤ c) ≡ negsuc 0 = ap (λ z. sign_of (neg_ℤ z)) c_is in
    let t : sign_of (neg_ℤ d) ≡ pos 1 = ap (λ z. sign_of (neg_ℤ z)) d_is in
    let a : v ≡ negsuc 0 *ℤ f = v_is ∙ ap (λ z. z *ℤ f) s in
    let b : w ≡ pos 1 *ℤ h = w_is ∙ ap (λ z. z *ℤ h) t in
    let l : pos 0 ≤ℤ (f +ℤ pos 1 *ℤ x) = subst (λ z. pos 0 ≤ℤ (f +ℤ z *ℤ x)) c_is low in
    let u : pos 0 ≤ℤ (h +ℤ negsuc 0 *ℤ x) = subst (λ z. pos 0 ≤ℤ (h +ℤ z *ℤ x)) d_is high in
    omega (arith, linear, a, b, l, u, same)

-- what an inequality says of the last of its columns
says : (variables : ℕ) (r : Row) (point : List ℤ) (x : ℤ) → IsWellFormed (variables + 1) r → length point ≡ variables → r.kind ≡ AtLeast
    → HoldsRow r (point ++ x ∷ []) → pos 0 ≤ℤ (rest_at variables r point +ℤ coef_at r variables *ℤ x)
says variables r point x formed long kind holds =
    subst (λ z. pos 0 ≤ℤ z) (value_apart variables r point x formed long)
    (subst (λ (k : RowKind). HoldsValue k r.k (value_at r (point ++ x ∷ []))) kind holds)

whole : (v k : ℤ) → k ≡ pos 1 → floor_div v k ≡ v
whole v k e = rw e (let q = exact_quotient (pos 1) v (omega (arith, linear)) (one-Divides v) in omega (arith, linear, q))

one_is_some : (c : ℤ) → c ≡ pos 1 → c ≢ pos 0
one_is_some c one = omega (arith, linear, one)

-- two of the rows, inequalities of one and the same form, from below and from above
pub only_form : (g : Gauge) (variables : ℕ) (rows : List Row) (low high entry other : Row) → AreRowsOver g (variables + 1) rows
    → 2 ≤ length rows → low ≡ get_or rows 0 low → high ≡ get_or rows 1 high
    → (low.kind ≡ AtLeast) × (coef_at low variables ≡ pos 1) → (high.kind ≡ AtLeast) × (coef_at high variables ≡ negsuc 0)
    → entry ≡ isolated variables low → other ≡ isolated variables high
    → (other.coefs ≡ entry.coefs) × (other.constant ≡ entry.constant) → IsRowWithin g entry → IsOnlyForm g variables rows entry
only_form g variables rows low high entry other over two low_is high_is first second entry_is other_is same within =
    let of_low : (P : Row → Type 0) → All P rows → P low = λ P all. subst P (sym low_is) (all 0 low (omega (arith, two))) in
    let of_high : (P : Row → Type 0) → All P rows → P high = λ P all. subst P (sym high_is) (all 1 high (omega (arith, two))) in
    let low_formed : IsWellFormed (variables + 1) low = of_low (IsWellFormed (variables + 1)) over.formed in
    let high_formed : IsWellFormed (variables + 1) high = of_high (IsWellFormed (variables + 1)) over.formed in
    record {
      formed = subst (IsWellFormed variables) (sym entry_is)
          (isolated_formed variables low low_formed (one_is_some (coef_at low variables) first.1));
      within = within;
      divides = ap (λ (r : Row). r.kind) entry_is;
      unit = ap (λ (r : Row). r.k) entry_is ∙ ap abs_of first.1;
      only = λ point x long holds.
          let H : Row → Type 0 = λ r. HoldsRow r (point ++ x ∷ []) in
          let v : value_at entry point ≡ sign_of (neg_ℤ (coef_at low variables)) *ℤ rest_at variables low point =
          ap (λ (r : Row). value_at r point) entry_is ∙ value_isolated variables low point in
          let w : value_at other point ≡ sign_of (neg_ℤ (coef_at high variables)) *ℤ rest_at variables high point =
          ap (λ (r : Row). value_at r point) other_is ∙ value_isolated variables high point in
          let equal : value_at other point ≡ value_at entry point =
          ap (λ (cs : List ℤ). dot cs point +ℤ other.constant) same.0 ∙ ap (λ z. dot entry.coefs point +ℤ z) same.1 in
          between (rest_at variables low point) (rest_at variables high point) (value_at entry point) (value_at other point)
          (coef_at low variables) (coef_at high variables) x first.1 second.1 v w equal
          (says variables low point x low_formed long first.0 (of_low H holds))
          (says variables high point x high_formed long second.0 (of_high H holds))
          ∙ sym (whole (value_at entry point) entry.k (ap (λ (r : Row). r.k) entry_is ∙ ap abs_of first.1));
    }

-- ---- the place behind it
module _ (place : Place) (entry : Row) (rows : List Row) (none : rows ≡ []) (inner : Place) (is : inner ≡ with_entry place entry rows) where
  pub entry_long : length inner.frame ≡ length place.frame + 1
  entry_long = ap (λ (p : Place). length p.frame) is ∙ length-append place.frame (entry ∷ [])

  pub entry_place : (g h : Gauge) (inside : List Row) → IsPlace g place → IsCharged g h → IsOnlyForm h place.variables inside entry
      → IsPlace h inner
  entry_place g h inside placed charged only =
      let framed : IsFrame place.variables (place.frame ++ entry ∷ []) = record {
        formed = All-append (IsWellFormed place.variables) place.frame (entry ∷ []) placed.frame.formed
            (All-cons (IsWellFormed place.variables) entry [] only.formed (All-nil (IsWellFormed place.variables)));
        divides = All-append (λ r. r.kind ≡ Divides) place.frame (entry ∷ []) placed.frame.divides
            (All-cons (λ r. r.kind ≡ Divides) entry [] only.divides (All-nil (λ r. r.kind ≡ Divides)));
      } in
      subst (IsPlace h) (sym is)
      (place_with_entry h place (place_later g h place charged placed) entry rows framed only.within
      (no_rows_over h place.variables rows none))

  stands_behind : entry.kind ≡ Divides → entry.k ≡ pos 1 → (point : List ℤ) → Stands place point → Stands inner point
  stands_behind divides unit point stands =
      let H : Row → Type 0 = λ r. HoldsRow r point in
      let nothing : All H rows = subst (All H) (sym none) (All-nil H) in
      subst (λ (p : Place). Stands p point) (sym is) (record {
        width = stands.width;
        context = All-append H place.context rows stands.context nothing;
        whole = All-append H place.frame (entry ∷ []) stands.whole
            (All-cons H entry [] (holds entry.kind entry.k (value_at entry point) divides unit) (All-nil H));
      })
    where
      holds : (kind : RowKind) (k v : ℤ) → kind ≡ Divides → k ≡ pos 1 → HoldsValue kind k v
      holds kind k v a b = rw (a, b) (one-Divides v)

  -- a tree behind the number lists all calls, where each number that begins a point is a turn at which the rows hold
  pub entry_lists : (g h k : Gauge) (params times : ℕ) (items : List Item) (around : Around) (tree : Loop)
      → All (IsOver g params times) items → params ≤ length place.frame → length place.frame < params + times
      → IsSharedLoop h place items around → IsOnlyForm k place.variables around.inside entry → ListsAll items inner tree
      → ListsAll items place tree
  entry_lists g h k params times items around tree over low inside shared only lists point stands =
      let columns = columns_at place.frame point in
      let x = column_at point entry in
      let long : length columns ≡ length place.frame = length-map place.frame (column_at point) in
      let first : params ≤ length columns = omega (arith, long, low) in
      let last : length columns < params + times = omega (arith, long, inside) in
      let behind : columns_at inner.frame point ≡ columns ++ x ∷ [] =
      ap (λ (p : Place). columns_at p.frame point) is ∙ map-append (column_at point) place.frame (entry ∷ []) in
      lists_same (IsCalledBySome items (columns ++ x ∷ [])) (IsCalledBySome items columns) (trace tree point)
      (λ t. (
        (λ p. called_less g params times items over columns first last t x p),
        (λ p.
            let next = called_next g params times items over columns first last t p in
            let begins = called_begins g params times items over columns first last t (columns ++ next.0 ∷ []) next.1 in
            let same = only.only point next.0 stands.width
            (shared.known point next.0 stands.width (shared.cover point next.0 stands begins)) in
            subst (λ y. IsCalledBySome items (columns ++ y ∷ []) t) same next.1),
      ))
      (subst (λ (xs : List ℤ). Lists (IsCalledBySome items xs) (trace tree point)) behind
      (lists point (stands_behind only.divides only.unit point stands)))
