-- Trees that list the calls of a value in the order of their times are good for it.
use Rattle.std.proofs.Common.{◌≡◌, inl, inr, sym, ap, ◌∙◌, subst, ℤ, List, length}
use Rattle.isl_math.proofs.ListLaws.{Any-weaker}
use Rattle.isl_space.specs.Element.{Element}
use Rattle.isl_space.specs.Form.{Form, leaf, pair, width_of}
use Rattle.isl_space.specs.SpaceForm.{set_of, map_of}
use Rattle.isl_space.specs.Valuation.{Valuation, values_of}
use Rattle.isl_loop.specs.declared.tree.Loop.{Loop}
use Rattle.isl_loop.specs.Nest.{Timed}
use Rattle.isl_loop.specs.Run.{Event, trace}
use Rattle.isl_loop.proofs.NestLaws.{good}
use Rattle.isl_relation.specs.Point.{Point, IsPoint, map_element, set_element}
use Rattle.isl_relation.specs.Wide.{IsLiveIn}
use Rattle.isl_schedule.specs.Schedule.{IsPair, IsSchedule, IsVisitedAt}
use Rattle.isl_schedule.proofs.VisitLaws.{points_same}
use Rattle.isl_union.specs.KeptValue.{KeptPiece, KeptValue, Has, HasElement}
use Rattle.isl_schedule.specs.Due.{name_of}
use Rattle.isl_schedule.specs.Good.{HasCallAt, IsGoodTree, ListsCalls}

-- forms that are no pairs are told by name and width
pub leaves_same : (a b : Form) → ¬ IsPair a → ¬ IsPair b → name_of a ≡ name_of b → width_of a ≡ width_of b → a ≡ b
leaves_same (leaf n k) (leaf m l) p q name width = cc
leaves_same (leaf n k) (pair c d) p q name width = absurd (q tt)
leaves_same (pair a b) f p q name width = absurd (p tt)

module _ (value : KeptValue) (schedule : IsSchedule value) (v : Valuation) where
  -- an element lies in a space of the value
  live : (e : Element) → Has value v e → IsLiveIn value e.space
  live e has = Any-weaker (HasElement value.params v e) (λ (piece : KeptPiece). piece.space ≡ e.space) (λ piece h. h.space) value.pieces has

  -- no pair is visited
  flat : (x t : Point) → IsVisitedAt (Has value v) x t → ¬ IsPair x.form
  flat x t h nested = elim h [
    | inl set ↦ schedule.flat (set_of x.form, live (set_element x) set.0.has, nested)
    | inr map ↦ schedule.flat (map_of x.form t.form, live (map_element x t) map.has, nested)
  ]

  visited_point : (x t : Point) → IsVisitedAt (Has value v) x t → IsPoint x
  visited_point x t h = elim h [ inl set ↦ set.0.point | inr map ↦ map.from ]

  -- a call has one time
  pub one_time : (e : Event) (s t : List ℤ) → HasCallAt value v e s → HasCallAt value v e t → s ≡ t
  one_time e s t a b =
      let x = a.0 in
      let y = b.0 in
      let first : (s, e) ≡ (a.1.numbers, record { name = name_of x.form; args = x.numbers }) = a.3 in
      let second : (t, e) ≡ (b.1.numbers, record { name = name_of y.form; args = y.numbers }) = b.3 in
      let event = sym (ap (λ (z : Timed). z.1) first) ∙ ap (λ (z : Timed). z.1) second in
      let numbers : x.numbers ≡ y.numbers = ap (λ (z : Event). z.args) event in
      let width : width_of x.form ≡ width_of y.form =
      sym (visited_point x a.1 a.2) ∙ ap (λ (ns : List ℤ). length ns) numbers ∙ visited_point y b.1 b.2 in
      let form = leaves_same x.form y.form (flat x a.1 a.2) (flat y b.1 b.2) (ap (λ (z : Event). z.name) event) width in
      let point : y ≡ x = points_same x y (sym form) (sym numbers) in
      let time : a.1 ≡ b.1 = schedule.single v x a.1 b.1 a.2
      (subst (λ (p : Point). IsVisitedAt (Has value v) p b.1) point b.2) in
      ap (λ (z : Timed). z.0) first ∙ ap (λ (p : Point). p.numbers) time ∙ sym (ap (λ (z : Timed). z.0) second)

-- what lists the calls that are due is good
pub good_tree : (value : KeptValue) (tree : Loop) → IsSchedule value → ListsCalls value tree → IsGoodTree value tree
good_tree value tree schedule lists v =
    good (HasCallAt value v) (trace tree (values_of value.params v)) (lists v) (one_time value schedule v)
