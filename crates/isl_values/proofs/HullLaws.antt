-- What is kept of an affine hull is the hull at every valuation.
use Rattle.std.proofs.Common.{◌≡◌, ◌∙◌, ◌↔◌, inl, inr, arith, true, ℕ, ℤ, pos, ◌+ℤ◌, List, ◌++◌, AllPairs, Contains, get_or, refl}
use Rattle.std.proofs.Common.{sym, ap, subst}
use Rattle.std.specs.Prelude.{◌≢◌}
use Rattle.std.proofs.lemmas.Bool.{cases_lt}
use Rattle.std.proofs.lemmas.List.{get_or_default}
use Rattle.isl_math.specs.Dot.{dot}
use Rattle.isl_math.proofs.ListLaws.{Any-contains, Any-element}
use Rattle.isl_space.specs.Element.{Element, IsElement}
use Rattle.isl_space.specs.Name.{Name}
use Rattle.isl_space.specs.Valuation.{Valuation, values_of}
use Rattle.isl_union.specs.KeptValue.{KeptPiece, KeptValue, Has, HasElement, IsKeptValue, columns_of}
use Rattle.isl_union.specs.Flat.{IsFlatOf}
use Rattle.isl_union.proofs.FlatLaws.{flat_same}
use Rattle.isl_assumed.specs.declared.assumed.Assumed.{Assumed}
use Rattle.isl_assumed.specs.declared.assumed.Assumed.TheVariants.{Nothing, Where}
use Rattle.isl_assumed.specs.Assumed.{Assumes}
use Rattle.isl_assumed.specs.Values.{IsDeadAt}
use Rattle.isl_assumed.proofs.ValueLaws.{live_whole}
use Rattle.isl_hull.specs.Hull.{HullHas, IsHullOf}
use Rattle.isl_tree.specs.declared.statement.Prefix.TheVariants as p
use Rattle.isl_tree.specs.declared.statement.Expr.{Expr, Prefix}
use Rattle.isl_tree.specs.declared.statement.Expr.TheBlock.{hidden-the_row-Expr-0}
use Rattle.isl_kinds.specs.Typed.{declared_of}
use Rattle.isl_kinds.proofs.DeclaredLaws.{declared_of-Prefix}
use Rattle.isl_operators.specs.Operations.{is_operation_word}
use Rattle.isl_state.specs.declared.list.ListPart.{ListPart}
use Rattle.isl_state.specs.declared.list.ListPart.TheVariants.{First}
use Rattle.isl_state.specs.State.{AtAssumed, Moment, StateView, scope_of}
use Rattle.isl_state.proofs.LiveLaws.{all_live, part_live, part_plain, part_same}
use Rattle.isl_values.specs.Live.{IsLiveOf, IsLivePartOf, IsLiveUnder, IsUnderOf}
use Rattle.isl_values.specs.Worked.{IsWorked, IsWordedOf}
use Rattle.isl_values.specs.Selection.{IsContentOf, IsKeptOf, IsSelectedAt, Selects}
use Rattle.isl_values.specs.Hulls.{IsWholeHull}
use Rattle.isl_values.proofs.ElementLaws.{selected_is}
use Rattle.isl_values.proofs.RowLaws.{selects_of-Prefix}
use Rattle.isl_values.proofs.SameLaws.{Selection}
use Rattle.isl_values.proofs.UnderLaws.{has_same, some_itself, under_params}
use Rattle.isl_values.proofs.WorkedLaws.{worked_in-Prefix}

-- of pieces in different spaces one space has one
one_piece : (pieces : List KeptPiece) → AllPairs (λ q r. q.space ≢ r.space) pieces → (q r : KeptPiece) → Contains pieces q
    → Contains pieces r → q.space ≡ r.space → q ≡ r
one_piece pieces apart q r here there same = elim (cases_lt here.0 there.0) [
  | inl before ↦ absurd (apart here.0 there.0 q before there.1 alike)
  | inr late ↦ elim (cases_lt there.0 here.0) [
    | inl behind ↦ absurd (apart there.0 here.0 q behind here.1 (sym alike))
    | inr early ↦
        let place : here.0 ≡ there.0 = omega (arith, late, early) in sym here.2 ∙ ap (λ (i : ℕ). get_or pieces i q) place ∙ other
  ]
]
  where
    other : get_or pieces there.0 q ≡ r
    other = get_or_default pieces there.0 q r there.1 ∙ there.2

    alike : (get_or pieces here.0 q).space ≡ (get_or pieces there.0 q).space
    alike = ap (λ (t : KeptPiece). t.space) here.2 ∙ same ∙ sym (ap (λ (t : KeptPiece). t.space) other)

-- each element of what is asked of is one at an assumed valuation, with the same numbers
under_there : (assumed : Assumed) (argument asked : KeptValue) → IsUnderOf assumed argument.params argument asked → (v : Valuation)
    (x : Element) → Has asked v x
    → (w : Valuation) × (values_of argument.params w ≡ values_of argument.params v) × Assumes assumed w × Has asked w x
under_there Nothing argument asked is v x has = (v, refl, tt, has)
under_there (Where region) argument asked is v x has =
    let both = (is.elements v x).0 has in
    let w = both.1.0 in (
      w,
      both.1.1,
      both.1.2,
      (is.elements w x).1
          (has_same argument w v (sym both.1.1) x both.0, some_itself (Where region) argument.params w both.1.2),
    )

-- ---- the hull of what is at assumed valuations has an element at one in each of its pieces
module _ (assumed : Assumed) (argument asked hull : KeptValue) (of : IsUnderOf assumed argument.params argument asked)
    (is : IsHullOf asked hull) (kept : IsKeptValue hull) where
  in_hull : (v : Valuation) (x : Element) → Has asked v x → Has hull v x
  in_hull v x has = (is.elements v x).1 (record {
    numbers = has.4.numbers;
    live = λ none. none v x has refl;
    zero = λ coefs constant columns vanishes. vanishes v x has refl;
  })

  piece_live : (q : KeptPiece) → Contains hull.pieces q → ¬ IsDeadAt (Assumes Nothing) hull.params q
      → ¬ IsDeadAt (Assumes assumed) hull.params q
  piece_live q there alive dead = alive (λ v x any has.
      ((is.elements v x).0 (Any-contains (HasElement hull.params v x) hull.pieces q there has)).live (λ w y found same.
      let at = under_there assumed argument asked of w y found in
      let some = Any-element (HasElement hull.params at.0 y) hull.pieces (in_hull at.0 y at.3) in
      let one = one_piece hull.pieces is.spaces q some.0 there some.1 (has.space ∙ sym same ∙ sym some.2.space) in
      dead at.0 y at.2 (subst (HasElement hull.params at.0 y) (sym one) some.2)))

  hull_live : IsLiveUnder assumed hull
  hull_live i d low =
      let alive = all_live (Assumes Nothing) hull.params hull.pieces hull.pieces
      (live_whole (Assumes Nothing) hull.params (λ v. tt) kept.params.distinct hull.pieces kept.pieces) in
      let q = get_or hull.pieces i d in
      piece_live q (i, low, get_or_default hull.pieces i q d low) (alive i d low)

-- ---- so all of them are kept
kept_hull : (assumed : Assumed) (argument asked worked value : KeptValue) → IsUnderOf assumed argument.params argument asked
    → IsLiveOf assumed (IsHullOf asked) worked → IsLiveOf assumed (IsFlatOf worked) value → IsHullOf asked value
kept_hull assumed argument asked worked value of made flat =
    let live = hull_live assumed argument asked made.0 of made.2 made.1 in
    let first : worked ≡ made.0 = part_same assumed made.0 worked made.3 live in
    let second : flat.0 ≡ worked = flat_same worked flat.0 flat.2 (part_plain assumed made.0 worked made.3 made.2.plain) in
    let part : IsLivePartOf assumed worked value = subst (λ (u : KeptValue). IsLivePartOf assumed u value) second flat.3 in
    let third : value ≡ worked = part_same assumed worked value part (part_live assumed made.0 worked made.3) in
    subst (IsHullOf asked) (sym (third ∙ first)) made.2

-- ---- elements
own_hull : (names : List Name) (P : Selection) (v : Valuation) (x : Element) → IsElement x → P v x → HullHas names P v x
own_hull names P v x numbers has = record {
  numbers = numbers;
  live = λ none. none v x has refl;
  zero = λ coefs constant columns vanishes. vanishes v x has refl;
}

-- where what the one has is in the hull of the other, at the same numbers, so is its hull
hull_within : (names : List Name) (P Q : Selection) → ((v : Valuation) (x : Element) → P v x
    → (w : Valuation) × (values_of names w ≡ values_of names v) × HullHas names Q w x)
    → (v : Valuation) (x : Element) → HullHas names P v x → HullHas names Q v x
hull_within names P Q within v x h = record {
  numbers = h.numbers;
  live = λ none. h.live (λ w y has is. (within w y has).2.live (λ u z found at. none u z found (at ∙ is)));
  zero = λ coefs constant columns vanishes. h.zero coefs constant columns (λ w y has is.
      let there = within w y has in
      subst (λ (numbers : List ℤ). dot coefs (numbers ++ y.coordinates) +ℤ constant ≡ pos 0) there.1
      (there.2.zero coefs constant (columns ∙ ap (columns_of names) (sym is)) (λ u z found at. vanishes u z found (at ∙ is))));
}

-- ---- what is kept
selected_hull : (state : StateView) (part : ListPart) (operand : Expr) (value : KeptValue)
    → IsContentOf state part (Prefix p.AffineHull operand) value → IsSelectedAt state part (Prefix p.AffineHull operand) value
unfolding hidden-the_row-Expr-0 denote.Hole.Carrier.hidden
selected_hull state part operand value content = content

module _ (state : StateView) (part : ListPart) (operand : Expr) (value : KeptValue)
    (is : IsSelectedAt state part (Prefix p.AffineHull operand) value) (params : value.params ≡ declared_of (scope_of state) operand) where
  abbrev names : List Name
  names = declared_of (scope_of state) operand

  abbrev There : Selection
  There = AtAssumed state (Selects state operand)

  work : (argument : KeptValue) × IsWorked state operand argument × (is_operation_word p.AffineHull ≡ true)
      × IsWordedOf state p.AffineHull argument is.written.0
  work = worked_in-Prefix state part p.AffineHull operand is.written.0 is.written.1

  module _ (argument asked : KeptValue) (of : IsUnderOf state.assumed argument.params argument asked) (hull : IsHullOf asked value) where
    own : asked.params ≡ names
    own = sym hull.params ∙ params

    theirs : argument.params ≡ names
    theirs = sym (under_params state.assumed argument asked of) ∙ own

    -- the value has the hull of what is asked of, and at assumed valuations that of what is selected
    of_asked : (v : Valuation) (x : Element) → Has value v x ↔ HullHas names (Has asked) v x
    of_asked v x =
        subst (λ (ns : List Name). Has value v x ↔ HullHas ns (Has asked) v x) own (hull.elements v x)

    of_there : (v : Valuation) → Assumes state.assumed v → (x : Element) → Has value v x ↔ HullHas names There v x
    of_there v here x =
        let selects = selects_of-Prefix state v part p.AffineHull operand x in (
          (λ has. selects.0 ((is.elements v here x).0 has)),
          (λ has. (is.elements v here x).1 (selects.1 has)),
        )

    asked_within : (v : Valuation) (x : Element) → Has asked v x
        → (w : Valuation) × (values_of names w ≡ values_of names v) × HullHas names There w x
    asked_within v x has =
        let at = under_there state.assumed argument asked of v x has in (
          at.0,
          subst (λ (ns : List Name). values_of ns at.0 ≡ values_of ns v) theirs at.1,
          (of_there at.0 at.2 x).0 ((of_asked at.0 x).1 (own_hull names (Has asked) at.0 x at.3.4.numbers at.3)),
        )

    there_within : (v : Valuation) (x : Element) → There v x
        → (w : Valuation) × (values_of names w ≡ values_of names v) × HullHas names (Has asked) w x
    there_within v x has = (
      v,
      refl,
      (of_asked v x).0 ((of_there v has.0 x).1 (own_hull names There v x ((selected_is state First operand v).each x has.1) has)),
    )

    everywhere : IsWholeHull state operand value
    everywhere = record {
      elements = λ v x. (
        (λ has. hull_within names (Has asked) There asked_within v x ((of_asked v x).0 has)),
        (λ has. (of_asked v x).1 (hull_within names There (Has asked) there_within v x has)),
      );
      pieces = (asked, hull);
    }

  whole : IsWholeHull state operand value
  whole =
      everywhere work.0 work.3.0 work.3.1
      (kept_hull state.assumed work.0 work.3.0 is.written.0 value work.3.1 work.3.2 is.written.2)

pub hull_everywhere : (before : Moment) (part : ListPart) (operand : Expr) (value : KeptValue)
    → IsKeptOf before part (Prefix p.AffineHull operand) value → IsWholeHull before.state operand value
hull_everywhere before part operand value is =
    whole before.state part operand value (selected_hull before.state part operand value is.content)
    (sym is.params ∙ declared_of-Prefix (scope_of before.state) p.AffineHull operand)
