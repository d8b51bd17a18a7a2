-- The pieces of a gist lie in spaces of the kind of the value that it is made of.
use Rattle.std.proofs.Common.{inl, inr, List, All, Contains, sym, subst}
use Rattle.std.specs.Prelude.{Any}
use Rattle.std.proofs.lemmas.List.Elements.{All-nil, All-cons, All-contains_itself}
use Rattle.isl_math.proofs.ListLaws.{Any-first, Any-later}
use Rattle.isl_space.specs.Name.{Name}
use Rattle.isl_space.specs.Element.{Element}
use Rattle.isl_space.specs.Valuation.{Valuation}
use Rattle.isl_union.specs.KeptValue.{KeptPiece, KeptValue, Has, HasElement, IsKeptValue}
use Rattle.isl_union.proofs.ValueLaws.{aligned_have}
use Rattle.isl_gist.specs.Gist.{value_over, AreGistPieces, IsGistOf}
use Rattle.isl_gist.specs.Gist as gists
use Rattle.isl_tree.specs.declared.statement.ValueKind.{ValueKind}
use Rattle.isl_kinds.specs.Typed.{joined_names}
use Rattle.isl_assumed.specs.declared.assumed.Assumed.{Assumed}
use Rattle.isl_assumed.specs.Assumed.{Assumes}
use Rattle.isl_assumed.proofs.RegionLaws.{values_same}
use Rattle.isl_values.specs.Live.{IsUnderOf}
use Rattle.isl_values.specs.State.{StateView}
use Rattle.isl_values.specs.Selection.{IsGistOfTwo}
use Rattle.isl_values.proofs.UnderLaws.{has_same}
use Rattle.isl_eval.proofs.AssumedLaws.{left_among, right_among, under_names, under_some}
use Rattle.isl_round_trip.specs.Written.{IsSpaceOf}
use Rattle.isl_round_trip.proofs.BoundLaws.{some_limit}
use Rattle.isl_round_trip.proofs.PieceKinds.{stable}

-- Each piece that is left of a value has an element of the context, so they lie in spaces of a kind where those elements of the gist do.
module _ (kind : ValueKind) (context gist : KeptValue) (lies : (valuation : Valuation) (element : Element)
    → Any (HasElement context.params valuation element) gist.pieces → Has context valuation element → IsSpaceOf kind element.space) where
  gist_lies : (pieces lefts : List KeptPiece) → AreGistPieces context pieces lefts
      → ((valuation : Valuation) (element : Element) → Any (HasElement context.params valuation element) lefts
      → Any (HasElement context.params valuation element) gist.pieces)
      → All (λ piece. IsSpaceOf kind piece.space) lefts
  gist_lies pieces lefts gists.no_more among = All-nil (λ (p : KeptPiece). IsSpaceOf kind p.space)
  gist_lies pieces lefts (gists.dropped rest) among = gist_lies _ lefts rest among
  gist_lies pieces lefts (gists.kept {left = left} {lefts = others} here rest) among =
      All-cons (λ (p : KeptPiece). IsSpaceOf kind p.space) left others
      (stable kind left.space (λ none. here.meets (λ valuation element in_left in_context. none
      (subst (IsSpaceOf kind) (sym in_left.space)
      (lies valuation element (among valuation element (Any-first (HasElement context.params valuation element) left others in_left))
      in_context)))))
      (gist_lies _ others rest
      (λ valuation element h. among valuation element (Any-later (HasElement context.params valuation element) left others h)))

  pub gist_pieces : (value : KeptValue) → IsGistOf value context gist → All (λ piece. IsSpaceOf kind piece.space) gist.pieces
  gist_pieces value is = gist_lies value.pieces gist.pieces is.pieces (λ valuation element h. h)

-- what is asked of the context is over the joined names, or it is the context
under_among : (assumed : Assumed) (left right under : KeptValue) → IsKeptValue left → IsKeptValue right
    → IsUnderOf assumed (joined_names left.params right.params) right under
    → All (Contains (joined_names left.params right.params)) under.params
under_among assumed left right under kept right_kept is =
    let names = joined_names left.params right.params in
    elim (under_names assumed names right under is) [
      | inl itself ↦ subst (λ (k : KeptValue). All (Contains names) k.params) (sym itself) (right_among assumed left right kept right_kept)
      | inr same ↦ subst (λ (ns : List Name). All (Contains names) ns) (sym same) (All-contains_itself names)
    ]

-- the gist of a value has, among the elements of the context, elements that the value has at some assumed valuation
pub gist_among : (state : StateView) (left right value : KeptValue) → (is : IsGistOfTwo state left right value) → (valuation : Valuation)
    (element : Element) → Any (HasElement (joined_names left.params right.params) valuation element) value.pieces
    → Has (value_over (joined_names left.params right.params) is.2.0) valuation element
    → (other : Valuation) × Assumes state.assumed other × Has left other element
gist_among state left right value is valuation element has in_context =
    let names = joined_names left.params right.params in
    let limit = some_limit left in
    let bound = some_limit is.2.0 in
    let there = left_among state.assumed left right is.0 is.1 in
    let here : Has value valuation element =
    subst (λ (ns : List Name). Any (HasElement ns valuation element) value.pieces) (sym is.2.3.params) has in
    let own =
    (aligned_have limit.0 names left is.0 limit.1 there valuation element).0 ((is.2.3.elements valuation element in_context).0 here) in
    let among = under_among state.assumed left right is.2.0 is.0 is.1 is.2.2 in
    let under = (aligned_have bound.0 names is.2.0 is.2.1 bound.1 among valuation element).0 in_context in
    let some = under_some state.assumed names right is.2.0 is.2.2 valuation element under in
    let same = values_same names left.params valuation some.0 there some.1 in
    (some.0, some.2, has_same left some.0 valuation (sym same) element own)
