-- What tests, samples, gists and coalesced values of operands at assumed valuations say.
use Rattle.std.proofs.Common.{◌≡◌, ◌↔◌, ◌⊎◌, ◌∙◌, ◌≤◌, inl, inr, refl, sym, ap, ap₂, subst, ℕ, ℤ, List, [], ◌∷◌, ◌++◌, length}
use Rattle.std.specs.Prelude.{unsigned_abs}
use Rattle.std.specs.List.{All, Contains}
use Rattle.std.proofs.lemmas.List.Elements.{All-contains_itself, All-nil, All-cons, All-head, All-tail, All-append}
use Rattle.isl_meter.specs.Gauge.{Gauge, IsCharged, limit_of}
use Rattle.isl_space.specs.Limits.{most_parameters}
use Rattle.isl_space.specs.Names.{AreDistinct, joined}
use Rattle.isl_space.proofs.NamesLaws.{joined-self}
use Rattle.isl_space.specs.Element.{Element}
use Rattle.isl_space.specs.Name.{Name}
use Rattle.isl_space.specs.Valuation.{Valuation, values_of}
use Rattle.isl_piece.specs.System.{HoldsSystem}
use Rattle.isl_union.specs.Compare.{IsSubset}
use Rattle.isl_union.specs.KeptValue.{KeptPiece, KeptValue, Has, HasElement, HasNoDefinitions, IsKeptValue, piece_system, point_of}
use Rattle.isl_union.specs.Numbers.{HasNumbersUpTo}
use Rattle.isl_union.proofs.SampleLaws.{point_holds}
use Rattle.isl_union.proofs.ValueLaws.{aligned_have, first_in, second_in}
use Rattle.isl_union.specs.Piece.{piece_of}
use Rattle.isl_union.specs.Sample.{only_piece, point_system, IsSampleOf}
use Rattle.isl_gist.specs.Gist.{value_over, AreGistPieces, IsGistOf, IsGistPiece}
use Rattle.isl_gist.specs.Gist as gists
use Rattle.isl_kinds.specs.Typed.{joined_names}
use Rattle.isl_kinds.proofs.DeclaredLaws.{joined_joined}
use Rattle.isl_kinds.proofs.JoinedNamesLaws.{joined_is}
use Rattle.isl_coalesce.specs.Coalesced.{AreSteps, IsCoalescedUnder, IsStep}
use Rattle.isl_coalesce.specs.Joint.{IsJointAt}
use Rattle.isl_assumed.specs.declared.assumed.Assumed.{Assumed}
use Rattle.isl_assumed.specs.declared.assumed.Assumed.TheVariants.{Nothing, Where}
use Rattle.isl_assumed.specs.Assumed.{Assumes, AssumesSome}
use Rattle.isl_assumed.specs.Values.{IsDeadAt}
use Rattle.isl_values.specs.Live.{IsLiveUnder, IsOperandOf, IsSampleAt, IsUnderOf}
use Rattle.isl_values.specs.Ends.{GoesOn}
use Rattle.isl_values.proofs.OutcomeLaws.{operation_goes}
use Rattle.isl_values.proofs.UnderLaws.{has_same, operands_part}
use Rattle.isl_values.proofs.ValueLaws.{same_limit}
use Rattle.isl_values.specs.State.{StateView}
use Rattle.isl_tree.specs.declared.statement.Binary.{Binary}
use Rattle.isl_tree.specs.declared.statement.Binary.TheVariants as b
use Rattle.isl_eval.specs.Tests.{IsPartOf, TestHolds}
use Rattle.isl_eval.specs.Evaluation.{EndsTwo, IsChosen, IsGistIn, IsPutAt, Tells}

-- ---- the numbers of the parameters
-- a piece has the same elements at valuations with the same numbers of its parameters
pub piece_moved : (params : List Name) (v w : Valuation) (x : Element) (piece : KeptPiece) → values_of params v ≡ values_of params w
    → HasElement params v x piece → HasElement params w x piece
piece_moved params v w x piece same has = record {
  numbers = has.numbers;
  space = has.space;
  holds = subst (λ (ns : List ℤ). HoldsSystem (piece_system params piece) (ns ++ x.coordinates)) same has.holds;
}

-- ---- tests
pub not_same : (A B : Type 0) → A ↔ B → (¬ A) ↔ (¬ B)
not_same A B iff = ((λ no h. no (iff.1 h)), (λ no h. no (iff.0 h)))

pub both_same : (A B C D : Type 0) → A ↔ C → B ↔ D → (A × B) ↔ (C × D)
both_same A B C D iff other = ((λ h. (iff.0 h.0, other.0 h.1)), (λ h. (iff.1 h.0, other.1 h.1)))

module _ (state : StateView) (names : List Name) (left right l r : KeptValue) (left_among : All (Contains names) left.params)
    (right_among : All (Contains names) right.params) (one : IsUnderOf state.assumed names left l)
    (two : IsUnderOf state.assumed names right r) where
  forth : IsSubset l r ↔ IsPartOf state (Has left) (Has right)
  forth = operands_part state.assumed names left right l r one two left_among right_among

  back : IsSubset r l ↔ IsPartOf state (Has right) (Has left)
  back = operands_part state.assumed names right left r l two one right_among left_among

  -- what the operands under what is assumed tell of a test is whether it holds at every assumed valuation
  pub test_told : (operator : Binary) → Tells operator l r ↔ TestHolds state operator (Has left) (Has right)
  test_told b.Equal = both_same _ _ _ _ forth back
  test_told b.Subset = forth
  test_told b.ProperSubset = both_same _ _ _ _ forth (not_same _ _ back)
  test_told b.Superset = back
  test_told b.ProperSuperset = both_same _ _ _ _ back (not_same _ _ forth)
  test_told _ = ((λ h. h), (λ h. h))

-- ---- samples
-- the piece of an element is the same at valuations with the same numbers
only_moved : (params : List Name) (v w : Valuation) (x : Element) → values_of params v ≡ values_of params w
    → only_piece params v x ≡ only_piece params w x
only_moved params v w x same = ap (λ (ns : List ℤ). piece_of x.space (point_system (ns ++ x.coordinates))) same

-- a sample of what the value has at assumed valuations is one at some assumed valuation
pub sample_there : (assumed : Assumed) (value under sample : KeptValue) → IsUnderOf assumed value.params value under → IsSampleOf under sample
    → IsSampleAt assumed value sample
sample_there assumed value under sample is of = by assumed is
  where
    by : (a : Assumed) → IsUnderOf a value.params value under → IsSampleAt a value sample
    by Nothing same =
        let here = subst (λ (k : KeptValue). IsSampleOf k sample) same of in
        record {
          params = here.params;
          pieces = elim here.pieces [
            | inl none ↦ inl ((λ v x _ has. none.0 v x has), none.1)
            | inr one ↦ inr (one.0, one.1, tt, one.2, one.3)
          ];
        }
    by (Where region) over = record {
      params = of.params ∙ over.params;
      pieces = elim of.pieces [
        | inl none ↦ inl ((λ v x here has. none.0 v x ((over.elements v x).1 (has, (v, refl, here)))), none.1)
        | inr one ↦ inr (
            let both = (over.elements one.0 one.1).0 one.2 in
            let same = sym both.1.1 in (
              both.1.0,
              one.1,
              both.1.2,
              has_same value both.1.0 one.0 same one.1 both.0,
              one.3 ∙ ap (λ (ps : List Name). only_piece ps one.0 one.1 ∷ []) over.params
                  ∙ ap (λ (k : KeptPiece). k ∷ []) (only_moved value.params one.0 both.1.0 one.1 same),
            )
            )
      ];
    }

abbrev LivesAt : Assumed → List Name → KeptPiece → Type 0
LivesAt assumed params piece = ¬ IsDeadAt (Assumes assumed) params piece

-- the one element of a sample is there at an assumed valuation
pub sample_lives : (assumed : Assumed) (value sample : KeptValue) → IsSampleAt assumed value sample → IsLiveUnder assumed sample
sample_lives assumed value sample is =
    subst (λ (ps : List Name). All (λ piece. ¬ IsDeadAt (Assumes assumed) ps piece) sample.pieces) (sym is.params)
    (elim is.pieces [
      | inl none ↦ subst (All (LivesAt assumed value.params)) (sym none.1) (All-nil (LivesAt assumed value.params))
      | inr one ↦ subst (All (LivesAt assumed value.params)) (sym one.4)
          (All-cons (LivesAt assumed value.params) (only_piece value.params one.0 one.1) []
          (λ dead. dead one.0 one.1 one.2
          (record { numbers = one.3.4.numbers; space = refl; holds = point_holds (point_of value.params one.0 one.1) }))
          (All-nil (LivesAt assumed value.params)))
    ])

pub chosen_is : (assumed : Assumed) (g h : Gauge) (limit : ℕ) (value under v one made : KeptValue)
    → IsOperandOf assumed value.params limit value under → v ≡ under → IsSampleOf v one → IsKeptValue one → HasNoDefinitions one
    → HasNumbersUpTo (unsigned_abs (limit_of h)) one → made ≡ one → IsCharged g h → IsChosen assumed (unsigned_abs (limit_of g)) value made
chosen_is assumed g h limit value under v one made operand is sample kept plain small same charged =
    let here = sample_there assumed value under one operand.under (subst (λ (k : KeptValue). IsSampleOf k one) is sample) in
    subst (IsChosen assumed (unsigned_abs (limit_of g)) value) (sym same) (record {
      sample = here;
      kept = kept;
      live = sample_lives assumed value one here;
      numbers = subst (λ (z : ℤ). HasNumbersUpTo (unsigned_abs z) one) (same_limit g h charged) small;
      definitions = plain;
    })

-- ---- gists
-- each piece of a gist has an element of the context
module _ (assumed : Assumed) (context : KeptValue)
    (there : (v : Valuation) (x : Element) → Has context v x → AssumesSome assumed context.params v) where
  piece_lives : (piece left : KeptPiece) → IsGistPiece context piece left → ¬ IsDeadAt (Assumes assumed) context.params left
  piece_lives piece left is dead =
      is.meets (λ v x has in_context.
      let some = there v x in_context in
      dead some.0 x some.2 (piece_moved context.params v some.0 x left (sym some.1) has))

  pub gist_lives : (pieces lefts : List KeptPiece) → AreGistPieces context pieces lefts
      → All (λ piece. ¬ IsDeadAt (Assumes assumed) context.params piece) lefts
  gist_lives pieces lefts gists.no_more = All-nil (λ (piece : KeptPiece). ¬ IsDeadAt (Assumes assumed) context.params piece)
  gist_lives pieces lefts (gists.dropped more) = gist_lives _ lefts more
  gist_lives pieces lefts (gists.kept {piece = piece} {left = left} {lefts = others} is more) =
      All-cons (λ (p : KeptPiece). ¬ IsDeadAt (Assumes assumed) context.params p) left others (piece_lives piece left is)
      (gist_lives _ others more)

-- what an operand under what is assumed has, it has at the numbers of some assumed valuation
pub under_some : (assumed : Assumed) (names : List Name) (value under : KeptValue) → IsUnderOf assumed names value under
    → (v : Valuation) (x : Element) → Has under v x → AssumesSome assumed names v
under_some Nothing names value under same v x has = (v, refl, tt)
under_some (Where region) names value under over v x has = ((over.elements v x).0 has).1

-- it is over the names, or the value
pub under_names : (assumed : Assumed) (names : List Name) (value under : KeptValue) → IsUnderOf assumed names value under
    → (under ≡ value) ⊎ (under.params ≡ names)
under_names Nothing names value under same = inl same
under_names (Where region) names value under over = inr over.params

-- ---- two operands
-- the names of the first of two, joined to those of both
joined_again : (names others : List Name) → AreDistinct names → AreDistinct (joined_names names others)
    → joined names (joined_names names others) ≡ joined_names names others
joined_again names others distinct both =
    joined_is names (joined_names names others) both ∙ joined_joined names names others
    ∙ ap (λ (ns : List Name). joined_names ns others) (sym (joined_is names names distinct) ∙ joined-self names)

module _ (assumed : Assumed) (left right : KeptValue) (left_kept : IsKeptValue left) (right_kept : IsKeptValue right) where
  abbrev Both : List Name
  Both = joined_names left.params right.params

  pub both_are : joined left.params right.params ≡ Both
  both_are = joined_is left.params right.params right_kept.params.distinct

  pub left_among : All (Contains Both) left.params
  left_among = subst (λ (ns : List Name). All (Contains ns) left.params) both_are (first_in left.params right.params)

  pub right_among : All (Contains Both) right.params
  right_among =
      subst (λ (ns : List Name). All (Contains ns) right.params) both_are
      (second_in left.params right.params left_kept.params right_kept.params)

  -- over both operands under what is assumed
  both_joined : (l r : KeptValue) → IsUnderOf assumed Both left l → IsUnderOf assumed Both right r → joined l.params r.params ≡ Both
  both_joined l r one two = by assumed one two
    where
      by : (a : Assumed) → IsUnderOf a Both left l → IsUnderOf a Both right r → joined l.params r.params ≡ Both
      by Nothing first second = ap₂ (λ (x y : KeptValue). joined x.params y.params) first second ∙ both_are
      by (Where region) first second = ap₂ joined first.params second.params ∙ joined-self Both

  pub joined_at : (l r a b : KeptValue) → IsUnderOf assumed Both left l → IsUnderOf assumed Both right r → a ≡ l → b ≡ r
      → joined a.params b.params ≡ Both
  joined_at l r a b one two first second =
      ap₂ (λ (x y : KeptValue). joined x.params y.params) first second ∙ both_joined l r one two

  -- over the left operand and the right one under what is assumed
  pub right_joined : (r : KeptValue) → IsKeptValue r → IsUnderOf assumed Both right r → joined left.params r.params ≡ Both
  right_joined r kept two = by assumed two
    where
      by : (a : Assumed) → IsUnderOf a Both right r → joined left.params r.params ≡ Both
      by Nothing second = ap (λ (y : KeptValue). joined left.params y.params) second ∙ both_are
      by (Where region) second =
          ap (joined left.params) second.params
          ∙ joined_again left.params right.params left_kept.params.distinct (subst AreDistinct second.params kept.params.distinct)

  -- an operation of the two goes on where they have few enough names
  pub two_goes : length Both ≤ most_parameters → GoesOn (EndsTwo left right)
  two_goes few = operation_goes Both ⊥ ⊥ few (λ h. h) (λ h. h)

-- ---- the gist of two
-- the names of the value, joined to those of the context under what is assumed
pub gist_names : (assumed : Assumed) (value context : KeptValue) (kept : IsKeptValue value) (context_kept : IsKeptValue context)
    (under c : KeptValue) → IsKeptValue under → IsUnderOf assumed (joined_names value.params context.params) context under → c ≡ under
    → joined value.params c.params ≡ joined_names value.params context.params
gist_names assumed value context kept context_kept under c under_kept of same =
    ap (λ (y : KeptValue). joined value.params y.params) same
    ∙ right_joined assumed value context kept context_kept under under_kept of

module _ (state : StateView) (g h : Gauge) (value context under c gist made : KeptValue) (limit : ℕ) (kept : IsKeptValue value)
    (context_kept : IsKeptValue context)
    (operand : IsOperandOf state.assumed (joined_names value.params context.params) limit context under) (same : c ≡ under)
    (small : HasNumbersUpTo (unsigned_abs (limit_of h)) under) where
  abbrev Names : List Name
  Names = joined_names value.params context.params

  -- the context over all names has what the operand has
  among : All (Contains Names) under.params
  among = elim (under_names state.assumed Names context under operand.under) [
    | inl itself ↦ subst (λ (k : KeptValue). All (Contains Names) k.params) (sym itself)
        (right_among state.assumed value context kept context_kept)
    | inr names ↦ subst (λ (ns : List Name). All (Contains Names) ns) (sym names) (All-contains_itself Names)
  ]

  over_some : (w : Valuation) (x : Element) → Has (value_over Names under) w x → AssumesSome state.assumed Names w
  over_some w x has =
      under_some state.assumed Names context under operand.under w x ((aligned_have h Names under operand.kept small among w x).0 has)

  pub gist_in_is : IsGistOf (value_over (joined value.params c.params) value) (value_over (joined value.params c.params) c) gist
      → IsKeptValue gist → HasNoDefinitions gist → HasNumbersUpTo (unsigned_abs (limit_of g)) gist → made ≡ gist
      → IsGistIn state (unsigned_abs (limit_of g)) value context made
  gist_in_is exact gist_kept plain within shared =
      let both = subst (λ (ns : List Name). IsGistOf (value_over ns value) (value_over ns c) gist)
      (gist_names state.assumed value context kept context_kept under c operand.kept operand.under same) exact in
      let over = subst (λ (k : KeptValue). IsGistOf (value_over Names value) (value_over Names k) gist) same both in
      subst (IsGistIn state (unsigned_abs (limit_of g)) value context) (sym shared) (record {
        gist = (kept, context_kept, (under, operand.kept, operand.under, over));
        kept = gist_kept;
        live = subst (λ (ns : List Name). All (λ piece. ¬ IsDeadAt (Assumes state.assumed) ns piece) gist.pieces) (sym over.params)
            (gist_lives state.assumed (value_over Names under) over_some _ gist.pieces over.pieces);
        params = over.params;
        numbers = within;
        definitions = plain;
      })

-- ---- coalesced values
module _ (P : Valuation → Type 0) (params : List Name) where
  abbrev Lives : KeptPiece → Type 0
  Lives piece = ¬ IsDeadAt P params piece

  split_lives : (xs : List KeptPiece) (y : KeptPiece) (ys : List KeptPiece) → All Lives (xs ++ y ∷ ys) → All Lives xs × Lives y × All Lives ys
  split_lives [] y ys all = (All-nil Lives, All-head Lives y ys all, All-tail Lives y ys all)
  split_lives (x ∷ xs) y ys all =
      let rest = split_lives xs y ys (All-tail Lives x (xs ++ y ∷ ys) all) in
      (All-cons Lives x xs (All-head Lives x (xs ++ y ∷ ys) all) rest.0, rest.1, rest.2)

  step_lives : (old new : List KeptPiece) → IsStep (IsJointAt P params) old new → All Lives old → All Lives new
  step_lives old new step all =
      let first = split_lives step.before step.first (step.between ++ step.second ∷ step.behind) (subst (All Lives) step.from all) in
      let second = split_lives step.between step.second step.behind first.2 in
      subst (All Lives) (sym step.to)
      (All-append Lives step.before (step.between ++ step.joint ∷ step.behind) first.0
      (All-append Lives step.between (step.joint ∷ step.behind) second.0 (All-cons Lives step.joint step.behind step.joins.some second.2)))

  steps_live : (old : List KeptPiece) (states : List (List KeptPiece)) (new : List KeptPiece) → AreSteps (IsJointAt P params) old states new
      → All Lives old → All Lives new
  steps_live old [] new same all = subst (All Lives) (sym same) all
  steps_live old (next ∷ states) new steps all = steps_live next states new steps.1 (step_lives old next steps.0 all)

-- each piece of the new value has an element at an assumed valuation where those of the old one do
pub together_lives : (assumed : Assumed) (value new : KeptValue) → IsCoalescedUnder assumed value new → IsLiveUnder assumed value
    → IsLiveUnder assumed new
together_lives assumed value new is live =
    subst (λ (ps : List Name). All (λ piece. ¬ IsDeadAt (Assumes assumed) ps piece) new.pieces) (sym is.params)
    (steps_live (Assumes assumed) value.params value.pieces is.leads.0 new.pieces is.leads.1 live)

pub put_is : (state : StateView) (limit : ℕ) (value new made : KeptValue) (held : Assumed) → held ≡ state.assumed
    → IsLiveUnder state.assumed value
    → ((v : Valuation) (x : Element) → Assumes held v → Has new v x ↔ Has value v x) → IsCoalescedUnder held value new
    → IsKeptValue new → HasNumbersUpTo limit new → HasNoDefinitions new → made ≡ new → IsPutAt state limit value made
put_is state limit value new made held is live has joined kept small plain same =
    let elements = subst (λ (a : Assumed). (v : Valuation) (x : Element) → Assumes a v → Has new v x ↔ Has value v x) is has in
    let coalesced = subst (λ (a : Assumed). IsCoalescedUnder a value new) is joined in
    subst (IsPutAt state limit value) (sym same) (record {
      together = record { elements = λ v here x. elements v x here; coalesced = coalesced };
      kept = kept;
      live = together_lives state.assumed value new coalesced live;
      numbers = small;
      definitions = plain;
    })
