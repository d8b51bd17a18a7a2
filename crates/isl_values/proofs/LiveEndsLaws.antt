-- What ends operations on values each piece of which is live, and what is live of what they make.
use Rattle.std.proofs.Common.{◌≡◌, ◌∙◌, ◌↔◌, inr, Bool, true, false, List, refl, sym, subst}
use Rattle.std.specs.Prelude.{Result, Ok, Err, MatchResult, unsigned_abs}
use Rattle.std.proofs.lemmas.Bool.{false≢true}
use Rattle.isl_meter.specs.Gauge.{Gauge, limit_of, IsCharged}
use Rattle.isl_meter.proofs.CutLemmas.{IsCharged_trans, IsCutBy-after}
use Rattle.isl_space.specs.Element.{Element}
use Rattle.isl_space.specs.Name.{Name}
use Rattle.isl_space.specs.SpaceForm.{SpaceForm}
use Rattle.isl_space.specs.Valuation.{Valuation}
use Rattle.isl_union.specs.KeptValue.{KeptPiece, KeptValue, Has}
use Rattle.isl_assumed.specs.declared.assumed.Assumed.{Assumed}
use Rattle.isl_assumed.specs.Assumed.{Assumes}
use Rattle.isl_assumed.specs.Values.{IsDeadAt}
use Rattle.isl_operators.specs.Formed.{AreIn, FormsWide, NoneAreIn, PairsWide}
use Rattle.isl_relation.specs.Formed.{FormsAccess}
use Rattle.isl_kinds.specs.Typed.{joined_names}
use Rattle.isl_refusal.specs.declared.refusal.Refusal.{Refusal}
use Rattle.isl_outcome.proofs.FirstLaws.{EndAlike, goes_alike, operation_alike, operation_cut}
use Rattle.isl_state.specs.State.{AtAssumed, StateView}
use Rattle.isl_state.proofs.LiveLaws.{part_elements, part_live, part_numbers, part_plain}
use Rattle.isl_values.specs.Live.{narrows, IsLiveOf, IsLivePart, IsLiveUnder}
use Rattle.isl_values.specs.Ends.{CutAlone, DependenceEnds, End, GoesOn, PairEnds}
use Rattle.isl_values.specs.Ends as ends
use Rattle.isl_values.specs.Made.{IsMadeOf, IsPaid, IsValueOf, IsWhyUnmade}
use Rattle.isl_values.proofs.SameLaws.{same_trans}

-- a space in which a live value has elements is one in which it has some at assumed valuations
module _ (state : StateView) (value : KeptValue) (live : IsLiveUnder state.assumed value) (s : SpaceForm) where
  some_there : (v : Valuation) (x : Element) → Has value v x → x.space ≡ s → ¬ NoneAreIn (AtAssumed state (Has value)) s
  some_there v x has is none =
      let piece = has.1 in
      let lives : ¬ IsDeadAt (Assumes state.assumed) value.params piece =
      subst (λ (p : KeptPiece). ¬ IsDeadAt (Assumes state.assumed) value.params p) has.3 (live has.0 piece has.2) in
      lives (λ w y here h. none w y (here, (has.0, piece, has.2, has.3, h)) (sym h.space ∙ has.4.space ∙ is))

  pub are_live_in : AreIn (Has value) s ↔ AreIn (AtAssumed state (Has value)) s
  are_live_in = (
    (λ some none. some (λ v x has is. some_there v x has is none)),
    (λ some none. some (λ v x has is. none v x has.1 is)),
  )

-- ---- operations
-- what a live value forms is formed of what it has at assumed valuations
pub forms_live : (state : StateView) (Forms : SpaceForm → SpaceForm → Type 0) (value : KeptValue) → IsLiveUnder state.assumed value
    → FormsWide Forms (Has value) ↔ FormsWide Forms (AtAssumed state (Has value))
forms_live state Forms value live = (
  (λ h. (h.0, h.1, (are_live_in state value live h.0).0 h.2, h.3, h.4)),
  (λ h. (h.0, h.1, (are_live_in state value live h.0).1 h.2, h.3, h.4)),
)

pub pairs_live : (state : StateView) (Forms : SpaceForm → SpaceForm → SpaceForm → Type 0) (left right : KeptValue)
    → IsLiveUnder state.assumed left → IsLiveUnder state.assumed right
    → PairsWide Forms (Has left) (Has right) ↔ PairsWide Forms (AtAssumed state (Has left)) (AtAssumed state (Has right))
pairs_live state Forms left right one other = (
  (λ h. (h.0, h.1, h.2, (are_live_in state left one h.0).0 h.3, (are_live_in state right other h.1).0 h.4, h.5, h.6)),
  (λ h. (h.0, h.1, h.2, (are_live_in state left one h.0).1 h.3, (are_live_in state right other h.1).1 h.4, h.5, h.6)),
)

-- they end alike
pub pair_ends_live : (state : StateView) (Forms : SpaceForm → SpaceForm → SpaceForm → Type 0) (names others : List Name)
    (left right : KeptValue) → IsLiveUnder state.assumed left → IsLiveUnder state.assumed right
    → EndAlike (PairEnds Forms names others (Has left) (Has right))
    (PairEnds Forms names others (AtAssumed state (Has left)) (AtAssumed state (Has right)))
pair_ends_live state Forms names others left right one other =
    operation_alike (joined_names names others) _ _ _ _ (pairs_live state Forms left right one other) ((λ h. h), (λ h. h))

pub dependence_ends_live : (state : StateView) (names : List Name) (source sink : KeptValue) → IsLiveUnder state.assumed source
    → IsLiveUnder state.assumed sink
    → EndAlike (DependenceEnds names (Has source) (Has sink))
    (DependenceEnds names (AtAssumed state (Has source)) (AtAssumed state (Has sink)))
dependence_ends_live state names source sink one other =
    operation_alike names _ _ _ _ (pairs_live state FormsAccess source sink one other) ((λ h. h), (λ h. h))

-- where the one goes on the other does, and its work may be cut
module _ (state : StateView) (Forms : SpaceForm → SpaceForm → SpaceForm → Type 0) (names others : List Name) (left right : KeptValue)
    (one : IsLiveUnder state.assumed left) (other : IsLiveUnder state.assumed right) where
  abbrev pub PairEndsThere : End → Type 0
  PairEndsThere = PairEnds Forms names others (AtAssumed state (Has left)) (AtAssumed state (Has right))

  pub pair_goes_there : GoesOn (PairEnds Forms names others (Has left) (Has right)) → GoesOn PairEndsThere
  pair_goes_there goes = goes_alike _ _ (pair_ends_live state Forms names others left right one other) goes

  pub pair_cut_there : GoesOn (PairEnds Forms names others (Has left) (Has right)) → PairEndsThere ends.cut
  pair_cut_there goes = operation_cut (joined_names names others) _ _ (pair_goes_there goes)

module _ (state : StateView) (names : List Name) (source sink : KeptValue) (one : IsLiveUnder state.assumed source)
    (other : IsLiveUnder state.assumed sink) where
  abbrev pub DependenceEndsThere : End → Type 0
  DependenceEndsThere = DependenceEnds names (AtAssumed state (Has source)) (AtAssumed state (Has sink))

  pub dependence_goes_there : GoesOn (DependenceEnds names (Has source) (Has sink)) → GoesOn DependenceEndsThere
  dependence_goes_there goes = goes_alike _ _ (dependence_ends_live state names source sink one other) goes

  pub dependence_cut_there : GoesOn (DependenceEnds names (Has source) (Has sink)) → DependenceEndsThere ends.cut
  dependence_cut_there goes = operation_cut names _ _ (dependence_goes_there goes)

-- ---- what is live of what was made
module _ {Plain : Type 0} (assumed : Assumed) (Exact : KeptValue → Type 0) (names : List Name) (Holds : Valuation → Element → Type 0)
    (g h k : Gauge) (made : KeptValue) (is : IsMadeOf Exact names Holds (unsigned_abs (limit_of g)) Plain made) where
  pub live_value : (part : KeptValue) → IsLivePart assumed made part
      → IsValueOf assumed (IsLiveOf assumed Exact) names Holds (unsigned_abs (limit_of g)) Plain part
  live_value part of = record {
    written = (made, is.kept, is.written, of.part);
    kept = of.kept;
    live = part_live assumed made part of.part;
    params = of.part.params ∙ is.params;
    elements = λ v here. same_trans (Has part v) (Has made v) (Holds v) (part_elements assumed made part of.part v here)
        (is.elements v);
    numbers = part_numbers assumed _ made part of.part is.numbers;
    definitions = λ plain. part_plain assumed made part of.part (is.definitions plain);
  }

  -- a call that leaves what is live of it
  module _ (works : Bool) (Ends : End → Type 0) (first : IsPaid works g h) (there : narrows assumed ≡ true → Ends ends.cut) where
    pub live_answer : (all : Bool) → (all ≡ false → (works ≡ false) × (narrows assumed ≡ false)) → {A : Type 0} (of : A → KeptValue)
        (result : Result A Refusal)
        → MatchResult result (λ a. IsLivePart assumed made (of a) × IsCharged h k) (IsWhyUnmade true CutAlone h k)
        → (narrows assumed ≡ false → MatchResult result (λ _. k ≡ h) (λ _. ⊥))
        → MatchResult result
        (λ a. IsValueOf assumed (IsLiveOf assumed Exact) names Holds (unsigned_abs (limit_of g)) Plain (of a) × IsPaid all g k)
        (IsWhyUnmade all Ends g k)
    live_answer all quiet of (Ok a) part free = (
      live_value (of a) part.0,
      record {
        charged = IsCharged_trans g h k first.charged part.1;
        free = λ none. free (quiet none).1 ∙ first.free (quiet none).0;
      },
    )
    live_answer all quiet of (Err refusal) why free = by (narrows assumed) refl
      where
        by : (b : Bool) → narrows assumed ≡ b → IsWhyUnmade all Ends g k refusal
        by false nothing = absurd (free nothing)
        by true some = record {
          cut = why.cut;
          is = why.is;
          by = IsCutBy-after g h k why.cut first.charged why.by;
          there = inr (there some);
          free = λ none. absurd (false≢true (sym (quiet none).1 ∙ some));
        }
