-- Operands at assumed valuations alone.
use Rattle.std.proofs.Common.{◌≡◌, ◌∙◌, ◌↔◌, ◌++◌, ℕ, true, false, List, [], All, Contains, refl, sym, ap, subst, inl, inr, ◌⊎◌}
use Rattle.std.proofs.Common.{◌<◌, get_or, length}
use Rattle.std.specs.Prelude.{IfOk, MatchResult, Result, Ok, Err, unsigned_abs}
use Rattle.std.proofs.lemmas.Bool.{false≢true}
use Rattle.std.proofs.lemmas.List.Elements.{All-contains_itself, All-nil}
use Rattle.std.proofs.lemmas.List.Folds.{list_any_at}
use Rattle.std.proofs.lemmas.Slice.Eq.{bytes_eq-Decides}
use Rattle.std.specs.Str.{bytes_eq}
use Rattle.isl_math.proofs.ListLaws.{Any-none}
use Rattle.isl_meter.specs.Gauge.{Gauge, limit_of, IsCharged, IsCutBy}
use Rattle.isl_meter.specs.declared.Cut.{Cut}
use Rattle.isl_meter.proofs.CutLemmas.{IsCharged_refl, IsCutBy-charged}
use Rattle.isl_space.specs.Limits.{most_parameters}
use Rattle.isl_space.specs.Names.{is_among, joined}
use Rattle.isl_space.proofs.NamesLaws.{joined-nothing_new}
use Rattle.isl_space.specs.Element.{Element}
use Rattle.isl_space.specs.Name.{Name}
use Rattle.isl_space.specs.Valuation.{Valuation, values_of}
use Rattle.isl_piece.specs.System.{HoldsSystem}
use Rattle.isl_union.specs.KeptValue.{KeptPiece, KeptValue, Has, HasElement, HasNoDefinitions, IsKeptValue, piece_system}
use Rattle.isl_union.specs.Fault.{IsFaultBy, IsPlainFault}
use Rattle.isl_union.specs.declared.fault.OpFault.{OpFault}
use Rattle.isl_union.specs.declared.fault.OpFault.TheVariants as op_fault
use Rattle.isl_union.specs.Numbers.{IsPieceUpTo, IsWithinLimit}
use Rattle.isl_assumed.specs.declared.assumed.Assumed.{Assumed}
use Rattle.isl_assumed.specs.declared.assumed.Assumed.TheVariants.{Nothing, Where}
use Rattle.isl_assumed.specs.Assumed.{Assumes, AssumesSome, IsOver as IsOverNames, names_of}
use Rattle.isl_assumed.proofs.RegionLaws.{values_same}
use Rattle.isl_refusal.specs.declared.refusal.Refusal.{Refusal}
use Rattle.isl_values.specs.Live.{narrows, IsOperandIn, IsOperandOf, IsUnderOf}
use Rattle.isl_state.specs.State.{StateView, HasNumbersUpTo}
use Rattle.isl_values.specs.Ends.{CutAlone, CutUnder, OperationEnds}
use Rattle.isl_values.specs.Ends as ends
use Rattle.isl_values.specs.Made.{refusal_of_fault, IsPaid, IsWhyUnmade, IsWhyUnworked}
use Rattle.isl_values.proofs.SameLaws.{AreAlike, AreAmong, Same, itself}
use Rattle.isl_values.proofs.OutcomeLaws.{answered_made, IsAnswer}
use Rattle.isl_values.proofs.ValueLaws.{match_map, ok_map, paid_same}

-- ---- elements
-- a value has the same elements where its parameters have the same numbers
pub has_same : (value : KeptValue) (v w : Valuation) → values_of value.params w ≡ values_of value.params v → (x : Element) → Has value w x
    → Has value v x
has_same value v w same x a = (
  a.0,
  a.1,
  a.2,
  a.3,
  record {
    numbers = a.4.numbers;
    space = a.4.space;
    holds = subst (λ xs. HoldsSystem (piece_system value.params a.1) (xs ++ x.coordinates)) same a.4.holds;
  },
)

-- an assumed valuation has its own numbers
pub some_itself : (assumed : Assumed) (names : List Name) (v : Valuation) → Assumes assumed v → AssumesSome assumed names v
some_itself assumed names v here = (v, refl, here)

-- at an assumed valuation it has what the value has
pub under_here : (assumed : Assumed) (names : List Name) (value under : KeptValue) → IsUnderOf assumed names value under → (v : Valuation)
    → Assumes assumed v → Same (Has under v) (Has value v)
under_here Nothing names value under is v here x =
    subst (λ (u : KeptValue). Same (Has u v) (Has value v)) (sym is) (itself (Has value v)) x
under_here (Where region) names value under is v here x = (
  (λ h. ((is.elements v x).0 h).0),
  (λ h. (is.elements v x).1 (h, some_itself (Where region) names v here)),
)

pub under_params : (assumed : Assumed) (value under : KeptValue) → IsUnderOf assumed value.params value under → under.params ≡ value.params
under_params Nothing value under is = ap (λ (u : KeptValue). u.params) is
under_params (Where region) value under is = is.params

-- it has an element just where the value has it at an assumed valuation with the same numbers
under_among : (assumed : Assumed) (value under : KeptValue) → IsUnderOf assumed value.params value under
    → AreAmong value.params (Has under) (λ v x. Assumes assumed v × Has value v x)
under_among Nothing value under is v x has = (v, refl, (tt, subst (λ (u : KeptValue). Has u v x) is has))
under_among (Where region) value under is v x has =
    let both = (is.elements v x).0 has in (both.1.0, both.1.1, (both.1.2, has_same value both.1.0 v (sym both.1.1) x both.0))

pub under_alike : (assumed : Assumed) (value under : KeptValue) → IsUnderOf assumed value.params value under
    → AreAlike value.params (Has under) (λ v x. Assumes assumed v × Has value v x)
under_alike assumed value under is = (
  under_among assumed value under is,
  (λ v x has. (v, refl, (under_here assumed value.params value under is v has.0 x).1 has.1)),
)

-- ---- what calls leave
pub operand_in : (g : Gauge) (assumed : Assumed) (names : List Name) (value operand : KeptValue) → narrows assumed ≡ true
    → IsOperandIn g assumed names value operand → IsOperandOf assumed names (unsigned_abs (limit_of g)) value operand
operand_in g Nothing names value operand some is = absurd (let e : false ≡ true = some in cc)
operand_in g (Where region) names value operand some is =
    record { under = is.over; kept = is.kept; numbers = is.numbers; definitions = is.definitions }

-- a value at the valuations that have the same numbers of its parameters as some assumed one
pub operand_made : {E : Type 0} (g : Gauge) (assumed own : Assumed) (value : KeptValue) (result : Result KeptValue E)
    → ((v : Valuation) → Assumes own v ↔ AssumesSome assumed value.params v) → IfOk result IsKeptValue
    → IfOk result (λ u. u.params ≡ value.params)
    → ((v : Valuation) (x : Element) → IfOk result (λ u. Has u v x ↔ (Has value v x × Assumes own v)))
    → (HasNoDefinitions value → IfOk result HasNoDefinitions) → IfOk result (IsWithinLimit g)
    → IfOk result (IsOperandIn g assumed value.params value)
operand_made g assumed own value (Ok u) same kept params elements plain small = record {
  over = record {
    params = params;
    elements = λ v x. (
      (λ h. let both = (elements v x).0 h in (both.0, (same v).0 both.1)),
      (λ h. (elements v x).1 (h.0, (same v).1 h.1)),
    );
  };
  kept = kept;
  numbers = small;
  definitions = plain;
}
operand_made g assumed own value (Err fault) same kept params elements plain small = tt

-- what is assumed of some names depends on these alone
pub over_declared : (names : List Name) (onto : Assumed) → IsOverNames names onto → All (Contains names) (names_of onto)
over_declared names Nothing over = All-nil (Contains names)
over_declared names (Where region) over = subst (λ ns. All (Contains names) ns) (sym over) (All-contains_itself names)

-- ---- over joined parameters
abbrev pub empty_over : List Name → KeptValue
empty_over names = record { params = names; pieces = [] }

-- what is said of a fault is said of the result that is one
pub err_is : {A E : Type 0} (r : Result A E) (P : A → Type 0) (R : E → Type 0) (e : E) → r ≡ Err e → R e → MatchResult r P R
err_is {A} {E} r P R e is h = subst (λ (o : Result A E). MatchResult o P R) (sym is) h

-- a name of the list is among them
among : (names : List Name) (n : Name) → Contains names n → is_among names n ≡ true
among names n there = list_any_at (bytes_eq n) names there.0 n there.1 ((bytes_eq-Decides n _).1 (sym there.2))

module _ (names : List Name) (value empty : KeptValue) (is : empty ≡ empty_over names) (declared : All (Contains names) value.params) where
  pub over_names : joined empty.params value.params ≡ names
  over_names =
      subst (λ (e : KeptValue). joined e.params value.params ≡ names) (sym is)
      (joined-nothing_new names value.params
      (λ i d within. among names (get_or value.params i d) (declared i d within)))

  pub over_fault : (g h : Gauge) (fault : OpFault) → h ≡ g → IsPlainFault (joined empty.params value.params) fault
      → IsFaultBy names g h fault
  over_fault g h op_fault.TooWide same wide = (subst (λ (ns : List Name). most_parameters < length ns) over_names wide, same)
  over_fault g h (op_fault.Cut cut) same ended =
      (inr ended, subst (λ (c : Cut). IsCutBy g h c) (sym ended) (IsCutBy-charged g h (IsCharged_refl g h same)))

  pub over_numbers : (limit : ℕ) → HasNumbersUpTo limit empty
  over_numbers limit = subst (λ (u : KeptValue). HasNumbersUpTo limit u) (sym is) (All-nil (IsPieceUpTo limit))

  over_plain : HasNoDefinitions empty
  over_plain = subst (λ (u : KeptValue). HasNoDefinitions u) (sym is) (All-nil (λ (piece : KeptPiece). piece.definitions ≡ []))

  has_own : (v : Valuation) (x : Element) → Has empty v x ⊎ Has value v x → Has value v x
  has_own v x (inl none) = absurd (Any-none (HasElement names v x) (subst (λ (u : KeptValue). Has u v x) is none))
  has_own v x (inr has) = has

  pub over_operand : (g h : Gauge) (assumed : Assumed) (over under : KeptValue) → h ≡ g → over.params ≡ joined empty.params value.params
      → ((v : Valuation) (x : Element) → Has over v x ↔ (Has empty v x ⊎ Has value v x))
      → (HasNoDefinitions empty → HasNoDefinitions value → HasNoDefinitions over) → IsOperandIn h assumed over.params over under
      → IsOperandIn g assumed names value under
  over_operand g h assumed over under meter params elements plain operand =
      subst (λ (z : Gauge). IsOperandIn z assumed names value under) meter (record {
        over = record {
          params = operand.over.params ∙ same;
          elements = λ v x. (
            (λ has. let both = (operand.over.elements v x).0 has in
                (has_own v x ((elements v x).0 both.0), subst (λ (ns : List Name). AssumesSome assumed ns v) same both.1)),
            (λ both. (operand.over.elements v x).1 (
              (elements v x).1 (inr both.0),
              subst (λ (ns : List Name). AssumesSome assumed ns v) (sym same) both.1,
            )),
          );
        };
        kept = operand.kept;
        numbers = operand.numbers;
        definitions = λ none. operand.definitions (plain over_plain none);
      })
    where
      same : over.params ≡ names
      same = params ∙ over_names

-- what is paid where something is assumed
paid_some : (assumed : Assumed) (g h : Gauge) → narrows assumed ≡ true → IsCharged g h → IsPaid (narrows assumed) g h
paid_some assumed g h some charged = record { charged = charged; free = λ none. absurd (false≢true (sym none ∙ some)) }

module _ {A : Type 0} (of : A → KeptValue) (state : StateView) (here : Assumed) (g h : Gauge) (value one : KeptValue)
    (there : here ≡ state.assumed) (that : one ≡ value) (some : narrows state.assumed ≡ true) where
  abbrev most : ℕ
  most = unsigned_abs (limit_of g)

  -- a new value at assumed valuations, over its own parameters
  pub own_answer : (result : Result A Refusal)
      → MatchResult result (λ a. IsOperandIn g here one.params one (of a) × IsCharged g h) (IsWhyUnmade true CutAlone g h)
      → MatchResult result (λ a. IsOperandOf state.assumed value.params most value (of a) × IsPaid (narrows state.assumed) g h)
      (IsWhyUnmade (narrows state.assumed) (CutUnder state) g h)
  own_answer (Ok a) made = (
    operand_in g state.assumed value.params value (of a) some
        (subst (λ (u : KeptValue). IsOperandIn g state.assumed u.params u (of a)) that
        (subst (λ (z : Assumed). IsOperandIn g z one.params one (of a)) there made.0)),
    paid_some state.assumed g h some made.1,
  )
  own_answer (Err refusal) why = record {
    cut = why.cut;
    is = why.is;
    by = why.by;
    there = inr some;
    free = λ none. absurd (false≢true (sym none ∙ some));
  }

  -- one over joined parameters
  module _ (own names : List Name) (same : own ≡ names) where
    operand_there : (u : KeptValue) → IsOperandIn g here own one u → IsOperandOf state.assumed names most value u
    operand_there u made =
        operand_in g state.assumed names value u some
        (subst (λ (ns : List Name). IsOperandIn g state.assumed ns value u) same
        (subst (λ (w : KeptValue). IsOperandIn g state.assumed own w u) that
        (subst (λ (z : Assumed). IsOperandIn g z own one u) there made)))

    joined_fault : (fault : OpFault) (refusal : Refusal) → refusal ≡ refusal_of_fault fault → IsFaultBy own g h fault
        → IsWhyUnworked (narrows state.assumed) (OperationEnds names ⊥ ⊥) g h refusal
    joined_fault op_fault.TooWide refusal is why =
        inr (
          ends.too_wide,
          is,
          inl (subst (λ (ns : List Name). most_parameters < length ns) same why.0),
          paid_same (narrows state.assumed) g h why.1,
        )
    joined_fault (op_fault.Cut reason) refusal is why =
        subst (λ (ns : List Name). IsWhyUnworked (narrows state.assumed) (OperationEnds ns ⊥ ⊥) g h refusal) same
        (inl (record {
          cut = reason;
          is = is;
          by = why.1;
          there = elim why.0 [
            | inl few ↦ inr (few, λ no. no)
            | inr memory ↦ inl memory
          ];
          free = λ none. absurd (false≢true (sym none ∙ some));
        }))

    pub joined_answer : (outcome : Result KeptValue OpFault) (answer : Result A Refusal) → IsAnswer refusal_of_fault of outcome answer
        → IfOk outcome (IsOperandIn g here own one) → MatchResult outcome (λ _. IsCharged g h) (IsFaultBy own g h)
        → MatchResult answer (λ a. IsOperandOf state.assumed names most value (of a) × IsPaid (narrows state.assumed) g h)
        (IsWhyUnworked (narrows state.assumed) (OperationEnds names ⊥ ⊥) g h)
    joined_answer outcome answer is good units =
        answered_made refusal_of_fault (narrows state.assumed) (IsFaultBy own g h)
        (OperationEnds names ⊥ ⊥) g h joined_fault of outcome answer
        (IsOperandOf state.assumed names most value) is (ok_map outcome _ _ operand_there good)
        (match_map outcome _ _ _ _ (λ u charged. paid_some state.assumed g h some charged) (λ fault why. why) units)

-- ---- tests
-- at every valuation each element of the one is one of the other, just where this is so of the values at assumed ones
pub operands_part : (assumed : Assumed) (names : List Name) (left right one other : KeptValue) → IsUnderOf assumed names left one
    → IsUnderOf assumed names right other → All (Contains names) left.params → All (Contains names) right.params
    → ((v : Valuation) (x : Element) → Has one v x → Has other v x)
    ↔ ((v : Valuation) → Assumes assumed v → (x : Element) → Has left v x → Has right v x)
operands_part assumed names left right one other first second mine theirs = (
  (λ part v here x has. (under_here assumed names right other second v here x).0 (part v x ((under_here assumed names left one first v here
      x).1 has))),
  back assumed first second,
)
  where
    back : (a : Assumed) → IsUnderOf a names left one → IsUnderOf a names right other
        → ((v : Valuation) → Assumes a v → (x : Element) → Has left v x → Has right v x)
        → (v : Valuation) (x : Element) → Has one v x → Has other v x
    back Nothing first second part v x has =
        subst (λ (u : KeptValue). Has u v x) (sym second) (part v tt x (subst (λ (u : KeptValue). Has u v x) first has))
    back (Where region) first second part v x has =
        let both = (first.elements v x).0 has in
        let w = both.1.0 in
        let at_left : Has left w x = has_same left w v (sym (values_same names left.params v w mine both.1.1)) x both.0 in
        (second.elements v x).1 (
          has_same right v w (values_same names right.params v w theirs both.1.1) x
              (part w both.1.2 x at_left),
          both.1,
        )
