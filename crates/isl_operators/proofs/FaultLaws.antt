-- Why operations that are made of several calls make no value.
use Rattle.std.proofs.Common.{◌≡◌, ◌⊎◌, ◌<◌, ◌≤◌, ◌^◌, ◌-◌, inl, inr, refl, sym, ap, subst, arith}
use Rattle.std.proofs.Common.{ℕ, Bool, true, List, length}
use Rattle.std.specs.Prelude.{Result, Ok, Err, IfErr, MatchResult, pos, unsigned_abs}
use Rattle.std.proofs.lemmas.Bool.{cases_lt, false≢true}
use Rattle.isl_meter.specs.Gauge.{Gauge, IsCharged, IsCutBy}
use Rattle.isl_meter.specs.declared.Cut.{Cut}
use Rattle.isl_meter.specs.declared.Cut.TheVariants.{NoMemory}
use Rattle.isl_meter.proofs.CutLemmas.{IsCharged_refl, IsCharged_trans, IsCutBy-after, IsCutBy-charged}
use Rattle.isl_space.specs.Limits.{most_parameters}
use Rattle.isl_space.specs.Name.{Name}
use Rattle.isl_union.specs.Fault.{IsChargedFrom, IsFaultBy, IsMeteredAnswer, IsPlainFault}
use Rattle.isl_union.specs.KeptValue.{KeptValue}
use Rattle.isl_union.specs.Numbers.{HasNumbersUpTo, IsWithinLimit}
use Rattle.isl_union.specs.declared.fault.OpFault.{OpFault}
use Rattle.isl_union.specs.declared.fault.OpFault.TheVariants as op_fault
use Rattle.isl_relation.specs.Together.{IsFormedFrom, IsWorkedFrom}
use Rattle.isl_relation.specs.Wide.{IsFormFault, IsFormedFault}
use Rattle.isl_operators.specs.Made.{IsFreeCut, IsPaid, IsWhyNone}

-- ---- the meter
works_always : (g h : Gauge) (cut : Cut) → IsFreeCut true g h cut
works_always g h cut none = absurd (false≢true (sym none))

pub paid : (g h : Gauge) → IsCharged g h → IsPaid true g h
paid g h charged = record { charged = charged; free = λ none. absurd (false≢true (sym none)) }

pub spared : (g h : Gauge) (works : Bool) → h ≡ g → IsPaid works g h
spared g h works same = record { charged = IsCharged_refl g h same; free = λ none. same }

pub at_least_none : (g h : Gauge) → IsCharged g h → IsChargedFrom 0 g h
at_least_none g h charged = let u = charged.units in record { charged = charged; least = omega (arith, u) }

pub charge : (n : ℕ) (g h : Gauge) → IsChargedFrom n g h → IsCharged g h
charge n g h charged = charged.charged

-- ---- what a call leaves whose faults are such
pub without_names : 0 ≤ most_parameters
without_names = omega arith

module _ (names : List Name) (Wide : Type 0) (g h : Gauge) where
  pub form_fault_of_names : ¬ Wide → (fault : OpFault) → IsFaultBy names g h fault → IsFormFault names Wide g h fault
  form_fault_of_names never op_fault.TooWide why = (inl why.0, why.1)
  form_fault_of_names never (op_fault.Cut cut) why = (elim why.0 [ inl few ↦ inl (few, never) | inr memory ↦ inr memory ], why.1)

  pub form_fault_when_wide : Wide → h ≡ g → IsFormFault names Wide g h op_fault.TooWide
  form_fault_when_wide wide same = elim (cases_lt most_parameters (length names)) [
    | inl many ↦ (inl many, same)
    | inr few ↦ (inr (few, wide), same)
  ]

  pub why_worked : (fault : OpFault) → IsFormFault names Wide g h fault → IsWhyNone names Wide true g h fault
  why_worked op_fault.TooWide why = why
  why_worked (op_fault.Cut cut) why = (why, works_always g h cut)

  -- without units
  pub why_memory : (works : Bool) (fault : OpFault) → h ≡ g → fault ≡ op_fault.Cut NoMemory → IsWhyNone names Wide works g h fault
  why_memory works fault same is =
      subst (IsWhyNone names Wide works g h) (sym is)
      ((inr refl, IsCutBy-charged g h (IsCharged_refl g h same)), (λ none. (refl, same)))

  pub why_plain : (works : Bool) (fault : OpFault) → h ≡ g → IsPlainFault names fault → IsWhyNone names Wide works g h fault
  why_plain works op_fault.TooWide same why = (inl why, same)
  why_plain works (op_fault.Cut cut) same why = why_memory works (op_fault.Cut cut) same (ap op_fault.Cut why)

  pub why_copied : (works : Bool) → length names ≤ most_parameters → (Forms : Type 0) → (Forms → Wide) → (fault : OpFault) → h ≡ g
      → IsFormedFault Forms g h fault → IsWhyNone names Wide works g h fault
  why_copied works few Forms wider op_fault.TooWide same why = (inr (few, wider why.0), same)
  why_copied works few Forms wider (op_fault.Cut cut) same why = why_memory works (op_fault.Cut cut) same (ap op_fault.Cut why.0)

-- the same of as many names, and of what is too wide together
pub form_fault_of : (names more : List Name) (Wide Other : Type 0) (g h : Gauge) (fault : OpFault) → length names ≡ length more
    → (Wide → Other) → (¬ Wide → ¬ Other) → IsFormFault names Wide g h fault → IsFormFault more Other g h fault
form_fault_of names more Wide Other g h op_fault.TooWide same wider narrower why = (by why.0, why.1)
  where
    by : (most_parameters < length names) ⊎ ((length names ≤ most_parameters) × Wide)
        → (most_parameters < length more) ⊎ ((length more ≤ most_parameters) × Other)
    by (inl many) = inl (subst (λ (n : ℕ). most_parameters < n) same many)
    by (inr wide) = inr (subst (λ (n : ℕ). n ≤ most_parameters) same wide.0, wider wide.1)
form_fault_of names more Wide Other g h (op_fault.Cut cut) same wider narrower why = (by why.0, why.1)
  where
    by : ((length names ≤ most_parameters) × (¬ Wide)) ⊎ (cut ≡ NoMemory) → ((length more ≤ most_parameters) × (¬ Other)) ⊎ (cut ≡ NoMemory)
    by (inl narrow) = inl (subst (λ (n : ℕ). n ≤ most_parameters) same narrow.0, narrower narrow.1)
    by (inr memory) = inr memory

-- ---- a call behind others, where nothing is too wide
module _ (names : List Name) (Wide : Type 0) (few : length names ≤ most_parameters) (narrow : ¬ Wide) (g h k : Gauge)
    (charged : IsCharged g h) where
  pub later_cut : (cut : Cut) → IsCutBy h k cut → IsFormFault names Wide g k (op_fault.Cut cut)
  later_cut cut why = (inl (few, narrow), IsCutBy-after g h k cut charged why)

  pub later_by_names : (fault : OpFault) → IsFaultBy names h k fault → IsFormFault names Wide g k fault
  later_by_names op_fault.TooWide why = let many = why.0 in absurd (omega (arith, few, many))
  later_by_names (op_fault.Cut cut) why = later_cut cut why.1

  pub later_formed : (Forms : Type 0) → ¬ Forms → (fault : OpFault) → IsFormFault names Forms h k fault → IsFormFault names Wide g k fault
  later_formed Forms never op_fault.TooWide why = absurd (elim why.0 [
    | inl many ↦ omega (arith, few, many)
    | inr wide ↦ never wide.1
  ])
  later_formed Forms never (op_fault.Cut cut) why = later_cut cut why.1

  pub later_plain : (joint : List Name) (fault : OpFault) → joint ≡ names → k ≡ h → IsPlainFault joint fault
      → IsFormFault names Wide g k fault
  later_plain joint op_fault.TooWide is same why =
      let many = subst (λ (l : List Name). most_parameters < length l) is why in absurd (omega (arith, few, many))
  later_plain joint (op_fault.Cut cut) is same why =
      later_cut cut (subst (IsCutBy h k) (sym why) (IsCutBy-charged h k (IsCharged_refl h k same)))

-- ---- numbers
same_bits : (g h : Gauge) → IsCharged g h → h.bits ≡ g.bits
same_bits g h charged = ap (λ (m : Gauge). m.bits) charged.same

pub within_later : (g h : Gauge) (value : KeptValue) → IsCharged g h → IsWithinLimit g value → IsWithinLimit h value
within_later g h value charged within =
    subst (λ (n : ℕ). HasNumbersUpTo (unsigned_abs (pos (2 ^ n - 1))) value) (sym (same_bits g h charged)) within

pub within_before : (g h : Gauge) (value : KeptValue) → IsCharged g h → IsWithinLimit h value → IsWithinLimit g value
within_before g h value charged within =
    subst (λ (n : ℕ). HasNumbersUpTo (unsigned_abs (pos (2 ^ n - 1))) value) (same_bits g h charged) within

-- ---- results
module _ {A : Type 0} (names : List Name) (Wide : Type 0) (g h : Gauge) where
  abbrev pub Ends : Bool → Result A OpFault → Type 0
  Ends works r = MatchResult r (λ _. IsPaid works g h) (IsWhyNone names Wide works g h)

  pub cut_units : length names ≤ most_parameters → ¬ Wide → (r : Result A OpFault) → IsMeteredAnswer g h r → Ends true r
  cut_units few never (Ok made) charged = paid g h charged
  cut_units few never (Err op_fault.TooWide) why = absurd why
  cut_units few never (Err (op_fault.Cut cut)) why = ((inl (few, never), why), works_always g h cut)

  pub worked_units : (n : ℕ) → ¬ Wide → (r : Result A OpFault) → IsWorkedFrom names n g h r → Ends true r
  worked_units n never (Ok made) done = paid g h done.1.charged
  worked_units n never (Err fault) why = why_worked names Wide g h fault (form_fault_of_names names Wide g h never fault why)

  pub formed_units : (Forms Few Charged : Type 0) → (Charged → IsCharged g h) → (Forms → Wide) → (¬ Forms → ¬ Wide) → (r : Result A OpFault)
      → MatchResult r (λ _. Few × (¬ Forms) × Charged) (IsFormFault names Forms g h) → Ends true r
  formed_units Forms Few Charged charges wider narrower (Ok made) done = paid g h (charges done.2)
  formed_units Forms Few Charged charges wider narrower (Err fault) why =
      why_worked names Wide g h fault (form_fault_of names names Forms Wide g h fault refl wider narrower why)

  pub plain_units : (works : Bool) (Few : Type 0) (r : Result A OpFault) → h ≡ g → MatchResult r (λ _. Few) (IsPlainFault names)
      → Ends works r
  plain_units works Few (Ok made) same few = spared g h works same
  plain_units works Few (Err fault) same why = why_plain names Wide g h works fault same why

  pub memory_units : (works : Bool) (r : Result A OpFault) → h ≡ g → IfErr r (λ fault. fault ≡ op_fault.Cut NoMemory) → Ends works r
  memory_units works (Ok made) same why = spared g h works same
  memory_units works (Err fault) same why = why_memory names Wide g h works fault same why

  pub copied_units : (works : Bool) → length names ≤ most_parameters → (Forms : Type 0) → (Forms → Wide) → (r : Result A OpFault) → h ≡ g
      → IfErr r (IsFormedFault Forms g h) → Ends works r
  copied_units works few Forms wider (Ok made) same why = spared g h works same
  copied_units works few Forms wider (Err fault) same why = why_copied names Wide g h works few Forms wider fault same why

-- the last call, behind others, only puts pieces side by side
module _ {A : Type 0} (names : List Name) (Wide : Type 0) (few : length names ≤ most_parameters) (narrow : ¬ Wide) (g h k : Gauge)
    (charged : IsCharged g h) where
  pub last_result : (joint : List Name) (Few : Type 0) (r : Result A OpFault) → joint ≡ names → k ≡ h
      → MatchResult r (λ _. Few) (IsPlainFault joint) → IsFormedFrom names Wide 0 g k r
  last_result joint Few (Ok made) is same done =
      (few, narrow, at_least_none g k (IsCharged_trans g h k charged (IsCharged_refl h k same)))
  last_result joint Few (Err fault) is same why = later_plain names Wide few narrow g h k charged joint fault is same why

-- an operation that forms nothing too wide
pub worked_charged : {A : Type 0} (names : List Name) (g h : Gauge) (r : Result A OpFault)
    → MatchResult r (λ _. (length names ≤ most_parameters) × IsCharged g h) (IsFaultBy names g h) → IsWorkedFrom names 0 g h r
worked_charged names g h (Ok made) done = (done.0, at_least_none g h done.1)
worked_charged names g h (Err fault) why = why

-- and behind others
module _ (names : List Name) (few : length names ≤ most_parameters) (g h k : Gauge) (charged : IsCharged g h) where
  pub fault_by_later : (fault : OpFault) → IsFaultBy names h k fault → IsFaultBy names g k fault
  fault_by_later op_fault.TooWide why = let many = why.0 in absurd (omega (arith, few, many))
  fault_by_later (op_fault.Cut cut) why = (why.0, IsCutBy-after g h k cut charged why.1)

  pub worked_later : {A : Type 0} (joint : List Name) (r : Result A OpFault) → joint ≡ names → IsWorkedFrom joint 0 h k r
      → IsWorkedFrom names 0 g k r
  worked_later joint (Ok made) is done = (few, at_least_none g k (IsCharged_trans g h k charged done.1.charged))
  worked_later joint (Err fault) is why = fault_by_later fault (subst (λ (l : List Name). IsFaultBy l h k fault) is why)

  pub worked_last : {A : Type 0} (joint : List Name) (Few : Type 0) (r : Result A OpFault) → joint ≡ names → k ≡ h
      → MatchResult r (λ _. Few) (IsPlainFault joint) → IsWorkedFrom names 0 g k r
  worked_last joint Few (Ok made) is same done = (few, at_least_none g k (IsCharged_trans g h k charged (IsCharged_refl h k same)))
  worked_last joint Few (Err op_fault.TooWide) is same why =
      let many = subst (λ (l : List Name). most_parameters < length l) is why in absurd (omega (arith, few, many))
  worked_last joint Few (Err (op_fault.Cut cut)) is same why =
      (inl few, IsCutBy-after g h k cut charged (subst (IsCutBy h k) (sym why) (IsCutBy-charged h k (IsCharged_refl h k same))))

-- without a count of units
pub formed_at_least : {A : Type 0} (names : List Name) (Wide : Type 0) (n : ℕ) (g h : Gauge) (r : Result A OpFault)
    → IsFormedFrom names Wide n g h r → IsFormedFrom names Wide 0 g h r
formed_at_least names Wide n g h (Ok made) done = (done.0, done.1, at_least_none g h done.2.charged)
formed_at_least names Wide n g h (Err fault) why = why

-- the same of what is too wide together
pub formed_same : {A : Type 0} (names : List Name) (Wide Other : Type 0) (n : ℕ) (g h : Gauge) (r : Result A OpFault) → (Wide → Other)
    → (¬ Wide → ¬ Other) → IsFormedFrom names Wide n g h r → IsFormedFrom names Other n g h r
formed_same names Wide Other n g h (Ok made) wider narrower done = (done.0, narrower done.1, done.2)
formed_same names Wide Other n g h (Err fault) wider narrower why = form_fault_of names names Wide Other g h fault refl wider narrower why

-- as a call is told that may use units
pub worked_result : {A : Type 0} (names : List Name) (Wide : Type 0) (g h : Gauge) (r : Result A OpFault) → IsFormedFrom names Wide 0 g h r
    → MatchResult r (λ _. IsPaid true g h) (IsWhyNone names Wide true g h)
worked_result names Wide g h (Ok made) done = paid g h done.2.charged
worked_result names Wide g h (Err fault) why = why_worked names Wide g h fault why
