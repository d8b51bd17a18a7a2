-- What ends first, and what goes on.
use Rattle.std.proofs.Common.{◌↔◌, inl, inr, ◌≤◌, List, length, arith}
use Rattle.std.proofs.lemmas.Bool.{cases_lt}
use Rattle.isl_space.specs.Limits.{most_parameters}
use Rattle.isl_space.specs.Name.{Name}
use Rattle.isl_outcome.specs.End.{End, because, cut, too_wide, no_minimum, nested, time_shapes, unbounded, several_times, no_valuation}
use Rattle.isl_outcome.specs.End.{not_assumed}
use Rattle.isl_outcome.specs.End.{NoEnd, GoesOn, FirstEnds, OperationEnds}

-- they end for the same reasons
abbrev pub EndAlike : (End → Type 0) → (End → Type 0) → Type 0
EndAlike A B = (why : End) → A why ↔ B why

pub alike_itself : (A : End → Type 0) → EndAlike A A
alike_itself A why = ((λ h. h), (λ h. h))

pub alike_trans : (A B C : End → Type 0) → EndAlike A B → EndAlike B C → EndAlike A C
alike_trans A B C f g why = ((λ h. (g why).0 ((f why).0 h)), (λ h. (f why).1 ((g why).1 h)))

pub goes_alike : (A B : End → Type 0) → EndAlike A B → GoesOn A → GoesOn B
goes_alike A B same on reason h = on reason ((same (because reason)).1 h)

pub goes_both : (A B : End → Type 0) → GoesOn A → GoesOn B → GoesOn (FirstEnds A B)
goes_both A B a b reason h = by h
  where
    by : FirstEnds A B (because reason) → ⊥
    by (inl k) = a reason k
    by (inr k) = b reason k.1

pub both_go : (A B : End → Type 0) → GoesOn (FirstEnds A B) → GoesOn A × GoesOn B
both_go A B on =
    let a : GoesOn A = λ reason h. on reason (inl h) in
    (a, (λ reason h. on reason (inr (a, h))))

first_from : (A B C D : End → Type 0) → EndAlike A C → EndAlike B D → (why : End) → FirstEnds A B why → FirstEnds C D why
first_from A B C D f g why (inl h) = inl ((f why).0 h)
first_from A B C D f g why (inr h) = inr (goes_alike A C f h.0, (g why).0 h.1)

pub turned_alike : (A B : End → Type 0) → EndAlike A B → EndAlike B A
turned_alike A B f why = let h = f why in (h.1, h.0)

pub first_alike : (A B C D : End → Type 0) → EndAlike A C → EndAlike B D → EndAlike (FirstEnds A B) (FirstEnds C D)
first_alike A B C D f g why = (
  first_from A B C D f g why,
  first_from C D A B (turned_alike A C f) (turned_alike B D g) why,
)

grouped : (A B C : End → Type 0) (why : End) → FirstEnds A (FirstEnds B C) why → FirstEnds (FirstEnds A B) C why
grouped A B C why (inl h) = inl (inl h)
grouped A B C why (inr h) = by h.1
  where
    by : FirstEnds B C why → FirstEnds (FirstEnds A B) C why
    by (inl k) = inl (inr (h.0, k))
    by (inr k) = inr (goes_both A B h.0 k.0, k.1)

parted : (A B C : End → Type 0) (why : End) → FirstEnds (FirstEnds A B) C why → FirstEnds A (FirstEnds B C) why
parted A B C why (inl (inl h)) = inl h
parted A B C why (inl (inr h)) = inr (h.0, inl h.1)
parted A B C why (inr h) = let both = both_go A B h.0 in inr (both.0, inr (both.1, h.1))

pub first_grouped : (A B C : End → Type 0) → EndAlike (FirstEnds A (FirstEnds B C)) (FirstEnds (FirstEnds A B) C)
first_grouped A B C why = (grouped A B C why, parted A B C why)

none_before : (A : End → Type 0) (why : End) → FirstEnds NoEnd A why → A why
none_before A why (inl h) = absurd h
none_before A why (inr h) = h.1

pub nothing_first : (A : End → Type 0) → EndAlike A (FirstEnds NoEnd A)
nothing_first A why = ((λ h. inr ((λ w k. k), h)), none_before A why)

operation_from : (names : List Name) (Wide Other Misses Lacks : Type 0) → Wide ↔ Other → (Misses → Lacks) → (why : End)
    → OperationEnds names Wide Misses why → OperationEnds names Other Lacks why
operation_from names Wide Other Misses Lacks same f (because too_wide) (inl h) = inl h
operation_from names Wide Other Misses Lacks same f (because too_wide) (inr h) = inr (h.0, same.0 h.1)
operation_from names Wide Other Misses Lacks same f (because no_minimum) h = (h.0, (λ other. h.1 (same.1 other)), f h.2)
operation_from names Wide Other Misses Lacks same f (because nested) h = h
operation_from names Wide Other Misses Lacks same f (because time_shapes) h = h
operation_from names Wide Other Misses Lacks same f (because unbounded) h = h
operation_from names Wide Other Misses Lacks same f (because several_times) h = h
operation_from names Wide Other Misses Lacks same f (because no_valuation) h = h
operation_from names Wide Other Misses Lacks same f (because not_assumed) h = h
operation_from names Wide Other Misses Lacks same f cut h = (h.0, (λ other. h.1 (same.1 other)))

pub operation_alike : (names : List Name) (Wide Other Misses Lacks : Type 0) → Wide ↔ Other → Misses ↔ Lacks
    → EndAlike (OperationEnds names Wide Misses) (OperationEnds names Other Lacks)
operation_alike names Wide Other Misses Lacks same missed why = (
  operation_from names Wide Other Misses Lacks same missed.0 why,
  operation_from names Other Wide Lacks Misses (same.1, same.0) missed.1 why,
)

-- its work may be cut where it goes on
pub operation_cut : (names : List Name) (Wide Misses : Type 0) → GoesOn (OperationEnds names Wide Misses)
    → OperationEnds names Wide Misses cut
operation_cut names Wide Misses goes = elim (cases_lt most_parameters (length names)) [
  | inl many ↦ absurd (goes too_wide (inl many))
  | inr few ↦ (few, (λ wide. goes too_wide (inr (few, wide))))
]

pub operation_goes : (names : List Name) (Wide Misses : Type 0) → length names ≤ most_parameters → ¬ Wide → ¬ Misses
    → GoesOn (OperationEnds names Wide Misses)
operation_goes names Wide Misses few narrow found too_wide (inl many) = absurd (omega (arith, many, few))
operation_goes names Wide Misses few narrow found too_wide (inr wide) = narrow wide.1
operation_goes names Wide Misses few narrow found no_minimum h = found h.2
operation_goes names Wide Misses few narrow found nested h = h
operation_goes names Wide Misses few narrow found time_shapes h = h
operation_goes names Wide Misses few narrow found unbounded h = h
operation_goes names Wide Misses few narrow found several_times h = h
operation_goes names Wide Misses few narrow found no_valuation h = h
operation_goes names Wide Misses few narrow found not_assumed h = h
