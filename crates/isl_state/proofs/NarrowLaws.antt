-- What is left of what is bound, when the assumed valuations are narrowed.
use Rattle.std.proofs.Common.{◌≡◌, ◌∙◌, ◌<◌, ◌≤◌, ◌+◌, ◌-◌, ◌^◌, ℕ, ℤ, pos, true, List}
use Rattle.std.proofs.Common.{length, map, Some, sym, ap, subst, arith, inl, inr, pow_mono, pow_pos, pow-add}
use Rattle.std.specs.Prelude.{unsigned_abs, Result, Err, MatchResult}
use Rattle.std.specs.List.{All, IsDistinct}
use Rattle.std.specs.Str.{bytes_eq}
use Rattle.std.proofs.lemmas.Bool.{cases_lt}
use Rattle.isl_meter.specs.Gauge.{Gauge, limit_of, IsCharged}
use Rattle.isl_space.specs.Name.{Name}
use Rattle.isl_assumed.specs.declared.assumed.Assumed.{Assumed}
use Rattle.isl_assumed.specs.Assumed.{names_of, IsPlain, IsSound}
use Rattle.isl_assumed.proofs.MeterLaws.{sound_kept}
use Rattle.isl_union.specs.KeptValue.{KeptValue, HasNoDefinitions}
use Rattle.isl_tree.specs.declared.statement.ValueKind.{ValueKind}
use Rattle.isl_state.specs.declared.list.ListPart.{ListPart}
use Rattle.isl_state.specs.declared.list.ListPart.TheVariants.{First, Second}
use Rattle.isl_state.specs.Live.{IsLivePartOf}
use Rattle.isl_state.specs.State.{Kept, StateView, value_at, AreLeftOf, Fits, HasNumbersUpTo, NarrowingEnds}
use Rattle.isl_state.specs.Stored.{IsPlainKept}
use Rattle.isl_state.proofs.LiveLaws.{part_live, part_numbers, part_plain}
use Rattle.isl_refusal.specs.declared.refusal.Refusal.{Refusal}
use Rattle.isl_space.specs.Limits.{most_parameters}
use Rattle.isl_space.specs.Names.{joined}
use Rattle.isl_space.specs.Valuation.{Valuation}
use Rattle.isl_outcome.specs.End.{because, cut, too_wide, CutAlone, End, GoesOn}
use Rattle.isl_outcome.specs.Why.{IsWhyUnmade, IsWhyUnworked}
use Rattle.isl_outcome.proofs.PaidLaws.{same_limit, paid_works, unmade_after}
use Rattle.isl_state.proofs.LeftLaws.{every_entry, name_of}
pub use Rattle.isl_state.proofs.LeftLaws.{left_lookup}

-- a call that is cut behind what units were used for
pub left_refused : {A : Type 0} (result : Result A Refusal) (P : A → Type 0) (g h k : Gauge) (refusal : Refusal) → result ≡ Err refusal
    → IsCharged g h → IsWhyUnmade true CutAlone h k refusal → MatchResult result P (IsWhyUnmade true CutAlone g k)
left_refused {A} result P g h k refusal is charged why =
    subst (λ (r : Result A Refusal). MatchResult r P (IsWhyUnmade true CutAlone g k)) (sym is)
    (unmade_after true true true CutAlone CutAlone g h k refusal (λ none. absurd (let no : ⊥ = cc in no)) (λ end there. there)
    (paid_works g h charged) why)

-- what is left of a list keeps what a list does
pub left_plain : (assumed : Assumed) (kept : Kept) (kind : ValueKind) (a b first second : KeptValue) → a ≡ value_at First kept
    → b ≡ value_at Second kept → IsLivePartOf assumed a first → IsLivePartOf assumed b second → HasNoDefinitions (value_at First kept)
    → HasNoDefinitions (value_at Second kept) → (value_at Second kept).params ≡ kept.value.params
    → IsPlainKept (record { kind = kind; value = first; second = Some second })
left_plain assumed kept kind a b first second one other is_first is_second plain plain_second params = record {
  definitions = by;
  params = is_second.params ∙ ap (λ (v : KeptValue). v.params) other ∙ params
      ∙ sym (is_first.params ∙ ap (λ (v : KeptValue). v.params) one);
}
  where
    by : (part : ListPart) → HasNoDefinitions (value_at part (record { kind = kind; value = first; second = Some second }))
    by First = part_plain assumed a first is_first (subst HasNoDefinitions (sym one) plain)
    by Second = part_plain assumed b second is_second (subst HasNoDefinitions (sym other) plain_second)

-- ---- what is bound then
module _ (limit : ℤ) (before after : StateView) (are : AreLeftOf after.assumed before.bound after.bound) (fits : Fits limit before) where
  pub fits_narrowed : IsPlain after.assumed → ((g : Gauge) → limit_of g ≡ limit → IsSound g after.assumed) → Fits limit after
  fits_narrowed plain sound = record {
    numbers = λ name kept is part.
        let old = left_lookup after.assumed name kept before.bound after.bound are is in
        part_numbers after.assumed (unsigned_abs limit) (value_at part old.0) (value_at part kept) (old.2.values part)
        (fits.numbers name old.0 old.1 part);
    live = λ name kept is part.
        let old = left_lookup after.assumed name kept before.bound after.bound are is in
        part_live after.assumed (value_at part old.0) (value_at part kept) (old.2.values part);
    sound = sound;
    plain = plain;
  }

-- the limit tells the bits
pub same_limits : (a b : ℕ) → pos (2 ^ a - 1) ≡ pos (2 ^ b - 1) → a ≡ b
same_limits a b is = elim (cases_lt a b) [
  | inl less ↦ absurd (apart a b less (inside is))
  | inr other ↦ elim (cases_lt b a) [
    | inl less ↦ absurd (apart b a less (sym (inside is)))
    | inr more ↦ omega (arith, other, more)
  ]
]
  where
    inside : {m n : ℕ} → pos m ≡ pos n → m ≡ n
    inside same = cc

    apart : (m n : ℕ) → m < n → ¬ (2 ^ m - 1 ≡ 2 ^ n - 1)
    apart m n less same =
        let next : 2 ^ (m + 1) ≤ 2 ^ n = pow_mono (omega (arith, less)) in
        let double = pow-add 2 m 1 in
        let some = pow_pos m in
        omega (arith, next, double, some, same)

pub sound_at : (g : Gauge) (assumed : Assumed) → IsSound g assumed → (h : Gauge) → limit_of h ≡ limit_of g → IsSound h assumed
sound_at g assumed sound h same = sound_kept h g assumed (same_limits g.bits h.bits (sym same)) sound

-- ---- a narrowing
-- what is bound has no number above the limit, whatever units were used
pub numbers_bound : (g h : Gauge) (before : StateView) → IsCharged g h → IsDistinct bytes_eq (map name_of before.bound)
    → Fits (limit_of g) before
    → All (λ entry. (part : ListPart) → HasNumbersUpTo (unsigned_abs (limit_of h)) (value_at part entry.1)) before.bound
numbers_bound g h before charged distinct fits =
    subst (λ (z : ℤ). All (λ entry. (part : ListPart) → HasNumbersUpTo (unsigned_abs z) (value_at part entry.1)) before.bound)
    (sym (same_limit g h charged))
    (every_entry (λ kept. (part : ListPart) → HasNumbersUpTo (unsigned_abs (limit_of g)) (value_at part kept)) before.bound distinct
    fits.numbers)

-- where it goes on its work may be cut
narrowing_cut : (assumed : Assumed) (names : List Name) (P : Valuation → Type 0) → GoesOn (NarrowingEnds assumed names P) → (end : End)
    → CutAlone end → NarrowingEnds assumed names P end
narrowing_cut assumed names P goes (because reason) there = absurd there
narrowing_cut assumed names P goes cut there = elim (cases_lt most_parameters (length (joined (names_of assumed) names))) [
  | inl wide ↦ absurd (goes too_wide wide)
  | inr within ↦ omega (arith, within)
]

-- a cut behind it
pub narrow_refused : {A : Type 0} (result : Result A Refusal) (Q : A → Type 0) (assumed own : Assumed) (names : List Name)
    (P : Valuation → Type 0) (g h k : Gauge) (refusal : Refusal) → result ≡ Err refusal → assumed ≡ own
    → GoesOn (NarrowingEnds assumed names P) → IsCharged g h → IsWhyUnmade true CutAlone h k refusal
    → MatchResult result Q (IsWhyUnworked true (NarrowingEnds own names P) g k)
narrow_refused {A} result Q assumed own names P g h k refusal is same goes charged why =
    subst (λ (r : Result A Refusal). MatchResult r Q (IsWhyUnworked true (NarrowingEnds own names P) g k)) (sym is)
    (inl (unmade_after true true true CutAlone (NarrowingEnds own names P) g h k refusal (λ none. absurd (let no : ⊥ = cc in no))
    (narrowing_cut own names P (subst (λ (a : Assumed). GoesOn (NarrowingEnds a names P)) same goes)) (paid_works g h charged) why))
