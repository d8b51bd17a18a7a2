-- Points that are looked for in one system after another, on one side of a form after the other.
use Rattle.std.proofs.Common.{◌≡◌, ◌≢◌, ◌↔◌, ◌∙◌, inl, inr, refl, sym, ap, subst, arith, ℕ, ◌+◌, ◌<◌, ◌≤◌, ◌^◌, unsigned_abs, ℤ, pos}
use Rattle.std.proofs.Common.{Option, Some, None, MatchOption, List, [], ◌∷◌, ◌++◌, length, get_or, take}
use Rattle.std.specs.List.{All, Any}
use Rattle.std.proofs.lemmas.List.{take_all, take_more}
use Rattle.std.proofs.lemmas.List.Elements.{All-cons, All-head, All-nil, All-weaker}
use Rattle.isl_math.proofs.ListLaws.{Any-none, Any-one, Any-parts, Any-weaker}
use Rattle.isl_meter.specs.Gauge.{Gauge, IsWithin}
use Rattle.isl_piece.specs.declared.row.Row.{Row}
use Rattle.isl_piece.specs.declared.row.RowKind.{RowKind}
use Rattle.isl_piece.specs.declared.row.RowKind.TheVariants.{Zero}
use Rattle.isl_piece.specs.declared.system.System.{System}
use Rattle.isl_piece.specs.Row.{HoldsRow, HoldsValue, IsRowWithin, IsWellFormed, value_at}
use Rattle.isl_piece.specs.System.{HoldsSystem, IsSystemWithin}
use Rattle.isl_piece.proofs.ContentLaws.{zero_cases}
use Rattle.isl_piece.proofs.FormedLaws.{system_within_kept}
use Rattle.isl_elim.specs.Elimination.{HoldsAtAny}
use Rattle.isl_elim.specs.Sample.{IsNowhere, IsSample}
use Rattle.isl_span.specs.Points.{IsOver, IsPoint}

-- ---- later meters
pub sample_kept : (g h : Gauge) (n : ℕ) (P : List ℤ → Type 0) (point : List ℤ) → h.bits ≡ g.bits → IsSample h n P point
    → IsSample g n P point
sample_kept g h n P point same s = record {
  width = s.width;
  within = All-weaker (IsWithin h) (IsWithin g) (λ z w. subst (λ (b : ℕ). unsigned_abs z < 2 ^ b) same w) point s.within;
  holds = s.holds;
}

pub sample_of : (g : Gauge) (n m : ℕ) (P Q : List ℤ → Type 0) (point : List ℤ) → n ≡ m → (length point ≡ m → P point → Q point)
    → IsSample g n P point → IsSample g m Q point
sample_of g n m P Q point same f s = record { width = s.width ∙ same; within = s.within; holds = f (s.width ∙ same) s.holds }

pub nowhere_of : (n m : ℕ) (P Q : List ℤ → Type 0) → n ≡ m → ((point : List ℤ) → length point ≡ m → Q point → P point) → IsNowhere n P
    → IsNowhere m Q
nowhere_of n m P Q same f none point long holds = none point (long ∙ sym same) (f point long holds)

pub over_later : (g h : Gauge) (n : ℕ) (s : System) → h.bits ≡ g.bits → IsOver g n s → IsOver h n s
over_later g h n s same o = record { free = o.free; within = system_within_kept h g s (sym same) o.within }

pub all_over_later : (g h : Gauge) (n : ℕ) (systems : List System) → h.bits ≡ g.bits → All (IsOver g n) systems → All (IsOver h n) systems
all_over_later g h n systems same all = All-weaker (IsOver g n) (IsOver h n) (λ s o. over_later g h n s same o) systems all

-- ---- one of several after another
module _ {X : Type 0} (P : X → List ℤ → Type 0) (n : ℕ) (xs : List X) where
  pub nowhere_first : IsNowhere n (λ point. Any (λ x. P x point) (take 0 xs))
  nowhere_first point long any = Any-none (λ x. P x point) any

  pub nowhere_all : (i : ℕ) → length xs ≤ i → IsNowhere n (λ point. Any (λ x. P x point) (take i xs))
      → IsNowhere n (λ point. Any (λ x. P x point) xs)
  nowhere_all i over none = subst (λ (l : List X). IsNowhere n (λ point. Any (λ x. P x point) l)) (take_all i xs over) none

  module _ (i : ℕ) (x : X) (low : i < length xs) (at : x ≡ get_or xs i x) where
    more_are : take (i + 1) xs ≡ take i xs ++ x ∷ []
    more_are = take_more xs i x low ∙ ap (λ y. take i xs ++ y ∷ []) (sym at)

    pub nowhere_more : IsNowhere n (λ point. Any (λ x. P x point) (take i xs)) → IsNowhere n (P x)
        → IsNowhere n (λ point. Any (λ x. P x point) (take (i + 1) xs))
    nowhere_more so_far here = rw more_are (λ point long any. elim (Any-parts (λ x. P x point) (take i xs) (x ∷ []) any) [
      | inl a ↦ so_far point long a
      | inr b ↦ here point long (Any-one (λ x. P x point) x b)
    ])

    pub found_at : (g : Gauge) (point : List ℤ) → IsSample g n (P x) point → IsSample g n (λ point. Any (λ x. P x point) xs) point
    found_at g point s = record { width = s.width; within = s.within; holds = (i, x, low, sym at, s.holds) }

-- what was found, of another property that is the same
pub found_of : {X : Type 0} (items : X → List ℤ) (g : Gauge) (n m : ℕ) (P Q : List ℤ → Type 0) → n ≡ m
    → ((point : List ℤ) → length point ≡ m → P point ↔ Q point)
    → (found : Option X) → MatchOption found (IsNowhere n P) (λ x. IsSample g n P (items x))
    → MatchOption found (IsNowhere m Q) (λ x. IsSample g m Q (items x))
found_of items g n m P Q same f None none = nowhere_of n m P Q same (λ point long h. (f point long).1 h) none
found_of items g n m P Q same f (Some x) s = sample_of g n m P Q (items x) same (λ long h. (f (items x) long).0 h) s

pub nothing : {X : Type 0} (found : Option X) (A : Type 0) (B : X → Type 0) → ((x : X) → ¬ (found ≡ Some x)) → MatchOption found A B → A
nothing None A B other h = h
nothing (Some x) A B other h = absurd (other x refl)

-- ---- a system and a row
pub only_within : (g : Gauge) (n : ℕ) (r : Row) → IsWellFormed n r → IsRowWithin g r
    → IsSystemWithin g (let s : System = record { columns = n; definitions = []; rows = r ∷ [] } in s)
only_within g n r formed within = record {
  rows = All-cons (IsWellFormed n) r [] formed (All-nil (IsWellFormed n));
  within = All-cons (IsRowWithin g) r [] within (All-nil (IsRowWithin g));
  count = omega arith;
  definitions = tt;
}

pub both_hold : (n : ℕ) (system both : System) (r : Row) (point : List ℤ)
    → HoldsSystem both point
    ↔ (HoldsSystem system point × HoldsSystem (let s : System = record { columns = n; definitions = []; rows = r ∷ [] } in s) point)
    → HoldsSystem both point ↔ (HoldsSystem system point × HoldsRow r point)
both_hold n system both r point same = (
  (λ h. let p = same.0 h in (p.0, All-head (λ o. HoldsRow o point) r [] p.1)),
  (λ h. same.1 (h.0, All-cons (λ o. HoldsRow o point) r [] h.1 (All-nil (λ o. HoldsRow o point)))),
)

-- ---- both sides of a form
abbrev pub HoldsBeside : System → Row → List ℤ → Type 0
HoldsBeside s r point = HoldsSystem s point × HoldsRow r point

module _ (form : Row) (is : form.kind ≡ Zero) (sides : List Row)
    (negated : (point : List ℤ) → Any (λ r. HoldsRow r point) sides ↔ (¬ HoldsRow form point)) (systems : List System) where
  abbrev IsOff : List ℤ → Type 0
  IsOff point = Any (λ s. Any (λ r. HoldsBeside s r point) sides) systems

  form_zero : (point : List ℤ) → HoldsRow form point ↔ (value_at form point ≡ pos 0)
  form_zero point = (
    (λ h. subst (λ (kind : RowKind). HoldsValue kind form.k (value_at form point)) is h),
    (λ z. subst (λ (kind : RowKind). HoldsValue kind form.k (value_at form point)) (sym is) z),
  )

  pub off_point : (point : List ℤ) → IsOff point → HoldsAtAny systems point × (value_at form point ≢ pos 0)
  off_point point any = (
    Any-weaker (λ s. Any (λ r. HoldsBeside s r point) sides) (λ s. HoldsSystem s point) (λ s sides_hold. sides_hold.4.0) systems any,
    (λ zero.
        let side = any.4 in
        (negated point).0 (Any-weaker (λ r. HoldsBeside any.1 r point) (λ r. HoldsRow r point) (λ r h. h.1) sides side)
        ((form_zero point).1 zero)),
  )

  pub zero_everywhere : (n : ℕ) → IsNowhere n IsOff → (point : List ℤ) → IsPoint n systems point → value_at form point ≡ pos 0
  zero_everywhere n none point at = elim (zero_cases (value_at form point)) [
    | inl zero ↦ zero
    | inr other ↦ absurd (none point at.long (Any-weaker (λ s. HoldsSystem s point) (λ s. Any (λ r. HoldsBeside s r point) sides)
        (λ s holds. Any-weaker (λ r. HoldsRow r point) (λ r. HoldsBeside s r point) (λ r h. (holds, h)) sides
        ((negated point).1 (λ h. other ((form_zero point).0 h)))) systems at.holds))
  ]

  pub off_found : {X : Type 0} (items : X → List ℤ) (g : Gauge) (n : ℕ) (found : Option X)
      → MatchOption found (IsNowhere n IsOff) (λ x. IsSample g n IsOff (items x))
      → MatchOption found ((point : List ℤ) → IsPoint n systems point → value_at form point ≡ pos 0)
      (λ x. IsSample g n (λ q. HoldsAtAny systems q × (value_at form q ≢ pos 0)) (items x))
  off_found items g n None none = zero_everywhere n none
  off_found items g n (Some x) s = record { width = s.width; within = s.within; holds = off_point (items x) s.holds }
