-- What is left of several systems, one after another.
use Rattle.std.proofs.Common.{◌≡◌, ◌↔◌, inl, inr, refl, sym, ap, ◌∙◌, arith, subst, ℕ, ◌+◌, ◌<◌, ◌≤◌, ℤ}
use Rattle.std.proofs.Common.{List, [], ◌∷◌, ◌++◌, Any, get_or, length, length-append, take}
use Rattle.std.proofs.lemmas.List.{append-nil, take_more}
use Rattle.std.proofs.lemmas.List.Elements.{All-append}
use Rattle.isl_math.proofs.ListLaws.{All-last, Any-first, Any-left, Any-none, Any-one, Any-parts, Any-right, Any-weaker}
use Rattle.isl_meter.specs.Gauge.{Gauge, IsCharged}
use Rattle.isl_piece.specs.declared.system.System.{System}
use Rattle.isl_piece.specs.System.{HoldsSystem}
use Rattle.isl_difference.specs.Split.{IsLive}
use Rattle.isl_difference.proofs.SplitLaws.{live_kept}
use Rattle.isl_elim.specs.Sample.{IsNowhere}
use Rattle.isl_blocks.specs.Left.{HoldsBefore, IsLeftWithout}
use Rattle.isl_assumed.specs.Left.{AreLeftOf}

abbrev pub IsFlat : System → Type 0
IsFlat = λ (s : System). s.definitions ≡ []

-- one more of the one list, and what is made of it behind the other list
pub any_step : {A B : Type 0} (P : A → Type 0) (Q : B → Type 0) (made more : List A) (done : List B) (x : B) → Any P made ↔ Any Q done
    → Any P more ↔ Q x → Any P (made ++ more) ↔ Any Q (done ++ x ∷ [])
any_step P Q made more done x so_far one = (
  (λ a. elim (Any-parts P made more a) [
    | inl old ↦ Any-left Q done (x ∷ []) (so_far.0 old)
    | inr new ↦ Any-right Q done (x ∷ []) (Any-first Q x [] (one.0 new))
  ]),
  (λ a. elim (Any-parts Q done (x ∷ []) a) [
    | inl old ↦ Any-left P made more (so_far.1 old)
    | inr new ↦ Any-right P made more (one.1 (Any-one Q x new))
  ]),
)

pub taken_more : {A : Type 0} (xs : List A) (i : ℕ) (x : A) → i < length xs → x ≡ get_or xs i x → take (i + 1) xs ≡ take i xs ++ x ∷ []
taken_more xs i x low at = take_more xs i x low ∙ ap (λ y. take i xs ++ y ∷ []) (sym at)

-- something is left of a system that holds somewhere
some_left : (g : Gauge) (s : System) (kept count : ℕ) (left : List System) → IsLeftWithout g s kept count left
    → ¬ IsNowhere kept (HoldsBefore s count) → 1 ≤ length left
some_left g s kept count [] is somewhere =
    absurd (somewhere (λ point long holds. Any-none (λ t. HoldsSystem t point) ((is.points point long).1 holds)))
some_left g s kept count (t ∷ left) is somewhere = omega arith

pub left_more : (g h : Gauge) (kept count : ℕ) (systems : List System) (i : ℕ) (s : System) (left more pushed : List System)
    → i < length systems → s ≡ get_or systems i s → IsCharged g h → pushed ≡ left ++ more → AreLeftOf g kept count (take i systems) left
    → IsLeftWithout h s kept count more → AreLeftOf g kept count (take (i + 1) systems) pushed
left_more g h kept count systems i s left more pushed low at charged is so_far one =
    rw (is, taken_more systems i s low at) (record {
      points = λ point l.
          any_step (λ t. HoldsSystem t point) (λ t. HoldsBefore t count point) left more (take i systems) s (so_far.points point l)
          (one.points point l);
      live = All-append (IsLive g kept) left more so_far.live (λ k d l.
          live_kept g h kept (get_or more k d) (ap (λ (m : Gauge). m.bits) charged.same) (one.live k d l));
      many = λ somewhere.
          let parts = All-last (λ t. ¬ IsNowhere kept (HoldsBefore t count)) (take i systems) s somewhere in
          let old = so_far.many parts.0 in
          let new = some_left h s kept count more one parts.1 in
          let before = length-append (take i systems) (s ∷ []) in
          let behind = length-append left more in
          omega (arith, old, new, before, behind);
      definitions = λ flat.
          let parts = All-last IsFlat (take i systems) s flat in
          All-append IsFlat left more (so_far.definitions parts.0) (one.definitions parts.1);
    })

-- no column is left out
none_behind : (s : System) (point : List ℤ) → HoldsBefore s 0 point ↔ HoldsSystem s point
none_behind s point = (
  (λ h. by h.0 h.1 h.2),
  (λ h. ([], refl, subst (HoldsSystem s) (sym (append-nil point)) h)),
)
  where
    by : (behind : List ℤ) → length behind ≡ 0 → HoldsSystem s (point ++ behind) → HoldsSystem s point
    by [] l h = subst (HoldsSystem s) (append-nil point) h
    by (x ∷ behind) l h = absurd (omega (arith, l))

pub any_behind : (systems : List System) (point : List ℤ)
    → Any (λ s. HoldsBefore s 0 point) systems ↔ Any (λ s. HoldsSystem s point) systems
any_behind systems point = (
  (λ a. Any-weaker (λ s. HoldsBefore s 0 point) (λ s. HoldsSystem s point) (λ s h. (none_behind s point).0 h) systems a),
  (λ a. Any-weaker (λ s. HoldsSystem s point) (λ s. HoldsBefore s 0 point) (λ s h. (none_behind s point).1 h) systems a),
)
