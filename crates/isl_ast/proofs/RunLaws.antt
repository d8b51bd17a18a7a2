-- One part of a run after another.
use Rattle.std.proofs.Common.{◌≡◌, ◌∙◌, refl, sym, ap, arith, ℕ, ◌+◌, ◌<◌, ◌≤◌, Bool, true, false, List, [], ◌∷◌, ◌++◌, append_assoc, subst}
use Rattle.std.proofs.lemmas.Bool.{false≢true}
use Rattle.std.proofs.lemmas.List.{append-nil}
use Rattle.isl_meter.specs.Gauge.{Gauge, IsCharged, overflown, spent_out}
use Rattle.isl_meter.specs.declared.Cut.{Cut}
use Rattle.isl_meter.specs.declared.Cut.TheVariants.{Overflow, Budget, NoMemory}
use Rattle.isl_meter.proofs.CutLemmas.{IsCharged_refl, IsCharged_trans, IsCutBy-after, IsCutBy-charged, IsCutBy-overflown}
use Rattle.isl_meter.proofs.CutLemmas.{IsCutBy-spent_out}
use Rattle.isl_loop.specs.Run.{Event}
use Rattle.isl_ast.specs.Called.{AreCalled}
use Rattle.isl_ast.specs.Run.{charged, IsEnded, IsSoFar}

is_overflow : Cut → Bool
is_overflow Overflow = true
is_overflow Budget = false
is_overflow NoMemory = false

is_budget : Cut → Bool
is_budget Overflow = false
is_budget Budget = true
is_budget NoMemory = false

-- ---- cuts
pub ended-overflown : (g h : Gauge) (units : ℕ) (P : Type 0) → P → h ≡ overflown g → IsEnded g h units P Overflow
unfolding is_budget
ended-overflown g h units P p e = record {
  by = IsCutBy-overflown g h e;
  overflow = λ _. p;
  budget = λ b. absurd (false≢true (ap is_budget b));
}

pub ended-memory : (g h : Gauge) (units : ℕ) (P : Type 0) → IsCharged g h → IsEnded g h units P NoMemory
unfolding is_budget is_overflow
ended-memory g h units P c = record {
  by = IsCutBy-charged g h c;
  overflow = λ o. absurd (false≢true (ap is_overflow o));
  budget = λ b. absurd (false≢true (ap is_budget b));
}

pub ended-spent : (g h : Gauge) (units : ℕ) (P : Type 0) → g.units ≡ g.budget → h ≡ spent_out g → 0 < units → IsEnded g h units P Budget
unfolding is_overflow
ended-spent g h units P all e some = record {
  by = IsCutBy-spent_out g h all e;
  overflow = λ o. absurd (false≢true (ap is_overflow o));
  budget = λ b. omega (arith, all, some);
}

pub ended-weaker : (g h : Gauge) (units whole : ℕ) (P Q : Type 0) (cut : Cut) → IsEnded g h units P cut → units ≤ whole → (P → Q)
    → IsEnded g h whole Q cut
ended-weaker g h units whole P Q cut e most f = record {
  by = e.by;
  overflow = λ o. f (e.overflow o);
  budget = λ b. let less = e.budget b in omega (arith, less, most);
}

pub charged_is : (g h : Gauge) (units : ℕ) → h ≡ charged g units → IsCharged g h
charged_is g h units e = rw e (record { same = refl; units = omega arith })

-- ---- calls that were taken, and more
called-append : {S : Type 0} (Called : S → Event → S → Type 0) (before now after : S) (done calls : List Event)
    → AreCalled Called before done now → AreCalled Called now calls after → AreCalled Called before (done ++ calls) after
called-append Called before now after [] calls p q = subst (λ s. AreCalled Called s calls after) p q
called-append Called before now after (call ∷ done) calls p q =
    (p.0, p.1, called-append Called p.0 now after done calls p.2 q)

-- ---- what is done, and what is left
pub so_far-start : {S : Type 0} (Called : S → Event → S → Type 0) (g h : Gauge) (before now : S) (all : List Event) (whole : ℕ) (P : Type 0)
    → h ≡ g → now ≡ before → IsSoFar Called g h before now all all whole whole P P
so_far-start Called g h before now all whole P same none = record {
  done = [];
  called = none;
  calls = refl;
  charged = IsCharged_refl g h same;
  units = ap (λ (m : Gauge). m.units + whole) same;
  passes = λ p. p;
}

pub so_far-more : {S : Type 0} (Called : S → Event → S → Type 0) (g h k : Gauge) (before now next : S) (calls more all : List Event)
    (units left whole : ℕ) (P R Q : Type 0)
    → IsSoFar Called g h before now (calls ++ more) all (units + left) whole P Q → k ≡ charged h units → AreCalled Called now calls next
    → (R → P) → IsSoFar Called g k before next more all left whole R Q
so_far-more Called g h k before now next calls more all units left whole P R Q s step longer later = record {
  done = s.done ++ calls;
  called = called-append Called before now next s.done calls s.called longer;
  calls = append_assoc s.done calls more ∙ s.calls;
  charged = IsCharged_trans g h k s.charged (charged_is h k units step);
  units = let e = ap (λ (m : Gauge). m.units) step in let u = s.units in omega (arith, e, u);
  passes = λ r. s.passes (later r);
}

pub so_far-end : {S : Type 0} (Called : S → Event → S → Type 0) (g h : Gauge) (before now : S) (all : List Event) (whole : ℕ) (P Q : Type 0)
    → IsSoFar Called g h before now [] all 0 whole P Q → AreCalled Called before all now × (h ≡ charged g whole)
so_far-end Called g h before now all whole P Q s = (
  subst (λ es. AreCalled Called before es now) (sym (append-nil s.done) ∙ s.calls) s.called,
  s.charged.same ∙ ap (λ (n : ℕ). record g { units = n }) (let u = s.units in omega (arith, u)),
)

pub so_far-ended : {S : Type 0} (Called : S → Event → S → Type 0) (g h k : Gauge) (before now : S) (more all : List Event)
    (units left whole : ℕ) (P R Q : Type 0) (cut : Cut)
    → IsSoFar Called g h before now more all left whole P Q → IsEnded h k units R cut → units ≤ left → (R → P) → IsEnded g k whole Q cut
so_far-ended Called g h k before now more all units left whole P R Q cut s e most f = record {
  by = IsCutBy-after g h k cut s.charged e.by;
  overflow = λ o. s.passes (f (e.overflow o));
  budget = λ b.
      let less = e.budget b in
      let u = s.units in
      let w = ap (λ (m : Gauge). m.budget) s.charged.same in
      omega (arith, less, u, w, most);
}
