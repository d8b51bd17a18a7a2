use Rattle.std.proofs.Common.{◌≡◌, ◌↔◌, ◌∙◌, ◌+◌, ◌≤◌, ◌∷◌, [], ap, arith, refl, subst, sym, IsTrue, ℕ, true, false}
use Rattle.std.proofs.lemmas.Grind.{common_steps}
use Rattle.std.proofs.lemmas.Result.{err_from_is_err_and}
use Rattle.isl_meter.specs.Gauge.{Gauge}
use Rattle.isl_piece.proofs.RowMagnitudes.{row_within_kept}
use Rattle.isl_meter.proofs.CutLemmas.{IsCharged_refl}
use Rattle.isl_piece.specs.Row.{IsWellFormed}
use Rattle.isl_ledger.specs.Difference.{HasDifferenceRows}
use Rattle.isl_difference.proofs.TameLaws.{tame_cut, tame_memory, tame_ok}
use Rattle.isl_span.specs.Chain.{IsUnit, IsZeroOn}
use Rattle.isl_span.specs.Points.{IsOver, IsPoint}
use Rattle.isl_span.specs.Work.{test_units}
use Rattle.isl_span.proofs.CallLaws.{last_equation, no_unit, not_zero_on}
use Rattle.isl_span.proofs.last.equation_by.Goals as goal

pub get-requires : goal.get-requires
get-requires c = let wide = c.requires.formed.width in omega (arith, wide)

pub returns-then-not-is_unit-clause-exact : goal.returns-then-not-is_unit-clause-exact
returns-then-not-is_unit-clause-exact c =
    let no : c.is_unit.result ≡ false = grind (arith, common_steps) in
    no_unit c.args.last (IsPoint (c.args.last + 1) (c.args.system.now ∷ [])) c.args.row.now c.is_unit.result c.get.result c.is_unit.ensures
    c.get.ensures no

pub is_zero_on-requires-clause-over : goal.is_zero_on-requires-clause-over
is_zero_on-requires-clause-over c =
    let wide : c.len.result ≡ c.args.last + 1 = c.len.ensures ∙ c.requires.formed.width in
    subst (λ (n : ℕ). IsOver c.args.meter.now n c.args.system.now) (sym wide) c.requires.over

pub is_zero_on-requires-clause-formed : goal.is_zero_on-requires-clause-formed
is_zero_on-requires-clause-formed c =
    let wide : c.len.result ≡ c.args.last + 1 = c.len.ensures ∙ c.requires.formed.width in
    subst (λ (n : ℕ). IsWellFormed n c.args.row.now) (sym wide) c.requires.formed

pub returns-then-not-branch-clause-exact : goal.returns-then-not-branch-clause-exact
returns-then-not-branch-clause-exact c =
    let zero = c.in_ok-is_zero_on.field-0 in
    let off : zero ≡ false = grind (arith, common_steps) in
    let wide : c.len.result ≡ c.args.last + 1 = c.len.ensures ∙ c.requires.formed.width in
    let told = subst (λ (n : ℕ). IsTrue zero ↔ IsZeroOn (IsPoint n (c.args.system.now ∷ [])) c.args.row.now) wide
    c.in_ok-is_zero_on.ensures.exact in
    not_zero_on c.args.last (IsPoint (c.args.last + 1) (c.args.system.now ∷ [])) c.args.row.now zero told off

pub as_equation-requires-clause-within : goal.as_equation-requires-clause-within
as_equation-requires-clause-within c =
    row_within_kept c.is_zero_on.new.meter c.args.meter.now c.args.row.now
    (sym (ap (λ (x : Gauge). x.bits) c.in_ok-is_zero_on.ensures.meter.same)) c.requires.within

pub as_equation-requires-clause-unit : goal.as_equation-requires-clause-unit
as_equation-requires-clause-unit c =
    let sure : c.is_unit.result ≡ true = grind (arith, common_steps) in
    subst IsUnit c.get.ensures (c.is_unit.ensures.0 sure)

pub returns-clause-exact : goal.returns-clause-exact
returns-clause-exact c =
    let zero = c.in_ok-is_zero_on.field-0 in
    let sure : zero ≡ true = grind (arith, common_steps) in
    let wide : c.len.result ≡ c.args.last + 1 = c.len.ensures ∙ c.requires.formed.width in
    let told = subst (λ (n : ℕ). IsTrue zero ↔ IsZeroOn (IsPoint n (c.args.system.now ∷ [])) c.args.row.now) wide
    c.in_ok-is_zero_on.ensures.exact in
    last_equation c.args.last (IsPoint (c.args.last + 1) (c.args.system.now ∷ [])) c.args.row.now c.args.meter.now c.is_zero_on.new.meter
    c.in_ok-form.form (ap (λ (x : Gauge). x.bits) c.in_ok-is_zero_on.ensures.meter.same) c.in_ok-form.ensures
    (told.0 sure)

-- ---- of difference constraints
pub returns-then-not-is_unit-clause-tame : goal.returns-then-not-is_unit-clause-tame
returns-then-not-is_unit-clause-tame c = λ bits limit room d r.
    tame_ok (test_units (c.args.last + 1)) c.args.meter.now c.args.meter.now _ _ (omega arith) tt

pub returns-in_err-is_zero_on-clause-tame : goal.returns-in_err-is_zero_on-clause-tame
returns-in_err-is_zero_on-clause-tame c = λ bits limit room d r.
    let n = c.args.last + 1 in
    let g = c.args.meter.now in
    let wide : c.len.result ≡ n = c.len.ensures ∙ c.requires.formed.width in
    let narrow : bits + 1 + c.len.result ≤ 120 = omega (arith, room, wide) in
    let own = subst (λ (k : ℕ). HasDifferenceRows k bits c.args.system.now) (sym wide) d in
    let p = err_from_is_err_and c.from_residual.result c.from_residual.ensures.1 in
    rw (p.1, p.2) (tame_cut 0 (test_units c.len.result) (test_units n) g g c.is_zero_on.new.meter _ _ c.in_err-is_zero_on.field-0.0
    (IsCharged_refl g g refl) (omega arith) (subst (λ (k : ℕ). 0 + test_units c.len.result ≤ test_units k) wide (omega arith))
    (c.in_err-is_zero_on.ensures.tame bits limit narrow own r))

pub returns-then-not-branch-clause-tame : goal.returns-then-not-branch-clause-tame
returns-then-not-branch-clause-tame c = λ bits limit room d r.
    let n = c.args.last + 1 in
    let g = c.args.meter.now in
    let wide : c.len.result ≡ n = c.len.ensures ∙ c.requires.formed.width in
    let narrow : bits + 1 + c.len.result ≤ 120 = omega (arith, room, wide) in
    let own = subst (λ (k : ℕ). HasDifferenceRows k bits c.args.system.now) (sym wide) d in
    let asked = c.in_ok-is_zero_on.ensures.tame bits limit narrow own r in
    let used = subst (λ (k : ℕ). c.is_zero_on.new.meter.units ≤ g.units + test_units k) wide asked.within.units in
    tame_ok (test_units n) g c.is_zero_on.new.meter _ _ used tt

pub returns-in_err-form-clause-tame : goal.returns-in_err-form-clause-tame
returns-in_err-form-clause-tame c = λ bits limit room d r.
    let n = c.args.last + 1 in
    let g = c.args.meter.now in
    let wide : c.len.result ≡ n = c.len.ensures ∙ c.requires.formed.width in
    let narrow : bits + 1 + c.len.result ≤ 120 = omega (arith, room, wide) in
    let own = subst (λ (k : ℕ). HasDifferenceRows k bits c.args.system.now) (sym wide) d in
    let asked = c.in_ok-is_zero_on.ensures.tame bits limit narrow own r in
    let used = subst (λ (k : ℕ). c.is_zero_on.new.meter.units ≤ g.units + test_units k) wide asked.within.units in
    let p = err_from_is_err_and c.from_residual-in_err-form.result c.from_residual-in_err-form.ensures.1 in
    rw (p.1, p.2) (tame_memory (test_units n) (test_units n) g c.is_zero_on.new.meter _ used (omega arith))

pub returns-clause-tame : goal.returns-clause-tame
returns-clause-tame c = λ bits limit room d r.
    let n = c.args.last + 1 in
    let g = c.args.meter.now in
    let wide : c.len.result ≡ n = c.len.ensures ∙ c.requires.formed.width in
    let narrow : bits + 1 + c.len.result ≤ 120 = omega (arith, room, wide) in
    let own = subst (λ (k : ℕ). HasDifferenceRows k bits c.args.system.now) (sym wide) d in
    let asked = c.in_ok-is_zero_on.ensures.tame bits limit narrow own r in
    let used = subst (λ (k : ℕ). c.is_zero_on.new.meter.units ≤ g.units + test_units k) wide asked.within.units in
    tame_ok (test_units n) g c.is_zero_on.new.meter _ _ used tt
