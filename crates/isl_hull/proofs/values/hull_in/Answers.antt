use Rattle.std.proofs.Common.{◌∙◌, ◌+◌, ◌≤◌, ap, ap₂, arith, refl, subst, sym, ℕ}
use Rattle.std.proofs.lemmas.Result.{err_from_is_err_and}
use Rattle.isl_meter.proofs.CutLemmas.{IsCharged_refl}
use Rattle.isl_space.specs.Space.{space_form_of}
use Rattle.isl_space.specs.SpaceForm.{SpaceForm}
use Rattle.isl_union.specs.Minus.{piece_in}
use Rattle.isl_hull.proofs.PieceLaws.{found_piece, hull_told, systems_over}
use Rattle.isl_difference.proofs.TameLaws.{tame_cut, tame_memory, tame_ok}
use Rattle.isl_span.specs.Chain.{IsPlainChain}
use Rattle.isl_span.specs.Work.{hull_units}
use Rattle.isl_hull.proofs.values.hull_in.Goals as goal

pub hull_of-requires : goal.hull_of-requires
hull_of-requires c =
    let params = c.args.params.now in
    let space = space_form_of c.args.space.now in
    let pieces = c.args.pieces.now in
    let wide = ap₂ (λ (a b : ℕ). a + b) c.len.ensures.len c.width.ensures in
    let same = c.in_ok-systems.ensures in
    systems_over params c.requires.params.distinct space pieces c.args.meter.now (c.len.result + c.width.result)
    c.in_ok-systems.systems.items wide same c.requires.pieces c.requires.within

pub returns-in-None-clause-exact : goal.returns-in-None-clause-exact
returns-in-None-clause-exact c =
    let params = c.args.params.now in
    let space = space_form_of c.args.space.now in
    let pieces = c.args.pieces.now in
    let wide = ap₂ (λ (a b : ℕ). a + b) c.len.ensures.len c.width.ensures in
    let same = c.in_ok-systems.ensures in
    rw c.in-None.is at (hull_told params c.requires.params.distinct space pieces c.args.meter.now (c.len.result + c.width.result)
    c.in_ok-systems.systems.items c.in_ok-hull_of.field-0 wide same c.in_ok-hull_of.ensures.exact)

pub returns-in_ok-new-in-Some-clause-exact : goal.returns-in_ok-new-in-Some-clause-exact
returns-in_ok-new-in-Some-clause-exact c =
    let params = c.args.params.now in
    let space = space_form_of c.args.space.now in
    let pieces = c.args.pieces.now in
    let wide = ap₂ (λ (a b : ℕ). a + b) c.len.ensures.len c.width.ensures in
    let same = c.in_ok-systems.ensures in
    let hull = c.in-Some.hull in
    let told = rw c.in-Some.is at (hull_told params c.requires.params.distinct space pieces c.args.meter.now (c.len.result + c.width.result)
    c.in_ok-systems.systems.items c.in_ok-hull_of.field-0 wide same c.in_ok-hull_of.ensures.exact) in
    found_piece params c.requires.params.distinct space pieces c.args.meter.now c.requires.space hull c.in_ok-new-in-Some.field-0
    (c.in_ok-new-in-Some.ensures ∙ ap (λ (s : SpaceForm). piece_in s hull) c.in_ok-copy-in-Some.ensures) told

-- ---- of difference constraints
pub returns-in_err-systems-clause-tame : goal.returns-in_err-systems-clause-tame
returns-in_err-systems-clause-tame c = λ columns bits s limit room own is plain.
    let p = err_from_is_err_and c.from_residual.result c.from_residual.ensures.1 in
    rw (p.1, p.2) (tame_memory 0 (hull_units columns) c.args.meter.now c.args.meter.now _ (omega arith) (omega arith))

pub returns-in_err-hull_of-clause-tame : goal.returns-in_err-hull_of-clause-tame
returns-in_err-hull_of-clause-tame c = λ columns bits s limit room own is plain.
    let wide = ap₂ (λ (a b : ℕ). a + b) c.len.ensures.len c.width.ensures ∙ sym own in
    let n = c.len.result + c.width.result in
    let plain_there = subst (λ (k : ℕ). IsPlainChain k bits s) (sym wide) plain in
    let narrow : bits + 1 + n ≤ 120 = omega (arith, room, wide) in
    let g = c.args.meter.now in
    let p = err_from_is_err_and c.from_residual-in_err-hull_of.result c.from_residual-in_err-hull_of.ensures.1 in
    rw (p.1, p.2) (tame_cut 0 (hull_units n) (hull_units columns) g g c.hull_of.new.meter _ _ c.in_err-hull_of.field-0.0
    (IsCharged_refl g g refl) (omega arith) (subst (λ (k : ℕ). 0 + hull_units n ≤ hull_units k) wide (omega arith))
    (c.in_err-hull_of.ensures.tame bits s limit narrow (c.in_ok-systems.ensures ∙ is) plain_there))

pub returns-in_err-copy-in-Some-clause-tame : goal.returns-in_err-copy-in-Some-clause-tame
returns-in_err-copy-in-Some-clause-tame c = λ columns bits s limit room own is plain.
    let wide = ap₂ (λ (a b : ℕ). a + b) c.len.ensures.len c.width.ensures ∙ sym own in
    let n = c.len.result + c.width.result in
    let plain_there = subst (λ (k : ℕ). IsPlainChain k bits s) (sym wide) plain in
    let narrow : bits + 1 + n ≤ 120 = omega (arith, room, wide) in
    let made = c.in_ok-hull_of.ensures.tame bits s limit narrow (c.in_ok-systems.ensures ∙ is) plain_there in
    let used = subst (λ (k : ℕ). c.hull_of.new.meter.units ≤ c.args.meter.now.units + hull_units k) wide made.within.units in
    let p = err_from_is_err_and c.from_residual-in_err-copy-in-Some.result c.from_residual-in_err-copy-in-Some.ensures.1 in
    rw (p.1, p.2) (tame_memory (hull_units columns) (hull_units columns) c.args.meter.now c.hull_of.new.meter _ used (omega arith))

pub returns-in_err-new-in-Some-clause-tame : goal.returns-in_err-new-in-Some-clause-tame
returns-in_err-new-in-Some-clause-tame c = λ columns bits s limit room own is plain.
    let wide = ap₂ (λ (a b : ℕ). a + b) c.len.ensures.len c.width.ensures ∙ sym own in
    let n = c.len.result + c.width.result in
    let plain_there = subst (λ (k : ℕ). IsPlainChain k bits s) (sym wide) plain in
    let narrow : bits + 1 + n ≤ 120 = omega (arith, room, wide) in
    let made = c.in_ok-hull_of.ensures.tame bits s limit narrow (c.in_ok-systems.ensures ∙ is) plain_there in
    let used = subst (λ (k : ℕ). c.hull_of.new.meter.units ≤ c.args.meter.now.units + hull_units k) wide made.within.units in
    let p = err_from_is_err_and c.from_residual-in_err-new-in-Some.result c.from_residual-in_err-new-in-Some.ensures.1 in
    rw (p.1, p.2) (tame_memory (hull_units columns) (hull_units columns) c.args.meter.now c.hull_of.new.meter _ used (omega arith))

pub returns-in-None-clause-tame : goal.returns-in-None-clause-tame
returns-in-None-clause-tame c = λ columns bits s limit room own is plain.
    let wide = ap₂ (λ (a b : ℕ). a + b) c.len.ensures.len c.width.ensures ∙ sym own in
    let n = c.len.result + c.width.result in
    let plain_there = subst (λ (k : ℕ). IsPlainChain k bits s) (sym wide) plain in
    let narrow : bits + 1 + n ≤ 120 = omega (arith, room, wide) in
    let made = c.in_ok-hull_of.ensures.tame bits s limit narrow (c.in_ok-systems.ensures ∙ is) plain_there in
    let used = subst (λ (k : ℕ). c.hull_of.new.meter.units ≤ c.args.meter.now.units + hull_units k) wide made.within.units in
    tame_ok (hull_units columns) c.args.meter.now c.hull_of.new.meter _ _ used tt

pub returns-in_ok-new-in-Some-clause-tame : goal.returns-in_ok-new-in-Some-clause-tame
returns-in_ok-new-in-Some-clause-tame c = λ columns bits s limit room own is plain.
    let wide = ap₂ (λ (a b : ℕ). a + b) c.len.ensures.len c.width.ensures ∙ sym own in
    let n = c.len.result + c.width.result in
    let plain_there = subst (λ (k : ℕ). IsPlainChain k bits s) (sym wide) plain in
    let narrow : bits + 1 + n ≤ 120 = omega (arith, room, wide) in
    let made = c.in_ok-hull_of.ensures.tame bits s limit narrow (c.in_ok-systems.ensures ∙ is) plain_there in
    let used = subst (λ (k : ℕ). c.hull_of.new.meter.units ≤ c.args.meter.now.units + hull_units k) wide made.within.units in
    tame_ok (hull_units columns) c.args.meter.now c.hull_of.new.meter _ _ used tt
