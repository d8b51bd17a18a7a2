use Rattle.std.proofs.Common.{◌≡◌, ◌∙◌, sym, arith, ◌*◌, Some, None}
use Rattle.std.proofs.lemmas.Result.{err_from_is_err_and}
use Rattle.isl_meter.proofs.CutLemmas.{charges}
use Rattle.isl_piece.specs.Normal.{normal_system}
use Rattle.isl_ledger.proofs.SizeLaws.{differences_of}
use Rattle.isl_difference.proofs.TameLaws.{normal_difference_system, tame_cut_first, tame_ok}
use Rattle.isl_union.specs.Tame.{size_of}
use Rattle.isl_union.proofs.MadeLaws.{not_true, system_nowhere}
use Rattle.isl_elim.proofs.SpentLaws.{normal_one, spent_cut, spent_nothing, spent_ok}
use Rattle.isl_union.proofs.live.live_system.Goals as goal

pub returns-then-branch-clause-exact : goal.returns-then-branch-clause-exact
returns-then-branch-clause-exact c =
    let s = c.args.system in
    let kept = c.in-Some.normal in
    let is : normal_system s ≡ Some kept = sym c.in_ok-normal.ensures.exact ∙ c.in-Some.is in
    let same = rw c.in-Some.is at c.in_ok-normal.ensures.points in
    (system_nowhere s kept is same (c.in_ok-is_normal_empty.ensures.exact.0 c.if-branch.true), grind (arith, charges))

pub returns-clause-exact : goal.returns-clause-exact
returns-clause-exact c =
    let s = c.args.system in
    let kept = c.in-Some.normal in
    let is : normal_system s ≡ Some kept = sym c.in_ok-normal.ensures.exact ∙ c.in-Some.is in
    ((is, λ n. not_true c.in_ok-is_normal_empty.field-0 c.if-branch.false (c.in_ok-is_normal_empty.ensures.exact.1 n)), grind (arith, charges))

-- ---- of difference constraints
pub returns-in_err-is_normal_empty-clause-tame : goal.returns-in_err-is_normal_empty-clause-tame
returns-in_err-is_normal_empty-clause-tame c = λ columns bits limit room d.
    let w = columns * (columns * columns) in
    let s = c.args.system in
    let kept = c.in-Some.normal in
    let is : Some kept ≡ normal_system s = sym c.in-Some.is ∙ c.in_ok-normal.ensures.exact in
    let system = normal_difference_system columns bits s kept is (rw c.in-Some.is at c.in_ok-normal.ensures.normal) d in
    let p = err_from_is_err_and c.from_residual-in_err-is_normal_empty.result c.from_residual-in_err-is_normal_empty.ensures.1 in
    let cut = (rw c.in_ok-normal.ensures.meter at c.in_err-is_normal_empty.ensures.tame) (size_of 1 columns bits) limit room
    (record { some = omega arith; rows = differences_of columns bits kept system }) in
    rw (p.1, p.2) (tame_cut_first w c.args.meter.now c.is_normal_empty.new.meter _ _ c.in_err-is_normal_empty.field-0.0 cut)

pub returns-then-branch-clause-tame : goal.returns-then-branch-clause-tame
returns-then-branch-clause-tame c = λ columns bits limit room d.
    let w = columns * (columns * columns) in
    let s = c.args.system in
    let kept = c.in-Some.normal in
    let is : Some kept ≡ normal_system s = sym c.in-Some.is ∙ c.in_ok-normal.ensures.exact in
    let system = normal_difference_system columns bits s kept is (rw c.in-Some.is at c.in_ok-normal.ensures.normal) d in
    let asked = (rw c.in_ok-normal.ensures.meter at c.in_ok-is_normal_empty.ensures.tame) (size_of 1 columns bits) limit room
    (record { some = omega arith; rows = differences_of columns bits kept system }) in
    tame_ok w c.args.meter.now c.is_normal_empty.new.meter _ _ asked.within.units tt

pub returns-clause-tame : goal.returns-clause-tame
returns-clause-tame c = λ columns bits limit room d.
    let w = columns * (columns * columns) in
    let s = c.args.system in
    let kept = c.in-Some.normal in
    let is : Some kept ≡ normal_system s = sym c.in-Some.is ∙ c.in_ok-normal.ensures.exact in
    let system = normal_difference_system columns bits s kept is (rw c.in-Some.is at c.in_ok-normal.ensures.normal) d in
    let asked = (rw c.in_ok-normal.ensures.meter at c.in_ok-is_normal_empty.ensures.tame) (size_of 1 columns bits) limit room
    (record { some = omega arith; rows = differences_of columns bits kept system }) in
    tame_ok w c.args.meter.now c.is_normal_empty.new.meter _ _ asked.within.units system

-- ---- of one column
pub returns-in_err-normal-clause-one : goal.returns-in_err-normal-clause-one
returns-in_err-normal-clause-one c = λ normal is plain one.
    let g = c.args.meter.now in
    let s = c.args.system in
    let error = err_from_is_err_and c.from_residual.result c.from_residual.ensures.1 in
    rw (error.1, error.2, c.in_err-normal.ensures.meter)
    (spent_nothing normal.rows 0 s.columns g (normal_one g s normal c.requires is).proper)

pub returns-in_default-clause-one : goal.returns-in_default-clause-one
returns-in_default-clause-one c = λ normal is plain one.
    let none : None ≡ normal_system c.args.system = sym c.in_default.is ∙ c.in_ok-normal.ensures.exact in
    absurd (let both = none ∙ is in cc)

pub returns-in_err-is_normal_empty-clause-one : goal.returns-in_err-is_normal_empty-clause-one
returns-in_err-is_normal_empty-clause-one c = λ normal is plain one.
    let g = c.args.meter.now in
    let s = c.args.system in
    let kept = c.in-Some.normal in
    let found : normal_system s ≡ Some kept = sym c.in_ok-normal.ensures.exact ∙ c.in-Some.is in
    let same : normal ≡ kept = let both = sym is ∙ found in cc in
    let n = normal_one g s kept c.requires found in
    let error = err_from_is_err_and c.from_residual-in_err-is_normal_empty.result c.from_residual-in_err-is_normal_empty.ensures.1 in
    let own = (rw c.in_ok-normal.ensures.meter at c.in_err-is_normal_empty.ensures.one) (n.definitions ∙ plain) (n.columns ∙ one) in
    rw (error.1, error.2, same) (spent_cut kept.rows 0 g c.is_normal_empty.new.meter c.in_err-is_normal_empty.field-0.0 own)

pub returns-then-branch-clause-one : goal.returns-then-branch-clause-one
returns-then-branch-clause-one c = λ normal is plain one.
    let g = c.args.meter.now in
    let s = c.args.system in
    let kept = c.in-Some.normal in
    let found : normal_system s ≡ Some kept = sym c.in_ok-normal.ensures.exact ∙ c.in-Some.is in
    let same : normal ≡ kept = let both = sym is ∙ found in cc in
    let n = normal_one g s kept c.requires found in
    let own = (rw c.in_ok-normal.ensures.meter at c.in_ok-is_normal_empty.ensures.one) (n.definitions ∙ plain) (n.columns ∙ one) in
    rw same (spent_ok kept.rows 0 g c.is_normal_empty.new.meter c.in_ok-is_normal_empty.field-0 None own)

pub returns-clause-one : goal.returns-clause-one
returns-clause-one c = λ normal is plain one.
    let g = c.args.meter.now in
    let s = c.args.system in
    let kept = c.in-Some.normal in
    let found : normal_system s ≡ Some kept = sym c.in_ok-normal.ensures.exact ∙ c.in-Some.is in
    let same : normal ≡ kept = let both = sym is ∙ found in cc in
    let n = normal_one g s kept c.requires found in
    let own = (rw c.in_ok-normal.ensures.meter at c.in_ok-is_normal_empty.ensures.one) (n.definitions ∙ plain) (n.columns ∙ one) in
    rw same (spent_ok kept.rows 0 g c.is_normal_empty.new.meter c.in_ok-is_normal_empty.field-0 (Some kept) own)
