use Rattle.std.proofs.Common.{◌≡◌, ◌*◌, ◌∙◌, sym, arith}
use Rattle.std.specs.Prelude.{Some, None, IfSome, ⊤}
use Rattle.std.proofs.lemmas.Result.{err_from_is_err_and}
use Rattle.isl_meter.proofs.CutLemmas.{charges}
use Rattle.isl_piece.specs.Normal.{normal_system}
use Rattle.isl_ledger.specs.Difference.{IsDifferenceSystem}
use Rattle.isl_difference.proofs.LiveLaws.{not_true, normal_nowhere, normal_live}
use Rattle.isl_difference.proofs.TameLaws.{normal_difference_system, tame_cut_first, tame_ok}
use Rattle.isl_elim.proofs.SpentLaws.{normal_one, spent_cut, spent_nothing, spent_ok}
use Rattle.isl_difference.proofs.live.live_form.Goals as goal

pub returns-then-branch-clause-exact : goal.returns-then-branch-clause-exact
returns-then-branch-clause-exact c =
    let s = c.args.system in
    let kept = c.in-Some.normal in
    let is : Some kept ≡ normal_system s = sym c.in-Some.is ∙ c.in_ok-normal.ensures.exact in
    let same = rw c.in-Some.is at c.in_ok-normal.ensures.points in
    (normal_nowhere s kept is same (c.in_ok-is_void.ensures.exact.0.0 c.if-branch.true), grind (arith, charges))

pub returns-clause-exact : goal.returns-clause-exact
returns-clause-exact c =
    let s = c.args.system in
    let kept = c.in-Some.normal in
    let is : Some kept ≡ normal_system s = sym c.in-Some.is ∙ c.in_ok-normal.ensures.exact in
    let same = rw c.in-Some.is at c.in_ok-normal.ensures.points in
    let within = rw c.in-Some.is at c.in_ok-normal.ensures.within in
    let normal = rw c.in-Some.is at c.in_ok-normal.ensures.normal in (
      normal_live c.args.meter.now s kept is same within normal
          (λ n. not_true c.in_ok-is_void.field-0 c.if-branch.false (c.in_ok-is_void.ensures.exact.0.1 n)),
      grind (arith, charges),
    )

pub returns-in_err-is_void-clause-tame : goal.returns-in_err-is_void-clause-tame
returns-in_err-is_void-clause-tame c = λ columns bits limit room d.
    let s = c.args.system in
    let kept = c.in-Some.normal in
    let is : Some kept ≡ normal_system s = sym c.in-Some.is ∙ c.in_ok-normal.ensures.exact in
    let normal = rw c.in-Some.is at c.in_ok-normal.ensures.normal in
    let system = normal_difference_system columns bits s kept is normal d in
    let error = err_from_is_err_and c.from_residual-in_err-is_void.result c.from_residual-in_err-is_void.ensures.1 in
    let cut = (rw c.in_ok-normal.ensures.meter at c.in_err-is_void.ensures.tame) columns bits limit room system in
    rw (error.1, error.2) (tame_cut_first (columns * (columns * columns)) c.args.meter.now c.is_void.new.meter (λ _. ⊤)
    (λ found. IfSome found (IsDifferenceSystem columns bits)) c.in_err-is_void.field-0.0 cut)

pub returns-then-branch-clause-tame : goal.returns-then-branch-clause-tame
returns-then-branch-clause-tame c = λ columns bits limit room d.
    let s = c.args.system in
    let kept = c.in-Some.normal in
    let is : Some kept ≡ normal_system s = sym c.in-Some.is ∙ c.in_ok-normal.ensures.exact in
    let normal = rw c.in-Some.is at c.in_ok-normal.ensures.normal in
    let system = normal_difference_system columns bits s kept is normal d in
    let asked = (rw c.in_ok-normal.ensures.meter at c.in_ok-is_void.ensures.tame) columns bits limit room system in
    tame_ok (columns * (columns * columns)) c.args.meter.now c.is_void.new.meter (λ found. IfSome found (IsDifferenceSystem columns bits))
    None asked.within.units tt

pub returns-clause-tame : goal.returns-clause-tame
returns-clause-tame c = λ columns bits limit room d.
    let s = c.args.system in
    let kept = c.in-Some.normal in
    let is : Some kept ≡ normal_system s = sym c.in-Some.is ∙ c.in_ok-normal.ensures.exact in
    let normal = rw c.in-Some.is at c.in_ok-normal.ensures.normal in
    let system = normal_difference_system columns bits s kept is normal d in
    let asked = (rw c.in_ok-normal.ensures.meter at c.in_ok-is_void.ensures.tame) columns bits limit room system in
    tame_ok (columns * (columns * columns)) c.args.meter.now c.is_void.new.meter (λ found. IfSome found (IsDifferenceSystem columns bits))
    (Some kept) asked.within.units system

-- ---- of one column
pub returns-in_err-normal-clause-one : goal.returns-in_err-normal-clause-one
returns-in_err-normal-clause-one c = λ normal is plain one.
    let g = c.args.meter.now in
    let s = c.args.system in
    let error = err_from_is_err_and c.from_residual.result c.from_residual.ensures.1 in
    rw (error.1, error.2, c.in_err-normal.ensures.meter)
    (spent_nothing normal.rows 0 s.columns g (normal_one g s normal c.requires is).proper)

pub returns-in_default-clause-one : goal.returns-in_default-clause-one
returns-in_default-clause-one c = λ normal is plain one.
    let none : None ≡ normal_system c.args.system = sym c.in_default.is ∙ c.in_ok-normal.ensures.exact in
    absurd (let both = none ∙ is in cc)

pub returns-in_err-is_void-clause-one : goal.returns-in_err-is_void-clause-one
returns-in_err-is_void-clause-one c = λ normal is plain one.
    let g = c.args.meter.now in
    let s = c.args.system in
    let kept = c.in-Some.normal in
    let found : normal_system s ≡ Some kept = sym c.in_ok-normal.ensures.exact ∙ c.in-Some.is in
    let same : normal ≡ kept = let both = sym is ∙ found in cc in
    let n = normal_one g s kept c.requires found in
    let error = err_from_is_err_and c.from_residual-in_err-is_void.result c.from_residual-in_err-is_void.ensures.1 in
    let own = (rw c.in_ok-normal.ensures.meter at c.in_err-is_void.ensures.one) (n.definitions ∙ plain) (n.columns ∙ one) in
    rw (error.1, error.2, same) (spent_cut kept.rows 0 g c.is_void.new.meter c.in_err-is_void.field-0.0 own)

pub returns-then-branch-clause-one : goal.returns-then-branch-clause-one
returns-then-branch-clause-one c = λ normal is plain one.
    let g = c.args.meter.now in
    let s = c.args.system in
    let kept = c.in-Some.normal in
    let found : normal_system s ≡ Some kept = sym c.in_ok-normal.ensures.exact ∙ c.in-Some.is in
    let same : normal ≡ kept = let both = sym is ∙ found in cc in
    let n = normal_one g s kept c.requires found in
    let own = (rw c.in_ok-normal.ensures.meter at c.in_ok-is_void.ensures.one) (n.definitions ∙ plain) (n.columns ∙ one) in
    rw same (spent_ok kept.rows 0 g c.is_void.new.meter c.in_ok-is_void.field-0 None own)

pub returns-clause-one : goal.returns-clause-one
returns-clause-one c = λ normal is plain one.
    let g = c.args.meter.now in
    let s = c.args.system in
    let kept = c.in-Some.normal in
    let found : normal_system s ≡ Some kept = sym c.in_ok-normal.ensures.exact ∙ c.in-Some.is in
    let same : normal ≡ kept = let both = sym is ∙ found in cc in
    let n = normal_one g s kept c.requires found in
    let own = (rw c.in_ok-normal.ensures.meter at c.in_ok-is_void.ensures.one) (n.definitions ∙ plain) (n.columns ∙ one) in
    rw same (spent_ok kept.rows 0 g c.is_void.new.meter c.in_ok-is_void.field-0 (Some kept) own)
