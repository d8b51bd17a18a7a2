use Rattle.std.proofs.Common.{◌≡◌, ◌*◌, [], ◌∷◌}
use Rattle.std.specs.List.{All}
use Rattle.isl_meter.specs.declared.Cut.TheVariants.{NoMemory}
use Rattle.std.proofs.lemmas.Result.{MatchResult-weaker, err_from_is_err_and}
use Rattle.isl_meter.proofs.CutLemmas.{IsCutBy-charged}
use Rattle.isl_difference.proofs.DifferenceLaws.{all_one, asked_whole, difference_parts, difference_whole, ok_from, told_cut, told_kept}
use Rattle.isl_difference.proofs.DifferenceLaws.{told_whole, IsPlain}
use Rattle.isl_difference.specs.Tame.{part_limit, test_work}
use Rattle.isl_difference.proofs.TameLaws.{one_left, tame_cut_first, tame_end, tame_ok}
use Rattle.isl_difference.proofs.difference.subtract.Goals as goal

pub returns-in-Some-clause-exact : goal.returns-in-Some-clause-exact
returns-in-Some-clause-exact c =
    let found = rw c.in-Some.is at c.in_ok-parts.ensures.exact in
    (difference_parts c.args.meter.now c.args.system.now c.args.other.now c.in-Some.parts.items found.0, found.1)

pub returns-in-None-clause-exact : goal.returns-in-None-clause-exact
returns-in-None-clause-exact c =
    let g = c.args.meter.now in
    let found = rw c.in-None.is at c.in_ok-parts.ensures.exact in
    MatchResult-weaker c.whole.result c.whole.ensures
    (λ left e. (difference_whole g c.args.system.now c.args.other.now left.items c.requires.within found.0 e, found.1))
    (λ cut e. rw e (IsCutBy-charged g c.parts_outside.new.meter found.1))

pub returns-in-Some-clause-definitions : goal.returns-in-Some-clause-definitions
returns-in-Some-clause-definitions c = λ own other. rw c.in-Some.is at (c.in_ok-parts.ensures.definitions own other)

pub returns-in-None-clause-definitions : goal.returns-in-None-clause-definitions
returns-in-None-clause-definitions c = λ own other.
    ok_from (λ left. left.items ≡ c.args.system.now ∷ []) (λ cut. cut ≡ NoMemory) (λ left. All IsPlain left.items) c.whole.result
    c.whole.ensures (λ left e. all_one IsPlain c.args.system.now left.items e own)

pub returns-in-Some-clause-told : goal.returns-in-Some-clause-told
returns-in-Some-clause-told c = λ t.
    told_kept c.args.meter.now c.parts_outside.new.meter _ _ (c.in_ok-parts.ensures.told t)

pub returns-in-None-clause-told : goal.returns-in-None-clause-told
returns-in-None-clause-told c = λ t.
    told_whole (λ left. left.items ≡ c.args.system.now ∷ []) c.args.meter.now c.parts_outside.new.meter _ c.whole.result
    (c.in_ok-parts.ensures.told t) c.whole.ensures

pub returns-in-None-clause-asked : goal.returns-in-None-clause-asked
returns-in-None-clause-asked c = λ n.
    asked_whole c.whole.result c.args.meter.now.units c.parts_outside.new.meter.units (c.in_ok-parts.ensures.asked n)

pub returns-in_err-parts-clause-told : goal.returns-in_err-parts-clause-told
returns-in_err-parts-clause-told c = λ t.
    let error = err_from_is_err_and c.from_residual.result c.from_residual.ensures.1 in
    rw (error.1, error.2) (told_cut c.args.meter.now c.parts_outside.new.meter c.in_err-parts.field-0.0 (c.in_err-parts.ensures.told t))

pub returns-in_err-parts-clause-tame : goal.returns-in_err-parts-clause-tame
returns-in_err-parts-clause-tame c = λ columns bits limit room d o.
    let error = err_from_is_err_and c.from_residual.result c.from_residual.ensures.1 in
    rw (error.1, error.2) (tame_cut_first (part_limit columns 1 * test_work columns) c.args.meter.now c.parts_outside.new.meter _ _
    c.in_err-parts.field-0.0 (c.in_err-parts.ensures.tame columns bits limit room d o))

pub returns-in-Some-clause-tame : goal.returns-in-Some-clause-tame
returns-in-Some-clause-tame c = λ columns bits limit room d o.
    let found = c.in_ok-parts.ensures.tame columns bits limit room d o in
    let parts = rw c.in-Some.is at found.answer in
    tame_ok (part_limit columns 1 * test_work columns) c.args.meter.now c.parts_outside.new.meter _ _ found.within.units parts

pub returns-in-None-clause-tame : goal.returns-in-None-clause-tame
returns-in-None-clause-tame c = λ columns bits limit room d o.
    let s = c.args.system.now in
    let found = c.in_ok-parts.ensures.tame columns bits limit room d o in
    tame_end (part_limit columns 1 * test_work columns) c.args.meter.now c.parts_outside.new.meter (λ left. left.items ≡ s ∷ []) _
    c.whole.result found.within.units c.whole.ensures (λ left e. one_left columns bits s left.items e d)
