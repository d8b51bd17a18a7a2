use Rattle.std.proofs.Common.{◌≡◌, ◌∙◌, ◌+◌, ◌*◌, ◌-◌, ◌<◌, refl, arith, length, map, take, sym, IsTrue}
use Rattle.std.specs.Prelude.{⊤}
use Rattle.std.proofs.lemmas.Grind.{common_steps}
use Rattle.std.proofs.lemmas.List.{length-map, length-take-le}
use Rattle.std.proofs.lemmas.Result.{IfOk-weaker, err_from_is_err_and}
use Rattle.isl_meter.proofs.CutLemmas.{IsCharged_refl}
use Rattle.isl_piece.specs.System.{HoldsSystem, IsSystemWithin, free_columns}
use Rattle.isl_elim.specs.Sample.{IsNowhere}
use Rattle.isl_elim.proofs.PartsLaws.{charged_bits}
use Rattle.isl_difference.specs.Cover.{AreInside}
use Rattle.isl_difference.specs.Difference.{IsCovered}
use Rattle.isl_difference.specs.Tame.{HasFewDifferences, part_limit, test_work, left_work}
use Rattle.isl_difference.proofs.CoverLaws.{all_before, covered_by, covered_only, with_last}
use Rattle.isl_difference.proofs.DifferenceLaws.{system_at, system_within}
use Rattle.isl_difference.proofs.PartitionLaws.{mapped_at}
use Rattle.isl_difference.proofs.TameLaws.{first_within, left_turn, left_work_more, rows_few_live, tame_cut, tame_ok, tame_then}
use Rattle.isl_difference.proofs.cover.is_covered.Goals as goal

pub outside-requires-clause-others_within : goal.outside-requires-clause-others_within
outside-requires-clause-others_within c =
    let refs = c.args.others.now in
    all_before (IsSystemWithin c.args.meter.now) (λ o. o.now) refs (length refs - 1) c.requires.others_within

pub outside-requires-clause-columns : goal.outside-requires-clause-columns
outside-requires-clause-columns c =
    let refs = c.args.others.now in
    all_before (λ t. free_columns t ≡ free_columns c.args.system.now) (λ o. o.now) refs (length refs - 1) c.requires.columns

pub are_inside-requires-clause-other_within : goal.are_inside-requires-clause-other_within
are_inside-requires-clause-other_within c =
    let refs = c.args.others.now in
    let others = map (λ o. o.now) refs in
    let n = length refs - 1 in
    let last = c.index-others-last.result in
    let low : n < length refs = grind (arith, common_steps) in
    let inside : n < length others = rw (length-map refs (λ o. o.now)) low in
    let is = mapped_at (λ o. o.now) refs n last low c.index-others-last.is in
    system_within c.args.meter.now c.outside.new.meter others n last.now c.in_ok-left.ensures.exact.1 c.requires.others_within inside is

pub are_inside-requires-clause-columns : goal.are_inside-requires-clause-columns
are_inside-requires-clause-columns c =
    let refs = c.args.others.now in
    let others = map (λ o. o.now) refs in
    let n = length refs - 1 in
    let last = c.index-others-last.result in
    let low : n < length refs = grind (arith, common_steps) in
    let inside : n < length others = rw (length-map refs (λ o. o.now)) low in
    let is = mapped_at (λ o. o.now) refs n last low c.index-others-last.is in
    let free = system_at (λ t. free_columns t ≡ free_columns c.args.system.now) others n last.now c.requires.columns inside is in
    let same : c.as_slice.result.now ≡ c.in_ok-left.left.items = grind (arith, common_steps) in
    rw same (λ k d i. (c.in_ok-left.ensures.exact.0.each k d i).columns ∙ sym free)

pub returns-clause-covered : goal.returns-clause-covered
returns-clause-covered c =
    let g = c.args.meter.now in
    let s = c.args.system.now in
    let refs = c.args.others.now in
    let n = length refs - 1 in
    let last = c.index-others-last.result in
    let left = c.in_ok-left.left.items in
    let long : n + 1 ≡ length refs = grind (arith, common_steps) in
    let split = with_last (λ o. o.now) refs n last long (sym c.index-others-last.is) in
    let within = all_before (IsSystemWithin g) (λ o. o.now) refs n c.requires.others_within in
    let same : c.as_slice.result.now ≡ left = grind (arith, common_steps) in
    IfOk-weaker c.are_inside.result (λ b. AreInside left last.now b) (λ b. IsTrue b → IsCovered s (map (λ o. o.now) refs))
    (λ b p. covered_by g s (map (λ o. o.now) (take n refs)) last.now (map (λ o. o.now) refs) left b split c.in_ok-left.ensures.exact.0 p
    within)
    (rw same at c.are_inside.ensures.exact)

pub returns-clause-only : goal.returns-clause-only
returns-clause-only c = λ live.
    let g = c.args.meter.now in
    let s = c.args.system.now in
    let refs = c.args.others.now in
    let n = length refs - 1 in
    let last = c.index-others-last.result in
    let left = c.in_ok-left.left.items in
    let long : n + 1 ≡ length refs = grind (arith, common_steps) in
    let split = with_last (λ o. o.now) refs n last long (sym c.index-others-last.is) in
    let same : c.as_slice.result.now ≡ left = grind (arith, common_steps) in
    IfOk-weaker c.are_inside.result (λ b. AreInside left last.now b) (λ b. IsCovered s (map (λ o. o.now) refs) → IsTrue b)
    (λ b p. covered_only g s (map (λ o. o.now) (take n refs)) last.now (map (λ o. o.now) refs) left b split c.in_ok-left.ensures.exact.0 p
    live)
    (rw same at c.are_inside.ensures.exact)

pub returns-then-is_empty-clause-tame : goal.returns-then-is_empty-clause-tame
returns-then-is_empty-clause-tame c = λ columns bits limit room d all live.
    tame_ok (left_work columns (length c.args.others.now)) c.args.meter.now c.args.meter.now _ _ (omega arith) tt

pub returns-in_err-left-clause-tame : goal.returns-in_err-left-clause-tame
returns-in_err-left-clause-tame c = λ columns bits limit room d all live.
    let g = c.args.meter.now in
    let refs = c.args.others.now in
    let n = length refs - 1 in
    let before = length (take n refs) in
    let long : n + 1 ≡ length refs = grind (arith, common_steps) in
    let short : before ≡ n = length-take-le n refs (omega arith) in
    let first = all_before (HasFewDifferences columns bits) (λ o. o.now) refs n all in
    let cut = c.in_err-left.ensures.tame columns bits limit room d first in
    let error = err_from_is_err_and c.from_residual.result c.from_residual.ensures.1 in
    rw (error.1, error.2) (tame_cut 0 (left_work columns before) (left_work columns (length refs)) g g c.outside.new.meter _ _
    c.in_err-left.field-0.0 (IsCharged_refl g g refl) (omega arith)
    (first_within (left_work columns before) (left_work columns (length refs)) (left_work_more columns before (length refs) (omega arith)))
    cut)

pub returns-clause-tame : goal.returns-clause-tame
returns-clause-tame c = λ columns bits limit room d all live.
    let g = c.args.meter.now in
    let refs = c.args.others.now in
    let n = length refs - 1 in
    let before = length (take n refs) in
    let long : n + 1 ≡ length refs = grind (arith, common_steps) in
    let short : before ≡ n = length-take-le n refs (omega arith) in
    let first = all_before (HasFewDifferences columns bits) (λ o. o.now) refs n all in
    let h = c.outside.new.meter in
    let others = map (λ o. o.now) refs in
    let last = c.index-others-last.result in
    let left = c.in_ok-left.left.items in
    let charged = c.in_ok-left.ensures.exact.1 in
    let low : n < length refs = grind (arith, common_steps) in
    let inside : n < length others = rw (length-map refs (λ o. o.now)) low in
    let is = mapped_at (λ o. o.now) refs n last low c.index-others-last.is in
    let own = system_at (HasFewDifferences columns bits) others n last.now all inside is in
    let some = system_at (λ other. ¬ IsNowhere (free_columns other) (HoldsSystem other)) others n last.now live inside is in
    let within = system_at (IsSystemWithin g) others n last.now c.requires.others_within inside is in
    let few = rows_few_live g columns bits last.now within own some in
    let same : c.as_slice.result.now ≡ left = grind (arith, common_steps) in
    let made = c.in_ok-left.ensures.tame columns bits limit room d first in
    let asked = (rw same at c.are_inside.ensures.tame) columns bits (charged_bits g h charged ∙ limit) room made.answer.each own few in
    tame_then (left_work columns before) (length left * (part_limit columns 1 * test_work columns)) (left_work columns (length refs)) g h
    c.are_inside.new.meter (λ _. ⊤) c.are_inside.result charged made.within.units
    (left_turn columns before (length refs) (length left) (omega arith) made.answer.few) asked
