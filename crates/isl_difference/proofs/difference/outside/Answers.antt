use Rattle.std.proofs.Common.{◌≡◌, ◌*◌, ◌<◌, ◌∙◌, arith, length, map, take}
use Rattle.std.proofs.lemmas.Grind.{common_steps}
use Rattle.std.proofs.lemmas.List.{length-map, length-take-le, nil_from_length}
use Rattle.std.proofs.lemmas.List.Elements.{All-take}
use Rattle.std.proofs.lemmas.Result.{err_from_is_err_and}
use Rattle.isl_elim.proofs.PartsLaws.{charged_bits}
use Rattle.isl_difference.specs.Tame.{HasFewDifferences, part_limit, test_work, left_work}
use Rattle.isl_difference.proofs.DifferenceLaws.{all_none, left_columns, left_disjoint, left_more, left_none, left_tame, left_within}
use Rattle.isl_difference.proofs.DifferenceLaws.{system_within, IsPlain}
use Rattle.isl_difference.proofs.PartitionLaws.{mapped_at}
use Rattle.isl_difference.proofs.TameLaws.{left_turn, tame_cut, tame_memory, tame_ok}
use Rattle.isl_difference.proofs.difference.outside.Goals as goal

pub all_without-requires-clause-disjoint : goal.all_without-requires-clause-disjoint
all_without-requires-clause-disjoint c =
    let refs = c.args.others.now in
    let others = map (λ o. o.now) refs in
    let i = c.loop-other.other-index in
    let low : i < length refs = grind (arith, common_steps) in
    let inside : i < length others = rw (length-map refs (λ o. o.now)) low in
    let is = mapped_at (λ o. o.now) refs i c.other-item.result low c.other-item.is in
    left_disjoint c.args.meter.now c.loop-other.meter c.args.system.now others i c.other-item.result.now c.loop-other.left.items inside
    is c.requires.columns c.loop-other.invariant

pub all_without-requires-clause-columns : goal.all_without-requires-clause-columns
all_without-requires-clause-columns c =
    let refs = c.args.others.now in
    let others = map (λ o. o.now) refs in
    let i = c.loop-other.other-index in
    let low : i < length refs = grind (arith, common_steps) in
    let inside : i < length others = rw (length-map refs (λ o. o.now)) low in
    let is = mapped_at (λ o. o.now) refs i c.other-item.result low c.other-item.is in
    left_columns c.args.meter.now c.loop-other.meter c.args.system.now others i c.other-item.result.now c.loop-other.left.items inside
    is c.requires.columns c.loop-other.invariant

pub returns-then-is_empty-clause-exact : goal.returns-then-is_empty-clause-exact
returns-then-is_empty-clause-exact c =
    let left = c.loop-other.left.items in
    let count : length left ≡ 0 = grind (arith, common_steps) in
    let none = nil_from_length left count in (
      left_none c.args.meter.now c.loop-other.meter c.args.system.now (map (λ o. o.now) c.args.others.now) c.loop-other.other-index left
          none c.loop-other.invariant,
      c.loop-other.invariant.charged,
    )

pub all_without-requires-clause-within : goal.all_without-requires-clause-within
all_without-requires-clause-within c =
    let refs = c.args.others.now in
    let others = map (λ o. o.now) refs in
    let i = c.loop-other.other-index in
    let low : i < length refs = grind (arith, common_steps) in
    let inside : i < length others = rw (length-map refs (λ o. o.now)) low in
    let is = mapped_at (λ o. o.now) refs i c.other-item.result low c.other-item.is in
    left_within c.args.meter.now c.loop-other.meter c.args.system.now others i c.other-item.result.now c.loop-other.left.items inside
    is c.requires.columns c.loop-other.invariant

pub all_without-requires-clause-other_within : goal.all_without-requires-clause-other_within
all_without-requires-clause-other_within c =
    let refs = c.args.others.now in
    let others = map (λ o. o.now) refs in
    let i = c.loop-other.other-index in
    let low : i < length refs = grind (arith, common_steps) in
    let inside : i < length others = rw (length-map refs (λ o. o.now)) low in
    let is = mapped_at (λ o. o.now) refs i c.other-item.result low c.other-item.is in
    system_within c.args.meter.now c.loop-other.meter others i c.other-item.result.now c.loop-other.invariant.charged
    c.requires.others_within inside is

pub loop-other-preserved : goal.loop-other-preserved
loop-other-preserved c =
    let refs = c.args.others.now in
    let others = map (λ o. o.now) refs in
    let i = c.loop-other.other-index in
    let low : i < length refs = grind (arith, common_steps) in
    let inside : i < length others = rw (length-map refs (λ o. o.now)) low in
    let is = mapped_at (λ o. o.now) refs i c.other-item.result low c.other-item.is in
    let exact = c.in_ok-left-2.ensures.exact in
    let counted = c.in_ok-left-2.ensures.counted in
    left_more c.args.meter.now c.loop-other.meter c.args.system.now others i c.other-item.result.now c.loop-other.left.items inside
    is c.requires.columns c.loop-other.invariant c.all_without.new.meter c.in_ok-left-2.left.items exact.1 counted
    c.in_ok-left-2.ensures.definitions
    (λ columns bits limit room all o.
    let made = c.in_ok-left-2.ensures.tame columns bits limit room all o in
    record { units = made.within.units; size = made.answer })
    exact.0

pub returns-then-is_empty-clause-definitions : goal.returns-then-is_empty-clause-definitions
returns-then-is_empty-clause-definitions c = λ own all.
    let left = c.loop-other.left.items in
    let count : length left ≡ 0 = grind (arith, common_steps) in
    all_none IsPlain left (nil_from_length left count)

pub returns-clause-definitions : goal.returns-clause-definitions
returns-clause-definitions c = λ own all.
    c.loop-other.invariant.plain own (All-take IsPlain c.loop-other.other-index (map (λ o. o.now) c.args.others.now) all)

pub returns-in_err-left-clause-tame : goal.returns-in_err-left-clause-tame
returns-in_err-left-clause-tame c = λ columns bits limit room d all.
    let g = c.args.meter.now in
    let error = err_from_is_err_and c.from_residual.result c.from_residual.ensures.1 in
    rw (error.1, error.2, c.in_err-left.ensures)
    (tame_memory 0 (left_work columns (length c.args.others.now)) g g _ (omega arith) (omega arith))

pub returns-then-is_empty-clause-tame : goal.returns-then-is_empty-clause-tame
returns-then-is_empty-clause-tame c = λ columns bits limit room d all.
    let g = c.args.meter.now in
    let refs = c.args.others.now in
    let n = length refs in
    let so = left_tame g c.loop-other.meter c.args.system.now (map (λ o. o.now) refs) c.loop-other.other-index n c.loop-other.left.items
    (length-map refs (λ o. o.now)) c.loop-other.invariant columns bits limit room d all in
    tame_ok (left_work columns n) g c.loop-other.meter _ _ so.units so.size

pub returns-in_err-left-2-clause-tame : goal.returns-in_err-left-2-clause-tame
returns-in_err-left-2-clause-tame c = λ columns bits limit room d all.
    let g = c.args.meter.now in
    let h = c.loop-other.meter in
    let refs = c.args.others.now in
    let others = map (λ o. o.now) refs in
    let i = c.loop-other.other-index in
    let left = c.loop-other.left.items in
    let low : i < length refs = grind (arith, common_steps) in
    let long = length-map refs (λ o. o.now) in
    let inside : i < length others = rw long low in
    let is = mapped_at (λ o. o.now) refs i c.other-item.result low c.other-item.is in
    let other : HasFewDifferences columns bits c.other-item.result.now = rw is (all i c.other-item.result.now inside) in
    let before = length (take i others) in
    let fewer : before < length refs = (let t = length-take-le i others (omega arith) in omega arith) in
    let so = c.loop-other.invariant.tame columns bits limit room d (All-take (HasFewDifferences columns bits) i others all) in
    let limit_then = charged_bits g h c.loop-other.invariant.charged ∙ limit in
    let cut = c.in_err-left-2.ensures.tame columns bits limit_then room so.size.each other in
    let error = err_from_is_err_and c.from_residual-in_err-left-2.result c.from_residual-in_err-left-2.ensures.1 in
    rw (error.1, error.2) (tame_cut (left_work columns before) (length left * (part_limit columns 1 * test_work columns))
    (left_work columns (length refs)) g h c.all_without.new.meter _ _ c.in_err-left-2.field-0.0 c.loop-other.invariant.charged so.units
    (left_turn columns before (length refs) (length left) fewer so.size.few) cut)

pub returns-clause-tame : goal.returns-clause-tame
returns-clause-tame c = λ columns bits limit room d all.
    let g = c.args.meter.now in
    let refs = c.args.others.now in
    let n = length refs in
    let so = left_tame g c.loop-other.meter c.args.system.now (map (λ o. o.now) refs) c.loop-other.other-index n c.loop-other.left.items
    (length-map refs (λ o. o.now)) c.loop-other.invariant columns bits limit room d all in
    tame_ok (left_work columns n) g c.loop-other.meter _ _ so.units so.size
