use Rattle.std.proofs.Common.{◌≡◌, ◌<◌, ◌≤◌, arith, length, map, ℕ}
use Rattle.std.proofs.lemmas.Grind.{common_steps}
use Rattle.isl_piece.specs.declared.system.System.{System}
use Rattle.isl_alternatives.proofs.RestrictedLaws.{WhereNone, beside_more, outside_one, over_after, over_at, others_within, others_free, whole_taken}
use Rattle.isl_alternatives.proofs.lists.without.Goals as goal

pub outside-requires-clause-within : goal.outside-requires-clause-within
outside-requires-clause-within c =
    let l = c.loop-system in
    let inside : l.system-index < length c.args.systems.now = grind (arith, common_steps) in
    (over_at l.meter c.args.scope.now c.args.systems.now l.system-index c.system-item.result
    (over_after c.args.meter.now l.meter c.args.scope.now c.args.systems.now l.invariant.charged c.requires.over) inside c.system-item.is).within

pub outside-requires-clause-others_within : goal.outside-requires-clause-others_within
outside-requires-clause-others_within c =
    let l = c.loop-system in
    let same : map (λ other. other.now) c.as_slice.result.now ≡ c.args.others.now = grind (arith, common_steps) in
    rw same (others_within c.args.meter.now l.meter c.args.scope.now c.args.others.now l.invariant.charged c.requires.others_over)

pub outside-requires-clause-columns : goal.outside-requires-clause-columns
outside-requires-clause-columns c =
    let l = c.loop-system in
    let inside : l.system-index < length c.args.systems.now = grind (arith, common_steps) in
    let same : map (λ other. other.now) c.as_slice.result.now ≡ c.args.others.now = grind (arith, common_steps) in
    rw same (others_free c.args.meter.now c.args.scope.now c.system-item.result c.args.others.now
    (over_at c.args.meter.now c.args.scope.now c.args.systems.now l.system-index c.system-item.result c.requires.over inside c.system-item.is)
    c.requires.others_over)

pub loop-system-preserved : goal.loop-system-preserved
loop-system-preserved c =
    let l = c.loop-system in
    let g = c.args.meter.now in
    let scope = c.args.scope.now in
    let systems = c.args.systems.now in
    let s = c.system-item.result in
    let k = c.outside.new.meter in
    let inside : l.system-index < length systems = grind (arith, common_steps) in
    let same : map (λ other. other.now) c.as_slice.result.now ≡ c.args.others.now = grind (arith, common_steps) in
    let exact = rw same at c.in_ok-left.ensures.exact in
    let over = over_at l.meter scope systems l.system-index s (over_after g l.meter scope systems l.invariant.charged c.requires.over) inside c.system-item.is in
    beside_more g l.meter k scope systems l.system-index s (WhereNone c.args.others.now) l.found.items c.in_ok-left.left.items c.append.new.systems.items
    inside c.system-item.is c.in_ok-append.ensures.items l.invariant
    (outside_one l.meter k scope s c.args.others.now c.in_ok-left.left.items over exact.0 exact.1 c.in_ok-left.ensures.counted)

pub returns : goal.returns
returns c =
    let l = c.loop-system in
    let long : length c.args.systems.now ≤ l.system-index = grind (arith, common_steps) in
    whole_taken c.args.meter.now l.meter c.args.scope.now c.args.systems.now (WhereNone c.args.others.now) l.found.items l.system-index long l.invariant
