use Rattle.std.proofs.Common.{◌≡◌, ◌≤◌, arith, length}
use Rattle.isl_space.specs.Space.{space_form_of}
use Rattle.isl_space.specs.declared.space.Space.{Space}
use Rattle.isl_difference.proofs.BoundLaws.{none_at_first, none_found, not_so, one_found, one_none}
use Rattle.isl_by_space.proofs.spaces.is_among.Goals as goal

pub loop-other-init : goal.loop-other-init
loop-other-init c = none_at_first (λ (other : Space). space_form_of c.args.space.now ≡ space_form_of other) c.args.spaces.now

pub loop-other-preserved : goal.loop-other-preserved
loop-other-preserved c =
    let i = c.loop-other.other-index in
    let x = c.other-item.result in
    let P : Space → Type 0 = λ other. space_form_of c.args.space.now ≡ space_form_of other in
    one_none P c.args.spaces.now i x c.loop-other-test.true c.other-item.is (not_so (P x) c.same.result c.if-same.false c.same.ensures)
    c.loop-other.invariant

pub returns : goal.returns
returns c =
    let end : length c.args.spaces.now ≤ c.loop-other.other-index = omega arith in
    none_found (λ (other : Space). space_form_of c.args.space.now ≡ space_form_of other) c.args.spaces.now c.loop-other.other-index end
    c.loop-other.invariant

pub returns-then-same : goal.returns-then-same
returns-then-same c =
    let i = c.loop-other.other-index in
    let x = c.other-item.result in
    let P : Space → Type 0 = λ other. space_form_of c.args.space.now ≡ space_form_of other in
    one_found P c.args.spaces.now i x c.loop-other-test.true c.other-item.is (c.same.ensures.0 c.if-same.true)
