use Rattle.std.proofs.Common.{◌≡◌, arith, true}
use Rattle.std.proofs.lemmas.Grind.{common_steps}
use Rattle.isl_meter.proofs.CutLemmas.{IsCharged_trans}
use Rattle.isl_affine.specs.Comparison.{splits}
use Rattle.isl_alternatives.proofs.ChainLaws.{split_either}
use Rattle.isl_alternatives.proofs.RestrictedLaws.{over_after}
use Rattle.isl_alternatives.proofs.chains.compared.Goals as goal

pub with_row-requires-3-clause-over : goal.with_row-requires-3-clause-over
with_row-requires-3-clause-over c =
    let systems = c.args.systems.items in
    let rest : c.in_ok-rest.rest.items ≡ systems = grind (arith, common_steps) in
    rw rest (over_after c.args.meter.now c.begun.new.meter c.args.scope.now systems
    (IsCharged_trans c.args.meter.now c.with_row-2.new.meter c.begun.new.meter c.in_ok-below.ensures.charged c.in_ok-rest.ensures.2) c.requires.over)

pub returns : goal.returns
returns c =
    let systems = c.args.systems.items in
    let k = c.args.comparison.now in
    let base : c.in_ok-base.base.items ≡ systems = grind (arith, common_steps) in
    let rest : c.in_ok-rest.rest.items ≡ systems = grind (arith, common_steps) in
    let whole : c.as_slice-2.result.now ≡ systems = grind (arith, common_steps) in
    let found : c.as_slice-3.result.now ≡ c.in_ok-below.below.items = grind (arith, common_steps) in
    let two : splits k.compare k.left.now k.right.now ≡ true = grind (arith, common_steps) in
    split_either c.args.meter.now c.with_row-2.new.meter c.begun.new.meter c.with_row-3.new.meter c.args.scope.now systems c.in_ok-below.below.items
    c.in_ok-rest.rest.items c.in_ok-above.above.items c.append.new.systems.items k.left.now k.right.now k.compare two (rw base at c.in_ok-below.ensures)
    c.in_ok-rest.ensures.2 (rw (whole, found) at c.in_ok-rest.ensures.1) rest c.in_ok-above.ensures c.in_ok-append.ensures.items
