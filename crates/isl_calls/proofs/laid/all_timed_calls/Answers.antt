use Rattle.std.proofs.Common.{◌≡◌, ◌++◌, ◌∷◌, [], ◌<◌, ◌≤◌, arith, length}
use Rattle.std.proofs.lemmas.Grind.{common_steps}
use Rattle.isl_calls.specs.Laid.{IsTimedLaid}
use Rattle.isl_calls.proofs.ZipLaws.{zip_all, zip_more}
use Rattle.isl_calls.proofs.laid.all_timed_calls.Goals as goal

pub loop-one-preserved : goal.loop-one-preserved
loop-one-preserved c =
    let xs = c.args.visits.now in
    let i = c.loop-one.one-index in
    let low : i < length xs = grind (arith, common_steps) in
    let pushed : c.push.new.self.items ≡ c.loop-one.calls.items ++ c.in_ok-timed_calls.field-0 ∷ [] = grind arith in
    zip_more (IsTimedLaid c.args.params) xs i c.one-item.result c.loop-one.calls.items c.push.new.self.items c.in_ok-timed_calls.field-0 low c.one-item.is
    c.loop-one.invariant c.in_ok-timed_calls.ensures pushed

pub returns : goal.returns
returns c =
    let end : length c.args.visits.now ≤ c.loop-one.one-index = grind (arith, common_steps) in
    zip_all (IsTimedLaid c.args.params) c.args.visits.now c.loop-one.one-index c.loop-one.calls.items end c.loop-one.invariant
