use Rattle.std.proofs.Common.{◌≡◌, ◌<◌, ◌++◌, ◌∷◌, [], ◌+ℤ◌, ◌*ℤ◌, pos, refl, length, get_or, arith}
use Rattle.std.proofs.lemmas.Grind.{common_steps}
use Rattle.std.proofs.lemmas.List.Elements.{All-push}
use Rattle.isl_meter.specs.Gauge.{IsWithin}
use Rattle.isl_omega.proofs.CombineLemmas.{weighted_without-more, weighted_without-at}
use Rattle.isl_omega.proofs.combine.weighted_without.Goals as goal
use Rattle.isl_omega.proofs.combine.weighted_without.Goals.{then-i-col+in_ok-sum_of+in_ok-push, else-i-col}

pub loop-i-preserved : goal.loop-i-preserved
loop-i-preserved c =
    let left = c.args.left.now.numbers.now in
    let right = c.args.right.now.numbers.now in
    let i = c.loop-i.i in
    let inside : i < length right = grind arith in
    elim c.if-i-col.branch [
      | then-i-col+in_ok-sum_of+in_ok-push w ↦
          let sum = c.args.left.now.times *ℤ get_or left i (pos 0) +ℤ c.args.right.now.times *ℤ get_or right i (pos 0) in
          let more = weighted_without-more c.args.left.now.times left c.args.right.now.times right c.args.col i c.loop-i-test.true inside (grind arith) in
          let pushed : c.if-i-col.coefs ≡ c.loop-i.coefs ++ sum ∷ [] = grind (arith, common_steps) in
          let within : IsWithin c.args.meter.now sum = grind (arith, common_steps) in
          record {
            sums = rw (pushed, more, c.loop-i.invariant.sums) refl;
            within = rw pushed (All-push (IsWithin c.args.meter.now) c.loop-i.coefs sum c.loop-i.invariant.within within);
            same = grind arith;
          }
      | else-i-col w ↦
          let same = weighted_without-at c.args.left.now.times left c.args.right.now.times right c.args.col i c.loop-i-test.true inside (grind arith) in
          let kept : c.if-i-col.coefs ≡ c.loop-i.coefs = grind arith in
          record {
            sums = rw (kept, same) c.loop-i.invariant.sums;
            within = rw kept c.loop-i.invariant.within;
            same = grind arith;
          }
    ]
