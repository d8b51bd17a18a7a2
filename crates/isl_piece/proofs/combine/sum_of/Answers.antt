use Rattle.std.proofs.Common.{◌≡◌, ◌*◌, ◌^◌, ◌*ℤ◌, arith}
use Rattle.isl_piece.proofs.CombineLaws.{product_fits, product_fits_after, weighted_fits}
use Rattle.isl_piece.proofs.combine.sum_of.Goals as goal

pub returns-in_err-first-clause-no_overflow : goal.returns-in_err-first-clause-no_overflow
returns-in_err-first-clause-no_overflow c = λ u v w x hm hn hl hr room. absurd (c.in_err-first.ensures.0 (product_fits (2 ^ c.args.meter.now.bits) u w (v * x) c.args.m c.args.left hm hl room))

pub returns-in_err-second-clause-no_overflow : goal.returns-in_err-second-clause-no_overflow
returns-in_err-second-clause-no_overflow c = λ u v w x hm hn hl hr room.
    let same : c.times.new.meter ≡ c.args.meter.now = grind arith in
    absurd (c.in_err-second.ensures.0 (rw same (product_fits_after (2 ^ c.args.meter.now.bits) v x (u * w) c.args.n c.args.right hn hr room)))

pub returns-in_err-sum-clause-no_overflow : goal.returns-in_err-sum-clause-no_overflow
returns-in_err-sum-clause-no_overflow c = λ u v w x hm hn hl hr room.
    let same : c.times-2.new.meter ≡ c.args.meter.now = grind arith in
    let first : c.in_ok-first.first ≡ c.args.m *ℤ c.args.left = grind arith in
    let second : c.in_ok-second.second ≡ c.args.n *ℤ c.args.right = grind arith in
    absurd (c.in_err-sum.ensures.0 (rw (same, first, second) (weighted_fits (2 ^ c.args.meter.now.bits) u v w x c.args.m c.args.left c.args.n c.args.right hm hn hl hr room)))
