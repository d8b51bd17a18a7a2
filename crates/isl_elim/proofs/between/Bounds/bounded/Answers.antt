use Rattle.std.proofs.Common.{◌≡◌, pos, arith}
use Rattle.isl_elim.proofs.BetweenLaws.{least_met}
use Rattle.isl_elim.proofs.between.Bounds.bounded.Goals as goal

pub returns-then-eq : goal.returns-then-eq
returns-then-eq c =
    let one : c.args.number ≡ pos 1 = grind arith in
    rw one (least_met c.args.self c.args.value c.neg.result c.greater.result c.neg.ensures.value c.greater.ensures.new c.greater.ensures.old
    c.greater.ensures.either)
