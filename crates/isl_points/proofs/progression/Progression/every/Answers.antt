use Rattle.std.proofs.Common.{◌≡◌, ◌+ℤ◌, ◌*ℤ◌, ◌<ℤ◌, pos, arith, subst, sym}
use Rattle.isl_math.proofs.OrderLaws.{positive-*ℤ}
use Rattle.isl_points.proofs.progression.Progression.every.Goals as goal

pub returns : goal.returns
returns c =
    let own = c.args.self.now in
    let turns = c.args.turns.now in
    let first : c.in_ok-first.first ≡ own.first +ℤ own.step *ℤ turns.first = grind arith in
    let step : c.in_ok-step.step ≡ own.step *ℤ turns.step = grind arith in (
      record {
        positive = subst (λ z. pos 0 <ℤ z) (sym step) (positive-*ℤ own.step turns.step c.requires.is.positive c.requires.turns.positive);
        first_within = grind arith;
        step_within = grind arith;
      },
      first,
      step,
      grind arith,
    )
