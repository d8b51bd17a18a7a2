use Rattle.std.proofs.Common.{◌≡◌, ◌+ℤ◌, ◌*ℤ◌, arith}
use Rattle.isl_points.proofs.CongruenceLaws.{congruent_is, congruent_none}
use Rattle.isl_points.proofs.progression.Progression.congruent.Goals as goal

pub returns-in-None : goal.returns-in-None
returns-in-None c =
    let own = c.args.self.now in
    let scaled : c.in_ok-scaled.scaled ≡ c.coef-coef.result *ℤ own.step = grind arith in
    let rest : c.in_ok-rest.rest ≡ c.coef-coef.result *ℤ own.first +ℤ c.constant.result = grind arith in
    let none = rw c.in-None.is at c.in_ok-solving.ensures in (
      (λ x. congruent_none c.args.row.now x c.coef-coef.result c.constant.result c.modulus.result own.first own.step c.in_ok-scaled.scaled
          c.in_ok-rest.rest c.requires.kind c.requires.row.formed.width c.coef-coef.ensures c.constant.ensures c.modulus.ensures scaled rest
          none.0),
      grind arith,
    )

pub returns-in_ok-found-in-Some : goal.returns-in_ok-found-in-Some
returns-in_ok-found-in-Some c =
    let own = c.args.self.now in
    let turns = c.in-Some.turns in
    let found = c.in_ok-found-in-Some.found in
    let scaled : c.in_ok-scaled.scaled ≡ c.coef-coef.result *ℤ own.step = grind arith in
    let rest : c.in_ok-rest.rest ≡ c.coef-coef.result *ℤ own.first +ℤ c.constant.result = grind arith in
    let some = rw c.in-Some.is at c.in_ok-solving.ensures in
    let first : found.first ≡ own.first +ℤ own.step *ℤ turns.first = grind arith in
    let step : found.step ≡ own.step *ℤ turns.step = grind arith in (
      (
        grind arith,
        (λ x. congruent_is c.args.row.now x c.coef-coef.result c.constant.result c.modulus.result own.first own.step turns.first turns.step
            c.in_ok-scaled.scaled c.in_ok-rest.rest found.first found.step c.requires.kind c.requires.row.formed.width c.coef-coef.ensures
            c.constant.ensures c.modulus.ensures c.requires.is.positive scaled rest first step some.0.1),
      ),
      grind arith,
    )
