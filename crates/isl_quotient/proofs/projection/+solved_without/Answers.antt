use Rattle.std.proofs.Common.{◌≡◌, ◌∷◌, [], arith, Vec, Global}
use Rattle.std.specs.List.{All}
use Rattle.std.proofs.lemmas.Result.{IfOk-weaker}
use Rattle.isl_meter.specs.Gauge.{IsCharged}
use Rattle.isl_piece.specs.declared.system.System.{System}
use Rattle.isl_piece.specs.System.{IsSystemWithin}
use Rattle.isl_elim.specs.Elimination.{IsProjection}
use Rattle.isl_elim.specs.Others.{others_of}
use Rattle.isl_quotient.specs.Given.{IsGivenBy}
use Rattle.isl_quotient.specs.Turned.{IsTurned}
use Rattle.isl_quotient.proofs.MeterLaws.{within_after, within_before}
use Rattle.isl_quotient.proofs.PinnedLaws.{given_one}
use Rattle.isl_quotient.proofs.SolvedLaws.{given_among, given_low}
use Rattle.isl_quotient.proofs.StepLaws.{none_left}
use Rattle.isl_quotient.proofs.TurnLaws.{are_left, projects_after}
use Rattle.isl_quotient.proofs.projection.+solved_without.Goals as goal

pub solved_without-requires : goal.solved_without-requires
solved_without-requires t c =
    let g = c.args.meter.now in
    let h = c.solved.new.meter in
    let s = c.args.system in
    let cols = c.args.cols.now in
    let given = c.in-Some.given in
    let is : IsGivenBy s.rows cols given = grind arith in
    let turn : IsTurned g s cols given.col c.in-Some-2.short = rw c.in-Some-2.is at c.in_ok-short.ensures.left in
    let slice : c.as_slice-2.result.now ≡ others_of given.col cols = grind arith in
    let charged : IsCharged g h = c.in_ok-short.ensures.meter in
    let left =
    are_left g s c.in-Some-2.short cols c.as_slice-2.result.now given.col c.requires.distinct c.requires.cols_in
    (given_among s.rows cols given is)
    (given_low _ s.rows cols given c.requires.cols_in is) slice turn in
    (omega (arith, left.shorter), (within_after g h c.in-Some-2.short charged turn.within, (left.distinct, (left.inside, left.undefining))))

pub returns-clause-projection : goal.returns-clause-projection
returns-clause-projection t c =
    let g = c.args.meter.now in
    let s = c.args.system in
    let cols = c.args.cols.now in
    let given = c.in-Some.given in
    let is : IsGivenBy s.rows cols given = grind arith in
    let turn : IsTurned g s cols given.col c.in-Some-2.short = rw c.in-Some-2.is at c.in_ok-short.ensures.left in
    let slice : c.as_slice-2.result.now ≡ others_of given.col cols = grind arith in
    projects_after g s c.in-Some-2.short cols c.as_slice-2.result.now given.col c.requires.distinct c.requires.cols_in
    (given_among s.rows cols given is)
    (given_low _ s.rows cols given c.requires.cols_in is) slice turn (λ (systems : Vec System Global). systems.items)
    c.solved_without.result
    c.solved_without.ensures.projection

pub returns-clause-within : goal.returns-clause-within
returns-clause-within t c =
    let g = c.args.meter.now in
    let h = c.solved.new.meter in
    let charged : IsCharged g h = c.in_ok-short.ensures.meter in
    IfOk-weaker c.solved_without.result (λ systems. All (IsSystemWithin h) systems.items) (λ systems. All (IsSystemWithin g) systems.items)
    (λ systems all. within_before g h systems.items charged all) c.solved_without.ensures.within

pub returns-in_default-2-clause-projection : goal.returns-in_default-2-clause-projection
returns-in_default-2-clause-projection t c =
    let s = c.args.system in
    let cols = c.args.cols.now in
    let given = c.in-Some.given in
    let is : IsGivenBy s.rows cols given = grind arith in
    let none : IsProjection s given.col [] = rw c.in_default-2.is at c.in_ok-short.ensures.left in
    rw c.new.ensures.items (none_left s given.col cols c.requires.distinct (given_among s.rows cols given is)
    (given_low _ s.rows cols given c.requires.cols_in is) none)

pub returns-clause-kept : goal.returns-clause-kept
returns-clause-kept t c = λ col one none have.
    let among : IsGivenBy c.args.system.rows c.args.cols.now c.in-Some.given = grind arith in
    absurd (given_one c.args.system.rows col c.in-Some.given (rw one at among) none)

pub returns-in_default-2-clause-kept : goal.returns-in_default-2-clause-kept
returns-in_default-2-clause-kept t c = λ col one none have.
    let among : IsGivenBy c.args.system.rows c.args.cols.now c.in-Some.given = grind arith in
    absurd (given_one c.args.system.rows col c.in-Some.given (rw one at among) none)

pub returns-in_default-clause-kept : goal.returns-in_default-clause-kept
returns-in_default-clause-kept t c = λ col one none have. c.kept_without.ensures.kept col one have
