use Rattle.std.proofs.Common.{◌≡◌, [], arith, Option}
use Rattle.std.specs.Prelude.{IfSome}
use Rattle.std.proofs.lemmas.Grind.{common_steps}
use Rattle.std.proofs.lemmas.Result.{IfOk-weaker}
use Rattle.isl_meter.specs.Gauge.{IsCharged}
use Rattle.isl_elim.specs.Others.{others_of}
use Rattle.isl_quotient.specs.Given.{IsGivenBy}
use Rattle.isl_quotient.specs.Told.{IsPlainLeft}
use Rattle.isl_quotient.specs.Turned.{IsTurned}
use Rattle.isl_quotient.proofs.MeterLaws.{within_after}
use Rattle.isl_quotient.proofs.SolvedLaws.{given_among, given_low}
use Rattle.isl_quotient.proofs.ToldLaws.{plain_after, plain_alone}
use Rattle.isl_quotient.proofs.TurnLaws.{are_left}
use Rattle.isl_quotient.proofs.told.+without_given.Goals as goal

pub without_given-requires : goal.without_given-requires
without_given-requires t c =
    let g = c.args.meter.now in
    let h = c.solved.new.meter in
    let s = c.args.system in
    let cols = c.args.cols.now in
    let given = c.in-Some.given in
    let is : IsGivenBy s.rows cols given = grind arith in
    let turn : IsTurned g s cols given.col c.in-Some-2.short = rw c.in-Some-2.is at c.in_ok-short.ensures.left in
    let plain = rw c.in-Some-2.is at (c.in_ok-short.ensures.plain c.requires.plain) in
    let slice : c.as_slice-2.result.now ≡ others_of given.col cols = grind arith in
    let charged : IsCharged g h = c.in_ok-short.ensures.meter in
    let left =
    are_left g s c.in-Some-2.short cols c.as_slice-2.result.now given.col c.requires.distinct c.requires.cols_in
    (given_among s.rows cols given is)
    (given_low _ s.rows cols given c.requires.cols_in is) slice turn in
    (omega (arith, left.shorter), (within_after g h c.in-Some-2.short charged turn.within, (left.distinct, (left.inside, plain))))

pub returns-then-is_empty-clause-left : goal.returns-then-is_empty-clause-left
returns-then-is_empty-clause-left t c =
    let g = c.args.meter.now in
    let none : c.args.cols.now ≡ [] = grind (arith, common_steps) in
    let e = c.in_ok-normalise.ensures in
    rw none (plain_alone g c.args.system c.in_ok-normalise.field-0 c.requires.plain e.exact e.points e.normal e.within)

pub returns-clause-left : goal.returns-clause-left
returns-clause-left t c =
    let g = c.args.meter.now in
    let h = c.solved.new.meter in
    let s = c.args.system in
    let cols = c.args.cols.now in
    let given = c.in-Some.given in
    let short = c.in-Some-2.short in
    let is : IsGivenBy s.rows cols given = grind arith in
    let turn : IsTurned g s cols given.col short = rw c.in-Some-2.is at c.in_ok-short.ensures.left in
    let slice : c.as_slice-2.result.now ≡ others_of given.col cols = grind arith in
    let charged : IsCharged g h = c.in_ok-short.ensures.meter in
    IfOk-weaker c.without_given.result (λ found. IfSome found (IsPlainLeft h short c.as_slice-2.result.now))
    (λ found. IfSome found (IsPlainLeft g s cols))
    (λ found rest. plain_after g h s short cols c.as_slice-2.result.now given.col charged c.requires.distinct
    (given_among s.rows cols given is)
    (given_low _ s.rows cols given c.requires.cols_in is) slice turn found rest) c.without_given.ensures.left
