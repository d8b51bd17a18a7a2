use Rattle.std.proofs.Common.{◌≡◌, List, ℤ, arith}
use Rattle.isl_elim.proofs.TameSystems.{size_of_few}
use Rattle.isl_piece.specs.System.{HoldRows}
use Rattle.isl_redundant.specs.Redundant.{IsReduced}
use Rattle.isl_elim.specs.Elimination.{system_of}
use Rattle.isl_elim.proofs.FewerLaws.{nowhere_system, reduced_system}
use Rattle.isl_elim.proofs.projection.with_fewer_rows.Goals as goal

pub returns-in_default-clause-exact : goal.returns-in_default-clause-exact
returns-in_default-clause-exact c =
    let s = c.args.system.now in
    let rows : c.in_ok-rows.rows ≡ s.rows = grind arith in
    let none : (point : List ℤ) → ¬ HoldRows c.in_ok-rows.rows point = rw c.in_default.is at c.in_ok-few.ensures in
    nowhere_system s (rw rows at none)

pub returns-clause-exact : goal.returns-clause-exact
returns-clause-exact c =
    let s = c.args.system.now in
    let few = c.in-Some.few in
    let rows : c.in_ok-rows.rows ≡ s.rows = grind arith in
    let is : IsReduced s.columns c.in_ok-rows.rows few = rw c.in-Some.is at c.in_ok-few.ensures in
    let made : c.over.result ≡ system_of s.columns s.definitions few = grind arith in
    rw made (reduced_system c.args.meter.now s few c.requires.well_formed (rw rows at is))

pub returns-clause-size : goal.returns-clause-size
returns-clause-size c = λ size of.
    let s = c.args.system.now in
    let few = c.in-Some.few in
    let rows : c.in_ok-rows.rows ≡ s.rows = grind arith in
    let is : IsReduced s.columns c.in_ok-rows.rows few = rw c.in-Some.is at c.in_ok-few.ensures in
    let made : c.over.result ≡ system_of s.columns s.definitions few = grind arith in
    rw made (size_of_few size s few of (rw rows at is))
