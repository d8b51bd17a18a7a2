use Rattle.std.proofs.Common.{◌≡◌, List, ℤ, arith}
use Rattle.isl_piece.specs.Definition.{with_defined}
use Rattle.isl_piece.specs.System.{HoldRows}
use Rattle.isl_redundant.specs.Redundant.{IsReduced}
use Rattle.isl_elim.specs.Elimination.{system_of}
use Rattle.isl_elim.proofs.FewerLaws.{reduced_system}
use Rattle.isl_span.proofs.FewLaws.{few_differences}
use Rattle.isl_span.proofs.few.with_few_rows.Goals as goal

pub returns-in_default-clause-exact : goal.returns-in_default-clause-exact
returns-in_default-clause-exact c = λ point holds.
    let s = c.args.system.now in
    let rows : c.in_ok-rows.rows ≡ s.rows = grind arith in
    let none : (point : List ℤ) → ¬ HoldRows c.in_ok-rows.rows point = rw c.in_default.is at c.in_ok-few.ensures in
    (rw rows at none) (with_defined s.definitions point) holds

pub returns-clause-exact : goal.returns-clause-exact
returns-clause-exact c =
    let s = c.args.system.now in
    let few = c.in-Some.few in
    let rows : c.in_ok-rows.rows ≡ s.rows = grind arith in
    let is : IsReduced s.columns c.in_ok-rows.rows few = rw c.in-Some.is at c.in_ok-few.ensures in
    let made : c.over.result ≡ system_of s.columns s.definitions few = grind arith in
    rw made (reduced_system c.args.meter.now s few c.requires (rw rows at is))

pub returns-clause-differences : goal.returns-clause-differences
returns-clause-differences c = λ columns bits d.
    let s = c.args.system.now in
    let few = c.in-Some.few in
    let rows : c.in_ok-rows.rows ≡ s.rows = grind arith in
    let is : IsReduced s.columns c.in_ok-rows.rows few = rw c.in-Some.is at c.in_ok-few.ensures in
    let made : c.over.result ≡ system_of s.columns s.definitions few = grind arith in
    rw made (few_differences columns bits s few d (rw rows at is))
