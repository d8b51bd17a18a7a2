use Rattle.std.proofs.Common.{◌≡◌, arith, option_to_list}
use Rattle.isl_piece.specs.Normal.{IsNormal, normal_system}
use Rattle.isl_elim.proofs.FlattenLaws.{normal_all, normal_points}
use Rattle.isl_quotient.proofs.PinnedLaws.{alone_projects, few_alone}
use Rattle.isl_quotient.proofs.alone.normal_alone.Goals as goal
use Rattle.isl_quotient.proofs.alone.normal_alone.Goals.{in-Some+in_ok-push, in_default}

pub returns-clause-exact : goal.returns-clause-exact
returns-clause-exact c =
    elim c.match-branch-2.branch [ in-Some+in_ok-push w ↦ grind arith | in_default w ↦ grind arith ]

pub returns-clause-projection : goal.returns-clause-projection
returns-clause-projection c =
    let systems = c.match-branch-2.systems.items in
    let made : systems ≡ option_to_list c.in_ok-normal.field-0 =
    elim c.match-branch-2.branch [ in-Some+in_ok-push w ↦ grind arith | in_default w ↦ grind arith ] in
    alone_projects c.args.system systems (returns-clause-exact c) (normal_points c.args.system c.in_ok-normal.field-0 systems made
    c.in_ok-normal.ensures.points)

pub returns-clause-normal : goal.returns-clause-normal
returns-clause-normal c =
    let systems = c.match-branch-2.systems.items in
    let made : systems ≡ option_to_list c.in_ok-normal.field-0 =
    elim c.match-branch-2.branch [ in-Some+in_ok-push w ↦ grind arith | in_default w ↦ grind arith ] in
    normal_all (λ s. IsNormal s.rows) c.in_ok-normal.field-0 systems made c.in_ok-normal.ensures.normal

pub returns-clause-few : goal.returns-clause-few
returns-clause-few c = rw (returns-clause-exact c) (few_alone (normal_system c.args.system))
