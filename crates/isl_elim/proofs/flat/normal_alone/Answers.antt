use Rattle.std.proofs.Common.{◌≡◌, arith, option_to_list}
use Rattle.isl_piece.specs.Normal.{IsNormal}
use Rattle.isl_elim.proofs.FlattenLaws.{normal_all, normal_points}
use Rattle.isl_elim.proofs.flat.normal_alone.Goals as goal
use Rattle.isl_elim.proofs.flat.normal_alone.Goals.{in-Some+in_ok-push, in_default}

pub returns-clause-points : goal.returns-clause-points
returns-clause-points c =
    let systems = c.match-branch-3.systems.items in
    let made : systems ≡ option_to_list c.in_ok-normal.field-0 =
    elim c.match-branch-3.branch [ in-Some+in_ok-push w ↦ grind arith | in_default w ↦ grind arith ] in
    normal_points c.args.system.now c.in_ok-normal.field-0 systems made
    (λ point. rw c.in_ok-copy.ensures at (c.in_ok-normal.ensures.points point))

pub returns-clause-normal : goal.returns-clause-normal
returns-clause-normal c =
    let systems = c.match-branch-3.systems.items in
    let made : systems ≡ option_to_list c.in_ok-normal.field-0 =
    elim c.match-branch-3.branch [ in-Some+in_ok-push w ↦ grind arith | in_default w ↦ grind arith ] in
    normal_all (λ s. IsNormal s.rows) c.in_ok-normal.field-0 systems made c.in_ok-normal.ensures.normal
