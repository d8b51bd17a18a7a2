use Rattle.std.proofs.Common.{List, ℤ, true, ◌≡◌, ◌≤◌, arith, length, subst, sym}
use Rattle.std.proofs.lemmas.Grind.{common_steps}
use Rattle.isl_meter.proofs.CutLemmas.{IsCharged-unit}
use Rattle.isl_union.specs.Minus.{piece_in}
use Rattle.isl_assumed.specs.declared.assumed.Assumed.{Assumed}
use Rattle.isl_assumed.specs.Assumed.{Assumes}
use Rattle.isl_piece.specs.declared.system.System.{System}
use Rattle.isl_coalesce.specs.Found.{IsJointPiece, IsKnown, IsKnownOf}
use Rattle.isl_coalesce.proofs.KnownLaws.{known_of, names_later}
use Rattle.isl_coalesce.proofs.PieceLaws.{beyond_unjoined, joint_earlier, joint_is, plain_columns, plain_later, same_columns}
use Rattle.isl_coalesce.proofs.PieceLaws.{unjoined_pieces}
use Rattle.isl_coalesce.proofs.joint.joint_piece.Goals as goal

pub joint_system-requires-clause-known : goal.joint_system-requires-clause-known
joint_system-requires-clause-known c =
    let g = c.args.meter.now in
    let h = c.unit.new.self in
    let params = c.args.params.now in
    let p = c.args.first.now in
    let columns = plain_columns g params p c.requires.first in
    let few : length params ≤ p.system.columns = omega (arith, columns) in
    let known = names_later g h params c.args.known.now (IsCharged-unit g h c.in_ok-unit.ensures.1) c.requires.known in
    subst (λ (s : System). IsKnownOf h s.columns c.args.known.now) (sym c.system.ensures)
    (known_of h params c.args.known.now p.system.columns few known)

pub are_seen_apart-requires-clause-first : goal.are_seen_apart-requires-clause-first
are_seen_apart-requires-clause-first c =
    (plain_later c.args.meter.now c.unit.new.self c.args.params.now c.args.first.now (IsCharged-unit c.args.meter.now c.unit.new.self
    c.in_ok-unit.ensures.1) c.requires.first).plain

pub are_seen_apart-requires-clause-second : goal.are_seen_apart-requires-clause-second
are_seen_apart-requires-clause-second c =
    (plain_later c.args.meter.now c.unit.new.self c.args.params.now c.args.second.now (IsCharged-unit c.args.meter.now c.unit.new.self
    c.in_ok-unit.ensures.1) c.requires.second).plain

pub are_seen_apart-requires-clause-columns : goal.are_seen_apart-requires-clause-columns
are_seen_apart-requires-clause-columns c =
    let space : c.args.second.now.space ≡ c.args.first.now.space = grind (arith, common_steps) in
    same_columns c.args.meter.now c.args.params.now c.requires.names c.args.first.now c.args.second.now c.requires.first c.requires.second
    space c.args.known.now c.requires.known.over

pub returns-then-branch-clause-exact : goal.returns-then-branch-clause-exact
returns-then-branch-clause-exact c =
    let space : c.args.second.now.space ≡ c.args.first.now.space = grind (arith, common_steps) in
    let yes : c.in_ok-are_seen_apart.field-0 ≡ true = grind (arith, common_steps) in
    let seen = c.in_ok-are_seen_apart.ensures yes in
    beyond_unjoined c.args.meter.now c.args.params.now c.requires.names c.args.first.now c.args.second.now c.requires.first
    c.requires.second space c.args.known.now c.requires.known.over
    (subst (λ (k : Assumed). (point : List ℤ) → IsKnown k point) (sym seen.0) (λ point. tt)) seen.1

pub returns-in-None-clause-exact : goal.returns-in-None-clause-exact
returns-in-None-clause-exact c =
    let space : c.args.second.now.space ≡ c.args.first.now.space = grind (arith, common_steps) in
    let none = rw (c.in-None.is, c.system.ensures, c.system-2.ensures) at c.in_ok-joint_system.ensures.exact in
    unjoined_pieces c.args.meter.now c.args.params.now c.requires.names c.args.first.now c.args.second.now c.requires.first
    c.requires.second
    space c.args.known.now c.requires.known.over none

pub returns-in_ok-new-in-Some-clause-exact : goal.returns-in_ok-new-in-Some-clause-exact
returns-in_ok-new-in-Some-clause-exact c =
    let g = c.args.meter.now in
    let h = c.unit.new.self in
    let params = c.args.params.now in
    let p = c.args.first.now in
    let q = c.args.second.now in
    let space : q.space ≡ p.space = grind (arith, common_steps) in
    let charged = IsCharged-unit g h c.in_ok-unit.ensures.1 in
    let found = rw (c.in-Some.is, c.system.ensures, c.system-2.ensures) at c.in_ok-joint_system.ensures.exact in
    let made = joint_is h params c.requires.names p q (plain_later g h params p charged c.requires.first)
    (plain_later g h params q charged c.requires.second) space c.args.known.now c.requires.known.over c.in-Some.joint found in
    let is : piece_in p.space c.in-Some.joint ≡ c.in_ok-new-in-Some.field-0 = grind (arith, common_steps) in
    joint_earlier g h (Assumes c.args.known.now) params p q c.in_ok-new-in-Some.field-0 charged
    (subst (IsJointPiece h (Assumes c.args.known.now) params p q) is made)
