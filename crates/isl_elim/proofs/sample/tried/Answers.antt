use Rattle.std.proofs.Common.{◌≡◌, ◌+◌, length, arith, to_z, of_z, set, to_z-of_z}
use Rattle.std.specs.Int.{w128}
use Rattle.isl_meter.specs.Gauge.{IsWithin}
use Rattle.isl_piece.specs.System.{HoldRows}
use Rattle.isl_elim.proofs.SampleLaws.{tried_first, tried_put, tried_next, tried_rows, tried_sample}
use Rattle.isl_elim.proofs.sample.tried.Goals as goal

pub loop-whole-init : goal.loop-whole-init
loop-whole-init c =
    let g = c.args.meter.now in
    let same : c.add.new.self ≡ g = grind arith in
    let within : IsWithin g c.in_ok-x.x = grind arith in
    let back : to_z w128 (of_z w128 c.in_ok-x.x) ≡ c.in_ok-x.x = grind (arith, to_z-of_z) in
    rw (same, back) (tried_first g c.args.point.items c.in_ok-x.x c.requires.within within)

pub hold_at-requires-clause-within : goal.hold_at-requires-clause-within
hold_at-requires-clause-within c =
    (tried_rows c.args.meter.now c.loop-whole.meter (length c.args.point.items) c.loop-whole.whole.items c.loop-whole.x c.args.rows.now (rw c.loop-whole.x-is at c.loop-whole.invariant) c.requires.rows).1

pub returns-then-branch : goal.returns-then-branch
returns-then-branch c =
    let g = c.args.meter.now in
    let h = c.loop-whole.meter in
    let n = length c.args.point.items in
    let whole = set c.loop-whole.whole.items c.args.col (to_z w128 c.loop-whole.x-bits) in
    let tried = tried_put g h n c.args.col c.loop-whole.whole.items (to_z w128 c.loop-whole.x-bits) c.loop-whole.invariant in
    let holds : HoldRows c.args.rows.now whole = grind arith in
    let same : c.hold_at.new.meter ≡ h = grind arith in
    record { exact = (tried_sample g h n whole (to_z w128 c.loop-whole.x-bits) c.args.rows.now tried holds, rw same tried.charged) }

pub loop-whole-preserved : goal.loop-whole-preserved
loop-whole-preserved c =
    let g = c.args.meter.now in
    let h = c.loop-whole.meter in
    let k = c.add-in-loop-whole.new.self in
    let n = length c.args.point.items in
    let whole = set c.loop-whole.whole.items c.args.col (to_z w128 c.loop-whole.x-bits) in
    let tried = tried_put g h n c.args.col c.loop-whole.whole.items (to_z w128 c.loop-whole.x-bits) c.loop-whole.invariant in
    let used : k ≡ record h { units = h.units + 1 } = grind arith in
    let within : IsWithin k c.in_ok-x-2.x = grind arith in
    let back : to_z w128 (of_z w128 c.in_ok-x-2.x) ≡ c.in_ok-x-2.x = grind (arith, to_z-of_z) in
    rw back (tried_next g h k n whole (to_z w128 c.loop-whole.x-bits) c.in_ok-x-2.x tried used within)
