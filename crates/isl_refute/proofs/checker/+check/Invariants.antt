use Rattle.std.proofs.Common.{◌≡◌, ◌+◌, ◌-◌, ◌*◌, drop, map}
use Rattle.isl_refute.specs.Parts.{nodes_of, IsLeft}
use Rattle.isl_refute.specs.Passes.{nodes}
use Rattle.isl_refute.specs.Refutes.{rows_of}
use Rattle.isl_refute.proofs.checker.+check.Given as goal

abbrev pub invariant-with_each-loop-i : goal.invariant-with_each-loop-i
invariant-with_each-loop-i l =
    let outs = map rows_of l.outs in
    let facts = l.fn.facts in
    record {
      left : IsLeft l.fn.meter.bits outs facts.columns facts.rows l.fn.meter l.meter (drop l.i l.rows) l.rows (drop l.i l.parts) l.parts;
      facts : l.facts ≡ facts;
    }

abbrev pub decreases-with_row : goal.decreases-with_row
decreases-with_row l = 8 * nodes l.part.now + 1

abbrev pub decreases-with_some : goal.decreases-with_some
decreases-with_some l = 8 * nodes l.part.now + 2

abbrev pub decreases-with_column : goal.decreases-with_column
decreases-with_column l = 8 * nodes l.part.now + 2

abbrev pub decreases-sides : goal.decreases-sides
decreases-sides l = 8 * (nodes l.up.now + nodes l.down.now) + 2

abbrev pub decreases-with_each : goal.decreases-with_each
decreases-with_each l = 8 * nodes_of l.parts.now + 2

abbrev pub decreases-residues : goal.decreases-residues
decreases-residues l = 8 * nodes_of l.parts.now + 3

abbrev pub decreases-outside : goal.decreases-outside
decreases-outside l = 8 * nodes_of l.parts.now + 3

abbrev pub decreases-node : goal.decreases-node
decreases-node l = 8 * nodes l.cert.now - 1

abbrev pub decreases-refute : goal.decreases-refute
decreases-refute l = 8 * nodes l.cert.now
