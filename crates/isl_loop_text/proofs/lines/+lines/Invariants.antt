use Rattle.std.proofs.Common.{◌≡◌, ◌++◌, ◌+◌, drop}
use Rattle.std.specs.Prelude.{string_bytes}
use Rattle.isl_loop_text.specs.Rest.{depth_of, lines_of}
use Rattle.isl_loop_text.specs.Size.{loop_size, parts_size}
use Rattle.isl_loop_text.proofs.lines.+lines.Given as goal

abbrev pub invariant-write_parts-loop-part : goal.invariant-write_parts-loop-part
invariant-write_parts-loop-part l =
    let depth = depth_of l.params l.initial.names.items in
    (string_bytes l.out ++ lines_of l.params depth l.margin (drop l.part-index l.parts)
    ≡ string_bytes l.initial.out ++ lines_of l.params depth l.margin l.parts) × (l.names.items ≡ l.initial.names.items)

abbrev pub decreases-write_loop : goal.decreases-write_loop
decreases-write_loop l = loop_size l.tree.now

abbrev pub decreases-write_body : goal.decreases-write_body
decreases-write_body l = 1 + loop_size l.body.now

abbrev pub decreases-write_parts : goal.decreases-write_parts
decreases-write_parts l = parts_size l.parts.now
