use Rattle.std.proofs.Common.{◌≡◌, ◌++◌, take}
use Rattle.std.specs.List.{flat_map}
use Rattle.std.specs.Prelude.{string_bytes}
use Rattle.isl_claim.specs.Claim.{part_text}
use Rattle.isl_claim.specs.Sides.{part_of}
use Rattle.isl_claim.proofs.claim.write_parts.Given as goal

abbrev pub invariant-loop-part : goal.invariant-loop-part
invariant-loop-part l =
    string_bytes l.out
    ≡ string_bytes l.initial.out ++ flat_map (λ part. part_text l.params (part_of part.piece part.cert)) (take l.part-index l.parts)
