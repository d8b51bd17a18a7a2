use Rattle.std.proofs.Common.{◌<◌, ◌≤◌, arith, length, string_bytes, sym}
use Rattle.std.proofs.lemmas.List.{append-nil}
use Rattle.isl_claim.specs.Claim.{part_text}
use Rattle.isl_claim.specs.Sides.{part_of}
use Rattle.isl_claim.proofs.TextLaws.{parts_all, parts_more}
use Rattle.isl_claim.proofs.claim.write_parts.Goals as goal

pub loop-part-init : goal.loop-part-init
loop-part-init c = sym (append-nil (string_bytes c.args.out.now))

pub loop-part-preserved : goal.loop-part-preserved
loop-part-preserved c =
    let parts = c.args.parts.now in
    let low : c.loop-part.part-index < length parts = omega arith in
    parts_more (λ part. part_text c.args.params.now (part_of part.piece part.cert)) parts c.part-item.result c.loop-part.part-index
    (string_bytes c.args.out.now) (string_bytes c.loop-part.out) (string_bytes c.write_part.new.out) low c.part-item.is
    c.loop-part.invariant c.in_ok-write_part.ensures

pub returns : goal.returns
returns c =
    let parts = c.args.parts.now in
    let over : length parts ≤ c.loop-part.part-index = omega arith in
    parts_all (λ part. part_text c.args.params.now (part_of part.piece part.cert)) parts c.loop-part.part-index
    (string_bytes c.args.out.now) (string_bytes c.loop-part.out) over c.loop-part.invariant
