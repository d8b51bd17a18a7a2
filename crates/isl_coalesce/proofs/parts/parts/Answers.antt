use Rattle.std.proofs.Common.{◌≡◌, ◌<◌, ◌++◌, arith, length, get_or}
use Rattle.std.proofs.lemmas.Grind.{common_steps}
use Rattle.isl_meter.proofs.CutLemmas.{IsCharged_trans}
use Rattle.isl_coalesce.specs.Found.{IsKnown, IsTrueThroughout}
use Rattle.isl_coalesce.proofs.KnownLaws.{known_later}
use Rattle.isl_coalesce.proofs.PartLaws.{parts_next}
use Rattle.isl_coalesce.proofs.parts.parts.Goals as goal

pub loop-row-preserved : goal.loop-row-preserved
loop-row-preserved c =
    let rows = c.args.rows.now in
    let i = c.loop-row.row-index in
    let r = c.row-item.result in
    let kept = c.loop-row.kept in
    let low : i < length rows = grind (arith, common_steps) in
    let at : r ≡ get_or rows i r = grind (arith, common_steps) in
    let is : c.append.new.self ≡ kept ++ c.in_ok-part.part = grind (arith, common_steps) in (
      parts_next (IsTrueThroughout (IsKnown c.args.known.now) c.args.system.now) rows i r kept low at c.in_ok-part.part
          c.append.new.self is c.in_ok-part.ensures.exact c.loop-row.invariant.0,
      IsCharged_trans c.args.meter.now c.loop-row.meter c.part.new.meter c.loop-row.invariant.1 c.in_ok-part.ensures.meter,
    )

pub part-requires-clause-known : goal.part-requires-clause-known
part-requires-clause-known c =
    known_later c.args.meter.now c.loop-row.meter c.args.system.now.columns c.args.known.now c.loop-row.invariant.1 c.requires.known
