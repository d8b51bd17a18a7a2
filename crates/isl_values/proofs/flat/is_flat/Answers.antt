use Rattle.std.proofs.Common.{◌≡◌, ◌<◌, All, length, take, arith, subst}
use Rattle.std.proofs.lemmas.Grind.{common_steps}
use Rattle.isl_union.proofs.BoundedLaws.{all_have, one_lacks, one_more}
use Rattle.isl_values.proofs.FlatLaws.{DefinesNone, plain_told}
use Rattle.isl_values.proofs.flat.is_flat.Goals as goal

pub returns-then-not-is_empty-clause-told : goal.returns-then-not-is_empty-clause-told
returns-then-not-is_empty-clause-told c =
    let pieces = c.pieces-piece-items.result.now in
    let i = c.loop-piece.piece-index in
    let piece = c.piece-item.result in
    let low : i < length pieces = grind (arith, common_steps) in
    let some : ¬ DefinesNone piece = grind (arith, common_steps) in
    plain_told c.args.value.now pieces c.pieces-piece-items.ensures.content _
    (one_lacks DefinesNone pieces i piece low c.piece-item.is some)

pub loop-piece-preserved : goal.loop-piece-preserved
loop-piece-preserved c =
    let pieces = c.pieces-piece-items.result.now in
    let i = c.loop-piece.piece-index in
    let piece = c.piece-item.result in
    let low : i < length pieces = grind (arith, common_steps) in
    let none : DefinesNone piece = grind (arith, common_steps) in
    one_more DefinesNone pieces i piece low c.piece-item.is none c.loop-piece.invariant

pub returns-clause-told : goal.returns-clause-told
returns-clause-told c =
    let pieces = c.pieces-piece-items.result.now in
    let whole : take c.loop-piece.piece-index pieces ≡ pieces = grind (arith, common_steps) in
    plain_told c.args.value.now pieces c.pieces-piece-items.ensures.content _
    (all_have DefinesNone pieces (subst (All DefinesNone) whole c.loop-piece.invariant))
