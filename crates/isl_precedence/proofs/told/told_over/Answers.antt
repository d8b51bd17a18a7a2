use Rattle.std.specs.List.{AllZip}
use Rattle.std.proofs.lemmas.Result.{IfOk-weaker}
use Rattle.isl_union.specs.Minus.{ArePiecesOver}
use Rattle.isl_precedence.specs.Told.{IsTold}
use Rattle.isl_precedence.proofs.ToldLaws.{over_told}
use Rattle.isl_precedence.proofs.told.told_over.Goals as goal

pub all_told-requires : goal.all_told-requires
all_told-requires c = record { within = rw c.as_slice.ensures.value c.in_ok-pieces.ensures.within }

pub returns : goal.returns
returns c =
    let g = c.args.meter.now in
    let pieces = c.in_ok-pieces.pieces.items in
    let told = rw c.as_slice.ensures.value at c.all_told.ensures in
    IfOk-weaker c.all_told.result (λ made. AllZip (IsTold g) pieces made.items)
    (λ made. ArePiecesOver g c.args.all.now c.args.value.now made.items)
    (λ made z. over_told g c.args.all.now c.args.value.now pieces made.items z c.in_ok-pieces.ensures) told
