use Rattle.std.proofs.Common.{◌≡◌, ◌+ℤ◌, negsuc, arith}
use Rattle.isl_meter.specs.Gauge.{IsWithin}
use Rattle.isl_piece.specs.Row.{coef_at}
use Rattle.isl_omega.specs.Shadow.{neighbour_splinters}
use Rattle.isl_omega.specs.declared.shadow.Splinters.{Splinters}
use Rattle.isl_omega.proofs.CapLemmas.{least_splinters}
use Rattle.isl_omega.proofs.shadow.least_tail.Goals as goal

pub returns-clause-exact : goal.returns-clause-exact
returns-clause-exact c =
    let g = c.args.meter.now in
    let lower = c.args.lower.now in
    let tail : Splinters = record { lower = c.in_ok-copy.field-0; last = c.in_ok-last.last } in
    let same : tail.lower ≡ lower = grind arith in
    let none : c.in_ok-none.none ≡ negsuc 0 = grind arith in
    let value : tail.last ≡ c.in_ok-none.none +ℤ neighbour_splinters c.args.neighbours (coef_at lower c.args.column.at) = grind arith in
    let within : IsWithin g tail.last = grind arith in
    (least_splinters g c.args.column.columns c.args.column.at c.args.neighbours lower tail c.in_ok-none.none c.requires.lower same none value within, grind arith)
