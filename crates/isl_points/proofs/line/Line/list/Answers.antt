use Rattle.std.proofs.Common.{◌≡◌, ◌+◌, ◌<ℤ◌, ℤ, arith}
use Rattle.std.specs.List.{All}
use Rattle.isl_meter.specs.Gauge.{IsWithin}
use Rattle.isl_meter.proofs.CutLemmas.{IsCharged_trans, IsCharged-unit}
use Rattle.isl_points.specs.Exclusion.{IsTried, MeetsExclusion}
use Rattle.isl_points.specs.Line.{AreNumbersOf, IsIn, IsLeft, IsNext}
use Rattle.isl_points.proofs.LineLaws.{in_within, next_is_in, next_listed, tried_length, tried_within}
use Rattle.isl_points.proofs.line.Line.list.Goals as goal

pub loop-next-preserved : goal.loop-next-preserved
loop-next-preserved c =
    let g = c.args.meter.now in
    let line = c.args.self.now in
    let rows = c.args.rows.now in
    let before = c.loop-next.invariant in
    let x = c.in-Some.x in
    let E : ℤ → Type 0 = λ z. All (MeetsExclusion z) rows in
    let old = c.loop-next.found.items in
    let new = c.try_number.new.found.items in
    let x_in : IsIn line x = rw c.in-Some.is at before.next_in in
    let listed : AreNumbersOf (λ z. IsLeft line rows z × z <ℤ x) old = rw c.in-Some.is at before.numbers in
    let tried : IsTried (E x) x old new = c.in_ok-try_number.ensures.0 in
    let used : c.try_number.new.meter ≡ record c.loop-next.meter { units = c.loop-next.meter.units + 1 } = c.in_ok-try_number.ensures.1 in
    let next : IsNext (IsIn line) x c.after-next.result = c.after-next.ensures in
    let longer = tried_length (E x) x old new tried in
    record {
      numbers = next_listed (IsIn line) E x c.after-next.result old new x_in listed tried next;
      next_in = next_is_in (IsIn line) x c.after-next.result next;
      within = tried_within (IsWithin g) (E x) x old new tried before.within (in_within g line x c.requires.line x_in);
      counted = grind arith;
      charged = IsCharged_trans g c.loop-next.meter c.try_number.new.meter before.charged
          (IsCharged-unit c.loop-next.meter c.try_number.new.meter used);
    }
