use Rattle.std.proofs.Common.{inl}
use Rattle.std.specs.Prelude.{unsigned_abs}
use Rattle.isl_meter.specs.Gauge.{limit_of}
use Rattle.isl_kinds.specs.Parts.{parts_of}
use Rattle.isl_values.specs.Ends.{Ends}
use Rattle.isl_values.proofs.WholeLaws.{doubled_both}
use Rattle.isl_values.proofs.ValueLaws.{both_map, ok_of, unmade_memory, work}
use Rattle.isl_values.proofs.values.doubled.Goals as goal

pub returns-in-Ok : goal.returns-in-Ok
returns-in-Ok c =
    let state = c.args.state.now in
    let expr = c.args.expr.now in
    let g = c.args.meter.now in
    let h = c.value_of.new.meter in
    let one = c.in-Ok.ensures in record {
      made = both_map c.twice.result _ _ _ _
          (λ list are. (
            doubled_both state expr (unsigned_abs (limit_of g)) c.in-Ok.value.value list c.requires.whole one.made.0 are,
            one.made.1,
          ))
          (λ refusal memory. inl (unmade_memory (work state.assumed (parts_of expr)) (Ends state expr) g h refusal memory one.made.1))
          c.twice.ensures.made c.twice.ensures.faults;
      goes_on = ok_of c.twice.result _ (λ list. one.goes_on);
    }
