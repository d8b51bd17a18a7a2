use Rattle.std.proofs.Common.{List, ℕ, ap, arith, length, subst, sym}
use Rattle.isl_meter.specs.Gauge.{limit_of}
use Rattle.isl_script.specs.Script.{IsOpen}
use Rattle.isl_script.specs.Cutter.{IsAt}
use Rattle.isl_script.proofs.ScriptLaws.{open_nil}
use Rattle.isl_values.specs.State.{StateView, Fits, IsSettled}
use Rattle.isl_state.proofs.StateLaws.{fits_unbound}
use Rattle.isl_session.proofs.SoundLemmas.{settled_unbound}
use Rattle.isl_session.specs.declared.counts.Counts.{Counts}
use Rattle.isl_session.specs.Counts.{AreCounts}
use Rattle.isl_session.proofs.session.Session.new.Goals as goal

pub invariant_of-result : goal.invariant_of-result
invariant_of-result c =
    let none = c.new-2.ensures.items in
    record {
      open_rest = subst IsOpen (sym none) open_nil;
      place = subst (λ (l : List ℕ). IsAt c.new-3.result l) (sym none) c.new-3.ensures;
      held = omega (arith, ap length none);
      short = omega (arith, ap length none);
      within = omega arith;
      passed = omega (arith, ap (λ (n : Counts). n.statements) c.none.ensures);
      counts = subst AreCounts (sym c.none.ensures) (record { trues = omega arith; elements = omega arith });
      fits = subst (λ (s : StateView). Fits (limit_of c.new-4.result) s) (sym c.new.ensures) (fits_unbound (limit_of c.new-4.result));
      settled = subst IsSettled (sym c.new.ensures) settled_unbound;
    }
