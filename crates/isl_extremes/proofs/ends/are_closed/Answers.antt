use Rattle.std.proofs.Common.{◌≡◌, ◌<◌, ◌≤◌, subst, arith, false, length}
use Rattle.std.specs.Prelude.{IsTrue}
use Rattle.std.proofs.lemmas.Grind.{common_steps}
use Rattle.std.proofs.lemmas.List.Elements.{All-more}
use Rattle.isl_meter.proofs.CutLemmas.{IsCharged_trans}
use Rattle.isl_piece.specs.System.{free_columns}
use Rattle.isl_difference.proofs.DifferenceLaws.{system_at, system_within}
use Rattle.isl_extremes.specs.Systems.{IsClosedOn}
use Rattle.isl_extremes.proofs.AnswerLaws.{all_true, not_true, one_false}
use Rattle.isl_extremes.proofs.SystemsLaws.{IsPlain}
use Rattle.isl_extremes.proofs.ends.are_closed.Goals as goal

pub is_closed-requires : goal.is_closed-requires
is_closed-requires c =
    let systems = c.args.systems.now in
    let i = c.loop-system.system-index in
    let s = c.system-item.result in
    let low : i < length systems = omega arith in
    record {
      within = system_within c.args.meter.now c.loop-system.meter systems i s c.loop-system.invariant.charged c.requires.within low
          c.system-item.is;
      plain = system_at IsPlain systems i s c.requires.plain low c.system-item.is;
      some_column = system_at (λ t. 0 < free_columns t) systems i s c.requires.some_column low c.system-item.is;
    }

pub loop-system-preserved : goal.loop-system-preserved
loop-system-preserved c =
    let P = IsClosedOn c.args.direction in
    let systems = c.args.systems.now in
    let i = c.loop-system.system-index in
    let low : i < length systems = omega arith in
    let holds : IsTrue c.in_ok-is_closed.field-0 = grind (arith, common_steps) in
    record {
      closed = All-more P systems i c.system-item.result low c.loop-system.invariant.closed
          (subst P c.system-item.is (c.in_ok-is_closed.ensures.exact.0 holds));
      charged = IsCharged_trans c.args.meter.now c.loop-system.meter c.is_closed.new.meter c.loop-system.invariant.charged
          c.in_ok-is_closed.ensures.meter;
    }

pub returns-then-not-branch-clause-exact : goal.returns-then-not-branch-clause-exact
returns-then-not-branch-clause-exact c =
    let P = IsClosedOn c.args.direction in
    let systems = c.args.systems.now in
    let i = c.loop-system.system-index in
    let low : i < length systems = omega arith in
    let is : c.in_ok-is_closed.field-0 ≡ false = grind (arith, common_steps) in
    one_false P systems i c.system-item.result low c.system-item.is
    (λ closed. not_true c.in_ok-is_closed.field-0 is (c.in_ok-is_closed.ensures.exact.1 closed))

pub returns-clause-exact : goal.returns-clause-exact
returns-clause-exact c =
    let systems = c.args.systems.now in
    let i = c.loop-system.system-index in
    let end : length systems ≤ i = omega arith in
    all_true (IsClosedOn c.args.direction) systems i end c.loop-system.invariant.closed
