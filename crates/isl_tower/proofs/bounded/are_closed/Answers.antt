use Rattle.std.proofs.Common.{◌≡◌, ◌<◌, length, get_or, take, arith, subst, sym}
use Rattle.std.specs.List.{All}
use Rattle.std.proofs.lemmas.Grind.{common_steps}
use Rattle.std.proofs.lemmas.List.Elements.{All-more}
use Rattle.isl_meter.specs.Gauge.{IsCharged}
use Rattle.isl_meter.proofs.CutLemmas.{IsCharged_trans}
use Rattle.isl_piece.specs.declared.system.System.{System}
use Rattle.isl_piece.specs.System.{IsSystemWithin, free_columns}
use Rattle.isl_tower.specs.Closed.{IsClosed}
use Rattle.isl_tower.proofs.ClosedLaws.{all_closed, systems_within}
use Rattle.isl_tower.proofs.bounded.are_closed.Goals as goal

pub loop-system-preserved : goal.loop-system-preserved
loop-system-preserved c =
    let g = c.args.meter.now in
    let h = c.loop-system.meter in
    let k = c.is_closed.new.meter in
    let systems = c.args.systems.now in
    let i = c.loop-system.system-index in
    let s = c.system-item.result in
    let inside : i < length systems = grind (arith, common_steps) in
    let at : s ≡ get_or systems i s = c.system-item.is in
    let holds : IsClosed s = grind arith in
    let charged : IsCharged h k = grind arith in (
      All-more IsClosed systems i s inside c.loop-system.invariant.0 (subst IsClosed at holds),
      IsCharged_trans g h k c.loop-system.invariant.1 charged,
    )

pub is_closed-requires : goal.is_closed-requires
is_closed-requires c =
    let g = c.args.meter.now in
    let h = c.loop-system.meter in
    let systems = c.args.systems.now in
    let i = c.loop-system.system-index in
    let s = c.system-item.result in
    let inside : i < length systems = grind (arith, common_steps) in
    let at : get_or systems i s ≡ s = sym c.system-item.is in
    record {
      well_formed = subst (IsSystemWithin h) at (systems_within g h systems c.loop-system.invariant.1 c.requires.plain c.requires.within i s
          inside);
      plain = rw at at (c.requires.plain i s inside);
      some_column = subst (λ (t : System). 0 < free_columns t) at (c.requires.some_column i s inside);
    }

pub returns : goal.returns
returns c =
    let systems = c.args.systems.now in
    let whole : take c.loop-system.system-index systems ≡ systems = grind (arith, common_steps) in
    record { exact = (all_closed systems (subst (All IsClosed) whole c.loop-system.invariant.0), c.loop-system.invariant.1) }
