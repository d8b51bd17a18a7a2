use Rattle.std.proofs.Common.{false, ◌∙◌, sym, ◌≡◌, ◌<◌, ◌≤◌, [], length, take, arith, subst}
use Rattle.std.specs.List.{All}
use Rattle.std.proofs.lemmas.Bool.{false≢true}
use Rattle.std.proofs.lemmas.Grind.{common_steps}
use Rattle.isl_meter.specs.Gauge.{IsCharged}
use Rattle.isl_meter.proofs.CutLemmas.{IsCharged_trans}
use Rattle.isl_piece.specs.declared.system.System.{System}
use Rattle.isl_piece.specs.System.{IsSystemWithin, free_columns}
use Rattle.isl_union.specs.Front.{front_width, IsBoundedBehind}
use Rattle.isl_union.proofs.BoundedLaws.{all_have, one_has, one_lacks, one_more, systems_later}
use Rattle.isl_union.proofs.bounded.are_bounded.Goals as goal

pub loop-system-preserved : goal.loop-system-preserved
loop-system-preserved c =
    let g = c.args.meter.now in
    let h = c.loop-system.meter in
    let k = c.is_plain_bounded.new.meter in
    let systems = c.args.systems.now in
    let i = c.loop-system.system-index in
    let s = c.system-item.result in
    let low : i < length systems = grind (arith, common_steps) in
    let holds : IsBoundedBehind c.args.front.now s = grind arith in
    let charged : IsCharged h k = grind arith in (
      one_more (IsBoundedBehind c.args.front.now) systems i s low c.system-item.is holds c.loop-system.invariant.0,
      IsCharged_trans g h k c.loop-system.invariant.1 charged,
    )

pub is_plain_bounded-requires : goal.is_plain_bounded-requires
is_plain_bounded-requires c =
    let g = c.args.meter.now in
    let h = c.loop-system.meter in
    let systems = c.args.systems.now in
    let i = c.loop-system.system-index in
    let s = c.system-item.result in
    let low : i < length systems = grind (arith, common_steps) in
    let at = c.system-item.is in
    record {
      within = one_has (IsSystemWithin h) systems i s low at (systems_later g h systems c.loop-system.invariant.1 c.requires.within);
      plain = one_has (λ (t : System). t.definitions ≡ []) systems i s low at c.requires.plain;
      columns = one_has (λ (t : System). front_width c.args.front.now ≤ free_columns t) systems i s low at c.requires.columns;
    }

pub returns-clause-exact : goal.returns-clause-exact
returns-clause-exact c =
    let systems = c.args.systems.now in
    let P : System → Type 0 = IsBoundedBehind c.args.front.now in
    let whole : take c.loop-system.system-index systems ≡ systems = grind (arith, common_steps) in
    all_have P systems (subst (All P) whole c.loop-system.invariant.0)

pub returns-then-not-branch-clause-exact : goal.returns-then-not-branch-clause-exact
returns-then-not-branch-clause-exact c =
    let systems = c.args.systems.now in
    let i = c.loop-system.system-index in
    let s = c.system-item.result in
    let low : i < length systems = grind (arith, common_steps) in
    let not_so : c.in_ok-is_plain_bounded.field-0 ≡ false = grind (arith, common_steps) in
    one_lacks (IsBoundedBehind c.args.front.now) systems i s low c.system-item.is
    (λ h. false≢true (sym not_so ∙ c.in_ok-is_plain_bounded.ensures.exact.1 h))
