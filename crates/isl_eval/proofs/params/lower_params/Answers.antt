use Rattle.std.proofs.Common.{◌↔◌}
use Rattle.isl_meter.proofs.CutLemmas.{IsCharged_trans}
use Rattle.isl_blocks.proofs.ResultLaws.{ok_case, ok_has}
use Rattle.isl_space.specs.Element.{Element}
use Rattle.isl_union.specs.KeptValue.{Has}
use Rattle.isl_assumed.specs.Assumed.{Assumes, IsSound}
use Rattle.isl_assumed.proofs.MeterLaws.{sound_before}
use Rattle.isl_eval.specs.Params.{HoldsSome}
use Rattle.isl_eval.proofs.ParamsLaws.{assumes, small_later}
use Rattle.isl_eval.proofs.params.lower_params.Goals as goal

pub flat-requires : goal.flat-requires
flat-requires c =
    small_later c.args.meter.now c.lower.new.meter c.in_ok-value.value.pieces c.in_ok-value.ensures.meter c.in_ok-value.ensures.within

pub of-requires : goal.of-requires
of-requires c =
    small_later c.lower.new.meter c.flat.new.meter c.in_ok-flat.flat.pieces c.in_ok-flat.ensures.meter c.in_ok-flat.ensures.numbers

pub returns-clause-valuations : goal.returns-clause-valuations
returns-clause-valuations c v =
    let tree = c.args.tree.now in
    let value = c.in_ok-value.value in
    let flat = c.in_ok-flat.flat in
    let r = c.of.result in
    ok_case r (λ assumed. Assumes assumed v ↔ HoldsSome tree v) (λ assumed is.
    assumes tree c.requires.shape value flat assumed v (c.in_ok-value.ensures.exact.elements v) (c.in_ok-flat.ensures.elements v)
    (ok_has r assumed (λ a. Assumes a v ↔ ((e : Element) × Has flat v e)) is (c.of.ensures.valuations v)))

pub returns-clause-sound : goal.returns-clause-sound
returns-clause-sound c =
    let g = c.args.meter.now in
    let h = c.flat.new.meter in
    let r = c.of.result in
    let charged = IsCharged_trans g c.lower.new.meter h c.in_ok-value.ensures.meter c.in_ok-flat.ensures.meter in
    ok_case r (IsSound g) (λ assumed is. sound_before g h assumed charged (ok_has r assumed (IsSound h) is c.of.ensures.sound))
