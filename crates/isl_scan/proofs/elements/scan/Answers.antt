use Rattle.std.proofs.Common.{◌≡◌, ◌∙◌, length, arith, ap}
use Rattle.std.proofs.lemmas.Grind.{common_steps}
use Rattle.std.specs.List.{zip}
use Rattle.isl_space.specs.Valuation.{Valuation, values_of}
use Rattle.isl_space.proofs.ValuationLaws.{values_of-zip}
use Rattle.isl_union.proofs.BoundedLaws.{finite_value_at}
use Rattle.isl_scan.specs.Gathered.{AreFibresOf}
use Rattle.isl_scan.proofs.GatheredLaws.{finite_same, fibres_later, listable, listed, within_later}
use Rattle.isl_scan.proofs.elements.scan.Goals as goal

pub fibres_over-requires : goal.fibres_over-requires
fibres_over-requires c =
    let flat = c.in_ok-flat.flat in
    let at = c.args.at.now in
    let h = c.flat.new.meter in
    let v : Valuation = zip flat.params at in
    let long : length flat.params ≡ length at = grind (arith, common_steps) in
    let own : values_of flat.params v ≡ at = values_of-zip flat.params at c.pieces-pieces.ensures.kept.params.distinct long in
    listable h flat c.pieces-pieces.result.now c.pieces-pieces.ensures.well_formed c.pieces-pieces.ensures.content at v own
    (within_later c.args.meter.now h flat c.in_ok-flat.ensures.meter c.in_ok-flat.ensures.numbers) c.in_ok-flat.ensures.definitions

pub returns-in-None-clause-unbounded : goal.returns-in-None-clause-unbounded
returns-in-None-clause-unbounded c = λ v named _ finite.
    let flat = c.in_ok-flat.flat in
    let at = c.args.at.now in
    let h = c.flat.new.meter in
    let own : values_of flat.params v ≡ at = ap (λ ps. values_of ps v) c.in_ok-flat.ensures.params ∙ named in
    let pieces = c.pieces-pieces in
    let exact = c.in_ok-fibres.ensures.exact in
    (rw c.in-None.is at exact)
    ((finite_value_at h flat pieces.result.now pieces.ensures.well_formed pieces.ensures.content v at own).1
    (finite_same flat c.args.value.now v (c.in_ok-flat.ensures.elements v) finite))

pub groups_of-requires : goal.groups_of-requires
groups_of-requires c =
    let at = c.args.at.now in
    let h = c.flat.new.meter in
    let k = c.fibres_over.new.meter in
    let pieces = c.pieces-pieces.result.now in
    let exact = c.in_ok-fibres.ensures.exact in
    let are : AreFibresOf h at pieces c.in-Some.fibres.items = rw c.in-Some.is at exact in
    (at, rw c.as_slice.ensures.value (fibres_later h k at pieces c.in-Some.fibres.items c.in_ok-fibres.ensures.meter are))

pub returns-clause-listed : goal.returns-clause-listed
returns-clause-listed c = λ v named.
    let flat = c.in_ok-flat.flat in
    let at = c.args.at.now in
    let h = c.flat.new.meter in
    let k = c.fibres_over.new.meter in
    let pieces = c.pieces-pieces.result.now in
    let exact = c.in_ok-fibres.ensures.exact in
    let are : AreFibresOf h at pieces c.in-Some.fibres.items = rw c.in-Some.is at exact in
    let later : AreFibresOf k at pieces c.as_slice.result.now =
    rw c.as_slice.ensures.value (fibres_later h k at pieces c.in-Some.fibres.items c.in_ok-fibres.ensures.meter are) in
    let own : values_of flat.params v ≡ at = ap (λ ps. values_of ps v) c.in_ok-flat.ensures.params ∙ named in
    listed c.args.value.now flat pieces c.pieces-pieces.ensures.well_formed c.pieces-pieces.ensures.content c.in_ok-groups.groups.items at v
    own (c.in_ok-flat.ensures.elements v) (c.in_ok-groups.ensures.exact at later)
