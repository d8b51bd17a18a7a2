use Rattle.std.proofs.Common.{subst}
use Rattle.isl_union.specs.Fault.{IsChargedFrom}
use Rattle.isl_union.specs.KeptValue.{Has}
use Rattle.isl_union.proofs.PiecesLaws.{through}
use Rattle.isl_relation.specs.Maps.{ApplyHas}
use Rattle.isl_relation.specs.Together.{is_domain}
use Rattle.isl_relation.proofs.TogetherLaws.{same_pairs}
use Rattle.isl_images.specs.declared.pairing.Pairing.TheVariants.{Apply}
use Rattle.isl_images.specs.Made.{elements_of_all}
use Rattle.isl_images.proofs.MadeLaws.{value_has, value_kept, value_small}
use Rattle.isl_images.proofs.PairingLaws.{pair_same}
use Rattle.isl_images.proofs.joined.apply.Goals as goal

pub new-requires : goal.new-requires
new-requires c = λ k d l. (c.in_ok-pair.ensures.exact.others.sound k d l).kept.space

pub returns-clause-kept : goal.returns-clause-kept
returns-clause-kept c =
    let pair = c.in_ok-pair.pair in
    let own = c.as_slice-own.result.now in
    let others = c.in_ok-others.others in
    value_kept c.args.meter.now pair.params ⊥
    (λ v. ApplyHas (elements_of_all pair.params own v) (elements_of_all pair.params others v)) c.in_ok-made.made.items
    c.in_ok-made.ensures.made c.from_normal.result c.from_normal.ensures c.in_ok-pair.ensures.exact.well_formed

pub returns-clause-elements : goal.returns-clause-elements
returns-clause-elements c v e =
    let pair = c.in_ok-pair.pair in
    let exact = c.in_ok-pair.ensures.exact in
    let own = pair.own.items in
    let others = pair.others.items in
    let made = rw (c.as_slice-own.ensures.value, c.in_ok-others.ensures) at c.in_ok-made.ensures.made in
    through
    (value_has c.args.meter.now pair.params ⊥
    (λ w. ApplyHas (elements_of_all pair.params own w) (elements_of_all pair.params others w)) c.in_ok-made.made.items made
    c.from_normal.result c.from_normal.ensures v e)
    (pair_same Apply (elements_of_all pair.params own v) (Has c.args.a.now v) (elements_of_all pair.params others v) (Has c.args.b.now v)
    (exact.own.elements v) (exact.others.elements v) e)

pub returns-clause-numbers : goal.returns-clause-numbers
returns-clause-numbers c =
    let pair = c.in_ok-pair.pair in
    let own = c.as_slice-own.result.now in
    let others = c.in_ok-others.others in
    value_small c.args.meter.now pair.params ⊥
    (λ v. ApplyHas (elements_of_all pair.params own v) (elements_of_all pair.params others v)) c.in_ok-made.made.items
    c.in_ok-made.ensures.made c.from_normal.result c.from_normal.ensures

pub returns-clause-units : goal.returns-clause-units
returns-clause-units c =
    let g = c.args.meter.now in
    let h = c.all_pairs.new.meter in
    let pair = c.in_ok-pair.pair in
    let used = rw (c.as_slice-own.ensures.value, c.in_ok-others.ensures) at c.in_ok-made.ensures.units in (
      c.in_ok-pair.ensures.faults,
      subst (λ n. IsChargedFrom n g h)
          (same_pairs is_domain g c.args.a.now c.args.b.now pair.params pair.own.items pair.others.items c.in_ok-pair.ensures.exact) used,
    )
